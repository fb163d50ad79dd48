-- Even shares of two neighbouring children.
use Rattle.std.specs.Prelude.{◌≡◌, ℕ, ◌<◌, ◌≤◌, ◌⊎◌}
use Rattle.tree_shape.specs.Changes.{at_slot, first_half, joined, last_half, separate_at, share_of}
use Rattle.tree_shape.specs.NodeData.{Pairs, pairs_of}
use Rattle.node_mend.specs.declared.mending.Shares.{Shares}
use Rattle.node_mend.specs.declared.sibling.Siblings.{Siblings}
use Rattle.node_mend.specs.declared.mending.Chosen.{Chosen}

-- what two children hold once they have even shares, and their parent
abbrev pub shares_for : Siblings → Shares
shares_for x =
    let a = x.left.content in let b = x.right.content in let s = x.above.content in record {
      left = first_half (share_of a b) (joined a b);
      right = last_half (share_of a b) (joined a b);
      above = record s {
        body = Pairs (at_slot (separate_at (first_half (share_of a b) (joined a b)).high) x.slot
            (pairs_of s));
      };
    }

-- the one that has an address, and the other
abbrev pub IsChosen : Siblings → ℕ → Chosen → Type 0
IsChosen x pc c =
    ((c.node ≡ x.left.node) × (c.other ≡ x.right.node) × (pc ≤ (shares_for x).left.high))
    ⊎ ((c.node ≡ x.right.node) × (c.other ≡ x.left.node) × ((shares_for x).left.high < pc))
