-- Two neighbouring children that a removal holds under their parent, and what it makes of them.
use Rattle.std.specs.Prelude.{◌≡◌, ◌≢◌, ℕ, ◌<◌, Bool, [], ◌∷◌, true, false, List, ◌+◌, Some, ◌≤◌}
use Rattle.std.specs.Prelude.{length, nat_lt, IsSome, None, IsTrue}
use Rattle.std.specs.List.{slice_get, AllByRecursion}
use Rattle.tree_shape.specs.Changes.{pair, joined, at_slot, swallow_next}
use Rattle.tree_shape.specs.NodeData.{AreNeighbours, pairs_of, Body, Pairs, Entries, Link, NodeData}
use Rattle.tree_laws.specs.Lawful.{fewest_pairs}
use Rattle.tree_laws.specs.Numbers.{is_among}
use Rattle.word_rule.specs.Spelling.{SpellsNode}
use Rattle.word_rule.specs.declared.log.Holding.{Holding}
use Rattle.word_rule.specs.declared.log.Holdings.{Holdings}
use Rattle.word_rule.specs.declared.log.Terms.{Terms}
use Rattle.word_rule.specs.CallerData.{CallerData}
use Rattle.word_rule.specs.Held.{all_but, held_of}
use Rattle.version_locks.specs.Locking.{FoundBusy}
use Rattle.version_locks.specs.declared.locking.Busy.{Busy}
use Rattle.tree_descent.specs.declared.descent.Held.{Held}
use Rattle.tree_descent.specs.Paths.{IsHeldAs}
use Rattle.tree_descent.specs.Releases.{Spends}
use Rattle.tree_descent.specs.Removing.{IsSpare, HoldsAlone, HoldsLock}
use Rattle.tree_descent.specs.Returns.{IsGoneOrSettled}
use Rattle.node_mend.specs.declared.sibling.Siblings.{Siblings}
use Rattle.version_locks.specs.declared.locking.Busy.TheVariants as busy

-- A node is held under another, which has settled, and nothing else; no node is out.
pub record HoldsUnder (t : Terms) (n : ℕ) (changed : Bool) (at : Held) (holdings : Holdings)
    : Type 0 where
  pub within : at.node < t.nodes
  pub no_parent : at.node ≢ n
  pub lower : Holding
  pub upper : Holding
  pub held : holdings.held ≡ lower ∷ upper ∷ []
  pub here : IsHeldAs t at lower
  pub node : upper.node ≡ n
  pub spells : SpellsNode upper.words upper.settled
  pub stored : upper.stored ≡ changed
  pub out : holdings.out ≡ []

-- two locks before others, the left one first or the right one
abbrev pub both_of : Bool → Holding → Holding → List Holding → List Holding
both_of true left right more = left ∷ right ∷ more
both_of false left right more = right ∷ left ∷ more

-- Two neighbouring children are held under their parent, as the pairs at the slot and after it name
-- them. One of the two has the address.
pub record HoldsSiblings (t : Terms) (x : Siblings) (holdings : Holdings) : Type 0 where
  pub parent_within : x.above.node < t.nodes
  pub left_within : x.left.node < t.nodes
  pub right_within : x.right.node < t.nodes
  pub left_first : Bool
  pub low : Holding
  pub high : Holding
  pub upper : Holding
  pub held : holdings.held ≡ both_of left_first low high (upper ∷ [])
  pub left : IsHeldAs t x.left low
  pub right : IsHeldAs t x.right high
  pub parent : IsHeldAs t x.above upper
  pub out : holdings.out ≡ []
  pub at : slice_get (pairs_of x.above.content) x.slot
      ≡ Some (pair x.left.node x.left.content.high)
  pub next : slice_get (pairs_of x.above.content) (x.slot + 1)
      ≡ Some (pair x.right.node x.right.content.high)
  pub neighbours : AreNeighbours x.left.content x.right.content
  pub level : x.left.content.level + 1 ≡ x.above.content.level

-- an address lies between the ends of both
abbrev pub IsInEither : ℕ → Siblings → Type 0
IsInEither pc x = (x.left.content.low ≤ pc) × (pc ≤ x.right.content.high)

-- both inner nodes, or both leaves
abbrev pub SameKind : Body → Body → Type 0
SameKind (Pairs left) (Pairs right) = Unit {0}
SameKind (Entries left) (Entries right) = Unit {0}
SameKind _ _ = ⊥

-- whether a node may lose nothing: it has the fewest pairs or entries
abbrev pub is_small_body : Body → Bool
is_small_body (Pairs pairs) = nat_lt (length pairs) 7
is_small_body (Entries entries) = nat_lt (length entries) 5
is_small_body (Link next) = false

-- Two children were joined, or given even shares: one of them is held under its parent, and both
-- have settled.
pub record MendsSiblings (t : Terms) (x : Siblings) (at : Held) (k k' : CallerData) : Type 0 where
  pub holds : HoldsUnder t x.above.node true at k'.log.holdings
  pub level : at.content.level + 1 ≡ x.above.content.level
  pub spare : IsSpare at.node at.content
  pub spends : Spends 1 k k'

-- The root took the place of its only two children, which aren't held any more.
pub record SinksRoot (t : Terms) (x : Siblings) (at : Held) (k k' : CallerData) : Type 0 where
  pub node : at.node ≡ 0
  pub holds : HoldsAlone t at k'.log.holdings
  pub level : at.content.level + 1 ≡ x.above.content.level
  pub spends : Spends 2 k k'

-- Two children were written as one, and the right one is out; it is still held.
pub record HoldsGone (t : Terms) (x : Siblings) (holdings : Holdings) : Type 0 where
  pub left_first : Bool
  pub low : Holding
  pub high : Holding
  pub upper : Holding
  pub held : holdings.held ≡ both_of left_first low high (upper ∷ [])
  pub out : holdings.out ≡ x.right.node ∷ []
  pub left : low.node ≡ x.left.node
  pub content : low.settled ≡ joined x.left.content x.right.content
  pub spells : SpellsNode low.words low.settled
  pub stored : low.stored ≡ true
  pub marked : IsSome low.mark
  pub right : high.node ≡ x.right.node
  pub gone : high.mark ≡ None
  pub parent : upper.node ≡ x.above.node
  pub parent_spells : SpellsNode upper.words upper.settled
  pub parent_stored : upper.stored ≡ true
  pub no_parent : (x.left.node ≢ x.above.node) × (x.right.node ≢ x.above.node)
  pub different : x.left.node ≢ x.right.node
  pub spare : IsSpare x.left.node (joined x.left.content x.right.content)

-- the node above two children has a pair to spare, as the root or below it
abbrev pub HasPairToSpare : Siblings → Type 0
HasPairToSpare x = fewest_pairs x.above.node < length (pairs_of x.above.content)

-- the node above two joined children
abbrev pub joined_above : Siblings → NodeData
joined_above x = record x.above.content {
  body = Pairs (at_slot swallow_next x.slot (pairs_of x.above.content));
}

-- the root in place of its only two children
abbrev pub sunk_root : Siblings → NodeData
sunk_root x =
    let both = joined x.left.content x.right.content in
    record both { low = x.above.content.low; high = x.above.content.high }

-- The root was written as its only two children, and both are out; they are still held.
pub record HoldsSunk (x : Siblings) (holdings : Holdings) : Type 0 where
  pub left_first : Bool
  pub low : Holding
  pub high : Holding
  pub upper : Holding
  pub held : holdings.held ≡ both_of left_first low high (upper ∷ [])
  pub left : low.node ≡ x.left.node
  pub left_gone : low.mark ≡ None
  pub right : high.node ≡ x.right.node
  pub right_gone : high.mark ≡ None
  pub right_spells : SpellsNode high.words high.settled
  pub root : upper.node ≡ 0
  pub content : upper.settled ≡ sunk_root x
  pub spells : SpellsNode upper.words upper.settled
  pub stored : upper.stored ≡ true
  pub marked : IsSome upper.mark
  pub no_root : (x.left.node ≢ 0) × (x.right.node ≢ 0)
  pub different : x.left.node ≢ x.right.node
  pub left_out : IsTrue (is_among holdings.out x.left.node)
  pub right_out : IsTrue (is_among (all_but x.left.node holdings.out) x.right.node)
  pub no_other : all_but x.right.node (all_but x.left.node holdings.out) ≡ []
  pub two_out : length holdings.out ≡ 2

-- A node that left the tree may be given back: it is held, and all else that is held has settled.
pub record MayGiveBack (n : ℕ) (holdings : Holdings) : Type 0 where
  pub held : IsSome (held_of n holdings.held)
  pub out : IsTrue (is_among holdings.out n)
  pub settled : AllByRecursion (IsGoneOrSettled n) holdings.held

-- A node that left the tree was lost. The parent is held still, changed; the two children are not.
pub record LeavesParent (x : Siblings) (why : Busy) (k k' : CallerData) : Type 0 where
  pub lost : why ≡ busy.Lost
  pub cause : FoundBusy why k k'
  pub spends : Spends 2 k k'
  pub above : HoldsLock x.above.node true k'.log.holdings
  pub out : length k'.log.holdings.out ≤ 2
