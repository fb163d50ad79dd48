-- What a caller holds on its way down: the root, a node below others, or a child under its parent.
use Rattle.std.specs.Prelude.{◌≡◌, ◌<◌, List, [], ◌∷◌, ◌-◌, ◌^◌, false, ℕ, ◌≢◌, ◌+◌, Some, length}
use Rattle.std.specs.List.{slice_get}
use Rattle.tree_shape.specs.NodeData.{IsInFences, pairs_of, Body, Pairs, Entries, Link}
use Rattle.tree_shape.specs.Changes.{pair}
use Rattle.tree_shape.specs.declared.limits.TheConstants.{PAIRS, ENTRIES}
use Rattle.word_rule.specs.declared.log.Holding.{Holding}
use Rattle.word_rule.specs.declared.log.Holdings.{Holdings}
use Rattle.word_rule.specs.declared.log.Terms.{Terms}
use Rattle.tree_descent.specs.declared.descent.Held.{Held}
use Rattle.tree_descent.specs.Paths.{AreHigher, AreApart, IsHeldAs, HasChildFor}
use Rattle.tree_descent.specs.declared.descent.Child.{Child}

-- A caller holds a node, and above it live nodes that have settled, each of a higher level than the
-- one below it. No node is out.
pub record StandsAt (t : Terms) (at : Held) (holdings : Holdings) : Type 0 where
  pub within : at.node < t.nodes
  pub lock : Holding
  pub above : List Holding
  pub held : holdings.held ≡ lock ∷ above
  pub here : IsHeldAs t at lock
  pub higher : AreHigher t at.content.level above
  pub apart : AreApart (lock ∷ above)
  pub out : holdings.out ≡ []

-- A caller holds the root alone, in which nothing was stored.
pub record HoldsRoot (t : Terms) (at : Held) (holdings : Holdings) : Type 0 where
  pub within : 0 < t.nodes
  pub lock : Holding
  pub held : holdings.held ≡ lock ∷ []
  pub root : at.node ≡ 0
  pub unchanged : at.changed ≡ false
  pub here : IsHeldAs t at lock
  pub low : at.content.low ≡ 0
  pub high : at.content.high ≡ 2 ^ 64 - 1
  pub out : holdings.out ≡ []

-- a node is held under its parent, to which an address leads
pub record HoldsPair (t : Terms) (pc : ℕ) (parent child : Held) (above : List Holding)
    (holdings : Holdings) : Type 0 where
  pub parent_within : parent.node < t.nodes
  pub child_within : child.node < t.nodes
  pub lower : Holding
  pub upper : Holding
  pub held : holdings.held ≡ lower ∷ upper ∷ above
  pub child_is : IsHeldAs t child lower
  pub parent_is : IsHeldAs t parent upper
  pub leads : HasChildFor parent.content pc child.node
  pub here : IsInFences pc child.content
  pub inner : 0 < parent.content.level
  pub higher : AreHigher t parent.content.level above
  pub out : holdings.out ≡ []

-- A child is held under its parent, as the pair at the slot names it. It has the address.
pub record HoldsChild (t : Terms) (child : Child) (pc : ℕ) (holdings : Holdings) : Type 0 where
  pub parent_within : child.above.node < t.nodes
  pub within : child.at.node < t.nodes
  pub no_parent : child.at.node ≢ child.above.node
  pub lower : Holding
  pub upper : Holding
  pub held : holdings.held ≡ lower ∷ upper ∷ []
  pub here : IsHeldAs t child.at lower
  pub clean : child.at.changed ≡ false
  pub parent : IsHeldAs t child.above upper
  pub out : holdings.out ≡ []
  pub at : slice_get (pairs_of child.above.content) child.slot
      ≡ Some (pair child.at.node child.at.content.high)
  pub level : child.at.content.level + 1 ≡ child.above.content.level
  pub fences : IsInFences pc child.at.content

-- a node that isn't full
abbrev pub HasSpace : Body → Type 0
HasSpace (Pairs pairs) = length pairs < PAIRS
HasSpace (Entries entries) = length entries < ENTRIES
HasSpace (Link next) = ⊥
