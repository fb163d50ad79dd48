-- The way of an update that holds one node at a time, and what a removal asks of that one.
use Rattle.std.specs.Prelude.{◌≡◌, ◌<◌, [], ◌∷◌, ℕ, Bool, length, zero, suc}
use Rattle.tree_shape.specs.NodeData.{Body, Pairs, Entries, Link, NodeData, IsInFences}
use Rattle.tree_shape.specs.declared.limits.TheConstants.{FEWEST_PAIRS, FEWEST_ENTRIES}
use Rattle.word_rule.specs.declared.log.Holding.{Holding}
use Rattle.word_rule.specs.declared.log.Holdings.{Holdings}
use Rattle.word_rule.specs.declared.log.Terms.{Terms}
use Rattle.word_rule.specs.Spelling.{SpellsNode}
use Rattle.tree_descent.specs.declared.descent.Held.{Held}
use Rattle.tree_descent.specs.Paths.{IsHeldAs}

-- A caller on its way down holds a live node that has settled, and no other; no node is out.
pub record HoldsAlone (t : Terms) (at : Held) (holdings : Holdings) : Type 0 where
  pub within : at.node < t.nodes
  pub lock : Holding
  pub held : holdings.held ≡ lock ∷ []
  pub here : IsHeldAs t at lock
  pub out : holdings.out ≡ []

-- The lock of a node is the only one that is held. It has settled, and a word was stored under it
-- or none was.
pub record HoldsLock (n : ℕ) (changed : Bool) (holdings : Holdings) : Type 0 where
  pub lock : Holding
  pub held : holdings.held ≡ lock ∷ []
  pub node : lock.node ≡ n
  pub spells : SpellsNode lock.words lock.settled
  pub stored : lock.stored ≡ changed

-- a node has more than the fewest pairs or entries, so that one may go
abbrev pub IsSpareAs : Body → Type 0
IsSpareAs (Pairs pairs) = FEWEST_PAIRS < length pairs
IsSpareAs (Entries entries) = FEWEST_ENTRIES < length entries
IsSpareAs (Link next) = Unit {0}

-- so it is on a removal's way down, unless it is the root
abbrev pub IsSpare : ℕ → NodeData → Type 0
IsSpare zero s = Unit {0}
IsSpare (suc n) s = IsSpareAs s.body

-- A node is held alone on a removal's way to an address, which lies in its fences, and one of its
-- pairs or entries may go.
abbrev pub HoldsOnWay : Terms → ℕ → Held → Holdings → Type 0
HoldsOnWay t pc at holdings =
    HoldsAlone t at holdings × IsInFences pc at.content × IsSpare at.node at.content
