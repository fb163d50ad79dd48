-- What is known of a held node without its items, and what loads of its words leave as it was.
use Rattle.std.specs.Prelude.{◌≡◌, ℕ, List, length}
use Rattle.tree_shape.specs.NodeData.{NodeData, Body, Pairs, Entries, Link}
use Rattle.word_rule.specs.CallerData.{CallerData}
use Rattle.word_rule.specs.declared.log.LoadEvent.{LoadEvent}
use Rattle.version_locks.specs.Locking.{loaded}

-- so many pairs or entries stand in a node; of a free one any number will do
abbrev pub IsCountOf : ℕ → Body → Type 0
IsCountOf count (Pairs pairs) = count ≡ length pairs
IsCountOf count (Entries entries) = count ≡ length entries
IsCountOf count (Link next) = Unit {0}

-- this level and this count are a node's
pub record IsOutline (level count : ℕ) (s : NodeData) : Type 0 where
  pub level_is : level ≡ s.level
  pub count_is : IsCountOf count s.body

-- Words were loaded, and nothing else was done.
abbrev pub OnlyLoads : CallerData → CallerData → Type 0
OnlyLoads k k' = (more : List LoadEvent) × (k' ≡ record k { log = loaded more k.log })
