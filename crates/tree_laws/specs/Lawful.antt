-- When contents by node number are a tree that finds what it holds.
use Rattle.std.specs.Prelude.{◌≡◌, ℕ, ◌-◌, ◌^◌, ◌<◌, ◌≤◌, Bool, length, IsTrue, ◌==◌, if◌then◌else◌}
use Rattle.std.specs.List.{AllByRecursion}
use Rattle.tree_shape.specs.NodeData.{NodeData, Body, Pairs, Entries, Link, EntriesWithin, Cut}
use Rattle.tree_shape.specs.declared.limits.TheConstants.{PAIRS, ENTRIES, FEWEST_PAIRS}
use Rattle.tree_shape.specs.declared.limits.TheConstants.{FEWEST_ROOT_PAIRS, FEWEST_ENTRIES}
use Rattle.tree_shape.specs.declared.limits.TheConstants.{HIGHEST_LEVEL}
use Rattle.tree_laws.specs.Numbers.{times, once}
use Rattle.tree_laws.specs.Trees.{Contents, Branch, branches, nodes}

-- A leaf has level 0 and entries that ascend, are disjoint and lie inside its fences; an inner node
-- has a level above 0 and separators that ascend from its low fence on, of which the last is its
-- high fence.
abbrev pub IsOrderedAs : NodeData → Body → Type 0
IsOrderedAs s (Entries entries) = (s.level ≡ 0) × EntriesWithin s.low s.high entries
IsOrderedAs s (Pairs pairs) = (0 < s.level) × Cut s.low s.high pairs
IsOrderedAs s (Link next) = ⊥

abbrev pub IsOrdered : NodeData → Type 0
IsOrdered s = IsOrderedAs s s.body

-- the fewest entries of the leaf n: none of the root
abbrev pub fewest_entries : ℕ → ℕ
fewest_entries n = if n == 0 then 0 else FEWEST_ENTRIES

-- the fewest pairs of the inner node n
abbrev pub fewest_pairs : ℕ → ℕ
fewest_pairs n = if n == 0 then FEWEST_ROOT_PAIRS else FEWEST_PAIRS

-- the node n holds neither too little nor too much
abbrev pub IsFilledAs : ℕ → Body → Type 0
IsFilledAs n (Entries entries) = (fewest_entries n ≤ length entries) × (length entries ≤ ENTRIES)
IsFilledAs n (Pairs pairs) = (fewest_pairs n ≤ length pairs) × (length pairs ≤ PAIRS)
IsFilledAs n (Link next) = ⊥

abbrev pub IsFilled : ℕ → NodeData → Type 0
IsFilled n s = IsFilledAs n s.body

-- the child is as its parent names it
pub record FitsParent (f : Contents) (b : Branch) : Type 0 where
  pub level : (f b.child).level ≡ b.frame.level
  pub low : (f b.child).low ≡ b.frame.low
  pub high : (f b.child).high ≡ b.frame.high

-- Contents are a tree whose nodes are those that the test `live` passes.
pub record IsTree (f : Contents) (live : ℕ → Bool) : Type 0 where
  -- Node 0 is the root: its fences hold every address, so that each lookup begins inside them.
  pub root_low : (f 0).low ≡ 0
  pub root_high : (f 0).high ≡ 2 ^ 64 - 1
  -- Without this bound no bound on the steps of a lookup or on the locks of an update could be
  -- given.
  pub height : (f 0).level ≤ HIGHEST_LEVEL
  -- Exactly the live nodes are reached from the root, each by one way. Were a node reached by two,
  -- a change below one of its parents would change what is found below the other; were a live node
  -- not reached, its entries would be lost.
  pub reached : (n : ℕ) → times n (nodes f) ≡ once (live n)
  -- Without order in each node the first separator or entry that fits would not be the only one.
  pub ordered : (n : ℕ) → IsTrue (live n) → IsOrdered (f n)
  -- Without this an address inside a node's fences could lead to a child whose fences don't hold
  -- it.
  pub fitting : (n : ℕ) → IsTrue (live n) →
      AllByRecursion (FitsParent f) (branches ((f n).level - 1) (f n))

-- They are a lawful tree.
pub record IsLawfulTree (f : Contents) (live : ℕ → Bool) : Type 0 where
  pub tree : IsTree f live
  -- Without least fillings a tree of few entries could use up all nodes; above the greatest a node
  -- has no room.
  pub filled : (n : ℕ) → IsTrue (live n) → IsFilled n (f n)
