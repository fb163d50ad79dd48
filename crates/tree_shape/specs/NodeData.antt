-- What contracts see of a node: its level, its two fences, and what it holds as a list.
use Rattle.std.specs.Prelude.{◌≡◌, ℕ, ◌+◌, ◌≤◌, List, [], ◌∷◌, nat_le, nat_lt, if◌then◌else◌}
use Rattle.std.specs.List.{AllByRecursion}
use Rattle.reg_model.specs.declared.span.Member.{Member}
use Rattle.reg_model.specs.SpanData.{SpanData}
use Rattle.segment_array.specs.Ascending.{AscendFrom}
use Rattle.tree_shape.specs.declared.pair.Pair.{Pair}
use Rattle.tree_shape.specs.declared.node.NodeBounds.{NodeBounds}

-- what a node holds: children with their separators, or members, or the next free node
pub data Body : Type 0 where
  Pairs : List Pair → Body
  Entries : List Member → Body
  Link : ℕ → Body

-- a node as contracts and callers' logs see it
pub record NodeData : Type 0 where
  pub level : ℕ
  pub low : ℕ
  pub high : ℕ
  pub body : Body

-- its level and its fences
abbrev pub frame_of : NodeData → NodeBounds
frame_of s = record { level = s.level; low = s.low; high = s.high }

-- the pairs of an inner node, and none of another
abbrev pub pairs_in : Body → List Pair
pairs_in (Pairs pairs) = pairs
pairs_in (Entries entries) = []
pairs_in (Link next) = []

abbrev pub pairs_of : NodeData → List Pair
pairs_of s = pairs_in s.body

-- the entries of a leaf, and none of another node
abbrev pub entries_in : Body → List Member
entries_in (Pairs pairs) = []
entries_in (Entries entries) = entries
entries_in (Link next) = []

abbrev pub entries_of : NodeData → List Member
entries_of s = entries_in s.body

-- a leaf, and an inner node
abbrev pub IsLeaf : NodeData → Type 0
IsLeaf s = s.body ≡ Entries (entries_of s)

abbrev pub IsInner : NodeData → Type 0
IsInner s = s.body ≡ Pairs (pairs_of s)

-- the node's fences hold the address, and the whole span
abbrev pub IsInFences : ℕ → NodeData → Type 0
IsInFences pc s = (s.low ≤ pc) × (pc ≤ s.high)

abbrev pub LiesInFences : SpanData → NodeData → Type 0
LiesInFences span s = (s.low ≤ span.first) × (span.last ≤ s.high)

-- Entries that ascend from `low` on, and of which each ends at or below `high`. So they ascend, are
-- disjoint and lie inside the fences.
abbrev pub EntriesWithin : ℕ → ℕ → List Member → Type 0
EntriesWithin low high entries =
    AscendFrom low entries × AllByRecursion (λ m. m.span.last ≤ high) entries

-- The separators cut the addresses from `low` to `high` into parts, of which none is empty: they
-- ascend, the first is at least `low`, and the last is `high`.
abbrev pub Cut : ℕ → ℕ → List Pair → Type 0
Cut low high [] = low ≡ high + 1
Cut low high (p ∷ pairs) = (low ≤ p.separator) × Cut (p.separator + 1) high pairs

-- What every call may take for granted of a node: a leaf's entries ascend, are disjoint and lie
-- inside its fences; an inner node's separators ascend, and the last is its high fence.
abbrev pub InOrderAs : NodeData → Body → Type 0
InOrderAs s (Entries entries) = EntriesWithin s.low s.high entries
InOrderAs s (Pairs pairs) = Cut 0 s.high pairs
InOrderAs s (Link next) = Unit {0}

abbrev pub InOrder : NodeData → Type 0
InOrder s = InOrderAs s s.body

-- nodes of one level, of which the second begins where the first ends
pub record AreNeighbours (left right : NodeData) : Type 0 where
  pub level : left.level ≡ right.level
  pub fence : left.high + 1 ≡ right.low

-- the place of the first pair whose separator is at least the address, or the number of pairs
abbrev pub slot_for : ℕ → List Pair → ℕ
slot_for pc [] = 0
slot_for pc (p ∷ pairs) = if nat_le pc p.separator then 0 else (slot_for pc pairs + 1)

-- how many entries stand before the first that begins above the address
abbrev pub place_for : ℕ → List Member → ℕ
place_for pc [] = 0
place_for pc (m ∷ entries) = if nat_lt pc m.span.first then 0 else (place_for pc entries + 1)
