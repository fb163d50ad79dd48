-- The changes of nodes put into a tree: which contents g come of contents f.
use Rattle.std.specs.Prelude.{◌≡◌, ◌≢◌, ℕ, zero, suc, ◌+◌, ◌<◌, ◌≤◌, ◌↔◌, ◌⊎◌, Bool, true}
use Rattle.std.specs.Prelude.{false, List, [], ◌∷◌, ◌++◌, length, Some, IsSome, IsTrue, ◌==◌}
use Rattle.std.specs.Prelude.{if◌then◌else◌}
use Rattle.std.specs.List.{AllByRecursion, slice_get}
use Rattle.reg_model.specs.declared.span.Member.{Member}
use Rattle.reg_model.specs.SpanData.{IsSpan}
use Rattle.reg_model.specs.State.{IsFree, at_base, at_span}
use Rattle.reg_model.specs.History.{without, with_payload}
use Rattle.tree_shape.specs.declared.pair.Pair.{Pair}
use Rattle.tree_shape.specs.NodeData.{NodeData, Body, Pairs, Entries, Link, pairs_of, entries_of}
use Rattle.tree_shape.specs.NodeData.{IsLeaf}
use Rattle.tree_shape.specs.Changes.{first_half, last_half, joined, at_slot, divide, swallow_next}
use Rattle.tree_shape.specs.Changes.{separate_at, with_entry, first_part, body_end, ends_at_fence}
use Rattle.tree_shape.specs.Changes.{begins_after, pair, Fit, Overfill, share_of}
use Rattle.tree_shape.specs.declared.limits.TheConstants.{PAIRS, ENTRIES, LEFT_PAIRS, LEFT_ENTRIES}
use Rattle.tree_shape.specs.declared.limits.TheConstants.{HIGHEST_LEVEL}
use Rattle.tree_laws.specs.Numbers.{times}
use Rattle.tree_laws.specs.Trees.{Contents, HasEntry}
use Rattle.tree_laws.specs.Lawful.{IsTree, IsLawfulTree, IsFilled, fewest_pairs, fewest_entries}

-- g is a lawful tree with the entries of f
pub record Keeps (f : Contents) (live : ℕ → Bool) (g : Contents) (live' : ℕ → Bool) : Type 0 where
  pub lawful : IsLawfulTree g live'
  pub entries : (m : Member) → HasEntry g live' m ↔ HasEntry f live m

-- the live nodes and one more, or without one
abbrev pub with_node : ℕ → (ℕ → Bool) → ℕ → Bool
with_node n live x = if x == n then true else live x

abbrev pub without_node : ℕ → (ℕ → Bool) → ℕ → Bool
without_node n live x = if x == n then false else live x

-- where a full node is cut
abbrev pub middle : Body → ℕ
middle (Pairs pairs) = LEFT_PAIRS
middle (Entries entries) = LEFT_ENTRIES
middle (Link next) = 0

-- the fence between its halves
abbrev pub middle_fence : NodeData → ℕ
middle_fence s = body_end (first_part (middle s.body) s.body)

-- it holds as much as it can
abbrev pub IsFull : Body → Type 0
IsFull (Pairs pairs) = length pairs ≡ PAIRS
IsFull (Entries entries) = length entries ≡ ENTRIES
IsFull (Link next) = ⊥

-- A child is split, and its parent has a pair more: the child keeps the first half, the node
-- `fresh` gets the last.
pub record IsSplit (f : Contents) (live : ℕ → Bool) (parent slot : ℕ) (p : Pair) (fresh : ℕ)
    (g : Contents) : Type 0 where
  pub live_parent : IsTrue (live parent)
  pub at : slice_get (pairs_of (f parent)) slot ≡ Some p
  pub room : length (pairs_of (f parent)) < PAIRS
  pub full : IsFull (f p.child).body
  pub free : live fresh ≡ false
  pub above : let s = f parent in
      let fence = middle_fence (f p.child) in
      g parent ≡ record s { body = Pairs (at_slot (divide fence fresh) slot (pairs_of s)) }
  pub left : g p.child ≡ first_half (middle (f p.child).body) (f p.child)
  pub right : g fresh ≡ last_half (middle (f p.child).body) (f p.child)
  pub others : (n : ℕ) → n ≢ parent → n ≢ p.child → n ≢ fresh → g n ≡ f n

-- Two neighbouring children are joined, and their parent has a pair less: the left one holds both,
-- the right one leaves.
pub record IsJoin (f : Contents) (live : ℕ → Bool) (parent slot : ℕ) (p q : Pair) (g : Contents)
    : Type 0 where
  pub live_parent : IsTrue (live parent)
  pub at : slice_get (pairs_of (f parent)) slot ≡ Some p
  pub next : slice_get (pairs_of (f parent)) (slot + 1) ≡ Some q
  pub spare : fewest_pairs parent < length (pairs_of (f parent))
  pub fit : Fit (f p.child) (f q.child)
  pub above : let s = f parent in
      g parent ≡ record s { body = Pairs (at_slot swallow_next slot (pairs_of s)) }
  pub left : g p.child ≡ joined (f p.child) (f q.child)
  pub others : (n : ℕ) → n ≢ parent → n ≢ p.child → n ≢ q.child → g n ≡ f n

-- Two neighbouring children that don't fit into one are given even shares.
pub record IsShare (f : Contents) (live : ℕ → Bool) (parent slot : ℕ) (p q : Pair) (g : Contents)
    : Type 0 where
  pub live_parent : IsTrue (live parent)
  pub at : slice_get (pairs_of (f parent)) slot ≡ Some p
  pub next : slice_get (pairs_of (f parent)) (slot + 1) ≡ Some q
  pub overfill : Overfill (f p.child) (f q.child)
  pub above : let s = f parent in
      let both = joined (f p.child) (f q.child) in
      let fence = body_end (first_part (share_of (f p.child) (f q.child)) both.body) in
      g parent ≡ record s { body = Pairs (at_slot (separate_at fence) slot (pairs_of s)) }
  pub left : g p.child
      ≡ first_half (share_of (f p.child) (f q.child)) (joined (f p.child) (f q.child))
  pub right : g q.child
      ≡ last_half (share_of (f p.child) (f q.child)) (joined (f p.child) (f q.child))
  pub others : (n : ℕ) → n ≢ parent → n ≢ p.child → n ≢ q.child → g n ≡ f n

-- A leaf gets one more entry, in its place.
pub record IsPut (f : Contents) (live : ℕ → Bool) (leaf : ℕ) (member : Member) (g : Contents)
    : Type 0 where
  pub live_leaf : IsTrue (live leaf)
  pub is_leaf : IsLeaf (f leaf)
  pub room : length (entries_of (f leaf)) < ENTRIES
  pub span : IsSpan member.span
  pub low : (f leaf).low ≤ member.span.first
  pub high : member.span.last ≤ (f leaf).high
  pub free : IsFree member.span (entries_of (f leaf))
  pub above : let s = f leaf in
      g leaf ≡ record s { body = Entries (with_entry member (entries_of s)) }
  pub others : (n : ℕ) → n ≢ leaf → g n ≡ f n

-- The tree is lawful and has exactly one member more.
pub record Adds (f : Contents) (live : ℕ → Bool) (member : Member) (g : Contents) : Type 0 where
  pub lawful : IsLawfulTree g live
  pub entries : (m : Member) → HasEntry g live m ↔ (HasEntry f live m ⊎ (m ≡ member))

-- A leaf loses the entry that begins at an address.
pub record IsTake (f : Contents) (live : ℕ → Bool) (leaf base : ℕ) (member : Member) (g : Contents)
    : Type 0 where
  pub live_leaf : IsTrue (live leaf)
  pub is_leaf : IsLeaf (f leaf)
  pub held : at_base base (entries_of (f leaf)) ≡ Some member
  pub above : let s = f leaf in
      g leaf ≡ record s { body = Entries (without base (entries_of s)) }
  pub others : (n : ℕ) → n ≢ leaf → g n ≡ f n

-- The tree has exactly that member less. It is lawful where the leaf is the root or had an entry to
-- spare.
pub record Takes (f : Contents) (live : ℕ → Bool) (leaf : ℕ) (member : Member) (g : Contents)
    : Type 0 where
  pub tree : IsTree g live
  pub lawful : fewest_entries leaf < length (entries_of (f leaf)) → IsLawfulTree g live
  pub entries : (m : Member) → HasEntry g live m ↔ (HasEntry f live m × (m ≢ member))

-- The entry of a leaf that has a member's whole span gives way to that member.
pub record IsReplace (f : Contents) (live : ℕ → Bool) (leaf : ℕ) (member : Member) (g : Contents)
    : Type 0 where
  pub live_leaf : IsTrue (live leaf)
  pub is_leaf : IsLeaf (f leaf)
  pub held : IsSome (at_span member.span (entries_of (f leaf)))
  pub above : let s = f leaf in
      g leaf ≡ record s { body = Entries (with_payload member (entries_of s)) }
  pub others : (n : ℕ) → n ≢ leaf → g n ≡ f n

-- The root is lifted: what it had moves to the node `fresh`, its one child.
pub record IsLift (f : Contents) (live : ℕ → Bool) (fresh : ℕ) (g : Contents) : Type 0 where
  pub height : (f 0).level < HIGHEST_LEVEL
  pub full : IsFull (f 0).body
  pub free : live fresh ≡ false
  pub root : let s = f 0 in
      g 0 ≡ record s { level = s.level + 1; body = Pairs (pair fresh s.high ∷ []) }
  pub moved : g fresh ≡ f 0
  pub others : (n : ℕ) → n ≢ 0 → n ≢ fresh → g n ≡ f n

-- The tree is lawful but for the root's one pair, and has the entries of f.
pub record Lifts (f : Contents) (live : ℕ → Bool) (g : Contents) (live' : ℕ → Bool) : Type 0 where
  pub tree : IsTree g live'
  pub one_pair : length (pairs_of (g 0)) ≡ 1
  pub filled : (n : ℕ) → IsTrue (live' n) → n ≢ 0 → IsFilled n (g n)
  pub entries : (m : Member) → HasEntry g live' m ↔ HasEntry f live m

-- a root one level higher, over two nodes between which this fence lies
abbrev pub root_over : ℕ → ℕ → ℕ → NodeData → NodeData
root_over left right fence s = record s {
  level = s.level + 1;
  body = Pairs (pair left fence ∷ pair right s.high ∷ []);
}

-- The root is lifted and split in one step: two fresh nodes get the halves of what it had, and
-- become its children.
pub record IsRootSplit (f : Contents) (live : ℕ → Bool) (left right : ℕ) (g : Contents) : Type 0
  where
    pub height : (f 0).level < HIGHEST_LEVEL
    pub full : IsFull (f 0).body
    pub free_left : live left ≡ false
    pub free_right : live right ≡ false
    pub different : left ≢ right
    pub root : g 0 ≡ root_over left right (middle_fence (f 0)) (f 0)
    pub first : g left ≡ first_half (middle (f 0).body) (f 0)
    pub last : g right ≡ last_half (middle (f 0).body) (f 0)
    pub others : (n : ℕ) → n ≢ 0 → n ≢ left → n ≢ right → g n ≡ f n

-- The root takes the place of its only two children, which fit into one.
pub record IsSink (f : Contents) (live : ℕ → Bool) (p q : Pair) (g : Contents) : Type 0 where
  pub pairs : pairs_of (f 0) ≡ p ∷ q ∷ []
  pub fit : Fit (f p.child) (f q.child)
  pub root : let s = joined (f p.child) (f q.child) in
      g 0 ≡ record s { low = (f 0).low; high = (f 0).high }
  pub others : (n : ℕ) → n ≢ 0 → n ≢ p.child → n ≢ q.child → g n ≡ f n

-- the child of the last pair and of the first, where `start` stands for no pairs
abbrev pub last_child : ℕ → List Pair → ℕ
last_child start [] = start
last_child start (p ∷ pairs) = last_child p.child pairs

abbrev pub first_child : ℕ → List Pair → ℕ
first_child start [] = start
first_child start (p ∷ pairs) = p.child

-- the node n and at each level below it the last node under it, or the first
abbrev pub last_spine : Contents → ℕ → ℕ → List ℕ
last_spine f zero n = n ∷ []
last_spine f (suc level) n = n ∷ last_spine f level (last_child 0 (pairs_of (f n)))

abbrev pub first_spine : Contents → ℕ → ℕ → List ℕ
first_spine f zero n = n ∷ []
first_spine f (suc level) n = n ∷ first_spine f level (first_child 0 (pairs_of (f n)))

-- all that a node holds lies above the address: its entries, or its separators
abbrev pub LiesAbove : ℕ → Body → Type 0
LiesAbove pc (Pairs pairs) = AllByRecursion (λ p. pc < p.separator) pairs
LiesAbove pc (Entries entries) = AllByRecursion (λ m. pc < m.span.first) entries
LiesAbove pc (Link next) = Unit {0}

-- The fence between two neighbouring children is raised, on both spines below them and in the node
-- above them.
pub record IsFenceMove (f : Contents) (live : ℕ → Bool) (parent slot : ℕ) (p q : Pair) (fence : ℕ)
    (g : Contents) : Type 0 where
  pub live_parent : IsTrue (live parent)
  pub at : slice_get (pairs_of (f parent)) slot ≡ Some p
  pub next : slice_get (pairs_of (f parent)) (slot + 1) ≡ Some q
  pub raised : (f p.child).high < fence
  pub below : AllByRecursion (λ n. (fence < (f n).high) × LiesAbove fence (f n).body)
      (first_spine f (f q.child).level q.child)
  pub above : let s = f parent in
      g parent ≡ record s { body = Pairs (at_slot (separate_at fence) slot (pairs_of s)) }
  pub left : AllByRecursion
      (λ n. g n ≡ ends_at_fence fence (f n)) (last_spine f (f p.child).level p.child)
  pub right : AllByRecursion (λ n. g n ≡ begins_after fence (f n))
      (first_spine f (f q.child).level q.child)
  pub others : (n : ℕ) → n ≢ parent → times n (last_spine f (f p.child).level p.child) ≡ 0
      → times n (first_spine f (f q.child).level q.child) ≡ 0 → g n ≡ f n

-- the nodes that it changes
abbrev pub fence_nodes : Contents → ℕ → Pair → Pair → List ℕ
fence_nodes f parent p q =
    parent ∷ last_spine f (f p.child).level p.child ++ first_spine f (f q.child).level q.child
