-- What the changes of nodes make of shapes.
use Rattle.std.specs.Prelude.{ℕ, zero, suc, ◌+◌, ◌<◌, ◌≤◌, List, [], ◌∷◌, ◌++◌, length, take, drop}
use Rattle.std.specs.Prelude.{◌/◌, nat_lt, if◌then◌else◌}
use Rattle.reg_model.specs.declared.span.Member.{Member}
use Rattle.tree_shape.specs.declared.pair.Pair.{Pair}
use Rattle.tree_shape.specs.declared.limits.TheConstants.{PAIRS, ENTRIES}
use Rattle.tree_shape.specs.NodeData.{NodeData, Body, Pairs, Entries, Link}

-- a child with its separator
abbrev pub pair : ℕ → ℕ → Pair
pair child separator = record { child = child; separator = separator }

-- the last address of the last entry, where `start` stands for an empty list
abbrev pub entries_end : ℕ → List Member → ℕ
entries_end start [] = start
entries_end start (m ∷ entries) = entries_end m.span.last entries

-- the last separator, where `start` stands for an empty list
abbrev pub pairs_end : ℕ → List Pair → ℕ
pairs_end start [] = start
pairs_end start (p ∷ pairs) = pairs_end p.separator pairs

-- how many pairs or entries
abbrev pub size : Body → ℕ
size (Pairs pairs) = length pairs
size (Entries entries) = length entries
size (Link next) = 0

-- the first n pairs or entries, and the others
abbrev pub first_part : ℕ → Body → Body
first_part n (Pairs pairs) = Pairs (take n pairs)
first_part n (Entries entries) = Entries (take n entries)
first_part n (Link next) = Link next

abbrev pub last_part : ℕ → Body → Body
last_part n (Pairs pairs) = Pairs (drop n pairs)
last_part n (Entries entries) = Entries (drop n entries)
last_part n (Link next) = Link next

-- where what is held ends: at the last address of the last entry, or at the last separator
abbrev pub body_end : Body → ℕ
body_end (Pairs pairs) = pairs_end 0 pairs
body_end (Entries entries) = entries_end 0 entries
body_end (Link next) = 0

-- The two nodes that a node is cut into: the first has its first n pairs or entries and the fence
-- where these end, the second has the others and begins after that fence.
abbrev pub first_half : ℕ → NodeData → NodeData
first_half n s = record s { high = body_end (first_part n s.body); body = first_part n s.body }

abbrev pub last_half : ℕ → NodeData → NodeData
last_half n s = record s { low = body_end (first_part n s.body) + 1; body = last_part n s.body }

-- the pairs or entries of two nodes of one kind
abbrev pub both : Body → Body → Body
both (Pairs left) (Pairs right) = Pairs (left ++ right)
both (Entries left) (Entries right) = Entries (left ++ right)
both (Pairs left) (Entries right) = Link 0
both (Pairs left) (Link next) = Link 0
both (Entries left) (Pairs right) = Link 0
both (Entries left) (Link next) = Link 0
both (Link next) right = Link 0

-- one node in place of two neighbours
abbrev pub joined : NodeData → NodeData → NodeData
joined left right = record left { high = right.high; body = both left.body right.body }

-- two nodes of one kind fit into one, or don't
abbrev pub FitAs : Body → Body → Type 0
FitAs (Pairs left) (Pairs right) = length left + length right ≤ PAIRS
FitAs (Entries left) (Entries right) = length left + length right ≤ ENTRIES
FitAs _ _ = ⊥

abbrev pub Fit : NodeData → NodeData → Type 0
Fit left right = FitAs left.body right.body

abbrev pub OverfillAs : Body → Body → Type 0
OverfillAs (Pairs left) (Pairs right) = PAIRS < length left + length right
OverfillAs (Entries left) (Entries right) = ENTRIES < length left + length right
OverfillAs _ _ = ⊥

abbrev pub Overfill : NodeData → NodeData → Type 0
Overfill left right = OverfillAs left.body right.body

-- how much the left one of two nodes gets of what both hold: the smaller half
abbrev pub share_of : NodeData → NodeData → ℕ
share_of left right = (size left.body + size right.body) / 2

-- pairs whose last separator is raised
abbrev pub ends_at : ℕ → List Pair → List Pair
ends_at fence [] = []
ends_at fence (p ∷ []) = record p { separator = fence } ∷ []
ends_at fence (p ∷ q ∷ pairs) = p ∷ ends_at fence (q ∷ pairs)

abbrev pub ends_at_as : ℕ → Body → Body
ends_at_as fence (Pairs pairs) = Pairs (ends_at fence pairs)
ends_at_as fence (Entries entries) = Entries entries
ends_at_as fence (Link next) = Link next

-- the left and the right one of two neighbours between which the fence was moved
abbrev pub ends_at_fence : ℕ → NodeData → NodeData
ends_at_fence fence s = record s { high = fence; body = ends_at_as fence s.body }

abbrev pub begins_after : ℕ → NodeData → NodeData
begins_after fence s = record s { low = fence + 1 }

-- the list where what stands at a slot, and all after it, is changed
abbrev pub at_slot : (Pair → List Pair → List Pair) → ℕ → List Pair → List Pair
at_slot change slot [] = []
at_slot change zero (p ∷ pairs) = change p pairs
at_slot change (suc slot) (p ∷ pairs) = p ∷ at_slot change slot pairs

-- the pair's child with the new separator, and the new child with the pair's
abbrev pub divide : ℕ → ℕ → Pair → List Pair → List Pair
divide separator child p pairs = pair p.child separator ∷ pair child p.separator ∷ pairs

-- the pair's child with the separator of the next pair, which goes
abbrev pub swallow_next : Pair → List Pair → List Pair
swallow_next p [] = p ∷ []
swallow_next p (q ∷ pairs) = record p { separator = q.separator } ∷ pairs

-- the pair with another separator
abbrev pub separate_at : ℕ → Pair → List Pair → List Pair
separate_at separator p pairs = record p { separator = separator } ∷ pairs

-- the entries with one more, in its place
abbrev pub with_entry : Member → List Member → List Member
with_entry m [] = m ∷ []
with_entry m (e ∷ entries) =
    if nat_lt m.span.first e.span.first then m ∷ e ∷ entries else (e ∷ with_entry m entries)
