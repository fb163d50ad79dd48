-- Where each word of the shared table stands. N is the number of nodes, G that of the segments of
-- one copy.
use Rattle.std.specs.Prelude.{ℕ, zero, suc, ◌+◌, ◌*◌, ◌-◌, ◌/◌, ◌%◌, ◌^◌, ◌==◌, ◌||◌, ◌&&◌, Bool}
use Rattle.std.specs.Prelude.{nat_le, nat_lt, List, [], ◌∷◌, ◌++◌, slice_set, replicate}
use Rattle.std.specs.Prelude.{if◌then◌else◌}
use Rattle.word_rule.specs.declared.log.Terms.{Terms}

-- the words of a node
abbrev pub NODE_WORDS : ℕ
NODE_WORDS = 36

-- those after its version word
abbrev pub CONTENT_WORDS : ℕ
CONTENT_WORDS = 35

-- the update calls of one registry
abbrev pub ALLOWANCE : ℕ
ALLOWANCE = 2 ^ 26

-- the releases of its first caller, and those of them that one update call may make
abbrev pub CREDIT : ℕ
CREDIT = 2 ^ 60 + 2 ^ 32

abbrev pub CALL_CREDIT : ℕ
CALL_CREDIT = 64

-- the greatest address, at which the last fence stands
abbrev pub TOP : ℕ
TOP = 2 ^ 64 - 1

-- the clock: publications of the loader in its upper half, accepted updates in its lower half
abbrev pub CLOCK : ℕ
CLOCK = 0

-- the first node of the free list, or 0
abbrev pub HEAD : ℕ
HEAD = 1

-- the loader's version lock
abbrev pub LOADER : ℕ
LOADER = 2

-- the version lock of a node, with which its words begin
abbrev pub node_place : ℕ → ℕ
node_place n = 4 + NODE_WORDS * n

-- the segments of a copy for so many loads, and their words with the two before them
abbrev pub segments : ℕ → ℕ
segments loads = (loads + 15) / 16

abbrev pub copy_words : Terms → ℕ
copy_words t = 2 + 50 * segments t.loads

-- where a segment begins, and where a member stands, counted from the first word of their copy;
-- segments and members are counted from 0, lowest addresses first, sixteen members a segment
abbrev pub segment_place : ℕ → ℕ
segment_place s = 2 + 50 * s

abbrev pub member_place : ℕ → ℕ
member_place i = segment_place (i / 16) + 2 + 3 * (i % 16)

-- copy 0 or 1
abbrev pub copy_place : Terms → ℕ → ℕ
copy_place t c = 4 + NODE_WORDS * t.nodes + c * copy_words t

-- all words
abbrev pub word_count : Terms → ℕ
word_count t = 4 + NODE_WORDS * t.nodes + 2 * copy_words t

-- how many updates were accepted, and how many of them by the loader
abbrev pub lower : ℕ → ℕ
lower clock = clock % 2 ^ 32

abbrev pub upper : ℕ → ℕ
upper clock = clock / 2 ^ 32

-- whether a word of the table is one of copy c
abbrev pub is_of_copy : Terms → ℕ → ℕ → Bool
is_of_copy t c at = nat_le (copy_place t c) at && nat_lt at (copy_place t c + copy_words t)

-- the copy that is not active
abbrev pub spare : ℕ → ℕ
spare clock = (upper clock + 1) % 2

-- A node's words at the start: the root is a leaf and the others are free, each linked to the next;
-- all fences are open.
abbrev pub initial_kind : ℕ → ℕ
initial_kind n = if n == 0 then 1 else 2

abbrev pub initial_link : ℕ → ℕ → ℕ
initial_link nodes n = if (n == 0) || (n + 1 == nodes) then 0 else (n + 1)

abbrev pub initial_node : ℕ → ℕ → List ℕ
initial_node nodes n =
    slice_set (slice_set (slice_set (replicate NODE_WORDS 0) 1 (initial_kind n)) 4 TOP) 6
    (initial_link nodes n)

-- the words of the nodes below n
abbrev pub initial_nodes : ℕ → ℕ → List ℕ
initial_nodes nodes zero = []
initial_nodes nodes (suc n) = initial_nodes nodes n ++ initial_node nodes n

-- all words at the start: nothing was accepted, node 1 is the first free one, no lock is held, both
-- copies are empty
abbrev pub initial_words : Terms → List ℕ
initial_words t = (0 ∷ 1 ∷ 0 ∷ 0 ∷ initial_nodes t.nodes t.nodes) ++ replicate (2 * copy_words t) 0
