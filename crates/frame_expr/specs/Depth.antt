-- How many entries an operation finds on the stack and leaves there.
use Rattle.std.specs.Prelude.{ℕ, ◌+◌, ◌-◌, Bool, true, false, nat_le, ◌&&◌, ◌||◌}
use Rattle.frame_expr.specs.declared.operation.Operation.{Operation}
use Rattle.frame_expr.specs.declared.operation.Operation.TheVariants.{Nop, Constant, Breg, Deref}
use Rattle.frame_expr.specs.declared.operation.Operation.TheVariants.{Dup, Drop, Over, Pick, Swap}
use Rattle.frame_expr.specs.declared.operation.Operation.TheVariants.{Rot, Unary, PlusUconst}
use Rattle.frame_expr.specs.declared.operation.Operation.TheVariants.{Binary, Compare}

-- how many entries it takes, and how many it puts in their place
abbrev pub needed_and_left : Operation → ℕ × ℕ
needed_and_left Nop = (0, 0)
needed_and_left (Constant n) = (0, 1)
needed_and_left (Breg r n) = (0, 1)
needed_and_left Deref = (1, 1)
needed_and_left Dup = (1, 2)
needed_and_left Drop = (1, 0)
needed_and_left Over = (2, 3)
needed_and_left (Pick n) = (n + 1, n + 2)
needed_and_left Swap = (2, 2)
needed_and_left Rot = (3, 3)
needed_and_left (Unary u) = (1, 1)
needed_and_left (PlusUconst n) = (1, 1)
needed_and_left (Binary k) = (2, 1)
needed_and_left (Compare k) = (2, 1)

abbrev pub needs : Operation → ℕ
needs o = (needed_and_left o).0

abbrev pub leaves : Operation → ℕ
leaves o = (needed_and_left o).1

-- the depth of a stack after an operation
abbrev pub depth_after : ℕ → Operation → ℕ
depth_after d o = d - needs o + leaves o

-- how many entries a stack has at most
abbrev pub most_entries : ℕ
most_entries = 32

-- an operation finds its entries on a stack of this depth, and no more than may be are there after
-- it
abbrev pub fits : ℕ → Operation → Bool
fits d o = nat_le (needs o) d && nat_le (depth_after d o) most_entries

-- what an operation needs depends on its operand
abbrev pub is_pick : Operation → Bool
is_pick (Pick n) = true
is_pick _ = false

-- what the operation's byte alone says of the depth: nothing of pick's, which its operand tells
abbrev pub byte_fits : ℕ → Operation → Bool
byte_fits d o = is_pick o || fits d o
