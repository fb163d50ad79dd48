-- What operations do on a stack of numbers, after DWARF 5, section 2.5.1. A stack is the list of
-- its numbers, the top first, and arithmetic is modulo 2 ^ 64.
use Rattle.std.specs.Prelude.{◌≡◌, ℕ, ◌+◌, ◌-◌, ◌*◌, ◌/◌, ◌%◌, ◌^◌, ℤ, List, [], ◌∷◌, drop, get_or}
use Rattle.std.specs.Prelude.{Bool, Option, Some, None, Result, Ok, Err, nat_lt, ◌==◌, not}
use Rattle.std.specs.Prelude.{if◌then◌else◌}
use Rattle.std.specs.Int.{w64, cast_signed, cast_unsigned, int_shr}
use Rattle.std.specs.Int.RustNames.{unsigned_abs}
use Rattle.std.specs.Int.Signed.{lt_z}
use Rattle.std.specs.Int.Bits.{bit_and, bit_or, bit_xor}
use Rattle.frame_expr.specs.declared.operation.Operation.{Operation}
use Rattle.frame_expr.specs.declared.operation.Operation.TheVariants.{Nop, Constant, Breg, Deref}
use Rattle.frame_expr.specs.declared.operation.Operation.TheVariants.{Dup, Drop, Over, Pick, Swap}
use Rattle.frame_expr.specs.declared.operation.Operation.TheVariants.{Rot, Unary, PlusUconst}
use Rattle.frame_expr.specs.declared.operation.Operation.TheVariants.{Binary, Compare}
use Rattle.frame_expr.specs.declared.operation.Unary as unaries
use Rattle.frame_expr.specs.declared.operation.Unary.TheVariants.{Abs, Neg, Not}
use Rattle.frame_expr.specs.declared.operation.Binary as binaries
use Rattle.frame_expr.specs.declared.operation.Binary.TheVariants.{And, Or, Xor, Minus, Mul, Plus}
use Rattle.frame_expr.specs.declared.operation.Binary.TheVariants.{Shl, Shr, Shra}
use Rattle.frame_expr.specs.declared.operation.Comparison.{Comparison}
use Rattle.frame_expr.specs.declared.operation.Comparison.TheVariants.{Eq, Ge, Gt, Le, Lt, Ne}
use Rattle.frame_expr.specs.declared.fault.NoBytes.{NoBytes}
use Rattle.eh_bytes.specs.Results.{◌and_then◌}
use Rattle.frame_expr.specs.Regions.{RegionData, word_at}
use Rattle.frame_expr.specs.Expressions.{IsExpr}

abbrev pub signed : ℕ → ℤ
signed a = cast_signed w64 a

-- of the top alone; the absolute value of - 2 ^ 63 is itself
abbrev pub unary : unaries.Unary → ℕ → ℕ
unary Abs b = unsigned_abs (signed b)
unary Neg b = (2 ^ 64 - b) % 2 ^ 64
unary Not b = 2 ^ 64 - 1 - b

-- of the entry a below the top and the top b
abbrev pub binary : binaries.Binary → ℕ → ℕ → ℕ
binary And a b = bit_and a b
binary Or a b = bit_or a b
binary Xor a b = bit_xor a b
binary Minus a b = (a + (2 ^ 64 - b)) % 2 ^ 64
binary Mul a b = (a * b) % 2 ^ 64
binary Plus a b = (a + b) % 2 ^ 64
binary Shl a b = if nat_lt b 64 then (a * 2 ^ b) % 2 ^ 64 else 0
binary Shr a b = if nat_lt b 64 then a / 2 ^ b else 0
binary Shra a b = cast_unsigned w64 (int_shr (signed a) (if nat_lt b 64 then b else 63))

-- the same two as signed numbers
abbrev pub compare : Comparison → ℕ → ℕ → Bool
compare Eq a b = a == b
compare Ne a b = not (a == b)
compare Lt a b = lt_z (signed a) (signed b)
compare Ge a b = not (lt_z (signed a) (signed b))
compare Gt a b = lt_z (signed b) (signed a)
compare Le a b = not (lt_z (signed b) (signed a))

-- the entry so far below the top
abbrev pub entry : ℕ → List ℕ → ℕ
entry n s = get_or s n 0

-- the stack in which the eight bytes at the top's address stand in its place
abbrev pub with_loaded : ℕ → List ℕ → Option ℕ → Result (List ℕ) NoBytes
with_loaded a s (Some n) = Ok (n ∷ s)
with_loaded a s None = Err (record { address = a })

-- the stack after an operation, from the columns and the recorded regions
abbrev pub stack_after : List ℕ → List RegionData → Operation → List ℕ → Result (List ℕ) NoBytes
stack_after columns regions Nop s = Ok s
stack_after columns regions (Constant n) s = Ok (n ∷ s)
stack_after columns regions (Breg r n) s = Ok ((get_or columns r 0 + n) % 2 ^ 64 ∷ s)
stack_after columns regions Deref s =
    with_loaded (entry 0 s) (drop 1 s) (word_at (entry 0 s) regions)
stack_after columns regions Dup s = Ok (entry 0 s ∷ s)
stack_after columns regions Drop s = Ok (drop 1 s)
stack_after columns regions Over s = Ok (entry 1 s ∷ s)
stack_after columns regions (Pick n) s = Ok (entry n s ∷ s)
stack_after columns regions Swap s = Ok (entry 1 s ∷ entry 0 s ∷ drop 2 s)
stack_after columns regions Rot s = Ok (entry 1 s ∷ entry 2 s ∷ entry 0 s ∷ drop 3 s)
stack_after columns regions (Unary u) s = Ok (unary u (entry 0 s) ∷ drop 1 s)
stack_after columns regions (PlusUconst n) s = Ok ((entry 0 s + n) % 2 ^ 64 ∷ drop 1 s)
stack_after columns regions (Binary k) s = Ok (binary k (entry 1 s) (entry 0 s) ∷ drop 2 s)
stack_after columns regions (Compare k) s =
    Ok ((if compare k (entry 1 s) (entry 0 s) then 1 else 0) ∷ drop 2 s)

-- the value of operations: the top after all of them, or the address of the first deref that no
-- region holds
unfoldable pub value_of : List ℕ → List RegionData → List Operation → List ℕ → Result ℕ NoBytes
value_of columns regions [] s = Ok (entry 0 s)
value_of columns regions (o ∷ os) s =
    (stack_after columns regions o s and_then λ t. value_of columns regions os t)

-- the stack at the start: empty, or one number
abbrev pub stack_of : Option ℕ → List ℕ
stack_of None = []
stack_of (Some n) = n ∷ []

-- the value of the operations that the bytes spell
abbrev pub IsValue : ℕ → List ℕ → List ℕ → List RegionData → Option ℕ → Result ℕ NoBytes → Type 0
IsValue depth bytes columns regions start result =
    (os : List Operation) × IsExpr depth bytes os
    × (result ≡ value_of columns regions os (stack_of start))
