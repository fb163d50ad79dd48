-- The operations of expressions and how they are written, after DWARF 5, sections 2.5.1 and 7.7.1.
use Rattle.std.specs.Prelude.{ℕ, ◌-◌, ℤ, Bool, true, false, Option, Some, None, nat_lt, nat_le}
use Rattle.std.specs.Prelude.{◌==◌, if◌then◌else◌}
use Rattle.std.specs.Int.{w8, w16, w32, w64, cast_unsigned}
use Rattle.eh_bytes.specs.declared.fault.ByteFault.{ByteFault}
use Rattle.eh_bytes.specs.Grammar.{Part, ◌>>=◌, give}
use Rattle.eh_bytes.specs.Fields.{fixed, signed_fixed, uleb, sleb}
use Rattle.frame_expr.specs.OperationEncodings.{DW_OP_addr, DW_OP_deref, DW_OP_const1u}
use Rattle.frame_expr.specs.OperationEncodings.{DW_OP_const1s, DW_OP_const2u, DW_OP_const2s}
use Rattle.frame_expr.specs.OperationEncodings.{DW_OP_const4u, DW_OP_const4s, DW_OP_const8u}
use Rattle.frame_expr.specs.OperationEncodings.{DW_OP_const8s, DW_OP_constu, DW_OP_consts}
use Rattle.frame_expr.specs.OperationEncodings.{DW_OP_dup, DW_OP_drop, DW_OP_over, DW_OP_pick}
use Rattle.frame_expr.specs.OperationEncodings.{DW_OP_swap, DW_OP_rot, DW_OP_abs, DW_OP_and}
use Rattle.frame_expr.specs.OperationEncodings.{DW_OP_minus, DW_OP_mul, DW_OP_neg, DW_OP_not}
use Rattle.frame_expr.specs.OperationEncodings.{DW_OP_or, DW_OP_plus, DW_OP_plus_uconst, DW_OP_shl}
use Rattle.frame_expr.specs.OperationEncodings.{DW_OP_shr, DW_OP_shra, DW_OP_xor, DW_OP_bra}
use Rattle.frame_expr.specs.OperationEncodings.{DW_OP_eq, DW_OP_ge, DW_OP_gt, DW_OP_le, DW_OP_lt}
use Rattle.frame_expr.specs.OperationEncodings.{DW_OP_ne, DW_OP_lit0, DW_OP_reg0, DW_OP_breg0}
use Rattle.frame_expr.specs.OperationEncodings.{DW_OP_breg16, DW_OP_nop}
use Rattle.frame_expr.specs.declared.operation.Operand.{Operand}
use Rattle.frame_expr.specs.declared.operation.Operand.TheVariants.{Absent, U8, U16, U32, U64, I8}
use Rattle.frame_expr.specs.declared.operation.Operand.TheVariants.{I16, I32, I64, Uleb, Sleb}
use Rattle.frame_expr.specs.declared.operation.Operation.{Operation}
use Rattle.frame_expr.specs.declared.operation.Operation.TheVariants.{Nop, Constant, Breg, Deref}
use Rattle.frame_expr.specs.declared.operation.Operation.TheVariants.{Dup, Drop, Over, Pick, Swap}
use Rattle.frame_expr.specs.declared.operation.Operation.TheVariants.{Rot, Unary, PlusUconst}
use Rattle.frame_expr.specs.declared.operation.Operation.TheVariants.{Binary, Compare}
use Rattle.frame_expr.specs.declared.operation.Unary.TheVariants.{Abs, Neg, Not}
use Rattle.frame_expr.specs.declared.operation.Binary.TheVariants.{And, Or, Xor, Minus, Mul, Plus}
use Rattle.frame_expr.specs.declared.operation.Binary.TheVariants.{Shl, Shr, Shra}
use Rattle.frame_expr.specs.declared.operation.Comparison.TheVariants.{Eq, Ge, Gt, Le, Lt, Ne}
use Rattle.frame_expr.specs.declared.operation.Code.{Code}

-- ---- the table

abbrev pub code : Operand → Operation → Option Code
code form o = Some (record { operand = form; operation = o })

-- an operation without an operand
abbrev pub alone : Operation → Option Code
alone o = code Absent o

-- constants, and deref
unfoldable pub constant_code : ℕ → Option Code
constant_code b =
    if b == DW_OP_addr then code U64 (Constant 0)
    else if b == DW_OP_deref then alone Deref
    else if b == DW_OP_const1u then code U8 (Constant 0)
    else if b == DW_OP_const1s then code I8 (Constant 0)
    else if b == DW_OP_const2u then code U16 (Constant 0)
    else if b == DW_OP_const2s then code I16 (Constant 0)
    else if b == DW_OP_const4u then code U32 (Constant 0)
    else if b == DW_OP_const4s then code I32 (Constant 0)
    else if b == DW_OP_const8u then code U64 (Constant 0)
    else if b == DW_OP_const8s then code I64 (Constant 0)
    else if b == DW_OP_constu then code Uleb (Constant 0)
    else if b == DW_OP_consts then code Sleb (Constant 0)
    else None

-- the stack, and arithmetic
unfoldable pub stack_code : ℕ → Option Code
stack_code b =
    if b == DW_OP_dup then alone Dup
    else if b == DW_OP_drop then alone Drop
    else if b == DW_OP_over then alone Over
    else if b == DW_OP_pick then code U8 (Pick 0)
    else if b == DW_OP_swap then alone Swap
    else if b == DW_OP_rot then alone Rot
    else if b == DW_OP_abs then alone (Unary Abs)
    else if b == DW_OP_and then alone (Binary And)
    else if b == DW_OP_minus then alone (Binary Minus)
    else if b == DW_OP_mul then alone (Binary Mul)
    else if b == DW_OP_neg then alone (Unary Neg)
    else if b == DW_OP_not then alone (Unary Not)
    else if b == DW_OP_or then alone (Binary Or)
    else if b == DW_OP_plus then alone (Binary Plus)
    else if b == DW_OP_plus_uconst then code Uleb (PlusUconst 0)
    else if b == DW_OP_shl then alone (Binary Shl)
    else if b == DW_OP_shr then alone (Binary Shr)
    else if b == DW_OP_shra then alone (Binary Shra)
    else if b == DW_OP_xor then alone (Binary Xor)
    else None

-- comparisons
unfoldable pub comparison_code : ℕ → Option Code
comparison_code b =
    if b == DW_OP_eq then alone (Compare Eq)
    else if b == DW_OP_ge then alone (Compare Ge)
    else if b == DW_OP_gt then alone (Compare Gt)
    else if b == DW_OP_le then alone (Compare Le)
    else if b == DW_OP_lt then alone (Compare Lt)
    else if b == DW_OP_ne then alone (Compare Ne)
    else None

-- what an operation's byte says, where it is one
unfoldable pub operation_code : ℕ → Option Code
operation_code b =
    if nat_lt b DW_OP_dup then constant_code b
    else if nat_lt b DW_OP_bra then stack_code b
    else if nat_lt b DW_OP_lit0 then comparison_code b
    else if nat_lt b DW_OP_reg0 then alone (Constant (b - DW_OP_lit0))
    else if nat_lt b DW_OP_breg0 then None
    else if nat_le b DW_OP_breg16 then code Sleb (Breg (b - DW_OP_breg0) 0)
    else if b == DW_OP_nop then alone Nop
    else None

-- ---- operands

-- a signed number modulo 2 ^ 64
abbrev pub wrapped : Part ByteFault ℤ → Part ByteFault ℕ
wrapped g = g >>= λ x. give (cast_unsigned w64 x)

-- the number after an operation's byte, modulo 2 ^ 64
abbrev pub operand_of : Operand → Part ByteFault ℕ
operand_of Absent = give 0
operand_of U8 = fixed 1
operand_of U16 = fixed 2
operand_of U32 = fixed 4
operand_of U64 = fixed 8
operand_of I8 = wrapped (signed_fixed w8)
operand_of I16 = wrapped (signed_fixed w16)
operand_of I32 = wrapped (signed_fixed w32)
operand_of I64 = fixed 8
operand_of Uleb = uleb
operand_of Sleb = wrapped sleb

abbrev pub is_absent : Operand → Bool
is_absent Absent = true
is_absent _ = false

-- the operation with its operand in place
abbrev pub operation_with : ℕ → Operation → Operation
operation_with n (Constant _) = Constant n
operation_with n (Breg r _) = Breg r n
operation_with n (Pick _) = Pick n
operation_with n (PlusUconst _) = PlusUconst n
operation_with n Nop = Nop
operation_with n Deref = Deref
operation_with n Dup = Dup
operation_with n Drop = Drop
operation_with n Over = Over
operation_with n Swap = Swap
operation_with n Rot = Rot
operation_with n (Unary u) = Unary u
operation_with n (Binary k) = Binary k
operation_with n (Compare k) = Compare k

abbrev pub with_operand : ℕ → Code → Operation
with_operand n c = if is_absent c.operand then c.operation else operation_with n c.operation
