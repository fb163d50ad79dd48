-- The operands of operations have 64 bits, where they are spelled by bytes.
use Rattle.std.proofs.Common.{◌≡◌, ℕ, suc, ◌+◌, ◌-◌, ◌^◌, ◌<◌, ◌≤◌, List, [], ◌∷◌, ◌++◌, length, Bool, true, false, cond, nat_lt, nat_le, nat_eq, ltb, ℤ, pos, negsuc, Option, Some, None, IfSome, sym, ◌∙◌, ap, subst, arith}
use Rattle.std.specs.Int.{Width, w8, w16, w32, w64, w128, cast_signed, cast_unsigned}
use Rattle.std.specs.List.{AllByRecursion}
use Rattle.std.proofs.lemmas.Bool.{ltb-true}
use Rattle.byteorder.specs.Endian.{little_number}
use Rattle.eh_bytes.specs.Grammar.{found}
use Rattle.eh_bytes.specs.Leb.{fits_signed}
use Rattle.eh_bytes.specs.Steps.{AreSteps}
use Rattle.frame_expr.specs.declared.operation.Code.{Code}
use Rattle.frame_expr.specs.declared.operation.Operand.{Operand}
use Rattle.frame_expr.specs.declared.operation.Operand.TheVariants.{Absent, U8, U16, U32, U64, I8, I16, I32, I64, Uleb, Sleb}
use Rattle.frame_expr.specs.declared.operation.Operation.{Operation}
use Rattle.frame_expr.specs.declared.operation.Operation.TheVariants.{Nop, Constant, Breg, Deref, Dup, Drop, Over, Pick, Swap, Rot, Unary, PlusUconst, Binary, Compare}
use Rattle.frame_expr.specs.declared.fault.ExprFault.{ExprFault}
use Rattle.frame_expr.specs.Expressions.{coded, next_operation}
use Rattle.frame_expr.specs.OperationEncodings.{DW_OP_dup, DW_OP_bra, DW_OP_lit0, DW_OP_reg0, DW_OP_breg0, DW_OP_breg16, DW_OP_nop}
use Rattle.frame_expr.specs.Operations.{code, alone, constant_code, stack_code, comparison_code, operation_code, operand_of, is_absent, operation_with, with_operand, wrapped}
use Rattle.trace_check.proofs.Bounded.{Below, below_front, below_back}
use Rattle.trace_check.proofs.Numbers.{fixed_below}

-- a constant has 64 bits; no other operand stays on the stack as it is
abbrev pub IsOperand : Operation → Type 0
IsOperand (Constant n) = n < 2 ^ 64
IsOperand _ = Unit {0}

before : (xs ys : List ℕ) → Below 256 (xs ++ ys) → Below 256 xs
before = below_front 256 (omega arith)

after : (xs ys : List ℕ) → Below 256 (xs ++ ys) → Below 256 ys
after = below_back 256 (omega arith)

-- ---- what operands spell

signed_fits : (x : ℤ) → fits_signed x ≡ true → cast_unsigned w64 x < 2 ^ 64
signed_fits (pos n) fits = let less = ltb-true n (2 ^ 63) fits in omega (arith, less)
signed_fits (negsuc n) fits = omega arith

read_fits : (b : Bool) (n m : ℕ) → n < 2 ^ 64 → cast_unsigned w64 (cond b (pos n) (negsuc m)) < 2 ^ 64
read_fits true n m less = less
read_fits false n m less = omega arith

-- a signed number of few bytes
narrow_fits : (w : Width) (n : ℕ) → n < 2 ^ 64 → cast_unsigned w64 (cast_signed w n) < 2 ^ 64
narrow_fits w8 n less = read_fits (ltb n (2 ^ 7)) n (2 ^ 8 - suc n) less
narrow_fits w16 n less = read_fits (ltb n (2 ^ 15)) n (2 ^ 16 - suc n) less
narrow_fits w32 n less = read_fits (ltb n (2 ^ 31)) n (2 ^ 32 - suc n) less
narrow_fits w64 n less = read_fits (ltb n (2 ^ 63)) n (2 ^ 64 - suc n) less
narrow_fits w128 n less = read_fits (ltb n (2 ^ 127)) n (2 ^ 128 - suc n) less

small : (n k m : ℕ) → m < n → n ≤ 2 ^ 64 → m ≡ k → k < 2 ^ 64
small n k m less fits same = omega (arith, less, fits, same)

-- of fixed width, read as a signed number
signed_one : (w : Width) (n size p : ℕ) (text : List ℕ) → (cast_size : 256 ^ size ≤ 2 ^ 64) → Below 256 text → (x : ℤ) → (y : ℕ) → little_number size text ≡ y → cast_signed w y ≡ x → cast_unsigned w64 x ≡ n → n < 2 ^ 64
signed_one w n size p text fits bytes x y is read wrapped =
    let less : y < 2 ^ 64 = small (256 ^ size) y (little_number size text) (fixed_below size text bytes) fits is in
    subst (λ k. k < 2 ^ 64) wrapped (subst (λ (z : ℤ). cast_unsigned w64 z < 2 ^ 64) read (narrow_fits w y less))

pub operand_fits : (form : Operand) (p : ℕ) (text : List ℕ) (n : ℕ) → Below 256 text → (operand_of form).Spells p text n → n < 2 ^ 64
operand_fits Absent p text n bytes is = small 1 n 0 (omega arith) (omega arith) is.1
operand_fits U8 p text n bytes is = small (256 ^ 1) n _ (fixed_below 1 text bytes) (omega arith) is.1
operand_fits U16 p text n bytes is = small (256 ^ 2) n _ (fixed_below 2 text bytes) (omega arith) is.1
operand_fits U32 p text n bytes is = small (256 ^ 4) n _ (fixed_below 4 text bytes) (omega arith) is.1
operand_fits U64 p text n bytes is = small (256 ^ 8) n _ (fixed_below 8 text bytes) (omega arith) is.1
operand_fits I8 p text n bytes (x, f1, b1, e1, (y, f2, b2, e2, s2, g2), g1) = signed_one w8 n 1 p f2 (omega arith) (before f2 b2 (subst (Below 256) e2 (before f1 b1 (subst (Below 256) e1 bytes)))) x y s2.1 g2.1 g1.1
operand_fits I16 p text n bytes (x, f1, b1, e1, (y, f2, b2, e2, s2, g2), g1) = signed_one w16 n 2 p f2 (omega arith) (before f2 b2 (subst (Below 256) e2 (before f1 b1 (subst (Below 256) e1 bytes)))) x y s2.1 g2.1 g1.1
operand_fits I32 p text n bytes (x, f1, b1, e1, (y, f2, b2, e2, s2, g2), g1) = signed_one w32 n 4 p f2 (omega arith) (before f2 b2 (subst (Below 256) e2 (before f1 b1 (subst (Below 256) e1 bytes)))) x y s2.1 g2.1 g1.1
operand_fits I64 p text n bytes is = small (256 ^ 8) n _ (fixed_below 8 text bytes) (omega arith) is.1
operand_fits Uleb p text n bytes (leb, less, is) = subst (λ k. k < 2 ^ 64) is less
operand_fits Sleb p text n bytes (x, f1, b1, e1, (leb, fits, read), g1) = subst (λ k. k < 2 ^ 64) g1.1 (signed_fits x (ap fits_signed (sym read) ∙ fits))

-- ---- the table of operations

pub record HasOperand (o : Option Code) : Type 0 where
  pub fits : IfSome o (λ (c : Code). IsOperand c.operation)

either : (b : Bool) (x y : Option Code) → HasOperand x → HasOperand y → HasOperand (cond b x y)
either true x y first second = first
either false x y first second = second

none : HasOperand None
none = record { fits = tt }

zero_fits : (form : Operand) → HasOperand (Some (record { operand = form; operation = Constant 0 }))
zero_fits form = record { fits = omega arith }

alone_fits : (form : Operand) (o : Operation) → IsOperand o → HasOperand (Some (record { operand = form; operation = o }))
alone_fits form o fits = record { fits = fits }

constant_fits : (b : ℕ) → HasOperand (constant_code b)
unfolding constant_code
constant_fits b = search (either, none, zero_fits, alone_fits) depth 40

stack_fits : (b : ℕ) → HasOperand (stack_code b)
unfolding stack_code
stack_fits b = search (either, none, alone_fits) depth 40

comparison_fits : (b : ℕ) → HasOperand (comparison_code b)
unfolding comparison_code
comparison_fits b = search (either, none, alone_fits) depth 40

pub code_fits : (b : ℕ) → b < 256 → HasOperand (operation_code b)
unfolding operation_code
code_fits b less =
    let literal : HasOperand (alone (Constant (b - DW_OP_lit0))) = record { fits = omega (arith, less) } in
    either (nat_lt b DW_OP_dup) (constant_code b) _ (constant_fits b)
    (either (nat_lt b DW_OP_bra) (stack_code b) _ (stack_fits b)
    (either (nat_lt b DW_OP_lit0) (comparison_code b) _ (comparison_fits b)
    (either (nat_lt b DW_OP_reg0) (alone (Constant (b - DW_OP_lit0))) _ literal
    (either (nat_lt b DW_OP_breg0) None _ none
    (either (nat_le b DW_OP_breg16) (code Sleb (Breg (b - DW_OP_breg0) 0)) _ (alone_fits Sleb (Breg (b - DW_OP_breg0) 0) tt)
    (either (nat_eq b DW_OP_nop) (alone Nop) None (alone_fits Absent Nop tt) none))))))

-- ---- operations

replaced : (n : ℕ) (o : Operation) → n < 2 ^ 64 → IsOperand (operation_with n o)
replaced n Nop less = tt
replaced n (Constant m) less = less
replaced n (Breg r m) less = tt
replaced n Deref less = tt
replaced n Dup less = tt
replaced n Drop less = tt
replaced n Over less = tt
replaced n (Pick m) less = tt
replaced n Swap less = tt
replaced n Rot less = tt
replaced n (Unary u) less = tt
replaced n (PlusUconst m) less = tt
replaced n (Binary k) less = tt
replaced n (Compare k) less = tt

operation_fits : (n : ℕ) (c : Code) → n < 2 ^ 64 → IsOperand c.operation → IsOperand (with_operand n c)
operation_fits n c less fits = chosen (is_absent c.operand)
  where
    chosen : (b : Bool) → IsOperand (cond b c.operation (operation_with n c.operation))
    chosen true = fits
    chosen false = replaced n c.operation less

coded_fits : (d at : ℕ) (c : Code) (p : ℕ) (text : List ℕ) (x : Operation × ℕ) → Below 256 text → IsOperand c.operation → (coded d at c).Spells p text x → IsOperand x.0
unfolding coded
coded_fits d at c p text x bytes fits (u, f1, b1, e1, checked, (n, f2, b2, e2, spelled, (v, f3, b3, e3, also, given))) =
    let rest = after f1 b1 (subst (Below 256) e1 bytes) in
    let less = operand_fits c.operand (p + length f1) f2 n (before f2 b2 (subst (Below 256) e2 rest)) spelled in
    subst (λ (y : Operation × ℕ). IsOperand y.0) given.1 (operation_fits n c less fits)

is_found : (o : Option Code) (f : ExprFault) (p : ℕ) (text : List ℕ) (c : Code) → (found o f).Spells p text c → o ≡ Some c
is_found None f p text c is = absurd is
is_found (Some x) f p text c is = ap Some is.1

pub next_fits : (d p : ℕ) (text : List ℕ) (x : Operation × ℕ) → Below 256 text → (next_operation d).Spells p text x → IsOperand x.0
unfolding next_operation
next_fits d p text x bytes (at, f1, b1, e1, here, (b, f2, b2, e2, one, (c, f3, b3, e3, is_code, spelled))) =
    let first = subst (Below 256) e2 (after f1 b1 (subst (Below 256) e1 bytes)) in
    let byte : b < 256 = subst (λ k. k < 256) one.1 (fixed_below 1 f2 (before f2 b2 first)) in
    let rest = subst (Below 256) e3 (after f2 b2 first) in
    let has : HasOperand (Some c) = subst HasOperand (is_found (operation_code b) _ _ f3 c is_code) (code_fits b byte) in
    coded_fits d at c _ b3 x (after f3 b3 rest) has.fits spelled

pub operations_fit : (p d : ℕ) (text : List ℕ) (os : List Operation) (e : ℕ) → Below 256 text → AreSteps next_operation p d text os e → AllByRecursion IsOperand os
operations_fit p d text [] e bytes are = tt
operations_fit p d text (o ∷ os) e bytes (m, front, back, split, one, more) =
    let all = subst (Below 256) split bytes in
    (next_fits d p front (o, m) (before front back all) one, operations_fit (p + length front) m back os e (after front back all) more)
