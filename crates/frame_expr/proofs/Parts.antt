-- Operations are exact, expressions are whole, and what they spell doesn't depend on their place.
use Rattle.std.proofs.Common.{◌≡◌, ℕ, ◌+◌, ◌-◌, ◌<◌, ◌≤◌, ◌⊎◌, List, [], length, length-append, Bool, true, false, cond, Result, Ok, Err, nat_lt, nat_le, refl, sym, ap, subst, ◌∙◌, arith, inl, inr}
use Rattle.std.specs.Prelude.{◌&&◌, is_ok, slice_range, IfOk, IfErr}
use Rattle.std.proofs.lemmas.List.{take_all}
use Rattle.std.specs.Int.{w8, w16, w32}
use Rattle.std.proofs.lemmas.Bool.{ltb-true, lt-ltb, leb-true}
use Rattle.eh_bytes.specs.CursorData.{CursorData, Gives}
use Rattle.eh_bytes.specs.Steps.{AreSteps, steps_from}
use Rattle.eh_bytes.proofs.Results.{err_is}
use Rattle.eh_bytes.proofs.Exact.{left, IsExact, then_exact, give_exact, here_exact, check_exact, found_exact, lift_exact}
use Rattle.eh_bytes.proofs.Wholes.{IsWhole, ended_whole, bytes_of_whole}
use Rattle.eh_bytes.proofs.Fields.{fixed_exact, uleb_exact, sleb_exact}
use Rattle.eh_bytes.proofs.Pointers.{signed_fixed_exact}
use Rattle.eh_bytes.proofs.Steps.{AreSound, steps_from_whole, steps_unique, read_step, read_refusal, read_end, step_shrinks}
use Rattle.eh_bytes.proofs.Places.{AreAlike, then_alike, here_alike, give_alike, check_alike, found_alike, lift_alike, steps_alike}
use Rattle.eh_bytes.specs.Fields.{fixed}
use Rattle.frame_expr.specs.declared.operation.Operand.{Operand}
use Rattle.frame_expr.specs.declared.operation.Operand.TheVariants.{Absent, U8, U16, U32, U64, I8, I16, I32, I64, Uleb, Sleb}
use Rattle.frame_expr.specs.declared.operation.Operation.{Operation}
use Rattle.frame_expr.specs.declared.operation.Code.{Code}
use Rattle.frame_expr.specs.declared.fault.ExprFault.{ExprFault}
use Rattle.frame_expr.specs.declared.fault.ExprFault.TheVariants as faults
use Rattle.frame_expr.specs.Operations.{operation_code, operand_of, with_operand}
use Rattle.frame_expr.specs.Depth.{needs, fits, depth_after, byte_fits}
use Rattle.frame_expr.specs.Expressions.{expr_fault, coded, next_operation, some_entry, operations, expression, whole, is_expression, IsExpr, IsExprOrRefused, IsRefusedExpr}

operand_exact : (o : Operand) → IsExact (operand_of o)
operand_exact Absent = give_exact 0
operand_exact U8 = fixed_exact 1
operand_exact U16 = fixed_exact 2
operand_exact U32 = fixed_exact 4
operand_exact U64 = fixed_exact 8
operand_exact I8 = then_exact _ _ (signed_fixed_exact w8) (λ x. give_exact _)
operand_exact I16 = then_exact _ _ (signed_fixed_exact w16) (λ x. give_exact _)
operand_exact I32 = then_exact _ _ (signed_fixed_exact w32) (λ x. give_exact _)
operand_exact I64 = fixed_exact 8
operand_exact Uleb = uleb_exact
operand_exact Sleb = then_exact _ _ sleb_exact (λ x. give_exact _)

coded_exact : (d at : ℕ) (c : Code) → IsExact (coded d at c)
unfolding coded
coded_exact d at c =
    then_exact _ _ (check_exact (byte_fits d c.operation) (faults.Depth at)) (λ _.
    then_exact _ _ (lift_exact expr_fault _ (operand_exact c.operand)) (λ n.
    then_exact _ _ (check_exact (fits d (with_operand n c)) (faults.Depth at)) (λ _. give_exact _)))

pub operation_exact : (d : ℕ) → IsExact (next_operation d)
unfolding next_operation
operation_exact d =
    then_exact _ _ here_exact (λ at.
    then_exact _ _ (lift_exact expr_fault _ (fixed_exact 1)) (λ b.
    then_exact _ _ (found_exact (operation_code b) (faults.Operation at b)) (λ c. coded_exact d at c)))

-- an operation takes its byte at least
operation_grows : (d p : ℕ) (front : List ℕ) (x : Operation × ℕ) → (next_operation d).Spells p front x → 1 ≤ length front
unfolding next_operation
operation_grows d p front x a =
    let byte = a.5 in
    omega (arith, byte.4.0, ap length byte.3, length-append byte.1 byte.2, ap length a.3, length-append a.1 a.2)

pub operations_sound : AreSound next_operation
operations_sound = record { exact = operation_exact; grows = operation_grows }

pub operations_whole : (d : ℕ) → IsWhole (operations d)
operations_whole d = ended_whole (steps_from next_operation d) some_entry (steps_from_whole next_operation d operations_sound)

pub expression_whole : (d : ℕ) → IsWhole (expression d)
unfolding expression
expression_whole d = bytes_of_whole (operations d) (operations_whole d)

-- ---- what an operation does to the depth

and-first : (a b : Bool) → (a && b) ≡ true → a ≡ true
and-first true b e = refl
and-first false b e = absurd cc

and-second : (a b : Bool) → (a && b) ≡ true → b ≡ true
and-second true b e = e
and-second false b e = absurd cc

pub enough : (d : ℕ) (o : Operation) → fits d o ≡ true → needs o ≤ d
enough d o fit = leb-true (needs o) d (and-first (nat_le (needs o) d) (nat_le (depth_after d o) 32) fit)

pub below : (d : ℕ) (o : Operation) → fits d o ≡ true → depth_after d o ≤ 32
below d o fit = leb-true (depth_after d o) 32 (and-second (nat_le (needs o) d) (nat_le (depth_after d o) 32) fit)

checked : {A : Type 0} (b : Bool) → ((b ≡ true) × A) ⊎ ((b ≡ false) × ⊥) → b ≡ true
checked b s = elim s [ inl t ↦ t.0 | inr t ↦ absurd t.1 ]

coded_fits : (d at p : ℕ) (c : Code) (front : List ℕ) (x : Operation × ℕ) → (coded d at c).Spells p front x → (fits d x.0 ≡ true) × (x.1 ≡ depth_after d x.0)
unfolding coded
coded_fits d at p c front x s =
    let o = with_operand s.5.0 c in
    let last = s.5.5 in
    let made : (o, depth_after d o) ≡ x = last.5.1 in
    let fit : fits d o ≡ true = checked (fits d o) last.4 in
    let first : o ≡ x.0 = ap (λ (z : Operation × ℕ). z.0) made in
    (subst (λ (q : Operation). fits d q ≡ true) first fit, sym (ap (λ (z : Operation × ℕ). z.1) made) ∙ ap (depth_after d) first)

pub operation_fits : (d p : ℕ) (front : List ℕ) (x : Operation × ℕ) → (next_operation d).Spells p front x → (fits d x.0 ≡ true) × (x.1 ≡ depth_after d x.0)
unfolding next_operation
operation_fits d p front x s = coded_fits d s.0 _ s.5.5.0 s.5.5.2 x s.5.5.5

-- ---- the same wherever they stand

operand_alike : (o : Operand) → AreAlike (operand_of o) (operand_of o)
operand_alike Absent = record { same = λ p q text x s. s }
operand_alike U8 = record { same = λ p q text x s. s }
operand_alike U16 = record { same = λ p q text x s. s }
operand_alike U32 = record { same = λ p q text x s. s }
operand_alike U64 = record { same = λ p q text x s. s }
operand_alike I8 = record { same = λ p q text x s. s }
operand_alike I16 = record { same = λ p q text x s. s }
operand_alike I32 = record { same = λ p q text x s. s }
operand_alike I64 = record { same = λ p q text x s. s }
operand_alike Uleb = record { same = λ p q text x s. s }
operand_alike Sleb = record { same = λ p q text x s. s }

coded_alike : (d at place : ℕ) (c : Code) → AreAlike (coded d at c) (coded d place c)
unfolding coded
coded_alike d at place c =
    then_alike _ _ _ _ (check_alike (byte_fits d c.operation) (faults.Depth at) (faults.Depth place)) (λ _.
    then_alike _ _ _ _ (lift_alike expr_fault _ _ (operand_alike c.operand)) (λ n.
    then_alike _ _ _ _ (check_alike (fits d (with_operand n c)) (faults.Depth at) (faults.Depth place)) (λ _. give_alike _)))

operation_alike : (d : ℕ) → AreAlike (next_operation d) (next_operation d)
unfolding next_operation
operation_alike d =
    here_alike _ _ (λ at place.
    then_alike _ _ _ _ (lift_alike expr_fault (fixed 1) (fixed 1) (record { same = λ p q text x s. s })) (λ b.
    then_alike _ _ _ _ (found_alike (operation_code b) (faults.Operation at b) (faults.Operation place b)) (λ c. coded_alike d at place c)))

-- ---- expressions by their operations

entry_left : (p e t : ℕ) → some_entry p t ≡ Ok e → 0 < t
entry_left p e t s = entry_tested (nat_lt 0 t) refl s
  where
    entry_tested : (b : Bool) → nat_lt 0 t ≡ b → cond b (Ok t) (Err (faults.Depth p)) ≡ Ok e → 0 < t
    entry_tested true some s = ltb-true _ _ some
    entry_tested false some s = absurd cc

left_entry : (p t : ℕ) → 0 < t → some_entry p t ≡ Ok t
left_entry p t some = let test : nat_lt 0 t ≡ true = lt-ltb _ _ some in rw test refl

spelled : (d p : ℕ) (bytes : List ℕ) (os : List Operation) (e : ℕ) → AreSteps next_operation p d bytes os e → 0 < e → (expression d).Spells p bytes bytes
unfolding expression
spelled d p bytes os e steps some = ((e, (e, (os, steps), left_entry (p + length bytes) e some)), refl)

operations_in : (d p : ℕ) (bytes y : List ℕ) → (expression d).Spells p bytes y → (os : List Operation) × (e : ℕ) × AreSteps next_operation p d bytes os e × (0 < e)
unfolding expression
operations_in d p bytes y s =
    let x = s.0.1 in
    (x.1.0, x.0, x.1.1, entry_left (p + length bytes) s.0.0 x.0 x.2)

-- an expression stands for its bytes
pub spelled_by : (d p : ℕ) (bytes y : List ℕ) → (expression d).Spells p bytes y → bytes ≡ y
unfolding expression
spelled_by d p bytes y s = s.1

pub of_expr : (d : ℕ) (bytes : List ℕ) (os : List Operation) → IsExpr d bytes os → (expression d).read (whole bytes) ≡ Ok (bytes, left (length bytes) [])
of_expr d bytes os s =
    let read = (expression_whole d).again 0 bytes bytes (spelled d 0 bytes os s.0 s.1 s.2) in
    let place : 0 + length bytes ≡ length bytes = omega arith in
    read ∙ ap (λ (q : ℕ). Ok (bytes, left q [])) place

-- bytes that are an expression from some place on are one by themselves
pub anywhere : (d p : ℕ) (bytes y : List ℕ) → (expression d).Spells p bytes y → is_expression d bytes ≡ true
anywhere d p bytes y s =
    let o = operations_in d p bytes y s in
    ap is_ok (of_expr d bytes o.0 (o.1, steps_alike next_operation operation_alike p 0 d o.1 bytes o.0 o.2, o.3))

read_expr : (d : ℕ) (bytes : List ℕ) (m : Result (List ℕ × CursorData) ExprFault) → (expression d).read (whole bytes) ≡ m → is_ok m ≡ true → (os : List Operation) × IsExpr d bytes os
read_expr d bytes (Ok z) e ok =
    let t = (expression_whole d).takes (whole bytes) z.0 z.1 e in
    let o = operations_in d 0 bytes z.0 t.spells in
    (o.0, (o.1, o.2, o.3))
read_expr d bytes (Err f) e ok = absurd cc

pub known : (d : ℕ) (bytes : List ℕ) → is_expression d bytes ≡ true → (os : List Operation) × IsExpr d bytes os
known d bytes ok = read_expr d bytes ((expression d).read (whole bytes)) refl ok

-- ---- one answer

decided : (d : ℕ) (bytes : List ℕ) (m : Result (List ℕ × CursorData) ExprFault) → (expression d).read (whole bytes) ≡ m → IsExprOrRefused d bytes
decided d bytes (Ok z) e =
    let k = read_expr d bytes (Ok z) e refl in
    inl (
      k.0,
      k.1,
      (λ ps t. steps_unique next_operation 0 d bytes ps t.0 k.0 k.1.0 operations_sound t.1 k.1.1),
      (λ f t. let both = sym ((expression_whole d).refused 0 bytes f t) ∙ e in absurd cc),
    )
decided d bytes (Err f) e = inr (
  f,
  (expression_whole d).refuses (whole bytes) f e,
  (λ g t. err_is {A = List ℕ × CursorData} g f (sym ((expression_whole d).refused 0 bytes g t) ∙ e)),
  (λ ps t. let both = sym (of_expr d bytes ps t) ∙ e in absurd cc),
)

pub one_answer : (depth : ℕ) (bytes : List ℕ) → IsExprOrRefused depth bytes
one_answer d bytes = decided d bytes ((expression d).read (whole bytes)) refl

-- ---- reading operation by operation

pub read_on : (d : ℕ) (old r : CursorData) (e : ℕ) (x : Operation × ℕ) (mid : CursorData) → (steps_from next_operation d).read old ≡ (steps_from next_operation e).read r → 0 < length r.bytes
    → (next_operation e).read r ≡ Ok (x, mid) → ((steps_from next_operation d).read old ≡ (steps_from next_operation x.1).read mid) × (x.1 ≤ 32) × (length mid.bytes < length r.bytes)
read_on d old r e x mid so some read =
    let t = (operation_exact e).takes r x mid read in
    let f = operation_fits e r.at t.front x t.spells in
    (so ∙ read_step next_operation e r x mid operations_sound some read, omega (arith, f.1, below e x.0 f.0), step_shrinks next_operation e r x mid operations_sound read)

pub read_refused : (d : ℕ) (old r : CursorData) (e : ℕ) (f : ExprFault) → (steps_from next_operation d).read old ≡ (steps_from next_operation e).read r → 0 < length r.bytes
    → (next_operation e).read r ≡ Err f → (expression d).read old ≡ Err f
unfolding expression
read_refused d old r e f so some read =
    let stopped = so ∙ read_refusal next_operation e r f some read in
    rw stopped refl

pub read_empty : (d : ℕ) (old r : CursorData) (e : ℕ) → (steps_from next_operation d).read old ≡ (steps_from next_operation e).read r → length r.bytes ≤ 0 → e ≡ 0
    → (expression d).read old ≡ Err (faults.Depth r.at)
unfolding expression
read_empty d old r e so none empty =
    let last = so ∙ read_end next_operation e r none in
    rw (last, empty) refl

pub read_whole : (d : ℕ) (old r : CursorData) (e : ℕ) → (steps_from next_operation d).read old ≡ (steps_from next_operation e).read r → length r.bytes ≤ 0 → 0 < e
    → (expression d).read old ≡ Ok (old.bytes, r)
unfolding expression
read_whole d old r e so none some =
    let last = so ∙ read_end next_operation e r none in
    let test : nat_lt 0 e ≡ true = lt-ltb _ _ some in
    rw (last, test) refl

pub is_read : (d : ℕ) (old r : CursorData) (y : List ℕ) → (expression d).read old ≡ Ok (y, r) → is_expression d old.bytes ≡ true
is_read d old r y read =
    let t = (expression_whole d).takes old y r read in
    anywhere d old.at old.bytes y t.spells

-- ---- bytes from the start

pub from_start : (r : CursorData) (bytes : List ℕ) → r.bytes ≡ slice_range bytes 0 (length bytes) → r.at ≡ 0 → r ≡ whole bytes
from_start r bytes same at =
    let all : slice_range bytes 0 (length bytes) ≡ bytes = take_all (length bytes - 0) bytes (omega arith) in
    ap (λ (l : List ℕ). left r.at l) (same ∙ all) ∙ ap (λ (q : ℕ). left q bytes) at

pub read_gives : {X : Type 0} (d : ℕ) (view : X → List ℕ) (bytes : List ℕ) (r : CursorData) (m : Result X ExprFault) (new : CursorData) → r ≡ whole bytes
    → Gives view (expression d).read r m new
    → IfOk m (λ e. view e ≡ bytes) × IfOk m (λ e. (os : List Operation) × IsExpr d bytes os) × IfErr m (IsRefusedExpr d bytes)
read_gives d view bytes r (Ok x) new same e =
    let read : (expression d).read (whole bytes) ≡ Ok (view x, new) = subst (λ (z : CursorData). (expression d).read z ≡ Ok (view x, new)) same e in
    let t = (expression_whole d).takes (whole bytes) (view x) new read in
    (sym (spelled_by d 0 bytes (view x) t.spells), read_expr d bytes (Ok (view x, new)) read refl, tt)
read_gives d view bytes r (Err f) new same e =
    let read : (expression d).read (whole bytes) ≡ Err f = subst (λ (z : CursorData). (expression d).read z ≡ Err f) same e in
    (tt, tt, (expression_whole d).refuses (whole bytes) f read)
