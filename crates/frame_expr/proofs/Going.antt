-- The value, worked out operation by operation.
use Rattle.std.proofs.Common.{◌≡◌, ℕ, suc, ◌<◌, ◌≤◌, List, [], ◌∷◌, length, drop, Option, Some, None, Result, Ok, Err, true, refl, sym, ap, subst, ◌∙◌, arith}
use Rattle.std.proofs.lemmas.List.{length-drop}
use Rattle.eh_bytes.specs.CursorData.{CursorData}
use Rattle.eh_bytes.specs.Results.{◌and_then◌}
use Rattle.eh_bytes.specs.Steps.{AreSteps}
use Rattle.eh_bytes.proofs.Steps.{no_steps, next_step, no_refusal, step_shrinks}
use Rattle.frame_expr.specs.declared.operation.Operation.{Operation}
use Rattle.frame_expr.specs.declared.operation.Operation.TheVariants.{Nop, Constant, Breg, Deref, Dup, Drop, Over, Pick, Swap, Rot, Unary, PlusUconst, Binary, Compare}
use Rattle.frame_expr.specs.declared.fault.ExprFault.{ExprFault}
use Rattle.frame_expr.specs.declared.fault.NoBytes.{NoBytes}
use Rattle.frame_expr.specs.Regions.{RegionData, word_at}
use Rattle.frame_expr.specs.Depth.{needs, fits, depth_after}
use Rattle.frame_expr.specs.Expressions.{next_operation, whole, IsExpr}
use Rattle.frame_expr.specs.Values.{entry, with_loaded, stack_after, value_of, stack_of, IsValue}
use Rattle.frame_expr.proofs.Parts.{operation_exact, operations_sound, operation_fits, enough, below}

-- ---- the depth after an operation is that of its stack

abbrev stacked : List ℕ → Result (List ℕ) NoBytes
stacked s = Ok s

long : (u t : List ℕ) (k : ℕ) → stacked u ≡ stacked t → length u ≡ k → length t ≡ k
long u t k e n = let same : u ≡ t = cc in sym (ap length same) ∙ n

loaded_long : (a : ℕ) (s t : List ℕ) (k : ℕ) (w : Option ℕ) → with_loaded a s w ≡ stacked t → suc (length s) ≡ k → length t ≡ k
loaded_long a s t k None e n = absurd cc
loaded_long a s t k (Some x) e n = long (x ∷ s) t k e n

after_length : (columns : List ℕ) (regions : List RegionData) (o : Operation) (s t : List ℕ) → needs o ≤ length s → stack_after columns regions o s ≡ stacked t → length t ≡ depth_after (length s) o
after_length columns regions Nop s t le e = long _ t _ e (omega arith)
after_length columns regions (Constant n) s t le e = long _ t _ e (omega arith)
after_length columns regions (Breg r n) s t le e = long _ t _ e (omega arith)
after_length columns regions Deref s t le e = loaded_long (entry 0 s) (drop 1 s) t _ (word_at (entry 0 s) regions) e (omega (arith, le, length-drop 1 s))
after_length columns regions Dup s t le e = long _ t _ e (omega (arith, le))
after_length columns regions Drop s t le e = long _ t _ e (omega (arith, le, length-drop 1 s))
after_length columns regions Over s t le e = long _ t _ e (omega (arith, le))
after_length columns regions (Pick n) s t le e = long _ t _ e (omega (arith, le))
after_length columns regions Swap s t le e = long _ t _ e (omega (arith, le, length-drop 2 s))
after_length columns regions Rot s t le e = long _ t _ e (omega (arith, le, length-drop 3 s))
after_length columns regions (Unary u) s t le e = long _ t _ e (omega (arith, le, length-drop 1 s))
after_length columns regions (PlusUconst n) s t le e = long _ t _ e (omega (arith, le, length-drop 1 s))
after_length columns regions (Binary k) s t le e = long _ t _ e (omega (arith, le, length-drop 2 s))
after_length columns regions (Compare k) s t le e = long _ t _ e (omega (arith, le, length-drop 2 s))

-- ---- between two operations

-- These operations are left, and their value on this stack is the value of all.
pub record IsAt (depth : ℕ) (bytes columns : List ℕ) (regions : List RegionData) (start : Option ℕ) (r : CursorData) (s : List ℕ) : Type 0 where
  pub all : List Operation
  pub os : List Operation
  pub last : ℕ
  pub whole : IsExpr depth bytes all
  pub spelled : AreSteps next_operation r.at (length s) r.bytes os last
  pub some : 0 < last
  pub same : value_of columns regions all (stack_of start) ≡ value_of columns regions os s
  pub deep : length s ≤ 32

pub start_at : (depth : ℕ) (bytes columns : List ℕ) (regions : List RegionData) (start : Option ℕ) → ((os : List Operation) × IsExpr depth bytes os) → length (stack_of start) ≡ depth
    → length (stack_of start) ≤ 32 → IsAt depth bytes columns regions start (whole bytes) (stack_of start)
start_at depth bytes columns regions start known deep le = record {
  all = known.0;
  os = known.0;
  last = known.1.0;
  whole = known.1;
  spelled = subst (λ (d : ℕ). AreSteps next_operation 0 d bytes known.0 known.1.0) (sym deep) known.1.1;
  some = known.1.2;
  same = refl;
  deep = le;
}

pub short_start : (start : Option ℕ) → length (stack_of start) ≤ 32
short_start None = omega arith
short_start (Some n) = omega arith

value_on : (columns : List ℕ) (regions : List RegionData) (o : Operation) (os : List Operation) (s : List ℕ) (q : Result (List ℕ) NoBytes) → stack_after columns regions o s ≡ q
    → value_of columns regions (o ∷ os) s ≡ (q and_then λ t. value_of columns regions os t)
unfolding value_of
value_on columns regions o os s q e = ap (λ (m : Result (List ℕ) NoBytes). m and_then λ t. value_of columns regions os t) e

value_end : (columns : List ℕ) (regions : List RegionData) (s : List ℕ) → value_of columns regions [] s ≡ Ok (entry 0 s)
unfolding value_of
value_end columns regions s = refl

pub at_depth : (d e : ℕ) (r : CursorData) (q : Result ((Operation × ℕ) × CursorData) ExprFault) → d ≡ e → (next_operation d).read r ≡ q → (next_operation e).read r ≡ q
at_depth d e r q same read = subst (λ (n : ℕ). (next_operation n).read r ≡ q) same read

pub fits_on : (s : List ℕ) (r : CursorData) (o : Operation) (k : ℕ) (m : CursorData) → (next_operation (length s)).read r ≡ Ok ((o, k), m) → fits (length s) o ≡ true
fits_on s r o k m read =
    let t = (operation_exact (length s)).takes r (o, k) m read in
    (operation_fits (length s) r.at t.front (o, k) t.spells).0

deep_on : (s : List ℕ) (r : CursorData) (o : Operation) (k : ℕ) (m : CursorData) → (next_operation (length s)).read r ≡ Ok ((o, k), m) → k ≡ depth_after (length s) o
deep_on s r o k m read =
    let t = (operation_exact (length s)).takes r (o, k) m read in
    (operation_fits (length s) r.at t.front (o, k) t.spells).1

pub one_on : (depth : ℕ) (bytes columns : List ℕ) (regions : List RegionData) (start : Option ℕ) (r : CursorData) (s : List ℕ) (o : Operation) (k : ℕ) (m : CursorData) (t : List ℕ) → IsAt depth bytes columns regions start r s
    → 0 < length r.bytes → (next_operation (length s)).read r ≡ Ok ((o, k), m) → stack_after columns regions o s ≡ stacked t → IsAt depth bytes columns regions start m t
one_on depth bytes columns regions start r s o k m t at some read done =
    let n = next_step next_operation r (length s) at.os at.last o k m operations_sound some at.spelled read in
    let fit = fits_on s r o k m read in
    let deep : length t ≡ depth_after (length s) o = after_length columns regions o s t (enough (length s) o fit) done in
    let here : k ≡ length t = deep_on s r o k m read ∙ sym deep in
    record {
      all = at.all;
      os = n.0;
      last = at.last;
      whole = at.whole;
      spelled = subst (λ (d : ℕ). AreSteps next_operation m.at d m.bytes n.0 at.last) here n.2;
      some = at.some;
      same = at.same ∙ ap (λ (ps : List Operation). value_of columns regions ps s) n.1 ∙ value_on columns regions o n.0 s (stacked t) done;
      deep = omega (arith, deep, below (length s) o fit);
    }

pub shorter_on : (s : List ℕ) (r : CursorData) (o : Operation) (k : ℕ) (m : CursorData) → (next_operation (length s)).read r ≡ Ok ((o, k), m) → length m.bytes < length r.bytes
shorter_on s r o k m read = step_shrinks next_operation (length s) r (o, k) m operations_sound read

pub stops_on : (depth : ℕ) (bytes columns : List ℕ) (regions : List RegionData) (start : Option ℕ) (r : CursorData) (s : List ℕ) (o : Operation) (k : ℕ) (m : CursorData) (f : NoBytes) → IsAt depth bytes columns regions start r s
    → 0 < length r.bytes → (next_operation (length s)).read r ≡ Ok ((o, k), m) → stack_after columns regions o s ≡ Err f → IsValue depth bytes columns regions start (Err f)
stops_on depth bytes columns regions start r s o k m f at some read done =
    let n = next_step next_operation r (length s) at.os at.last o k m operations_sound some at.spelled read in
    (at.all, at.whole, sym (at.same ∙ ap (λ (ps : List Operation). value_of columns regions ps s) n.1 ∙ value_on columns regions o n.0 s (Err f) done))

pub no_fault : (depth : ℕ) (bytes columns : List ℕ) (regions : List RegionData) (start : Option ℕ) (r : CursorData) (s : List ℕ) (f : ExprFault) → IsAt depth bytes columns regions start r s
    → 0 < length r.bytes → (next_operation (length s)).read r ≡ Err f → ⊥
no_fault depth bytes columns regions start r s f at some read = no_refusal next_operation r (length s) at.os at.last f operations_sound some at.spelled read

last_entry : (r : CursorData) (s : List ℕ) (os : List Operation) (last : ℕ) → AreSteps next_operation r.at (length s) r.bytes os last → os ≡ [] → 0 < last → 0 < length s
last_entry r s [] last steps none some = omega (arith, steps.1)
last_entry r s (o ∷ os) last steps none some = absurd cc

pub at_last : (depth : ℕ) (bytes columns : List ℕ) (regions : List RegionData) (start : Option ℕ) (r : CursorData) (s : List ℕ) → IsAt depth bytes columns regions start r s
    → length r.bytes ≤ 0 → IsValue depth bytes columns regions start (Ok (entry 0 s)) × (0 < length s)
at_last depth bytes columns regions start r s at none =
    let n = no_steps next_operation r.at (length s) r.bytes at.os at.last operations_sound at.spelled none in
    ((at.all, at.whole, sym (at.same ∙ ap (λ (ps : List Operation). value_of columns regions ps s) n ∙ value_end columns regions s)), last_entry r s at.os at.last at.spelled n at.some)
