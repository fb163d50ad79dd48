-- The word that a step lacks is none that was told.
use Rattle.std.proofs.Common.{◌≡◌, ◌+◌, ◌%◌, ◌^◌, inl, inr, ℕ, List, [], ◌∷◌, Some, None, Ok, Err, Result, Option, refl, sym, subst}
use Rattle.std.specs.Prelude.{drop}
use Rattle.eh_bytes.specs.Results.{◌and_then◌}
use Rattle.frame_expr.specs.declared.fault.NoBytes.{NoBytes}
use Rattle.frame_expr.specs.declared.operation.Operation.{Operation}
use Rattle.frame_expr.specs.declared.operation.Operation.TheVariants.{Nop, Constant, Breg, Deref, Dup, Drop, Over, Pick, Swap, Rot, Unary, PlusUconst, Binary, Compare}
use Rattle.frame_expr.specs.Regions.{RegionData, word_at}
use Rattle.frame_expr.specs.Values.{IsValue, value_of, stack_of, stack_after, with_loaded, entry}
use Rattle.frame_parse.specs.Sections.{FdeData}
use Rattle.frame_rows.specs.declared.rule.CfaRuleWith.TheVariants as cfas
use Rattle.frame_rows.specs.declared.rule.RuleWith.TheVariants as rules
use Rattle.frame_rows.specs.Rules.{CfaRuleData, RowData, RuleData}
use Rattle.unwind_step.specs.declared.next.Stepped.TheVariants as stepped
use Rattle.unwind_step.specs.NextFrame.{IsNextFrame, IsStep, rule_in}
use Rattle.unwind_step.specs.Rules.{IsCfa, IsRestored, number_read, saved_at, saved_by}

abbrev wanted : ℕ → NoBytes
wanted a = record { address = a }

-- a word of a deref
stack_wants : (told : List RegionData) (columns s : List ℕ) (f : NoBytes) (o : Operation) → stack_after columns told o s ≡ Err f → word_at f.address told ≡ None
stack_wants told columns s f Nop h = absurd cc
stack_wants told columns s f (Constant n) h = absurd cc
stack_wants told columns s f (Breg r n) h = absurd cc
stack_wants told columns s f Deref h = go (word_at (entry 0 s) told) refl
  where
    go : (w : Option ℕ) → word_at (entry 0 s) told ≡ w → word_at f.address told ≡ None
    go (Some n) is = let never : with_loaded (entry 0 s) (drop 1 s) (Some n) ≡ Err f = subst (λ (w : Option ℕ). with_loaded (entry 0 s) (drop 1 s) w ≡ Err f) is h in absurd cc
    go None is =
        let same : with_loaded (entry 0 s) (drop 1 s) None ≡ Err f = subst (λ (w : Option ℕ). with_loaded (entry 0 s) (drop 1 s) w ≡ Err f) is h in
        let equal : wanted (entry 0 s) ≡ f = cc in
        subst (λ (k : NoBytes). word_at k.address told ≡ None) equal is
stack_wants told columns s f Dup h = absurd cc
stack_wants told columns s f Drop h = absurd cc
stack_wants told columns s f Over h = absurd cc
stack_wants told columns s f (Pick n) h = absurd cc
stack_wants told columns s f Swap h = absurd cc
stack_wants told columns s f Rot h = absurd cc
stack_wants told columns s f (Unary u) h = absurd cc
stack_wants told columns s f (PlusUconst n) h = absurd cc
stack_wants told columns s f (Binary k) h = absurd cc
stack_wants told columns s f (Compare k) h = absurd cc

value_wants : (told : List RegionData) (columns : List ℕ) (os : List Operation) (s : List ℕ) (f : NoBytes) → value_of columns told os s ≡ Err f → word_at f.address told ≡ None
unfolding value_of
value_wants told columns [] s f h = absurd cc
value_wants told columns (o ∷ os) s f h = go (λ t e. value_wants told columns os t f e) (stack_after columns told o s) refl
  where
    go : ((t : List ℕ) → value_of columns told os t ≡ Err f → word_at f.address told ≡ None) → (r : Result (List ℕ) NoBytes) → stack_after columns told o s ≡ r → word_at f.address told ≡ None
    go more (Ok t) is = more t (subst (λ (r : Result (List ℕ) NoBytes). (r and_then λ t. value_of columns told os t) ≡ Err f) is h)
    go more (Err g) is =
        let same : (Err g and_then λ t. value_of columns told os t) ≡ Err f = subst (λ (r : Result (List ℕ) NoBytes). (r and_then λ t. value_of columns told os t) ≡ Err f) is h in
        let equal : g ≡ f = cc in
        subst (λ (k : NoBytes). word_at k.address told ≡ None) equal (stack_wants told columns s g o is)

-- ---- rules

saved_wants : (told : List RegionData) (a : ℕ) (f : NoBytes) → Err f ≡ saved_at a told → word_at f.address told ≡ None
saved_wants told a f is = go (word_at a told) refl
  where
    go : (w : Option ℕ) → word_at a told ≡ w → word_at f.address told ≡ None
    go (Some n) at = let never : Err f ≡ number_read a (Some n) = subst (λ (w : Option ℕ). Err f ≡ number_read a w) at is in absurd cc
    go None at =
        let same : Err f ≡ number_read a None = subst (λ (w : Option ℕ). Err f ≡ number_read a w) at is in
        let equal : wanted a ≡ f = cc in
        subst (λ (k : NoBytes). word_at k.address told ≡ None) equal at

expression_wants : (told : List RegionData) (depth : ℕ) (text old : List ℕ) (start : Option ℕ) (f : NoBytes) → IsValue depth text old told start (Err f) → word_at f.address told ≡ None
expression_wants told depth text old start f is = value_wants told old is.0 (stack_of start) f (sym is.2)

cfa_wants : (told : List RegionData) (rule : CfaRuleData) (old : List ℕ) (f : NoBytes) → IsCfa rule old told (Err f) → word_at f.address told ≡ None
cfa_wants told cfas.Missing old f is = absurd is
cfa_wants told (cfas.Offset q n) old f is = absurd cc
cfa_wants told (cfas.Expression e) old f is = expression_wants told 0 e old None f is

restored_wants : (told : List RegionData) (column : ℕ) (rule : RuleData) (cfa : ℕ) (old : List ℕ) (f : NoBytes) → IsRestored column rule cfa old told (Err f) → word_at f.address told ≡ None
restored_wants told column rules.Unset cfa old f is = absurd cc
restored_wants told column rules.Undefined cfa old f is = absurd cc
restored_wants told column rules.Same cfa old f is = absurd cc
restored_wants told column (rules.Offset n) cfa old f is = saved_wants told ((cfa + n) % 2 ^ 64) f is
restored_wants told column (rules.ValOffset n) cfa old f is = absurd cc
restored_wants told column (rules.Register q) cfa old f is = absurd cc
restored_wants told column (rules.Expression e) cfa old f is = go is.address is.is_value is.is_number
  where
    go : (address : Result ℕ NoBytes) → IsValue 1 e old told (Some cfa) address → Err f ≡ saved_by address told → word_at f.address told ≡ None
    go (Ok a) value number = saved_wants told a f number
    go (Err g) value number =
        let equal : g ≡ f = cc in
        subst (λ (k : NoBytes). word_at k.address told ≡ None) equal (expression_wants told 1 e old (Some cfa) g value)
restored_wants told column (rules.ValExpression e) cfa old f is = expression_wants told 1 e old (Some cfa) f is

step_wants : (told : List RegionData) (row : RowData) (old : List ℕ) (a : ℕ) → IsStep row old told (stepped.NoBytes a) → word_at a told ≡ None
step_wants told row old a is = elim is.fails [
  | inl cfa ↦ cfa_wants told row.cfa old (wanted a) cfa
  | inr first ↦ restored_wants told first.2.r (rule_in row first.2.r) first.0 old (wanted a) first.2.fails
]

pub next_wants : (told : List RegionData) (f : FdeData) (look a : ℕ) (old : List ℕ) → IsNextFrame f look old told (stepped.NoBytes a) → word_at a told ≡ None
next_wants told f look a old is = step_wants told is.row old a is.is_step
