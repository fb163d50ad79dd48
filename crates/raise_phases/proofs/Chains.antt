-- A chain, record by record.
use Rattle.std.proofs.Common.{◌≡◌, ℕ, zero, suc, ◌+◌, ◌-◌, ◌<◌, ℤ, pos, ◌+ℤ◌, length, true, false, Option, Some, None, Result, Ok, Err, refl, sym, ap, ◌∙◌, arith}
use Rattle.raise_phases.specs.declared.actions.ActionRecord.{ActionRecord}
use Rattle.raise_phases.specs.declared.actions.ActionRecord.TheVariants.{Catches, Passes}
use Rattle.raise_phases.specs.declared.fault.LsdaFault.{LsdaFault}
use Rattle.raise_phases.specs.declared.fault.LsdaFault.TheVariants.{Chain}
use Rattle.raise_phases.specs.declared.outcome.Verdict.{Verdict}
use Rattle.raise_phases.specs.declared.outcome.Verdict.TheVariants.{Handler}
use Rattle.raise_phases.specs.Actions.{ActionsData, action_record, after_filter, place_among, chain_verdict, read_from, leads_on}
use Rattle.raise_phases.specs.Verdicts.{most_records}

pub chain_outside : (a : ActionsData) (pad n before : ℕ) (otherwise : Verdict) → chain_verdict a pad n before None otherwise ≡ Err (Chain before)
unfolding chain_verdict
chain_outside a pad zero before otherwise = refl
chain_outside a pad (suc n) before otherwise = refl

pub chain_too_long : (a : ActionsData) (pad before : ℕ) (next : Option ℕ) (otherwise : Verdict) → chain_verdict a pad zero before next otherwise ≡ Err (Chain before)
unfolding chain_verdict
chain_too_long a pad before None otherwise = refl
chain_too_long a pad before (Some p) otherwise = refl

pub chain_refused : (a : ActionsData) (pad n before p : ℕ) (otherwise : Verdict) (f : LsdaFault) → read_from (action_record a) a.bytes p ≡ Err f
    → chain_verdict a pad (suc n) before (Some p) otherwise ≡ Err f
unfolding chain_verdict
chain_refused a pad n before p otherwise f e = rw e refl

pub chain_caught : (a : ActionsData) (pad n before p : ℕ) (otherwise : Verdict) (i : ℕ) → read_from (action_record a) a.bytes p ≡ Ok (Catches i)
    → chain_verdict a pad (suc n) before (Some p) otherwise ≡ Ok (Handler pad i)
unfolding chain_verdict
chain_caught a pad n before p otherwise i e = rw e refl

pub chain_ends : (a : ActionsData) (pad n before p : ℕ) (otherwise : Verdict) (i at : ℕ) (d : ℤ) → read_from (action_record a) a.bytes p ≡ Ok (Passes i at d) → leads_on d ≡ false
    → chain_verdict a pad (suc n) before (Some p) otherwise ≡ Ok (after_filter pad i otherwise)
unfolding chain_verdict
chain_ends a pad n before p otherwise i at d e ends = rw (e, ends) refl

pub chain_goes_on : (a : ActionsData) (pad n before p : ℕ) (otherwise : Verdict) (i at : ℕ) (d : ℤ) → read_from (action_record a) a.bytes p ≡ Ok (Passes i at d) → leads_on d ≡ true
    → chain_verdict a pad (suc n) before (Some p) otherwise ≡ chain_verdict a pad n p (place_among (length a.bytes) (pos at +ℤ d)) (after_filter pad i otherwise)
unfolding chain_verdict
chain_goes_on a pad n before p otherwise i at d e leads = rw (e, leads) refl

-- ---- in the loop, k records after the first

pub at_record : (a : ActionsData) (pad k before p : ℕ) (next : Option ℕ) (otherwise : Verdict) (whole : Result Verdict LsdaFault) → whole ≡ chain_verdict a pad (most_records - k) before next otherwise
    → next ≡ Some p → k < most_records → whole ≡ chain_verdict a pad (suc (most_records - (k + 1))) before (Some p) otherwise
at_record a pad k before p next otherwise whole so is lt =
    let one : most_records - k ≡ suc (most_records - (k + 1)) = omega (arith, lt) in
    so ∙ ap (λ (q : Option ℕ). chain_verdict a pad (most_records - k) before q otherwise) is
    ∙ ap (λ (n : ℕ). chain_verdict a pad n before (Some p) otherwise) one

pub at_outside : (a : ActionsData) (pad k before : ℕ) (next : Option ℕ) (otherwise : Verdict) (whole : Result Verdict LsdaFault) → whole ≡ chain_verdict a pad (most_records - k) before next otherwise
    → next ≡ None → whole ≡ Err (Chain before)
at_outside a pad k before next otherwise whole so is =
    so ∙ ap (λ (q : Option ℕ). chain_verdict a pad (most_records - k) before q otherwise) is ∙ chain_outside a pad (most_records - k) before otherwise

pub at_end : (a : ActionsData) (pad k before : ℕ) (next : Option ℕ) (otherwise : Verdict) (whole : Result Verdict LsdaFault) → whole ≡ chain_verdict a pad (most_records - k) before next otherwise
    → (k < most_records → ⊥) → whole ≡ Err (Chain before)
at_end a pad k before next otherwise whole so ge =
    let none : most_records - k ≡ 0 = omega (arith, ge) in
    so ∙ ap (λ (n : ℕ). chain_verdict a pad n before next otherwise) none ∙ chain_too_long a pad before next otherwise

-- what a record says at its place, of those in the loop

pub goes_on_at : (a : ActionsData) (pad k before p : ℕ) (next : Option ℕ) (otherwise after : Verdict) (whole : Result Verdict LsdaFault) (r : ActionRecord) (i at : ℕ) (d : ℤ) (onward : Option ℕ)
    → whole ≡ chain_verdict a pad (most_records - k) before next otherwise → next ≡ Some p → k < most_records → Ok r ≡ read_from (action_record a) a.bytes p → r ≡ Passes i at d → leads_on d ≡ true
    → after ≡ after_filter pad i otherwise → onward ≡ place_among (length a.bytes) (pos at +ℤ d) → whole ≡ chain_verdict a pad (most_records - (k + 1)) p onward after
goes_on_at a pad k before p next otherwise after whole r i at d onward so is lt read says other left to =
    let told = chain_goes_on a pad (most_records - (k + 1)) before p otherwise i at d (sym read ∙ ap (λ (x : ActionRecord). Ok x) says) other in
    rw (left, to) (at_record a pad k before p next otherwise whole so is lt ∙ told)

pub ends_at : (a : ActionsData) (pad k before p : ℕ) (next : Option ℕ) (otherwise after : Verdict) (whole : Result Verdict LsdaFault) (r : ActionRecord) (i at : ℕ) (d : ℤ)
    → whole ≡ chain_verdict a pad (most_records - k) before next otherwise → next ≡ Some p → k < most_records → Ok r ≡ read_from (action_record a) a.bytes p → r ≡ Passes i at d → leads_on d ≡ false
    → after ≡ after_filter pad i otherwise → Ok after ≡ whole
ends_at a pad k before p next otherwise after whole r i at d so is lt read says ends left =
    let reading = sym read ∙ ap (λ (x : ActionRecord). Ok x) says in
    ap (λ (v : Verdict). Ok v) left ∙ sym (at_record a pad k before p next otherwise whole so is lt ∙ chain_ends a pad (most_records - (k + 1)) before p otherwise i at d reading ends)

pub caught_at : (a : ActionsData) (pad k before p : ℕ) (next : Option ℕ) (otherwise : Verdict) (whole : Result Verdict LsdaFault) (r : ActionRecord) (i : ℕ)
    → whole ≡ chain_verdict a pad (most_records - k) before next otherwise → next ≡ Some p → k < most_records → Ok r ≡ read_from (action_record a) a.bytes p → r ≡ Catches i
    → Ok (Handler pad i) ≡ whole
caught_at a pad k before p next otherwise whole r i so is lt read says =
    let reading = sym read ∙ ap (λ (x : ActionRecord). Ok x) says in
    sym (at_record a pad k before p next otherwise whole so is lt ∙ chain_caught a pad (most_records - (k + 1)) before p otherwise i reading)

pub refused_at : (a : ActionsData) (pad k before p : ℕ) (next : Option ℕ) (otherwise : Verdict) (whole : Result Verdict LsdaFault) (f : LsdaFault)
    → whole ≡ chain_verdict a pad (most_records - k) before next otherwise → next ≡ Some p → k < most_records → Err f ≡ read_from (action_record a) a.bytes p → Err f ≡ whole
refused_at a pad k before p next otherwise whole f so is lt read =
    sym (at_record a pad k before p next otherwise whole so is lt ∙ chain_refused a pad (most_records - (k + 1)) before p otherwise f (sym read))
