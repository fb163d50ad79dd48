use Rattle.std.proofs.Common.{◌≡◌, ◌≤◌, List, ℕ, length, take, drop, refl, ◌∙◌, sym, ap, subst}
use Rattle.script_text.specs.FaultText.{fault_text}
use Rattle.event_script.specs.Refusal.{IsFirstBad}
use Rattle.script_text.specs.Spelling.{IsScript}
use Rattle.run_ports.proofs.Endings.{ends_concluded}
use Rattle.run_ports.proofs.Pieces.{IfSome-same}
use Rattle.check_run.specs.CheckOutcome.{IsDueFor}
use Rattle.check_run.specs.CheckStatuses.{check_ending_of}
use Rattle.check_run.specs.Parts.{script_part, journal_part}
use Rattle.check_run.specs.declared.running.TheConstants.{CHECK_LIMIT}
use Rattle.check_run.specs.declared.status.CheckStatus.TheVariants as status
use Rattle.check_run.proofs.running.check_input.Goals as goal

pub returns-in-Ok-clause-ends : goal.returns-in-Ok-clause-ends
returns-in-Ok-clause-ends g c = λ input reads reads_after same.
    let bytes : List ℕ = c.args.bytes.now in
    let front : c.split_at.result.0.now ≡ script_part bytes = c.split_at.ensures.front ∙ ap (λ n. take n bytes) c.script_length.ensures.count in
    let back : journal_part bytes ≡ c.split_at.result.1.now = ap (λ n. drop n bytes) (sym c.script_length.ensures.count) ∙ sym c.split_at.ensures.back in
    let P : List ℕ → Type 0 = λ had. (length had ≤ CHECK_LIMIT) × IsScript (script_part had) c.in-Ok.script in
    let Q : List ℕ → Type 0 = λ had. journal_part had ≡ c.split_at.result.1.now in
    let spelled = subst (λ part. IsScript part c.in-Ok.script) front c.in-Ok.ensures.ok in
    c.check_text.ensures.ends input reads reads_after (IfSome-same input bytes P same (c.requires.short, spelled)) (IfSome-same input bytes Q same back)

pub returns-in-Err-Bad-clause-ends : goal.returns-in-Err-Bad-clause-ends
returns-in-Err-Bad-clause-ends g c = λ input reads reads_after same.
    let bytes : List ℕ = c.args.bytes.now in
    let line = c.in-Err-Bad.line in
    let reason = c.in-Err-Bad.reason in
    let front : c.split_at.result.0.now ≡ script_part bytes = c.split_at.ensures.front ∙ ap (λ n. take n bytes) c.script_length.ensures.count in
    let P : List ℕ → Type 0 = λ had. (length had ≤ CHECK_LIMIT) × IsFirstBad (script_part had) line reason in
    let bad = rw c.in-Err-Bad.field-0-is at c.in-Err-Bad.ensures.bad in
    let first = subst (λ part. IsFirstBad part line reason) front bad in
    ends_concluded check_ending_of (IsDueFor input) (Unit {0}) _ _ status.Script _ refl
    (record { line = line; reason = reason; first = IfSome-same input bytes P same (c.requires.short, first); text_is = refl })
    (c.conclude_made.ensures.concludes (fault_text line reason) (rw (c.in-Err-Bad.line-is, c.in-Err-Bad.reason-is) at c.print_fault.ensures.text))
