use Rattle.std.proofs.Common.{◌<◌, ◌≤◌, List, ℕ, length, vec_len, refl, arith}
use Rattle.script_text.specs.FaultText.{fault_text}
use Rattle.event_script.specs.Refusal.{IsFirstBad}
use Rattle.script_text.specs.Spelling.{IsScript}
use Rattle.run_ports.proofs.Endings.{ends_concluded}
use Rattle.run_ports.proofs.Pieces.{Hands-longer, IfSome-same}
use Rattle.run_ports.specs.declared.reading.TheConstants.{SCRIPT_LIMIT}
use Rattle.raise_run.specs.RaiseOutcome.{IsDueOf}
use Rattle.raise_run.specs.RaiseStatuses.{raise_ending_of}
use Rattle.raise_run.specs.declared.status.RaiseStatus.TheVariants as status
use Rattle.raise_run.proofs.running.raise_source.Goals as goal

pub returns-in-Ok-clause-ends : goal.returns-in-Ok-clause-ends
returns-in-Ok-clause-ends g c =
    let long : SCRIPT_LIMIT < length c.in-Ok.bytes.items = (let count = c.len.ensures in let above = c.if-len-gt-SCRIPT_LIMIT.true in omega (arith, c.in-Ok.bytes.ok.0)) in
    ends_concluded raise_ending_of (IsDueOf c.args.request.now _) (Unit {0}) _ _ status.TooLong _ refl
    (Hands-longer SCRIPT_LIMIT _ _ c.in-Ok.bytes.items c.in-Ok.ensures.handed long, refl)
    c.conclude.ensures.concludes

pub returns-in-Err-Bad-clause-ends : goal.returns-in-Err-Bad-clause-ends
returns-in-Err-Bad-clause-ends g c =
    let bytes = c.in-Ok.bytes in
    let short : length bytes.items ≤ SCRIPT_LIMIT = (let count = c.len.ensures in let below = c.if-len-gt-SCRIPT_LIMIT.false in omega (arith, bytes.ok.0)) in
    let within : vec_len bytes ≤ SCRIPT_LIMIT = (let count = c.len.ensures in let below = c.if-len-gt-SCRIPT_LIMIT.false in omega arith) in
    let P : List ℕ → Type 0 = λ had. (length had ≤ SCRIPT_LIMIT) × IsFirstBad had c.in-Err-Bad.line c.in-Err-Bad.reason in
    ends_concluded raise_ending_of (IsDueOf c.args.request.now _) (Unit {0}) _ _ status.Script _ refl
    (record { line = c.in-Err-Bad.line; reason = c.in-Err-Bad.reason; first = IfSome-same _ bytes.items P (c.in-Ok.ensures.all within) (short, rw (← c.deref.ensures.value) (rw c.in-Err-Bad.field-0-is at c.in-Err-Bad.ensures.bad)); text_is = refl })
    (c.conclude_made.ensures.concludes (fault_text c.in-Err-Bad.line c.in-Err-Bad.reason) c.print_fault.ensures.text)

pub returns-in-Ok-read-clause-ends : goal.returns-in-Ok-read-clause-ends
returns-in-Ok-read-clause-ends g c =
    let bytes = c.in-Ok.bytes in
    let short : length bytes.items ≤ SCRIPT_LIMIT = (let count = c.len.ensures in let below = c.if-len-gt-SCRIPT_LIMIT.false in omega (arith, bytes.ok.0)) in
    let within : vec_len bytes ≤ SCRIPT_LIMIT = (let count = c.len.ensures in let below = c.if-len-gt-SCRIPT_LIMIT.false in omega arith) in
    let P : List ℕ → Type 0 = λ had. (length had ≤ SCRIPT_LIMIT) × IsScript had c.in-Ok-read.script in
    c.raise_script.ensures.ends _ _ _ (IfSome-same _ bytes.items P (c.in-Ok.ensures.all within) (short, rw (← c.deref.ensures.value) c.in-Ok-read.ensures.ok))
