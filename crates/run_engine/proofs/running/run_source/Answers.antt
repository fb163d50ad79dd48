use Rattle.std.proofs.Common.{◌<◌, ◌≤◌, List, ℕ, length, refl, inr, arith}
use Rattle.script_text.specs.FaultText.{fault_text}
use Rattle.event_script.specs.Refusal.{IsFirstBad}
use Rattle.script_text.specs.Text.{journal_text}
use Rattle.run_ports.specs.declared.reading.TheConstants.{SCRIPT_LIMIT}
use Rattle.run_ports.specs.declared.reading.Taken.TheVariants.{Whole, TooLong}
use Rattle.run_ports.specs.Takers.{Came}
use Rattle.command_line.specs.CommandLine.{IsCommandLine}
use Rattle.command_line.specs.declared.taking.Command.TheVariants.{Run}
use Rattle.run_engine.specs.declared.status.Status.TheVariants as status
use Rattle.run_engine.specs.Kept.{journal_told}
use Rattle.run_engine.specs.Outcome.{IsDue}
use Rattle.run_engine.specs.Statuses.{ending_of}
use Rattle.run_engine.proofs.Endings.{journal_due}
use Rattle.run_ports.proofs.Endings.{ends_concluded}
use Rattle.run_ports.proofs.Pieces.{Hands-longer, IfSome-same}
use Rattle.run_engine.proofs.running.run_source.Goals as goal

pub returns-in-Ok-TooLong-clause-ends : goal.returns-in-Ok-TooLong-clause-ends
returns-in-Ok-TooLong-clause-ends g c = λ words is.
    let came : Came SCRIPT_LIMIT _ _ _ TooLong = rw c.in-Ok-TooLong.field-0-is at c.in-Ok-TooLong.ensures.came in
    let long : SCRIPT_LIMIT < length came.bytes = omega (arith, came.limited) in
    ends_concluded ending_of (IsDue words _) (IsCommandLine words Run) _ _ status.TooLong _ refl
    (is, Hands-longer SCRIPT_LIMIT _ _ came.bytes came.handed long, refl)
    c.conclude.ensures.concludes

pub returns-in-Err-Bad-clause-ends : goal.returns-in-Err-Bad-clause-ends
returns-in-Err-Bad-clause-ends g c = λ words is.
    let came : Came SCRIPT_LIMIT _ _ _ Whole = rw c.in-Ok-Whole.field-0-is at c.in-Ok-Whole.ensures.came in
    let P : List ℕ → Type 0 = λ had. (length had ≤ SCRIPT_LIMIT) × IsFirstBad had c.in-Err-Bad.line c.in-Err-Bad.reason in
    ends_concluded ending_of (IsDue words _) (IsCommandLine words Run) _ _ status.Script _ refl
    (is, record { line = c.in-Err-Bad.line; reason = c.in-Err-Bad.reason; first = IfSome-same _ came.bytes P came.limited.1 (came.limited.0, rw c.in-Err-Bad.field-0-is at c.in-Err-Bad.ensures.bad came.bytes came.taken); text_is = refl })
    (c.conclude_made.ensures.concludes (fault_text c.in-Err-Bad.line c.in-Err-Bad.reason) c.print_fault.ensures.text)

pub returns-in-Ok-write_journal-clause-ends : goal.returns-in-Ok-write_journal-clause-ends
returns-in-Ok-write_journal-clause-ends g c = λ words is.
    let came : Came SCRIPT_LIMIT _ _ _ Whole = rw c.in-Ok-Whole.field-0-is at c.in-Ok-Whole.ensures.came in
    let journal = journal_told c.in-Ok.script c.in-Ok-play_kept.kept in
    (journal_text journal, journal_due words _ came.bytes c.in-Ok.script journal is came.limited (c.in-Ok.ensures.ok came.bytes came.taken) c.in-Ok-play_kept.ensures.lawful, c.in-Ok-write_journal.ensures.ok)

pub returns-in-Err-Failed-write_journal-clause-ends : goal.returns-in-Err-Failed-write_journal-clause-ends
returns-in-Err-Failed-write_journal-clause-ends g c = λ words is.
    let came : Came SCRIPT_LIMIT _ _ _ Whole = rw c.in-Ok-Whole.field-0-is at c.in-Ok-Whole.ensures.came in
    let journal = journal_told c.in-Ok.script c.in-Ok-play_kept.kept in
    let failed = rw c.in-Err-Failed-write_journal.field-0-is at c.in-Err-Failed-write_journal.ensures.failed in
    (failed refl, inr (status.Done, journal_text journal, journal_due words _ came.bytes c.in-Ok.script journal is came.limited (c.in-Ok.ensures.ok came.bytes came.taken) c.in-Ok-play_kept.ensures.lawful, c.in-Err-Failed-write_journal.ensures.err))

pub returns-clause-ends : goal.returns-clause-ends
returns-clause-ends g c = λ words is.
    let came : Came SCRIPT_LIMIT _ _ _ Whole = rw c.in-Ok-Whole.field-0-is at c.in-Ok-Whole.ensures.came in
    let journal = journal_told c.in-Ok.script c.in-Ok-play_kept.kept in
    inr (status.Done, journal_text journal, journal_due words _ came.bytes c.in-Ok.script journal is came.limited (c.in-Ok.ensures.ok came.bytes came.taken) c.in-Ok-play_kept.ensures.lawful, c.in-Err-NoMemory-write_journal.ensures.err)
