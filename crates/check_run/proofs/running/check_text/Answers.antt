use Rattle.std.proofs.Common.{refl}
use Rattle.run_ports.proofs.Endings.{ends_concluded}
use Rattle.check_run.specs.CheckOutcome.{IsDueFor}
use Rattle.check_run.specs.CheckStatuses.{check_ending_of, verdict_status}
use Rattle.check_run.specs.CheckText.{verdict_line}
use Rattle.check_run.proofs.Endings.{verdict_due, verdict_on_part, verdict_right, verdict_written}
use Rattle.check_run.proofs.running.check_text.Goals as goal

pub returns-in-Ok-clause-ends : goal.returns-in-Ok-clause-ends
returns-in-Ok-clause-ends g c = λ input reads reads_after spells parted.
    let verdict = c.in-Ok.verdict in
    ends_concluded check_ending_of (IsDueFor input) (Unit {0}) _ _ (verdict_status verdict) _ (verdict_written verdict)
    (verdict_due input verdict _ (record {
      script = c.args.script.now;
      spelled = spells;
      right = verdict_on_part input c.args.script.now c.args.text.now verdict parted (verdict_right c.args.script.now c.args.text.now verdict c.in-Ok.ensures.lawful c.in-Ok.ensures.flaw);
      text_is = refl;
    }))
    (rw c.status_of.ensures at c.conclude_made.ensures.concludes (verdict_line verdict) c.print_verdict.ensures)
