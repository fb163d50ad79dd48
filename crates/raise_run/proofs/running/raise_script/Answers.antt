use Rattle.std.proofs.Common.{refl}
use Rattle.run_ports.proofs.Endings.{ends_concluded}
use Rattle.raise_run.specs.RaiseOutcome.{IsDueOf, no_snapshot_line}
use Rattle.raise_run.specs.RaiseStatuses.{raise_ending_of}
use Rattle.raise_run.specs.declared.status.RaiseStatus.TheVariants as status
use Rattle.raise_run.proofs.running.raise_script.Goals as goal

pub returns-else-has_snapshot-clause-ends : goal.returns-else-has_snapshot-clause-ends
returns-else-has_snapshot-clause-ends g c = λ input reads reads_after spells.
    let absent = rw c.if-has_snapshot.false at c.has_snapshot.ensures in
    ends_concluded raise_ending_of (IsDueOf c.args.request.now input) (Unit {0}) _ _ status.NoSnapshot _ refl
    (record { script = c.args.script.now; spelled = spells; absent = absent; text_is = refl })
    (c.conclude_made.ensures.concludes (no_snapshot_line c.args.request.now.snapshot) c.print_missing-line.ensures)
