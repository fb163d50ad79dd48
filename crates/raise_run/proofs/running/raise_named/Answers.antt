use Rattle.std.proofs.Common.{length, refl}
use Rattle.std.proofs.lemmas.Option.{slice_get_read}
use Rattle.run_ports.proofs.Endings.{ends_concluded}
use Rattle.raise_run.specs.RaiseOutcome.{IsDueOf}
use Rattle.raise_run.specs.RaiseStatuses.{raise_ending_of}
use Rattle.raise_run.specs.RaiseText.{raised_text}
use Rattle.raise_run.specs.declared.status.RaiseStatus.TheVariants as status
use Rattle.raise_run.proofs.running.raise_named.Goals as goal

pub raise_in-requires : goal.raise_in-requires
raise_in-requires g c =
    let snapshots = c.script.inside.snapshots.items in
    let within = rw (← c.script.view_is) at c.requires.named in
    rw (← c.script.view_is) (slice_get_read snapshots (length snapshots) c.args.request.now.snapshot c.index-snapshot.result.now refl within c.index-snapshot.ensures)

pub returns-in-Ok-clause-ends : goal.returns-in-Ok-clause-ends
returns-in-Ok-clause-ends g c = λ input reads reads_after spells.
    ends_concluded raise_ending_of (IsDueOf c.args.request.now input) (Unit {0}) _ _ status.Done _ refl
    (record { script = c.args.script.now; raised = c.in-Ok.raised; spelled = spells; is_raise = c.in-Ok.ensures; text_is = refl })
    (c.conclude_made.ensures.concludes (raised_text c.in-Ok.raised) c.print_raised.ensures.text)
