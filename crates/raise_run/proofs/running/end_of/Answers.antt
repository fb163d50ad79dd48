use Rattle.std.proofs.Common.{◌≢◌, None, map, refl, sym}
use Rattle.std.specs.String.{string_bytes}
use Rattle.run_ports.proofs.Endings.{ends_concluded}
use Rattle.raise_run.specs.RaiseOutcome.{IsRaiseDue}
use Rattle.raise_run.specs.RaiseStatuses.{raise_ending_of}
use Rattle.raise_run.specs.Words.{request_of}
use Rattle.raise_run.specs.declared.status.RaiseStatus.TheVariants as status
use Rattle.raise_run.proofs.Endings.{ends_of}
use Rattle.raise_run.proofs.running.end_of.Goals as goal

pub returns-in-Some-clause-ends : goal.returns-in-Some-clause-ends
returns-in-Some-clause-ends g c =
    ends_of (map string_bytes c.args.words.now) _ c.in-Some.request (sym c.in-Some.ensures) _ c.raise_source.result c.raise_source.ensures.ends

pub returns-in-None-clause-ends : goal.returns-in-None-clause-ends
returns-in-None-clause-ends g c =
    let words = map string_bytes c.args.words.now in
    ends_concluded raise_ending_of (IsRaiseDue words _) (request_of words ≢ None) _ _ status.Usage _ refl (sym c.in-None.ensures, refl) c.conclude.ensures.concludes
