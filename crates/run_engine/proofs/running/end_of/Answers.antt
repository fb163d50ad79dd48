use Rattle.std.proofs.Common.{ℕ, map, refl}
use Rattle.std.specs.String.{string_bytes}
use Rattle.command_line.specs.CommandLine.{IsCommandLine, AreTaken}
use Rattle.command_line.specs.declared.taking.Command.TheVariants.{Run, Generate}
use Rattle.run_ports.specs.Endings.{Change, sink_change}
use Rattle.run_engine.specs.Outcome.{IsDue}
use Rattle.run_engine.specs.Statuses.{ending_of}
use Rattle.run_engine.specs.declared.status.Status.TheVariants as status
use Rattle.run_ports.proofs.Endings.{ends_concluded}
use Rattle.run_engine.proofs.Endings.{ends_generated}
use Rattle.run_engine.proofs.running.end_of.Goals as goal

pub returns-in-Ok-Some-Run-clause-ends : goal.returns-in-Ok-Some-Run-clause-ends
returns-in-Ok-Some-Run-clause-ends g c =
    let decided = rw c.in-Ok-Some-Run.field-0-is at c.in-Ok-Some-Run.ensures in
    let is : IsCommandLine (map string_bytes c.args.words.now) Run = rw c.in-Ok-Some-Run.field-0-0-is at decided in
    c.run_source.ensures.ends (map string_bytes c.args.words.now) is

pub returns-in-Ok-Some-Generate-clause-ends : goal.returns-in-Ok-Some-Generate-clause-ends
returns-in-Ok-Some-Generate-clause-ends g c =
    let decided = rw c.in-Ok-Some-Generate.field-0-is at c.in-Ok-Some-Generate.ensures in
    let is : IsCommandLine (map string_bytes c.args.words.now) (Generate c.in-Ok-Some-Generate.count) = rw c.in-Ok-Some-Generate.field-0-0-is at decided in
    let reads = g.S.Source.faults c.args.source.now in
    let change : ℕ → Change = λ count. sink_change g.K.Sink.faults g.K.Sink.written c.args.sink.now c.run_generated.new.sink count count in
    ends_generated (map string_bytes c.args.words.now) _ (change reads) (change 0) c.in-Ok-Some-Generate.count c.run_generated.result is refl refl refl refl c.run_generated.ensures.ends

pub returns-in-Ok-None-clause-ends : goal.returns-in-Ok-None-clause-ends
returns-in-Ok-None-clause-ends g c =
    let other : ¬ AreTaken (map string_bytes c.args.words.now) = rw c.in-Ok-None.field-0-is at c.in-Ok-None.ensures in
    ends_concluded ending_of (IsDue (map string_bytes c.args.words.now) _) (IsCommandLine (map string_bytes c.args.words.now) Run) _ _ status.Usage _ refl (other, refl) c.conclude.ensures.concludes
