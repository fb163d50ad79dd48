use Rattle.std.proofs.Common.{◌≡◌, take}
use Rattle.script_text.specs.Text.{numbered, round_text}
use Rattle.run_ports.specs.Ports.{Gains}
use Rattle.run_engine.specs.Kept.{rounds_told}
use Rattle.run_engine.proofs.writing.write_rounds.Given as goal

-- the rounds so far were written
abbrev pub invariant-loop-index : goal.invariant-loop-index
invariant-loop-index g l = record {
  gained : Gains (g.K.Sink.written l.fn.sink) (g.K.Sink.written l.sink) (numbered round_text 1 (take l.index (rounds_told l.images l.rounds l.kept)));
  writable : g.K.Sink.can_write l.sink;
  sound : g.K.Sink.faults l.sink ≡ g.K.Sink.faults l.fn.sink;
}
