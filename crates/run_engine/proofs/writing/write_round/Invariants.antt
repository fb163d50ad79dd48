use Rattle.std.proofs.Common.{◌≡◌, take}
use Rattle.script_text.specs.Text.{round_text}
use Rattle.run_ports.specs.Ports.{Gains}
use Rattle.run_engine.specs.Kept.{round_told}
use Rattle.run_engine.proofs.writing.write_round.Given as goal

-- the threads so far were written
abbrev pub invariant-loop-index : goal.invariant-loop-index
invariant-loop-index g l = record {
  gained : Gains (g.K.Sink.written l.fn.sink) (g.K.Sink.written l.sink) (round_text l.part.round (take l.index (round_told l.part.images.now l.part.threads.now l.part.kept.now)));
  writable : g.K.Sink.can_write l.sink;
  sound : g.K.Sink.faults l.sink ≡ g.K.Sink.faults l.fn.sink;
}
