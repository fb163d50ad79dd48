use Rattle.std.proofs.Common.{◌≡◌, take}
use Rattle.script_text.specs.Text.{thread_text}
use Rattle.run_ports.specs.Ports.{Gains}
use Rattle.run_engine.specs.Kept.{thread_told}
use Rattle.run_engine.proofs.writing.write_thread.Given as goal

-- the answers so far were written
abbrev pub invariant-loop-index : goal.invariant-loop-index
invariant-loop-index g l = record {
  gained : Gains (g.K.Sink.written l.fn.sink) (g.K.Sink.written l.sink) (thread_text l.part.round l.part.thread (take l.index (thread_told l.part.images.now l.part.events.now l.part.kept.now)));
  writable : g.K.Sink.can_write l.sink;
  sound : g.K.Sink.faults l.sink ≡ g.K.Sink.faults l.fn.sink;
}
