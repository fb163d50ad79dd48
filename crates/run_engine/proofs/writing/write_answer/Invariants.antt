use Rattle.std.proofs.Common.{◌≡◌, take}
use Rattle.std.specs.List.{flat_map}
use Rattle.script_text.specs.Text.{answer_lines, event_line}
use Rattle.run_ports.specs.Ports.{Gains}
use Rattle.run_engine.proofs.writing.write_answer.Given as goal

-- the lines so far were written
abbrev pub invariant-loop-line : goal.invariant-loop-line
invariant-loop-line g l = record {
  gained : Gains (g.K.Sink.written l.fn.sink) (g.K.Sink.written l.sink) (flat_map (event_line l.fn.number.round l.fn.number.thread l.fn.number.event) (take l.line (answer_lines l.answer)));
  writable : g.K.Sink.can_write l.sink;
  sound : g.K.Sink.faults l.sink ≡ g.K.Sink.faults l.fn.sink;
}
