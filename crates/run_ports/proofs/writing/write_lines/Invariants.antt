use Rattle.std.proofs.Common.{◌≡◌, take, map}
use Rattle.std.specs.List.{flat_map}
use Rattle.run_ports.specs.Ports.{Gains}
use Rattle.run_ports.proofs.writing.write_lines.Given as goal

-- the lines so far were written
abbrev pub invariant-loop-line : goal.invariant-loop-line
invariant-loop-line g l = record {
  gained : Gains (g.K.Sink.written l.fn.sink) (g.K.Sink.written l.sink) (flat_map (λ line. line) (take l.line-index (map (λ line. line.items) l.lines)));
  writable : g.K.Sink.can_write l.sink;
  sound : g.K.Sink.faults l.sink ≡ g.K.Sink.faults l.fn.sink;
}
