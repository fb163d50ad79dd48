use Rattle.std.proofs.Common.{◌≡◌, ◌≤◌, ◌-◌, length, drop}
use Rattle.run_ports.specs.Ports.{with_bytes}
use Rattle.run_ports.proofs.writing.hand_on.Given as goal

-- what the sink has, and what is left for it, is what it had and all that was to come
abbrev pub invariant-loop-at : goal.invariant-loop-at
invariant-loop-at g l = record {
  within : l.at ≤ length l.bytes;
  kept : with_bytes (g.K.Sink.written l.sink) (drop l.at l.bytes) ≡ with_bytes (g.K.Sink.written l.fn.sink) (drop l.fn.at l.bytes);
  writable : g.K.Sink.can_write l.sink;
  sound : g.K.Sink.faults l.sink ≡ g.K.Sink.faults l.fn.sink;
}

abbrev pub decreases-loop-at : goal.decreases-loop-at
decreases-loop-at g l = length l.bytes - l.at
