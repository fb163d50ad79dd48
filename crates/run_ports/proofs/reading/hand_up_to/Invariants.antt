use Rattle.std.proofs.Common.{◌≡◌, ◌+◌, List, ℕ, length}
use Rattle.run_ports.specs.Ports.{Hands}
use Rattle.run_ports.specs.declared.reading.TheConstants.{PIECE}
use Rattle.run_ports.proofs.reading.hand_up_to.Given as goal

-- what came so far
abbrev pub invariant-pieces : goal.invariant-pieces
invariant-pieces g l = record {
  came : (bytes : List ℕ) × (length bytes + l.left ≡ l.fn.limit) × g.T.Taker.has_taken l.taker bytes × Hands (g.S.Source.remaining l.fn.source) (g.S.Source.remaining l.source) bytes;
  buffer : length l.buffer ≡ PIECE;
  can : g.S.Source.can_read l.source;
  sound : g.S.Source.faults l.source ≡ g.S.Source.faults l.fn.source;
}

abbrev pub decreases-pieces : goal.decreases-pieces
decreases-pieces g l = l.left
