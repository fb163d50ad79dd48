use Rattle.std.proofs.Common.{◌≡◌, take}
use Rattle.run_engine.specs.Nodes.{callers_asked, updates_asked}
use Rattle.run_engine.proofs.nodes.nodes_for.Given as goal

-- the rounds so far
abbrev pub invariant-loop-round : goal.invariant-loop-round
invariant-loop-round l = record {
  callers : l.callers ≡ callers_asked (take l.round-index l.rounds);
  updates : l.updates ≡ updates_asked (take l.round-index l.rounds);
}
