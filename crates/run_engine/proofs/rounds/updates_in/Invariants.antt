use Rattle.std.proofs.Common.{◌≡◌, take}
use Rattle.run_engine.specs.Played.{updates_in}
use Rattle.run_engine.proofs.rounds.updates_in.Given as goal

-- the updates so far
abbrev pub invariant-loop-event : goal.invariant-loop-event
invariant-loop-event l = l.count ≡ updates_in (take l.event-index l.events)
