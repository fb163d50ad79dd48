use Rattle.std.proofs.Common.{◌≡◌, ◌++◌, take, length}
use Rattle.std.specs.List.{flat_map}
use Rattle.script_generator.specs.Generator.{activity_events}
use Rattle.script_generator.proofs.events.with_activity.Given as goal

-- the events so far
abbrev pub invariant-loop-image : goal.invariant-loop-image
invariant-loop-image l = l.events.items ≡ l.fn.events.items ++ flat_map (activity_events (length l.order) l.thread l.activity) (take l.image-index l.order)
