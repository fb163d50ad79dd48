use Rattle.std.proofs.Common.{◌≡◌, length}
use Rattle.frame_parse.specs.Programs.{step}
use Rattle.eh_bytes.specs.Steps.{steps_from}
use Rattle.frame_parse.proofs.instructions.steps.steps.Given as goal

abbrev pub invariant-loop-cursor : goal.invariant-loop-cursor
invariant-loop-cursor l =
    (steps_from (step l.context) l.fn.state).read l.initial.cursor ≡ (steps_from (step l.context) l.state).read l.cursor

abbrev pub decreases-loop-cursor : goal.decreases-loop-cursor
decreases-loop-cursor l = length l.cursor.bytes
