use Rattle.std.proofs.Common.{◌≡◌, ◌+◌, ◌≤◌, length}
use Rattle.script_text.specs.Fields.{pieces}
use Rattle.check_run.specs.Parts.{script_length}
use Rattle.check_run.proofs.parts.script_length.Given as goal

-- none of the lines before what is left ends the script
abbrev pub invariant-loop-line : goal.invariant-loop-line
invariant-loop-line l =
    (length l.rest ≤ length l.bytes)
    × (script_length (pieces 10 l.bytes) + length l.rest ≡ length l.bytes + script_length (pieces 10 l.rest))

abbrev pub decreases-loop-line : goal.decreases-loop-line
decreases-loop-line l = length l.rest
