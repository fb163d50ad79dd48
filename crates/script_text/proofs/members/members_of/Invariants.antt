use Rattle.std.proofs.Common.{◌≡◌, take, map}
use Rattle.script_text.specs.Lawful.{image_member}
use Rattle.script_text.proofs.members.members_of.Given as goal

-- the members so far
abbrev pub invariant-loop-number : goal.invariant-loop-number
invariant-loop-number l = l.members.items ≡ map (image_member l.images) (take l.number-index l.numbers)
