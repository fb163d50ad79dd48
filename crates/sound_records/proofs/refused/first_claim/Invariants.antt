use Rattle.std.proofs.Common.{◌≡◌, length}
use Rattle.sound_records.specs.Sections.{first_claim}
use Rattle.sound_records.proofs.refused.first_claim.Given as goal

abbrev pub invariant-loop-left : goal.invariant-loop-left
invariant-loop-left l = first_claim l.pc l.left ≡ first_claim l.pc l.refused

abbrev pub decreases-loop-left : goal.decreases-loop-left
decreases-loop-left l = length l.left
