use Rattle.std.proofs.Common.{◌≡◌, ℕ, length}
use Rattle.reg_model.specs.Query.{member_at}
use Rattle.segment_array.specs.Ascending.{AscendFrom}
use Rattle.array_publish.proofs.fixed.containing.Given as goal

abbrev pub invariant-loop-left : goal.invariant-loop-left
invariant-loop-left l = (low : ℕ) × AscendFrom low l.left × (member_at l.pc l.left ≡ member_at l.pc l.members)

abbrev pub decreases-loop-left : goal.decreases-loop-left
decreases-loop-left l = length l.left
