use Rattle.std.proofs.Common.{MatchOption, take}
use Rattle.reg_model.specs.State.{IsFree, IsLowestOverlap}
use Rattle.reg_model.proofs.plain.lowest_overlap.Given as goal

-- the lowest of the members that were passed
abbrev pub invariant-loop-member : goal.invariant-loop-member
invariant-loop-member l =
    let passed = take l.member-index l.members in
    MatchOption l.lowest (IsFree l.span passed) (IsLowestOverlap l.span passed)
