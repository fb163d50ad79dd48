use Rattle.std.proofs.Common.{take}
use Rattle.trace_check.specs.NextLines.{IsReached}
use Rattle.trace_check.proofs.checking.go_through.Given as goal

-- the lines so far were gone through
abbrev pub invariant-loop-index : goal.invariant-loop-index
invariant-loop-index l = IsReached l.sections l.memory l.regs (take l.index l.lines) l.next
