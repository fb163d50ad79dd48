use Rattle.std.proofs.Common.{◌≡◌, take}
use Rattle.std.specs.List.{sum_by}
use Rattle.script_generator.specs.Summaries.{counted_in}
use Rattle.script_generator.proofs.counting.count_in_thread.Given as goal

-- what the answers so far have
abbrev pub invariant-loop-answer : goal.invariant-loop-answer
invariant-loop-answer l = l.count ≡ sum_by (counted_in l.what) (take l.answer-index l.answers)
