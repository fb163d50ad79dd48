use Rattle.std.proofs.Common.{◌<◌, ◌^◌, length}
use Rattle.std.specs.List.{AllByRecursion}
use Rattle.reg_model.specs.SpanData.{IsSpan}
use Rattle.node_store.proofs.writing.entries_fit.Given as goal

abbrev pub invariant-loop-left : goal.invariant-loop-left
invariant-loop-left l = AllByRecursion (λ m. IsSpan m.span × (m.payload < 2 ^ 32)) l.left → AllByRecursion (λ m. IsSpan m.span × (m.payload < 2 ^ 32)) l.entries

abbrev pub decreases-loop-left : goal.decreases-loop-left
decreases-loop-left l = length l.left
