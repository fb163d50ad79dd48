use Rattle.row_table.proofs.Searches.{IsLeft}
use Rattle.row_table.proofs.search.last_start.Given as goal

abbrev pub invariant-last : goal.invariant-last
invariant-last l = IsLeft l.starts l.pc l.from l.end l.base l.size

abbrev pub decreases-last : goal.decreases-last
decreases-last l = l.size

abbrev pub invariant-quarters : goal.invariant-quarters
invariant-quarters l = IsLeft l.starts l.pc l.from l.end l.base l.size

abbrev pub decreases-quarters : goal.decreases-quarters
decreases-quarters l = l.size
