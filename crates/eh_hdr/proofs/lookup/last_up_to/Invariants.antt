use Rattle.eh_hdr.specs.Tables.{locations}
use Rattle.eh_hdr.proofs.Searches.{AreLeftUpTo}
use Rattle.eh_hdr.proofs.lookup.last_up_to.Given as goal

abbrev pub invariant-loop-size : goal.invariant-loop-size
invariant-loop-size l = AreLeftUpTo (locations l.entries) l.pc l.base l.size

abbrev pub decreases-loop-size : goal.decreases-loop-size
decreases-loop-size l = l.size
