use Rattle.frame_parse.proofs.Lookups.{AreLeft}
use Rattle.frame_parse.proofs.fde_lookup.ordered_cover.Given as goal

abbrev pub invariant-quarters : goal.invariant-quarters
invariant-quarters l = AreLeft l.ranges l.pc l.base l.size

abbrev pub decreases-quarters : goal.decreases-quarters
decreases-quarters l = l.size

abbrev pub invariant-halves : goal.invariant-halves
invariant-halves l = AreLeft l.ranges l.pc l.base l.size

abbrev pub decreases-halves : goal.decreases-halves
decreases-halves l = l.size
