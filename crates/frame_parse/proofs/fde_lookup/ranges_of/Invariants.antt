use Rattle.frame_parse.specs.Lookups.{HasRanges}
use Rattle.frame_parse.proofs.fde_lookup.ranges_of.Given as goal

abbrev pub invariant-loop-index : goal.invariant-loop-index
invariant-loop-index l = HasRanges l.fdes l.index l.ranges.items
