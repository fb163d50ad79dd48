use Rattle.std.proofs.Common.{◌∙◌, sym, arith}
use Rattle.std.proofs.Common.{length-set}
use Rattle.node_store.proofs.Readings.{pairs_more}
use Rattle.node_store.proofs.reading.inner_in.Goals as goal

pub loop-slot-preserved : goal.loop-slot-preserved
loop-slot-preserved c = record {
  room = length-set _ _ _ ∙ c.loop-slot.invariant.room;
  left = pairs_more c.args.words.now c.loop-slot.pairs c.in_ok-count.count c.loop-slot.slot _ c.loop-slot-test.true (grind (arith, c.in_ok-count.ensures, c.loop-slot-test.true, c.loop-slot.invariant.room)) (sym c.pair_in.ensures ∙ c.in_ok-pairs.was) c.loop-slot.invariant.left;
}
