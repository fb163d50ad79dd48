use Rattle.std.proofs.Common.{◌∙◌, sym, arith}
use Rattle.std.proofs.Common.{length-set}
use Rattle.node_store.proofs.Readings.{entries_more}
use Rattle.node_store.proofs.reading.leaf_in.Goals as goal

pub loop-slot-preserved : goal.loop-slot-preserved
loop-slot-preserved c = record {
  room = length-set _ _ _ ∙ c.loop-slot.invariant.room;
  left = entries_more c.args.words.now c.loop-slot.entries c.in_ok-count.count c.loop-slot.slot _ c.loop-slot-test.true (grind (arith, c.in_ok-count.ensures, c.loop-slot-test.true, c.loop-slot.invariant.room)) (sym c.entry_in.ensures ∙ c.in_ok-entries.was) c.loop-slot.invariant.left;
}
