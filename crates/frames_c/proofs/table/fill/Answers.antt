use Rattle.std.proofs.Common.{arith}
use Rattle.std.proofs.lemmas.List.{length-set}
use Rattle.frames_c.proofs.Tables.{fill_more, fill_same}
use Rattle.frames_c.proofs.table.fill.Goals as goal
use Rattle.frames_c.proofs.table.fill.Goals.{then-range-gt0, else-range-gt0}

pub loop-index-preserved : goal.loop-index-preserved
loop-index-preserved c =
    let was = c.loop-index in
    let fdes = c.args.section.now.fdes in
    let f = c.fde-fde.result.entry in
    elim c.if-range-gt0.branch [
      | then-range-gt0 w ↦ record {
        told = rw (w.entries-is, w.count-is, w.of.ensures) (fill_more fdes was.index was.count f was.entries (omega arith) (omega arith) c.fde-fde.ensures.entry (let some = w.if-range-gt0 in omega (arith, some)) was.invariant.told);
        few = rw w.count-is (omega arith);
        room = rw w.entries-is (omega (arith, length-set was.entries was.count w.of.result, was.invariant.room));
      }
      | else-range-gt0 w ↦ record {
        told = rw (w.entries-is, w.count-is) (fill_same fdes was.index was.count f was.entries (omega arith) c.fde-fde.ensures.entry (let none = w.if-range-gt0 in omega (arith, none)) was.invariant.told);
        few = rw w.count-is (omega arith);
        room = rw w.entries-is (omega arith);
      }
    ]
