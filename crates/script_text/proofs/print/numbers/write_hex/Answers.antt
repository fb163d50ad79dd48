use Rattle.std.proofs.Common.{◌≡◌, ◌+◌, ◌-◌, append_assoc, arith}
use Rattle.script_text.proofs.HexDigits.{hex_pair, length_pair}
use Rattle.script_text.proofs.print.numbers.write_hex.Goals as goal

pub overflow_sub-at : goal.overflow_sub-at
overflow_sub-at c = omega (arith, length_pair c.loop-left.left c.loop-left-test.true c.loop-left.auto.left-fits.fits, c.loop-left.invariant.room)

pub write_pair-requires : goal.write_pair-requires
write_pair-requires c = omega (arith, length_pair c.loop-left.left c.loop-left-test.true c.loop-left.auto.left-fits.fits, c.loop-left.invariant.room, c.loop-left.invariant.within)

pub overflow_sub-at-in-loop-left : goal.overflow_sub-at-in-loop-left
overflow_sub-at-in-loop-left c = omega (arith, length_pair c.loop-left.left c.loop-left-test.true c.loop-left.auto.left-fits.fits, c.loop-left.invariant.room)

pub loop-left-preserved : goal.loop-left-preserved
loop-left-preserved c =
    let l = c.loop-left in
    let i = l.invariant in
    let long = length_pair l.left c.loop-left-test.true l.auto.left-fits.fits in
    let at : l.at - 2 + 2 ≡ l.at = omega (arith, long, i.room) in record {
      room = omega (arith, long, i.room);
      within = omega (arith, i.within);
      count = omega (arith, long, i.room, i.count);
      spelled = rw (c.write_pair.ensures, at) (rw (hex_pair l.left c.loop-left-test.true l.auto.left-fits.fits, append_assoc) at i.spelled);
    }
