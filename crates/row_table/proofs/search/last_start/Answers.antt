use Rattle.std.proofs.Common.{◌/◌, arith}
use Rattle.row_table.proofs.Searches.{all_left, last_left, quarter_left}
use Rattle.row_table.proofs.search.last_start.Goals as goal

pub quarters-init : goal.quarters-init
quarters-init c = all_left c.args.starts.now c.args.pc c.args.from c.args.end c.requires.some c.requires.first

pub last-preserved : goal.last-preserved
last-preserved c =
    let was = c.last in
    rw c.begun-base.ensures (last_left c.args.starts.now c.args.pc c.args.from c.args.end was.base was.size c.requires.ascending was.invariant (omega arith))

pub quarters-preserved : goal.quarters-preserved
quarters-preserved c =
    let was = c.quarters in
    rw (c.begun-first.ensures, c.begun-second.ensures, c.begun-third.ensures) (quarter_left c.args.starts.now c.args.pc c.args.from c.args.end was.base was.size (was.size / 4) c.requires.ascending was.invariant (omega arith) (omega arith))
