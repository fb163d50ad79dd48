use Rattle.std.proofs.Common.{sym}
use Rattle.frame_rows.proofs.Onward.{whole}
use Rattle.frame_rows.proofs.walk.go_through.Goals as goal

pub returns-in-End : goal.returns-in-End
returns-in-End g c = record {
  row = λ told base gives steps on. sym (whole base c.args.pc c.args.program c.walk.new.program c.args.row.now c.walk.new.row c.walk.result (c.walk.ensures.walks base gives) c.in-End.is steps on);
  untold = λ not. absurd (let two = not in cc);
}
