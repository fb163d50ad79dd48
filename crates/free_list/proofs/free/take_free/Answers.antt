use Rattle.std.proofs.Common.{Err, Ok, ◌∙◌}
use Rattle.free_list.proofs.Rounds.{loses_room, loses_table, round_later}
use Rattle.free_list.proofs.free.take_free.Goals as goal

pub returns-in-Ok-take_first : goal.returns-in-Ok-take_first
returns-in-Ok-take_first g c = round_later c.args.me.now c.loop.me c.take_first-in-loop.new.me (Ok c.in-Ok-take_first.found) c.loop.invariant.round.0 c.in-Ok-take_first.ensures

pub loop-preserved : goal.loop-preserved
loop-preserved g c =
    let k = c.args.me.now in let k2 = c.take_first-in-loop.new.me in
    let round = round_later k c.loop.me k2 (Err c.in-Err-take_first.busy) c.loop.invariant.round.0 c.in-Err-take_first.ensures in record {
      round = round;
      table = loses_table k k2 round.0 ∙ c.requires.table;
      room = loses_room k k2 round.0 c.requires.room;
    }
