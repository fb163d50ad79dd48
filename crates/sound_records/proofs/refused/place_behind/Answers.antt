use Rattle.std.proofs.Common.{arith}
use Rattle.sound_records.proofs.Items.{behind_whole}
use Rattle.sound_records.proofs.refused.place_behind.Goals as goal

pub returns-in-Ok-clause-left : goal.returns-in-Ok-clause-left
returns-in-Ok-clause-left c =
    let b = behind_whole c.args.bytes.now c.args.at c.new-cursor.result c.skip_record.new.cursor c.new-cursor.ensures.bytes c.new-cursor.ensures.place (omega (arith, c.requires)) c.in-Ok.ensures.read c.in-Ok.ensures.moves in
    rw c.at.ensures b.left

pub returns-in-Ok-clause-within : goal.returns-in-Ok-clause-within
returns-in-Ok-clause-within c =
    let b = behind_whole c.args.bytes.now c.args.at c.new-cursor.result c.skip_record.new.cursor c.new-cursor.ensures.bytes c.new-cursor.ensures.place (omega (arith, c.requires)) c.in-Ok.ensures.read c.in-Ok.ensures.moves in
    rw c.at.ensures b.within

pub returns-in-Ok-clause-moves : goal.returns-in-Ok-clause-moves
returns-in-Ok-clause-moves c =
    let b = behind_whole c.args.bytes.now c.args.at c.new-cursor.result c.skip_record.new.cursor c.new-cursor.ensures.bytes c.new-cursor.ensures.place (omega (arith, c.requires)) c.in-Ok.ensures.read c.in-Ok.ensures.moves in
    rw c.at.ensures b.moves
