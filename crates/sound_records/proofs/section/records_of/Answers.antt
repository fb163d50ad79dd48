use Rattle.std.proofs.Common.{◌∙◌, ◌-◌, ◌<◌, length, true, false, arith}
use Rattle.frame_parse.specs.Entries.{Cie, Fde, fde_among}
use Rattle.frame_parse.specs.Records.{whole_record}
use Rattle.sound_records.proofs.Places.{end_told, read_from}
use Rattle.sound_records.proofs.SoFar.{nothing_yet, read_at, next_cie, next_fde, next_refusal, all_read}
use Rattle.sound_records.proofs.section.records_of.Goals as goal

pub loop-cursor-init : goal.loop-cursor-init
loop-cursor-init c = rw (c.new-cies.ensures.items, c.in_ok-fdes.ensures.items, c.new-refused.ensures.items) (nothing_yet c.args.section c.args.bytes.now)

pub loop-cursor-preserved-in-Ok-Cie : goal.loop-cursor-preserved-in-Ok-Cie
loop-cursor-preserved-in-Ok-Cie c =
    let was = c.loop-cursor in
    let on = end_told c.args.bytes.now was.at false c.loop-cursor-test.ensures in
    let read = rw (c.deref.ensures.value, c.in-Ok-Cie.field-0-is) at c.in-Ok-Cie.ensures.read in
    let here = read_from (whole_record c.args.section was.cies.items).read c.args.bytes.now was.at c.new-cursor.result c.new-cursor.ensures.bytes c.new-cursor.ensures.place in
    rw (c.in_ok-push-in-Ok-Cie.ensures.items, c.at-at.ensures)
    (next_cie c.records_stand.ensures c.records_are_kept.ensures c.args.section c.args.bytes.now was.at was.cies.items was.fdes.items was.refused.items c.in-Ok-Cie.cie c.whole_record.new.cursor was.invariant on (here ∙ read))

pub loop-cursor-preserved-in-Ok-Fde : goal.loop-cursor-preserved-in-Ok-Fde
loop-cursor-preserved-in-Ok-Fde c =
    let was = c.loop-cursor in
    let on = end_told c.args.bytes.now was.at false c.loop-cursor-test.ensures in
    let read = rw (c.deref.ensures.value, c.in-Ok-Fde.field-0-is) at c.in-Ok-Fde.ensures.read in
    let has = rw (c.deref.ensures.value, c.in-Ok-Fde.field-0-is) at c.in-Ok-Fde.ensures.cie in
    let here = read_from (whole_record c.args.section was.cies.items).read c.args.bytes.now was.at c.new-cursor.result c.new-cursor.ensures.bytes c.new-cursor.ensures.place in
    rw (c.in_ok-push-in-Ok-Fde.ensures.items, c.at-at-in-Ok-Fde.ensures)
    (next_fde c.records_stand.ensures c.records_are_kept.ensures c.args.section c.args.bytes.now was.at was.cies.items was.fdes.items was.refused.items c.in-Ok-Fde.fde c.whole_record.new.cursor was.invariant on (here ∙ read) has)

pub loop-cursor-preserved : goal.loop-cursor-preserved
loop-cursor-preserved c =
    let was = c.loop-cursor in
    let on = end_told c.args.bytes.now was.at false c.loop-cursor-test.ensures in
    let read = rw c.deref.ensures.value at c.in-Err.ensures.read in
    let here = read_from (whole_record c.args.section was.cies.items).read c.args.bytes.now was.at c.new-cursor.result c.new-cursor.ensures.bytes c.new-cursor.ensures.place in
    let behind = c.place_behind-at.ensures in
    let next = next_refusal c.args.section c.args.bytes.now was.at was.cies.items was.fdes.items was.refused.items c.in-Err.fault c.place_behind-at.result was.invariant on (here ∙ read) behind.left behind.within behind.moves in
    rw (c.in_ok-push-in-Err.ensures.items, c.claim_at-claim.ensures, c.deref-in-Err.ensures.value) next

pub loop-cursor-smaller-in-Ok-Cie : goal.loop-cursor-smaller-in-Ok-Cie
loop-cursor-smaller-in-Ok-Cie c =
    let was = c.loop-cursor in
    let read = rw (c.deref.ensures.value, c.in-Ok-Cie.field-0-is) at c.in-Ok-Cie.ensures.read in
    let here = read_from (whole_record c.args.section was.cies.items).read c.args.bytes.now was.at c.new-cursor.result c.new-cursor.ensures.bytes c.new-cursor.ensures.place in
    let x = read_at c.records_stand.ensures c.records_are_kept.ensures c.args.section was.cies.items c.args.bytes.now was.at (Cie c.in-Ok-Cie.cie) c.whole_record.new.cursor was.invariant.within was.invariant.kept (here ∙ read) in
    let less : length c.args.bytes.now - c.at-at.result < length c.args.bytes.now - was.at = omega (arith, c.at-at.ensures, x.moves, x.within) in
    less

pub loop-cursor-smaller-in-Ok-Fde : goal.loop-cursor-smaller-in-Ok-Fde
loop-cursor-smaller-in-Ok-Fde c =
    let was = c.loop-cursor in
    let read = rw (c.deref.ensures.value, c.in-Ok-Fde.field-0-is) at c.in-Ok-Fde.ensures.read in
    let here = read_from (whole_record c.args.section was.cies.items).read c.args.bytes.now was.at c.new-cursor.result c.new-cursor.ensures.bytes c.new-cursor.ensures.place in
    let x = read_at c.records_stand.ensures c.records_are_kept.ensures c.args.section was.cies.items c.args.bytes.now was.at (Fde (fde_among was.cies.items c.in-Ok-Fde.fde)) c.whole_record.new.cursor was.invariant.within was.invariant.kept (here ∙ read) in
    let less : length c.args.bytes.now - c.at-at-in-Ok-Fde.result < length c.args.bytes.now - was.at = omega (arith, c.at-at-in-Ok-Fde.ensures, x.moves, x.within) in
    less

pub returns-clause-fdes : goal.returns-clause-fdes
returns-clause-fdes c =
    let was = c.loop-cursor in
    let done = end_told c.args.bytes.now was.at true c.loop-cursor-test.ensures in
    (all_read c.args.section c.args.bytes.now was.at was.cies.items was.fdes.items was.refused.items was.invariant done).fdes

pub returns-clause-refused : goal.returns-clause-refused
returns-clause-refused c =
    let was = c.loop-cursor in
    let done = end_told c.args.bytes.now was.at true c.loop-cursor-test.ensures in
    (all_read c.args.section c.args.bytes.now was.at was.cies.items was.fdes.items was.refused.items was.invariant done).refusals
