use Rattle.std.proofs.Common.{◌∙◌, get_or}
use Rattle.std.proofs.lemmas.List.{get_or_default}
use Rattle.std.proofs.lemmas.Result.{err_from_is_err_and}
use Rattle.script_text.specs.Text.{answer_text}
use Rattle.run_engine.specs.Kept.{IsKeptPrintable, told}
use Rattle.run_engine.proofs.Numbered.{zip_gains_all, zip_gains_more, zip_gains_part, zip_within}
use Rattle.run_engine.proofs.Told.{AllZip-at}
use Rattle.script_text.specs.declared.script.Event.TheVariants.{Register}
use Rattle.run_engine.proofs.writing.write_thread.Goals as goal

pub bounds-part-index : goal.bounds-part-index
bounds-part-index g c = zip_within (told c.args.part.images.now) (IsKeptPrintable c.args.part.images.now) c.args.part.events.now c.args.part.kept.now c.requires.printable c.loop-index.index c.loop-index-test.true

pub write_event-requires-clause-printable : goal.write_event-requires-clause-printable
write_event-requires-clause-printable g c =
    let beside = zip_within (told c.args.part.images.now) (IsKeptPrintable c.args.part.images.now) c.args.part.events.now c.args.part.kept.now c.requires.printable c.loop-index.index c.loop-index-test.true in
    let x = get_or c.args.part.events.now c.loop-index.index (Register 0) in
    let y = get_or c.args.part.kept.now c.loop-index.index c.index-part-index.result in
    AllZip-at (IsKeptPrintable c.args.part.images.now) c.args.part.events.now c.args.part.kept.now c.loop-index.index x y c.requires.printable c.loop-index-test.true (get_or_default c.args.part.events.now c.loop-index.index (Register 0) x c.loop-index-test.true) (get_or_default c.args.part.kept.now c.loop-index.index c.index-part-index.result y beside)

pub loop-index-preserved : goal.loop-index-preserved
loop-index-preserved g c =
    let beside = zip_within (told c.args.part.images.now) (IsKeptPrintable c.args.part.images.now) c.args.part.events.now c.args.part.kept.now c.requires.printable c.loop-index.index c.loop-index-test.true in
    let x = get_or c.args.part.events.now c.loop-index.index (Register 0) in
    let y = get_or c.args.part.kept.now c.loop-index.index c.index-part-index.result in
    record {
      gained = zip_gains_more (told c.args.part.images.now) (IsKeptPrintable c.args.part.images.now) c.args.part.events.now c.args.part.kept.now c.requires.printable c.loop-index.index c.loop-index-test.true (answer_text c.args.part.round c.args.part.thread) x y (get_or_default c.args.part.events.now c.loop-index.index (Register 0) x c.loop-index-test.true) (get_or_default c.args.part.kept.now c.loop-index.index c.index-part-index.result y beside) _ _ _ c.loop-index.invariant.gained c.in_ok-write_event.ensures.ok;
      writable = c.in_ok-write_event.ensures.goes_on;
      sound = c.in_ok-write_event.ensures.sound (λ is. cc) ∙ c.loop-index.invariant.sound;
    }

pub returns-in_err-write_event-clause-err : goal.returns-in_err-write_event-clause-err
returns-in_err-write_event-clause-err g c =
    let beside = zip_within (told c.args.part.images.now) (IsKeptPrintable c.args.part.images.now) c.args.part.events.now c.args.part.kept.now c.requires.printable c.loop-index.index c.loop-index-test.true in
    let x = get_or c.args.part.events.now c.loop-index.index (Register 0) in
    let y = get_or c.args.part.kept.now c.loop-index.index c.index-part-index.result in
    let failed = err_from_is_err_and c.from_residual.result c.from_residual.ensures.1 in
    rw failed.1 (zip_gains_part (told c.args.part.images.now) (IsKeptPrintable c.args.part.images.now) c.args.part.events.now c.args.part.kept.now c.requires.printable c.loop-index.index c.loop-index-test.true (answer_text c.args.part.round c.args.part.thread) x y (get_or_default c.args.part.events.now c.loop-index.index (Register 0) x c.loop-index-test.true) (get_or_default c.args.part.kept.now c.loop-index.index c.index-part-index.result y beside) _ _ _ c.loop-index.invariant.gained c.in_err-write_event.ensures.err)

pub returns-clause-ok : goal.returns-clause-ok
returns-clause-ok g c = zip_gains_all (told c.args.part.images.now) (IsKeptPrintable c.args.part.images.now) c.args.part.events.now c.args.part.kept.now c.requires.printable (answer_text c.args.part.round c.args.part.thread) c.loop-index.index c.loop-index-test.false _ _ c.loop-index.invariant.gained
