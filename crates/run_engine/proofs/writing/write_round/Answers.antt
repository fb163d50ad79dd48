use Rattle.std.proofs.Common.{◌∙◌, get_or}
use Rattle.std.specs.List.{AllZip}
use Rattle.std.proofs.lemmas.List.{get_or_default}
use Rattle.std.proofs.lemmas.Result.{err_from_is_err_and}
use Rattle.script_text.specs.Text.{thread_text}
use Rattle.run_engine.specs.Kept.{IsKeptPrintable, thread_told}
use Rattle.run_engine.proofs.Numbered.{zip_gains_all, zip_gains_more, zip_gains_part, zip_within}
use Rattle.run_engine.proofs.Told.{AllZip-at}
use Rattle.run_engine.proofs.writing.write_round.Goals as goal

pub bounds-part-index : goal.bounds-part-index
bounds-part-index g c = zip_within (thread_told c.args.part.images.now) (AllZip (IsKeptPrintable c.args.part.images.now)) c.args.part.threads.now c.args.part.kept.now c.requires.printable c.loop-index.index c.loop-index-test.true

pub write_thread-requires-clause-printable : goal.write_thread-requires-clause-printable
write_thread-requires-clause-printable g c =
    let beside = zip_within (thread_told c.args.part.images.now) (AllZip (IsKeptPrintable c.args.part.images.now)) c.args.part.threads.now c.args.part.kept.now c.requires.printable c.loop-index.index c.loop-index-test.true in
    let y = get_or c.args.part.kept.now c.loop-index.index c.index-part-index.result in
    rw (c.deref.ensures.value ∙ c.thread.view_is, c.deref-in-loop-index.ensures.value ∙ c.kept.view_is) (AllZip-at (AllZip (IsKeptPrintable c.args.part.images.now)) c.args.part.threads.now c.args.part.kept.now c.loop-index.index c.thread-item.result y c.requires.printable c.loop-index-test.true c.thread-item.is (get_or_default c.args.part.kept.now c.loop-index.index c.index-part-index.result y beside))

pub loop-index-preserved : goal.loop-index-preserved
loop-index-preserved g c =
    let beside = zip_within (thread_told c.args.part.images.now) (AllZip (IsKeptPrintable c.args.part.images.now)) c.args.part.threads.now c.args.part.kept.now c.requires.printable c.loop-index.index c.loop-index-test.true in
    let y = get_or c.args.part.kept.now c.loop-index.index c.index-part-index.result in
    record {
      gained = zip_gains_more (thread_told c.args.part.images.now) (AllZip (IsKeptPrintable c.args.part.images.now)) c.args.part.threads.now c.args.part.kept.now c.requires.printable c.loop-index.index c.loop-index-test.true (thread_text c.args.part.round) c.thread-item.result y c.thread-item.is (get_or_default c.args.part.kept.now c.loop-index.index c.index-part-index.result y beside) _ _ _ c.loop-index.invariant.gained (rw (c.deref.ensures.value ∙ c.thread.view_is, c.deref-in-loop-index.ensures.value ∙ c.kept.view_is) at c.in_ok-write_thread.ensures.ok);
      writable = c.in_ok-write_thread.ensures.goes_on;
      sound = c.in_ok-write_thread.ensures.sound (λ is. cc) ∙ c.loop-index.invariant.sound;
    }

pub returns-in_err-write_thread-clause-err : goal.returns-in_err-write_thread-clause-err
returns-in_err-write_thread-clause-err g c =
    let beside = zip_within (thread_told c.args.part.images.now) (AllZip (IsKeptPrintable c.args.part.images.now)) c.args.part.threads.now c.args.part.kept.now c.requires.printable c.loop-index.index c.loop-index-test.true in
    let y = get_or c.args.part.kept.now c.loop-index.index c.index-part-index.result in
    let failed = err_from_is_err_and c.from_residual.result c.from_residual.ensures.1 in
    rw failed.1 (zip_gains_part (thread_told c.args.part.images.now) (AllZip (IsKeptPrintable c.args.part.images.now)) c.args.part.threads.now c.args.part.kept.now c.requires.printable c.loop-index.index c.loop-index-test.true (thread_text c.args.part.round) c.thread-item.result y c.thread-item.is (get_or_default c.args.part.kept.now c.loop-index.index c.index-part-index.result y beside) _ _ _ c.loop-index.invariant.gained (rw (c.deref.ensures.value ∙ c.thread.view_is, c.deref-in-loop-index.ensures.value ∙ c.kept.view_is) at c.in_err-write_thread.ensures.err))

pub returns-clause-ok : goal.returns-clause-ok
returns-clause-ok g c = zip_gains_all (thread_told c.args.part.images.now) (AllZip (IsKeptPrintable c.args.part.images.now)) c.args.part.threads.now c.args.part.kept.now c.requires.printable (thread_text c.args.part.round) c.loop-index.index c.loop-index-test.false _ _ c.loop-index.invariant.gained
