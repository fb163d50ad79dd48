use Rattle.std.proofs.Common.{◌∙◌}
use Rattle.std.specs.List.{AllZip}
use Rattle.std.proofs.lemmas.Result.{err_from_is_err_and}
use Rattle.script_text.specs.Text.{round_text}
use Rattle.run_engine.specs.Kept.{IsKeptPrintable, round_told}
use Rattle.run_engine.proofs.Numbered.{zip_gains_all, zip_gains_more, zip_gains_part, zip_within}
use Rattle.run_engine.proofs.Told.{AllZip-at}
use Rattle.run_engine.proofs.writing.write_rounds.Goals as goal

pub bounds-kept-index : goal.bounds-kept-index
bounds-kept-index g c = zip_within (round_told c.args.images.now) (AllZip (AllZip (IsKeptPrintable c.args.images.now))) c.args.rounds.now c.args.kept.now c.requires.printable c.loop-index.index c.loop-index-test.true

pub write_round-requires-clause-printable : goal.write_round-requires-clause-printable
write_round-requires-clause-printable g c =
    rw (c.deref.ensures.value ∙ c.round.view_is, c.deref-in-loop-index.ensures.value ∙ c.kept_round.view_is) (AllZip-at (AllZip (AllZip (IsKeptPrintable c.args.images.now))) c.args.rounds.now c.args.kept.now c.loop-index.index c.index-rounds-index.result c.index-kept-index.result c.requires.printable c.loop-index-test.true c.index-rounds-index.is c.index-kept-index.is)

pub loop-index-preserved : goal.loop-index-preserved
loop-index-preserved g c =
    record {
      gained = zip_gains_more (round_told c.args.images.now) (AllZip (AllZip (IsKeptPrintable c.args.images.now))) c.args.rounds.now c.args.kept.now c.requires.printable c.loop-index.index c.loop-index-test.true round_text c.index-rounds-index.result c.index-kept-index.result c.index-rounds-index.is c.index-kept-index.is _ _ _ c.loop-index.invariant.gained (rw (c.deref.ensures.value ∙ c.round.view_is, c.deref-in-loop-index.ensures.value ∙ c.kept_round.view_is) at c.in_ok-write_round.ensures.ok);
      writable = c.in_ok-write_round.ensures.goes_on;
      sound = c.in_ok-write_round.ensures.sound (λ is. cc) ∙ c.loop-index.invariant.sound;
    }

pub returns-in_err-write_round-clause-err : goal.returns-in_err-write_round-clause-err
returns-in_err-write_round-clause-err g c =
    let failed = err_from_is_err_and c.from_residual.result c.from_residual.ensures.1 in
    rw failed.1 (zip_gains_part (round_told c.args.images.now) (AllZip (AllZip (IsKeptPrintable c.args.images.now))) c.args.rounds.now c.args.kept.now c.requires.printable c.loop-index.index c.loop-index-test.true round_text c.index-rounds-index.result c.index-kept-index.result c.index-rounds-index.is c.index-kept-index.is _ _ _ c.loop-index.invariant.gained (rw (c.deref.ensures.value ∙ c.round.view_is, c.deref-in-loop-index.ensures.value ∙ c.kept_round.view_is) at c.in_err-write_round.ensures.err))

pub returns-clause-ok : goal.returns-clause-ok
returns-clause-ok g c = zip_gains_all (round_told c.args.images.now) (AllZip (AllZip (IsKeptPrintable c.args.images.now))) c.args.rounds.now c.args.kept.now c.requires.printable round_text c.loop-index.index c.loop-index-test.false _ _ c.loop-index.invariant.gained
