use Rattle.std.proofs.Common.{sym, ◌∙◌, subst, arith}
use Rattle.std.proofs.lemmas.Bool.{false≢true}
use Rattle.std.proofs.lemmas.List.Elements.{All-more}
use Rattle.receipt_check.specs.declared.turns.Turn.{Turn}
use Rattle.receipt_check.specs.Flaws.{told_history}
use Rattle.receipt_check.proofs.InTurn.{stands_first, reached}
use Rattle.receipt_check.proofs.Misfits.{FitsThere, fits_as_told, misfit_found, updates_fit}
use Rattle.receipt_check.proofs.history.first_misfit.Goals as goal

pub loop-turn-init : goal.loop-turn-init
loop-turn-init c = record { stands = stands_first _ _ _ _ (rw (← c.account.view_is) (rw c.deref.ensures.value at (c.in_ok-present.ensures.present c.args.history.now))) c.in_ok-present.ensures.none; fit = λ k d never. absurd (omega arith) }

pub loop-turn-preserved : goal.loop-turn-preserved
loop-turn-preserved c =
    let at = reached _ _ _ c.loop-turn-test.true c.turn-item.is _ c.requires.turns c.args.account.now.start _ _ _ c.loop-turn.invariant.stands c.in_ok-go_on.ensures in
    let fits = fits_as_told c.args.account.now _ c.turn-item.result.row.now _ _ c.requires.history at.present at.made c.fits.ensures in
    let Fits = λ (t : Turn). FitsThere c.args.account.now.start (told_history c.args.account.now) t.row.now in
    record {
      stands = at.next;
      fit = All-more Fits _ _ _ c.loop-turn-test.true c.loop-turn.invariant.fit (subst Fits c.turn-item.is (fits.0 c.if-not-fits.false));
    }

pub returns-then-not-fits : goal.returns-then-not-fits
returns-then-not-fits c =
    let at = reached _ _ _ c.loop-turn-test.true c.turn-item.is _ c.requires.turns c.args.account.now.start _ _ _ c.loop-turn.invariant.stands c.in_ok-go_on.ensures in
    let fits = fits_as_told c.args.account.now _ c.turn-item.result.row.now _ _ c.requires.history at.present at.made c.fits.ensures in
    misfit_found c.args.account.now _ c.requires.turns _ _ c.requires.numbers c.loop-turn-test.true c.turn-item.is c.loop-turn.invariant.fit (λ so. false≢true (sym c.if-not-fits.true ∙ fits.1 so))

pub returns : goal.returns
returns c = updates_fit c.args.account.now c.args.turns.now c.requires.turns c.loop-turn.turn-index c.loop-turn-test.false c.loop-turn.invariant.fit
