use Rattle.std.proofs.Common.{◌≡◌, ◌∙◌}
use Rattle.std.proofs.lemmas.Result.{on_ok_weaker, on_err_weaker}
use Rattle.script_text.specs.Text.{updates_text}
use Rattle.run_ports.proofs.Pieces.{Gains-more, GainsPart-more, GainsPart-wider, GainsPart-all}
use Rattle.run_engine.proofs.writing.write_journal.Goals as goal

pub write_rounds-requires-clause-printable : goal.write_rounds-requires-clause-printable
write_rounds-requires-clause-printable g c =
    rw (c.deref.ensures.value, c.deref-2.ensures.value, c.deref-3.ensures.value) (rw (← c.script.view_is, ← c.kept.view_is) at c.requires.printable)

pub returns-in-Err-clause-err : goal.returns-in-Err-clause-err
returns-in-Err-clause-err g c =
    let part = rw (c.deref.ensures.value, c.deref-2.ensures.value, c.deref-3.ensures.value) at c.in-Err.ensures.err in
    rw (← c.script.view_is, ← c.kept.view_is) (GainsPart-wider _ _ _ (updates_text c.kept.inside.updates) part)

pub returns-in-Err-print_updates-clause-err : goal.returns-in-Err-print_updates-clause-err
returns-in-Err-print_updates-clause-err g c =
    let gained = rw (c.deref.ensures.value, c.deref-2.ensures.value, c.deref-3.ensures.value) at c.in-Ok.ensures.ok in
    rw (← c.script.view_is, ← c.kept.view_is) (GainsPart-wider _ _ _ (updates_text c.kept.inside.updates) (GainsPart-all _ _ _ gained))

pub returns-clause-ok : goal.returns-clause-ok
returns-clause-ok g c =
    let gained = rw (c.deref.ensures.value, c.deref-2.ensures.value, c.deref-3.ensures.value) at c.in-Ok.ensures.ok in
    let last : c.deref-4.result.now ≡ updates_text c.kept.inside.updates = c.deref-4.ensures.value ∙ c.in-Ok-print_updates.ensures.text in
    rw (← c.script.view_is, ← c.kept.view_is) (on_ok_weaker c.write_piece.result (λ more. Gains-more _ _ _ _ _ gained (rw last at more)) c.write_piece.ensures.ok)

pub returns-clause-err : goal.returns-clause-err
returns-clause-err g c =
    let gained = rw (c.deref.ensures.value, c.deref-2.ensures.value, c.deref-3.ensures.value) at c.in-Ok.ensures.ok in
    let last : c.deref-4.result.now ≡ updates_text c.kept.inside.updates = c.deref-4.ensures.value ∙ c.in-Ok-print_updates.ensures.text in
    rw (← c.script.view_is, ← c.kept.view_is) (on_err_weaker c.write_piece.result (λ more. GainsPart-more _ _ _ _ _ gained (rw last at more)) c.write_piece.ensures.err)
