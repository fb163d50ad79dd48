use Rattle.std.proofs.Common.{◌<◌, ℕ, List, ◌∷◌, length, sym, ap₂, ◌∙◌, arith}
use Rattle.script_text.specs.Fields.{pieces}
use Rattle.journal_reader.proofs.Cuts.{line_cut, no_line_cut}
use Rattle.journal_reader.proofs.lines.next_line.Goals as goal

pub returns-then-place-text-clause-lines : goal.returns-then-place-text-clause-lines
returns-then-place-text-clause-lines c = let e = c.place_of-place.ensures in no_line_cut c.args.text.now c.place_of-place.result c.if-place-text.true e.before

pub returns-clause-lines : goal.returns-clause-lines
returns-clause-lines c =
    let e = c.place_of-place.ensures in
    let within : c.place_of-place.result < length c.args.text.now = omega (arith, e.within, c.if-place-text.false) in
    line_cut c.args.text.now c.place_of-place.result within e.before (e.found within)
    ∙ ap₂ (λ (x y : List ℕ). x ∷ pieces 10 y) (sym c.split_at.ensures.front) (sym c.split_at-2.ensures.back)
