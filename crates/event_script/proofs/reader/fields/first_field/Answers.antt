use Rattle.std.proofs.Common.{ℕ, List, ◌∷◌, sym, ◌∙◌, ap₂}
use Rattle.script_text.specs.Fields.{pieces_after}
use Rattle.script_text.proofs.Pieces.{pieces_cut}
use Rattle.event_script.proofs.reader.fields.first_field.Goals as goal

pub returns : goal.returns
returns c =
    let e = c.place_of.ensures in
    pieces_cut 32 c.args.line.now c.place_of.result e.within e.before e.found
    ∙ ap₂ (λ (x y : List ℕ). x ∷ pieces_after 32 y) (sym c.split_at.ensures.front) (sym c.split_at.ensures.back)
