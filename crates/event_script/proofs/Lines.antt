-- Reading line after line.
use Rattle.std.proofs.Common.{◌≡◌, ℕ, ◌+◌, List, ◌∷◌, sym, ap, ◌∙◌}
use Rattle.script_text.specs.Fields.{pieces}
use Rattle.event_script.specs.Draft.{DraftData}
use Rattle.event_script.specs.Reading.{◌>=>◌, at_line, after_line, after_lines}
use Rattle.script_text.proofs.Pieces.{some_pieces}

-- a line, and then the others
pub line_first : (known : DraftData) (number : ℕ) (line bytes : List ℕ) → after_lines known number (line ∷ pieces 10 bytes) ≡ (at_line number (after_line known line) >=> λ after. after_lines after (number + 1) (pieces 10 bytes))
unfolding after_lines
line_first known number line bytes =
    let p = some_pieces 10 bytes in
    ap (λ (others : List (List ℕ)). after_lines known number (line ∷ others)) p.2
    ∙ sym (ap (λ (others : List (List ℕ)). at_line number (after_line known line) >=> λ after. after_lines after (number + 1) others) p.2)
