-- The row that initial instructions leave, whichever FDE of their CIE they stand before.
use Rattle.std.proofs.Common.{◌≡◌, ℕ, List, [], sym, ap, ◌∙◌}
use Rattle.std.specs.List.{fold}
use Rattle.frame_parse.specs.Instructions.{PlacedInstruction, PlacedStep}
use Rattle.frame_parse.specs.Order.{AreAt}
use Rattle.frame_parse.specs.Programs.{HasPlacedSteps}
use Rattle.frame_parse.specs.Sections.{FdeData}
use Rattle.frame_parse.specs.Steps.{left_of_initial, HaveOneCie, HaveOneProgram}
use Rattle.frame_rows.specs.declared.placed_row.PlacedRow.{PlacedRow}
use Rattle.frame_rows.specs.Columns.{instructions}
use Rattle.frame_rows.specs.Rows.{IsInitialRow, unset, beside, rows_step, base_row}
use Rattle.frame_rows.proofs.Agreement.{all_up_to}
use Rattle.frame_rows.proofs.BothPrograms.{Law, initial_at}

-- FDEs with one CIE have the same initial instructions
abbrev pub Alike : Type 0
Alike = (f g : FdeData) (steps : List PlacedStep) → HaveOneCie f g → HasPlacedSteps (left_of_initial f) steps
    → (others : List PlacedStep) × HasPlacedSteps (left_of_initial g) others × HaveOneProgram others steps

abbrev row_of_all : List PlacedInstruction → PlacedRow
row_of_all is = (fold (rows_step unset) (beside unset []) is).row

base_of : (first : ℕ) (steps : List PlacedStep) → AreAt first steps → base_row first steps ≡ row_of_all (instructions steps)
base_of first steps at = ap (λ (l : List PlacedStep). row_of_all (instructions l)) (all_up_to first steps at)

turned : (f g : FdeData) → HaveOneCie f g → HaveOneCie g f
turned f g one = record { section = sym one.section; bytes = sym one.bytes; cie = sym one.cie }

pub one_initial_row : Law → Alike → (f g : FdeData) (row : PlacedRow) → HaveOneCie f g → IsInitialRow f row → IsInitialRow g row
one_initial_row law alike f g row one is = λ initial has.
    let there = alike g f initial (turned f g one) has in
    is there.0 there.1
    ∙ base_of f.entry.first there.0 (initial_at f there.0 law there.1)
    ∙ ap row_of_all there.2
    ∙ sym (base_of g.entry.first initial (initial_at g initial law has))
