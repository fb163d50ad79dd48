-- The row of an FDE at an address.
use Rattle.std.specs.Prelude.{◌≡◌, ℕ, ◌<◌, List, [], slice_get, Some}
use Rattle.frame_expr.specs.Registers.{column_count}
use Rattle.frame_parse.specs.Instructions.{PlacedStep, StepData}
use Rattle.frame_parse.specs.Sections.{FdeData}
use Rattle.frame_rows.specs.declared.placed_row.PlacedRow.{PlacedRow}
use Rattle.frame_rows.specs.Columns.{HasInitial, HasProgram, rule_at, cfa_at}
use Rattle.frame_rows.specs.Rows.{HasPlacedInitial, HasPlacedProgram, base_row, beside, rows_after}
use Rattle.frame_rows.specs.Rules.{RowData}

-- Both of the FDE's programs spell a list of steps, and for these the CFA and each column have
-- their own rules.
pub record IsRowAt (f : FdeData) (pc : ℕ) (row : RowData) : Type 0 where
  pub known : (initial : List StepData) × (steps : List StepData)
      × HasInitial f initial × HasProgram f steps
  pub cfa : (initial steps : List StepData) → HasInitial f initial → HasProgram f steps
      → row.cfa ≡ cfa_at initial steps pc
  pub columns : (initial steps : List StepData) → HasInitial f initial → HasProgram f steps
      → (r : ℕ) → r < column_count
      → slice_get row.columns r ≡ Some (rule_at r initial steps pc)

-- the row of all columns that the steps up to an address leave, after the initial ones
abbrev pub placed_row_at : FdeData → List PlacedStep → List PlacedStep → ℕ → PlacedRow
placed_row_at f initial steps pc =
    let base = base_row f.entry.first initial in (rows_after base pc (beside base []) steps).row

-- the same for the steps that both programs spell
abbrev pub IsPlacedRowAt : FdeData → ℕ → PlacedRow → Type 0
IsPlacedRowAt f pc row =
    (initial steps : List PlacedStep) → HasPlacedInitial f initial → HasPlacedProgram f steps
    → row ≡ placed_row_at f initial steps pc
