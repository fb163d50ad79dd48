-- What an instruction makes of a state, each state by its number.
use Rattle.std.specs.Prelude.{◌≡◌, ℕ, ◌<◌, List, ◌++◌, length, get_or}
use Rattle.frame_rows.specs.declared.placed_row.PlacedRow.{PlacedRow}
use Rattle.frame_rows.specs.Rows.{applied, unset}
use Rattle.row_table.specs.declared.transitions.Transition.{Transition}

-- a row has this number
abbrev pub IsNumberOf : List PlacedRow → ℕ → PlacedRow → Type 0
IsNumberOf rows number row = (number < length rows) × (get_or rows number unset ≡ row)

-- rows came after those that were there
abbrev pub IsLonger : List PlacedRow → List PlacedRow → Type 0
IsLonger old new = (more : List PlacedRow) × (new ≡ old ++ more)

-- The row of a state is what the instruction makes of another's, where the initial instructions
-- leave that of the base.
pub record IsTransition (rows : List PlacedRow) (t : Transition) : Type 0 where
  pub base : t.base < length rows
  pub from : t.from < length rows
  pub to : IsNumberOf rows t.to
      (applied (get_or rows t.base unset) (get_or rows t.from unset) t.instruction)
