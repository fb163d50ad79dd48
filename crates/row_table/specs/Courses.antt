-- The course of a program through states: rows that instructions have left, also between two
-- advances, each with its number.
use Rattle.std.specs.Prelude.{◌≡◌, ℕ, ◌<◌, List, length, get_or, map, All, Option, Some, None}
use Rattle.frame_rows.specs.declared.placed_row.PlacedRow.{PlacedRow}
use Rattle.frame_rows.specs.Rows.{unset}
use Rattle.row_table.specs.Transitions.{IsNumberOf, IsTransition}
use Rattle.row_table.specs.declared.transitions.Transition.{Transition}

-- The rows that differ, the states, and of these by their numbers the one that the initial
-- instructions leave, the one here, and those that are remembered, the last one first.
pub record CourseData : Type 0 where
  pub distinct : List PlacedRow
  pub states : List PlacedRow
  pub base : ℕ
  pub here : ℕ
  pub kept : List ℕ

-- a course by its parts
abbrev pub course : List PlacedRow → List PlacedRow → ℕ → ℕ → List ℕ → CourseData
course distinct states base here kept =
    record { distinct = distinct; states = states; base = base; here = here; kept = kept }

-- the same as rows
pub record Standing : Type 0 where
  pub base : PlacedRow
  pub row : PlacedRow
  pub kept : List PlacedRow

abbrev pub state_in : List PlacedRow → ℕ → PlacedRow
state_in states number = get_or states number unset

abbrev pub standing : CourseData → Standing
standing c = record {
  base = state_in c.states c.base;
  row = state_in c.states c.here;
  kept = map (state_in c.states) c.kept;
}

-- the states are there that a program may come back to
pub record AreStates (c : CourseData) : Type 0 where
  pub base : c.base < length c.states
  pub here : c.here < length c.states
  pub kept : All (λ number. number < length c.states) c.kept

-- a state's row has the number that is told of it
abbrev pub HaveRowNumbers : List PlacedRow → List PlacedRow → List (Option ℕ) → Type 0
HaveRowNumbers distinct states numbers = (state number : ℕ)
    → get_or numbers state None ≡ Some number
    → (state < length states) × IsNumberOf distinct number (state_in states state)

-- what holds of a course, by what is kept of it
pub record IsCourse (c : CourseData) (numbers : List (Option ℕ)) (met : List Transition)
    : Type 0 where
  pub states : AreStates c
  pub transitions : All (IsTransition c.states) met
  pub numbered : HaveRowNumbers c.distinct c.states numbers
