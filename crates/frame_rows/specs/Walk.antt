-- How a walk along a program goes on and stops, told by the rows after the steps that are left.
use Rattle.std.specs.Prelude.{◌≡◌, ℕ, ◌≤◌, List, ◌∷◌, length}
use Rattle.frame_parse.specs.Instructions.{PlacedStep}
use Rattle.frame_parse.specs.Programs.{PlacedProgramData, HasPlacedSteps}
use Rattle.frame_parse.specs.Order.{IsAscendingFrom, IsBalanced}
use Rattle.frame_rows.specs.declared.placed_row.PlacedRow.{PlacedRow}
use Rattle.frame_rows.specs.declared.walk.Stop.{Stop}
use Rattle.frame_rows.specs.declared.walk.Stop.TheVariants.{End, Restored, Untold}
use Rattle.frame_rows.specs.Rows.{Rows, beside, rows_after}

-- a program that goes on with these steps from a location up to an address, where so many rows are
-- remembered
pub record GoesOn (p : PlacedProgramData) (pc depth : ℕ) (steps : List PlacedStep) : Type 0 where
  pub has : HasPlacedSteps p steps
  pub location : ℕ
  pub reached : location ≤ pc
  pub ascending : IsAscendingFrom location steps
  pub balanced : IsBalanced depth steps

-- some of the steps are done: at q more of them are left, and the rows after all are those from
-- here on
pub record IsOnward (base : PlacedRow) (pc : ℕ) (from : Rows) (steps : List PlacedStep)
    (q : PlacedProgramData) (to : Rows) : Type 0 where
  pub more : List PlacedStep
  pub on : GoesOn q pc (length to.remembered) more
  pub same : rows_after base pc from steps ≡ rows_after base pc to more

-- from a row at p to another row at q, with the same rows remembered
abbrev pub ComesTo
    : PlacedRow → ℕ → PlacedProgramData → PlacedRow → PlacedProgramData → PlacedRow → Type 0
ComesTo base pc p row q other =
    (steps : List PlacedStep) (below : List PlacedRow) → GoesOn p pc (length below) steps
    → IsOnward base pc (beside row below) steps q (beside other below)

-- after the step that takes back the last of the remembered rows
pub record TakesBack (base : PlacedRow) (pc : ℕ) (row : PlacedRow) (below : List PlacedRow)
    (steps : List PlacedStep) (q : PlacedProgramData) : Type 0 where
  pub last : PlacedRow
  pub others : List PlacedRow
  pub are : below ≡ last ∷ others
  pub onward : IsOnward base pc (beside row below) steps q (beside last others)

-- A walk stops after all steps up to the address, with their row, or after a step that takes a row
-- back. Where it stops at a restore whose rule isn't told, its row says nothing.
abbrev pub Walks
    : PlacedRow → ℕ → PlacedProgramData → PlacedRow → Stop → PlacedProgramData → PlacedRow
    → Type 0
Walks base pc p row End q other =
    (steps : List PlacedStep) (below : List PlacedRow) → GoesOn p pc (length below) steps
    → (rows_after base pc (beside row below) steps).row ≡ other
Walks base pc p row Restored q other =
    (steps : List PlacedStep) (below : List PlacedRow) → GoesOn p pc (length below) steps
    → TakesBack base pc row below steps q
Walks base pc p row Untold q other = Unit {0}
