-- A row that both programs of an FDE leave is its row at that address.
use Rattle.std.proofs.Common.{ℕ, List}
use Rattle.frame_parse.specs.Blocks.{HaveExpressions}
use Rattle.frame_parse.specs.Instructions.{PlacedStep}
use Rattle.frame_parse.specs.Sections.{FdeData}
use Rattle.frame_rows.specs.declared.placed_row.PlacedRow.{PlacedRow}
use Rattle.frame_rows.specs.Expressions.{HasExpressions}
use Rattle.frame_rows.specs.RowAt.{IsRowAt, IsPlacedRowAt}
use Rattle.frame_rows.specs.Rows.{HasPlacedInitial, HasPlacedProgram}
use Rattle.frame_rows.specs.Rules.{lent_row}
use Rattle.frame_rows.proofs.Agreement.{IsBehind, cfa_of, column_of, full_of}
use Rattle.frame_rows.proofs.BothPrograms.{Law, initial_at}
use Rattle.frame_rows.proofs.Expressions.{row_has}
use Rattle.frame_rows.proofs.LentRows.{CfaIs, ColumnsAre, initial_known, program_known, cfa_lent, columns_lent}

behind : (f : FdeData) (pc : ℕ) (row : PlacedRow) → Law → IsPlacedRowAt f pc row → (initial steps : List PlacedStep) → HasPlacedInitial f initial → HasPlacedProgram f steps → IsBehind f.entry.first pc initial steps row
behind f pc row law is initial steps has_initial has = record { at = initial_at f initial law has_initial; is = is initial steps has_initial has }

cfa_is : (f : FdeData) (pc : ℕ) (row : PlacedRow) → Law → IsPlacedRowAt f pc row → CfaIs f pc row
cfa_is f pc row law is = λ initial steps has_initial has. cfa_of f.entry.first pc initial steps row (behind f pc row law is initial steps has_initial has)

columns_are : (f : FdeData) (pc : ℕ) (row : PlacedRow) → Law → IsPlacedRowAt f pc row → ColumnsAre f pc row
columns_are f pc row law is = λ initial steps has_initial has r lt. column_of r f.entry.first pc initial steps row lt (behind f pc row law is initial steps has_initial has)

pub row_of : (f : FdeData) (pc : ℕ) (row : PlacedRow) (initial steps : List PlacedStep) → Law → HasPlacedInitial f initial → HasPlacedProgram f steps → IsPlacedRowAt f pc row → IsRowAt f pc (lent_row f.bytes row)
row_of f pc row initial steps law has_initial has is =
    let before = initial_known f initial has_initial in
    let own = program_known f steps has in
    record {
      known = (before.0, own.0, before.1, own.1);
      cfa = cfa_lent f pc row (cfa_is f pc row law is);
      columns = columns_lent f pc row (columns_are f pc row law is);
    }

pub expressions_of : (f : FdeData) (pc : ℕ) (row : PlacedRow) (initial steps : List PlacedStep) → Law → HasPlacedInitial f initial → HasPlacedProgram f steps
    → ((steps : List PlacedStep) → HasPlacedInitial f steps → HaveExpressions f.bytes steps) → ((steps : List PlacedStep) → HasPlacedProgram f steps → HaveExpressions f.bytes steps)
    → IsPlacedRowAt f pc row → HasExpressions f.bytes row
expressions_of f pc row initial steps law has_initial has stand stand_own is =
    let here = behind f pc row law is initial steps has_initial has in
    row_has f pc row initial steps (full_of f.entry.first pc initial steps row here) (stand initial has_initial) (stand_own steps has)
    (cfa_of f.entry.first pc initial steps row here) (λ r lt. column_of r f.entry.first pc initial steps row lt here)
