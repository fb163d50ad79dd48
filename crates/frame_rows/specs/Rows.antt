-- Rows of all columns, and the remembered ones: how the code goes through a program. Expressions
-- are told by their places.
use Rattle.std.specs.Prelude.{◌≡◌, ℕ, List, [], ◌∷◌, replicate, slice_set, slice_index_or}
use Rattle.std.specs.List.{fold}
use Rattle.frame_expr.specs.Registers.{column_count}
use Rattle.frame_parse.specs.Instructions.{PlacedInstruction, PlacedStep}
use Rattle.frame_parse.specs.declared.instructions.InstructionWith.TheVariants.{Nop, Advance, Set}
use Rattle.frame_parse.specs.declared.instructions.InstructionWith.TheVariants.{Restore, Remember}
use Rattle.frame_parse.specs.declared.instructions.InstructionWith.TheVariants.{RestoreState, Cfa}
use Rattle.frame_parse.specs.declared.instructions.InstructionWith.TheVariants.{CfaColumn}
use Rattle.frame_parse.specs.declared.instructions.InstructionWith.TheVariants.{CfaOffset}
use Rattle.frame_parse.specs.declared.instructions.InstructionWith.TheVariants.{CfaExpression}
use Rattle.frame_parse.specs.Programs.{HasPlacedSteps}
use Rattle.frame_parse.specs.Sections.{FdeData}
use Rattle.frame_parse.specs.Steps.{left_of_initial, left_of_program}
use Rattle.frame_rows.specs.declared.rule.RuleWith.TheVariants as rules
use Rattle.frame_rows.specs.declared.rule.CfaRuleWith.TheVariants as cfas
use Rattle.frame_rows.specs.declared.placed_row.PlacedRow.{PlacedRow}
use Rattle.frame_rows.specs.Columns.{rule_of, with_column, with_offset, instructions, up_to}

-- the row before any instruction
abbrev pub unset : PlacedRow
unset = record { cfa = cfas.Missing; columns = replicate column_count rules.Unset }

-- the row after an instruction that doesn't remember or restore a state
abbrev pub applied : PlacedRow → PlacedRow → PlacedInstruction → PlacedRow
applied base row (Set q rule) = record row { columns = slice_set row.columns q (rule_of rule) }
applied base row (Restore q) =
    record row { columns = slice_set row.columns q (slice_index_or base.columns q rules.Unset) }
applied base row (Cfa q n) = record row { cfa = cfas.Offset q n }
applied base row (CfaColumn q) = record row { cfa = with_column q row.cfa }
applied base row (CfaOffset n) = record row { cfa = with_offset n row.cfa }
applied base row (CfaExpression e) = record row { cfa = cfas.Expression e }
applied base row Remember = row
applied base row RestoreState = row
applied base row Nop = row
applied base row Advance = row

-- any instruction but a restore, which alone asks for another row
abbrev pub IsNoRestore : PlacedInstruction → Type 0
IsNoRestore i = (q : ℕ) → i ≡ Restore q → ⊥

-- a row, and the remembered ones, the last one first
pub record Rows : Type 0 where
  pub row : PlacedRow
  pub remembered : List PlacedRow

abbrev pub beside : PlacedRow → List PlacedRow → Rows
beside row below = record { row = row; remembered = below }

abbrev pub restored : PlacedRow → List PlacedRow → Rows
restored row [] = record { row = row; remembered = [] }
restored row (last ∷ others) = record { row = last; remembered = others }

abbrev pub rows_step : PlacedRow → Rows → PlacedInstruction → Rows
rows_step base s Remember = record { row = s.row; remembered = s.row ∷ s.remembered }
rows_step base s RestoreState = restored s.row s.remembered
rows_step base s (Set q rule) = record s { row = applied base s.row (Set q rule) }
rows_step base s (Restore q) = record s { row = applied base s.row (Restore q) }
rows_step base s (Cfa q n) = record s { row = applied base s.row (Cfa q n) }
rows_step base s (CfaColumn q) = record s { row = applied base s.row (CfaColumn q) }
rows_step base s (CfaOffset n) = record s { row = applied base s.row (CfaOffset n) }
rows_step base s (CfaExpression e) = record s { row = applied base s.row (CfaExpression e) }
rows_step base s Nop = s
rows_step base s Advance = s

-- the rows after the steps up to an address
abbrev pub rows_after : PlacedRow → ℕ → Rows → List PlacedStep → Rows
rows_after base pc s steps = fold (rows_step base) s (instructions (up_to pc steps))

-- the row that the initial instructions leave; inside them a restore leaves nothing set
abbrev pub base_row : ℕ → List PlacedStep → PlacedRow
base_row first initial = (rows_after unset first (beside unset []) initial).row

-- the steps of an FDE's initial instructions, and those of its own, with the places of expressions
abbrev pub HasPlacedInitial : FdeData → List PlacedStep → Type 0
HasPlacedInitial f steps = HasPlacedSteps (left_of_initial f) steps

abbrev pub HasPlacedProgram : FdeData → List PlacedStep → Type 0
HasPlacedProgram f steps = HasPlacedSteps (left_of_program f) steps

-- a row is the one that the initial instructions of an FDE leave
abbrev pub IsInitialRow : FdeData → PlacedRow → Type 0
IsInitialRow f row = (initial : List PlacedStep) → HasPlacedInitial f initial
    → row ≡ base_row f.entry.first initial
