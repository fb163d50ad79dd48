-- Rows, as C is told: in numbers.
use Rattle.std.specs.Prelude.{◌≡◌, ℕ, ◌<◌, List, Option, Some, None, Bool, true, false, slice_index}
use Rattle.std.specs.Prelude.{slice_index_or}
use Rattle.frame_expr.specs.Registers.{column_count}
use Rattle.frame_parse.specs.Sections.{FdeData}
use Rattle.frame_rows.specs.declared.placed_row.PlacedRow.{PlacedRow}
use Rattle.frame_rows.specs.declared.rule.RuleWith.{RuleWith}
use Rattle.frame_rows.specs.declared.rule.RuleWith.TheVariants as rules
use Rattle.frame_rows.specs.declared.rule.CfaRuleWith.{CfaRuleWith}
use Rattle.frame_rows.specs.declared.rule.CfaRuleWith.TheVariants as cfas
use Rattle.frame_rows.specs.RowAt.{IsRowAt}
use Rattle.frame_rows.specs.Rules.{RowData, RuleData, lent_row}
use Rattle.frames_c.specs.declared.row.FramesRow.{FramesRow}

-- the kind of a column's rule, and its number; an expression has none, however it is told
abbrev pub rule_kind : {E : Type 0} → RuleWith E → ℕ
rule_kind rules.Unset = 0
rule_kind rules.Undefined = 1
rule_kind rules.Same = 2
rule_kind (rules.Offset n) = 3
rule_kind (rules.ValOffset n) = 4
rule_kind (rules.Register q) = 5
rule_kind (rules.Expression e) = 6
rule_kind (rules.ValExpression e) = 7

abbrev pub rule_number : {E : Type 0} → RuleWith E → ℕ
rule_number rules.Unset = 0
rule_number rules.Undefined = 0
rule_number rules.Same = 0
rule_number (rules.Offset n) = n
rule_number (rules.ValOffset n) = n
rule_number (rules.Register q) = q
rule_number (rules.Expression e) = 0
rule_number (rules.ValExpression e) = 0

-- the same of the CFA's, which may have a column and an offset
abbrev pub cfa_rule_kind : {E : Type 0} → CfaRuleWith E → ℕ
cfa_rule_kind cfas.Missing = 0
cfa_rule_kind (cfas.Offset q n) = 1
cfa_rule_kind (cfas.Expression e) = 2

abbrev pub cfa_rule_column : {E : Type 0} → CfaRuleWith E → ℕ
cfa_rule_column cfas.Missing = 0
cfa_rule_column (cfas.Offset q n) = q
cfa_rule_column (cfas.Expression e) = 0

abbrev pub cfa_rule_offset : {E : Type 0} → CfaRuleWith E → ℕ
cfa_rule_offset cfas.Missing = 0
cfa_rule_offset (cfas.Offset q n) = n
cfa_rule_offset (cfas.Expression e) = 0

-- the rule of a column
abbrev pub column_rule : RowData → ℕ → RuleData
column_rule row r = slice_index_or row.columns r rules.Unset

-- the first columns are told
pub record AreToldRules (row : RowData) (count : ℕ) (kinds numbers : List ℕ) : Type 0 where
  pub kind : (r : ℕ) → r < count → slice_index kinds r ≡ rule_kind (column_rule row r)
  pub number : (r : ℕ) → r < count → slice_index numbers r ≡ rule_number (column_rule row r)

-- a row with all its columns
pub record IsToldRow (row : RowData) (told : FramesRow) : Type 0 where
  pub cfa : told.cfa ≡ cfa_rule_kind row.cfa
  pub column : told.cfa_column ≡ cfa_rule_column row.cfa
  pub offset : told.cfa_offset ≡ cfa_rule_offset row.cfa
  pub columns : AreToldRules row column_count told.rules told.numbers

-- the same of a row that tells its expressions by their places, whatever bytes they stand in
pub record IsToldPlaced (row : PlacedRow) (told : FramesRow) : Type 0 where
  pub lent : (bytes : List ℕ) → IsToldRow (lent_row bytes row) told

-- the row of an address, where an FDE covers it
abbrev pub IsRowOf : FdeData → ℕ → FramesRow → Type 0
IsRowOf f pc told = (row : RowData) × IsRowAt f pc row × IsToldRow row told

-- the answer to one address: the row, or nothing where no FDE covers it
abbrev pub AnswersRow : Option FdeData → ℕ → Bool → FramesRow → FramesRow → Type 0
AnswersRow (Some f) pc found old new = (found ≡ true) × IsRowOf f pc new
AnswersRow None pc found old new = (found ≡ false) × (new ≡ old)
