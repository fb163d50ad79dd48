-- The next frame of a backtrace: what an FDE makes of a frame's registers, at the address where the
-- frame was looked up.
use Rattle.std.specs.Prelude.{◌≡◌, ◌≢◌, ◌⊎◌, ℕ, ◌<◌, List, length, Some, Ok, Err, slice_get}
use Rattle.std.specs.Prelude.{slice_index, slice_index_or}
use Rattle.frame_expr.specs.declared.fault.NoBytes.{NoBytes}
use Rattle.frame_expr.specs.Regions.{RegionData}
use Rattle.frame_expr.specs.Registers.{column_count, return_address_column}
use Rattle.frame_parse.specs.Instructions.{StepData}
use Rattle.frame_parse.specs.Sections.{FdeData}
use Rattle.frame_rows.specs.declared.rule.CfaRuleWith.TheVariants as cfas
use Rattle.frame_rows.specs.declared.rule.RuleWith.TheVariants as rules
use Rattle.frame_rows.specs.Rules.{RowData, RuleData}
use Rattle.frame_rows.specs.Columns.{HasInitial, HasProgram, cfa_at, rule_at}
use Rattle.unwind_step.specs.Rules.{IsCfa, IsRestored}
use Rattle.unwind_step.specs.declared.next.Stepped.{Stepped}
use Rattle.unwind_step.specs.declared.next.Stepped.TheVariants as stepped

-- the rule of a column
abbrev pub rule_in : RowData → ℕ → RuleData
rule_in row r = slice_index_or row.columns r rules.Unset

-- the row leads to a frame: it says where the CFA is, and where the return address
pub record Leads (row : RowData) : Type 0 where
  pub cfa : row.cfa ≢ cfas.Missing
  pub defined : rule_in row return_address_column ≢ rules.Undefined
  pub told : rule_in row return_address_column ≢ rules.Unset

-- the columns below a number are restored by their rules
abbrev pub AreRestored : ℕ → RowData → ℕ → List ℕ → List RegionData → List ℕ → Type 0
AreRestored count row cfa old memory new =
    (r : ℕ) → r < count → IsRestored r (rule_in row r) cfa old memory (Ok (slice_index new r))

-- a column can't be restored, and all columns before it can
pub record FailsFirst (row : RowData) (cfa : ℕ) (old : List ℕ)
    (memory : List RegionData) (fault : NoBytes) : Type 0 where
  pub r : ℕ
  pub below : r < column_count
  pub fails : IsRestored r (rule_in row r) cfa old memory (Err fault)
  pub new : List ℕ
  pub earlier : AreRestored r row cfa old memory new

-- the frame before, with each column restored
pub record IsFrame (row : RowData) (old : List ℕ) (memory : List RegionData)
    (new : List ℕ) : Type 0 where
  pub leads : Leads row
  pub cfa : ℕ
  pub is_cfa : IsCfa row.cfa old memory (Ok cfa)
  pub restored : AreRestored column_count row cfa old memory new
  pub all : length new ≡ column_count

-- the frame before can't be had: the CFA, or the first column that fails, needs bytes that weren't
-- recorded
pub record LacksBytes (row : RowData) (old : List ℕ) (memory : List RegionData)
    (fault : NoBytes) : Type 0 where
  pub leads : Leads row
  pub fails : IsCfa row.cfa old memory (Err fault)
      ⊎ ((cfa : ℕ) × IsCfa row.cfa old memory (Ok cfa)
      × FailsFirst row cfa old memory fault)

-- What a row makes of the old registers. Of two causes the first counts: no rule for the CFA; the
-- return address's column undefined, or without a rule; the CFA; the columns from 0 on.
abbrev pub IsStep : RowData → List ℕ → List RegionData → Stepped → Type 0
IsStep row old memory stepped.NoRow =
    (row.cfa ≡ cfas.Missing) ⊎ (rule_in row return_address_column ≡ rules.Unset)
IsStep row old memory stepped.Undefined =
    (row.cfa ≢ cfas.Missing) × (rule_in row return_address_column ≡ rules.Undefined)
IsStep row old memory (stepped.Frame regs) = IsFrame row old memory regs.columns
IsStep row old memory (stepped.NoBytes a) =
    LacksBytes row old memory (record { address = a })

-- the row of an FDE at an address: the CFA and each column have the rules that its instructions
-- give them there
pub record IsRow (f : FdeData) (pc : ℕ) (row : RowData) : Type 0 where
  pub initial : List StepData
  pub steps : List StepData
  pub has_initial : HasInitial f initial
  pub has_program : HasProgram f steps
  pub cfa : row.cfa ≡ cfa_at initial steps pc
  pub columns : (r : ℕ) → r < column_count
      → slice_get row.columns r ≡ Some (rule_at r initial steps pc)

-- what an FDE makes of the old registers, at the address that was looked up
pub record IsNextFrame (f : FdeData) (look : ℕ) (old : List ℕ) (memory : List RegionData)
    (outcome : Stepped) : Type 0 where
  pub row : RowData
  pub is_row : IsRow f look row
  pub is_step : IsStep row old memory outcome
