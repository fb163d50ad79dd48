-- What the rules of a row give, after DWARF 5, section 6.4: the CFA, and the number of a column in
-- the frame before. All of them read the old registers. Where a read fails, they give its address.
use Rattle.std.specs.Prelude.{◌≡◌, ℕ, ◌+◌, ◌%◌, ◌^◌, List, Option, Some, None, Result, Ok, Err}
use Rattle.std.specs.Prelude.{slice_index, ◌==◌, if◌then◌else◌}
use Rattle.frame_expr.specs.declared.fault.NoBytes.{NoBytes}
use Rattle.frame_expr.specs.Regions.{RegionData, word_at}
use Rattle.frame_expr.specs.Registers.{stack_pointer_column}
use Rattle.frame_expr.specs.Values.{IsValue}
use Rattle.frame_rows.specs.declared.rule.CfaRuleWith.TheVariants as cfas
use Rattle.frame_rows.specs.declared.rule.RuleWith.TheVariants as rules
use Rattle.frame_rows.specs.Rules.{CfaRuleData, RuleData}

-- the number that was read, or the address at which none was recorded
abbrev pub number_read : ℕ → Option ℕ → Result ℕ NoBytes
number_read address (Some n) = Ok n
number_read address None = Err (record { address = address })

-- the eight bytes at an address
abbrev pub saved_at : ℕ → List RegionData → Result ℕ NoBytes
saved_at address memory = number_read address (word_at address memory)

-- the CFA that a rule gives
abbrev pub IsCfa : CfaRuleData → List ℕ → List RegionData → Result ℕ NoBytes → Type 0
IsCfa cfas.Missing old memory cfa = ⊥
IsCfa (cfas.Offset q n) old memory cfa = cfa ≡ Ok ((slice_index old q + n) % 2 ^ 64)
IsCfa (cfas.Expression e) old memory cfa = IsValue 0 e old memory None cfa

-- the eight bytes at an address that was worked out
abbrev pub saved_by : Result ℕ NoBytes → List RegionData → Result ℕ NoBytes
saved_by (Ok address) memory = saved_at address memory
saved_by (Err fault) memory = Err fault

-- the eight bytes at the value of an expression that starts with the CFA
pub record IsSavedThere (e : List ℕ) (cfa : ℕ) (old : List ℕ)
    (memory : List RegionData) (number : Result ℕ NoBytes) : Type 0 where
  pub address : Result ℕ NoBytes
  pub is_value : IsValue 1 e old memory (Some cfa) address
  pub is_number : number ≡ saved_by address memory

-- The number that a column is restored to by its rule. Where no rule is set, it keeps its own; but
-- that of the stack pointer becomes the CFA.
abbrev pub IsRestored : ℕ → RuleData → ℕ → List ℕ → List RegionData → Result ℕ NoBytes
    → Type 0
IsRestored r rules.Unset cfa old memory number =
    number ≡ Ok (if r == stack_pointer_column then cfa else slice_index old r)
IsRestored r rules.Undefined cfa old memory number = number ≡ Ok (slice_index old r)
IsRestored r rules.Same cfa old memory number = number ≡ Ok (slice_index old r)
IsRestored r (rules.Offset n) cfa old memory number =
    number ≡ saved_at ((cfa + n) % 2 ^ 64) memory
IsRestored r (rules.ValOffset n) cfa old memory number = number ≡ Ok ((cfa + n) % 2 ^ 64)
IsRestored r (rules.Register q) cfa old memory number = number ≡ Ok (slice_index old q)
IsRestored r (rules.Expression e) cfa old memory number =
    IsSavedThere e cfa old memory number
IsRestored r (rules.ValExpression e) cfa old memory number =
    IsValue 1 e old memory (Some cfa) number
