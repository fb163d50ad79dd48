-- Where the expressions of rules stand: in the bytes of the section from which the instructions
-- were read.
use Rattle.std.specs.Prelude.{ℕ, List, slice_index_or}
use Rattle.frame_parse.specs.Blocks.{HasExpression}
use Rattle.frame_rows.specs.declared.rule.RuleWith.TheVariants as rules
use Rattle.frame_rows.specs.declared.rule.CfaRuleWith.TheVariants as cfas
use Rattle.frame_rows.specs.declared.placed_row.PlacedRow.{PlacedRow}
use Rattle.frame_rows.specs.Rules.{PlacedRule, PlacedCfaRule}

-- the expression of a column's rule, where it has one, stands in the bytes; it starts with the CFA
abbrev pub HasColumnExpression : List ℕ → PlacedRule → Type 0
HasColumnExpression bytes (rules.Expression e) = HasExpression 1 bytes e
HasColumnExpression bytes (rules.ValExpression e) = HasExpression 1 bytes e
HasColumnExpression bytes _ = Unit {0}

-- the same of the CFA, whose expression starts with nothing
abbrev pub HasCfaExpression : List ℕ → PlacedCfaRule → Type 0
HasCfaExpression bytes (cfas.Expression e) = HasExpression 0 bytes e
HasCfaExpression bytes _ = Unit {0}

-- the same of all rules of a row
pub record HasExpressions (bytes : List ℕ) (row : PlacedRow) : Type 0 where
  pub cfa : HasCfaExpression bytes row.cfa
  pub columns : (r : ℕ)
      → HasColumnExpression bytes (slice_index_or row.columns r rules.Unset)
