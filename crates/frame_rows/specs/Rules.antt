-- Rules, by how their expressions are told: by the places of their blocks in the section's bytes,
-- or by their own bytes.
use Rattle.std.specs.Prelude.{ℕ, List, map}
use Rattle.frame_parse.specs.Blocks.{block_in}
use Rattle.frame_rows.specs.declared.rule.RuleWith.{RuleWith}
use Rattle.frame_rows.specs.declared.rule.RuleWith.TheVariants as rules
use Rattle.frame_rows.specs.declared.rule.CfaRuleWith.{CfaRuleWith}
use Rattle.frame_rows.specs.declared.rule.CfaRuleWith.TheVariants as cfas
use Rattle.frame_rows.specs.declared.placed_row.PlacedRow.{PlacedRow}

-- ---- told by places

abbrev pub PlacedRule : Type 0
PlacedRule = RuleWith ℕ

abbrev pub PlacedCfaRule : Type 0
PlacedCfaRule = CfaRuleWith ℕ

-- ---- told by bytes

abbrev pub RuleData : Type 0
RuleData = RuleWith (List ℕ)

abbrev pub CfaRuleData : Type 0
CfaRuleData = CfaRuleWith (List ℕ)

-- what contracts see of a row
pub record RowData : Type 0 where
  pub cfa : CfaRuleData
  pub columns : List RuleData

-- ---- the same, with its expression told in another way

abbrev pub rule_told : {A B : Type 0} → (A → B) → RuleWith A → RuleWith B
rule_told f rules.Unset = rules.Unset
rule_told f rules.Undefined = rules.Undefined
rule_told f rules.Same = rules.Same
rule_told f (rules.Offset n) = rules.Offset n
rule_told f (rules.ValOffset n) = rules.ValOffset n
rule_told f (rules.Register q) = rules.Register q
rule_told f (rules.Expression e) = rules.Expression (f e)
rule_told f (rules.ValExpression e) = rules.ValExpression (f e)

abbrev pub cfa_rule_told : {A B : Type 0} → (A → B) → CfaRuleWith A → CfaRuleWith B
cfa_rule_told f cfas.Missing = cfas.Missing
cfa_rule_told f (cfas.Offset q n) = cfas.Offset q n
cfa_rule_told f (cfas.Expression e) = cfas.Expression (f e)

-- a row with its expressions, which stand in their blocks
abbrev pub lent_row : List ℕ → PlacedRow → RowData
lent_row bytes row = record {
  cfa = cfa_rule_told (block_in bytes) row.cfa;
  columns = map (rule_told (block_in bytes)) row.columns;
}
