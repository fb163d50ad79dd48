-- The expressions of a row's rules are bytes of the section.
use Rattle.std.proofs.Common.{◌≡◌, ℕ, ◌+◌, ◌^◌, List, drop, take, map, Bool, true, false, cond, nat_lt, Option, Some, None, Ok, Err, sym, ◌∙◌, ap, subst, arith}
use Rattle.eh_bytes.specs.CursorData.{CursorData}
use Rattle.eh_bytes.specs.declared.fault.ByteFault.TheVariants.{TooWide}
use Rattle.eh_bytes.specs.Leb.{leb_len, uleb_value, uleb_of}
use Rattle.frame_parse.specs.Blocks.{block_in, counted}
use Rattle.frame_parse.specs.Instructions.{StepData}
use Rattle.frame_parse.specs.Sections.{FdeData}
use Rattle.frame_parse.specs.Steps.{HasSteps, lent_step}
use Rattle.frame_rows.specs.Columns.{HasInitial, HasProgram, cfa_at, rule_at}
use Rattle.frame_rows.specs.Rules.{RuleData, PlacedRule, CfaRuleData, PlacedCfaRule, rule_told, cfa_rule_told}
use Rattle.frame_rows.specs.declared.rule.RuleWith.TheVariants as rules
use Rattle.frame_rows.specs.declared.rule.CfaRuleWith.TheVariants as cfas
use Rattle.frame_rows.proofs.Told.{rule_at_told, cfa_at_told}
use Rattle.hex.specs.Hex.{IsBytes}
use Rattle.trace_check.proofs.Bounded.{below_drop, below_take, below_none}

-- ---- blocks

counted_bytes : (r : CursorData) (o : Option ℕ) → IsBytes r.bytes → IsBytes (counted (uleb_of r o))
unfolding uleb_of
counted_bytes r None bytes = below_none 256 (omega arith)
counted_bytes r (Some n) bytes = read (nat_lt (uleb_value (take n r.bytes)) (2 ^ 64))
  where
    read : (b : Bool) → IsBytes (counted (cond b (Ok (uleb_value (take n r.bytes), record { bytes = drop n r.bytes; at = r.at + n })) (Err (TooWide r.at))))
    read true = below_take 256 (omega arith) (uleb_value (take n r.bytes)) (drop n r.bytes) (below_drop 256 (omega arith) n r.bytes bytes)
    read false = below_none 256 (omega arith)

block_bytes : (bytes : List ℕ) (place : ℕ) → IsBytes bytes → IsBytes (block_in bytes place)
block_bytes bytes place are = counted_bytes (record { bytes = drop place bytes; at = place }) (leb_len (drop place bytes)) (below_drop 256 (omega arith) place bytes are)

-- ---- rules

abbrev pub HasBytes : RuleData → Type 0
HasBytes (rules.Expression e) = IsBytes e
HasBytes (rules.ValExpression e) = IsBytes e
HasBytes _ = Unit {0}

abbrev pub CfaHasBytes : CfaRuleData → Type 0
CfaHasBytes (cfas.Expression e) = IsBytes e
CfaHasBytes _ = Unit {0}

told_bytes : (bytes : List ℕ) (rule : PlacedRule) → IsBytes bytes → HasBytes (rule_told (block_in bytes) rule)
told_bytes bytes rules.Unset are = tt
told_bytes bytes rules.Undefined are = tt
told_bytes bytes rules.Same are = tt
told_bytes bytes (rules.Offset n) are = tt
told_bytes bytes (rules.ValOffset n) are = tt
told_bytes bytes (rules.Register q) are = tt
told_bytes bytes (rules.Expression place) are = block_bytes bytes place are
told_bytes bytes (rules.ValExpression place) are = block_bytes bytes place are

cfa_told_bytes : (bytes : List ℕ) (rule : PlacedCfaRule) → IsBytes bytes → CfaHasBytes (cfa_rule_told (block_in bytes) rule)
cfa_told_bytes bytes cfas.Missing are = tt
cfa_told_bytes bytes (cfas.Offset q n) are = tt
cfa_told_bytes bytes (cfas.Expression place) are = block_bytes bytes place are

module _ (f : FdeData) (pc : ℕ) (initial steps : List StepData) (are : IsBytes f.bytes) where
  pub cfa_bytes : HasInitial f initial → HasProgram f steps → CfaHasBytes (cfa_at initial steps pc)
  unfolding HasSteps
  cfa_bytes (first, has_first, is_first) (own, has_own, is_own) =
      let b = block_in f.bytes in
      let told = cfa_told_bytes f.bytes (cfa_at first own pc) are in
      let same : cfa_rule_told b (cfa_at first own pc) ≡ cfa_at initial steps pc =
      cfa_at_told b b first own pc
      ∙ ap (λ (l : List StepData). cfa_at l (map (lent_step f.bytes) own) pc) (sym is_first)
      ∙ ap (λ (l : List StepData). cfa_at initial l pc) (sym is_own) in
      subst CfaHasBytes same told

  pub rule_bytes : (r : ℕ) → HasInitial f initial → HasProgram f steps → HasBytes (rule_at r initial steps pc)
  unfolding HasSteps
  rule_bytes r (first, has_first, is_first) (own, has_own, is_own) =
      let b = block_in f.bytes in
      let told = told_bytes f.bytes (rule_at r first own pc) are in
      let same : rule_told b (rule_at r first own pc) ≡ rule_at r initial steps pc =
      rule_at_told b b r first own pc
      ∙ ap (λ (l : List StepData). rule_at r l (map (lent_step f.bytes) own) pc) (sym is_first)
      ∙ ap (λ (l : List StepData). rule_at r initial l pc) (sym is_own) in
      subst HasBytes same told
