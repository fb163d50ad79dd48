-- The rule of one column, after DWARF 5, sections 6.4.1 to 6.4.3, seen apart from all other
-- columns. All of it holds for expressions however they are told; C tells that of the CFA, E that
-- of a column.
use Rattle.std.specs.Prelude.{ℕ, List, [], ◌∷◌, map, ◌==◌, if◌then◌else◌, nat_le}
use Rattle.std.specs.List.{filter, fold}
use Rattle.frame_parse.specs.declared.instructions.ReadRuleWith.{ReadRuleWith}
use Rattle.frame_parse.specs.declared.instructions.ReadRuleWith.TheVariants as read
use Rattle.frame_parse.specs.declared.instructions.InstructionWith.{InstructionWith}
use Rattle.frame_parse.specs.declared.instructions.InstructionWith.TheVariants.{Nop, Advance, Set}
use Rattle.frame_parse.specs.declared.instructions.InstructionWith.TheVariants.{Restore, Remember}
use Rattle.frame_parse.specs.declared.instructions.InstructionWith.TheVariants.{RestoreState, Cfa}
use Rattle.frame_parse.specs.declared.instructions.InstructionWith.TheVariants.{CfaColumn}
use Rattle.frame_parse.specs.declared.instructions.InstructionWith.TheVariants.{CfaOffset}
use Rattle.frame_parse.specs.declared.instructions.InstructionWith.TheVariants.{CfaExpression}
use Rattle.frame_parse.specs.declared.instructions.StepWith.{StepWith}
use Rattle.frame_parse.specs.Instructions.{StepData}
use Rattle.frame_parse.specs.Steps.{HasSteps, initial_in, program_in}
use Rattle.frame_parse.specs.Sections.{FdeData}
use Rattle.frame_rows.specs.declared.rule.RuleWith.{RuleWith}
use Rattle.frame_rows.specs.declared.rule.RuleWith.TheVariants as rules
use Rattle.frame_rows.specs.declared.rule.CfaRuleWith.{CfaRuleWith}
use Rattle.frame_rows.specs.declared.rule.CfaRuleWith.TheVariants as cfas

-- a column's rule, and its rules in the remembered states, the last one first
pub record Column (A : Type 0) : Type 0 where
  pub rule : A
  pub remembered : List A

-- nothing is remembered at the start of a program
abbrev pub new_column : {A : Type 0} → A → Column A
new_column rule = record { rule = rule; remembered = [] }

-- remember_state keeps the rule beside those kept before
abbrev pub remember : {A : Type 0} → Column A → Column A
remember c = record { rule = c.rule; remembered = c.rule ∷ c.remembered }

-- restore_state takes the last one back
abbrev pub restore_from : {A : Type 0} → A → List A → Column A
restore_from rule [] = record { rule = rule; remembered = [] }
restore_from rule (last ∷ others) = record { rule = last; remembered = others }

abbrev pub restore_state : {A : Type 0} → Column A → Column A
restore_state c = restore_from c.rule c.remembered

-- ---- a register's column

-- the rule that an instruction sets
abbrev pub rule_of : {E : Type 0} → ReadRuleWith E → RuleWith E
rule_of read.Undefined = rules.Undefined
rule_of read.Same = rules.Same
rule_of (read.Offset n) = rules.Offset n
rule_of (read.ValOffset n) = rules.ValOffset n
rule_of (read.Register q) = rules.Register q
rule_of (read.Expression e) = rules.Expression e
rule_of (read.ValExpression e) = rules.ValExpression e

-- what an instruction does to column r: it may set it, or give it back the rule `base`
abbrev pub register_step
    : {C E : Type 0} → ℕ → RuleWith E → Column (RuleWith E) → InstructionWith C E
    → Column (RuleWith E)
register_step r base c (Set q rule) = if q == r then record c { rule = rule_of rule } else c
register_step r base c (Restore q) = if q == r then record c { rule = base } else c
register_step r base c Remember = remember c
register_step r base c RestoreState = restore_state c
register_step r base c Nop = c
register_step r base c Advance = c
register_step r base c (Cfa q n) = c
register_step r base c (CfaColumn q) = c
register_step r base c (CfaOffset n) = c
register_step r base c (CfaExpression e) = c

-- ---- the CFA's column

-- another column and the same offset, or the same column and another offset, of a rule that has
-- both
abbrev pub with_column : {C : Type 0} → ℕ → CfaRuleWith C → CfaRuleWith C
with_column q cfas.Missing = cfas.Missing
with_column q (cfas.Offset p n) = cfas.Offset q n
with_column q (cfas.Expression e) = cfas.Expression e

abbrev pub with_offset : {C : Type 0} → ℕ → CfaRuleWith C → CfaRuleWith C
with_offset n cfas.Missing = cfas.Missing
with_offset n (cfas.Offset q m) = cfas.Offset q n
with_offset n (cfas.Expression e) = cfas.Expression e

abbrev pub cfa_step : {C E : Type 0} → Column (CfaRuleWith C) → InstructionWith C E
    → Column (CfaRuleWith C)
cfa_step c (Cfa q n) = record c { rule = cfas.Offset q n }
cfa_step c (CfaColumn q) = record c { rule = with_column q c.rule }
cfa_step c (CfaOffset n) = record c { rule = with_offset n c.rule }
cfa_step c (CfaExpression e) = record c { rule = cfas.Expression e }
cfa_step c Remember = remember c
cfa_step c RestoreState = restore_state c
cfa_step c Nop = c
cfa_step c Advance = c
cfa_step c (Set q rule) = c
cfa_step c (Restore q) = c

-- ---- at an address

-- the instructions of all steps, and of those whose location is at most an address
abbrev pub instructions : {C E : Type 0} → List (StepWith C E) → List (InstructionWith C E)
instructions {C} {E} steps = map (λ (x : StepWith C E). x.instruction) steps

abbrev pub up_to : {C E : Type 0} → ℕ → List (StepWith C E) → List (StepWith C E)
up_to {C} {E} pc steps = filter (λ (x : StepWith C E). nat_le x.location pc) steps

-- The rule that the initial instructions leave. Inside them a restore leaves nothing set.
unfoldable pub initial_rule : {C E : Type 0} → ℕ → List (StepWith C E) → RuleWith E
initial_rule r initial =
    (fold (register_step r rules.Unset) (new_column rules.Unset) (instructions initial)).rule

-- The rule of column r at an address, where the FDE's programs are these steps.
unfoldable pub rule_at : {C E : Type 0} → ℕ → List (StepWith C E) → List (StepWith C E) → ℕ
    → RuleWith E
rule_at r initial steps pc =
    (fold (register_step r (initial_rule r initial)) (new_column (initial_rule r initial))
    (instructions (up_to pc steps))).rule

unfoldable pub initial_cfa : {C E : Type 0} → List (StepWith C E) → CfaRuleWith C
initial_cfa initial = (fold cfa_step (new_column cfas.Missing) (instructions initial)).rule

-- the rule of the CFA at an address
unfoldable pub cfa_at : {C E : Type 0} → List (StepWith C E) → List (StepWith C E) → ℕ
    → CfaRuleWith C
cfa_at initial steps pc =
    (fold cfa_step (new_column (initial_cfa initial)) (instructions (up_to pc steps))).rule

-- the steps that an FDE's initial instructions spell, and those of its own
abbrev pub HasInitial : FdeData → List StepData → Type 0
HasInitial f steps = HasSteps (initial_in f) steps

abbrev pub HasProgram : FdeData → List StepData → Type 0
HasProgram f steps = HasSteps (program_in f) steps
