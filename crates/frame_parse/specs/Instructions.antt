-- Instructions, by how their expressions are told: by the places of their blocks in the section's
-- bytes, or by their own bytes.
use Rattle.std.specs.Prelude.{ℕ, List}
use Rattle.frame_parse.specs.declared.instructions.ReadRuleWith.{ReadRuleWith}
use Rattle.frame_parse.specs.declared.instructions.ReadRuleWith.TheVariants as rules
use Rattle.frame_parse.specs.declared.instructions.InstructionWith.{InstructionWith}
use Rattle.frame_parse.specs.declared.instructions.InstructionWith.TheVariants.{Nop, Advance, Set}
use Rattle.frame_parse.specs.declared.instructions.InstructionWith.TheVariants.{Restore, Remember}
use Rattle.frame_parse.specs.declared.instructions.InstructionWith.TheVariants.{RestoreState, Cfa}
use Rattle.frame_parse.specs.declared.instructions.InstructionWith.TheVariants.{CfaColumn}
use Rattle.frame_parse.specs.declared.instructions.InstructionWith.TheVariants.{CfaOffset}
use Rattle.frame_parse.specs.declared.instructions.InstructionWith.TheVariants.{CfaExpression}
use Rattle.frame_parse.specs.declared.instructions.StepWith.{StepWith}

-- ---- told by places

abbrev pub PlacedReadRule : Type 0
PlacedReadRule = ReadRuleWith ℕ

abbrev pub PlacedInstruction : Type 0
PlacedInstruction = InstructionWith ℕ ℕ

abbrev pub PlacedStep : Type 0
PlacedStep = StepWith ℕ ℕ

-- ---- told by bytes

abbrev pub ReadRuleData : Type 0
ReadRuleData = ReadRuleWith (List ℕ)

abbrev pub InstructionData : Type 0
InstructionData = InstructionWith (List ℕ) (List ℕ)

abbrev pub StepData : Type 0
StepData = StepWith (List ℕ) (List ℕ)

-- ---- the same, with its expressions told in another way

abbrev pub read_rule_told : {A B : Type 0} → (A → B) → ReadRuleWith A → ReadRuleWith B
read_rule_told f rules.Undefined = rules.Undefined
read_rule_told f rules.Same = rules.Same
read_rule_told f (rules.Offset n) = rules.Offset n
read_rule_told f (rules.ValOffset n) = rules.ValOffset n
read_rule_told f (rules.Register q) = rules.Register q
read_rule_told f (rules.Expression e) = rules.Expression (f e)
read_rule_told f (rules.ValExpression e) = rules.ValExpression (f e)

-- f tells the expression of the CFA, g that of a column
abbrev pub instruction_told : {A B C D : Type 0} → (A → B) → (C → D) → InstructionWith A C
    → InstructionWith B D
instruction_told f g Nop = Nop
instruction_told f g Advance = Advance
instruction_told f g (Set r rule) = Set r (read_rule_told g rule)
instruction_told f g (Restore r) = Restore r
instruction_told f g Remember = Remember
instruction_told f g RestoreState = RestoreState
instruction_told f g (Cfa r n) = Cfa r n
instruction_told f g (CfaColumn r) = CfaColumn r
instruction_told f g (CfaOffset n) = CfaOffset n
instruction_told f g (CfaExpression e) = CfaExpression (f e)

abbrev pub step_told : {A B C D : Type 0} → (A → B) → (C → D) → StepWith A C → StepWith B D
step_told f g x =
    record { location = x.location; instruction = instruction_told f g x.instruction }
