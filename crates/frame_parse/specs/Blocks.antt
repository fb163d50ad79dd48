-- Where the expressions of a program's instructions stand. A block is told by its place in the
-- section's bytes, where its length stands.
use Rattle.std.specs.Prelude.{◌≡◌, ℕ, ◌+◌, List, [], ◌∷◌, ◌++◌, length, take, drop, Result, Ok, Err}
use Rattle.eh_bytes.specs.declared.fault.ByteFault.{ByteFault}
use Rattle.eh_bytes.specs.CursorData.{CursorData}
use Rattle.eh_bytes.specs.Fields.{uleb}
use Rattle.eh_bytes.specs.Leb.{uleb_at}
use Rattle.frame_expr.specs.Expressions.{expression}
use Rattle.frame_parse.specs.Instructions.{PlacedInstruction, PlacedReadRule, PlacedStep}
use Rattle.frame_parse.specs.declared.instructions.ReadRuleWith.TheVariants.{Expression}
use Rattle.frame_parse.specs.declared.instructions.ReadRuleWith.TheVariants.{ValExpression}
use Rattle.frame_parse.specs.declared.instructions.InstructionWith.TheVariants.{Set, CfaExpression}

-- as many of the next bytes as the number says that was read before them
abbrev pub counted : Result (ℕ × CursorData) ByteFault → List ℕ
counted (Ok x) = take x.0 x.1.bytes
counted (Err f) = []

-- the bytes of the block at a place
abbrev pub block_in : List ℕ → ℕ → List ℕ
block_in bytes place = counted (uleb_at (record { bytes = drop place bytes; at = place }))

-- the block at this place of the bytes is an expression, whose stack holds so many numbers at the
-- start
pub record HasExpression (depth : ℕ) (bytes : List ℕ) (place : ℕ) : Type 0 where
  pub before : List ℕ
  pub size : List ℕ
  pub text : List ℕ
  pub after : List ℕ
  pub parts : bytes ≡ before ++ (size ++ (text ++ after))
  pub begins : place ≡ length before
  pub sized : uleb.Spells place size (length text)
  pub spelled : (expression depth).Spells (place + length size) text text

-- the expression of a column's rule, where it has one, stands in the bytes; it starts with the CFA
abbrev pub HasRuleExpression : List ℕ → PlacedReadRule → Type 0
HasRuleExpression bytes (Expression e) = HasExpression 1 bytes e
HasRuleExpression bytes (ValExpression e) = HasExpression 1 bytes e
HasRuleExpression bytes _ = Unit {0}

-- the same of an instruction; the CFA's expression starts with nothing
abbrev pub HasItsExpression : List ℕ → PlacedInstruction → Type 0
HasItsExpression bytes (CfaExpression e) = HasExpression 0 bytes e
HasItsExpression bytes (Set r rule) = HasRuleExpression bytes rule
HasItsExpression bytes _ = Unit {0}

-- the same of all steps
abbrev pub HaveExpressions : List ℕ → List PlacedStep → Type 0
HaveExpressions bytes [] = Unit {0}
HaveExpressions bytes (x ∷ xs) =
    HasItsExpression bytes x.instruction × HaveExpressions bytes xs
