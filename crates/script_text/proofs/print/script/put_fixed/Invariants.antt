use Rattle.std.proofs.Common.{◌≡◌, ◌++◌, take, map}
use Rattle.std.specs.String.{string_bytes}
use Rattle.script_text.specs.Spelling.{statements_text}
use Rattle.script_text.specs.declared.statement.Statement.TheVariants as statement
use Rattle.script_text.proofs.print.script.put_fixed.Given as goal

-- the text so far
abbrev pub invariant-loop-image : goal.invariant-loop-image
invariant-loop-image l = string_bytes l.text ≡ string_bytes l.fn.text ++ statements_text (map statement.Fixed (take l.image-index l.fixed))
