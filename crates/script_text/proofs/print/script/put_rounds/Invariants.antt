use Rattle.std.proofs.Common.{◌≡◌, ◌++◌, take}
use Rattle.std.specs.String.{string_bytes}
use Rattle.script_text.specs.Spelling.{statements_text, round_statements}
use Rattle.script_text.proofs.print.script.put_rounds.Given as goal

-- the text so far
abbrev pub invariant-loop-round : goal.invariant-loop-round
invariant-loop-round l = string_bytes l.text ≡ string_bytes l.fn.text ++ statements_text (round_statements (take l.round-index l.rounds))
