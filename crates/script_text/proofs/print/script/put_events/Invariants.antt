use Rattle.std.proofs.Common.{◌≡◌, ◌++◌, take, map}
use Rattle.std.specs.String.{string_bytes}
use Rattle.script_text.specs.Spelling.{statements_text}
use Rattle.script_text.specs.declared.statement.Statement.TheVariants as statement
use Rattle.script_text.proofs.print.script.put_events.Given as goal

-- the text so far
abbrev pub invariant-loop-event : goal.invariant-loop-event
invariant-loop-event l = string_bytes l.text ≡ string_bytes l.fn.text ++ statements_text (map statement.Event (take l.event-index l.events))
