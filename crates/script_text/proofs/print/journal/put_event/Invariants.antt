use Rattle.std.proofs.Common.{◌≡◌, ◌++◌, take}
use Rattle.std.specs.List.{flat_map}
use Rattle.std.specs.String.{string_bytes}
use Rattle.script_text.specs.Text.{answer_lines, event_line}
use Rattle.script_text.proofs.print.journal.put_event.Given as goal

-- the text so far
abbrev pub invariant-loop-line : goal.invariant-loop-line
invariant-loop-line l = string_bytes l.text ≡ string_bytes l.fn.text ++ flat_map (event_line l.number.round l.number.thread l.number.event) (take l.line (answer_lines l.answer))
