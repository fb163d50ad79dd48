use Rattle.std.proofs.Common.{◌≡◌, take}
use Rattle.script_text.specs.Fields.{is_printable}
use Rattle.event_script.proofs.reader.fields.is_printable.Given as goal

-- what was seen is printable, or not
abbrev pub invariant-loop-byte : goal.invariant-loop-byte
invariant-loop-byte l = l.printable ≡ is_printable (take l.byte-index l.line)
