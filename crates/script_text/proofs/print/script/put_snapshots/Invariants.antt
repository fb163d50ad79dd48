use Rattle.std.proofs.Common.{◌≡◌, ◌++◌, take}
use Rattle.std.specs.String.{string_bytes}
use Rattle.script_text.specs.Spelling.{statements_text, snapshot_statements}
use Rattle.script_text.proofs.print.script.put_snapshots.Given as goal

-- the text so far
abbrev pub invariant-loop-number : goal.invariant-loop-number
invariant-loop-number l = string_bytes l.text ≡ string_bytes l.fn.text ++ statements_text (snapshot_statements 0 (take l.number l.snapshots))
