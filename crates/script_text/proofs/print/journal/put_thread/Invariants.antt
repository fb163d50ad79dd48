use Rattle.std.proofs.Common.{◌≡◌, ◌++◌, take}
use Rattle.std.specs.String.{string_bytes}
use Rattle.script_text.specs.Text.{thread_text}
use Rattle.script_text.proofs.print.journal.put_thread.Given as goal

-- the text so far
abbrev pub invariant-loop-index : goal.invariant-loop-index
invariant-loop-index l = string_bytes l.text ≡ string_bytes l.fn.text ++ thread_text l.round l.thread (take l.index l.answers)
