use Rattle.std.proofs.Common.{◌≡◌, ◌++◌, take}
use Rattle.std.specs.String.{string_bytes}
use Rattle.script_text.specs.Spelling.{statements_text, thread_statements}
use Rattle.script_text.proofs.print.script.put_threads.Given as goal

-- the text so far
abbrev pub invariant-loop-thread : goal.invariant-loop-thread
invariant-loop-thread l = string_bytes l.text ≡ string_bytes l.fn.text ++ statements_text (thread_statements (take l.thread-index l.threads))
