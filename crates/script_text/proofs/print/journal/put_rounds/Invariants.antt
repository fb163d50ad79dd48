use Rattle.std.proofs.Common.{◌≡◌, ◌++◌, take}
use Rattle.std.specs.String.{string_bytes}
use Rattle.script_text.specs.Text.{numbered, thread_text}
use Rattle.script_text.proofs.print.journal.put_rounds.Given as goal

-- the text so far
abbrev pub invariant-loop-index : goal.invariant-loop-index
invariant-loop-index l = string_bytes l.text ≡ string_bytes l.fn.text ++ numbered (λ round threads. numbered (λ thread answers. thread_text round thread answers.items) 1 threads.items) 1 (take l.index l.rounds)
