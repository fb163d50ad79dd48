use Rattle.std.proofs.Common.{◌≡◌, ◌++◌, take}
use Rattle.std.specs.String.{string_bytes}
use Rattle.script_text.specs.Text.{numbered, thread_text}
use Rattle.script_text.proofs.print.journal.put_round.Given as goal

-- the text so far
abbrev pub invariant-loop-index : goal.invariant-loop-index
invariant-loop-index l = string_bytes l.text ≡ string_bytes l.fn.text ++ numbered (λ thread answers. thread_text l.round thread answers.items) 1 (take l.index l.threads)
