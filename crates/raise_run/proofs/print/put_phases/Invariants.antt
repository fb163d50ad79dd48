use Rattle.std.proofs.Common.{◌≡◌, ◌++◌, take}
use Rattle.std.specs.String.{string_bytes}
use Rattle.raise_run.specs.RaiseText.{phases_text}
use Rattle.raise_run.proofs.print.put_phases.Given as goal

-- the text so far
abbrev pub invariant-loop-number : goal.invariant-loop-number
invariant-loop-number l = string_bytes l.text ≡ string_bytes l.fn.text ++ phases_text l.word (take l.number l.phases)
