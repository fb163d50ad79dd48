use Rattle.std.proofs.Common.{◌≡◌, take}
use Rattle.event_script.proofs.reader.events.after_word.Given as goal

-- so many bytes are the word's
abbrev pub invariant-loop-index : goal.invariant-loop-index
invariant-loop-index l = take l.index l.first ≡ take l.index l.word
