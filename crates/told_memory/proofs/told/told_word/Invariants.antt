use Rattle.std.proofs.Common.{◌≡◌, drop, map}
use Rattle.told_memory.specs.Telling.{told_region}
use Rattle.frame_expr.specs.Regions.{word_at}
use Rattle.told_memory.proofs.told.told_word.Given as goal

-- the words so far are told of other addresses
abbrev pub invariant-loop-told : goal.invariant-loop-told
invariant-loop-told l = word_at l.address (map told_region (drop l.told-index l.words)) ≡ word_at l.address (map told_region l.words)
