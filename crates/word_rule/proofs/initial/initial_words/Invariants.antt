use Rattle.std.proofs.Common.{◌≡◌, ◌∷◌, ◌+◌, ◌*◌, vec_len}
use Rattle.word_rule.specs.Places.{initial_nodes}
use Rattle.word_rule.proofs.initial.initial_words.Given as goal

abbrev pub invariant-loop-n : goal.invariant-loop-n
invariant-loop-n l = record { items : l.words.items ≡ 0 ∷ 1 ∷ 0 ∷ 0 ∷ initial_nodes l.nodes l.n; len : vec_len l.words ≡ 4 + 36 * l.n }
