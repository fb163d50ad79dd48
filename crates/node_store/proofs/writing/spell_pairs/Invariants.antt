use Rattle.std.proofs.Common.{◌≡◌, ◌+◌, length}
use Rattle.word_rule.specs.Places.{CONTENT_WORDS}
use Rattle.node_store.specs.Writing.{pair_words, spelled_pairs, with_row}
use Rattle.node_store.proofs.writing.spell_pairs.Given as goal

-- with the pairs that are left in a row from here on the words are as they are to be
abbrev pub invariant-loop-left : goal.invariant-loop-left
invariant-loop-left l = record {
  wide : length l.words ≡ CONTENT_WORDS;
  inside : l.place + length (pair_words l.left) ≡ 5 + length (pair_words l.pairs);
  row : with_row l.place (pair_words l.left) l.words ≡ spelled_pairs l.pairs l.fn.words;
}

abbrev pub decreases-loop-left : goal.decreases-loop-left
decreases-loop-left l = length l.left
