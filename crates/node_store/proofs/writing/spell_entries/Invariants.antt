use Rattle.std.proofs.Common.{◌≡◌, ◌+◌, length}
use Rattle.word_rule.specs.Places.{CONTENT_WORDS}
use Rattle.node_store.specs.Writing.{entry_words, spelled_entries, with_row}
use Rattle.node_store.proofs.writing.spell_entries.Given as goal

-- with the entries that are left in a row from here on the words are as they are to be
abbrev pub invariant-loop-left : goal.invariant-loop-left
invariant-loop-left l = record {
  wide : length l.words ≡ CONTENT_WORDS;
  inside : l.place + length (entry_words l.left) ≡ 5 + length (entry_words l.entries);
  row : with_row l.place (entry_words l.left) l.words ≡ spelled_entries l.entries l.fn.words;
}

abbrev pub decreases-loop-left : goal.decreases-loop-left
decreases-loop-left l = length l.left
