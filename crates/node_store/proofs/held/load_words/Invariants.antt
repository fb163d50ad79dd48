use Rattle.std.proofs.Common.{◌≡◌, ◌≤◌, length}
use Rattle.word_rule.specs.NodeTells.{HolderTells}
use Rattle.word_rule.specs.Places.{CONTENT_WORDS}
use Rattle.node_store.specs.Sights.{after_words}
use Rattle.node_store.specs.Holding.{AreHeld}
use Rattle.node_store.proofs.held.load_words.Given as goal

-- the words so far are those that the log has
abbrev pub invariant-loop-at : goal.invariant-loop-at
invariant-loop-at l = record {
  wide : length l.loaded ≡ CONTENT_WORDS;
  loads : l.me ≡ record l.fn.me { log = after_words l.node l.loaded l.at l.fn.me.log };
  held : AreHeld l.node l.loaded l.at l.fn.me.log;
  holder : 1 ≤ l.at → HolderTells l.node l.fn.me.log;
}
