use Rattle.std.proofs.Common.{◌≡◌, length}
use Rattle.word_rule.specs.Places.{CONTENT_WORDS}
use Rattle.node_store.specs.Sights.{after_look, after_words}
use Rattle.node_store.proofs.sight.peek.Given as goal

-- the words so far
abbrev pub invariant-loop-at : goal.invariant-loop-at
invariant-loop-at l = record {
  wide : length l.loaded ≡ CONTENT_WORDS;
  loads : l.me ≡ record l.fn.me { log = after_words l.node l.loaded l.at (after_look l.node l.version l.fn.me).log };
}
