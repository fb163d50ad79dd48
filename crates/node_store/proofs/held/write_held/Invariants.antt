use Rattle.std.proofs.Common.{◌≡◌}
use Rattle.word_rule.specs.Places.{CONTENT_WORDS}
use Rattle.word_rule.specs.Steps.{MayStore}
use Rattle.node_store.specs.Holding.{after_node_stores}
use Rattle.node_store.specs.Sights.{after_words}
use Rattle.node_store.specs.Writing.{stores_upto}
use Rattle.node_store.proofs.HeldWrites.{IsStill}
use Rattle.node_store.proofs.held.write_held.Given as goal

-- the stores of the turns so far; others may follow, unless the node was made free
abbrev pub invariant-loop-turn : goal.invariant-loop-turn
invariant-loop-turn l = record {
  stored : l.me ≡ record l.fn.me { log = after_node_stores l.node (stores_upto l.content l.old l.turn) (after_words l.node l.old CONTENT_WORDS l.fn.me.log) };
  may : IsStill l.content l.turn → MayStore l.node l.me.log;
}
