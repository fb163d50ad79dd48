use Rattle.std.proofs.Common.{◌≡◌, ◌+◌, ◌-◌, ◌*◌, ◌++◌, option_map, length, take}
use Rattle.tree_shape.specs.declared.limits.TheConstants.{PAIRS}
use Rattle.word_rule.specs.Spelling.{pairs_at}
use Rattle.node_store.proofs.shaping.inner_from.Given as goal

-- the pairs so far, and those that are left
abbrev pub invariant-loop-slot : goal.invariant-loop-slot
invariant-loop-slot l = record {
  room : length l.pairs ≡ PAIRS;
  left : pairs_at l.words 6 l.count ≡ option_map (λ more. take l.slot l.pairs ++ more) (pairs_at l.words (6 + 2 * l.slot) (l.count - l.slot));
}
