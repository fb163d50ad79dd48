use Rattle.std.proofs.Common.{◌≡◌, ◌+◌, ◌-◌, ◌*◌, ◌++◌, option_map, length, take}
use Rattle.tree_shape.specs.declared.limits.TheConstants.{ENTRIES}
use Rattle.word_rule.specs.Spelling.{entries_at}
use Rattle.node_store.proofs.shaping.leaf_from.Given as goal

-- the entries so far, and those that are left
abbrev pub invariant-loop-slot : goal.invariant-loop-slot
invariant-loop-slot l = record {
  room : length l.entries ≡ ENTRIES;
  left : entries_at l.words 6 l.count ≡ option_map (λ more. take l.slot l.entries ++ more) (entries_at l.words (6 + 3 * l.slot) (l.count - l.slot));
}
