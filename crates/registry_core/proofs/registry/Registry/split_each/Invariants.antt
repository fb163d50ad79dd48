use Rattle.std.proofs.Common.{◌≡◌, ◌≤◌, ◌++◌, drop, sum}
use Rattle.registry_core.specs.Rounds.{after_splits, all_split_off, IsWholeWhereAlone}
use Rattle.registry_core.proofs.registry.Registry.split_each.Given as goal

abbrev pub invariant-loop-give : goal.invariant-loop-give
invariant-loop-give l = record {
  callers : l.callers.items ++ all_split_off (drop l.give-index l.gives) l.me ≡ all_split_off l.gives l.fn.me;
  me : after_splits (drop l.give-index l.gives) l.me ≡ after_splits l.gives l.fn.me;
  whole : IsWholeWhereAlone l.fn.me.log → IsWholeWhereAlone l.me.log;
  table : l.me.table ≡ l.self.table;
  room : sum (drop l.give-index l.gives) ≤ l.me.left;
}
