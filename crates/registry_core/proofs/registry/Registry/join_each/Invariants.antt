use Rattle.std.proofs.Common.{◌≡◌, All}
use Rattle.word_rule.specs.CallerData.{CallerData}
use Rattle.word_rule.specs.Callers.{IsIdle}
use Rattle.registry_core.specs.Rounds.{after_joins, IsWholeWhereAlone}
use Rattle.registry_core.proofs.registry.Registry.join_each.Given as goal

abbrev pub invariant-loop-caller : goal.invariant-loop-caller
invariant-loop-caller l = record {
  me : after_joins l.caller-iterator.rest.items l.me ≡ after_joins l.fn.callers.items l.fn.me;
  whole : IsWholeWhereAlone l.fn.me.log → IsWholeWhereAlone l.me.log;
  table : l.me.table ≡ l.self.table;
  tables : All (λ (other : CallerData). other.table ≡ l.self.table) l.caller-iterator.rest.items;
  idle : All (λ (other : CallerData). IsIdle other.log) l.caller-iterator.rest.items;
}
