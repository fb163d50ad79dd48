use Rattle.std.proofs.Common.{◌≡◌, subst, sym, ap, ◌∙◌, All}
use Rattle.std.proofs.lemmas.List.Elements.{All-tail}
use Rattle.word_rule.specs.CallerData.{CallerData}
use Rattle.word_rule.specs.Callers.{IsIdle}
use Rattle.registry_core.specs.Rounds.{after_joins, after_one_join}
use Rattle.registry_core.proofs.registry.Registry.join_each.Goals as goal

pub loop-caller-preserved : goal.loop-caller-preserved
loop-caller-preserved c =
    let l = c.loop-caller.invariant in
    let rest = c.next.new.self.rest.items in
    let is = c.in-Some.ensures.steps.0 in
    let joined : c.join.new.me ≡ after_one_join c.in-Some.caller c.loop-caller.me = c.in-Ok.ensures.ok in
    record {
      me = ap (after_joins rest) joined ∙ (sym (ap (λ others. after_joins others c.loop-caller.me) is) ∙ l.me);
      whole = λ before. c.in-Ok.ensures.whole;
      table = ap (λ (k : CallerData). k.table) joined ∙ l.table;
      tables = All-tail (λ (other : CallerData). other.table ≡ c.args.self.now.table) c.in-Some.caller rest (subst (All (λ (other : CallerData). other.table ≡ c.args.self.now.table)) is l.tables);
      idle = All-tail (λ (other : CallerData). IsIdle other.log) c.in-Some.caller rest (subst (All (λ (other : CallerData). IsIdle other.log)) is l.idle);
    }
