use Rattle.std.proofs.Common.{◌≡◌, All, arith, ℕ, ◌+◌, ◌≤◌, List, [], ◌∷◌, ◌++◌, drop, get_or, sum, subst, sym, ap, ◌∙◌}
use Rattle.word_rule.specs.CallerData.{CallerData}
use Rattle.word_rule.specs.Callers.{IsIdle}
use Rattle.registry_core.specs.Rounds.{after_splits, all_split_off, one_split_off}
use Rattle.registry_core.proofs.Meetings.{callers_all, callers_more, room_more, splits_more}
use Rattle.registry_core.proofs.Rounding.{new_may_join}
use Rattle.registry_core.proofs.registry.Registry.split_each.Goals as goal

pub loop-give-preserved : goal.loop-give-preserved
loop-give-preserved c =
    let l = c.loop-give.invariant in let within = c.loop-give-test.true in let gives = c.args.gives.now in let i = c.loop-give.give-index in
    let k = c.loop-give.me in
    let more : List ℕ = drop (i + 1) gives in
    let me = c.in_ok-caller.ensures.me in
    let pushed = c.in_ok-push.ensures.items ∙ ap (λ (other : CallerData). c.loop-give.callers.items ++ other ∷ []) c.in_ok-caller.ensures.new in
    record {
      callers = ap (λ (callers : List CallerData). callers ++ all_split_off more c.split.new.me) pushed
          ∙ (ap (λ (new : CallerData). (c.loop-give.callers.items ++ one_split_off (get_or gives i 0) k ∷ []) ++ all_split_off more new) me
          ∙ callers_more gives i k c.loop-give.callers.items _ within l.callers);
      me = ap (after_splits more) me ∙ splits_more gives i k _ within l.me;
      whole = λ before alone. absurd (let all = alone.whole in let less = c.in_ok-caller.ensures.apart in omega (arith, all, less));
      table = ap (λ (new : CallerData). new.table) me ∙ l.table;
      room = subst (λ (new : CallerData). sum more ≤ new.left) (sym me) (room_more gives i k.left within l.room);
    }

pub returns-clause-tables : goal.returns-clause-tables
returns-clause-tables c =
    subst (All (λ (other : CallerData). other.table ≡ c.args.self.now.table)) (callers_all c.args.gives.now c.loop-give.give-index c.loop-give.me c.loop-give.callers.items _ (omega (arith, c.loop-give-test.false)) c.loop-give.invariant.callers)
    (new_may_join c.args.self.now c.args.gives.now c.args.me.now c.requires.table).0

pub returns-clause-idle : goal.returns-clause-idle
returns-clause-idle c =
    subst (All (λ (other : CallerData). IsIdle other.log)) (callers_all c.args.gives.now c.loop-give.give-index c.loop-give.me c.loop-give.callers.items _ (omega (arith, c.loop-give-test.false)) c.loop-give.invariant.callers)
    (new_may_join c.args.self.now c.args.gives.now c.args.me.now c.requires.table).1
