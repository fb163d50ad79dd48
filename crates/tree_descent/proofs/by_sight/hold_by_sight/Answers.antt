use Rattle.std.proofs.Common.{◌∙◌, IfSome, ap, subst}
use Rattle.word_rule.specs.CallerData.{CallerData}
use Rattle.tree_descent.specs.BySight.{IsSeenFor}
use Rattle.tree_descent.proofs.BySights.{nothing_still}
use Rattle.tree_descent.proofs.Descents.{steps_of_version}
use Rattle.tree_descent.proofs.by_sight.hold_by_sight.Goals as goal

pub loop-init : goal.loop-init
loop-init g c =
    let k = c.args.me.now in let k1 = c.load_version.new.me in let log = c.load_version.ensures.log in record {
      same = steps_of_version 0 c.load_version.result k k1 log;
      nothing = nothing_still k k1 (ap (λ (z : CallerData). z.log.holdings) log) c.requires.nothing;
    }

pub seek-requires : goal.seek-requires
seek-requires g c = record { table = c.loop.invariant.same.calls.caller.table ∙ c.requires.table }

pub hold_seen-requires-clause-table : goal.hold_seen-requires-clause-table
hold_seen-requires-clause-table g c = c.seek.ensures.sees.0.calls.caller.table ∙ (c.loop.invariant.same.calls.caller.table ∙ c.requires.table)

pub hold_seen-requires-clause-terms : goal.hold_seen-requires-clause-terms
hold_seen-requires-clause-terms g c = c.seek.ensures.sees.0.calls.caller.terms ∙ (c.loop.invariant.same.calls.caller.terms ∙ c.load_version.ensures.tells.0)

pub hold_seen-requires-clause-nothing : goal.hold_seen-requires-clause-nothing
hold_seen-requires-clause-nothing g c = nothing_still c.loop.me c.seek.new.me c.seek.ensures.sees.1 c.loop.invariant.nothing

pub hold_seen-requires-clause-seen : goal.hold_seen-requires-clause-seen
hold_seen-requires-clause-seen g c = subst (λ o. IfSome o (λ seen. IsSeenFor c.args.words.now.terms c.args.request seen c.seek.new.me)) c.in-Ok-Some.field-0-is c.in-Ok-Some.ensures.seen
