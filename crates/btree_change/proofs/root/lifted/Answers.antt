use Rattle.std.proofs.Common.{◌-◌, ◌≤◌, arith, length, subst, sym, ◌∙◌}
use Rattle.tree_descent.specs.declared.descent.Held.{Held}
use Rattle.tree_descent.proofs.Spending.{steps_after, surplus_steps}
use Rattle.node_split.specs.Splits.{HoldsFullRoot, LiftsRoot}
use Rattle.node_split.proofs.NoRoom.{no_room_after}
use Rattle.btree_change.specs.Stands.{HasCause, kept_above, releases_from}
use Rattle.btree_change.proofs.AtRoot.{ends_part, lifted_height, lifted_here, lifted_level, lifted_reach, lifted_steps, lifted_way}
use Rattle.btree_change.proofs.Spending.{may_still, own_same}
use Rattle.btree_change.proofs.root.lifted.Goals.{After-lift-step}
use Rattle.btree_change.proofs.root.lifted.Goals as goal
use Rattle.node_split.specs.declared.split.Room.TheVariants as room

pub lift-step-requires-clause-held : goal.lift-step-requires-clause-held
lift-step-requires-clause-held g c =
    let t = c.args.words.now.terms in let m = c.args.member.now in let k = c.args.me.now in
    subst (λ p. HoldsFullRoot t c.args.full p k.log.holdings) (sym c.first.ensures.value) c.requires.held

-- the root was lifted for the span's first address
lifts : (g : _) (c : After-lift-step g) → LiftsRoot c.args.words.now.terms c.args.full c.args.member.now.span.first c.lift-step.result c.args.me.now c.lift-step.new.me
lifts g c = subst (λ p. LiftsRoot c.args.words.now.terms c.args.full p c.lift-step.result c.args.me.now c.lift-step.new.me) c.first.ensures.value c.lift-step.ensures

pub stand_below-stand-requires-clause-reach : goal.stand_below-stand-requires-clause-reach
stand_below-stand-requires-clause-reach g c = lifted_reach c.args.words.now.terms c.args.member.now c.args.full c.args.me.now c.requires.held c.requires.high c.requires.span c.lift-step.result c.lift-step.new.me (lifts g (goal.at.stand_below-stand-requires-clause-reach g c).After-lift-step)

pub stand_below-stand-requires-clause-here : goal.stand_below-stand-requires-clause-here
stand_below-stand-requires-clause-here g c = lifted_here c.args.words.now.terms c.args.member.now c.args.full c.args.me.now c.requires.held c.requires.high c.requires.span c.lift-step.result c.lift-step.new.me (lifts g (goal.at.stand_below-stand-requires-clause-here g c).After-lift-step)

pub stand_below-stand-requires-clause-way : goal.stand_below-stand-requires-clause-way
stand_below-stand-requires-clause-way g c = lifted_way c.args.words.now.terms c.args.member.now c.args.full c.args.me.now c.requires.held c.requires.high c.requires.span c.lift-step.result c.lift-step.new.me (lifts g (goal.at.stand_below-stand-requires-clause-way g c).After-lift-step)

pub stand_below-stand-requires-clause-height : goal.stand_below-stand-requires-clause-height
stand_below-stand-requires-clause-height g c = let high = lifted_height c.args.words.now.terms c.args.member.now c.args.full c.args.me.now c.requires.held c.requires.high c.requires.span c.lift-step.result c.lift-step.new.me (lifts g (goal.at.stand_below-stand-requires-clause-height g c).After-lift-step) in omega (arith, high)

pub stand_below-stand-requires-clause-loader : goal.stand_below-stand-requires-clause-loader
stand_below-stand-requires-clause-loader g c = (lifted_steps c.args.words.now.terms c.args.member.now c.args.full c.args.me.now c.requires.held c.requires.high c.requires.span c.lift-step.result c.lift-step.new.me (lifts g (goal.at.stand_below-stand-requires-clause-loader g c).After-lift-step)).calls.caller.loader ∙ c.requires.call.loader

pub stand_below-stand-requires-clause-surplus : goal.stand_below-stand-requires-clause-surplus
stand_below-stand-requires-clause-surplus g c =
    let e = c.requires.call.spare in surplus_steps 1 c.args.me.now c.lift-step.new.me 1 (lifted_steps c.args.words.now.terms c.args.member.now c.args.full c.args.me.now c.requires.held c.requires.high c.requires.span c.lift-step.result c.lift-step.new.me (lifts g (goal.at.stand_below-stand-requires-clause-surplus g c).After-lift-step)) (omega (arith, e))

pub below-requires-clause-call : goal.below-requires-clause-call
below-requires-clause-call g c =
    let t = c.args.words.now.terms in let m = c.args.member.now in let k = c.args.me.now in
    let full = c.args.full in let step = c.lift-step.result in let k1 = c.lift-step.new.me in let lifted = lifts g (goal.at.below-requires-clause-call g c).After-lift-step in
    let k2 = c.stand_below-stand.new.me in let stand = c.stand_below-stand.result in let few = c.stand_below-stand.ensures.fewer in
    let low = subst (λ (h : Held). h.content.level ≤ 11) (sym c.stand_below-stand.ensures.at) (lifted_level t m full k c.requires.held c.requires.high c.requires.span step k1 lifted) in
    let steps = steps_after 1 (1 - length (kept_above stand.beyond)) (2 - length (kept_above stand.beyond)) k k1 k2 (omega (arith, few)) (lifted_steps t m full k c.requires.held c.requires.high c.requires.span step k1 lifted) c.stand_below-stand.ensures.spends in
    may_still c.args.words.now m (2 - length (kept_above stand.beyond)) 39 (releases_from stand) k k2 (omega (arith, low, few)) steps c.requires.call

pub returns : goal.returns
returns g c =
    let t = c.args.words.now.terms in let m = c.args.member.now in let k = c.args.me.now in
    let full = c.args.full in let step = c.lift-step.result in let k1 = c.lift-step.new.me in let lifted = lifts g (goal.at.returns g c).After-lift-step in
    let k2 = c.stand_below-stand.new.me in let stand = c.stand_below-stand.result in let few = c.stand_below-stand.ensures.fewer in
    let low = subst (λ (h : Held). h.content.level ≤ 11) (sym c.stand_below-stand.ensures.at) (lifted_level t m full k c.requires.held c.requires.high c.requires.span step k1 lifted) in
    let steps = steps_after 1 (1 - length (kept_above stand.beyond)) (2 - length (kept_above stand.beyond)) k k1 k2 (omega (arith, few)) (lifted_steps t m full k c.requires.held c.requires.high c.requires.span step k1 lifted) c.stand_below-stand.ensures.spends in
    let a = 2 - length (kept_above stand.beyond) in let n = c.below.new.me in
    ends_part t m a (releases_from stand) 39 room.Splitting stand.room g.L.Locking.gives_up k k2 n c.below.result (omega (arith, low, few)) steps (λ h. no_room_after m.span.first k k2 n (own_same a k k2 steps) steps.loads (subst (λ w. HasCause w m.span.first k2 n) (c.stand_below-stand.ensures.room ∙ lifted.splitting) h)) c.below.ensures
