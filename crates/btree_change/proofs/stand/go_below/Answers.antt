use Rattle.std.proofs.Common.{◌+◌, ◌∷◌, ◌<◌, [], subst, sym, drop, arith, length, ap, ◌∙◌}
use Rattle.word_rule.specs.declared.log.Holdings.{Holdings}
use Rattle.tree_descent.specs.Stands.{HoldsPair}
use Rattle.tree_descent.proofs.Loading.{found_between, found_still}
use Rattle.tree_descent.proofs.Spending.{spends_same, steps_after, surplus_steps}
use Rattle.btree_change.specs.declared.path.KeptNode.{KeptNode}
use Rattle.btree_change.specs.Kept.{HoldsPath}
use Rattle.btree_change.specs.Stands.{HasSplit, HoldsStep, kept_above, kept_node}
use Rattle.btree_change.proofs.Going.{gives_up_all, goes_below, split_here, split_path, split_reaches, step_held}
use Rattle.btree_change.proofs.Standing.{stand_path}
use Rattle.btree_change.proofs.stand.go_below.Goals as goal

-- the child's lock was taken
pub let_go_of_all-requires-clause-path : goal.let_go_of_all-requires-clause-path
let_go_of_all-requires-clause-path g c =
    let t = c.args.words.now.terms in let stand = c.args.stand in let k = c.args.me.now in let k1 = c.lower.new.me in
    subst (λ (n : KeptNode). HoldsPath t (n ∷ kept_above stand.beyond) [] k1.log.holdings) (sym c.kept-lowest.ensures)
    (subst (HoldsPath t (kept_node stand.at ∷ kept_above stand.beyond) []) (sym c.in-Err.ensures.busy.0) (stand_path t c.args.member.now stand k.log c.requires.stands))

pub let_go_of_all-requires-clause-surplus : goal.let_go_of_all-requires-clause-surplus
let_go_of_all-requires-clause-surplus g c =
    let e = c.requires.surplus in let left = surplus_steps 0 c.args.me.now c.lower.new.me (length (kept_above c.args.stand.beyond) + 1) (spends_same c.args.me.now c.lower.new.me c.in-Err.ensures.same) (omega (arith, e)) in omega (arith, left)

pub returns-in-Err-clause-busy : goal.returns-in-Err-clause-busy
returns-in-Err-clause-busy g c =
    let t = c.args.words.now.terms in let stand = c.args.stand in let k = c.args.me.now in let k1 = c.lower.new.me in
    (gives_up_all t c.args.member.now stand k c.requires.stands c.in-Err.busy 0 k1 c.let_go_of_all.new.me (omega arith) (spends_same k k1 c.in-Err.ensures.same) (ap (λ (hs : Holdings). hs.out) c.in-Err.ensures.busy.0 ∙ c.requires.stands.at.out) c.let_go_of_all.ensures, c.in-Err.ensures.busy.1)

pub returns-in-Err-clause-cause : goal.returns-in-Err-clause-cause
returns-in-Err-clause-cause g c = found_still c.in-Err.busy c.args.me.now c.lower.new.me c.let_go_of_all.new.me c.in-Err.ensures.cause c.let_go_of_all.ensures.steps.loads

-- it was locked
pub split_if_full-requires-clause-step : goal.split_if_full-requires-clause-step
split_if_full-requires-clause-step g c =
    let t = c.args.words.now.terms in let m = c.args.member.now in let stand = c.args.stand in let k = c.args.me.now in let k1 = c.lower.new.me in let child = c.in-Ok.child in
    let pair = subst (λ p. HoldsPair t p stand.at child (drop 1 k.log.holdings.held) k1.log.holdings) c.first-pc.ensures.value c.in-Ok.ensures.ok.0 in
    subst (λ p. HoldsStep t p (record { parent = stand.at; child = child; room = stand.room }) (drop 2 k1.log.holdings.held) k1.log) (sym c.first-pc.ensures.value)
    (step_held t m stand k c.requires.stands child k1 pair c.in-Ok.ensures.same c.in-Ok.ensures.same.loads)

pub split_if_full-requires-clause-surplus : goal.split_if_full-requires-clause-surplus
split_if_full-requires-clause-surplus g c =
    let e = c.requires.surplus in surplus_steps 0 c.args.me.now c.lower.new.me 1 (spends_same c.args.me.now c.lower.new.me c.in-Ok.ensures.same) (omega (arith, e))

-- but no free node could be taken
pub let_go_of_all-requires-in-Err-split_if_full-clause-path : goal.let_go_of_all-requires-in-Err-split_if_full-clause-path
let_go_of_all-requires-in-Err-split_if_full-clause-path g c =
    let t = c.args.words.now.terms in let m = c.args.member.now in let stand = c.args.stand in let k = c.args.me.now in let k1 = c.lower.new.me in let child = c.in-Ok.child in
    let pair = subst (λ p. HoldsPair t p stand.at child (drop 1 k.log.holdings.held) k1.log.holdings) c.first-pc.ensures.value c.in-Ok.ensures.ok.0 in
    subst (λ (n : KeptNode). HoldsPath t (n ∷ kept_above stand.beyond) [] c.split_if_full.new.me.log.holdings) (sym c.kept-lowest.ensures)
    (split_path t m stand k c.requires.stands child k1 pair c.in-Ok.ensures.same c.in-Ok.ensures.same.loads c.split_if_full.new.me c.in-Err-split_if_full.ensures.busy.0)

pub let_go_of_all-requires-in-Err-split_if_full-clause-surplus : goal.let_go_of_all-requires-in-Err-split_if_full-clause-surplus
let_go_of_all-requires-in-Err-split_if_full-clause-surplus g c =
    let k = c.args.me.now in let k1 = c.lower.new.me in let e = c.requires.surplus in
    let left = surplus_steps 1 k c.split_if_full.new.me (length (kept_above c.args.stand.beyond) + 1) (steps_after 0 1 1 k k1 c.split_if_full.new.me (omega arith) (spends_same k k1 c.in-Ok.ensures.same) c.in-Err-split_if_full.ensures.busy.2) (omega (arith, e)) in omega (arith, left)

pub returns-in-Err-split_if_full-clause-busy : goal.returns-in-Err-split_if_full-clause-busy
returns-in-Err-split_if_full-clause-busy g c =
    let t = c.args.words.now.terms in let stand = c.args.stand in let k = c.args.me.now in let k1 = c.lower.new.me in let busy = c.in-Err-split_if_full.ensures.busy in
    (gives_up_all t c.args.member.now stand k c.requires.stands c.in-Err-split_if_full.busy 1 c.split_if_full.new.me c.let_go_of_all-in-Err-split_if_full.new.me (omega arith) (steps_after 0 1 1 k k1 c.split_if_full.new.me (omega arith) (spends_same k k1 c.in-Ok.ensures.same) busy.2) busy.1 c.let_go_of_all-in-Err-split_if_full.ensures, busy.3)

pub returns-in-Err-split_if_full-clause-cause : goal.returns-in-Err-split_if_full-clause-cause
returns-in-Err-split_if_full-clause-cause g c = found_between c.in-Err-split_if_full.busy c.args.me.now c.lower.new.me c.split_if_full.new.me c.let_go_of_all-in-Err-split_if_full.new.me c.in-Ok.ensures.same.loads c.in-Err-split_if_full.ensures.cause c.let_go_of_all-in-Err-split_if_full.ensures.steps.loads

-- or it was split where it had to be
pub stand_below-requires-clause-reach : goal.stand_below-requires-clause-reach
stand_below-requires-clause-reach g c =
    let t = c.args.words.now.terms in let m = c.args.member.now in let stand = c.args.stand in let k = c.args.me.now in let k1 = c.lower.new.me in let child = c.in-Ok.child in
    let pair = subst (λ p. HoldsPair t p stand.at child (drop 1 k.log.holdings.held) k1.log.holdings) c.first-pc.ensures.value c.in-Ok.ensures.ok.0 in
    let split = subst (λ p. HasSplit t p (record { parent = stand.at; child = child; room = stand.room }) c.in-Ok-split_if_full.step k1 c.split_if_full.new.me) c.first-pc.ensures.value c.in-Ok-split_if_full.ensures.ok in
    split_reaches t m stand k c.requires.stands child k1 pair c.in-Ok.ensures.same c.in-Ok.ensures.same.loads c.in-Ok-split_if_full.step c.split_if_full.new.me split

pub stand_below-requires-clause-way : goal.stand_below-requires-clause-way
stand_below-requires-clause-way g c =
    let t = c.args.words.now.terms in let stand = c.args.stand in let k1 = c.lower.new.me in
    (subst (λ p. HasSplit t p (record { parent = stand.at; child = c.in-Ok.child; room = stand.room }) c.in-Ok-split_if_full.step k1 c.split_if_full.new.me) c.first-pc.ensures.value c.in-Ok-split_if_full.ensures.ok).way

pub stand_below-requires-clause-here : goal.stand_below-requires-clause-here
stand_below-requires-clause-here g c = split_here c.args.member.now.span.first c.args.stand.at.content c.in-Ok-split_if_full.step.parent.content c.in-Ok-split_if_full.ensures.ok.frame c.requires.stands.here

pub stand_below-requires-clause-height : goal.stand_below-requires-clause-height
stand_below-requires-clause-height g c =
    let same = ap (λ f. f.level) c.in-Ok-split_if_full.ensures.ok.frame in let high = c.requires.stands.height in omega (arith, same, high)

pub stand_below-requires-clause-loader : goal.stand_below-requires-clause-loader
stand_below-requires-clause-loader g c = c.in-Ok-split_if_full.ensures.ok.steps.calls.caller.loader ∙ (c.in-Ok.ensures.same.calls.caller.loader ∙ c.requires.stands.loader)

pub stand_below-requires-clause-surplus : goal.stand_below-requires-clause-surplus
stand_below-requires-clause-surplus g c =
    let k = c.args.me.now in let k1 = c.lower.new.me in let e = c.requires.surplus in
    let left = surplus_steps 1 k c.split_if_full.new.me (length (kept_above c.args.stand.beyond) + 1) (steps_after 0 1 1 k k1 c.split_if_full.new.me (omega arith) (spends_same k k1 c.in-Ok.ensures.same) c.in-Ok-split_if_full.ensures.ok.steps) (omega (arith, e)) in omega (arith, left)

pub returns-in-Ok-split_if_full-clause-ok : goal.returns-in-Ok-split_if_full-clause-ok
returns-in-Ok-split_if_full-clause-ok g c =
    let t = c.args.words.now.terms in let m = c.args.member.now in let stand = c.args.stand in let k = c.args.me.now in let k1 = c.lower.new.me in let child = c.in-Ok.child in
    let pair = subst (λ p. HoldsPair t p stand.at child (drop 1 k.log.holdings.held) k1.log.holdings) c.first-pc.ensures.value c.in-Ok.ensures.ok.0 in
    let split = subst (λ p. HasSplit t p (record { parent = stand.at; child = child; room = stand.room }) c.in-Ok-split_if_full.step k1 c.split_if_full.new.me) c.first-pc.ensures.value c.in-Ok-split_if_full.ensures.ok in
    (goes_below t m stand k c.requires.stands child k1 pair c.in-Ok.ensures.same c.in-Ok.ensures.same.loads c.in-Ok-split_if_full.step c.split_if_full.new.me split c.stand_below.result c.stand_below.new.me c.stand_below.ensures.stands c.stand_below.ensures.at c.stand_below.ensures.room c.stand_below.ensures.fewer c.stand_below.ensures.spends).1

pub returns-in-Ok-split_if_full-clause-less : goal.returns-in-Ok-split_if_full-clause-less
returns-in-Ok-split_if_full-clause-less g c =
    let less = c.in-Ok-split_if_full.ensures.ok.less in subst (λ h. h.content.level < c.args.stand.at.content.level) (sym c.stand_below.ensures.at) less
