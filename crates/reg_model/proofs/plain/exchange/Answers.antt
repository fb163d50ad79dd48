use Rattle.std.proofs.Common.{◌<◌, ◌++◌, length, take, Bool, true, false, ◌≡◌, sym, ◌∙◌, ap}
use Rattle.std.proofs.lemmas.List.{take_all, drop_all, append-nil}
use Rattle.reg_model.specs.State.{at_span}
use Rattle.reg_model.specs.History.{with_payload}
use Rattle.reg_model.proofs.Replacing.{step_along}
use Rattle.reg_model.proofs.plain.exchange.Goals as goal
use Rattle.reg_model.proofs.plain.exchange.Goals.{then-eq, else-eq}

pub loop-place-preserved : goal.loop-place-preserved
loop-place-preserved c =
    let within : c.loop-place.place-index < length c.args.members.now = c.loop-place-test.true in
    let step = λ (b : Bool) (test : c.eq.result ≡ b). step_along c.args.member.now c.args.members.now c.loop-place.members c.loop-place.place-index c.place-item.result c.loop-place.before b within c.loop-place.invariant.0 c.loop-place.invariant.1 (sym c.eq.ensures ∙ test) in
    elim c.if-eq.branch [
      | then-eq w ↦ (w.before-is ∙ w.or-before.ensures ∙ (step true w.if-eq.true).0, w.members-is ∙ (step true w.if-eq.true).1)
      | else-eq w ↦ (w.before-is ∙ (step false w.if-eq.false).0, w.members-is ∙ (step false w.if-eq.false).1)
    ]

pub returns-clause-before : goal.returns-clause-before
returns-clause-before c = c.loop-place.invariant.0 ∙ ap (at_span c.args.member.now.span) (take_all c.loop-place.place-index c.args.members.now c.loop-place-test.false)

pub returns-clause-payload : goal.returns-clause-payload
returns-clause-payload c =
    let i = c.loop-place.place-index in
    let all = c.args.members.now in
    let front = ap (with_payload c.args.member.now) (take_all i all c.loop-place-test.false) in
    c.loop-place.invariant.1 ∙ ap (λ z. with_payload c.args.member.now (take i all) ++ z) (drop_all i all c.loop-place-test.false) ∙ append-nil _ ∙ front
