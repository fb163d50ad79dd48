use Rattle.std.proofs.Common.{◌≡◌, ◌<◌, ◌++◌, length, take, Bool, true, false, refl, sym, ◌∙◌, ap}
use Rattle.std.proofs.lemmas.List.{take_all, drop_all, append-nil}
use Rattle.reg_model.specs.State.{at_span}
use Rattle.reg_model.specs.History.{with_payload}
use Rattle.reg_model.proofs.Replacing.{step_along}
use Rattle.receipt_check.proofs.members.replace_in.Goals as goal
use Rattle.receipt_check.proofs.members.replace_in.Goals.{then-eq, else-eq}

pub loop-listed-preserved : goal.loop-listed-preserved
loop-listed-preserved c =
    let i = c.loop-listed.listed-index in
    let all = c.args.members.now in
    let within : i < length all = c.loop-listed-test.true in
    let step = λ (b : Bool) (test : c.eq.result ≡ b). step_along c.args.member.now all c.loop-listed.members i c.listed-item.result (at_span c.args.member.now.span (take i all)) b within refl c.loop-listed.invariant (sym c.eq.ensures ∙ test) in
    elim c.if-eq.branch [
      | then-eq w ↦ w.members-is ∙ (step true w.if-eq.true).1
      | else-eq w ↦ w.members-is ∙ (step false w.if-eq.false).1
    ]

pub returns : goal.returns
returns c =
    let i = c.loop-listed.listed-index in
    let all = c.args.members.now in
    let front = ap (with_payload c.args.member.now) (take_all i all c.loop-listed-test.false) in
    c.loop-listed.invariant ∙ ap (λ z. with_payload c.args.member.now (take i all) ++ z) (drop_all i all c.loop-listed-test.false) ∙ append-nil _ ∙ front
