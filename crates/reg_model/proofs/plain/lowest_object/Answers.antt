use Rattle.std.proofs.Common.{sym, ◌∙◌}
use Rattle.std.proofs.lemmas.Bool.{false≢true}
use Rattle.reg_model.proofs.Members.{taken_from, passed_over_all}
use Rattle.reg_model.proofs.plain.lowest_object.Goals as goal

pub returns-in-Some : goal.returns-in-Some
returns-in-Some c =
    taken_from _ c.args.fixed.now c.args.loaded.now c.lowest_overlap-in_fixed.result _ c.lowest_overlap-in_fixed.ensures c.in-Some.ensures (c.begins_below.ensures.0 c.if-begins_below.true)

pub returns-in_default : goal.returns-in_default
returns-in_default c =
    passed_over_all _ c.args.fixed.now c.args.loaded.now c.lowest_overlap-in_fixed.result c.lowest_overlap.result c.lowest_overlap-in_fixed.ensures c.lowest_overlap.ensures
    (rw c.in-Some.is (λ below. false≢true (sym c.if-begins_below.false ∙ c.begins_below.ensures.1 below)))

pub returns-in_default-2 : goal.returns-in_default-2
returns-in_default-2 c =
    passed_over_all _ c.args.fixed.now c.args.loaded.now c.lowest_overlap-in_fixed.result c.lowest_overlap.result c.lowest_overlap-in_fixed.ensures c.lowest_overlap.ensures (rw c.in_default.is tt)
