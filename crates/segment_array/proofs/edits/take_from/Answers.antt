use Rattle.std.proofs.Common.{List, [], ◌∷◌, ◌++◌, sym, ◌∙◌, subst, arith, append-nil, IsSome, IfSome, Option}
use Rattle.std.specs.Option.{option_to_list}
use Rattle.reg_model.specs.State.{at_base}
use Rattle.reg_model.specs.History.{without}
use Rattle.reg_model.specs.declared.span.Member.{Member}
use Rattle.segment_array.specs.Ascending.{AscendFrom}
use Rattle.segment_array.proofs.Places.{parts_without, ascend_without, is_without}
use Rattle.segment_array.proofs.edits.take_from.Goals as goal

pub overflow_sub-place : goal.overflow_sub-place
overflow_sub-place c =
    let xs : List Member = c.members-members.result.now in
    let p = c.place-place.ensures in
    let w = parts_without c.args.base 0 c.place-place.result xs (subst (AscendFrom 0) (sym c.members-members.ensures.value) c.members-members.ensures.ascending) (subst (λ zs. IsSome (at_base c.args.base zs)) (sym c.members-members.ensures.value) c.requires.held) p.inside p.below p.above in
    let e = w.1.0 in omega (arith, e)

pub of-requires-clause-ascending : goal.of-requires-clause-ascending
of-requires-clause-ascending c =
    let xs : List Member = c.members-members.result.now in
    let is = is_without c.args.base c.place-place.result xs (subst (AscendFrom 0) (sym c.members-members.ensures.value) c.members-members.ensures.ascending) (subst (λ zs. IsSome (at_base c.args.base zs)) (sym c.members-members.ensures.value) c.requires.held) c.place-place.ensures in
    let all : AscendFrom 0 (c.args.segment.now ++ c.in-Some.refill ∷ []) = subst (λ (o : Option Member). IfSome o (λ r. AscendFrom 0 (c.args.segment.now ++ r ∷ []))) c.in-Some.is c.requires.above in
    let left = ascend_without c.args.base 0 xs (c.in-Some.refill ∷ []) (subst (λ zs. AscendFrom 0 (zs ++ c.in-Some.refill ∷ [])) (sym c.members-members.ensures.value) all) in
    subst (λ zs. AscendFrom 0 (zs ++ c.in-Some.refill ∷ [])) (sym is) left

pub of-requires-in-None-clause-ascending : goal.of-requires-in-None-clause-ascending
of-requires-in-None-clause-ascending c =
    let xs : List Member = c.members-members.result.now in
    let h = subst (AscendFrom 0) (sym c.members-members.ensures.value) c.members-members.ensures.ascending in
    let is = is_without c.args.base c.place-place.result xs h (subst (λ zs. IsSome (at_base c.args.base zs)) (sym c.members-members.ensures.value) c.requires.held) c.place-place.ensures in
    let left = ascend_without c.args.base 0 xs [] (subst (AscendFrom 0) (sym (append-nil xs)) h) in
    subst (λ zs. AscendFrom 0 (zs ++ [])) (sym is) left

pub returns-in-Some : goal.returns-in-Some
returns-in-Some c =
    let xs : List Member = c.members-members.result.now in
    let is = is_without c.args.base c.place-place.result xs (subst (AscendFrom 0) (sym c.members-members.ensures.value) c.members-members.ensures.ascending) (subst (λ zs. IsSome (at_base c.args.base zs)) (sym c.members-members.ensures.value) c.requires.held) c.place-place.ensures in
    c.of.ensures ∙ ((λ i. is i ++ c.in-Some.refill ∷ []) ∙ (λ i. without c.args.base (c.members-members.ensures.value i) ++ option_to_list (sym c.in-Some.is i)))

pub returns-in-None : goal.returns-in-None
returns-in-None c =
    let xs : List Member = c.members-members.result.now in
    let is = is_without c.args.base c.place-place.result xs (subst (AscendFrom 0) (sym c.members-members.ensures.value) c.members-members.ensures.ascending) (subst (λ zs. IsSome (at_base c.args.base zs)) (sym c.members-members.ensures.value) c.requires.held) c.place-place.ensures in
    c.of-in-None.ensures ∙ ((λ i. is i ++ []) ∙ (λ i. without c.args.base (c.members-members.ensures.value i) ++ option_to_list (sym c.in-None.is i)))
