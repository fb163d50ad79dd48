use Rattle.std.proofs.Common.{◌≡◌, ℕ, ◌-◌, ◌≤◌, List, [], ◌∷◌, ◌++◌, length, take, drop, sym, refl, ap, ◌∙◌, subst, arith, append-nil, append_assoc}
use Rattle.std.proofs.lemmas.List.{take_all, take_rest, nil_from_length, length-drop}
use Rattle.reg_model.specs.declared.span.Member.{Member}
use Rattle.segment_array.specs.Ascending.{AscendFrom}
use Rattle.segment_array.specs.Placing.{IsWithMember}
use Rattle.segment_array.proofs.Places.{with_member_at, full_parts, front_ascends}
use Rattle.segment_array.proofs.edits.put_into.Goals as goal

pub of-one_more-requires-clause-ascending : goal.of-one_more-requires-clause-ascending
of-one_more-requires-clause-ascending c =
    let xs : List Member = c.members-members.result.now in
    let m : Member = c.args.member.now in
    let w = with_member_at xs _ m c.place-place.result _ c.members-members.ensures.value c.members-members.ensures.ascending c.first.ensures.span.ordered c.requires c.place-place.ensures c.first.ensures.value in
    rw (take_rest, append_assoc) w.ascending

pub returns-then-members-lt-FULL-clause-members : goal.returns-then-members-lt-FULL-clause-members
returns-then-members-lt-FULL-clause-members c =
    let xs : List Member = c.members-members.result.now in
    let m : Member = c.args.member.now in
    let w = with_member_at xs _ m c.place-place.result _ c.members-members.ensures.value c.members-members.ensures.ascending c.first.ensures.span.ordered c.requires c.place-place.ensures c.first.ensures.value in
    let is : c.of-one_more.result ++ [] ≡ take c.place-place.result xs ++ m ∷ drop c.place-place.result xs = append-nil c.of-one_more.result ∙ (c.of-one_more.ensures ∙ rw (take_rest, append_assoc) refl) in
    subst (λ (zs : List Member × List Member). IsWithMember m zs.0 zs.1) (λ i. (c.members-members.ensures.value i, sym is i)) w

pub of-lower-requires-clause-ascending : goal.of-lower-requires-clause-ascending
of-lower-requires-clause-ascending c =
    let xs : List Member = c.members-members.result.now in
    let m : Member = c.args.member.now in
    let w = with_member_at xs _ m c.place-place.result _ c.members-members.ensures.value c.members-members.ensures.ascending c.first.ensures.span.ordered c.requires c.place-place.ensures c.first.ensures.value in
    let len : length xs ≡ 16 = (let e = ap length c.members-members.ensures.value in let r = c.members-members.ensures.room in let f = c.if-members-lt-FULL.false in omega (arith, e, r, f)) in
    let parts = full_parts xs m c.place-place.result 15 m (omega (arith, len)) (omega (arith, c.if-place-lt-FULL.true)) in
    rw append_assoc (front_ascends 0 _ _ (subst (AscendFrom 0) parts w.ascending))

pub returns-then-place-lt-FULL-clause-members : goal.returns-then-place-lt-FULL-clause-members
returns-then-place-lt-FULL-clause-members c =
    let xs : List Member = c.members-members.result.now in
    let m : Member = c.args.member.now in
    let w = with_member_at xs _ m c.place-place.result _ c.members-members.ensures.value c.members-members.ensures.ascending c.first.ensures.span.ordered c.requires c.place-place.ensures c.first.ensures.value in
    let len : length xs ≡ 16 = (let e = ap length c.members-members.ensures.value in let r = c.members-members.ensures.room in let f = c.if-members-lt-FULL.false in omega (arith, e, r, f)) in
    let parts = full_parts xs m c.place-place.result 15 c.index-members.result (omega (arith, len)) (omega (arith, c.if-place-lt-FULL.true)) in
    let is : c.of-lower.result ++ c.index-members.result ∷ [] ≡ take c.place-place.result xs ++ m ∷ drop c.place-place.result xs =
    ap (λ zs. zs ++ c.index-members.result ∷ []) (c.of-lower.ensures ∙ rw append_assoc refl) ∙ (ap (λ z. (take c.place-place.result xs ++ m ∷ take (15 - c.place-place.result) (drop c.place-place.result xs)) ++ z ∷ []) c.index-members.is ∙ sym parts) in
    subst (λ (zs : List Member × List Member). IsWithMember m zs.0 zs.1) (λ i. (c.members-members.ensures.value i, sym is i)) w

pub returns-else-place-lt-FULL-clause-members : goal.returns-else-place-lt-FULL-clause-members
returns-else-place-lt-FULL-clause-members c =
    let xs : List Member = c.members-members.result.now in
    let m : Member = c.args.member.now in
    let k : ℕ = c.place-place.result in
    let w = with_member_at xs _ m k _ c.members-members.ensures.value c.members-members.ensures.ascending c.first.ensures.span.ordered c.requires c.place-place.ensures c.first.ensures.value in
    let len : length xs ≤ k = (let e = ap length c.members-members.ensures.value in let r = c.members-members.ensures.room in let f = c.if-place-lt-FULL.false in omega (arith, e, r, f)) in
    let gone : drop k xs ≡ [] = nil_from_length (drop k xs) (length-drop k xs ∙ (omega (arith, len))) in
    let is : c.of.result ++ m ∷ [] ≡ take k xs ++ m ∷ drop k xs = ap (λ zs. zs ++ m ∷ []) (c.of.ensures ∙ (append-nil (xs ++ []) ∙ append-nil xs)) ∙ (λ i. sym (take_all k xs len) i ++ m ∷ sym gone i) in
    subst (λ (zs : List Member × List Member). IsWithMember m zs.0 zs.1) (λ i. (c.members-members.ensures.value i, sym is i)) w
