-- What is listed of members of which one gets another payload.
use Rattle.std.proofs.Common.{◌≡◌, ◌≢◌, ◌↔◌, List, [], ◌∷◌, refl, ap, sym, ◌∙◌, subst, cond, Some}
use Rattle.std.proofs.Common.{IsSome, inl, inr, ◌⊎◌}
use Rattle.std.proofs.lemmas.Bool.{cases_Bool, cond-true, cond-false, both_ways}
use Rattle.reg_model.specs.SpanData.{SpanData, is_same_span}
use Rattle.reg_model.specs.declared.span.Member.{Member}
use Rattle.reg_model.specs.State.{at_span}
use Rattle.reg_model.specs.History.{with_payload}
use Rattle.tree_shape.proofs.Payloads.{same_span_decides}
use Rattle.tree_laws.proofs.Times.{In}

-- one of them keeps its payload where its span is another
payload_other : (m e : Member) (xs : List Member) → e.span ≢ m.span → In e (with_payload m (e ∷ xs))
payload_other m e xs other = elim (cases_Bool (is_same_span e.span m.span)) [
  | inl same ↦ absurd (other ((same_span_decides e.span m.span).0 same))
  | inr differs ↦ inl (cond-false (is_same_span e.span m.span) m e differs)
]

payload_in : (m : Member) (xs : List Member) (x : Member) → In x (with_payload m xs) →
    (In x xs × (x.span ≢ m.span)) ⊎ (x ≡ m)
payload_in m [] x there = absurd there
payload_in m (e ∷ xs) x there = elim there [
  | inl here ↦ elim (cases_Bool (is_same_span e.span m.span)) [
    | inl same ↦ inr (sym here ∙ cond-true (is_same_span e.span m.span) m e same)
    | inr differs ↦
        let is : e ≡ x = sym (cond-false (is_same_span e.span m.span) m e differs) ∙ here in
        inl (
          inl is,
          λ k. both_ways (is_same_span e.span m.span) differs
              ((same_span_decides e.span m.span).1 (ap (λ (y : Member). y.span) is ∙ k)),
        )
  ]
  | inr later ↦ elim (payload_in m xs x later) [
    | inl old ↦ inl (inr old.0, old.1)
    | inr e ↦ inr e
  ]
]

payload_old : (m : Member) (xs : List Member) (x : Member) → In x xs → x.span ≢ m.span →
    In x (with_payload m xs)
payload_old m [] x there other = absurd there
payload_old m (e ∷ xs) x there other = elim there [
  | inl is ↦ subst (λ y. In y (with_payload m (e ∷ xs))) is
      (payload_other m e xs (subst (λ (y : Member). y.span ≢ m.span) (sym is) other))
  | inr later ↦ inr (payload_old m xs x later other)
]

payload_new : (m : Member) (xs : List Member) (x : Member) → In x xs → x.span ≡ m.span →
    In m (with_payload m xs)
payload_new m [] x there same = absurd there
payload_new m (e ∷ xs) x there same = elim there [
  | inl is ↦ inl (cond-true (is_same_span e.span m.span) m e
      ((same_span_decides e.span m.span).1 (ap (λ (y : Member). y.span) is ∙ same)))
  | inr later ↦ inr (payload_new m xs x later same)
]

-- what is listed then, where one had the span
pub listed_payload : (m : Member) (xs : List Member) →
    ((y : Member) × (In y xs × (y.span ≡ m.span))) → (x : Member) →
    In x (with_payload m xs) ↔ ((In x xs × (x.span ≢ m.span)) ⊎ (x ≡ m))
listed_payload m xs held x = (
  payload_in m xs x,
  λ h. elim h [
    | inl old ↦ payload_old m xs x old.0 old.1
    | inr is ↦ subst (λ y. In y (with_payload m xs)) (sym is)
        (payload_new m xs held.0 held.1.0 held.1.1)
  ],
)

-- the one with the span is listed
pub span_listed : (span : SpanData) (xs : List Member) → IsSome (at_span span xs) →
    (y : Member) × (In y xs × (y.span ≡ span))
span_listed span [] held = absurd (cc)
span_listed span (e ∷ xs) held = elim (cases_Bool (is_same_span e.span span)) [
  | inl same ↦ (e, (inl refl, (same_span_decides e.span span).0 same))
  | inr differs ↦
      let rest = span_listed span xs
      (subst (λ v. IsSome (cond v (Some e) (at_span span xs))) differs held) in
      (rest.0, (inr rest.1.0, rest.1.1))
]
