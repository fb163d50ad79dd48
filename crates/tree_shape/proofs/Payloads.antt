-- Members of which one gets another payload.
use Rattle.std.proofs.Common.{◌≡◌, ◌≢◌, ℕ, suc, ◌+◌, ◌<◌, ◌≤◌, List, [], ◌∷◌, length, refl}
use Rattle.std.proofs.Common.{ap, sym, ◌∙◌, subst, arith, cond, ltb, eqb, not, Some, IsSome, inl, ◌&&◌}
use Rattle.std.proofs.Common.{inr, ◌==◌}
use Rattle.std.specs.Bool.{Decides}
use Rattle.std.proofs.lemmas.Bool.{cases_Bool, cond-true, cond-false, eq-eqb, ne_eqb}
use Rattle.std.proofs.lemmas.Bool.{lt-ltb, le-ltb}
use Rattle.std.proofs.lemmas.Bool.Decides.{Decides-eqb, Decides-and, Decides-like}
use Rattle.reg_model.specs.SpanData.{SpanData, is_same_span}
use Rattle.reg_model.specs.declared.span.Member.{Member}
use Rattle.reg_model.specs.State.{at_base, at_span}
use Rattle.reg_model.specs.History.{with_payload, without}
use Rattle.tree_shape.specs.NodeData.{EntriesWithin}
use Rattle.tree_shape.specs.Changes.{with_entry}
use Rattle.tree_shape.proofs.Slots.{none_at}

pub same_span_decides : (a b : SpanData) → Decides (is_same_span a b) (a ≡ b)
same_span_decides a b = Decides-like (is_same_span a b)
    (λ (h : (a.first ≡ b.first) × (a.last ≡ b.last)). λ i. record { first = h.0 i; last = h.1 i })
    (λ e. (ap (λ (s : SpanData). s.first) e, ap (λ (s : SpanData). s.last) e))
    (Decides-and (a.first == b.first) (a.last == b.last)
    (Decides-eqb a.first b.first) (Decides-eqb a.last b.last))

-- one of them, with the payload that it has then
abbrev paid : Member → Member → Member
paid m e = cond (is_same_span e.span m.span) m e

-- spans stay as they are
paid_span : (m e : Member) → (paid m e).span ≡ e.span
paid_span m e = elim (cases_Bool (is_same_span e.span m.span)) [
  | inl same ↦ ap (λ (y : Member). y.span) (cond-true (is_same_span e.span m.span) m e same)
      ∙ sym ((same_span_decides e.span m.span).0 same)
  | inr differs ↦ ap (λ (y : Member). y.span) (cond-false (is_same_span e.span m.span) m e differs)
]

pub payload_within : (m : Member) (low high : ℕ) (entries : List Member) →
    EntriesWithin low high entries → EntriesWithin low high (with_payload m entries)
payload_within m low high [] within = (tt, tt)
payload_within m low high (e ∷ entries) within =
    let rest = payload_within m (e.span.last + 1) high entries (within.0.2, within.1.1) in
    subst (λ (s : SpanData). EntriesWithin low high
    (record { span = s; payload = (paid m e).payload } ∷ with_payload m entries))
    (sym (paid_span m e)) ((within.0.0, within.0.1, rest.0), (within.1.0, rest.1))

pub payload_length : (m : Member) (entries : List Member) →
    length (with_payload m entries) ≡ length entries
payload_length m [] = refl
payload_length m (e ∷ entries) = ap suc (payload_length m entries)

-- entries that all begin above the span stay as they are
unpaid : (m : Member) (low high : ℕ) (entries : List Member) → EntriesWithin low high entries →
    m.span.first < low → with_payload m entries ≡ entries
unpaid m low high [] within above = refl
unpaid m low high (e ∷ entries) within above =
    let later : e.span ≢ m.span = λ s.
    let first = ap (λ (y : SpanData). y.first) s in omega (arith, first, within.0.0) in
    let kept : paid m e ≡ e = elim (cases_Bool (is_same_span e.span m.span)) [
      | inl same ↦ absurd (later ((same_span_decides e.span m.span).0 same))
      | inr differs ↦ cond-false (is_same_span e.span m.span) m e differs
    ] in
    let rest = unpaid m (e.span.last + 1) high entries (within.0.2, within.1.1) (omega arith) in
    λ i. kept i ∷ rest i

-- one that begins below them all is put before them
put_first : (m : Member) (low high : ℕ) (entries : List Member) → EntriesWithin low high entries →
    m.span.first < low → with_entry m entries ≡ m ∷ entries
put_first m low high [] within above = refl
put_first m low high (e ∷ entries) within above =
    cond-true (ltb m.span.first e.span.first) (m ∷ e ∷ entries) (e ∷ with_entry m entries)
    (lt-ltb m.span.first e.span.first (omega arith))

-- one with the span begins at or above the low fence
span_from : (span : SpanData) (low high : ℕ) (entries : List Member) →
    EntriesWithin low high entries → IsSome (at_span span entries) → low ≤ span.first
span_from span low high [] within held = absurd (cc)
span_from span low high (e ∷ entries) within held =
    elim (cases_Bool (is_same_span e.span span)) [
      | inl same ↦ subst (λ (s : SpanData). low ≤ s.first)
          ((same_span_decides e.span span).0 same) within.0.0
      | inr differs ↦
          let rest = span_from span (e.span.last + 1) high entries (within.0.2, within.1.1)
          (subst (λ v. IsSome (cond v (Some e) (at_span span entries))) differs held) in
          omega (arith, rest, within.0.0, within.0.1)
    ]

-- one with the span begins at its base
pub span_begins : (span : SpanData) (entries : List Member) → IsSome (at_span span entries) →
    IsSome (at_base span.first entries)
span_begins span [] held = absurd (cc)
span_begins span (e ∷ entries) held = elim (cases_Bool (eqb e.span.first span.first)) [
  | inl same ↦ subst (λ v. IsSome (cond v (Some e) (at_base span.first entries))) (sym same) refl
  | inr other ↦
      subst (λ v. IsSome (cond v (Some e) (at_base span.first entries))) (sym other)
      (span_begins span entries (subst (λ v. IsSome (cond (v && eqb e.span.last span.last)
      (Some e) (at_span span entries))) other held))
]

-- an entry that is taken out by its base and put in with another payload
pub taken_and_put : (m : Member) (low high : ℕ) (entries : List Member) →
    EntriesWithin low high entries → IsSome (at_span m.span entries) →
    with_entry m (without m.span.first entries) ≡ with_payload m entries
taken_and_put m low high [] within held = absurd (cc)
taken_and_put m low high (e ∷ entries) within held =
    elim (cases_Bool (is_same_span e.span m.span)) [
      | inl same ↦
          let is = (same_span_decides e.span m.span).0 same in
          let first : e.span.first ≡ m.span.first = ap (λ (y : SpanData). y.first) is in
          let above : m.span.first < e.span.last + 1 = omega (arith, first, within.0.1) in
          let none = none_at m.span.first (e.span.last + 1) high entries
          (within.0.2, within.1.1) above in
          ap (λ v. with_entry m (cond (not v) (e ∷ without m.span.first entries)
          (without m.span.first entries))) (eq-eqb e.span.first m.span.first first)
          ∙ ap (with_entry m) none.others
          ∙ put_first m (e.span.last + 1) high entries (within.0.2, within.1.1) above
          ∙ sym (together (paid m e) m (with_payload m entries) entries
          (cond-true (is_same_span e.span m.span) m e same)
          (unpaid m (e.span.last + 1) high entries (within.0.2, within.1.1) above))
      | inr differs ↦
          let held' : IsSome (at_span m.span entries) =
          subst (λ v. IsSome (cond v (Some e) (at_span m.span entries))) differs held in
          let from = span_from m.span (e.span.last + 1) high entries (within.0.2, within.1.1) held' in
          let other : e.span.first ≢ m.span.first = λ k. omega (arith, k, from, within.0.1) in
          ap (λ v. with_entry m (cond (not v) (e ∷ without m.span.first entries)
          (without m.span.first entries))) (ne_eqb e.span.first m.span.first other)
          ∙ cond-false (ltb m.span.first e.span.first)
          (m ∷ e ∷ without m.span.first entries) (e ∷ with_entry m (without m.span.first entries))
          (le-ltb m.span.first e.span.first (omega (arith, from, within.0.1)))
          ∙ together e (paid m e) (with_entry m (without m.span.first entries))
          (with_payload m entries)
          (sym (cond-false (is_same_span e.span m.span) m e differs))
          (taken_and_put m (e.span.last + 1) high entries (within.0.2, within.1.1) held')
    ]
  where
    together : (x y : Member) (xs ys : List Member) → x ≡ y → xs ≡ ys → (x ∷ xs) ≡ (y ∷ ys)
    together x y xs ys one rest = λ i. one i ∷ rest i
