-- Members by their whole spans, and the entry of a leaf that has one.
use Rattle.std.proofs.Common.{◌≡◌, suc, List, [], ◌∷◌, sym, ap, ◌∙◌, subst, arith, Some, Contains, inl, inr, if◌then◌else◌, ◌==◌, ◌&&◌, refl, true≢false, Option, None, IsSome, is_some, ℕ, ◌+◌, eq-eqb, ◌≢◌, ◌-◌}
use Rattle.std.proofs.lemmas.Bool.{cases_Bool, eqb-true}
use Rattle.std.proofs.lemmas.Option.{none-some, same_Some}
use Rattle.std.specs.List.{slice_get}
use Rattle.reg_model.specs.SpanData.{SpanData, is_same_span}
use Rattle.reg_model.specs.State.{at_span, at_base}
use Rattle.reg_model.specs.declared.span.Member.{Member}
use Rattle.reg_model.specs.History.{with_payload}
use Rattle.tree_shape.proofs.Payloads.{same_span_decides, span_begins}
use Rattle.tree_shape.proofs.Slots.{none_at}
use Rattle.tree_shape.specs.NodeData.{EntriesWithin, NodeData, InOrder, IsLeaf, entries_of, place_for}
use Rattle.tree_shape.proofs.Orders.{leaf_order}
use Rattle.leaf_change.proofs.Absences.{none_begun, one_begun}
use Rattle.leaf_change.proofs.TakingThere.{taken_there}

-- the member at a span is one of them, and has it
pub span_there : (span : SpanData) (es : List Member) (m : Member) → at_span span es ≡ Some m → Contains es m × (m.span ≡ span)
span_there span [] m is = absurd (none-some m is)
span_there span (e ∷ es) m is = elim (cases_Bool (is_same_span e.span span)) [
  | inl same ↦
      let here : e ≡ m = same_Some _ _ (sym (ap (λ b. if b then Some e else at_span span es) same) ∙ is) in
      ((0, omega arith, here), subst (λ (x : Member). x.span ≡ span) here ((same_span_decides e.span span).0 same))
  | inr other ↦
      let later = span_there span es m (sym (ap (λ b. if b then Some e else at_span span es) other) ∙ is) in
      ((suc later.0.0, (let l = later.0.1 in omega (arith, l)), later.0.2), later.1)
]

-- the member at a base, where it has the whole span
pub span_of_base : (span : SpanData) (es : List Member) (m : Member) → at_base span.first es ≡ Some m → m.span ≡ span → at_span span es ≡ Some m
span_of_base span [] m is whole = absurd (none-some m is)
span_of_base span (e ∷ es) m is whole = elim (cases_Bool (e.span.first == span.first)) [
  | inl same ↦
      let here : e ≡ m = same_Some _ _ (sym (ap (λ b. if b then Some e else at_base span.first es) same) ∙ is) in
      ap (λ b. if b then Some e else at_span span es) ((same_span_decides e.span span).1 (ap (λ (x : Member). x.span) here ∙ whole)) ∙ ap Some here
  | inr other ↦
      ap (λ b. if b && (e.span.last == span.last) then Some e else at_span span es) other
      ∙ span_of_base span es m (sym (ap (λ b. if b then Some e else at_base span.first es) other) ∙ is) whole
]

-- where none begins at its base, none has the span
pub none_of_base : (span : SpanData) (es : List Member) → at_base span.first es ≡ None → at_span span es ≡ None
none_of_base span es none = go (at_span span es) refl
  where
    go : (o : Option Member) → at_span span es ≡ o → o ≡ None
    go None e = refl
    go (Some m) e = absurd (true≢false (sym (span_begins span es (subst IsSome (sym e) refl)) ∙ ap is_some none))

-- of entries in order the one with a whole span is the one at its base
pub base_of_span : (span : SpanData) (low high : ℕ) (es : List Member) (m : Member) → EntriesWithin low high es → at_span span es ≡ Some m → at_base span.first es ≡ Some m
base_of_span span low high [] m within is = absurd (none-some m is)
base_of_span span low high (e ∷ es) m within is = elim (cases_Bool (is_same_span e.span span)) [
  | inl same ↦
      let first : e.span.first ≡ span.first = ap (λ (s : SpanData). s.first) ((same_span_decides e.span span).0 same) in
      ap (λ b. if b then Some e else at_base span.first es) (eq-eqb e.span.first span.first first) ∙ (sym (ap (λ b. if b then Some e else at_span span es) same) ∙ is)
  | inr other ↦
      let later : at_span span es ≡ Some m = sym (ap (λ b. if b then Some e else at_span span es) other) ∙ is in
      elim (cases_Bool (e.span.first == span.first)) [
        | inl same ↦
            let first = eqb-true e.span.first span.first same in
            let order = within.0.1 in
            let none = none_at span.first (e.span.last + 1) high es (within.0.2, within.1.1) (omega (arith, first, order)) in
            absurd (none-some m (sym (none_of_base span es none.none) ∙ later))
        | inr differs ↦ ap (λ b. if b then Some e else at_base span.first es) differs ∙ base_of_span span (e.span.last + 1) high es m (within.0.2, within.1.1) later
      ]
]

-- a leaf of which no entry begins at or below the base has none with the span
pub none_spanned : (span : SpanData) (s : NodeData) → IsLeaf s → InOrder s → 0 ≡ place_for span.first (entries_of s) → at_span span (entries_of s) ≡ None
none_spanned span s leaf order is = none_of_base span (entries_of s) (go (at_base span.first (entries_of s)) refl)
  where
    go : (o : Option Member) → at_base span.first (entries_of s) ≡ o → o ≡ None
    go None e = refl
    go (Some m) e = absurd (true≢false (sym (ap is_some e) ∙ none_begun span.first s leaf order is))

-- else it could only be the last of those that do
pub one_spanned : (span : SpanData) (begun : ℕ) (s : NodeData) (m : Member) → IsLeaf s → InOrder s → begun ≢ 0 → begun ≡ place_for span.first (entries_of s) → slice_get (entries_of s) (begun - 1) ≡ Some m → m.span ≡ span → at_span span (entries_of s) ≡ Some m
one_spanned span begun s m leaf order some is stands whole = go (at_base span.first (entries_of s)) refl
  where
    go : (o : Option Member) → at_base span.first (entries_of s) ≡ o → at_span span (entries_of s) ≡ Some m
    go None none = absurd (true≢false (sym (eq-eqb m.span.first span.first (ap (λ (z : SpanData). z.first) whole)) ∙ (one_begun span.first begun s m leaf order some is stands ∙ ap is_some none)))
    go (Some x) held = span_of_base span (entries_of s) m (taken_there span.first begun s m leaf order (subst IsSome (sym held) refl) is stands) whole

pub other_spanned : (span : SpanData) (begun : ℕ) (s : NodeData) (m : Member) → IsLeaf s → InOrder s → begun ≡ place_for span.first (entries_of s) → slice_get (entries_of s) (begun - 1) ≡ Some m → m.span ≢ span → at_span span (entries_of s) ≡ None
other_spanned span begun s m leaf order is stands other = go (at_span span (entries_of s)) refl
  where
    go : (o : Option Member) → at_span span (entries_of s) ≡ o → o ≡ None
    go None e = refl
    go (Some x) e =
        let at = base_of_span span s.low s.high (entries_of s) x (leaf_order s leaf order) e in
        let same : m ≡ x = same_Some _ _ (sym (taken_there span.first begun s m leaf order (subst IsSome (sym at) refl) is stands) ∙ at) in
        absurd (other (ap (λ (z : Member). z.span) same ∙ (span_there span (entries_of s) x e).1))

-- entries of which none begins there stay as they are
paid_none : (m : Member) (es : List Member) → at_base m.span.first es ≡ None → with_payload m es ≡ es
paid_none m [] none = refl
paid_none m (e ∷ es) none = elim (cases_Bool (e.span.first == m.span.first)) [
  | inl same ↦ absurd (none-some e (sym none ∙ ap (λ b. if b then Some e else at_base m.span.first es) same))
  | inr other ↦
      let rest = paid_none m es (sym (ap (λ b. if b then Some e else at_base m.span.first es) other) ∙ none) in
      (λ i. (if other i && (e.span.last == m.span.last) then m else e) ∷ rest i)
]

-- the payload that one has already changes nothing
pub paid_same : (m : Member) (low high : ℕ) (es : List Member) → EntriesWithin low high es → at_span m.span es ≡ Some m → with_payload m es ≡ es
paid_same m low high [] within is = refl
paid_same m low high (e ∷ es) within is = elim (cases_Bool (is_same_span e.span m.span)) [
  | inl same ↦
      let here : e ≡ m = same_Some _ _ (sym (ap (λ b. if b then Some e else at_span m.span es) same) ∙ is) in
      let first = ap (λ (z : SpanData). z.first) ((same_span_decides e.span m.span).0 same) in
      let order = within.0.1 in
      let none = none_at m.span.first (e.span.last + 1) high es (within.0.2, within.1.1) (omega (arith, first, order)) in
      let now : (if is_same_span e.span m.span then m else e) ≡ e = ap (λ b. if b then m else e) same ∙ sym here in
      let rest = paid_none m es none.none in
      (λ i. now i ∷ rest i)
  | inr other ↦
      let now : (if is_same_span e.span m.span then m else e) ≡ e = ap (λ b. if b then m else e) other in
      let rest = paid_same m (e.span.last + 1) high es (within.0.2, within.1.1) (sym (ap (λ b. if b then Some e else at_span m.span es) other) ∙ is) in
      (λ i. now i ∷ rest i)
]

-- afterwards the one with the span is this member
pub span_paid : (m : Member) (es : List Member) → IsSome (at_span m.span es) → at_span m.span (with_payload m es) ≡ Some m
span_paid m [] held = absurd (true≢false (sym held))
span_paid m (e ∷ es) held = elim (cases_Bool (is_same_span e.span m.span)) [
  | inl same ↦
      ap (λ b. at_span m.span ((if b then m else e) ∷ with_payload m es)) same
      ∙ ap (λ b. if b then Some m else at_span m.span (with_payload m es)) ((same_span_decides m.span m.span).1 refl)
  | inr other ↦
      let held' : IsSome (at_span m.span es) = subst (λ b. IsSome (if b then Some e else at_span m.span es)) other held in
      ap (λ b. at_span m.span ((if b then m else e) ∷ with_payload m es)) other
      ∙ (ap (λ b. if b then Some e else at_span m.span (with_payload m es)) other ∙ span_paid m es held')
]
