-- No more members are registered than a script has images: they are disjoint, and each has the span of one.
use Rattle.std.proofs.Common.{◌≡◌, ℕ, ◌<◌, ◌≤◌, zero, suc, List, [], ◌∷◌, length, map, inl, inr, true, false, not, ◌==◌, eqb, eq-eqb, eqb-true, ne_eqb, refl, sym, ◌∙◌, ap, subst, arith}
use Rattle.std.specs.List.{All, AllByRecursion, IsDistinct}
use Rattle.std.specs.Set.{is_member}
use Rattle.std.proofs.lemmas.Cmp.{nat_eq_equiv}
use Rattle.std.proofs.Math.Bool.{or-true}
use Rattle.std.proofs.lemmas.Bool.{or_cases}
use Rattle.std.proofs.lemmas.List.{length-map}
use Rattle.std.proofs.lemmas.List.Elements.{All-filter, All-from_recursion, All-head, All-push, All-tail, All-weaker}
use Rattle.std.proofs.lemmas.Map.Keys.{IsDistinct-cons}
use Rattle.std.proofs.lemmas.Map.Made.{length-le_from_is_member}
use Rattle.reg_model.specs.SpanData.{SpanData, IsSpan, Overlaps}
use Rattle.reg_model.specs.State.{State, AreDisjoint, IsFree}
use Rattle.reg_model.specs.History.{after, Fits, IsHistory, state_at}
use Rattle.reg_model.specs.declared.span.Member.{Member}
use Rattle.reg_model.specs.declared.answer.Update.{Update}
use Rattle.reg_model.specs.declared.answer.Update.TheVariants.{Register, Deregister, Replace, Load, Unload}
use Rattle.reg_model.proofs.Histories.{AreDisjoint-filter, AreDisjoint-push}
use Rattle.reg_model.proofs.Replacing.{All-with_payload, AreDisjoint-with_payload}
use Rattle.reg_model.proofs.Spans.{overlap_from}
use Rattle.script_text.specs.ScriptData.{span_of}
use Rattle.run_engine.proofs.Opening.{span_is}

-- where images begin
abbrev firsts : List SpanData → List ℕ
firsts images = map (λ span. span.first) images

begins : (images : List SpanData) (image : ℕ) → image < length images → is_member eqb (firsts images) (span_of images image).first ≡ true
begins [] image named = absurd (let none : ⊥ = omega (arith, named) in none)
begins (span ∷ images) zero named = rw (eq-eqb span.first span.first refl) refl
begins (span ∷ images) (suc image) named =
    rw (begins images image (omega (arith, named))) (or-true (eqb (span_of images image).first span.first))

-- where members begin
abbrev bases : List Member → List ℕ
bases members = map (λ m. m.span.first) members

-- disjoint ones begin apart
elsewhere : (m : Member) → IsSpan m.span → (members : List Member) → All (λ x. IsSpan x.span) members → IsFree m.span members → AllByRecursion (λ first. eqb m.span.first first ≡ false) (bases members)
elsewhere m m_span [] spans free = tt
elsewhere m m_span (x ∷ members) spans free =
    let x_span = All-head (λ (x : Member). IsSpan x.span) x members spans in
    let apart : ¬ Overlaps x.span m.span = All-head (λ (x : Member). ¬ Overlaps x.span m.span) x members free in
    let m_up = m_span.ordered in
    let x_up = x_span.ordered in (
      ne_eqb m.span.first x.span.first (λ same. apart (overlap_from x.span m.span x_span m_span (omega (arith, same, m_up)) (omega (arith, same, x_up)))),
      elsewhere m m_span members (All-tail (λ (x : Member). IsSpan x.span) x members spans) (All-tail (λ (x : Member). ¬ Overlaps x.span m.span) x members free),
    )

begin_apart : (members : List Member) → All (λ x. IsSpan x.span) members → AreDisjoint members → IsDistinct eqb (bases members)
unfolding IsDistinct
begin_apart [] spans disjoint = tt
begin_apart (m ∷ members) spans disjoint =
    let rest = All-tail (λ (x : Member). IsSpan x.span) m members spans in
    IsDistinct-cons eqb m.span.first (bases members)
    (elsewhere m (All-head (λ (x : Member). IsSpan x.span) m members spans) members rest disjoint.0)
    (begin_apart members rest disjoint.1)

module _ (images : List SpanData) where
  -- it has the span of an image
  abbrev pub IsOfImage : Member → Type 0
  IsOfImage m = (image : ℕ) × (image < length images) × (m.span ≡ span_of images image)

  -- what it registers has one, if it registers
  abbrev pub Names : Update → Type 0
  Names (Register m) = IsOfImage m
  Names (Replace m) = IsOfImage m
  Names _ = Unit {0}

  record Keeps (s : State) : Type 0 where
    pub disjoint : AreDisjoint s.registered
    pub named : All IsOfImage s.registered

  keeps_after : (u : Update) (s : State) → Names u → Fits u s → Keeps s → Keeps (after u s)
  keeps_after (Register m) s names fits keeps = record {
    disjoint = AreDisjoint-push s.registered m keeps.disjoint fits;
    named = All-push IsOfImage s.registered m keeps.named names;
  }
  keeps_after (Deregister base) s names fits keeps =
      let stays = λ (m : Member). not (m.span.first == base) in
      record {
        disjoint = AreDisjoint-filter stays [] s.registered keeps.disjoint;
        named = All-filter stays IsOfImage s.registered keeps.named;
      }
  keeps_after (Replace m) s names fits keeps = record {
    disjoint = AreDisjoint-with_payload m s.registered keeps.disjoint;
    named = All-with_payload IsOfImage m s.registered names keeps.named;
  }
  keeps_after (Load m) s names fits keeps = record { disjoint = keeps.disjoint; named = keeps.named }
  keeps_after (Unload base) s names fits keeps = record { disjoint = keeps.disjoint; named = keeps.named }

  keeps_along : (history : List Update) (s : State) (j : ℕ) → AllByRecursion Names history → IsHistory s history → Keeps s → Keeps (state_at s history j)
  keeps_along history s zero names is keeps = keeps
  keeps_along [] s (suc j) names is keeps = keeps
  keeps_along (u ∷ history) s (suc j) names is keeps =
      keeps_along history (after u s) j names.1 is.1 (keeps_after u s names.0 is.0 keeps)

  begins_there : (members : List Member) (q : ℕ) → All IsOfImage members → is_member eqb (bases members) q ≡ true → is_member eqb (firsts images) q ≡ true
  begins_there [] q named is = absurd cc
  begins_there (m ∷ members) q named is = elim (or_cases (eqb q m.span.first) (is_member eqb (bases members) q) is) [
    | inl here ↦
        let (image, named, at) = All-head IsOfImage m members named in
        let same : q ≡ (span_of images image).first = eqb-true q m.span.first here ∙ ap (λ (span : SpanData). span.first) at in
        subst (λ first. is_member eqb (firsts images) first ≡ true) (sym same) (begins images image named)
    | inr later ↦ begins_there members q (All-tail IsOfImage m members named) later
  ]

  -- so no more are registered than there are images
  pub members_few : (spans : All IsSpan images) (start : State) (history : List Update) (j : ℕ) → start.registered ≡ [] → AllByRecursion Names history → IsHistory start history → length (state_at start history j).registered ≤ length images
  members_few spans start history j none names is =
      let members = (state_at start history j).registered in
      let keeps = keeps_along history start j names is (record { disjoint = rw none tt; named = rw none (All-from_recursion IsOfImage [] tt) }) in
      let spanned = All-weaker IsOfImage (λ m. IsSpan m.span) (λ m (image, named, at). subst IsSpan (sym at) (span_is images spans image named)) members keeps.named in
      let most = length-le_from_is_member nat_eq_equiv (bases members) (firsts images) (begin_apart members spanned keeps.disjoint) (λ q is. begins_there members q keeps.named is) in
      let count = length-map members (λ (m : Member). m.span.first) in
      let images_count = length-map images (λ (span : SpanData). span.first) in
      omega (arith, most, count, images_count)
