-- Fixed images: one after another, each above the one before.
use Rattle.std.proofs.Common.{◌≡◌, ℕ, suc, ◌-◌, ◌<◌, ◌≤◌, true, false, eqb, leb, List, [], ◌∷◌, ◌++◌, length, map, Option, Some, None, refl, sym, ap, ◌∙◌, inl, inr, eqb-true, ne_eqb, ltb-true, lt-ltb, leb-true, subst, arith}
use Rattle.std.specs.List.{All, AllByRecursion, IsDistinct, list_any, slice_get}
use Rattle.std.specs.Option.{unwrap_or, option_and_then}
use Rattle.std.proofs.lemmas.Bool.{and_parts, or_cases, ltb-false}
use Rattle.std.proofs.lemmas.Map.Steps.{length-le_from_distinct_below}
use Rattle.std.proofs.lemmas.List.Elements.{All-head, All-tail, All-push, All-from_recursion, recursion_from_All}
use Rattle.std.proofs.lemmas.Option.{slice_get_within, slice_get-get_or, unwrap_or-slice_get}
use Rattle.reg_model.specs.SpanData.{SpanData, IsSpan, Overlaps}
use Rattle.reg_model.specs.State.{AreDisjoint}
use Rattle.reg_model.specs.declared.span.Member.{Member}
use Rattle.script_text.specs.ScriptData.{span_of, Rise, AreFixed}
use Rattle.event_script.specs.Reading.{last_fixed, is_above}
use Rattle.script_text.specs.Lawful.{image_member}

abbrev nowhere : SpanData
nowhere = record { first = 0; last = 0 }

span_is : (images : List SpanData) (image : ℕ) (span : SpanData) → slice_get images image ≡ Some span → span_of images image ≡ span
span_is images image span e = ap (λ (o : Option SpanData). unwrap_or o nowhere) e

pub found_span : (images : List SpanData) (image : ℕ) → image < length images → slice_get images image ≡ Some (span_of images image)
found_span images image lt = slice_get-get_or images image nowhere lt ∙ ap Some (sym (unwrap_or-slice_get images image nowhere))

-- the last of a list is the last of its rest
last_rest : (images : List SpanData) (a b : ℕ) (fixed : List ℕ) → last_fixed images (a ∷ b ∷ fixed) ≡ last_fixed images (b ∷ fixed)
last_rest images a b fixed =
    let at : length (a ∷ b ∷ fixed) - 1 ≡ suc (length (b ∷ fixed) - 1) = omega arith in
    ap (λ (i : ℕ). option_and_then (slice_get images) (slice_get (a ∷ b ∷ fixed) i)) at

module _ (images : List SpanData) where
  abbrev IsNamed : ℕ → Type 0
  IsNamed image = image < length images

  -- ---- what is read rises

  rise_push : (fixed : List ℕ) (image : ℕ) (span : SpanData) → All IsNamed fixed → Rise (map (span_of images) fixed) → span_of images image ≡ span → is_above (last_fixed images fixed) span ≡ true → Rise (map (span_of images) (fixed ++ image ∷ []))
  rise_push [] image span named rise is above = tt
  rise_push (x ∷ []) image span named rise is above =
      let at = found_span images x (All-head IsNamed x [] named) in
      let lt = ltb-true (span_of images x).last span.first (sym (ap (λ (o : Option SpanData). is_above o span) at) ∙ above) in
      (subst (λ (s : SpanData). (span_of images x).last < s.first) (sym is) lt, tt)
  rise_push (x ∷ y ∷ fixed) image span named rise is above =
      (rise.0, rise_push (y ∷ fixed) image span (All-tail IsNamed x (y ∷ fixed) named) rise.1 is (sym (ap (λ (o : Option SpanData). is_above o span) (last_rest images x y fixed)) ∙ above))

  pub fixed_push : (fixed : List ℕ) (image : ℕ) (span : SpanData) → AreFixed images fixed → slice_get images image ≡ Some span → is_above (last_fixed images fixed) span ≡ true → AreFixed images (fixed ++ image ∷ [])
  fixed_push fixed image span are found above = record {
    named = All-push IsNamed fixed image are.named (slice_get_within images image span found);
    rising = rise_push fixed image span are.named are.rising (span_is images image span found) above;
  }

  -- ---- what rises is read

  pub rise_at : (front : List ℕ) (image : ℕ) (fixed : List ℕ) → All IsNamed (front ++ image ∷ fixed) → Rise (map (span_of images) (front ++ image ∷ fixed)) → is_above (last_fixed images front) (span_of images image) ≡ true
  rise_at [] image fixed named rise = refl
  rise_at (x ∷ []) image [] named rise =
      ap (λ (o : Option SpanData). is_above o (span_of images image)) (found_span images x (All-head IsNamed x (image ∷ []) named)) ∙ lt-ltb _ _ rise.0
  rise_at (x ∷ []) image (next ∷ fixed) named rise =
      ap (λ (o : Option SpanData). is_above o (span_of images image)) (found_span images x (All-head IsNamed x (image ∷ next ∷ fixed) named)) ∙ lt-ltb _ _ rise.0
  rise_at (x ∷ y ∷ front) image fixed named rise =
      ap (λ (o : Option SpanData). is_above o (span_of images image)) (last_rest images x y front)
      ∙ rise_at (y ∷ front) image fixed (All-tail IsNamed x ((y ∷ front) ++ image ∷ fixed) named) rise.1

  -- ---- what rises is disjoint

  apart : (a b : SpanData) → a.last < b.first → ¬ Overlaps b a
  apart a b above (pc, (in_b, in_a)) =
      let low = leb-true b.first pc (and_parts (leb b.first pc) (leb pc b.last) in_b).0 in
      let high = leb-true pc a.last (and_parts (leb a.first pc) (leb pc a.last) in_a).1 in
      absurd (omega arith)

  free_above : (span : SpanData) (image : ℕ) (fixed : List ℕ) → AllByRecursion (λ i. IsSpan (span_of images i)) (image ∷ fixed) → span.last < (span_of images image).first → Rise (map (span_of images) (image ∷ fixed)) → AllByRecursion (λ (m : Member). ¬ Overlaps m.span span) (map (image_member images) (image ∷ fixed))
  free_above span image [] are above rise = (apart span (span_of images image) above, tt)
  free_above span image (next ∷ fixed) are above rise =
      let ordered = are.0.ordered in
      (apart span (span_of images image) above, free_above span next fixed are.1 (let higher = rise.0 in omega arith) rise.1)

  rising_apart : (fixed : List ℕ) → AllByRecursion (λ i. IsSpan (span_of images i)) fixed → Rise (map (span_of images) fixed) → AreDisjoint (map (image_member images) fixed)
  rising_apart [] are rise = tt
  rising_apart (image ∷ []) are rise = (All-from_recursion (λ (m : Member). ¬ Overlaps m.span (span_of images image)) [] tt, tt)
  rising_apart (image ∷ next ∷ fixed) are rise =
      (All-from_recursion (λ (m : Member). ¬ Overlaps m.span (span_of images image)) (map (image_member images) (next ∷ fixed)) (free_above (span_of images image) next fixed are.1 rise.0 rise.1), rising_apart (next ∷ fixed) are.1 rise.1)

  spans_named : (fixed : List ℕ) → All IsSpan images → AllByRecursion IsNamed fixed → AllByRecursion (λ i. IsSpan (span_of images i)) fixed
  spans_named [] spans named = tt
  spans_named (image ∷ fixed) spans named = (subst IsSpan (sym (unwrap_or-slice_get images image nowhere)) (spans image nowhere named.0), spans_named fixed spans named.1)

  pub fixed_apart : (fixed : List ℕ) → All IsSpan images → AreFixed images fixed → AreDisjoint (map (image_member images) fixed)
  fixed_apart fixed spans are = rising_apart fixed (spans_named fixed spans (recursion_from_All IsNamed fixed are.named)) are.rising

  -- ---- no image is fixed twice

  other : (x next : ℕ) → IsSpan (span_of images x) → (span_of images x).last < (span_of images next).first → eqb x next ≡ false
  other x next is above =
      let ordered = is.ordered in
      ne_eqb x next (λ e. (let same : (span_of images x).first ≡ (span_of images next).first = ap (λ (i : ℕ). (span_of images i).first) e in omega arith))

  others : (x next : ℕ) (fixed : List ℕ) → AllByRecursion (λ i. IsSpan (span_of images i)) (next ∷ fixed) → IsSpan (span_of images x) → (span_of images x).last < (span_of images next).first → Rise (map (span_of images) (next ∷ fixed)) → AllByRecursion (λ y. eqb x y ≡ false) (next ∷ fixed)
  others x next [] are is above rise = (other x next is above, tt)
  others x next (more ∷ fixed) are is above rise = (let next_ordered = are.0.ordered in (other x next is above, others x more fixed are.1 is (let higher = rise.0 in omega arith) rise.1))

  distinct : (fixed : List ℕ) → AllByRecursion (λ i. IsSpan (span_of images i)) fixed → Rise (map (span_of images) fixed) → IsDistinct eqb fixed
  unfolding IsDistinct
  distinct [] are rise = tt
  distinct (x ∷ []) are rise = (tt, tt)
  distinct (x ∷ next ∷ fixed) are rise = (others x next fixed are.1 are.0 rise.0 rise.1, distinct (next ∷ fixed) are.1 rise.1)

  named_at : (fixed : List ℕ) (q : ℕ) → AllByRecursion IsNamed fixed → list_any (eqb q) fixed ≡ true → q < length images
  named_at [] q named is = absurd cc
  named_at (x ∷ fixed) q named is = elim (or_cases (eqb q x) (list_any (eqb q) fixed) is) [
    | inl here ↦ subst IsNamed (sym (eqb-true q x here)) named.0
    | inr later ↦ named_at fixed q named.1 later
  ]

  -- so as many images at the most are fixed as there are
  pub few_fixed : (fixed : List ℕ) → All IsSpan images → AreFixed images fixed → length fixed ≤ length images
  few_fixed fixed spans are =
      let named = recursion_from_All IsNamed fixed are.named in
      length-le_from_distinct_below fixed (length images) (distinct fixed (spans_named fixed spans named) are.rising) (λ q is. named_at fixed q named is)

-- ---- whether a span is above the last fixed one

module _ (images : List SpanData) (fixed : List ℕ) (image : ℕ) (span : SpanData) (is : slice_get images image ≡ Some span) where
  -- the last fixed image's span, and this one's, which begins too low
  abbrev IsTooLow : Type 0
  IsTooLow =
      (last : ℕ) × (below above : SpanData) × (slice_get fixed (length fixed - 1) ≡ Some last)
      × (slice_get images last ≡ Some below) × (slice_get images image ≡ Some above) × (above.first ≤ below.last)

  same_span : (o : Option SpanData) (a b : SpanData) → o ≡ Some a → o ≡ Some b → a ≡ b
  same_span o a b p q = (let e : some_span a ≡ some_span b = sym p ∙ q in is_some a b e)
    where
      some_span : SpanData → Option SpanData
      some_span x = Some x

      is_some : (x y : SpanData) → Some x ≡ Some y → x ≡ y
      is_some x y e = cc

  pub above_low : is_above (last_fixed images fixed) span ≡ true → IsTooLow → ⊥
  above_low test (last, below, above, at, found, own, low) =
      let known : is_above (Some below) span ≡ true = sym (ap (λ (o : Option ℕ). is_above (option_and_then (slice_get images) o) span) at ∙ ap (λ (o : Option SpanData). is_above o span) found) ∙ test in
      let lt = ltb-true below.last span.first known in
      let same = ap (λ (s : SpanData). s.first) (same_span (slice_get images image) above span own is) in
      absurd (omega arith)

  pub too_low : is_above (last_fixed images fixed) span ≡ false → IsTooLow
  too_low test = by (slice_get fixed (length fixed - 1)) refl test
    where
      at : (last : ℕ) → slice_get fixed (length fixed - 1) ≡ Some last → (o : Option SpanData) → slice_get images last ≡ o → is_above o span ≡ false → IsTooLow
      at last here None found test = absurd cc
      at last here (Some below) found test = (last, below, span, here, found, is, ltb-false below.last span.first test)

      by : (o : Option ℕ) → slice_get fixed (length fixed - 1) ≡ o → is_above (option_and_then (slice_get images) o) span ≡ false → IsTooLow
      by None here test = absurd cc
      by (Some last) here test = at last here (slice_get images last) refl test
