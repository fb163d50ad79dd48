-- Members and overlaps: what is read is told and spelled so, and what is told is read from its text.
use Rattle.std.proofs.Common.{◌≡◌, ℕ, ◌-◌, ◌^◌, ◌<◌, Bool, true, false, cond, ◌&&◌, eqb, ltb, List, ◌++◌, length, Some, None, codes, refl, sym, ap, ap₂, subst, ◌∙◌, append_assoc, lt-ltb, ltb-true, eqb-true, arith}
use Rattle.std.specs.Fmt.{decimal}
use Rattle.std.proofs.lemmas.Bool.{cond-true, and_from}
use Rattle.reg_model.specs.SpanData.{SpanData}
use Rattle.reg_model.specs.declared.span.Member.{Member}
use Rattle.script_text.specs.Digits.{hex}
use Rattle.script_text.specs.Fields.{decimal_in}
use Rattle.script_text.specs.ScriptData.{span_of}
use Rattle.script_text.specs.Lawful.{image_member}
use Rattle.script_text.proofs.Numbers.{decimal_again}
use Rattle.journal_reader.specs.FirstNumbers.{decimal_first, hex_first, past_word}
use Rattle.journal_reader.specs.Told.{IsImage, IsToldOverlap, told_member}
use Rattle.journal_reader.specs.Reading.{image_in, overlapping_in, overlap_in}
use Rattle.journal_reader.proofs.Options.{step_parts}
use Rattle.script_text.proofs.Numbers.{decimal_is}
use Rattle.journal_reader.proofs.FirstParts.{past_is, decimal_first_again, hex_first_again, decimal_first_is, hex_first_is}

pub glue_five : (a b c d e : List ℕ) → (((a ++ b) ++ c) ++ d) ++ e ≡ a ++ (b ++ (c ++ (d ++ e)))
glue_five a b c d e = simp append_assoc

module _ (images : List SpanData) (few : length images < 2 ^ 32) where
  pub image_in_is : (n : ℕ) (m : Member) → image_in images n ≡ Some m → IsImage images m × (m.payload ≡ n)
  unfolding image_in
  image_in_is n m e = by (ltb n (length images)) refl e
    where
      by : (t : Bool) → ltb n (length images) ≡ t → cond t (Some (image_member images n)) None ≡ Some m → IsImage images m × (m.payload ≡ n)
      by true small e =
          let is : image_member images n ≡ m = cc in
          subst (λ (x : Member). IsImage images x × (x.payload ≡ n)) is (record { named = ltb-true n (length images) small; is = refl }, refl)
      by false small e = absurd cc

  pub image_in_again : (m : Member) → IsImage images m → image_in images m.payload ≡ Some m
  unfolding image_in
  image_in_again m is = cond-true (ltb m.payload (length images)) (Some (image_member images m.payload)) None (lt-ltb m.payload (length images) is.named) ∙ ap Some (sym is.is)

  told_parts : (base n : ℕ) → ((told_member images base n).span.first ≡ base) × ((told_member images base n).payload ≡ n)
  told_parts base n = by (eqb (span_of images n).first base) refl
    where
      by : (t : Bool) → eqb (span_of images n).first base ≡ t
          → ((cond t (image_member images n) (record { span = record { first = base; last = base }; payload = n })).span.first ≡ base)
          × ((cond t (image_member images n) (record { span = record { first = base; last = base }; payload = n })).payload ≡ n)
      by true same = (eqb-true (span_of images n).first base same, refl)
      by false same = (refl, refl)

  pub overlapping_is : (base n : ℕ) (m : Member) → overlapping_in images base n ≡ Some m → IsToldOverlap images m × (m.span.first ≡ base) × (m.payload ≡ n)
  unfolding overlapping_in
  overlapping_is base n m e = by (ltb n (length images)) (ltb base (2 ^ 64 - 1)) refl refl e
    where
      by : (s t : Bool) → ltb n (length images) ≡ s → ltb base (2 ^ 64 - 1) ≡ t → cond (s && t) (Some (told_member images base n)) None ≡ Some m → IsToldOverlap images m × (m.span.first ≡ base) × (m.payload ≡ n)
      by true true small low e =
          let is : told_member images base n ≡ m = cc in
          let parts = told_parts base n in
          let made : IsToldOverlap images (told_member images base n) = record {
            named = subst (λ (x : ℕ). x < length images) (sym parts.1) (ltb-true n (length images) small);
            base = subst (λ (x : ℕ). x < 2 ^ 64 - 1) (sym parts.0) (ltb-true base (2 ^ 64 - 1) low);
            is = ap₂ (told_member images) (sym parts.0) (sym parts.1);
          } in
          subst (λ (x : Member). IsToldOverlap images x × (x.span.first ≡ base) × (x.payload ≡ n)) is (made, parts.0, parts.1)
      by true false small low e = absurd cc
      by false t small low e = absurd cc

  pub overlapping_again : (m : Member) → IsToldOverlap images m → overlapping_in images m.span.first m.payload ≡ Some m
  unfolding overlapping_in
  overlapping_again m is =
      cond-true (ltb m.payload (length images) && ltb m.span.first (2 ^ 64 - 1)) (Some (told_member images m.span.first m.payload)) None
      (and_from _ _ (lt-ltb m.payload (length images) is.named) (lt-ltb m.span.first (2 ^ 64 - 1) is.base))
      ∙ ap Some (sym is.is)

  pub overlap_again : (m : Member) (stamp : ℕ) → IsToldOverlap images m → stamp < 2 ^ 32 → overlap_in images ((((hex m.span.first ++ codes " ") ++ decimal m.payload) ++ codes " at ") ++ decimal stamp) ≡ Some (m, stamp)
  unfolding overlap_in past_word
  overlap_again m stamp is lt =
      let named = is.named in
      let based = is.base in
      let last = codes " at " ++ decimal stamp in
      let base = hex_first_again m.span.first (codes " " ++ (decimal m.payload ++ last)) (omega arith) refl in
      let image = decimal_first_again m.payload last (omega arith) refl in
      let found = overlapping_again m is in
      let number = decimal_again stamp lt in
      ap (overlap_in images) (glue_five (hex m.span.first) (codes " ") (decimal m.payload) (codes " at ") (decimal stamp)) ∙ rw (base, image, found, number) refl

  pub overlap_is : (text : List ℕ) (m : Member) (stamp : ℕ) → overlap_in images text ≡ Some (m, stamp) → IsToldOverlap images m × (stamp < 2 ^ 32) × (text ≡ (((hex m.span.first ++ codes " ") ++ decimal m.payload) ++ codes " at ") ++ decimal stamp)
  unfolding overlap_in
  overlap_is text m stamp e =
      let a = step_parts (hex_first text) _ _ e in
      let b = step_parts (past_word (codes " ") a.0.1) _ _ a.2 in
      let c = step_parts (decimal_first b.0) _ _ b.2 in
      let d = step_parts (overlapping_in images a.0.0 c.0.0) _ _ c.2 in
      let f = step_parts (past_word (codes " at ") c.0.1) _ _ d.2 in
      let g = step_parts (decimal_in f.0) _ _ f.2 in
      let base = hex_first_is text a.0.0 a.0.1 a.1 in
      let space = past_is (codes " ") a.0.1 b.0 b.1 in
      let image = decimal_first_is b.0 c.0.0 c.0.1 c.1 in
      let over = overlapping_is a.0.0 c.0.0 d.0 d.1 in
      let mid = past_is (codes " at ") c.0.1 f.0 f.1 in
      let last = decimal_is f.0 g.0 g.1 in
      let is : (d.0, g.0) ≡ (m, stamp) = cc in
      let glued : text ≡ (((hex d.0.span.first ++ codes " ") ++ decimal d.0.payload) ++ codes " at ") ++ decimal g.0 =
      base.1 ∙ ap (λ (x : List ℕ). hex a.0.0 ++ x) (space ∙ ap (λ (x : List ℕ). codes " " ++ x) (image.1 ∙ ap (λ (x : List ℕ). decimal c.0.0 ++ x) (mid ∙ ap (λ (x : List ℕ). codes " at " ++ x) last.1)))
      ∙ ap₂ (λ (x y : ℕ). hex x ++ (codes " " ++ (decimal y ++ (codes " at " ++ decimal g.0)))) (sym over.1) (sym over.2)
      ∙ sym (glue_five (hex d.0.span.first) (codes " ") (decimal d.0.payload) (codes " at ") (decimal g.0)) in
      subst (λ (x : Member × ℕ). IsToldOverlap images x.0 × (x.1 < 2 ^ 32) × (text ≡ (((hex x.0.span.first ++ codes " ") ++ decimal x.0.payload) ++ codes " at ") ++ decimal x.1)) is (over.0, last.0, glued)
