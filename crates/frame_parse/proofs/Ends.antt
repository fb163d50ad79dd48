-- The addresses of an FDE end below 2^64.
use Rattle.std.proofs.Common.{◌≡◌, ℕ, ◌+◌, ◌<◌, ◌^◌, List, subst, inl, inr}
use Rattle.std.proofs.lemmas.Bool.{and_parts, ltb-true}
use Rattle.frame_parse.specs.declared.records.CieRecord.{CieRecord}
use Rattle.frame_parse.specs.Entries.{FdeRecord, Fde}
use Rattle.frame_parse.specs.Keeping.{EndsLow}
use Rattle.frame_parse.specs.Records.{fde, range, content, record_at, whole_record}

range_ends : (e first p n : ℕ) (front : List ℕ) → (range e first).Spells p front n → first + n < 2 ^ 64
unfolding range
range_ends e first p n front s =
    let tested = s.5.5.4 in
    let size = s.5.5.5.1 in
    elim tested [
      | inl w ↦ (let parts = and_parts _ _ w.0 in subst (λ (k : ℕ). first + k < 2 ^ 64) size (ltb-true _ _ parts.1))
      | inr w ↦ absurd w.1
    ]

fde_ends : (section start end p : ℕ) (c : CieRecord) (front : List ℕ) (f : FdeRecord) → (fde section start end c).Spells p front f → EndsLow f
unfolding fde
fde_ends section start end p c front f s =
    subst EndsLow s.5.5.5.5.1 (range_ends c.augmentation.pointers s.0 _ s.5.0 s.5.1 s.5.4)

content_ends : (section : ℕ) (earlier : List CieRecord) (start end p : ℕ) (text : List ℕ) (f : FdeRecord) → (content section earlier start end).Spells p text (Fde f) → EndsLow f
unfolding content
content_ends section earlier start end p text f s =
    elim s.5.5 [
      | inl w ↦ absurd (let never = w.1.5.5.1 in cc)
      | inr w ↦
          let v = w.1.5 in
          let same : v.0 ≡ f = let made = v.5.5.1 in cc in
          subst EndsLow same (fde_ends section start end _ w.1.0 v.1 v.0 v.4)
    ]

pub record_ends : (section p : ℕ) (earlier : List CieRecord) (front : List ℕ) (f : FdeRecord) → (whole_record section earlier).Spells p front (Fde f) → EndsLow f
unfolding whole_record record_at
record_ends section p earlier front f s =
    let held = s.5.5 in
    content_ends section earlier s.0 (held.0 + s.5.0) _ held.2 f held.5.1
