-- Items and the reading of a section go side by side.
use Rattle.std.proofs.Common.{◌≡◌, ℕ, zero, suc, List, [], ◌∷◌, length, Bool, true, false, cond, Option, Some, Result, Ok, Err, refl, sym, ap, ◌∙◌}
use Rattle.eh_bytes.specs.CursorData.{CursorData}
use Rattle.eh_bytes.specs.Results.{◌and_then◌}
use Rattle.eh_bytes.proofs.Results.{ok_is}
use Rattle.frame_parse.specs.declared.fault.FrameFault.{FrameFault}
use Rattle.frame_parse.specs.declared.records.CieRecord.{CieRecord}
use Rattle.frame_parse.specs.Entries.{FdeRecord, Record, Cie, Fde}
use Rattle.frame_parse.specs.Reading.{read_all, section_of, IsAnswered}
use Rattle.frame_parse.specs.Records.{whole_record}
use Rattle.frame_parse.specs.Sections.{SectionData, HasFdes, is_end, with_record, fdes_of, covers, first_cover}
use Rattle.sound_records.specs.declared.refused.Claim.{Claim}
use Rattle.sound_records.specs.declared.refused.RefusedRecord.{RefusedRecord}
use Rattle.sound_records.specs.declared.answer.FdeAnswer.{FdeAnswer}
use Rattle.sound_records.specs.declared.answer.FdeAnswer.TheVariants.{Found}
use Rattle.sound_records.specs.Items.{Item, Sound, Refused, by_result, extent, claimed, items_from, items_of, sound_in, refused_in, answer_at}
use Rattle.sound_records.specs.Laws.{answer_of, section_with, AgreesWithRead}

-- these are the items of what was read
record Agree (is : List Item) (o : Result (List Record) FrameFault) : Type 0 where
  sound : refused_in is ≡ [] → o ≡ Ok (sound_in is)
  refused : (x : RefusedRecord) (xs : List RefusedRecord) → refused_in is ≡ x ∷ xs → o ≡ Err x.fault

agree_end : Agree [] (Ok [])
agree_end = record { sound = λ h. refl; refused = λ x xs h. absurd (let never : ⊥ = cc in never) }

agree_sound : (r : Record) (is : List Item) (o : Result (List Record) FrameFault) → Agree is o → Agree (Sound r ∷ is) (o and_then λ rs. Ok (r ∷ rs))
agree_sound r is o a =
    let then : Result (List Record) FrameFault → Result (List Record) FrameFault = λ k. k and_then λ rs. Ok (r ∷ rs) in
    record { sound = λ h. ap then (a.sound h); refused = λ x xs h. ap then (a.refused x xs h) }

agree_refused : (y : RefusedRecord) (is : List Item) → Agree (Refused y ∷ is) (Err y.fault)
agree_refused y is = record {
  sound = λ h. absurd (let never : ⊥ = cc in never);
  refused = λ x xs h. let same : y ≡ x = cc in ap (λ (k : RefusedRecord). Err k.fault) same;
}

-- a record that is read or refused, and what comes after it
agree_next : (b : Bool) (m : Result (Record × CursorData) FrameFault) (is : Record × CursorData → List Item) (rs : Record × CursorData → Result (List Record) FrameFault) (more : List Item) (place : ℕ)
    (claim : Option Claim) → ((x : Record × CursorData) → Agree (is x) (rs x))
    → Agree (cond b [] (by_result m (λ x. Sound x.0 ∷ is x) (λ f. Refused (record { start = place; fault = f; claim = claim }) ∷ more))) (cond b (Ok []) (m and_then λ x. (rs x and_then λ k. Ok (x.0 ∷ k))))
agree_next true m is rs more place claim each = agree_end
agree_next false (Ok x) is rs more place claim each = agree_sound x.0 (is x) (rs x) (each x)
agree_next false (Err f) is rs more place claim each = agree_refused (record { start = place; fault = f; claim = claim }) more

agree : (n section : ℕ) (earlier : List CieRecord) (r : CursorData) → Agree (items_from n section earlier r) (read_all n section earlier r)
unfolding items_from read_all
agree zero section earlier r = agree_end
agree (suc n) section earlier r = agree_next (is_end r.bytes) ((whole_record section earlier).read r) (λ x. items_from n section (with_record earlier x.0) x.1) (λ x. read_all n section (with_record earlier x.0) x.1)
    (by_result ((extent r.at).read r) (λ e. items_from n section earlier e.1) (λ _. [])) r.at (claimed section earlier r) (λ x. agree n section (with_record earlier x.0) x.1)

-- ---- lookups

answer_choice : (b : Bool) (f : FdeRecord) (a : FdeAnswer FdeRecord) (o : Option FdeRecord) → a ≡ answer_of o → cond b (Found f) a ≡ answer_of (cond b (Some f) o)
answer_choice true f a o e = refl
answer_choice false f a o e = e

lookups_agree : (pc : ℕ) (is : List Item) → refused_in is ≡ [] → answer_at pc is ≡ answer_of (first_cover pc (fdes_of (sound_in is)))
lookups_agree pc [] h = refl
lookups_agree pc (Sound (Cie c) ∷ is) h = lookups_agree pc is h
lookups_agree pc (Sound (Fde f) ∷ is) h = answer_choice (covers pc f) f (answer_at pc is) (first_cover pc (fdes_of (sound_in is))) (lookups_agree pc is h)
lookups_agree pc (Refused x ∷ is) h = absurd (let never : ⊥ = cc in never)

-- ---- whole sections

pub agrees : (address : ℕ) (bytes : List ℕ) → AgreesWithRead address bytes
unfolding items_of section_of
agrees address bytes =
    let a = agree (suc (length bytes)) address [] (record { bytes = bytes; at = 0 }) in
    let contents : Result (List Record) FrameFault → Result SectionData FrameFault = λ o. o and_then λ rs. Ok (record { address = address; bytes = bytes; fdes = fdes_of rs }) in
    record {
      all_sound = λ h. ap contents (a.sound h);
      first_refusal = λ x xs h. ap contents (a.refused x xs h);
      lookups = λ h pc. lookups_agree pc (items_of address bytes) h;
    }

-- ---- a section that was read

sound_fdes : (address : ℕ) (bytes : List ℕ) (fdes : List FdeRecord) (xs : List RefusedRecord) → AgreesWithRead address bytes → section_of address bytes ≡ Ok (record { address = address; bytes = bytes; fdes = fdes })
    → refused_in (items_of address bytes) ≡ xs → (fdes ≡ fdes_of (sound_in (items_of address bytes))) × ([] ≡ refused_in (items_of address bytes))
sound_fdes address bytes fdes [] a e h =
    let same : record { address = address; bytes = bytes; fdes = fdes } ≡ section_with address bytes (items_of address bytes) = ok_is {F = FrameFault} _ _ (sym e ∙ a.all_sound h) in
    (ap (λ (s : SectionData). s.fdes) same, sym h)
sound_fdes address bytes fdes (x ∷ xs) a e h = absurd (let never = sym e ∙ a.first_refusal x xs h in cc)

pub nothing_refused : (address : ℕ) (bytes : List ℕ) (fdes : List FdeRecord) → AgreesWithRead address bytes → IsAnswered address bytes → HasFdes address bytes fdes
    → (fdes ≡ fdes_of (sound_in (items_of address bytes))) × ([] ≡ refused_in (items_of address bytes))
nothing_refused address bytes fdes a answered has = sound_fdes address bytes fdes (refused_in (items_of address bytes)) a (answered.contents fdes has) refl
