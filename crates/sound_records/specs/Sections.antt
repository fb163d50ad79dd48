-- A section with the records that were refused in it.
use Rattle.std.specs.Prelude.{ℕ, List, [], ◌∷◌, length, drop, nat_lt, Option, Some, None}
use Rattle.std.specs.Prelude.{if◌then◌else◌}
use Rattle.eh_bytes.specs.CursorData.{CursorData}
use Rattle.frame_parse.specs.Entries.{FdeRecord}
use Rattle.frame_parse.specs.Sections.{SectionData, first_cover}
use Rattle.sound_records.specs.declared.refused.RefusedRecord.{RefusedRecord}
use Rattle.sound_records.specs.declared.answer.FdeAnswer.{FdeAnswer}
use Rattle.sound_records.specs.declared.answer.FdeAnswer.TheVariants.{NoFde, Found, Claimed}
use Rattle.sound_records.specs.Items.{by_result, claims, extent, items_of, refused_in}
use Rattle.sound_records.specs.Laws.{section_with}

-- what contracts see of it: the section of its sound records, and the others in order of bytes
pub record SoundData : Type 0 where
  pub section : SectionData
  pub refused : List RefusedRecord

-- that of these bytes at this address
abbrev pub sound_section : ℕ → List ℕ → SoundData
sound_section address bytes = record {
  section = section_with address bytes (items_of address bytes);
  refused = refused_in (items_of address bytes);
}

-- ---- lookups

-- the first of these records that claims an address
abbrev pub first_claim : ℕ → List RefusedRecord → Option RefusedRecord
first_claim pc [] = None
first_claim pc (x ∷ xs) = if claims pc x.claim then Some x else first_claim pc xs

-- an answer whose FDE is told in another way
abbrev pub answer_told : {A B : Type 0} → (A → B) → FdeAnswer A → FdeAnswer B
answer_told f NoFde = NoFde
answer_told f (Found x) = Found (f x)
answer_told f (Claimed x) = Claimed x

-- whichever stands first in the bytes
abbrev pub nearest : Option FdeRecord → Option RefusedRecord → FdeAnswer FdeRecord
nearest None None = NoFde
nearest (Some f) None = Found f
nearest None (Some x) = Claimed x
nearest (Some f) (Some x) = if nat_lt f.start x.start then Found f else Claimed x

-- the first claim, unless an FDE that covers the address stands before it in the bytes
abbrev pub unless_before : Option RefusedRecord → Option FdeRecord → Option RefusedRecord
unless_before None f = None
unless_before (Some x) None = Some x
unless_before (Some x) (Some f) = if nat_lt f.start x.start then None else Some x

-- the refused record that answers, of sound FDEs and of those that were refused
abbrev pub claim_among : ℕ → List FdeRecord → List RefusedRecord → Option RefusedRecord
claim_among pc fdes refused = unless_before (first_claim pc refused) (first_cover pc fdes)

-- ---- a step of reading

-- what is left of bytes from a place on
abbrev pub left_from : List ℕ → ℕ → CursorData
left_from bytes at = record { bytes = drop at bytes; at = at }

-- what is left behind a refused record: nothing where it isn't whole
abbrev pub left_behind : List ℕ → CursorData → CursorData
left_behind bytes r = by_result ((extent r.at).read r) (λ e. e.1)
    (λ _. left_from bytes (length bytes))
