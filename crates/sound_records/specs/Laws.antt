-- What items have to do with the section that `read` gives, and with its first refusal.
use Rattle.std.specs.Prelude.{◌≡◌, ℕ, List, [], ◌∷◌, Option, Some, None, Ok, Err}
use Rattle.frame_parse.specs.Entries.{FdeRecord}
use Rattle.frame_parse.specs.Reading.{section_of}
use Rattle.frame_parse.specs.Sections.{SectionData, fdes_of, first_cover}
use Rattle.sound_records.specs.declared.refused.RefusedRecord.{RefusedRecord}
use Rattle.sound_records.specs.declared.answer.FdeAnswer.{FdeAnswer}
use Rattle.sound_records.specs.declared.answer.FdeAnswer.TheVariants.{NoFde, Found}
use Rattle.sound_records.specs.Items.{Item, items_of, sound_in, refused_in, answer_at}

-- the FDE that was found, or that there is none
abbrev pub answer_of : Option FdeRecord → FdeAnswer FdeRecord
answer_of None = NoFde
answer_of (Some f) = Found f

-- the section of these records
abbrev pub section_with : ℕ → List ℕ → List Item → SectionData
section_with address bytes items =
    record { address = address; bytes = bytes; fdes = fdes_of (sound_in items) }

pub record AgreesWithRead (address : ℕ) (bytes : List ℕ) : Type 0 where
  -- where no record is refused they are those of the section
  pub all_sound : refused_in (items_of address bytes) ≡ []
      → section_of address bytes ≡ Ok (section_with address bytes (items_of address bytes))
  -- else the section's refusal is that of the first one
  pub first_refusal : (x : RefusedRecord) (xs : List RefusedRecord)
      → refused_in (items_of address bytes) ≡ x ∷ xs
      → section_of address bytes ≡ Err x.fault
  -- and lookups are those of the section
  pub lookups : refused_in (items_of address bytes) ≡ []
      → (pc : ℕ)
      → answer_at pc (items_of address bytes)
      ≡ answer_of (first_cover pc (fdes_of (sound_in (items_of address bytes))))
