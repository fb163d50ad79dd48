-- The answer to a list of bytes, as one reads it from the left.
use Rattle.std.specs.Prelude.{◌≡◌, ℕ, zero, suc, List, [], ◌∷◌, length, Result, Ok, Err}
use Rattle.std.specs.Prelude.{if◌then◌else◌}
use Rattle.eh_bytes.specs.CursorData.{CursorData}
use Rattle.eh_bytes.specs.Results.{◌and_then◌}
use Rattle.frame_parse.specs.declared.fault.FrameFault.{FrameFault}
use Rattle.frame_parse.specs.declared.records.CieRecord.{CieRecord}
use Rattle.frame_parse.specs.Entries.{FdeRecord, Record}
use Rattle.frame_parse.specs.Records.{whole_record}
use Rattle.frame_parse.specs.Sections.{is_end, with_record, fdes_of, HasFdes, IsRefused}
use Rattle.frame_parse.specs.Sections.{SectionData}

-- the records that stand here, at most n, or the first refusal
unfoldable pub read_all : ℕ → ℕ → List CieRecord → CursorData → Result (List Record) FrameFault
read_all zero section earlier r = Ok []
read_all (suc n) section earlier r =
    if is_end r.bytes then Ok [] else ◌and_then◌ ((whole_record section earlier).read r)
    (λ x. ◌and_then◌ (read_all n section (with_record earlier x.0) x.1) (λ rs. Ok (x.0 ∷ rs)))

-- the contents of a section with these bytes at this address, or the first refusal; each record has
-- a byte at least
unfoldable pub section_of : ℕ → List ℕ → Result SectionData FrameFault
section_of address bytes =
    ◌and_then◌ (read_all (suc (length bytes)) address [] (record { bytes = bytes; at = 0 }))
    (λ rs. Ok (record { address = address; bytes = bytes; fdes = fdes_of rs }))

-- that is the answer: of a section its contents, of any other bytes their first refusal
pub record IsAnswered (address : ℕ) (bytes : List ℕ) : Type 0 where
  pub contents : (fdes : List FdeRecord) → HasFdes address bytes fdes
      → section_of address bytes ≡ Ok (record { address = address; bytes = bytes; fdes = fdes })
  pub refusal : (f : FrameFault) → IsRefused address bytes f → section_of address bytes ≡ Err f
