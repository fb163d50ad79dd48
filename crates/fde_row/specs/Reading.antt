-- An FDE and its CIE, each read where it stands, by the grammar of records. What stands beside them
-- isn't looked at.
use Rattle.std.specs.Prelude.{◌≡◌, ℕ, List, [], ◌∷◌, drop, Result, Ok, Err}
use Rattle.std.specs.List.{All}
use Rattle.eh_bytes.specs.CursorData.{CursorData}
use Rattle.eh_bytes.specs.Results.{◌and_then◌}
use Rattle.frame_parse.specs.declared.fault.FrameFault.{FrameFault}
use Rattle.frame_parse.specs.declared.fault.FrameFault.TheVariants.{NoCie}
use Rattle.frame_parse.specs.declared.records.CieRecord.{CieRecord}
use Rattle.frame_parse.specs.Entries.{FdeRecord, Record, Cie, Fde}
use Rattle.frame_parse.specs.Records.{whole_record}

-- what is left of bytes from a place on
abbrev pub from_place : List ℕ → ℕ → CursorData
from_place bytes at = record { bytes = drop at bytes; at = at }

-- a CIE; an FDE in its place has none
abbrev pub as_cie : ℕ → Record → Result CieRecord FrameFault
as_cie at (Cie c) = Ok c
as_cie at (Fde f) = Err (NoCie at at)

-- an FDE; a CIE in its place leads to none
abbrev pub as_fde : ℕ → Record → Result FdeRecord FrameFault
as_fde at (Cie c) = Err (NoCie at at)
as_fde at (Fde f) = Ok f

-- the CIE at a place, or its first refusal
unfoldable pub cie_at : ℕ → List ℕ → ℕ → Result CieRecord FrameFault
cie_at section bytes at =
    ◌and_then◌ ((whole_record section []).read (from_place bytes at)) (λ x. as_cie at x.0)

-- the FDE at a place that leads back to this CIE, or its first refusal
unfoldable pub fde_by : ℕ → List ℕ → CieRecord → ℕ → Result FdeRecord FrameFault
fde_by section bytes c at =
    ◌and_then◌ ((whole_record section (c ∷ [])).read (from_place bytes at)) (λ x. as_fde at x.0)

-- the FDE at a place that leads back to the CIE at another, or the first refusal of the two
unfoldable pub lone_fde : ℕ → List ℕ → ℕ → ℕ → Result FdeRecord FrameFault
lone_fde section bytes cie fde =
    ◌and_then◌ (cie_at section bytes cie) (λ c. fde_by section bytes c fde)

-- each FDE is the one that is read at its place by the CIE at that one's place
abbrev pub AreReadAlone : ℕ → List ℕ → List FdeRecord → Type 0
AreReadAlone section bytes fdes =
    All (λ f. lone_fde section bytes f.cie.start f.start ≡ Ok f) fdes
