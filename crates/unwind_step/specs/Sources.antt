-- What a section tells of an address, and what comes of a frame by it.
use Rattle.std.specs.Prelude.{◌≡◌, ℕ, List, Bool, Some}
use Rattle.frame_expr.specs.Regions.{RegionData}
use Rattle.frame_parse.specs.Sections.{FdeData, SectionData, first_cover}
use Rattle.frame_rows.specs.RowAt.{IsRowAt}
use Rattle.frame_rows.specs.Rules.{RowData}
use Rattle.unwind_step.specs.Backtrace.{fde_in}
use Rattle.unwind_step.specs.NextFrame.{IsNextFrame}
use Rattle.unwind_step.specs.declared.next.Stepped.{Stepped}

-- the FDE of an address in a section, and its row there
pub record IsFound (s : SectionData) (pc : ℕ) (f : FdeData) (told : RowData) : Type 0 where
  pub entry : first_cover pc s.fdes ≡ Some f.entry
  pub section : f.section ≡ s.address
  pub bytes : f.bytes ≡ s.bytes
  pub row : IsRowAt f pc told

-- what comes of a frame by the FDE of the address where it was looked up, and whether its CIE says
-- that it is a signal's
pub record IsStepIn (s : SectionData) (look : ℕ) (old : List ℕ) (memory : List RegionData)
    (outcome : Stepped) (signal : Bool) : Type 0 where
  pub fde : FdeData
  pub found : fde_in look s ≡ Some fde
  pub is_next : IsNextFrame fde look old memory outcome
  pub of : signal ≡ fde.entry.cie.augmentation.signal
