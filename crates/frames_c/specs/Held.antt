-- What a handle leads to.
use Rattle.std.specs.Prelude.{ℕ, List, Option, Some, None, []}
use Rattle.std.specs.Option.{unwrap_or}
use Rattle.eh_hdr.specs.declared.table.TableEntry.{TableEntry}
use Rattle.frame_parse.specs.Sections.{FdeData, SectionData}
use Rattle.sound_records.specs.declared.refused.RefusedRecord.{RefusedRecord}
use Rattle.sound_records.specs.Sections.{SoundData, claim_among}
use Rattle.unwind_step.specs.Backtrace.{fde_in}

-- a section of sound records, those that were refused in order of bytes, and what its header has
-- for a table, where it was read with a header that was accepted
pub record LoadedData : Type 0 where
  pub section : SectionData
  pub refused : List RefusedRecord
  pub table : Option (Option (List TableEntry))

-- such records, with this table
abbrev pub loaded_with : SoundData → Option (Option (List TableEntry)) → LoadedData
loaded_with s table = record { section = s.section; refused = s.refused; table = table }

-- that to which a handle of a section leads, or of its row table
abbrev pub held_loaded : Option LoadedData → LoadedData
held_loaded held = unwrap_or held (record {
  section = record { address = 0; bytes = []; fdes = [] };
  refused = [];
  table = None;
})

abbrev pub held_section : Option LoadedData → SectionData
held_section held = (held_loaded held).section

-- the regions of recorded memory, or the modules
abbrev pub held_list : {A : Type 0} → Option (List A) → List A
held_list held = unwrap_or held []

-- the refused record that answers at an address; of a section in which none was refused, none does
abbrev pub claim_in : ℕ → LoadedData → Option RefusedRecord
claim_in pc l = claim_among pc l.section.fdes l.refused

-- what is there, unless a refused record answers
abbrev pub unless_claimed : {A B : Type 0} → Option A → Option B → Option B
unless_claimed None x = x
unless_claimed (Some c) x = None

-- the FDE of an address, unless a refused record answers
abbrev pub unclaimed_fde : ℕ → LoadedData → Option FdeData
unclaimed_fde pc l = unless_claimed (claim_in pc l) (fde_in pc l.section)
