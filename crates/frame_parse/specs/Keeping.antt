-- What holds of each record by itself, whatever stands beside it, and what a section keeps of its
-- FDEs.
use Rattle.std.specs.Prelude.{◌≡◌, ℕ, ◌+◌, ◌<◌, ◌^◌, List, ◌++◌, length}
use Rattle.std.specs.List.{All}
use Rattle.eh_bytes.specs.CursorData.{CursorData}
use Rattle.eh_bytes.specs.Steps.{AreSteps}
use Rattle.frame_parse.specs.declared.program_state.ProgramState.{ProgramState}
use Rattle.frame_parse.specs.declared.instructions.context.ProgramKind.TheVariants.{Initial}
use Rattle.frame_parse.specs.declared.records.CieRecord.{CieRecord}
use Rattle.frame_parse.specs.Entries.{FdeRecord, Record, Cie, Fde}
use Rattle.frame_parse.specs.Instructions.{PlacedStep}
use Rattle.frame_parse.specs.Programs.{step, context_of, initial_state, IsExtent, HasPrograms}
use Rattle.frame_parse.specs.Records.{whole_record}
use Rattle.frame_parse.specs.Sections.{fde_starts, IsAscending}

-- ---- records

-- the initial instructions of a CIE stand in the bytes
pub record CieKept (section : ℕ) (bytes : List ℕ) (c : CieRecord) : Type 0 where
  pub text : List ℕ
  pub inside : IsExtent bytes c.initial text
  pub steps : List PlacedStep
  pub last : ProgramState
  pub spelled : AreSteps (step (context_of section c Initial)) c.initial.at initial_state text steps
      last

-- an FDE's addresses end below 2 ^ 64
abbrev pub EndsLow : FdeRecord → Type 0
EndsLow f = f.first + f.range < 2 ^ 64

-- the programs of a record stand in the bytes, and an FDE's addresses end below 2 ^ 64
abbrev pub RecordKept : ℕ → List ℕ → Record → Type 0
RecordKept section bytes (Cie c) = CieKept section bytes c
RecordKept section bytes (Fde f) = HasPrograms section bytes f × EndsLow f

-- where a record begins
abbrev pub record_start : Record → ℕ
record_start (Cie c) = c.start
record_start (Fde f) = f.start

-- the text at the front of what is left spells this record, and then this is left
pub record RecordStands (section : ℕ) (earlier : List CieRecord) (r : CursorData) (x : Record)
    (behind : CursorData) : Type 0 where
  pub front : List ℕ
  pub parts : r.bytes ≡ front ++ behind.bytes
  pub place : behind.at ≡ r.at + length front
  pub spelled : (whole_record section earlier).Spells r.at front x
  pub moves : r.at < behind.at
  pub begins : record_start x ≡ r.at

-- ---- sections

-- what a section keeps of its FDEs
pub record KeepsFdes (section : ℕ) (bytes : List ℕ) (fdes : List FdeRecord) : Type 0 where
  pub programs : All (HasPrograms section bytes) fdes
  pub ascending : IsAscending (fde_starts fdes)
  pub within : All (λ f. f.start < length bytes) fdes
  pub ends : All EndsLow fdes
