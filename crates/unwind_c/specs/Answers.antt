-- What C is told of a call that registers a section, gives one up or moves one.
use Rattle.std.specs.Prelude.{◌≡◌, ℕ, List, Result, Ok, Err}
use Rattle.c_sections.specs.Loads.{IsLoaded}
use Rattle.c_sections.specs.Refusals.{IsLoadFault, load_told}
use Rattle.c_sections.specs.declared.refusal.FramesRefusal.{FramesRefusal}
use Rattle.c_sections.specs.declared.refusal.LoadFault.{LoadFault}
use Rattle.c_sections.specs.declared.refusal.LoadFault.TheVariants.{Frames}
use Rattle.fde_writer.specs.Outcomes.{IsMoving, IsRegistration}
use Rattle.fde_writer.specs.Sections.{FdeWriterData}
use Rattle.fde_writer.specs.declared.outcome.Deregistration.{Deregistration}
use Rattle.fde_writer.specs.declared.outcome.Deregistration.TheVariants as deregistration
use Rattle.fde_writer.specs.declared.outcome.Moving.{Moving}
use Rattle.fde_writer.specs.declared.outcome.Moving.TheVariants as moving
use Rattle.fde_writer.specs.declared.outcome.Numbers.{Numbers}
use Rattle.fde_writer.specs.declared.outcome.Registration.{Registration}
use Rattle.fde_writer.specs.declared.outcome.Registration.TheVariants as registration
use Rattle.frame_parse.specs.Sections.{SectionData}
use Rattle.frame_parse.specs.declared.fault.FrameFault.TheVariants.{NoMemory}
use Rattle.unwind_c.specs.Kinds.{SECTION_DONE, SECTION_REFUSED, SECTION_FAR, SECTION_SPENT}
use Rattle.unwind_c.specs.Kinds.{SECTION_NO_MEMORY, SECTION_OVERLAP, SECTION_FULL, SECTION_STUCK}
use Rattle.unwind_c.specs.Kinds.{SECTION_UNKNOWN, SECTION_LEFT, SECTION_INTO_STUCK}
use Rattle.unwind_c.specs.Reach.{section_reach}
use Rattle.unwind_c.specs.declared.reach.AddressReach.{AddressReach}
use Rattle.unwind_c.specs.declared.outcome.SectionOutcome.{SectionOutcome}
use Rattle.unwind_c.specs.declared.told.UnwindTold.{UnwindTold}

-- no bytes were refused
abbrev pub no_refusal : FramesRefusal
no_refusal = record { kind = 0; start = 0; at = 0; detail = 0 }

-- a kind alone
abbrev pub kind_told : ℕ → UnwindTold
kind_told kind = record {
  kind = kind;
  first_number = 0;
  last_number = 0;
  note = 0;
  distance = 0;
  lowest = 0;
  end = 0;
  refusal = no_refusal;
}

-- and the numbers of updates, with a note
abbrev pub kind_told_with : ℕ → Numbers → ℕ → UnwindTold
kind_told_with kind numbers note = record (kind_told kind) {
  first_number = numbers.first;
  last_number = numbers.last;
  note = note;
}

-- an FDE is so far from its code
abbrev pub far_told : ℕ → UnwindTold
far_told distance = record (kind_told SECTION_FAR) { distance = distance }

-- of a registration; its note is the caller's own
abbrev pub registration_told : Registration → UnwindTold
registration_told (registration.Done numbers) = kind_told_with SECTION_DONE numbers 0
registration_told (registration.Far distance) = far_told distance
registration_told registration.Spent = kind_told SECTION_SPENT
registration_told registration.NoMemory = kind_told SECTION_NO_MEMORY
registration_told registration.Overlap = kind_told SECTION_OVERLAP
registration_told registration.Full = kind_told SECTION_FULL
registration_told registration.Stuck = kind_told SECTION_STUCK

-- of a deregistration
abbrev pub deregistration_told : Deregistration → UnwindTold
deregistration_told (deregistration.Done note numbers) = kind_told_with SECTION_DONE numbers note
deregistration_told deregistration.Unknown = kind_told SECTION_UNKNOWN
deregistration_told deregistration.Stuck = kind_told SECTION_STUCK

-- of a move: why the other writer refused it, and how it ended
abbrev pub refused_move_told : Registration → UnwindTold
refused_move_told registration.Stuck = kind_told SECTION_INTO_STUCK
refused_move_told why = registration_told why

abbrev pub moving_told : Moving → UnwindTold
moving_told (moving.Done note numbers) = kind_told_with SECTION_DONE numbers note
moving_told (moving.Left numbers) = kind_told_with SECTION_LEFT numbers 0
moving_told moving.Unknown = kind_told SECTION_UNKNOWN
moving_told (moving.Refused why) = refused_move_told why
moving_told moving.Stuck = kind_told SECTION_STUCK

-- of bytes that are no section
abbrev pub refused_told : LoadFault → UnwindTold
refused_told fault = record (kind_told SECTION_REFUSED) { refusal = load_told fault }

-- the same, or want of memory while they were read
abbrev pub fault_told : LoadFault → UnwindTold
fault_told (Frames NoMemory) = kind_told SECTION_NO_MEMORY
fault_told fault = refused_told fault

-- Bytes at an address were read: what they are was registered, and has these addresses; or they
-- weren't read, and the writer is as it was.
abbrev pub RegistersBytes : ℕ → ℕ → ℕ → List ℕ → FdeWriterData → FdeWriterData
    → Result SectionOutcome LoadFault → Type 0
RegistersBytes key note address bytes u u' (Ok placed) = (s : SectionData)
    × IsLoaded address bytes s × IsRegistration key note s u u' placed.answer
    × (placed.reach ≡ section_reach s)
RegistersBytes key note address bytes u u' (Err fault) =
    IsLoadFault address bytes fault × (u' ≡ u)

-- of a section that stands, with its addresses
abbrev pub placed_told : Registration → AddressReach → UnwindTold
placed_told (registration.Done numbers) reach = record (kind_told_with SECTION_DONE numbers 0) {
  lowest = reach.lowest;
  end = reach.end;
}
placed_told answer reach = registration_told answer

abbrev pub bytes_told : Result SectionOutcome LoadFault → UnwindTold
bytes_told (Ok placed) = placed_told placed.answer placed.reach
bytes_told (Err fault) = fault_told fault

-- A call was answered, which is told so.
abbrev pub TellsSection : {A : Type 0} → (FdeWriterData → FdeWriterData → A → Type 0)
    → (A → UnwindTold) → UnwindTold → FdeWriterData → FdeWriterData → Type 0
TellsSection {A} call told_of told u u' =
    (answer : A) × (call u u' answer × (told ≡ told_of answer))

-- The latest section under a key was moved to another library, or wasn't, which is told so.
abbrev pub TellsMove : ℕ → FdeWriterData → FdeWriterData → UnwindTold → FdeWriterData
    → FdeWriterData → Type 0
TellsMove key v v' = TellsSection (λ u u' answer. IsMoving key u u' v v' answer) moving_told
