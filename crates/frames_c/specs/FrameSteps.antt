-- One frame from another, as C is told.
use Rattle.std.specs.Prelude.{◌≡◌, ℕ, zero, suc, List, Bool, Option, Some, None, slice_index}
use Rattle.frame_expr.specs.Regions.{RegionData}
use Rattle.frame_expr.specs.Registers.{return_address_column}
use Rattle.frame_parse.specs.Sections.{FdeData}
use Rattle.sound_records.specs.declared.refused.RefusedRecord.{RefusedRecord}
use Rattle.unwind_step.specs.Backtrace.{fde_in, lookup_address}
use Rattle.unwind_step.specs.NextFrame.{IsNextFrame}
use Rattle.unwind_step.specs.declared.frame.AddressKind.{AddressKind}
use Rattle.unwind_step.specs.declared.frame.AddressKind.TheVariants.{Instruction, Return}
use Rattle.unwind_step.specs.declared.next.Stepped.{Stepped}
use Rattle.unwind_step.specs.declared.next.Stepped.TheVariants.{Frame, NoRow, Undefined, NoBytes}
use Rattle.frames_c.specs.Fdes.{flag}
use Rattle.frames_c.specs.Held.{LoadedData, claim_in}
use Rattle.frames_c.specs.declared.step.FramesFrame.{FramesFrame}

-- whose address the return address's column has
abbrev pub address_told : ℕ → AddressKind
address_told zero = Return
address_told (suc n) = Instruction

-- where a frame is looked up
abbrev pub frame_look : FramesFrame → ℕ
frame_look frame =
    lookup_address (address_told frame.at_instruction)
    (slice_index frame.columns return_address_column)

-- what came of it; 1 is for an address that no FDE covers, 5 for a claim
abbrev pub outcome_told : Stepped → ℕ
outcome_told (Frame regs) = 0
outcome_told NoRow = 2
outcome_told Undefined = 3
outcome_told (NoBytes a) = 4

-- the frame afterwards, where the FDE says whether it is a signal's
abbrev pub frame_after : Bool → Stepped → FramesFrame → FramesFrame
frame_after signal (Frame regs) frame =
    record frame { columns = regs.columns; at_instruction = flag signal }
frame_after signal NoRow frame = frame
frame_after signal Undefined frame = frame
frame_after signal (NoBytes a) frame = record frame { missing = a }

abbrev pub AnswersOutcome
    : Option FdeData → List RegionData → FramesFrame → ℕ → FramesFrame → Type 0
AnswersOutcome None memory old result new = (result ≡ 1) × (new ≡ old)
AnswersOutcome (Some f) memory old result new =
    (outcome : Stepped) × IsNextFrame f (frame_look old) old.columns memory outcome
    × (result ≡ outcome_told outcome)
    × (new ≡ frame_after f.entry.cie.augmentation.signal outcome old)

-- 5: a refused record answers, and then the frame stays
abbrev pub AnswersUnless : Option RefusedRecord → Option FdeData → List RegionData → FramesFrame
    → ℕ → FramesFrame → Type 0
AnswersUnless (Some x) found memory old result new = (result ≡ 5) × (new ≡ old)
AnswersUnless None found memory old result new = AnswersOutcome found memory old result new

-- what the section and the memory make of a frame
abbrev pub AnswersStep : LoadedData → List RegionData → FramesFrame → ℕ → FramesFrame → Type 0
AnswersStep l memory old result new =
    AnswersUnless (claim_in (frame_look old) l) (fde_in (frame_look old) l.section) memory old
    result new
