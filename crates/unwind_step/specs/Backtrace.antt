-- Backtraces: which traces unfold from the registers and the memory of a snapshot and the images'
-- sections.
use Rattle.std.specs.Prelude.{◌≡◌, ℕ, ◌+◌, ◌-◌, ◌%◌, ◌^◌, ◌<◌, ◌≤◌, List, length, Bool, true, false}
use Rattle.std.specs.Prelude.{Option, Some, None, option_map, option_and_then, IfSome, slice_get}
use Rattle.std.specs.Prelude.{slice_index}
use Rattle.std.specs.List.{AllZip}
use Rattle.frame_expr.specs.declared.regs.Regs.{Regs}
use Rattle.frame_expr.specs.Regions.{RegionData}
use Rattle.frame_expr.specs.Registers.{stack_pointer_column, return_address_column}
use Rattle.frame_parse.specs.Sections.{SectionData, FdeData, first_cover}
use Rattle.reg_model.specs.declared.answer.Place.{Place}
use Rattle.reg_model.specs.declared.span.Member.{Member}
use Rattle.reg_model.specs.Receipt.{member_of}
use Rattle.unwind_step.specs.declared.backtrace.End.{End}
use Rattle.unwind_step.specs.declared.backtrace.End.TheVariants.{NoObject, NoFde, NoRow, Undefined}
use Rattle.unwind_step.specs.declared.backtrace.End.TheVariants.{NoBytes, Long}
use Rattle.unwind_step.specs.declared.backtrace.FrameLine.{FrameLine}
use Rattle.unwind_step.specs.declared.frame.AddressKind.{AddressKind}
use Rattle.unwind_step.specs.declared.frame.AddressKind.TheVariants.{Instruction, Return}
use Rattle.unwind_step.specs.declared.frame.Frame.{Frame}
use Rattle.unwind_step.specs.declared.next.Stepped.{Stepped}
use Rattle.unwind_step.specs.declared.next.Stepped.TheVariants as stepped
use Rattle.unwind_step.specs.NextFrame.{IsNextFrame}

-- what a contract sees of a trace: a line for each frame, the innermost first, and why there are no
-- more
pub record TraceData : Type 0 where
  pub frames : List FrameLine
  pub end : End

-- ---- where a frame is looked up

-- A return address lies after the call, which may be the last instruction of its function: so the
-- address before it counts.
abbrev pub lookup_address : AddressKind → ℕ → ℕ
lookup_address Instruction pc = pc
lookup_address Return pc = (pc + (2 ^ 64 - 1)) % 2 ^ 64

-- the member that a place found, registered or loaded
abbrev pub hit_of : Place → Option Member
hit_of place = elim (member_of place.registered) [
  | Some m ↦ Some m
  | None ↦ option_and_then member_of place.loaded
]

-- each member that was found has a payload below a number
abbrev pub IsBelow : ℕ → Place → Type 0
IsBelow bound place = IfSome (hit_of place) (λ m. m.payload < bound)

-- the section of the image that a place found; payloads are the images' numbers
abbrev pub hit_section : List SectionData → Place → Option SectionData
hit_section sections place = option_and_then (λ m. slice_get sections m.payload) (hit_of place)

-- the FDE at an address of a section: the first that covers it, in order of bytes
abbrev pub fde_in : ℕ → SectionData → Option FdeData
fde_in pc s = option_map
    (λ e. record { section = s.address; bytes = s.bytes; entry = e }) (first_cover pc s.fdes)

-- the FDE of the frame that a line shows
abbrev pub fde_of : List SectionData → FrameLine → Option FdeData
fde_of sections line = option_and_then (fde_in line.look) (hit_section sections line.place)

-- ---- frames and their lines

-- the frame of the recorded registers
abbrev pub innermost : Regs → Frame
innermost regs = record { regs = regs; address = Instruction }

-- a line shows a frame's address, its stack pointer, and where it was looked up
pub record Shows (frame : Frame) (line : FrameLine) : Type 0 where
  pub pc : line.pc ≡ slice_index frame.regs.columns return_address_column
  pub sp : line.sp ≡ slice_index frame.regs.columns stack_pointer_column
  pub look : line.look ≡ lookup_address frame.address line.pc

-- what comes of a frame by its FDE
pub record HasOutcome (sections : List SectionData) (memory : List RegionData) (frame : Frame)
    (line : FrameLine) (outcome : Stepped) : Type 0 where
  pub fde : FdeData
  pub found : fde_of sections line ≡ Some fde
  pub is_next : IsNextFrame fde line.look frame.regs.columns memory outcome

-- a signal may come between any two instructions: the frame that it interrupted is at its own
-- address
abbrev pub address_kind : Bool → AddressKind
address_kind true = Instruction
address_kind false = Return

-- the next frame of a backtrace, the one that called
pub record IsCallingFrame (sections : List SectionData) (memory : List RegionData) (frame : Frame)
    (line : FrameLine) (caller : Frame) : Type 0 where
  pub fde : FdeData
  pub found : fde_of sections line ≡ Some fde
  pub is_next : IsNextFrame fde line.look frame.regs.columns memory (stepped.Frame caller.regs)
  pub kind : caller.address ≡ address_kind fde.entry.cie.augmentation.signal

-- ---- whole traces

-- why a trace of so many lines ends with this frame
abbrev pub IsEnd : List SectionData → List RegionData → ℕ → Frame → FrameLine → End → Type 0
IsEnd sections memory count frame line NoObject = hit_of line.place ≡ None
IsEnd sections memory count frame line NoFde =
    (s : SectionData) × (hit_section sections line.place ≡ Some s)
    × (first_cover line.look s.fdes ≡ None)
IsEnd sections memory count frame line NoRow = HasOutcome sections memory frame line stepped.NoRow
IsEnd sections memory count frame line Undefined =
    HasOutcome sections memory frame line stepped.Undefined
IsEnd sections memory count frame line (NoBytes a) =
    HasOutcome sections memory frame line (stepped.NoBytes a)
IsEnd sections memory count frame line Long =
    (count ≡ 256) × ((caller : Frame) × IsCallingFrame sections memory frame line caller)

-- There are frames, as many as lines: the first one has the recorded registers; each line shows its
-- frame; and each further frame is the caller of the one before it.
pub record AreFrames (sections : List SectionData) (memory : List RegionData) (regs : Regs)
    (frames : List Frame) (lines : List FrameLine) : Type 0 where
  pub first : slice_get frames 0 ≡ Some (innermost regs)
  pub shown : AllZip Shows frames lines
  pub callers : (i : ℕ) (frame caller : Frame) (line : FrameLine) → slice_get frames i ≡ Some frame
      → slice_get frames (i + 1) ≡ Some caller → slice_get lines i ≡ Some line
      → IsCallingFrame sections memory frame line caller

-- A trace unfolds where there are frames for its lines, and it ends for the reason that the last
-- frame has.
pub record Unfolds (sections : List SectionData) (memory : List RegionData) (regs : Regs)
    (trace : TraceData) : Type 0 where
  pub frames : List Frame
  pub are_frames : AreFrames sections memory regs frames trace.frames
  pub ends : (i : ℕ) (frame : Frame) (line : FrameLine) → i + 1 ≡ length trace.frames
      → slice_get frames i ≡ Some frame → slice_get trace.frames i ≡ Some line
      → IsEnd sections memory (length trace.frames) frame line trace.end
  pub count : length trace.frames ≤ 256
