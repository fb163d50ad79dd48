-- What the next line of a trace has to show, by the lines before it.
use Rattle.std.specs.Prelude.{◌≡◌, ◌≢◌, ℕ, List, [], ◌++◌, length, Bool, Some}
use Rattle.std.specs.Prelude.{slice_get, ◌==◌, if◌then◌else◌}
use Rattle.frame_expr.specs.declared.regs.Regs.{Regs}
use Rattle.frame_expr.specs.Regions.{RegionData}
use Rattle.frame_parse.specs.Sections.{SectionData}
use Rattle.unwind_step.specs.Backtrace.{TraceData, Unfolds, Shows, IsCallingFrame, IsEnd}
use Rattle.unwind_step.specs.Backtrace.{address_kind}
use Rattle.unwind_step.specs.Walks.{WalkData, IsUnasked, IsWalked}
use Rattle.unwind_step.specs.declared.backtrace.End.{End}
use Rattle.unwind_step.specs.declared.backtrace.End.TheVariants as ends
use Rattle.unwind_step.specs.declared.backtrace.FrameLine.{FrameLine}
use Rattle.unwind_step.specs.declared.frame.Frame.{Frame}
use Rattle.unwind_step.specs.declared.next.Stepped.{Stepped}
use Rattle.unwind_step.specs.declared.next.Stepped.TheVariants as stepped
use Rattle.trace_check.specs.declared.next_line.NextLine.{NextLine}
use Rattle.trace_check.specs.declared.next_line.NextLine.TheVariants as nexts

-- what comes after a frame, the last of so many, that was looked up as its line tells: its caller,
-- while there is room for one, or the end
abbrev pub ComesAfter : List SectionData → List RegionData → ℕ → Frame → FrameLine → NextLine
    → Type 0
ComesAfter sections memory count frame line (nexts.Frame caller) =
    IsCallingFrame sections memory frame line caller × (count ≢ 256)
ComesAfter sections memory count frame line (nexts.End end) =
    IsEnd sections memory count frame line end

-- a line shows the frame, and the one after it has to show this
pub record IsNextLine (sections : List SectionData) (memory : List RegionData) (count : ℕ)
    (frame : Frame) (line : FrameLine) (next : NextLine) : Type 0 where
  pub shows : Shows frame line
  pub comes : ComesAfter sections memory count frame line next

-- what the line after so many frames has to show, by what came of the last of them
abbrev pub next_of : ℕ → Stepped → Bool → NextLine
next_of count (stepped.Frame regs) signal =
    if count == 256 then nexts.End ends.Long
    else nexts.Frame (record { regs = regs; address = address_kind signal })
next_of count stepped.NoRow signal = nexts.End ends.NoRow
next_of count stepped.Undefined signal = nexts.End ends.Undefined
next_of count (stepped.NoBytes a) signal = nexts.End (ends.NoBytes a)

-- a walk of these lines stands at a frame
abbrev pub walk_at : List SectionData → List RegionData → Regs → List FrameLine → Frame → WalkData
walk_at sections memory regs lines frame = record {
  sections = sections;
  memory = memory;
  regs = regs;
  frame = frame;
  lines = lines;
}

-- a walk of these lines stands at the frame that is to be shown next, or ends so
abbrev pub StandsBefore : List SectionData → List RegionData → Regs → List FrameLine → NextLine
    → Type 0
StandsBefore sections memory regs lines (nexts.Frame frame) =
    IsUnasked (walk_at sections memory regs lines frame)
StandsBefore sections memory regs lines (nexts.End end) =
    (frame : Frame) × IsWalked (walk_at sections memory regs lines frame) end

-- a trace of these frames goes on behind so many lines with further ones, the first of which shows
-- this frame, or with this end
abbrev pub Continues : List Frame → ℕ → End → List FrameLine → NextLine → Type 0
Continues frames count end rest (nexts.Frame frame) =
    (rest ≢ []) × (slice_get frames count ≡ Some frame)
Continues frames count end rest (nexts.End other) = (rest ≡ []) × (end ≡ other)

-- A walk goes through these lines, and each trace that unfolds and begins with them goes on so.
pub record IsReached (sections : List SectionData) (memory : List RegionData) (regs : Regs)
    (lines : List FrameLine) (next : NextLine) : Type 0 where
  pub stands : StandsBefore sections memory regs lines next
  pub only : (trace : TraceData) (unfolds : Unfolds sections memory regs trace)
      (rest : List FrameLine) → trace.frames ≡ lines ++ rest
      → Continues unfolds.frames (length lines) trace.end rest next
