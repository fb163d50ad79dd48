-- Walks along a stack, from the recorded frame to its callers.
use Rattle.std.specs.Prelude.{◌≡◌, ◌⊎◌, ◌-◌, ◌<◌, ◌≤◌, List, [], length, Some, slice_get}
use Rattle.frame_expr.specs.declared.regs.Regs.{Regs}
use Rattle.frame_expr.specs.Regions.{RegionData}
use Rattle.frame_parse.specs.Sections.{SectionData}
use Rattle.unwind_step.specs.Backtrace.{AreFrames, IsBelow, IsCallingFrame, IsEnd, innermost}
use Rattle.unwind_step.specs.declared.backtrace.End.{End}
use Rattle.unwind_step.specs.declared.backtrace.FrameLine.{FrameLine}
use Rattle.unwind_step.specs.declared.frame.Frame.{Frame}

-- what a contract sees of a walk: the images' sections, the recorded memory and registers, the
-- frame at which it stands, and the lines of the frames that were asked for
pub record WalkData : Type 0 where
  pub sections : List SectionData
  pub memory : List RegionData
  pub regs : Regs
  pub frame : Frame
  pub lines : List FrameLine

-- The frame at which a walk stands was asked for: there are frames for the walk's lines, and it is
-- the last of them. The place of its line has a payload that is the number of a section.
pub record IsAsked (walk : WalkData) : Type 0 where
  pub frames : List Frame
  pub are_frames : AreFrames walk.sections walk.memory walk.regs frames walk.lines
  pub last_frame : slice_get frames (length frames - 1) ≡ Some walk.frame
  pub line : FrameLine
  pub last_line : slice_get walk.lines (length walk.lines - 1) ≡ Some line
  pub below : IsBelow (length walk.sections) line.place
  pub count : length walk.lines ≤ 256

-- a walk stands at the recorded frame, and has no line
pub record IsAtStart (walk : WalkData) : Type 0 where
  pub frame : walk.frame ≡ innermost walk.regs
  pub lines : walk.lines ≡ []

-- a walk stands at the caller of the last frame that was asked for
pub record IsAtCaller (walk : WalkData) : Type 0 where
  pub callee : Frame
  pub asked : IsAsked (record walk { frame = callee })
  pub calls : IsCallingFrame walk.sections walk.memory callee asked.line walk.frame

-- the frame at which a walk stands is to be asked for, and there is room for its line
pub record IsUnasked (walk : WalkData) : Type 0 where
  pub stands : IsAtStart walk ⊎ IsAtCaller walk
  pub room : length walk.lines < 256

-- a walk ends with the frame at which it stands, for this reason
pub record IsWalked (walk : WalkData) (end : End) : Type 0 where
  pub asked : IsAsked walk
  pub ends : IsEnd walk.sections walk.memory (length walk.lines) walk.frame asked.line end
