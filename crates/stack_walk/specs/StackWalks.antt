-- Walks along a stack: from a frame to its callers, with a line for each.
use Rattle.std.specs.Prelude.{◌≡◌, ℕ, Bool, List, [], ◌∷◌, Option, Some, None, slice_index}
use Rattle.frame_expr.specs.Regions.{RegionData}
use Rattle.frame_expr.specs.Registers.{stack_pointer_column, return_address_column}
use Rattle.frame_parse.specs.Sections.{SectionData, first_cover}
use Rattle.unwind_step.specs.Backtrace.{address_kind, lookup_address}
use Rattle.unwind_step.specs.Sources.{IsStepIn}
use Rattle.unwind_step.specs.declared.frame.Frame.{Frame}
use Rattle.unwind_step.specs.declared.next.Stepped.{Stepped}
use Rattle.unwind_step.specs.declared.next.Stepped.TheVariants as stepped
use Rattle.stack_walk.specs.Modules.{ModuleData, IsModuleStep}
use Rattle.stack_walk.specs.declared.modules.ModuleStep.TheVariants as steps
use Rattle.stack_walk.specs.declared.shown.ShownFrame.{ShownFrame}
use Rattle.stack_walk.specs.declared.shown.WalkEnd.{WalkEnd}
use Rattle.stack_walk.specs.declared.shown.WalkEnd.TheVariants.{NoModule, NoFde, Refused, NoRow}
use Rattle.stack_walk.specs.declared.shown.WalkEnd.TheVariants.{Undefined, NoBytes, Room}

-- where a frame is looked up
abbrev pub look_of : Frame → ℕ
look_of f = lookup_address f.address (slice_index f.regs.columns return_address_column)

-- the line that shows a frame
abbrev pub shown_as : Frame → ShownFrame
shown_as f = record {
  pc = slice_index f.regs.columns return_address_column;
  sp = slice_index f.regs.columns stack_pointer_column;
  address = f.address;
}

-- what comes of a frame by the section of its code
abbrev pub ComesBy : SectionData → List RegionData → Frame → Bool → Stepped → Type 0
ComesBy s memory f signal outcome = IsStepIn s (look_of f) f.regs.columns memory outcome signal

-- By the section of its code a frame becomes the one before; or it stays, and this is why.
abbrev pub GoesUp : SectionData → List RegionData → Frame → Option WalkEnd → Frame → Type 0
GoesUp s memory f None new =
    (signal : Bool) × ComesBy s memory f signal (stepped.Frame new.regs)
    × (new.address ≡ address_kind signal)
GoesUp s memory f (Some NoModule) new = ⊥
GoesUp s memory f (Some NoFde) new = (new ≡ f) × (first_cover (look_of f) s.fdes ≡ None)
GoesUp s memory f (Some Refused) new = ⊥
GoesUp s memory f (Some NoRow) new =
    (new ≡ f) × ((signal : Bool) × ComesBy s memory f signal stepped.NoRow)
GoesUp s memory f (Some Undefined) new =
    (new ≡ f) × ((signal : Bool) × ComesBy s memory f signal stepped.Undefined)
GoesUp s memory f (Some (NoBytes a)) new =
    (new ≡ f) × ((signal : Bool) × ComesBy s memory f signal (stepped.NoBytes a))
GoesUp s memory f (Some Room) new = ⊥

-- what comes of a frame by the module of its address
abbrev pub ComesOf : List ModuleData → List RegionData → Frame → Bool → Stepped → Type 0
ComesOf ms memory f signal outcome =
    IsModuleStep ms (look_of f) f.regs.columns memory
    (steps.Found (record { outcome = outcome; signal = signal }))

-- the frame before; whose CIE says that it is a signal's, was interrupted, and did not call
pub record StepsTo (ms : List ModuleData) (memory : List RegionData) (f next : Frame)
    : Type 0 where
  pub signal : Bool
  pub comes : ComesOf ms memory f signal (stepped.Frame next.regs)
  pub kind : next.address ≡ address_kind signal

-- why a walk ends with a frame, and the frame at which it stands then: the same, but where there is
-- another and no room for its line
abbrev pub EndsWalk : List ModuleData → List RegionData → Frame → WalkEnd → Frame → Type 0
EndsWalk ms memory f NoModule stands =
    (stands ≡ f) × IsModuleStep ms (look_of f) f.regs.columns memory steps.NoModule
EndsWalk ms memory f NoFde stands =
    (stands ≡ f) × IsModuleStep ms (look_of f) f.regs.columns memory steps.NoFde
EndsWalk ms memory f Refused stands =
    (stands ≡ f) × IsModuleStep ms (look_of f) f.regs.columns memory steps.Refused
EndsWalk ms memory f NoRow stands =
    (stands ≡ f) × ((signal : Bool) × ComesOf ms memory f signal stepped.NoRow)
EndsWalk ms memory f Undefined stands =
    (stands ≡ f) × ((signal : Bool) × ComesOf ms memory f signal stepped.Undefined)
EndsWalk ms memory f (NoBytes a) stands =
    (stands ≡ f) × ((signal : Bool) × ComesOf ms memory f signal (stepped.NoBytes a))
EndsWalk ms memory f Room stands = StepsTo ms memory f stands

-- A walk from a frame has these lines, of which each shows its frame and each further frame is the
-- one before; it ends so with the last of them.
abbrev pub WalksStack
    : List ModuleData → List RegionData → Frame → List ShownFrame → WalkEnd → Frame → Type 0
WalksStack ms memory f [] end stands = ⊥
WalksStack ms memory f (l ∷ []) end stands = (l ≡ shown_as f) × EndsWalk ms memory f end stands
WalksStack ms memory f (l ∷ k ∷ ls) end stands =
    (l ≡ shown_as f)
    × ((next : Frame) × StepsTo ms memory f next × WalksStack ms memory next (k ∷ ls) end stands)
