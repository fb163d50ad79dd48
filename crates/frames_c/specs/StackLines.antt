-- Modules and walks over them, as C is told.
use Rattle.std.specs.Prelude.{◌≡◌, ℕ, zero, suc, ◌≤◌, List, [], ◌∷◌, ◌++◌, map}
use Rattle.frame_expr.specs.Regions.{RegionData}
use Rattle.stack_walk.specs.Modules.{ModuleData, IsModuleFault, modules_end}
use Rattle.stack_walk.specs.StackWalks.{WalksStack}
use Rattle.stack_walk.specs.declared.list.ModuleFault.{ModuleFault}
use Rattle.stack_walk.specs.declared.list.ModuleFault.TheVariants.{NotAbove, NoMemory}
use Rattle.stack_walk.specs.declared.shown.ShownFrame.{ShownFrame}
use Rattle.stack_walk.specs.declared.shown.WalkEnd.{WalkEnd}
use Rattle.stack_walk.specs.declared.shown.WalkEnd.TheVariants.{NoModule, NoFde, NoRow, Undefined}
use Rattle.stack_walk.specs.declared.shown.WalkEnd.TheVariants.{NoBytes, Refused, Room}
use Rattle.unwind_step.specs.declared.frame.Frame.{Frame}
use Rattle.frames_c.specs.FrameSteps.{address_told}
use Rattle.frames_c.specs.Held.{LoadedData}
use Rattle.frames_c.specs.declared.lines.FramesLine.{FramesLine}
use Rattle.frames_c.specs.declared.modules.ModuleRows.{ModuleRows}
use Rattle.frames_c.specs.declared.modules.ModuleRows.TheVariants.{Section, Table}
use Rattle.frames_c.specs.declared.step.FramesFrame.{FramesFrame}

-- ---- modules

-- the section whose frames a module's share tells, and what was refused in it
abbrev pub module_loaded : ModuleRows → LoadedData
module_loaded (Section loaded) = loaded
module_loaded (Table loaded) = loaded

-- code of a size from an address on, with that
abbrev pub module_with : ℕ → ℕ → LoadedData → ModuleData
module_with first size loaded = record {
  first = first;
  size = size;
  section = loaded.section;
  refused = loaded.refused;
}

-- why a module isn't added
abbrev pub module_fault_told : ModuleFault → ℕ
module_fault_told NoMemory = 1
module_fault_told NotAbove = 2

-- a module is added above the others, or refused and they stay as they were
abbrev pub AnswersModule : List ModuleData → ModuleData → ℕ → List ModuleData → Type 0
AnswersModule old m zero new = (modules_end old ≤ m.first) × (new ≡ old ++ m ∷ [])
AnswersModule old m (suc n) new =
    (f : ModuleFault) × IsModuleFault old m.first f × (module_fault_told f ≡ suc n) × (new ≡ old)

-- ---- walks

-- the frame that C's registers are
abbrev pub frame_given : FramesFrame → Frame
frame_given f = record {
  regs = record { columns = f.columns };
  address = address_told f.at_instruction;
}

-- the frame that a line shows
abbrev pub line_shown : FramesLine → ShownFrame
line_shown l = record { pc = l.pc; sp = l.sp; address = address_told l.at_instruction }

-- why there are no more lines; 0 is for a frame that has no line yet
abbrev pub walk_end_told : WalkEnd → ℕ
walk_end_told Room = 0
walk_end_told NoFde = 1
walk_end_told NoRow = 2
walk_end_told Undefined = 3
walk_end_told (NoBytes a) = 4
walk_end_told NoModule = 5
walk_end_told Refused = 6

-- the address at which eight bytes were wanted
abbrev pub missing_after : WalkEnd → ℕ → ℕ
missing_after (NoBytes a) missing = a
missing_after _ missing = missing

-- the lines are those of a walk from the frame before, and the frame afterwards is the one at which
-- it stands
pub record AnswersWalk (ms : List ModuleData) (memory : List RegionData) (old : FramesFrame)
    (lines : List FramesLine) (result : ℕ) (new : FramesFrame) : Type 0 where
  pub end : WalkEnd
  pub walks : WalksStack ms memory (frame_given old) (map line_shown lines) end (frame_given new)
  pub told : result ≡ walk_end_told end
  pub missing : new.missing ≡ missing_after end old.missing
