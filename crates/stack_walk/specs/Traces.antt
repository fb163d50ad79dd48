-- Walks beside backtraces.
use Rattle.std.specs.Prelude.{◌≡◌, List, Option, None, Some, MatchOption, slice_get}
use Rattle.unwind_step.specs.Backtrace.{hit_of, lookup_address}
use Rattle.unwind_step.specs.declared.backtrace.End.{End}
use Rattle.unwind_step.specs.declared.backtrace.End.TheVariants as ends
use Rattle.unwind_step.specs.declared.backtrace.FrameLine.{FrameLine}
use Rattle.stack_walk.specs.Modules.{ModuleData, module_at}
use Rattle.stack_walk.specs.declared.shown.ShownFrame.{ShownFrame}
use Rattle.stack_walk.specs.declared.shown.WalkEnd.{WalkEnd}
use Rattle.stack_walk.specs.declared.shown.WalkEnd.TheVariants.{NoModule, NoFde, Refused, NoRow}
use Rattle.stack_walk.specs.declared.shown.WalkEnd.TheVariants.{Undefined, NoBytes, Room}

-- the place of a line is a hit of the number of its module, and a miss where no module has it
abbrev pub HitsModule : List ModuleData → FrameLine → Type 0
HitsModule ms line = MatchOption (hit_of line.place) (module_at line.look ms ≡ None)
    (λ member. (m : ModuleData) × (slice_get ms member.payload ≡ Some m)
    × (module_at line.look ms ≡ Some m))

-- the line of a backtrace tells of a frame what that of a walk does
pub record TellsSame (ms : List ModuleData) (shown : ShownFrame) (line : FrameLine)
    : Type 0 where
  pub pc : line.pc ≡ shown.pc
  pub sp : line.sp ≡ shown.sp
  pub look : line.look ≡ lookup_address shown.address shown.pc
  pub place : HitsModule ms line

-- why a backtrace ends where a walk does; none does where a refused record answers
abbrev pub end_as : WalkEnd → Option End
end_as NoModule = Some ends.NoObject
end_as NoFde = Some ends.NoFde
end_as Refused = None
end_as NoRow = Some ends.NoRow
end_as Undefined = Some ends.Undefined
end_as (NoBytes a) = Some (ends.NoBytes a)
end_as Room = Some ends.Long
