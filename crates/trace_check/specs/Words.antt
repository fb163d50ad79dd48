-- Numbers of 64 bits.
use Rattle.std.specs.Prelude.{ℕ, ◌^◌, ◌<◌, List, All, Result, Ok, Err, slice_index}
use Rattle.hex.specs.Hex.{IsBytes}
use Rattle.frame_expr.specs.Regions.{RegionData}
use Rattle.frame_expr.specs.declared.fault.NoBytes as faults
use Rattle.unwind_step.specs.Backtrace.{TraceData}
use Rattle.unwind_step.specs.declared.backtrace.End.{End}
use Rattle.unwind_step.specs.declared.backtrace.End.TheVariants.{NoBytes}
use Rattle.unwind_step.specs.declared.backtrace.FrameLine.{FrameLine}

-- all numbers of a list have 64 bits; past its end there are none but 0
abbrev pub AreWords : List ℕ → Type 0
AreWords xs = (i : ℕ) → slice_index xs i < 2 ^ 64

-- the recorded bytes are bytes
abbrev pub HoldBytes : List RegionData → Type 0
HoldBytes memory = All (λ region. IsBytes region.bytes) memory

-- a number that was worked out, or the address at which none was recorded, has 64 bits
abbrev pub HasWord : Result ℕ faults.NoBytes → Type 0
HasWord (Ok n) = n < 2 ^ 64
HasWord (Err fault) = fault.address < 2 ^ 64

-- what each line of a trace shows has 64 bits
pub record IsWordLine (line : FrameLine) : Type 0 where
  pub pc : line.pc < 2 ^ 64
  pub sp : line.sp < 2 ^ 64
  pub look : line.look < 2 ^ 64

-- and so has the address of bytes that weren't recorded
abbrev pub IsWordEnd : End → Type 0
IsWordEnd (NoBytes address) = address < 2 ^ 64
IsWordEnd _ = Unit {0}

pub record HasWords (trace : TraceData) : Type 0 where
  pub frames : All IsWordLine trace.frames
  pub end : IsWordEnd trace.end
