-- A library that is made for C, or why it isn't.
use Rattle.std.specs.Prelude.{◌≡◌, ℕ, ◌-◌, ◌^◌, false, [], Option, Some, None, Result, Ok, Err}
use Rattle.c_handle.specs.Limits.{MayHaveSize, IsTooFewOrMany, size_told}
use Rattle.fde_writer.specs.Outcomes.{updates_now}
use Rattle.fde_writer.specs.Sections.{FdeWriterData}
use Rattle.word_rule.specs.Places.{ALLOWANCE}
use Rattle.unwind_c.specs.declared.limits.NewFault.{NewFault}
use Rattle.unwind_c.specs.declared.limits.NewFault.TheVariants.{NoMemory, Size}
use Rattle.unwind_c.specs.declared.limits.UnwindLimits.{UnwindLimits}

-- the writer of a new library, in which nothing stands; it has all update calls
pub record IsNewWriter (l : UnwindLimits) (u : FdeWriterData) : Type 0 where
  pub terms : u.client.words.terms ≡ record {
    nodes = l.nodes;
    loads = l.loads;
    payloads = 2 ^ 32 - 1;
    fixed = [];
  }
  pub low : u.low ≡ l.low
  pub stands : u.stands ≡ []
  pub ever : u.ever ≡ []
  pub none : updates_now u ≡ 0
  pub left : u.client.me.left ≡ ALLOWANCE
  pub free : u.client.stuck ≡ false

-- A library was made; or the first thing that stands against it is this one. That memory ran out
-- says nothing.
abbrev pub IsNewLibrary : UnwindLimits → Result FdeWriterData NewFault → Type 0
IsNewLibrary l (Ok u) = MayHaveSize l.nodes l.loads × IsNewWriter l u
IsNewLibrary l (Err NoMemory) = Unit {0}
IsNewLibrary l (Err (Size fault)) = IsTooFewOrMany l.nodes l.loads fault

-- what C is told of it, and what its handle leads to
abbrev pub library_told : Result FdeWriterData NewFault → ℕ
library_told (Ok u) = 0
library_told (Err NoMemory) = 1
library_told (Err (Size fault)) = size_told fault

abbrev pub library_held : Result FdeWriterData NewFault → Option FdeWriterData
library_held (Ok u) = Some u
library_held (Err fault) = None

-- C has the handle, or why there is none.
abbrev pub TellsNewLibrary : UnwindLimits → ℕ → Option FdeWriterData → Type 0
TellsNewLibrary l told held = (result : Result FdeWriterData NewFault)
    × IsNewLibrary l result × (told ≡ library_told result) × (held ≡ library_held result)
