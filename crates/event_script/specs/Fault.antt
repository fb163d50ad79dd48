-- What the reader's faults say.
use Rattle.std.specs.Prelude.{◌≡◌, List, ℕ, Result, Ok, Err}
use Rattle.event_script.specs.declared.reader.fault.ScriptFault.{ScriptFault}
use Rattle.event_script.specs.declared.reader.fault.ScriptFault.TheVariants.{Bad, NoMemory}
use Rattle.event_script.specs.Draft.{DraftData}
use Rattle.event_script.specs.Refusal.{IsFirstBad}
use Rattle.event_script.specs.Reading.{BadLine, IsOfBytes}

-- A bad line is the first one; of want of memory nothing is said.
abbrev pub Tells : List ℕ → ScriptFault → Type 0
Tells bytes (Bad line reason) = IsFirstBad bytes line reason
Tells bytes NoMemory = Unit {0}

-- The reason is one of the script's bytes: want of memory has a fault of its own, also where a
-- section wants it.
abbrev pub IsOfScript : ScriptFault → Type 0
IsOfScript (Bad line reason) = IsOfBytes reason
IsOfScript NoMemory = Unit {0}

-- what was returned is what the lines give, unless memory ran out
abbrev pub FailsAt : ScriptFault → Result DraftData BadLine → Type 0
FailsAt (Bad line reason) given =
    (given ≡ Err (record { line = line; reason = reason })) × IsOfBytes reason
FailsAt NoMemory given = Unit {0}

abbrev pub GivesDraft : Result DraftData ScriptFault → Result DraftData BadLine → Type 0
GivesDraft (Ok known) given = given ≡ Ok known
GivesDraft (Err fault) given = FailsAt fault given

-- the same of a reader that changes the draft in its place
abbrev pub LeavesLine : {A : Type 0} → DraftData → Result A ScriptFault → Result DraftData BadLine
    → Type 0
LeavesLine now (Ok x) given = given ≡ Ok now
LeavesLine now (Err fault) given = FailsAt fault given
