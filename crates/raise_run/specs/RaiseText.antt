-- The text of a raise.
use Rattle.std.specs.Prelude.{ℕ, List, ◌++◌, Option, Some, None, codes}
use Rattle.std.specs.Fmt.{decimal}
use Rattle.script_text.specs.Digits.{hex}
use Rattle.script_text.specs.Text.{frame_text, end_text, numbered}
use Rattle.raise_phases.specs.Raising.{RaisedData}
use Rattle.raise_phases.specs.declared.fault.LsdaFault.{LsdaFault}
use Rattle.raise_phases.specs.declared.fault.LsdaFault.TheVariants as fault
use Rattle.raise_phases.specs.declared.outcome.Verdict.{Verdict}
use Rattle.raise_phases.specs.declared.outcome.Verdict.TheVariants.{Terminate, Continue, Cleanup}
use Rattle.raise_phases.specs.declared.outcome.Verdict.TheVariants.{Handler}
use Rattle.raise_phases.specs.declared.raised.Phase.{Phase}
use Rattle.raise_phases.specs.declared.raised.RaiseEnd.{RaiseEnd}
use Rattle.raise_phases.specs.declared.raised.RaiseEnd.TheVariants as ends

abbrev pub verdict_text : Option Verdict → List ℕ
verdict_text None = codes "-"
verdict_text (Some Terminate) = codes "terminate"
verdict_text (Some Continue) = codes "continue"
verdict_text (Some (Cleanup pad)) = codes "cleanup " ++ hex pad
verdict_text (Some (Handler pad filter)) =
    codes "handler " ++ hex pad ++ codes " " ++ decimal filter

-- the line of a frame in a phase, which has this word; frames are counted from 0
abbrev pub phase_line : List ℕ → ℕ → Phase → List ℕ
phase_line word number phase =
    frame_text word number phase.line ++ codes " " ++ verdict_text phase.verdict ++ codes "\n"

-- the place of a table's fault
abbrev pub fault_place : LsdaFault → ℕ
fault_place (fault.Short at) = at
fault_place (fault.TooWide at) = at
fault_place (fault.Encoding at byte) = at
fault_place (fault.Filter at) = at
fault_place (fault.Chain at) = at
fault_place (fault.TypeEntry at) = at

abbrev pub raise_end_text : RaiseEnd → List ℕ
raise_end_text (ends.Uncaught e) = codes "uncaught " ++ end_text e
raise_end_text (ends.Terminate i) = codes "terminate " ++ decimal i
raise_end_text (ends.NoTable i) = codes "notable " ++ decimal i
raise_end_text (ends.BadTable i f) =
    codes "badtable " ++ decimal i ++ codes " at " ++ decimal (fault_place f)
raise_end_text (ends.Changed i first second) = codes "changed " ++ decimal i
raise_end_text (ends.Caught i pad filter) =
    codes "caught " ++ decimal i ++ codes " pad " ++ hex pad ++ codes " filter " ++ decimal filter

-- the last line
abbrev pub raise_end_line : RaiseEnd → List ℕ
raise_end_line end = codes "end " ++ raise_end_text end ++ codes "\n"

abbrev pub phases_text : List ℕ → List Phase → List ℕ
phases_text word phases = numbered (phase_line word) 0 phases

-- a line for each frame of the search, one for each of the cleanup, and how the raise ended
abbrev pub raised_text : RaisedData → List ℕ
raised_text raised =
    phases_text (codes "search") raised.search ++ phases_text (codes "cleanup") raised.cleanup
    ++ raise_end_line raised.end
