-- What a table of call sites says of an exception, as C is told.
use Rattle.std.specs.Prelude.{ℕ, List, Result, Ok, Err, nat_le, if◌then◌else◌}
use Rattle.raise_phases.specs.Verdicts.{verdict_of}
use Rattle.raise_phases.specs.declared.fault.LsdaFault.{LsdaFault}
use Rattle.raise_phases.specs.declared.fault.LsdaFault.TheVariants as faults
use Rattle.raise_phases.specs.declared.outcome.Verdict.{Verdict}
use Rattle.raise_phases.specs.declared.outcome.Verdict.TheVariants as verdicts
use Rattle.frames_c.specs.declared.call_sites.FramesVerdict.{FramesVerdict}

-- where an exception goes on, with the pad and the filter, if it has these
abbrev pub verdict_numbers : ℕ → ℕ → ℕ → FramesVerdict
verdict_numbers outcome pad filter =
    record { outcome = outcome; pad = pad; filter = filter; at = 0; byte = 0 }

-- why the table has no verdict, with the place that is refused, and the byte, if one is
abbrev pub fault_numbers : ℕ → ℕ → ℕ → FramesVerdict
fault_numbers outcome at byte =
    record { outcome = outcome; pad = 0; filter = 0; at = at; byte = byte }

abbrev pub call_sites_told : Result Verdict LsdaFault → FramesVerdict
call_sites_told (Ok verdicts.Continue) = verdict_numbers 0 0 0
call_sites_told (Ok (verdicts.Cleanup pad)) = verdict_numbers 1 pad 0
call_sites_told (Ok (verdicts.Handler pad filter)) = verdict_numbers 2 pad filter
call_sites_told (Ok verdicts.Terminate) = verdict_numbers 3 0 0
call_sites_told (Err (faults.Short at)) = fault_numbers 4 at 0
call_sites_told (Err (faults.TooWide at)) = fault_numbers 5 at 0
call_sites_told (Err (faults.Encoding at byte)) = fault_numbers 6 at byte
call_sites_told (Err (faults.Filter at)) = fault_numbers 7 at 0
call_sites_told (Err (faults.Chain at)) = fault_numbers 8 at 0
call_sites_told (Err (faults.TypeEntry at)) = fault_numbers 9 at 0

-- the table's verdict on an address, of a function that starts at `first`; 10 is for an address
-- below that
abbrev pub verdict_told_at : ℕ → ℕ → List ℕ → ℕ → ℕ → FramesVerdict
verdict_told_at first address bytes look kind =
    if nat_le first look then call_sites_told (verdict_of first address bytes look kind)
    else fault_numbers 10 0 0
