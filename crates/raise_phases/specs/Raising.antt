-- Raises in two phases: the search for a handler, and the cleanup, which asks again for each frame
-- up to the handler's.
use Rattle.std.specs.Prelude.{◌≡◌, ◌⊎◌, ℕ, ◌+◌, ◌-◌, ◌<◌, ◌≤◌, List, [], ◌∷◌, ◌++◌, length, map}
use Rattle.std.specs.Prelude.{All, take, Option, Some, None, Result, Ok, Err, slice_get}
use Rattle.std.specs.List.{AllZip, Contains}
use Rattle.frame_expr.specs.declared.regs.Regs.{Regs}
use Rattle.frame_expr.specs.Regions.{RegionData, tail_at}
use Rattle.frame_parse.specs.Sections.{SectionData, FdeData}
use Rattle.reg_model.specs.declared.answer.Place.{Place}
use Rattle.unwind_step.specs.Backtrace.{AreFrames, IsEnd, fde_of, hit_of}
use Rattle.unwind_step.specs.declared.backtrace.FrameLine.{FrameLine}
use Rattle.unwind_step.specs.declared.frame.Frame.{Frame}
use Rattle.raise_phases.specs.Verdicts.{verdict_of}
use Rattle.raise_phases.specs.declared.fault.LsdaFault.{LsdaFault}
use Rattle.raise_phases.specs.declared.judgement.Judgement.{Judgement}
use Rattle.raise_phases.specs.declared.judgement.Judgement.TheVariants as judgements
use Rattle.raise_phases.specs.declared.judgement.SearchEnd.{SearchEnd}
use Rattle.raise_phases.specs.declared.judgement.SearchEnd.TheVariants as searches
use Rattle.raise_phases.specs.declared.outcome.Verdict.{Verdict}
use Rattle.raise_phases.specs.declared.outcome.Verdict.TheVariants as verdicts
use Rattle.raise_phases.specs.declared.raised.Phase.{Phase}
use Rattle.raise_phases.specs.declared.raised.RaiseEnd.{RaiseEnd}
use Rattle.raise_phases.specs.declared.raised.RaiseEnd.TheVariants as ends

-- what a contract sees of a raise: what the search and the cleanup met, the innermost frame first,
-- and how the raise ended
pub record RaisedData : Type 0 where
  pub search : List Phase
  pub cleanup : List Phase
  pub end : RaiseEnd

-- ---- what is told of a frame

abbrev pub told_verdict : Result Verdict LsdaFault → Judgement
told_verdict (Ok v) = judgements.Told v
told_verdict (Err f) = judgements.BadTable f

-- the verdict of the table at an address, where its bytes were recorded
abbrev pub judged_by : ℕ → ℕ → ℕ → ℕ → Option (List ℕ) → Judgement
judged_by first table look kind None = judgements.NoTable
judged_by first table look kind (Some bytes) =
    told_verdict (verdict_of first table bytes look kind)

-- a function without a table lets everything pass
abbrev pub judged_in : List RegionData → ℕ → ℕ → ℕ → Option ℕ → Judgement
judged_in memory kind look first None = judgements.Told verdicts.Continue
judged_in memory kind look first (Some table) =
    judged_by first table look kind (tail_at table memory)

abbrev pub judged_at : List RegionData → ℕ → ℕ → Option FdeData → Judgement
judged_at memory kind look None = judgements.Unknown
judged_at memory kind look (Some fde) =
    judged_in memory kind look fde.entry.first fde.entry.lsda

-- what the table of the function whose frame a line shows says of an exception of a kind
unfoldable pub judged : List SectionData → List RegionData → ℕ → FrameLine → Judgement
judged sections memory kind line = judged_at memory kind line.look (fde_of sections line)

-- ---- phases

abbrev pub verdict_told : Judgement → Option Verdict
verdict_told (judgements.Told v) = Some v
verdict_told judgements.Unknown = None
verdict_told judgements.NoTable = None
verdict_told (judgements.BadTable f) = None

abbrev pub lines_of : List Phase → List FrameLine
lines_of phases = map (λ p. p.line) phases

-- both places found the same member, in whichever half, or none
abbrev pub FoundSame : Place → Place → Type 0
FoundSame first second = hit_of first ≡ hit_of second

-- a frame in the cleanup as in the search, with the second answer for its place
pub record Repeats (first second : Phase) : Type 0 where
  pub line : second.line ≡ record first.line { place = second.line.place }
  pub verdict : second.verdict ≡ first.verdict
  pub same : FoundSame first.line.place second.line.place

-- a frame in the cleanup whose second answer was another member than the first, or none where there
-- was one, or one where there was none
pub record Departs (first second : Phase) : Type 0 where
  pub line : second.line ≡ record first.line { place = second.line.place }
  pub verdict : second.verdict ≡ None
  pub other : ¬ FoundSame first.line.place second.line.place

-- the cleanup repeats the search up to frame i, for which the second answer differs
pub record IsChange (i : ℕ) (search cleanup : List Phase) (first second : Place) : Type 0 where
  pub searched : Phase
  pub before : slice_get search i ≡ Some searched
  pub repeated : List Phase
  pub repeats : AllZip Repeats (take i search) repeated
  pub asked : Phase
  pub all : cleanup ≡ repeated ++ asked ∷ []
  pub differs : Departs searched asked
  pub first_is : first ≡ searched.line.place
  pub second_is : second ≡ asked.line.place

-- ---- the search

-- the table lets the exception pass, or nothing is known of one
abbrev pub Passes : Judgement → Type 0
Passes judgements.Unknown = Unit {0}
Passes (judgements.Told verdicts.Continue) = Unit {0}
Passes (judgements.Told (verdicts.Cleanup pad)) = Unit {0}
Passes (judgements.Told verdicts.Terminate) = ⊥
Passes (judgements.Told (verdicts.Handler pad filter)) = ⊥
Passes judgements.NoTable = ⊥
Passes (judgements.BadTable f) = ⊥

-- how the table of frame i ends a search
abbrev pub StopsFailed : Judgement → ℕ → RaiseEnd → Type 0
StopsFailed judgement i (ends.Uncaught e) = ⊥
StopsFailed judgement i (ends.Terminate k) =
    (judgement ≡ judgements.Told verdicts.Terminate) × (k ≡ i)
StopsFailed judgement i (ends.NoTable k) = (judgement ≡ judgements.NoTable) × (k ≡ i)
StopsFailed judgement i (ends.BadTable k f) = (judgement ≡ judgements.BadTable f) × (k ≡ i)
StopsFailed judgement i (ends.Changed k first second) = ⊥
StopsFailed judgement i (ends.Caught k pad filter) = ⊥

abbrev pub StopsWith : Judgement → ℕ → SearchEnd → Type 0
StopsWith judgement i (searches.Handler k pad filter) =
    (judgement ≡ judgements.Told (verdicts.Handler pad filter)) × (k ≡ i)
StopsWith judgement i (searches.Failed end) = StopsFailed judgement i end

-- how a search of so many frames ends with its last one: as a backtrace, where its table lets the
-- exception pass, or by its table
abbrev pub IsFailure : List SectionData → List RegionData → ℕ → ℕ → Frame → FrameLine → RaiseEnd
    → Type 0
IsFailure sections memory kind count frame line (ends.Uncaught e) =
    Passes (judged sections memory kind line) × IsEnd sections memory count frame line e
IsFailure sections memory kind count frame line end =
    StopsFailed (judged sections memory kind line) (count - 1) end

abbrev pub IsSearchEnd : List SectionData → List RegionData → ℕ → ℕ → Frame → FrameLine
    → SearchEnd → Type 0
IsSearchEnd sections memory kind count frame line (searches.Handler k pad filter) =
    StopsWith (judged sections memory kind line) (count - 1) (searches.Handler k pad filter)
IsSearchEnd sections memory kind count frame line (searches.Failed end) =
    IsFailure sections memory kind count frame line end

-- A search unfolds: there are frames for its lines, at most 256; each verdict is that of the
-- frame's table; the tables of all frames before the last let the exception pass; and the search
-- ends as the last frame has it.
pub record SearchUnfolds (sections : List SectionData) (memory : List RegionData) (regs : Regs)
    (kind : ℕ) (search : List Phase) (end : SearchEnd) : Type 0 where
  pub frames : List Frame
  pub are_frames : AreFrames sections memory regs frames (lines_of search)
  pub count : length search ≤ 256
  pub are_judged : All (λ p. p.verdict ≡ verdict_told (judged sections memory kind p.line)) search
  pub passed : (i : ℕ) (phase : Phase) → i + 1 < length search → slice_get search i ≡ Some phase
      → Passes (judged sections memory kind phase.line)
  pub ends : (i : ℕ) (frame : Frame) (phase : Phase) → i + 1 ≡ length search
      → slice_get frames i ≡ Some frame → slice_get search i ≡ Some phase
      → IsSearchEnd sections memory kind (length search) frame phase.line end

-- ---- whole raises

-- all second answers were the same members, so the frame that the search found catches
pub record IsCaught (raised : RaisedData) (i pad filter : ℕ) : Type 0 where
  pub end : raised.end ≡ ends.Caught i pad filter
  pub repeats : AllZip Repeats raised.search raised.cleanup

-- one second answer differs, with which the raise ends
pub record IsChanged (raised : RaisedData) : Type 0 where
  pub i : ℕ
  pub first : Place
  pub second : Place
  pub end : raised.end ≡ ends.Changed i first second
  pub change : IsChange i raised.search raised.cleanup first second

-- what comes of a search: a cleanup where it found a handler, and else none
abbrev pub EndsRaise : RaisedData → SearchEnd → Type 0
EndsRaise raised (searches.Handler i pad filter) =
    IsCaught raised i pad filter ⊎ IsChanged raised
EndsRaise raised (searches.Failed end) = (raised.end ≡ end) × (raised.cleanup ≡ [])

-- a raise unfolds: its search does, and it ends as the search and the second answers have it
pub record RaiseUnfolds (sections : List SectionData) (memory : List RegionData) (regs : Regs)
    (kind : ℕ) (raised : RaisedData) : Type 0 where
  pub end : SearchEnd
  pub search : SearchUnfolds sections memory regs kind raised.search end
  pub ends : EndsRaise raised end

-- ---- answers that don't change

-- both phases found the same member wherever they asked for one address
abbrev pub FoundAlike : List Phase → List Phase → Type 0
FoundAlike search cleanup = (first second : Phase) → Contains search first → Contains cleanup second
    → second.line.look ≡ first.line.look → FoundSame first.line.place second.line.place

-- the raise ended with a frame for which the second answer was another
abbrev pub EndsChanged : RaiseEnd → Type 0
EndsChanged (ends.Uncaught e) = ⊥
EndsChanged (ends.Terminate i) = ⊥
EndsChanged (ends.NoTable i) = ⊥
EndsChanged (ends.BadTable i f) = ⊥
EndsChanged (ends.Changed i first second) = Unit {0}
EndsChanged (ends.Caught i pad filter) = ⊥
