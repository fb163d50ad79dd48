-- The registry in which a script's stacks are raised.
use Rattle.std.proofs.Common.{◌≡◌, ℕ, ◌<◌, List, ◌++◌, length, map, All, Result, Ok, Err, IfOk, Some, slice_get, subst}
use Rattle.std.proofs.lemmas.List.Elements.{All-map, All-nil}
use Rattle.frame_expr.specs.declared.regs.Regs.{Regs}
use Rattle.frame_expr.specs.Regions.{RegionData}
use Rattle.frame_parse.specs.Sections.{SectionData}
use Rattle.reg_model.specs.PlainRegistryData.{PlainRegistryData}
use Rattle.reg_model.specs.SpanData.{SpanData}
use Rattle.reg_model.specs.State.{opening}
use Rattle.reg_model.specs.declared.answer.NoMemory.{NoMemory}
use Rattle.reg_model.specs.declared.span.Member.{Member}
use Rattle.unwind_step.specs.Finders.{AnswersPlainly, GoesThrough, HasPayloadsBelow, IsPlainPlace, PlainFinderData}
use Rattle.unwind_step.specs.declared.backtrace.FrameLine.{FrameLine}
use Rattle.script_text.specs.Lawful.{image_member}
use Rattle.script_text.specs.ScriptData.{AreFixed, ScriptData, SnapshotData}
use Rattle.raise_phases.specs.Raising.{EndsChanged, FoundAlike, RaisedData, RaiseUnfolds, lines_of}
use Rattle.raise_run.specs.RaiseOutcome.{IsRaise, fixed_registry}
use Rattle.raise_run.proofs.Steady.{found_alike}
use Rattle.raise_run.specs.declared.words.RaiseRequest.{RaiseRequest}

-- payloads are the images' numbers
pub fixed_below : (images : List SpanData) (fixed : List ℕ) (loads : ℕ) → AreFixed images fixed → HasPayloadsBelow (length images) (opening (map (image_member images) fixed) loads)
fixed_below images fixed loads are = record {
  registered = All-nil (λ (m : Member). m.payload < length images);
  loaded = All-nil (λ (m : Member). m.payload < length images);
  fixed = All-map (λ (m : Member). m.payload < length images) (image_member images) fixed are.named;
}

abbrev AreRight : PlainRegistryData → List FrameLine → Type 0
AreRight registry lines = All (λ line. IsPlainPlace registry line.look line.place) lines

-- what raises say of answers that don't change
abbrev Steady : Type 0
Steady = (sections : List SectionData) (memory : List RegionData) (regs : Regs) (kind : ℕ) (raised : RaisedData) → RaiseUnfolds sections memory regs kind raised → FoundAlike raised.search raised.cleanup → ¬ EndsChanged raised.end

-- a raise with a finder in that registry
pub raise_is : Steady → ((before end : PlainFinderData) (lines : List FrameLine) → GoesThrough AnswersPlainly before lines end → AreRight before.registry lines) → (script : ScriptData) (request : RaiseRequest) (snapshot : SnapshotData) (finder end : PlainFinderData) (result : Result RaisedData NoMemory) → slice_get script.snapshots request.snapshot ≡ Some snapshot → finder.registry ≡ fixed_registry script → IfOk result (RaiseUnfolds script.sections snapshot.memory snapshot.regs request.kind) → IfOk result (λ r. GoesThrough AnswersPlainly finder (lines_of r.search ++ lines_of r.cleanup) end) → IfOk result (IsRaise script request)
raise_is steady law script request snapshot finder end (Ok raised) named opened unfolds goes =
    let lines = lines_of raised.search ++ lines_of raised.cleanup in
    let right : AreRight (fixed_registry script) lines = subst (λ (r : PlainRegistryData). AreRight r lines) opened (law finder end lines goes) in
    record {
      snapshot = snapshot;
      named = named;
      unfolds = unfolds;
      right = right;
      unchanged = steady script.sections snapshot.memory snapshot.regs request.kind raised unfolds (found_alike (fixed_registry script) raised.search raised.cleanup right);
    }
raise_is steady law script request snapshot finder end (Err e) named opened unfolds goes = tt
