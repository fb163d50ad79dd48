-- Lawful journals: what the answers to a script's events may be.
use Rattle.std.specs.Prelude.{◌≡◌, ℕ, ◌+◌, ◌≤◌, List, [], ◌∷◌, length, map, Some, is_some, All}
use Rattle.std.specs.Prelude.{count_by, slice_get}
use Rattle.std.specs.List.{AllZip, flat_map}
use Rattle.reg_model.specs.SpanData.{SpanData}
use Rattle.reg_model.specs.State.{State, opening}
use Rattle.reg_model.specs.History.{IsHistory}
use Rattle.reg_model.specs.Receipt.{moment, accepted, AllHold, AreInOrder, IsPlace}
use Rattle.reg_model.specs.Receipt.{receipts_of_place}
use Rattle.reg_model.specs.Numbers.{AreNumbered, history_of}
use Rattle.reg_model.specs.declared.span.Member.{Member}
use Rattle.reg_model.specs.declared.answer.Update.{Update}
use Rattle.reg_model.specs.declared.answer.Receipt.{Receipt}
use Rattle.reg_model.specs.declared.answer.Receipt.TheVariants as receipt
use Rattle.frame_parse.specs.Sections.{SectionData}
use Rattle.unwind_step.specs.Backtrace.{Unfolds}
use Rattle.unwind_step.specs.declared.backtrace.FrameLine.{FrameLine}
use Rattle.script_text.specs.ScriptData.{ScriptData, SnapshotData, span_of}
use Rattle.script_text.specs.JournalData.{JournalData}
use Rattle.script_text.specs.declared.script.Event.{Event}
use Rattle.script_text.specs.declared.script.Event.TheVariants as event
use Rattle.script_text.specs.declared.journal.Answer.{Answer}
use Rattle.script_text.specs.declared.journal.Answer.TheVariants.{Register, Deregister, Replace}
use Rattle.script_text.specs.declared.journal.Answer.TheVariants.{Load, Unload, Find, Unwind}

-- the member that is meant by the number of an image
abbrev pub image_member : List SpanData → ℕ → Member
image_member images image = record { span = span_of images image; payload = image }

-- the answer is of the event's kind, with its image, base, address or snapshot
abbrev pub AnswersEvent : Event → Answer → Type 0
AnswersEvent (event.Register image) (Register asked answer) = asked ≡ image
AnswersEvent (event.Deregister base) (Deregister asked answer) = asked ≡ base
AnswersEvent (event.Replace image) (Replace asked answer) = asked ≡ image
AnswersEvent (event.Load image) (Load asked answer) = asked ≡ image
AnswersEvent (event.Unload base) (Unload asked answer) = asked ≡ base
AnswersEvent (event.Find pc) (Find asked place) = (asked ≡ pc) × IsPlace place
AnswersEvent (event.Unwind snapshot) (Unwind asked trace) =
    (asked ≡ snapshot) × All (λ line. IsPlace line.place) trace.frames
AnswersEvent _ _ = ⊥

-- the receipts of the places of a trace, in order
abbrev pub receipts_of_trace : List FrameLine → List Receipt
receipts_of_trace frames = flat_map (λ line. receipts_of_place line.look line.place) frames

-- the receipts of an event: that of its update, or those of its place or of its trace's places
abbrev pub receipts_of : List SpanData → Answer → List Receipt
receipts_of images (Register image answer) =
    receipt.Register (image_member images image) answer ∷ []
receipts_of images (Deregister base answer) = receipt.Deregister base answer ∷ []
receipts_of images (Replace image answer) =
    receipt.Replace (image_member images image) answer ∷ []
receipts_of images (Load image answer) = receipt.Load (image_member images image) answer ∷ []
receipts_of images (Unload base answer) = receipt.Unload base answer ∷ []
receipts_of images (Find pc place) = receipts_of_place pc place
receipts_of images (Unwind snapshot trace) = receipts_of_trace trace.frames

-- the receipts of each thread, by round
abbrev pub thread_receipts : List SpanData → JournalData → List (List (List Receipt))
thread_receipts images journal =
    map (λ round. map (λ answers. flat_map (receipts_of images) answers) round) journal.rounds

-- all of them, in order of round and thread
abbrev pub in_one : List (List (List Receipt)) → List Receipt
in_one rounds = flat_map (λ round. flat_map (λ receipts. receipts) round) rounds

-- how many updates were made when a round ended before which so many were
abbrev pub done_after : ℕ → List (List Receipt) → ℕ
done_after done round =
    done + count_by (λ r. is_some (accepted r)) (flat_map (λ receipts. receipts) round)

-- Each receipt holds, and stamps and numbers rise along each thread. The list of a round's thread
-- begins with the number of updates that were done in the rounds before, so a Full looks back no
-- further than that. A round's callers are the first one, and one for each thread so far.
abbrev pub RoundsHold : State → List Update → ℕ → ℕ → ℕ → List (List (List Receipt)) → Type 0
RoundsHold start history nodes callers done [] = Unit {0}
RoundsHold start history nodes callers done (round ∷ rounds) =
    All (λ receipts. AllHold start history nodes (callers + length round) done receipts
    × AreInOrder done receipts) round
    × RoundsHold start history nodes (callers + length round) (done_after done round) rounds

-- each stamp and number is between the updates of the rounds before, and those with this round's
abbrev pub AreInRounds : ℕ → List (List (List Receipt)) → Type 0
AreInRounds done [] = Unit {0}
AreInRounds done (round ∷ rounds) =
    All (λ r. (done ≤ moment r) × (moment r ≤ done_after done round))
    (flat_map (λ receipts. receipts) round)
    × AreInRounds (done_after done round) rounds

-- the members that the loader has for good
abbrev pub fixed_members : ScriptData → List Member
fixed_members script = map (image_member script.images) script.fixed

-- what the registry of a script is at first: nothing but the fixed images
abbrev pub start_of : ScriptData → State
start_of script = opening (fixed_members script) script.loads

-- a trace unfolds from its snapshot and the images' sections
abbrev pub IsUnfolded : List SectionData → List SnapshotData → Answer → Type 0
IsUnfolded sections snapshots (Unwind number trace) =
    (snapshot : SnapshotData) × (slice_get snapshots number ≡ Some snapshot)
    × Unfolds sections snapshot.memory snapshot.regs trace
IsUnfolded sections snapshots _ = Unit {0}

-- A journal of the script may be this. Its history is read off its own numbers.
pub record IsLawfulJournal (script : ScriptData) (journal : JournalData) : Type 0 where
  pub answered : AllZip (AllZip (AllZip AnswersEvent)) script.rounds journal.rounds
  pub numbered : AreNumbered journal.updates (in_one (thread_receipts script.images journal))
  pub history : IsHistory (start_of script)
      (history_of (in_one (thread_receipts script.images journal)) journal.updates)
  pub receipts : RoundsHold (start_of script)
      (history_of (in_one (thread_receipts script.images journal)) journal.updates) script.nodes 1 0
      (thread_receipts script.images journal)
  pub rounds : AreInRounds 0 (thread_receipts script.images journal)
  pub unfolded : All (All (All (IsUnfolded script.sections script.snapshots))) journal.rounds
