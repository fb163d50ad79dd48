-- What is kept of answers, and what it tells beside their events and the images.
use Rattle.std.specs.Prelude.{ℕ, List, [], ◌∷◌, Some, None}
use Rattle.std.specs.List.{AllZip}
use Rattle.reg_model.specs.SpanData.{SpanData}
use Rattle.reg_model.specs.declared.answer.Found.TheVariants.{Hit, Miss}
use Rattle.reg_model.specs.declared.answer.Place.{Place}
use Rattle.reg_model.specs.declared.answer.Inserted.{Inserted}
use Rattle.reg_model.specs.declared.answer.Inserted.TheVariants as inserted
use Rattle.reg_model.specs.declared.answer.Loading.{Loading}
use Rattle.reg_model.specs.declared.answer.Loading.TheVariants as loading
use Rattle.reg_model.specs.declared.answer.Removed.{Removed}
use Rattle.reg_model.specs.declared.answer.Removed.TheVariants as removed
use Rattle.reg_model.specs.declared.answer.Replaced.{Replaced}
use Rattle.reg_model.specs.declared.answer.Replaced.TheVariants as replaced
use Rattle.frame_parse.specs.Sections.{SectionData}
use Rattle.script_text.specs.ScriptData.{ScriptData, SnapshotData}
use Rattle.script_text.specs.JournalData.{JournalData}
use Rattle.script_text.specs.Lawful.{IsLawfulJournal, image_member}
use Rattle.script_text.specs.Text.{IsPrintable}
use Rattle.script_text.specs.declared.script.Event.{Event}
use Rattle.script_text.specs.declared.script.Event.TheVariants.{Register, Deregister, Replace}
use Rattle.script_text.specs.declared.script.Event.TheVariants.{Load, Unload, Find, Unwind}
use Rattle.script_text.specs.declared.journal.Answer.{Answer}
use Rattle.script_text.specs.declared.journal.Answer.TheVariants as answer
use Rattle.run_engine.specs.Played.{IsPlayed, IsRightAnswer}
use Rattle.run_engine.specs.declared.kept.KeptAnswer.{KeptAnswer}
use Rattle.run_engine.specs.declared.kept.KeptAnswer.TheVariants.{Done, DoneWith, Overlap}
use Rattle.run_engine.specs.declared.kept.KeptAnswer.TheVariants.{Refused, Registered, Loaded}
use Rattle.run_engine.specs.declared.kept.KeptAnswer.TheVariants.{Nowhere, Whole}

-- the event that an answer is given to
abbrev pub event_of : Answer → Event
event_of (answer.Register image given) = Register image
event_of (answer.Deregister base given) = Deregister base
event_of (answer.Replace image given) = Replace image
event_of (answer.Load image given) = Load image
event_of (answer.Unload base given) = Unload base
event_of (answer.Find pc place) = Find pc
event_of (answer.Unwind snapshot trace) = Unwind snapshot

-- the answer to a registration that a short form tells
abbrev pub inserted_kept : List SpanData → KeptAnswer → Inserted
inserted_kept images (Done number) = inserted.Done number
inserted_kept images (Overlap image stamp) = inserted.Overlap (image_member images image) stamp
inserted_kept images (Refused stamp) = inserted.Full stamp
inserted_kept images _ = inserted.Spent

-- the answer to a load
abbrev pub loading_kept : List SpanData → KeptAnswer → Loading
loading_kept images (Done number) = loading.Done number
loading_kept images (Overlap image stamp) = loading.Overlap (image_member images image) stamp
loading_kept images (Refused stamp) = loading.LoadFull stamp
loading_kept images _ = loading.Spent

-- the answer to a removal from either half
abbrev pub removed_kept : List SpanData → KeptAnswer → Removed
removed_kept images (DoneWith number image) = removed.Done number (image_member images image)
removed_kept images (Refused stamp) = removed.NotFound stamp
removed_kept images _ = removed.Spent

-- the answer to a replacement
abbrev pub replaced_kept : KeptAnswer → Replaced
replaced_kept (DoneWith number image) = replaced.Done number image
replaced_kept (Refused stamp) = replaced.NotFound stamp
replaced_kept _ = replaced.Spent

-- the place where an address was found
abbrev pub place_kept : List SpanData → KeptAnswer → Place
place_kept images (Registered image stamp) = record {
  registered = Hit (image_member images image) stamp;
  loaded = None;
}
place_kept images (Loaded stamp image loaded) = record {
  registered = Miss stamp;
  loaded = Some (Hit (image_member images image) loaded);
}
place_kept images (Nowhere stamp loaded) = record {
  registered = Miss stamp;
  loaded = Some (Miss loaded);
}
place_kept images _ = record { registered = Miss 0; loaded = None }

-- What a short form tells; of a backtrace there is none, and so no answer to it.
abbrev pub short_told : List SpanData → Event → KeptAnswer → Answer
short_told images (Register image) kept = answer.Register image (inserted_kept images kept)
short_told images (Deregister base) kept = answer.Deregister base (removed_kept images kept)
short_told images (Replace image) kept = answer.Replace image (replaced_kept kept)
short_told images (Load image) kept = answer.Load image (loading_kept images kept)
short_told images (Unload base) kept = answer.Unload base (removed_kept images kept)
short_told images (Find pc) kept = answer.Find pc (place_kept images kept)
short_told images (Unwind snapshot) kept = answer.Register 0 inserted.Spent

-- the answer to an event, by what is kept of it
abbrev pub told : List SpanData → Event → KeptAnswer → Answer
told images event (Whole given) = given.value
told images event kept = short_told images event kept

-- what two lists give place by place, as far as both go
abbrev pub zip_with : {A B C : Type 0} → (A → B → C) → List A → List B → List C
zip_with f xs [] = []
zip_with f [] (y ∷ ys) = []
zip_with f (x ∷ xs) (y ∷ ys) = f x y ∷ zip_with f xs ys

-- the answers of a thread, of a round's threads, and of all rounds
abbrev pub thread_told : List SpanData → List Event → List KeptAnswer → List Answer
thread_told images events kept = zip_with (told images) events kept

abbrev pub round_told :
    List SpanData → List (List Event) → List (List KeptAnswer) → List (List Answer)
round_told images threads kept = zip_with (thread_told images) threads kept

abbrev pub rounds_told :
    List SpanData → List (List (List Event)) → List (List (List KeptAnswer))
    → List (List (List Answer))
rounds_told images rounds kept = zip_with (round_told images) rounds kept

-- what contracts see of what is kept of a journal: by round and thread, and the number of updates
pub record KeptJournalData : Type 0 where
  pub rounds : List (List (List KeptAnswer))
  pub updates : ℕ

-- the journal of a script, by what is kept of it
abbrev pub journal_told : ScriptData → KeptJournalData → JournalData
journal_told script kept = record {
  rounds = rounds_told script.images script.rounds kept.rounds;
  updates = kept.updates;
}

-- the answer that is kept of an event can be written
abbrev pub IsKeptPrintable : List SpanData → Event → KeptAnswer → Type 0
IsKeptPrintable images event kept = IsPrintable (told images event kept)

-- and it is a right one
abbrev pub IsKeptRight :
    List SpanData → List SectionData → List SnapshotData → Event → KeptAnswer → Type 0
IsKeptRight images sections snapshots event kept =
    IsRightAnswer sections snapshots event (told images event kept)
    × IsKeptPrintable images event kept

-- What was kept tells a lawful journal of the script, in which each answer can be written.
pub record IsKeptJournal (script : ScriptData) (kept : KeptJournalData) : Type 0 where
  pub lawful : IsLawfulJournal script (journal_told script kept)
  pub played : IsPlayed (journal_told script kept).rounds
  pub printable : AllZip (AllZip (AllZip (IsKeptPrintable script.images))) script.rounds kept.rounds
