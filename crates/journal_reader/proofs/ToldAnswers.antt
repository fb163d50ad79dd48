-- What is told answers the script's events, and can be printed.
use Rattle.std.proofs.Common.{List, [], ◌∷◌, All}
use Rattle.std.specs.List.{AllByRecursion, AllZip}
use Rattle.std.proofs.lemmas.List.Elements.{All-cons, All-from_recursion, All-nil}
use Rattle.reg_model.specs.SpanData.{SpanData}
use Rattle.reg_model.specs.Receipt.{IsPlace}
use Rattle.reg_model.specs.declared.answer.Inserted.TheVariants as inserted
use Rattle.reg_model.specs.declared.answer.Loading.TheVariants as loading
use Rattle.reg_model.specs.declared.answer.Removed.TheVariants as removed
use Rattle.reg_model.specs.declared.answer.Replaced.TheVariants as replaced
use Rattle.unwind_step.specs.declared.backtrace.FrameLine.{FrameLine}
use Rattle.script_text.specs.JournalData.{JournalData}
use Rattle.script_text.specs.Lawful.{AnswersEvent}
use Rattle.script_text.specs.ScriptData.{ScriptData}
use Rattle.script_text.specs.Text.{IsPrintable}
use Rattle.script_text.specs.declared.journal.Answer.{Answer}
use Rattle.script_text.specs.declared.journal.Answer.TheVariants.{Register, Deregister, Replace, Load, Unload, Find, Unwind}
use Rattle.script_text.specs.declared.script.Event.{Event}
use Rattle.script_text.specs.declared.script.Event.TheVariants as event
use Rattle.journal_reader.specs.Told.{IsToldAnswer, IsToldFrame, IsToldJournal}

module _ (images : List SpanData) where
  -- places have their halves
  frames_whole : (frames : List FrameLine) → AllByRecursion (IsToldFrame images) frames → All (λ line. IsPlace line.place) frames
  frames_whole [] told = All-nil (λ (line : FrameLine). IsPlace line.place)
  frames_whole (line ∷ frames) told = (let first = told.0 in All-cons (λ (line : FrameLine). IsPlace line.place) line frames first.place.whole (frames_whole frames told.1))

  answers_event : (asked : Event) (answer : Answer) → IsToldAnswer images asked answer → AnswersEvent asked answer
  answers_event (event.Register image) (Register number answer) told = told.0
  answers_event (event.Deregister base) (Deregister number answer) told = told.0
  answers_event (event.Replace image) (Replace number answer) told = told.0
  answers_event (event.Load image) (Load number answer) told = told.0
  answers_event (event.Unload base) (Unload number answer) told = told.0
  answers_event (event.Find pc) (Find number place) told = (let is = told.1 in (told.0, is.whole))
  answers_event (event.Unwind snapshot) (Unwind number trace) told = (let is = told.1 in (told.0, frames_whole trace.frames is.frames))
  answers_event asked answer told = absurd told

  answer_prints : (asked : Event) (answer : Answer) → IsToldAnswer images asked answer → IsPrintable answer
  answer_prints (event.Register image) (Register number inserted.Spent) told = told.1
  answer_prints (event.Register image) (Register number _) told = tt
  answer_prints (event.Deregister base) (Deregister number removed.Spent) told = told.1
  answer_prints (event.Deregister base) (Deregister number _) told = tt
  answer_prints (event.Replace image) (Replace number replaced.Spent) told = told.1
  answer_prints (event.Replace image) (Replace number _) told = tt
  answer_prints (event.Load image) (Load number loading.Spent) told = told.1
  answer_prints (event.Load image) (Load number _) told = tt
  answer_prints (event.Unload base) (Unload number removed.Spent) told = told.1
  answer_prints (event.Unload base) (Unload number _) told = tt
  answer_prints (event.Find pc) (Find number place) told = (let is = told.1 in is.whole)
  answer_prints (event.Unwind snapshot) (Unwind number trace) told = (let is = told.1 in frames_whole trace.frames is.frames)
  answer_prints asked answer told = absurd told

-- ---- lists

zip_weaker : {X Y : Type 0} (xs : List X) (ys : List Y) (P Q : X → Y → Type 0) → ((x : X) (y : Y) → P x y → Q x y) → AllZip P xs ys → AllZip Q xs ys
zip_weaker [] [] P Q so all = tt
zip_weaker [] (y ∷ ys) P Q so all = absurd all
zip_weaker (x ∷ xs) [] P Q so all = absurd all
zip_weaker (x ∷ xs) (y ∷ ys) P Q so all = (so x y all.0, zip_weaker xs ys P Q so all.1)

zip_second : {X Y : Type 0} (P : X → Y → Type 0) (Q : Y → Type 0) → ((x : X) (y : Y) → P x y → Q y) → (xs : List X) (ys : List Y) → AllZip P xs ys → AllByRecursion Q ys
zip_second P Q so [] [] all = tt
zip_second P Q so [] (y ∷ ys) all = absurd all
zip_second P Q so (x ∷ xs) [] all = absurd all
zip_second P Q so (x ∷ xs) (y ∷ ys) all = (so x y all.0, zip_second P Q so xs ys all.1)

module _ (script : ScriptData) (journal : JournalData) (told : IsToldJournal script journal) where
  abbrev Told : Event → Answer → Type 0
  Told = IsToldAnswer script.images

  pub told_answered : AllZip (AllZip (AllZip AnswersEvent)) script.rounds journal.rounds
  told_answered =
      zip_weaker script.rounds journal.rounds (AllZip (AllZip Told)) (AllZip (AllZip AnswersEvent))
      (λ threads answers. zip_weaker threads answers (AllZip Told) (AllZip AnswersEvent) (λ events answers. zip_weaker events answers Told AnswersEvent (answers_event script.images))) told.answered

  thread_prints : (events : List Event) (answers : List Answer) → AllZip Told events answers → All IsPrintable answers
  thread_prints events answers all = All-from_recursion IsPrintable answers (zip_second Told IsPrintable (answer_prints script.images) events answers all)

  round_prints : (threads : List (List Event)) (answers : List (List Answer)) → AllZip (AllZip Told) threads answers → All (All IsPrintable) answers
  round_prints threads answers all = All-from_recursion (All IsPrintable) answers (zip_second (AllZip Told) (All IsPrintable) thread_prints threads answers all)

  pub told_prints : All (All (All IsPrintable)) journal.rounds
  told_prints = All-from_recursion (All (All IsPrintable)) journal.rounds (zip_second (AllZip (AllZip Told)) (All (All IsPrintable)) round_prints script.rounds journal.rounds told.answered)
