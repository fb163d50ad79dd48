-- What is a lawful journal: records that hold, in any order.
use Rattle.std.proofs.Common.{◌≡◌, ℕ, ◌+◌, List, [], ◌∷◌, length, sym, ◌∙◌, ap, max}
use Rattle.std.specs.List.{All, AllByRecursion, AllZip, flat_map}
use Rattle.std.proofs.lemmas.List.Elements.{All-head, All-tail}
use Rattle.reg_model.specs.State.{State}
use Rattle.reg_model.specs.History.{IsHistory}
use Rattle.reg_model.specs.Receipt.{moment, AllHold, AreInOrder, IsAtNumber}
use Rattle.reg_model.specs.Numbers.{AreNumbered, history_of}
use Rattle.reg_model.specs.declared.answer.Update.{Update}
use Rattle.reg_model.specs.declared.answer.Receipt.{Receipt}
use Rattle.script_text.specs.ScriptData.{ScriptData, SnapshotData}
use Rattle.script_text.specs.JournalData.{JournalData}
use Rattle.frame_parse.specs.Sections.{SectionData}
use Rattle.script_text.specs.declared.script.Event.{Event}
use Rattle.script_text.specs.Lawful.{IsLawfulJournal, AnswersEvent, IsUnfolded, thread_receipts, in_one, start_of, RoundsHold, AreInRounds, done_after}
use Rattle.script_text.specs.declared.journal.Answer.{Answer}
use Rattle.run_engine.specs.Played.{IsRightAnswer}
use Rattle.run_engine.proofs.Lists.{AllZip-weaker, AllZip-second}
use Rattle.word_rule.proofs.Each.{all_append}

-- the receipts of a round, thread by thread
abbrev of_round : List (List Receipt) → List Receipt
of_round round = flat_map (λ receipts. receipts) round

-- receipts that hold have their updates in the history, each under its number
record_at : (start : State) (history : List Update) (nodes callers since : ℕ) (receipts : List Receipt) → AllHold start history nodes callers since receipts → AllByRecursion (IsAtNumber history) receipts
record_at start history nodes callers since [] holds = tt
record_at start history nodes callers since (r ∷ receipts) holds = (holds.0.numbered, record_at start history nodes callers (max since (moment r)) receipts holds.1)

threads_at : (start : State) (history : List Update) (nodes callers since : ℕ) (threads : List (List Receipt)) → All (λ receipts. AllHold start history nodes callers since receipts × AreInOrder since receipts) threads → AllByRecursion (IsAtNumber history) (of_round threads)
threads_at start history nodes callers since [] holds = tt
threads_at start history nodes callers since (receipts ∷ threads) holds =
    let Record : List Receipt → Type 0 = λ receipts. AllHold start history nodes callers since receipts × AreInOrder since receipts in
    all_append (IsAtNumber history) receipts (of_round threads)
    (record_at start history nodes callers since receipts (All-head Record receipts threads holds).0)
    (threads_at start history nodes callers since threads (All-tail Record receipts threads holds))

pub rounds_at : (start : State) (history : List Update) (nodes callers done : ℕ) (rounds : List (List (List Receipt))) → RoundsHold start history nodes callers done rounds → AllByRecursion (IsAtNumber history) (in_one rounds)
rounds_at start history nodes callers done [] holds = tt
rounds_at start history nodes callers done (round ∷ rounds) holds =
    all_append (IsAtNumber history) (of_round round) (in_one rounds)
    (threads_at start history nodes (callers + length round) done round holds.0)
    (rounds_at start history nodes (callers + length round) (done_after done round) rounds holds.1)

-- Where every event is answered, there is one history with each number on one receipt, which the receipts tell, each
-- thread's record holds in it, and the rounds keep their bounds, the journal is lawful. Nothing is asked of the order in
-- which the calls were made.
pub records_lawful : (script : ScriptData) (journal : JournalData) (history : List Update) → AllZip (AllZip (AllZip AnswersEvent)) script.rounds journal.rounds → length history ≡ journal.updates → IsHistory (start_of script) history → AreNumbered journal.updates (in_one (thread_receipts script.images journal)) → history_of (in_one (thread_receipts script.images journal)) (length history) ≡ history → RoundsHold (start_of script) history script.nodes 1 0 (thread_receipts script.images journal) → AreInRounds 0 (thread_receipts script.images journal) → All (All (All (IsUnfolded script.sections script.snapshots))) journal.rounds → IsLawfulJournal script journal
records_lawful script journal history answered count is numbered tells holds rounds unfolded =
    let receipts = in_one (thread_receipts script.images journal) in
    let told : history_of receipts journal.updates ≡ history = ap (history_of receipts) (sym count) ∙ tells in
    record {
      answered = answered;
      numbered = numbered;
      history = rw told is;
      receipts = rw told holds;
      rounds = rounds;
      unfolded = unfolded;
    }

-- right answers are their events', and their traces unfold
module _ (sections : List SectionData) (snapshots : List SnapshotData) where
  pub events_answered : (events : List (List (List Event))) (rounds : List (List (List Answer))) → AllZip (AllZip (AllZip (IsRightAnswer sections snapshots))) events rounds → AllZip (AllZip (AllZip AnswersEvent)) events rounds
  events_answered = AllZip-weaker _ _ (AllZip-weaker _ _ (AllZip-weaker _ _ (λ event answer both. both.0)))

  pub traces_unfolded : (events : List (List (List Event))) (rounds : List (List (List Answer))) → AllZip (AllZip (AllZip (IsRightAnswer sections snapshots))) events rounds → All (All (All (IsUnfolded sections snapshots))) rounds
  traces_unfolded =
      AllZip-second (AllZip (AllZip (IsRightAnswer sections snapshots))) (All (All (IsUnfolded sections snapshots)))
      (AllZip-second (AllZip (IsRightAnswer sections snapshots)) (All (IsUnfolded sections snapshots))
      (AllZip-second (IsRightAnswer sections snapshots) (IsUnfolded sections snapshots) (λ event answer both. both.1)))
