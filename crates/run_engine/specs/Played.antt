-- What playing a script gives: few answers, each of which can be written.
use Rattle.std.specs.Prelude.{ℕ, ◌*◌, ◌≤◌, List, length, All}
use Rattle.std.specs.List.{sum_by}
use Rattle.frame_parse.specs.Sections.{SectionData}
use Rattle.script_text.specs.ScriptData.{SnapshotData}
use Rattle.script_text.specs.declared.limits.TheConstants.{MOST_EVENTS, MOST_ROUNDS}
use Rattle.script_text.specs.declared.limits.TheConstants.{MOST_THREADS}
use Rattle.script_text.specs.Lawful.{AnswersEvent, IsUnfolded}
use Rattle.script_text.specs.Text.{IsPrintable}
use Rattle.script_text.specs.declared.script.Event.{Event}
use Rattle.script_text.specs.declared.script.Event.TheVariants.{Find, Unwind}
use Rattle.script_text.specs.declared.journal.Answer.{Answer}

-- the answers of a thread, of a round's threads, and of all rounds
abbrev pub IsPlayedThread : List Answer → Type 0
IsPlayedThread answers = (length answers ≤ MOST_EVENTS) × All IsPrintable answers

abbrev pub IsPlayedRound : List (List Answer) → Type 0
IsPlayedRound threads = (length threads ≤ MOST_THREADS) × All IsPlayedThread threads

abbrev pub IsPlayed : List (List (List Answer)) → Type 0
IsPlayed rounds = (length rounds ≤ MOST_ROUNDS) × All IsPlayedRound rounds

-- the answer is the event's, and a trace unfolds
abbrev pub IsRightAnswer : List SectionData → List SnapshotData → Event → Answer → Type 0
IsRightAnswer sections snapshots event answer =
    AnswersEvent event answer × IsUnfolded sections snapshots answer

-- how many updates the events of a round may ask for
abbrev pub round_updates : ℕ
round_updates = MOST_THREADS * MOST_EVENTS

-- how many updates an event asks for, and the events of a thread
abbrev pub updates_of : Event → ℕ
updates_of (Find pc) = 0
updates_of (Unwind snapshot) = 0
updates_of _ = 1

abbrev pub updates_in : List Event → ℕ
updates_in events = sum_by updates_of events
