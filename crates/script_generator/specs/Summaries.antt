-- The summary of a journal, and its text.
use Rattle.std.specs.Prelude.{ℕ, ◌^◌, ◌<◌, List, [], ◌∷◌, ◌++◌, length, is_some, codes, decimal}
use Rattle.std.specs.Prelude.{if◌then◌else◌}
use Rattle.std.specs.List.{sum_by, flat_map}
use Rattle.unwind_step.specs.Backtrace.{hit_of}
use Rattle.script_text.specs.JournalData.{JournalData}
use Rattle.script_text.specs.declared.journal.Answer.{Answer}
use Rattle.script_text.specs.declared.journal.Answer.TheVariants.{Find, Unwind}
use Rattle.script_generator.specs.declared.summing.Summary.{Summary}
use Rattle.script_generator.specs.declared.counting.Counted.{Counted}
use Rattle.script_generator.specs.declared.counting.Counted.TheVariants.{Events, Hits, Misses}
use Rattle.script_generator.specs.declared.counting.Counted.TheVariants.{Frames}

-- How much of what is counted an answer has: every answer is one event's; a `find` is a hit where
-- it found a member, registered or loaded, and else a miss; a backtrace has its frame lines.
abbrev pub counted_in : Counted → Answer → ℕ
counted_in Events answer = 1
counted_in Hits (Find pc place) = if is_some (hit_of place) then 1 else 0
counted_in Misses (Find pc place) = if is_some (hit_of place) then 0 else 1
counted_in Frames (Unwind snapshot trace) = length trace.frames
counted_in _ _ = 0

-- all of it, by round, thread and event
abbrev pub counted_total : Counted → List (List (List Answer)) → ℕ
counted_total what rounds = sum_by (sum_by (sum_by (counted_in what))) rounds

abbrev pub thread_total : List (List (List Answer)) → ℕ
thread_total rounds = sum_by length rounds

abbrev pub summary_of : JournalData → Summary
summary_of journal = record {
  threads = thread_total journal.rounds;
  events = counted_total Events journal.rounds;
  updates = journal.updates;
  hits = counted_total Hits journal.rounds;
  misses = counted_total Misses journal.rounds;
  frames = counted_total Frames journal.rounds;
}

-- its threads, events and frame lines, over all rounds, are fewer than 2^32
abbrev pub IsCountable : List (List (List Answer)) → Type 0
IsCountable rounds =
    (thread_total rounds < 2 ^ 32) × (counted_total Events rounds < 2 ^ 32)
    × (counted_total Frames rounds < 2 ^ 32)

-- ---- text

abbrev pub count_line : List ℕ → ℕ → List ℕ
count_line word count = word ++ codes " " ++ decimal count ++ codes "\n"

abbrev pub summary_lines : Summary → List (List ℕ)
summary_lines s =
    count_line (codes "threads") s.threads ∷ count_line (codes "events") s.events
    ∷ count_line (codes "updates") s.updates ∷ count_line (codes "hits") s.hits
    ∷ count_line (codes "misses") s.misses ∷ count_line (codes "frames") s.frames ∷ []

abbrev pub summary_text : Summary → List ℕ
summary_text s = flat_map (λ line. line) (summary_lines s)
