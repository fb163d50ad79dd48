-- What is counted of a journal that was played is few.
use Rattle.std.proofs.Common.{◌*◌, ◌≤◌, List, [], ◌∷◌, length, All, arith}
use Rattle.std.specs.List.{sum_by}
use Rattle.std.proofs.lemmas.List.Elements.{All-head, All-tail}
use Rattle.std.proofs.lemmas.List.Sums.{sum_by-cons}
use Rattle.frame_parse.specs.Sections.{SectionData}
use Rattle.script_text.specs.ScriptData.{SnapshotData}
use Rattle.script_text.specs.Lawful.{IsUnfolded}
use Rattle.script_text.specs.declared.journal.Answer.{Answer}
use Rattle.script_text.specs.declared.journal.Answer.TheVariants.{Register, Deregister, Replace, Load, Unload, Find, Unwind}
use Rattle.script_generator.specs.Summaries.{counted_in, counted_total, thread_total, IsCountable}
use Rattle.script_generator.specs.declared.counting.Counted.{Counted}
use Rattle.script_generator.specs.declared.counting.Counted.TheVariants.{Events, Frames}
use Rattle.run_engine.specs.Played.{IsPlayedThread, IsPlayedRound, IsPlayed}

-- where no answer has more than 256
module _ (Good : Answer → Type 0) (what : Counted) (each : (a : Answer) → Good a → counted_in what a ≤ 256) where
  in_thread : (answers : List Answer) → All Good answers → sum_by (counted_in what) answers ≤ 256 * length answers
  in_thread [] good = omega arith
  in_thread (a ∷ answers) good =
      omega (arith, sum_by-cons (counted_in what) a answers, each a (All-head Good a answers good), in_thread answers (All-tail Good a answers good))

  in_round : (threads : List (List Answer)) → All IsPlayedThread threads → All (All Good) threads → sum_by (sum_by (counted_in what)) threads ≤ 1048576 * length threads
  in_round [] played good = omega arith
  in_round (answers ∷ threads) played good =
      let few = (All-head IsPlayedThread answers threads played).0 in
      let here = in_thread answers (All-head (All Good) answers threads good) in
      let later = in_round threads (All-tail IsPlayedThread answers threads played) (All-tail (All Good) answers threads good) in
      omega (arith, sum_by-cons (sum_by (counted_in what)) answers threads, few, here, later)

  in_rounds : (rounds : List (List (List Answer))) → All IsPlayedRound rounds → All (All (All Good)) rounds → counted_total what rounds ≤ 16777216 * length rounds
  in_rounds [] played good = omega arith
  in_rounds (threads ∷ rounds) played good =
      let round = All-head IsPlayedRound threads rounds played in
      let here = in_round threads round.1 (All-head (All (All Good)) threads rounds good) in
      let later = in_rounds rounds (All-tail IsPlayedRound threads rounds played) (All-tail (All (All Good)) threads rounds good) in
      omega (arith, sum_by-cons (sum_by (sum_by (counted_in what))) threads rounds, round.0, here, later)

threads_few : (rounds : List (List (List Answer))) → All IsPlayedRound rounds → thread_total rounds ≤ 16 * length rounds
threads_few [] played = omega arith
threads_few (threads ∷ rounds) played =
    omega (arith, sum_by-cons length threads rounds, (All-head IsPlayedRound threads rounds played).0, threads_few rounds (All-tail IsPlayedRound threads rounds played))

-- a backtrace that unfolds has at most 256 frames
few_frames : (sections : List SectionData) (snapshots : List SnapshotData) (a : Answer) → IsUnfolded sections snapshots a → counted_in Frames a ≤ 256
few_frames sections snapshots (Register image answer) good = omega arith
few_frames sections snapshots (Deregister base answer) good = omega arith
few_frames sections snapshots (Replace image answer) good = omega arith
few_frames sections snapshots (Load image answer) good = omega arith
few_frames sections snapshots (Unload base answer) good = omega arith
few_frames sections snapshots (Find pc place) good = omega arith
few_frames sections snapshots (Unwind number trace) good = good.2.count

pub countable : (sections : List SectionData) (snapshots : List SnapshotData) (rounds : List (List (List Answer))) → IsPlayed rounds → All (All (All (IsUnfolded sections snapshots))) rounds → IsCountable rounds
countable sections snapshots rounds played good =
    let events = in_rounds (IsUnfolded sections snapshots) Events (λ a is. omega arith) rounds played.1 good in
    let frames = in_rounds (IsUnfolded sections snapshots) Frames (few_frames sections snapshots) rounds played.1 good in
    (omega (arith, threads_few rounds played.1, played.0), omega (arith, events, played.0), omega (arith, frames, played.0))
