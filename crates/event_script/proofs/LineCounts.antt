-- How many lines there are.
use Rattle.std.proofs.Common.{◌≡◌, ℕ, ◌+◌, ◌*◌, ◌≤◌, false, List, [], ◌∷◌, ◌++◌, length, map, All, Ok, refl, ap, arith, length-append}
use Rattle.frame_parse.specs.Sections.{SectionData}
use Rattle.reg_model.specs.SpanData.{SpanData, IsSpan}
use Rattle.script_text.specs.declared.script.Event.{Event}
use Rattle.script_text.specs.declared.reason.Reason.TheVariants as reason
use Rattle.event_script.specs.declared.reader.kinds.Stage.{Stage}
use Rattle.event_script.specs.declared.reader.kinds.Stage.TheVariants as stage
use Rattle.script_text.specs.declared.statement.Statement.TheVariants as statement
use Rattle.std.specs.List.{AllByRecursion}
use Rattle.std.proofs.lemmas.List.Elements.{recursion_from_All}
use Rattle.frame_expr.specs.Regions.{RegionData, end, AreFrom}
use Rattle.script_text.specs.ScriptData.{ScriptData, SnapshotData, Counts, counts_of, IsSnapshot, recorded_bytes, AreFixed, IsThread, IsRound}
use Rattle.script_text.specs.Spelling.{image_statements, snapshot_lines, snapshot_statements, thread_statements, round_statements}
use Rattle.event_script.specs.Draft.{DraftData, is_ended}
use Rattle.event_script.specs.Reading.{after_line}
use Rattle.event_script.proofs.Steps.{guard_else}
use Rattle.event_script.proofs.Fixed.{few_fixed}
use Rattle.event_script.specs.declared.reader.totals.Totals.{Totals}
use Rattle.event_script.proofs.SoFar.{AreRounds, early_rounds, statements_at, statements_so_far, Sound}
use Rattle.event_script.proofs.Sound.{open_snapshots, round_rounds, thread_rounds}
use Rattle.event_script.proofs.LinesRead.{line_read, line_sound}

map_count : {A B : Type 0} (f : A → B) (xs : List A) → length (map f xs) ≡ length xs
map_count f [] = refl
map_count f (x ∷ xs) = omega (arith, map_count f xs)

images_count : (number : ℕ) (images : List SpanData) (sections : List SectionData) → length (image_statements number images sections) ≤ length images
images_count number [] sections = omega arith
images_count number (span ∷ images) [] = omega arith
images_count number (span ∷ images) (section ∷ sections) = omega (arith, images_count (number + 1) images sections)

-- each region has a byte at least
regions_count : (low : ℕ) (regions : List RegionData) → AreFrom low regions → length regions ≤ recorded_bytes regions
regions_count low [] are = omega arith
regions_count low (r ∷ regions) are = let some = are.1 in let rest = regions_count (end r) regions are.3 in omega arith

snapshot_count : (number : ℕ) (snapshot : SnapshotData) → IsSnapshot snapshot → length (snapshot_lines number snapshot) ≤ 65537
snapshot_count number snapshot is =
    let size = is.size in
    omega (arith, map_count statement.Memory snapshot.memory, regions_count 0 snapshot.memory is.regions)

snapshots_count : (number : ℕ) (snapshots : List SnapshotData) → AllByRecursion IsSnapshot snapshots → length (snapshot_statements number snapshots) ≤ 65537 * length snapshots
snapshots_count number [] are = omega arith
snapshots_count number (snapshot ∷ snapshots) are =
    omega (arith, length-append (snapshot_lines number snapshot) (snapshot_statements (number + 1) snapshots), snapshot_count number snapshot are.0, snapshots_count (number + 1) snapshots are.1)

threads_count : (counts : Counts) (threads : List (List Event)) → AllByRecursion (IsThread counts) threads → length (thread_statements threads) ≤ 4097 * length threads
threads_count counts [] are = omega arith
threads_count counts (events ∷ threads) are =
    let few = are.0.0 in
    omega (arith, length-append (statement.Thread ∷ map statement.Event events) (thread_statements threads), map_count statement.Event events, threads_count counts threads are.1)

rounds_count : (counts : Counts) (rounds : List (List (List Event))) → AllByRecursion (IsRound counts) rounds → length (round_statements rounds) ≤ 65553 * length rounds
rounds_count counts [] are = omega arith
rounds_count counts (threads ∷ rounds) are =
    let few = are.0.0 in
    omega (arith, length-append (statement.Round ∷ thread_statements threads) (round_statements rounds), threads_count counts threads (recursion_from_All (IsThread counts) threads are.0.1), rounds_count counts rounds are.1)

few_of : (counts : Counts) (rounds : List (List (List Event))) → AreRounds counts rounds → length (round_statements rounds) ≤ 4195392
few_of counts rounds are = (let few = are.few in omega (arith, rounds_count counts rounds (recursion_from_All (IsRound counts) rounds are.each)))

module _ (script : ScriptData) (count : length script.images ≤ 4096) (spans : All IsSpan script.images) (fixed : AreFixed script.images script.fixed) where
  -- the lines of the images, of the fixed ones, of the snapshots, and of the rounds
  middle_count : (counts : Counts) (snapshots : List SnapshotData) (rounds : List (List (List Event))) → (length snapshots ≤ 4096) × All IsSnapshot snapshots → AreRounds counts rounds
      → length (image_statements 0 script.images script.sections ++ map statement.Fixed script.fixed ++ snapshot_statements 0 snapshots ++ round_statements rounds) ≤ 272643136
  middle_count counts snapshots rounds some are =
      let few = some.0 in
      let stacks = snapshots_count 0 snapshots (recursion_from_All IsSnapshot snapshots some.1) in
      omega (arith, length-append (image_statements 0 script.images script.sections ++ map statement.Fixed script.fixed ++ snapshot_statements 0 snapshots) (round_statements rounds), length-append (image_statements 0 script.images script.sections ++ map statement.Fixed script.fixed) (snapshot_statements 0 snapshots), length-append (image_statements 0 script.images script.sections) (map statement.Fixed script.fixed), images_count 0 script.images script.sections, map_count statement.Fixed script.fixed, few_fixed script.images script.fixed spans fixed, few_of counts rounds are)

  module _ (snapshot : SnapshotData) (threads : List (List Event)) (events : List Event) (totals : Totals) where
    abbrev here : Stage → DraftData
    here at = record { stage = at; script = script; snapshot = snapshot; threads = threads; events = events; totals = totals }

    few_at : (at : Stage) → Sound (here at) → is_ended at ≡ false → length (statements_at at (here at)) ≤ 272643139
    few_at stage.Version s going = omega arith
    few_at stage.Nodes s going = omega arith
    few_at stage.Loads s going = omega arith
    few_at stage.Images s going = omega (arith, middle_count (counts_of script) script.snapshots script.rounds s.snapshots (early_rounds (counts_of script) script.rounds s.shape.0))
    few_at stage.Fixed s going = omega (arith, middle_count (counts_of script) script.snapshots script.rounds s.snapshots (early_rounds (counts_of script) script.rounds s.shape.0))
    few_at stage.Snapshots s going = omega (arith, middle_count (counts_of script) (script.snapshots ++ snapshot ∷ []) script.rounds (open_snapshots script snapshot threads events totals (s.shape.2, s.shape.3) s.snapshots) (early_rounds (counts_of script) script.rounds s.shape.0))
    few_at stage.Round s going = omega (arith, middle_count (counts_of script) script.snapshots (script.rounds ++ threads ∷ []) s.snapshots (round_rounds script snapshot threads events totals s))
    few_at stage.Thread s going = omega (arith, middle_count (counts_of script) script.snapshots (script.rounds ++ (threads ++ events ∷ []) ∷ []) s.snapshots (thread_rounds script snapshot threads events totals s))
    few_at stage.Ended s going = absurd cc

-- before a good line there are few lines
pub few_lines : (known next : DraftData) (line : List ℕ) → Sound known → after_line known line ≡ Ok next → length (statements_so_far known) ≤ 272643139
unfolding after_line
few_lines known next line s e =
    let open_still = guard_else (is_ended known.stage) reason.After _ next e in
    few_at known.script s.count s.spans s.fixed known.snapshot known.threads known.events known.totals known.stage s open_still.0

-- a good line is one more line
pub one_more_line : (known next : DraftData) (line : List ℕ) (number : ℕ) → Sound known → number ≡ length (statements_so_far known) + 1 → after_line known line ≡ Ok next
    → Sound next × (number + 1 ≡ length (statements_so_far next) + 1)
one_more_line known next line number s counted e =
    let r = line_read known next line e in
    let step = line_sound known next line s r in
    (step.sound, omega (arith, ap length step.statements, length-append (statements_so_far known) (r.statement ∷ [])))
