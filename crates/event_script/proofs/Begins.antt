-- Scripts and the lines before a bad one: some script begins with these, and none with the bad one too.
use Rattle.std.proofs.Common.{◌≡◌, ◌≢◌, inr, ℕ, suc, ◌+◌, ◌-◌, ◌≤◌, zero, Bool, true, false, cond, eqb, List, [], ◌∷◌, ◌++◌, length, take, Result, Ok, Err, refl, sym, ap, subst, ◌∙◌, append_assoc, append-nil, length-append, arith}
use Rattle.std.specs.List.{All, AllByRecursion}
use Rattle.std.proofs.lemmas.Bool.{eqb-false}
use Rattle.std.proofs.lemmas.Grind.{flat_map-append}
use Rattle.script_text.specs.ScriptData.{ScriptData, SnapshotData, Counts, counts_of, IsSnapshot, IsRunnable}
use Rattle.script_text.specs.Fields.{with_first, pieces}
use Rattle.script_text.specs.Spelling.{statement_text, statements_text, body_statements, script_text}
use Rattle.event_script.specs.Draft.{DraftData, nothing_known, with_statement}
use Rattle.event_script.specs.Reasons.{IsReason, IsGood}
use Rattle.event_script.specs.Refusal.{whole_line, text_before, MakeKnown, IsFirstBad, BeginsScript}
use Rattle.script_text.specs.Fields.{lines_text}
use Rattle.event_script.specs.Reading.{◌>=>◌, after_line, BadLine, at_line, after_lines}
use Rattle.script_text.specs.declared.script.Event.{Event}
use Rattle.script_text.specs.declared.reason.Reason.{Reason}
use Rattle.script_text.specs.declared.reason.Reason.TheVariants as reason
use Rattle.event_script.specs.declared.reader.kinds.Stage.{Stage}
use Rattle.event_script.specs.declared.reader.kinds.Stage.TheVariants as stage
use Rattle.script_text.specs.declared.statement.Statement.{Statement}
use Rattle.script_text.specs.declared.statement.Statement.TheVariants as statement
use Rattle.script_text.proofs.Pieces.{some_pieces}
use Rattle.script_text.proofs.Joined.{Without, pieces_first}
use Rattle.event_script.specs.declared.reader.totals.Totals.{Totals}
use Rattle.event_script.proofs.EventTotals.{Totalled}
use Rattle.event_script.proofs.SoFar.{AreRounds, Sound, statements_so_far, early_rounds, no_rounds, no_snapshots, no_fixed}
use Rattle.event_script.proofs.Sound.{open_snapshots, round_rounds, thread_rounds}
use Rattle.event_script.proofs.LinesRead.{line_read, line_sound, text_so_far, text_step, at_first}
use Rattle.event_script.proofs.Passed.{Judged}
use Rattle.event_script.proofs.Judged.{judged_line}
use Rattle.event_script.proofs.Complete.{whole, outcome_complete}
use Rattle.event_script.proofs.FirstBad.{reads_good, reads_lines}

-- ---- the first lines of a text

-- no piece has a separator
pub pieces_without : (separator : ℕ) (bytes : List ℕ) → AllByRecursion (Without separator) (pieces separator bytes)
pieces_without separator [] = (tt, tt)
pieces_without separator (b ∷ bytes) = by (eqb b separator) refl (some_pieces separator bytes) (pieces_without separator bytes)
  where
    first_more : (piece : List ℕ) (others : List (List ℕ)) → eqb b separator ≡ false → AllByRecursion (Without separator) (piece ∷ others) → AllByRecursion (Without separator) ((b ∷ piece) ∷ others)
    first_more piece others e rest = ((eqb-false b separator e, rest.0), rest.1)

    by : (t : Bool) → eqb b separator ≡ t → (p : (first : List ℕ) × (others : List (List ℕ)) × (pieces separator bytes ≡ first ∷ others)) → AllByRecursion (Without separator) (pieces separator bytes)
        → AllByRecursion (Without separator) (cond t ([] ∷ pieces separator bytes) (with_first b (pieces separator bytes)))
    by true e p rest = (tt, rest)
    by false e p rest = subst (λ (x : List (List ℕ)). AllByRecursion (Without separator) (with_first b x)) (sym p.2) (first_more p.0 p.1 e (subst (AllByRecursion (Without separator)) p.2 rest))

pub front_without : (front : List (List ℕ)) (line : List ℕ) (others : List (List ℕ)) → AllByRecursion (Without 10) (front ++ line ∷ others) → AllByRecursion (Without 10) front × Without 10 line
front_without [] line others all = (tt, all.0)
front_without (first ∷ front) line others all = (let rest = front_without front line others all.1 in ((all.0, rest.0), rest.1))

-- lines that are cut again
pub lines_cut : (lines : List (List ℕ)) (others : List ℕ) → AllByRecursion (Without 10) lines → pieces 10 (lines_text lines ++ others) ≡ lines ++ pieces 10 others
lines_cut [] others all = refl
lines_cut (line ∷ lines) others all =
    ap (pieces 10) (append_assoc (line ++ 10 ∷ []) (lines_text lines) others ∙ append_assoc line (10 ∷ []) (lines_text lines ++ others))
    ∙ pieces_first 10 line (lines_text lines ++ others) all.0
    ∙ ap (λ (x : List (List ℕ)). line ∷ x) (lines_cut lines others all.1)

take_front : (front others : List (List ℕ)) (n : ℕ) → n ≡ length front → take n (front ++ others) ≡ front
take_front [] others zero e = refl
take_front [] others (suc n) e = absurd (omega arith)
take_front (x ∷ front) others zero e = absurd (omega arith)
take_front (x ∷ front) others (suc n) e = ap (λ (xs : List (List ℕ)). x ∷ xs) (take_front front others n (omega arith))

-- ---- none begins with a bad line

abbrev ends : DraftData → Result DraftData BadLine
ends known = Ok known

abbrev fails : BadLine → Result DraftData BadLine
fails bad = Err bad

-- a reason of a line holds of it with its line feed too, unless it is that the text ends
still_bad : (known : DraftData) (line : List ℕ) (others : List (List ℕ)) (why : Reason) → why ≢ reason.Missing → why ≢ reason.Unended → IsReason known (text_before others line) why → IsGood known (whole_line line) → ⊥
still_bad known line (next ∷ others) why missing unended is good = good why is.holds
still_bad known line [] reason.Missing missing unended is good = missing refl
still_bad known line [] reason.Unended missing unended is good = unended refl
still_bad known line [] reason.After missing unended is good = good reason.After (is.holds.0, inr refl)
still_bad known line [] why missing unended is good = is.first reason.Unended (omega arith) refl

bad_line : (known : DraftData) (number : ℕ) (line : List ℕ) (others : List (List ℕ)) (rest : List ℕ) (why : Reason) → why ≢ reason.Missing → why ≢ reason.Unended → IsReason known (text_before others line) why
    → (last : DraftData) → after_lines known number (line ∷ pieces 10 rest) ≡ Ok last → ⊥
unfolding after_lines
bad_line known number line others rest why missing unended is last e =
    let p = some_pieces 10 rest in
    by (after_line known line) (judged_line known line) p.0 p.1 (sym (ap (λ (x : List (List ℕ)). after_lines known number (line ∷ x)) p.2) ∙ e)
  where
    by : (given : Result DraftData Reason) → Judged known (whole_line line) given → (next : List ℕ) (more : List (List ℕ)) → (at_line number given >=> λ after. after_lines after (number + 1) (next ∷ more)) ≡ Ok last → ⊥
    by (Ok after) judged next more e = still_bad known line others why missing unended is judged
    by (Err other) judged next more e = cc

pub none_begins : (bytes : List ℕ) (number : ℕ) (why : Reason) → IsFirstBad bytes number why → why ≢ reason.Missing → why ≢ reason.Unended → BeginsScript (take number (pieces 10 bytes)) → ⊥
none_begins bytes number why bad missing unended (s, others, run, text) =
    let front = bad.before in
    let line = bad.line in
    let whole_front : (front ++ line ∷ []) ++ bad.others ≡ pieces 10 bytes = append_assoc front (line ∷ []) bad.others ∙ sym bad.cut in
    let count : number ≡ length (front ++ line ∷ []) = omega (arith, bad.counted, length-append front (line ∷ [])) in
    let taken : take number (pieces 10 bytes) ≡ front ++ line ∷ [] = ap (take number) (sym whole_front) ∙ take_front (front ++ line ∷ []) bad.others number count in
    let without = front_without front line bad.others (subst (AllByRecursion (Without 10)) bad.cut (pieces_without 10 bytes)) in
    let cut : pieces 10 (script_text s) ≡ front ++ line ∷ pieces 10 others =
    ap (pieces 10) (text ∙ ap (λ (x : List (List ℕ)). lines_text x ++ others) taken)
    ∙ lines_cut (front ++ line ∷ []) others (both_without front line without.0 without.1)
    ∙ append_assoc front (line ∷ []) (pieces 10 others) in
    let read = outcome_complete (script_text s) s (record { text = refl; runnable = run }) in
    bad_line bad.known (1 + length front) line bad.others others why missing unended bad.bad (whole s)
    (sym (ap (after_lines nothing_known 1) cut ∙ reads_lines nothing_known bad.known front 1 line (pieces 10 others) bad.good) ∙ read)
  where
    both_without : (front : List (List ℕ)) (line : List ℕ) → AllByRecursion (Without 10) front → Without 10 line → AllByRecursion (Without 10) (front ++ line ∷ [])
    both_without [] line all one = (one, tt)
    both_without (x ∷ front) line all one = (all.0, both_without front line all.1 one)

-- ---- some script begins with good lines

-- the lines so far can be gone on with to a script
record CanEnd (known : DraftData) : Type 0 where
  script : ScriptData
  more : List Statement
  runnable : IsRunnable script
  is : body_statements script ++ statement.End ∷ [] ≡ statements_so_far known ++ more

-- the least script: nothing stands in it
abbrev least : ℕ → ℕ → ℕ → ScriptData
least version nodes loads = record { version = version; nodes = nodes; loads = loads; images = []; sections = []; fixed = []; snapshots = []; rounds = [] }

abbrev none_there : ℕ → Counts
none_there version = record { version = version; images = 0; snapshots = 0 }

least_runs : (version nodes loads : ℕ) → (1 ≤ version) × (version ≤ 2) → (4 ≤ nodes) × (nodes ≤ 16384) → (1 ≤ loads) × (loads ≤ 1024) → IsRunnable (least version nodes loads)
least_runs version nodes loads known_version some_nodes some_loads = record {
  version = known_version;
  nodes = some_nodes;
  loads = some_loads;
  images = (omega arith, at_first.spans);
  sections = (refl, at_first.sections);
  fixed = no_fixed [];
  snapshots = no_snapshots;
  rounds = (omega arith, no_rounds (none_there version));
  unwinds = omega arith;
}

module _ (script : ScriptData) (snapshot : SnapshotData) (threads : List (List Event)) (events : List Event) (totals : Totals) where
  abbrev so_far : Stage → DraftData
  so_far stage = record { stage = stage; script = script; snapshot = snapshot; threads = threads; events = events; totals = totals }

  abbrev with_all : List SnapshotData → List (List (List Event)) → ScriptData
  with_all snapshots rounds = record script { snapshots = snapshots; rounds = rounds }

  with_rounds : (at : Stage) (snapshots : List SnapshotData) (rounds : List (List (List Event))) → (length snapshots ≤ 4096) × All IsSnapshot snapshots → (1 ≤ script.version) × (script.version ≤ 2) → (4 ≤ script.nodes) × (script.nodes ≤ 16384) → (1 ≤ script.loads) × (script.loads ≤ 1024) → Sound (so_far at) → Totalled totals rounds
      → AreRounds (record { version = script.version; images = length script.images; snapshots = length snapshots }) rounds → IsRunnable (with_all snapshots rounds)
  with_rounds at snapshots rounds some version nodes loads s t are = record {
    version = version;
    nodes = nodes;
    loads = loads;
    images = (s.count, s.spans);
    sections = (s.each, s.sections);
    fixed = s.fixed;
    snapshots = some;
    rounds = (are.few, are.each);
    unwinds = (let few = t.few in omega (arith, ap (λ (x : Totals). x.unwinds) t.is));
  }

  -- the lines so far, and then the last one
  ends_with : (at : Stage) (snapshots : List SnapshotData) (rounds : List (List (List Event))) → body_statements (with_all snapshots rounds) ≡ statements_so_far (so_far at) → IsRunnable (with_all snapshots rounds) → CanEnd (so_far at)
  ends_with at snapshots rounds is can = record { script = with_all snapshots rounds; more = statement.End ∷ []; runnable = can; is = ap (λ (x : List Statement). x ++ statement.End ∷ []) is }

  can_end : (at : Stage) → Sound (so_far at) → CanEnd (so_far at)
  can_end stage.Version s = record { script = least 1 4 1; more = body_statements (least 1 4 1) ++ statement.End ∷ []; runnable = least_runs 1 4 1 (omega arith, omega arith) (omega arith, omega arith) (omega arith, omega arith); is = refl }
  can_end stage.Nodes s = record { script = least script.version 4 1; more = statement.Nodes 4 ∷ statement.Loads 1 ∷ statement.End ∷ []; runnable = least_runs script.version 4 1 s.version (omega arith, omega arith) (omega arith, omega arith); is = refl }
  can_end stage.Loads s = record { script = least script.version script.nodes 1; more = statement.Loads 1 ∷ statement.End ∷ []; runnable = least_runs script.version script.nodes 1 s.version s.nodes (omega arith, omega arith); is = refl }
  can_end stage.Images s = ends_with stage.Images script.snapshots script.rounds refl (with_rounds stage.Images script.snapshots script.rounds s.snapshots s.version s.nodes s.loads s s.totals (early_rounds (counts_of script) script.rounds s.shape.0))
  can_end stage.Fixed s = ends_with stage.Fixed script.snapshots script.rounds refl (with_rounds stage.Fixed script.snapshots script.rounds s.snapshots s.version s.nodes s.loads s s.totals (early_rounds (counts_of script) script.rounds s.shape.0))
  can_end stage.Snapshots s =
      let stacks = script.snapshots ++ snapshot ∷ [] in
      let some = open_snapshots script snapshot threads events totals (s.shape.2, s.shape.3) s.snapshots in
      let are = early_rounds (record { version = script.version; images = length script.images; snapshots = length stacks }) script.rounds s.shape.0 in
      ends_with stage.Snapshots stacks script.rounds refl (with_rounds stage.Snapshots stacks script.rounds some s.version s.nodes s.loads s s.totals are)
  can_end stage.Round s =
      let rounds = script.rounds ++ threads ∷ [] in
      ends_with stage.Round script.snapshots rounds refl (with_rounds stage.Round script.snapshots rounds s.snapshots s.version s.nodes s.loads s s.totals (round_rounds script snapshot threads events totals s))
  can_end stage.Thread s =
      let rounds = script.rounds ++ (threads ++ events ∷ []) ∷ [] in
      ends_with stage.Thread script.snapshots rounds refl (with_rounds stage.Thread script.snapshots rounds s.snapshots s.version s.nodes s.loads s s.totals (thread_rounds script snapshot threads events totals s))
  can_end stage.Ended s =
      let can = with_rounds stage.Ended script.snapshots script.rounds s.snapshots s.version s.nodes s.loads s s.totals (record { few = s.shape; each = s.rounds }) in
      record { script = script; more = []; runnable = can; is = sym (append-nil (body_statements script ++ statement.End ∷ [])) }

-- good lines are the text of what they make known
record HasText (known last : DraftData) (lines : List (List ℕ)) : Type 0 where
  sound : Sound last
  text : text_so_far last ≡ text_so_far known ++ lines_text lines

made_text : (known last : DraftData) (lines : List (List ℕ)) → Sound known → MakeKnown known lines last → HasText known last lines
made_text known last [] s e = subst (λ (d : DraftData). HasText known d []) e (record { sound = s; text = sym (append-nil (text_so_far known)) })
made_text known last (line ∷ lines) s (says_this, says, good, rest) =
    let next = with_statement known says_this in
    let r = line_read known next line (reads_good known line says_this says good) in
    let step = line_sound known next line s r in
    let later = made_text next last lines step.sound rest in
    record {
      sound = later.sound;
      text = later.text ∙ ap (λ (x : List ℕ). x ++ lines_text lines) (text_step known next line r.statement r.says step) ∙ append_assoc (text_so_far known) (line ++ 10 ∷ []) (lines_text lines);
    }

pub some_begins : (bytes : List ℕ) (number : ℕ) (why : Reason) → IsFirstBad bytes number why → BeginsScript (take (number - 1) (pieces 10 bytes))
unfolding script_text
some_begins bytes number why bad =
    let made = made_text nothing_known bad.known bad.before at_first bad.good in
    let ends = can_end bad.known.script bad.known.snapshot bad.known.threads bad.known.events bad.known.totals bad.known.stage made.sound in
    let count : number - 1 ≡ length bad.before = omega (arith, bad.counted) in
    let taken : take (number - 1) (pieces 10 bytes) ≡ bad.before = ap (take (number - 1)) bad.cut ∙ take_front bad.before (bad.line ∷ bad.others) (number - 1) count in (
      ends.script,
      statements_text ends.more,
      ends.runnable,
      ap statements_text ends.is ∙ flat_map-append statement_text (statements_so_far bad.known) ends.more
          ∙ ap (λ (x : List ℕ). x ++ statements_text ends.more) made.text
          ∙ ap (λ (x : List (List ℕ)). lines_text x ++ statements_text ends.more) (sym taken),
    )
