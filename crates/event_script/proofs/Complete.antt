-- What is spelled is read: each line of a script is good after those before it.
use Rattle.std.proofs.Common.{ap₂, ◌≡◌, ℕ, ◌+◌, ◌-◌, ◌^◌, ◌<◌, ◌≤◌, true, cond, ◌&&◌, eqb, ltb, leb, List, [], ◌∷◌, ◌++◌, length, map, Option, Result, Ok, Err, refl, sym, ap, subst, ◌∙◌, append_assoc, append-nil, eq-eqb, lt-ltb, le-leb, arith, length-append}
use Rattle.std.specs.List.{All, AllByRecursion}
use Rattle.std.specs.Option.{ok_or}
use Rattle.std.proofs.lemmas.Bool.{and_from, cond-true}
use Rattle.std.proofs.lemmas.List.Elements.{All-head, All-tail, recursion_from_All}
use Rattle.reg_model.specs.SpanData.{SpanData, IsSpan}
use Rattle.frame_parse.specs.Sections.{SectionData}
use Rattle.frame_parse.specs.declared.fault.FrameFault.{FrameFault}
use Rattle.frame_parse.specs.Reading.{section_of}
use Rattle.hex.specs.Hex.{IsBytes}
use Rattle.frame_expr.specs.Regions.{RegionData, AreRegions, Accepts}
use Rattle.frame_expr.specs.declared.regs.Regs.{Regs}
use Rattle.script_text.specs.declared.statement.SnapshotFields.{SnapshotFields}
use Rattle.script_text.specs.ScriptData.{ScriptData, ImageData, SnapshotData, counts_of, IsSnapshot, recorded_bytes, IsSectionOf, span_of, AreFixed, IsRound}
use Rattle.script_text.specs.Spelling.{statements_text, image_data, image_statements, snapshot_lines, snapshot_statements, round_statements, first_statements, body_statements, script_text, IsScript}
use Rattle.event_script.specs.Draft.{DraftData, no_snapshot, no_totals, nothing_known, may_come, snapshots_at, rounds_at, span_from, with_image, contents_or_none, with_statement}
use Rattle.event_script.specs.Reading.{◌>=>◌, section_or, image_added, last_fixed, is_above, accepts, added, at_end, BadLine, after_lines, outcome}
use Rattle.script_text.specs.declared.script.Event.{Event}
use Rattle.script_text.specs.declared.reason.Reason.{Reason}
use Rattle.script_text.specs.declared.reason.Reason.TheVariants as reason
use Rattle.event_script.specs.declared.reader.kinds.Stage.{Stage}
use Rattle.event_script.specs.declared.reader.kinds.Stage.TheVariants as stage
use Rattle.script_text.specs.declared.kind.Kind.TheVariants as kind
use Rattle.script_text.specs.declared.statement.Statement.{Statement}
use Rattle.script_text.specs.declared.statement.Statement.TheVariants as statement
use Rattle.event_script.proofs.Sections.{section_ok}
use Rattle.event_script.proofs.Fixed.{found_span, rise_at}
use Rattle.event_script.proofs.Recorded.{accepted_is, accepted_at, bytes_in_all, recorded_parts}
use Rattle.event_script.proofs.EventTotals.{totals_of}
use Rattle.event_script.proofs.Rounds.{IsOpen, adds_rounds}
use Rattle.event_script.proofs.Added.{Adds, CanAdd, adds_then, reads_all}

-- ---- the lines of a script

abbrev good : DraftData → Result DraftData Reason
good known = Ok known

module _ (version nodes loads : ℕ) where
  -- where these rounds are over
  abbrev at_rounds : Stage → List SpanData → List SectionData → List ℕ → List SnapshotData → SnapshotData → List (List (List Event)) → DraftData
  at_rounds stage images sections fixed snapshots snapshot rounds = record {
    stage = stage;
    script = record { version = version; nodes = nodes; loads = loads; images = images; sections = sections; fixed = fixed; snapshots = snapshots; rounds = rounds };
    snapshot = snapshot;
    threads = [];
    events = [];
    totals = no_totals;
  }

  -- before the first round
  abbrev at : Stage → List SpanData → List SectionData → List ℕ → List SnapshotData → SnapshotData → DraftData
  at stage images sections fixed snapshots snapshot = at_rounds stage images sections fixed snapshots snapshot []

  adds_first : 1 ≤ version → version ≤ 2 → 4 ≤ nodes → nodes ≤ 16384 → 1 ≤ loads → loads ≤ 1024 → Adds nothing_known (first_statements version nodes loads) (at stage.Images [] [] [] [] no_snapshot)
  unfolding added
  adds_first first last low high least most =
      let nodes_known : DraftData = with_statement nothing_known (statement.Version version) in
      let loads_known : DraftData = with_statement nodes_known (statement.Nodes nodes) in (
        record { may = refl; form = omega arith; is = cond-true (leb 1 version && leb version 2) (good nodes_known) (Err reason.Limit) (and_from _ _ (le-leb 1 version first) (le-leb version 2 last)) },
        (
          record { may = refl; form = omega arith; is = cond-true (leb 4 nodes && leb nodes 16384) (good loads_known) (Err reason.Limit) (and_from _ _ (le-leb 4 nodes low) (le-leb nodes 16384 high)) },
          (
            record { may = refl; form = omega arith; is = cond-true (leb 1 loads && leb loads 1024) (good (with_statement loads_known (statement.Loads loads))) (Err reason.Limit) (and_from _ _ (le-leb 1 loads least) (le-leb loads 1024 most)) },
            refl,
          ),
        ),
      )

  -- ---- images

  module _ (front : List SpanData) (before : List SectionData) (number : ℕ) (span : SpanData) (section : SectionData) (same : number ≡ length front) (room : length front < 4096) (is : IsSpan span) (whole : IsSectionOf section) where
    abbrev image_known : DraftData
    image_known = at stage.Images front before [] [] no_snapshot

    abbrev image_next : DraftData
    image_next = at stage.Images (front ++ span ∷ []) (before ++ section ∷ []) [] [] no_snapshot

    abbrev this : ImageData
    this = image_data number span section

    section_known : section_of section.address section.bytes ≡ Ok section
    section_known = section_ok section.address section.bytes section.fdes whole.records

    span_again : span_from this ≡ span
    span_again =
        let ordered = is.ordered in
        let last : span.first + (span.last + 1 - span.first) - 1 ≡ span.last = omega arith in
        ap (λ (l : ℕ). made l) last
      where
        made : ℕ → SpanData
        made l = record { first = span.first; last = l }

    image_after : with_statement image_known (statement.Image this) ≡ image_next
    image_after =
        ap (λ (given : Result SectionData FrameFault). with_image image_known this (contents_or_none section.address section.bytes given)) section_known
        ∙ ap (λ (s : SpanData). at stage.Images (front ++ s ∷ []) (before ++ section ∷ []) [] [] no_snapshot) span_again

    image_good : image_added image_known this ≡ good (with_image image_known this section)
    image_good =
        let ordered = is.ordered in
        let top = is.below_top in
        let order : eqb number (length front) ≡ true = eq-eqb _ _ same in
        let limit : (ltb (length front) 4096 && leb (length section.bytes) 65536) ≡ true = and_from _ _ (lt-ltb _ _ room) (le-leb _ _ whole.size) in
        let some : ltb 0 (span.last + 1 - span.first) ≡ true = lt-ltb _ _ (omega arith) in
        let inside : leb (span.first + (span.last + 1 - span.first)) (2 ^ 64 - 1) ≡ true = le-leb _ _ (omega arith) in
        let from = λ (given : Result SectionData FrameFault). section_or given >=> λ c. good (with_image image_known this c) in
        cond-true (eqb number (length front)) _ (Err reason.Order) order
        ∙ cond-true (ltb (length front) 4096 && leb (length section.bytes) 65536) _ (Err reason.Limit) limit
        ∙ cond-true (ltb 0 (span.last + 1 - span.first) && leb (span.first + (span.last + 1 - span.first)) (2 ^ 64 - 1)) (from (section_of section.address section.bytes)) (Err reason.Span) (and_from _ _ some inside)
        ∙ ap from section_known

    image_can : CanAdd image_known (statement.Image this)
    unfolding added
    image_can =
        let ordered = is.ordered in
        let top = is.below_top in
        record {
          may = refl;
          form = (omega arith, omega arith, omega arith, whole.address, whole.bytes);
          is = image_good ∙ sym (ap (λ (given : Result SectionData FrameFault). good (with_image image_known this (contents_or_none section.address section.bytes given))) section_known);
        }

  adds_images : (front images : List SpanData) (number : ℕ) (before sections : List SectionData) → number ≡ length front → length sections ≡ length images → length front + length images ≤ 4096 → AllByRecursion IsSpan images → AllByRecursion IsSectionOf sections
      → Adds (at stage.Images front before [] [] no_snapshot) (image_statements number images sections) (at stage.Images (front ++ images) (before ++ sections) [] [] no_snapshot)
  adds_images front [] number before [] same each room spans whole = ap₂ (λ (x : List SpanData) (y : List SectionData). at stage.Images x y [] [] no_snapshot) (sym (append-nil front)) (sym (append-nil before))
  adds_images front [] number before (section ∷ sections) same each room spans whole = absurd (omega arith)
  adds_images front (span ∷ images) number before [] same each room spans whole = absurd (omega arith)
  adds_images front (span ∷ images) number before (section ∷ sections) same each room spans whole =
      let rest = adds_images (front ++ span ∷ []) images (number + 1) (before ++ section ∷ []) sections (omega (arith, length-append front (span ∷ []))) (omega arith) (omega (arith, length-append front (span ∷ []))) spans.1 whole.1 in
      let few : length front < 4096 = omega arith in
      let last : at stage.Images ((front ++ span ∷ []) ++ images) ((before ++ section ∷ []) ++ sections) [] [] no_snapshot ≡ at stage.Images (front ++ span ∷ images) (before ++ section ∷ sections) [] [] no_snapshot =
      ap₂ (λ (x : List SpanData) (y : List SectionData). at stage.Images x y [] [] no_snapshot) (append_assoc front (span ∷ []) images) (append_assoc before (section ∷ []) sections) in (
        image_can front before number span section same few spans.0 whole.0,
        subst (λ (d : DraftData). Adds d (image_statements (number + 1) images sections) (at stage.Images (front ++ span ∷ images) (before ++ section ∷ sections) [] [] no_snapshot)) (sym (image_after front before number span section same few spans.0 whole.0))
            (subst (Adds (at stage.Images (front ++ span ∷ []) (before ++ section ∷ []) [] [] no_snapshot) (image_statements (number + 1) images sections)) last rest),
      )

  -- ---- fixed images

  -- where the reader stands after these fixed images
  abbrev after_fixed : Stage → List ℕ → Stage
  after_fixed start [] = start
  after_fixed start (image ∷ fixed) = stage.Fixed

  none_stacked : (fixed : List ℕ) → snapshots_at (after_fixed stage.Images fixed) [] no_snapshot ≡ []
  none_stacked [] = refl
  none_stacked (image ∷ fixed) = refl

  still_fixed : (fixed : List ℕ) → after_fixed stage.Fixed fixed ≡ stage.Fixed
  still_fixed [] = refl
  still_fixed (image ∷ fixed) = refl

  module _ (images : List SpanData) (sections : List SectionData) (few : length images ≤ 4096) where
    abbrev with_fixed : Stage → List ℕ → DraftData
    with_fixed start fixed = at start images sections fixed [] no_snapshot

    abbrev IsThere : ℕ → Type 0
    IsThere image = image < length images

    fixed_can : (start : Stage) (front : List ℕ) (image : ℕ) → may_come version start kind.Fixed ≡ true → image < length images → is_above (last_fixed images front) (span_of images image) ≡ true → CanAdd (with_fixed start front) (statement.Fixed image)
    unfolding added
    fixed_can start front image may named above =
        let next = with_fixed stage.Fixed (front ++ image ∷ []) in
        let fixed_if : SpanData → Result DraftData Reason = λ span. cond (is_above (last_fixed images front) span) (Ok next) (Err reason.Fixed) in
        record {
          may = may;
          form = omega arith;
          is = ap (λ (o : Option SpanData). ok_or o reason.Name >=> fixed_if) (found_span images image named)
              ∙ cond-true (is_above (last_fixed images front) (span_of images image)) (good next) (Err reason.Fixed) above;
        }

    named_in : (front : List ℕ) (image : ℕ) (fixed : List ℕ) → All IsThere (front ++ image ∷ fixed) → image < length images
    named_in [] image fixed named = All-head IsThere image fixed named
    named_in (x ∷ front) image fixed named = named_in front image fixed (All-tail IsThere x (front ++ image ∷ fixed) named)

    adds_fixed : (start : Stage) (front fixed : List ℕ) → may_come version start kind.Fixed ≡ true → AreFixed images (front ++ fixed) → Adds (with_fixed start front) (map statement.Fixed fixed) (with_fixed (after_fixed start fixed) (front ++ fixed))
    adds_fixed start front [] may are = ap (with_fixed start) (sym (append-nil front))
    adds_fixed start front (image ∷ fixed) may are =
        let regrouped : (front ++ image ∷ []) ++ fixed ≡ front ++ image ∷ fixed = append_assoc front (image ∷ []) fixed in
        let rest = adds_fixed stage.Fixed (front ++ image ∷ []) fixed refl (subst (AreFixed images) (sym regrouped) are) in
        let last : with_fixed (after_fixed stage.Fixed fixed) ((front ++ image ∷ []) ++ fixed) ≡ with_fixed stage.Fixed (front ++ image ∷ fixed) =
        ap₂ with_fixed (still_fixed fixed) regrouped in (
          fixed_can start front image may (named_in front image fixed are.named) (rise_at images front image fixed are.named are.rising),
          subst (Adds (with_fixed stage.Fixed (front ++ image ∷ [])) (map statement.Fixed fixed)) last rest,
        )

    -- before the first round
    record IsEarly (start : Stage) : Type 0 where
      may_stack : may_come version start kind.Snapshot ≡ true
      may_begin : may_come version start kind.Round ≡ true
      may_end : may_come version start kind.End ≡ true
      none : rounds_at start [] [] [] ≡ []

    early : (fixed : List ℕ) → IsEarly (after_fixed stage.Images fixed)
    early [] = record { may_stack = refl; may_begin = refl; may_end = refl; none = refl }
    early (image ∷ fixed) = record { may_stack = refl; may_begin = refl; may_end = refl; none = refl }

    snapshots_are_early : IsEarly stage.Snapshots
    snapshots_are_early = record { may_stack = refl; may_begin = refl; may_end = refl; none = refl }

    -- ---- snapshots, and their memory

    -- where the reader stands after these snapshots, and which one goes on
    module _ (fixed : List ℕ) where
      abbrev with_stacks : Stage → List SnapshotData → SnapshotData → DraftData
      with_stacks start snapshots snapshot = at start images sections fixed snapshots snapshot

      snapshot_can : (start : Stage) (front : List SnapshotData) (snapshot : SnapshotData) (fields : SnapshotFields) → may_come version start kind.Snapshot ≡ true → fields.number ≡ length (snapshots_at start front snapshot) → length (snapshots_at start front snapshot) < 4096
          → length fields.regs.columns ≡ 17 → All (λ n. n < 2 ^ 64) fields.regs.columns → CanAdd (with_stacks start front snapshot) (statement.Snapshot fields)
      unfolding added
      snapshot_can start front snapshot fields may number room count small =
          let next = with_statement (with_stacks start front snapshot) (statement.Snapshot fields) in
          let so_far = length (snapshots_at start front snapshot) in
          record {
            may = may;
            form = (omega arith, count, small);
            is = cond-true (eqb fields.number so_far) (cond (ltb so_far 4096) (good next) (Err reason.Limit)) (Err reason.Order) (eq-eqb _ _ number)
                ∙ cond-true (ltb so_far 4096) (good next) (Err reason.Limit) (lt-ltb _ _ room);
          }

      memory_can : (front : List SnapshotData) (snapshot : SnapshotData) (region : RegionData) → recorded_bytes snapshot.memory + length region.bytes ≤ 65536 → Accepts snapshot.memory region.address region.bytes → IsBytes region.bytes
          → CanAdd (with_stacks stage.Snapshots front snapshot) (statement.Memory region)
      unfolding added
      memory_can front snapshot region few accepted are =
          let grown : SnapshotData = record snapshot { memory = snapshot.memory ++ region ∷ [] } in
          let test = leb (recorded_bytes snapshot.memory + length region.bytes) 65536 in
          record {
            may = refl;
            form = (let top = accepted.1 in omega arith, are, accepted.0);
            is = ap (λ (r : Result SnapshotData Reason). r >=> λ x. good (with_stacks stage.Snapshots front x)) (
                cond-true test (cond (accepts snapshot.memory region) (Ok grown) (Err reason.Region)) (Err reason.Limit) (le-leb _ _ few)
                ∙ cond-true (accepts snapshot.memory region) (Ok grown) (Err reason.Region) (accepted_is snapshot.memory region accepted));
          }

      adds_memory : (front : List SnapshotData) (regs : Regs) (before memory : List RegionData) → AreRegions (before ++ memory) → All (λ region. IsBytes region.bytes) (before ++ memory) → recorded_bytes (before ++ memory) ≤ 65536
          → Adds (with_stacks stage.Snapshots front (record { regs = regs; memory = before })) (map statement.Memory memory) (with_stacks stage.Snapshots front (record { regs = regs; memory = before ++ memory }))
      adds_memory front regs before [] regions bytes few = ap (λ (x : List RegionData). with_stacks stage.Snapshots front (record { regs = regs; memory = x })) (sym (append-nil before))
      adds_memory front regs before (region ∷ memory) regions bytes few =
          let regrouped : (before ++ region ∷ []) ++ memory ≡ before ++ region ∷ memory = append_assoc before (region ∷ []) memory in
          let rest = adds_memory front regs (before ++ region ∷ []) memory (subst AreRegions (sym regrouped) regions) (subst (All (λ region. IsBytes region.bytes)) (sym regrouped) bytes) (subst (λ (x : List RegionData). recorded_bytes x ≤ 65536) (sym regrouped) few) in
          let sum = recorded_parts before region memory in (
            memory_can front (record { regs = regs; memory = before }) region (omega arith) (accepted_at 0 before region memory regions) (bytes_in_all before region memory bytes),
            subst (λ (x : List RegionData). Adds (with_stacks stage.Snapshots front (record { regs = regs; memory = before ++ region ∷ [] })) (map statement.Memory memory) (with_stacks stage.Snapshots front (record { regs = regs; memory = x }))) regrouped rest,
          )

      -- a snapshot, after the others
      adds_snapshot : (start : Stage) (front : List SnapshotData) (before snapshot : SnapshotData) (number : ℕ) → may_come version start kind.Snapshot ≡ true → number ≡ length (snapshots_at start front before) → length (snapshots_at start front before) < 4096 → IsSnapshot snapshot
          → Adds (with_stacks start front before) (snapshot_lines number snapshot) (with_stacks stage.Snapshots (snapshots_at start front before) snapshot)
      adds_snapshot start front before snapshot number may same room is = (
        snapshot_can start front before (record { number = number; regs = snapshot.regs }) may same room is.count is.columns,
        adds_memory (snapshots_at start front before) snapshot.regs [] snapshot.memory is.regions is.bytes is.size,
      )

      -- further snapshots, the last of which goes on
      record Stacked (snapshots : List SnapshotData) (start : Stage) (front : List SnapshotData) (before : SnapshotData) (number : ℕ) : Type 0 where
        last : Stage
        so_far : List SnapshotData
        snapshot : SnapshotData
        early : IsEarly last
        adds : Adds (with_stacks start front before) (snapshot_statements number snapshots) (with_stacks last so_far snapshot)
        all : snapshots_at last so_far snapshot ≡ snapshots_at start front before ++ snapshots

      adds_snapshots : (start : Stage) (front : List SnapshotData) (before : SnapshotData) (number : ℕ) (snapshots : List SnapshotData) → IsEarly start → number ≡ length (snapshots_at start front before)
          → length (snapshots_at start front before) + length snapshots ≤ 4096 → AllByRecursion IsSnapshot snapshots → Stacked snapshots start front before number
      adds_snapshots start front before number [] is same room are = record { last = start; so_far = front; snapshot = before; early = is; adds = refl; all = sym (append-nil (snapshots_at start front before)) }
      adds_snapshots start front before number (snapshot ∷ snapshots) is same room are =
          let stacked = snapshots_at start front before in
          let rest = adds_snapshots stage.Snapshots stacked snapshot (number + 1) snapshots snapshots_are_early (omega (arith, length-append stacked (snapshot ∷ []))) (omega (arith, length-append stacked (snapshot ∷ []))) are.1 in
          record {
            last = rest.last;
            so_far = rest.so_far;
            snapshot = rest.snapshot;
            early = rest.early;
            adds = adds_then (with_stacks start front before) (with_stacks stage.Snapshots stacked snapshot) (with_stacks rest.last rest.so_far rest.snapshot) (snapshot_lines number snapshot) (snapshot_statements (number + 1) snapshots)
                (adds_snapshot start front before snapshot number is.may_stack same (omega arith) are.0) rest.adds;
            all = rest.all ∙ append_assoc stacked (snapshot ∷ []) snapshots;
          }

    -- ---- before the first round

    early_open : (fixed : List ℕ) (snapshots : List SnapshotData) (few_stacks : length snapshots ≤ 4096) (start : Stage) (so_far : List SnapshotData) (snapshot : SnapshotData) → IsEarly start → snapshots_at start so_far snapshot ≡ snapshots → IsOpen version nodes loads images sections few fixed snapshots few_stacks [] (at start images sections fixed so_far snapshot)
    early_open fixed snapshots few_stacks start so_far snapshot is all = record {
      may_begin = is.may_begin;
      may_end = is.may_end;
      after = λ next. ap₂ (λ (r : List (List (List Event))) (x : List SnapshotData). at_rounds next images sections fixed x no_snapshot r) is.none all;
    }

-- a script's lines can be added one after another
abbrev pub whole : ScriptData → DraftData
whole s = record { stage = stage.Ended; script = s; snapshot = no_snapshot; threads = []; events = []; totals = totals_of s.rounds }

script_adds : (bytes : List ℕ) (s : ScriptData) → IsScript bytes s → Adds nothing_known (body_statements s ++ statement.End ∷ []) (whole s)
script_adds bytes s is =
    let run = is.runnable in
    let few = run.images.0 in
    let spans = recursion_from_All IsSpan s.images run.images.1 in
    let sections = recursion_from_All IsSectionOf s.sections run.sections.1 in
    let are = recursion_from_All (IsRound (counts_of s)) s.rounds run.rounds.1 in
    let start = after_fixed s.version s.nodes s.loads stage.Images s.fixed in
    let at_first = at s.version s.nodes s.loads stage.Images [] [] [] [] no_snapshot in
    let at_images = at s.version s.nodes s.loads stage.Images s.images s.sections [] [] no_snapshot in
    let at_fixed = at s.version s.nodes s.loads start s.images s.sections s.fixed [] no_snapshot in
    let first = adds_first s.version s.nodes s.loads run.version.0 run.version.1 run.nodes.0 run.nodes.1 run.loads.0 run.loads.1 in
    let images = adds_images s.version s.nodes s.loads [] s.images 0 [] s.sections refl run.sections.0 (omega (arith, few)) spans sections in
    let fixed = adds_fixed s.version s.nodes s.loads s.images s.sections few stage.Images [] s.fixed refl run.fixed in
    let is_early = early s.version s.nodes s.loads s.images s.sections few s.fixed in
    let none : snapshots_at start [] no_snapshot ≡ [] = none_stacked s.version s.nodes s.loads s.fixed in
    let no_count : length (snapshots_at start [] no_snapshot) ≡ 0 = ap (λ (x : List SnapshotData). length x) none in
    let some = run.snapshots.0 in
    let stacks = adds_snapshots s.version s.nodes s.loads s.images s.sections few s.fixed start [] no_snapshot 0 s.snapshots is_early (omega arith) (omega arith) (recursion_from_All IsSnapshot s.snapshots run.snapshots.1) in
    let all_stacks : snapshots_at stacks.last stacks.so_far stacks.snapshot ≡ s.snapshots = stacks.all ∙ ap (λ (x : List SnapshotData). x ++ s.snapshots) none in
    let at_stacks = at s.version s.nodes s.loads stacks.last s.images s.sections s.fixed stacks.so_far stacks.snapshot in
    let opened = early_open s.version s.nodes s.loads s.images s.sections few s.fixed s.snapshots some stacks.last stacks.so_far stacks.snapshot stacks.early all_stacks in
    let rounds = adds_rounds s.version s.nodes s.loads s.images s.sections few s.fixed s.snapshots some at_stacks [] s.rounds opened run.unwinds (omega (arith, run.rounds.0)) are in
    let front = first_statements s.version s.nodes s.loads ++ image_statements 0 s.images s.sections in
    let one = adds_then nothing_known at_first at_images (first_statements s.version s.nodes s.loads) (image_statements 0 s.images s.sections) first images in
    let two = adds_then nothing_known at_images at_fixed front (map statement.Fixed s.fixed) one fixed in
    let three = adds_then nothing_known at_fixed at_stacks (front ++ map statement.Fixed s.fixed) (snapshot_statements 0 s.snapshots) two stacks.adds in
    let all = adds_then nothing_known at_stacks (whole s) (front ++ map statement.Fixed s.fixed ++ snapshot_statements 0 s.snapshots) (round_statements s.rounds ++ statement.End ∷ []) three rounds in
    subst (λ (x : List Statement). Adds nothing_known x (whole s)) (sym (append_assoc (front ++ map statement.Fixed s.fixed ++ snapshot_statements 0 s.snapshots) (round_statements s.rounds) (statement.End ∷ []))) all

-- what is spelled is read
pub outcome_complete : (bytes : List ℕ) (s : ScriptData) → IsScript bytes s → outcome bytes ≡ Ok (whole s)
unfolding after_lines at_end script_text
outcome_complete bytes s is =
    let statements = body_statements s ++ statement.End ∷ [] in
    ap outcome (is.text ∙ sym (append-nil (statements_text statements)))
    ∙ reads_all nothing_known (whole s) statements 1 [] (script_adds bytes s is)

abbrev ended_with : DraftData → Result DraftData BadLine
ended_with known = Ok known

-- bytes spell one script at the most
pub one_script : (bytes : List ℕ) (s t : ScriptData) → IsScript bytes s → IsScript bytes t → s ≡ t
one_script bytes s t p q = ap (λ (d : DraftData). d.script) (same (whole s) (whole t) (sym (outcome_complete bytes s p) ∙ outcome_complete bytes t q))
  where
    same : (x y : DraftData) → ended_with x ≡ ended_with y → x ≡ y
    same x y e = cc
