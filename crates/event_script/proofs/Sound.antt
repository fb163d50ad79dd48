-- What is read is spelled so: each good line says what it adds.
use Rattle.std.proofs.Common.{◌≡◌, ℕ, ◌+◌, ◌-◌, ◌^◌, ◌<◌, ◌≤◌, Bool, true, cond, ◌&&◌, eqb, ltb, leb, List, [], ◌∷◌, ◌++◌, length, map, Result, Ok, Err, refl, sym, ap, ap₂, subst, ◌∙◌, append_assoc, eqb-true, ltb-true, leb-true, arith, length-append}
use Rattle.std.specs.List.{slice_get, All}
use Rattle.std.specs.Option.{ok_or}
use Rattle.std.proofs.lemmas.Bool.{and_parts}
use Rattle.std.proofs.lemmas.List.Elements.{All-push}
use Rattle.hex.specs.Hex.{IsBytes}
use Rattle.reg_model.specs.SpanData.{SpanData, IsSpan}
use Rattle.frame_parse.specs.Sections.{SectionData}
use Rattle.frame_parse.specs.Reading.{section_of}
use Rattle.frame_parse.specs.declared.fault.FrameFault.{FrameFault}
use Rattle.frame_expr.specs.Regions.{RegionData}
use Rattle.script_text.specs.declared.statement.SnapshotFields.{SnapshotFields}
use Rattle.script_text.specs.ScriptData.{ScriptData, ImageData, SnapshotData, Counts, counts_of, IsSnapshot, recorded_bytes, IsSectionOf, AreFixed, IsEvent, IsThread, IsRound}
use Rattle.script_text.specs.Statements.{kind_of_statement, HasForm}
use Rattle.script_text.specs.Spelling.{image_data, image_statements, snapshot_lines, snapshot_statements, round_statements}
use Rattle.event_script.specs.Draft.{DraftData, may_come, span_from, with_image, with_statement}
use Rattle.event_script.specs.Reading.{section_or, image_added, last_fixed, is_above, fixed_added, snapshot_added, accepts, region_added, memory_added, is_named, has_room, added}
use Rattle.script_text.specs.declared.script.Event.{Event}
use Rattle.script_text.specs.declared.script.Event.TheVariants as event
use Rattle.script_text.specs.declared.reason.Reason.{Reason}
use Rattle.script_text.specs.declared.reason.Reason.TheVariants as reason
use Rattle.event_script.specs.declared.reader.kinds.Stage.{Stage}
use Rattle.event_script.specs.declared.reader.kinds.Stage.TheVariants as stage
use Rattle.script_text.specs.declared.statement.Statement.{Statement}
use Rattle.script_text.specs.declared.statement.Statement.TheVariants as statement
use Rattle.event_script.proofs.Steps.{bind_ok, guard_last, guard_then, ok_is, some_from}
use Rattle.event_script.proofs.Sections.{section_is}
use Rattle.event_script.proofs.Fixed.{fixed_push}
use Rattle.event_script.specs.declared.reader.totals.Totals.{Totals}
use Rattle.event_script.proofs.EventTotals.{totalled_round, totalled_thread, totalled_event}
use Rattle.event_script.proofs.SoFar.{AreRounds, Sound, Step, same_step, no_events, no_threads, no_rounds, no_fixed}
use Rattle.event_script.proofs.Recorded.{accepted_true, no_memory, snapshot_push}
use Rattle.event_script.proofs.LineLists.{before_fixed, before_rounds, before_snapshots, rounds_push, thread_begins, event_comes, thread_push, round_push}
use Rattle.script_text.proofs.StatementLists.{images_push, map_push, snapshots_push}

-- ---- sections

abbrev found_section : SectionData → Result SectionData Reason
found_section section = Ok section

contents_is : (x y : SectionData) → found_section x ≡ found_section y → x ≡ y
contents_is x y e = cc

pub section_from_or : (given : Result SectionData FrameFault) (section : SectionData) → section_or given ≡ Ok section → given ≡ Ok section
section_from_or (Ok found) section e = ap Ok (contents_is found section e)
section_from_or (Err fault) section e = absurd cc

-- an image's line, from what it says
image_is : (image : ImageData) (section : SectionData) (count : ℕ) → image.number ≡ count → 0 < image.size → section.address ≡ image.section → section.bytes ≡ image.bytes → image_data (0 + count) (span_from image) section ≡ image
image_is image section count number some address bytes =
    let number_is : 0 + count ≡ image.number = omega arith in
    let size_is : image.base + image.size - 1 + 1 - image.base ≡ image.size = omega arith in
    ap₂ (λ (n s : ℕ). made n s section.address section.bytes) number_is size_is ∙ ap₂ (λ (a : ℕ) (b : List ℕ). made image.number image.size a b) address bytes
  where
    made : ℕ → ℕ → ℕ → List ℕ → ImageData
    made n s a b = record { number = n; base = image.base; size = s; section = a; bytes = b }

-- ---- one more line

-- a step to a draft that is made where a test holds, and it did
guarded_step : (test : Bool) (why : Reason) (known made next : DraftData) (s : Statement) → cond test (Ok made) (Err why) ≡ Ok next → (test ≡ true → Step known made s) → Step known next s
guarded_step test why known made next s e step = (let held = guard_last test why made next e in same_step known made next s held.1 (step held.0))

module _ (script : ScriptData) (snapshot : SnapshotData) (threads : List (List Event)) (events : List Event) (totals : Totals) where
  abbrev as_of : Stage → DraftData
  as_of stage = record { stage = stage; script = script; snapshot = snapshot; threads = threads; events = events; totals = totals }

  abbrev images_part : List Statement
  images_part = image_statements 0 script.images script.sections

  abbrev fixed_part : List Statement
  fixed_part = images_part ++ map statement.Fixed script.fixed

  -- with these snapshots
  abbrev part_with : List SnapshotData → List Statement
  part_with snapshots = fixed_part ++ snapshot_statements 0 snapshots

  abbrev snapshots_part : List Statement
  snapshots_part = part_with script.snapshots

  abbrev top : List Statement → List Statement
  top lines = statement.Version script.version ∷ statement.Nodes script.nodes ∷ statement.Loads script.loads ∷ lines

  nodes_sound : (nodes : ℕ) (next : DraftData) → Sound (as_of stage.Nodes) → cond (leb 4 nodes && leb nodes 16384) (Ok (with_statement (as_of stage.Nodes) (statement.Nodes nodes))) (Err reason.Limit) ≡ Ok next → Step (as_of stage.Nodes) next (statement.Nodes nodes)
  nodes_sound nodes next s e =
      guarded_step (leb 4 nodes && leb nodes 16384) reason.Limit _ (with_statement (as_of stage.Nodes) (statement.Nodes nodes)) next _ e (λ kept. let limits = and_parts (leb 4 nodes) (leb nodes 16384) kept in record {
        sound = record { each = s.each; sections = s.sections; version = s.version; nodes = (leb-true 4 nodes limits.0, leb-true nodes 16384 limits.1); loads = tt; count = s.count; spans = s.spans; fixed = s.fixed; snapshots = s.snapshots; rounds = s.rounds; threads = s.threads; events = s.events; totals = s.totals; shape = s.shape };
        statements = refl;
      })

  loads_sound : (loads : ℕ) (next : DraftData) → Sound (as_of stage.Loads) → cond (leb 1 loads && leb loads 1024) (Ok (with_statement (as_of stage.Loads) (statement.Loads loads))) (Err reason.Limit) ≡ Ok next → Step (as_of stage.Loads) next (statement.Loads loads)
  loads_sound loads next s e =
      guarded_step (leb 1 loads && leb loads 1024) reason.Limit _ (with_statement (as_of stage.Loads) (statement.Loads loads)) next _ e (λ kept. let limits = and_parts (leb 1 loads) (leb loads 1024) kept in record {
        sound = record { each = s.each; sections = s.sections; version = s.version; nodes = s.nodes; loads = (leb-true 1 loads limits.0, leb-true loads 1024 limits.1); count = s.count; spans = s.spans; fixed = s.fixed; snapshots = s.snapshots; rounds = s.rounds; threads = s.threads; events = s.events; totals = s.totals; shape = (s.shape.1, s.shape.2, s.shape.3, s.shape.4, s.shape.5) };
        statements = ap (λ (x : List Statement). statement.Version script.version ∷ statement.Nodes script.nodes ∷ statement.Loads loads ∷ x) (
            before_fixed images_part script.fixed script.snapshots script.rounds s.shape.4 s.shape.5 s.shape.1
            ∙ ap (λ (is : List SpanData). image_statements 0 is script.sections) s.shape.0);
      })

  -- before the first round, whatever there is to name
  none_over : (any : Counts) → script.rounds ≡ [] → All (IsRound any) script.rounds
  none_over any none = subst (All (IsRound any)) (sym none) (no_rounds any)

  none_before : (any : Counts) → threads ≡ [] → IsRound any threads
  none_before any none = subst (IsRound any) (sym none) (no_threads any)

  none_happened : (any : Counts) → events ≡ [] → IsThread any events
  none_happened any none = subst (IsThread any) (sym none) (no_events any)

  version_sound : (version : ℕ) (next : DraftData) → Sound (as_of stage.Version) → cond (leb 1 version && leb version 2) (Ok (with_statement (as_of stage.Version) (statement.Version version))) (Err reason.Limit) ≡ Ok next → Step (as_of stage.Version) next (statement.Version version)
  version_sound version next s e =
      let made = with_statement (as_of stage.Version) (statement.Version version) in
      let now = counts_of made.script in
      guarded_step (leb 1 version && leb version 2) reason.Limit _ made next _ e (λ kept. let limits = and_parts (leb 1 version) (leb version 2) kept in record {
        sound = record { each = s.each; sections = s.sections; version = (leb-true 1 version limits.0, leb-true version 2 limits.1); nodes = tt; loads = tt; count = s.count; spans = s.spans; fixed = s.fixed; snapshots = s.snapshots; rounds = none_over now s.shape.1; threads = none_before now s.shape.2; events = none_happened now s.shape.3; totals = s.totals; shape = s.shape };
        statements = refl;
      })

  image_sound : (image : ImageData) (next : DraftData) → HasForm (statement.Image image) → Sound (as_of stage.Images) → image_added (as_of stage.Images) image ≡ Ok next → Step (as_of stage.Images) next (statement.Image image)
  image_sound image next are s e =
      let images = script.images in
      let span = span_from image in
      let in_order = guard_then (eqb image.number (length images)) reason.Order _ next e in
      let in_limit = guard_then (ltb (length images) 4096 && leb (length image.bytes) 65536) reason.Limit _ next in_order.1 in
      let is_span = guard_then (ltb 0 image.size && leb (image.base + image.size) (2 ^ 64 - 1)) reason.Span _ next in_limit.1 in
      let read = bind_ok (section_or (section_of image.section image.bytes)) _ next is_span.1 in
      let section = read.0 in
      let made : DraftData = with_image (as_of stage.Images) image section in
      let section_is_one = section_is image.section image.bytes section (section_from_or (section_of image.section image.bytes) section read.1) in
      let parts = and_parts (ltb 0 image.size) (leb (image.base + image.size) (2 ^ 64 - 1)) is_span.0 in
      let limits = and_parts (ltb (length images) 4096) (leb (length image.bytes) 65536) in_limit.0 in
      let some = ltb-true 0 image.size parts.0 in
      let below = leb-true (image.base + image.size) (2 ^ 64 - 1) parts.1 in
      let room = ltb-true (length images) 4096 limits.0 in
      let small = leb-true (length image.bytes) 65536 limits.1 in
      let number = eqb-true image.number (length images) in_order.0 in
      let each = s.each in
      let good : IsSpan span = record { ordered = omega arith; below_top = omega arith } in
      let is_section : IsSectionOf section = record {
        address = subst (λ (x : ℕ). x < 2 ^ 64) (sym section_is_one.0) are.3;
        size = subst (λ (x : List ℕ). length x ≤ 65536) (sym section_is_one.1) small;
        bytes = subst IsBytes (sym section_is_one.1) are.4;
        records = section_is_one.2;
      } in
      same_step _ made next _ (ok_is made next read.2) (record {
        sound = record {
          each = omega (arith, length-append script.sections (section ∷ []), length-append images (span ∷ []));
          sections = All-push IsSectionOf script.sections section s.sections is_section;
          version = s.version;
          nodes = s.nodes;
          loads = s.loads;
          count = omega (arith, length-append images (span ∷ []));
          spans = All-push IsSpan images span s.spans good;
          fixed = subst (AreFixed (images ++ span ∷ [])) (sym s.shape.3) (no_fixed (images ++ span ∷ []));
          snapshots = s.snapshots;
          rounds = none_over (counts_of made.script) s.shape.0;
          threads = none_before (counts_of made.script) s.shape.1;
          events = none_happened (counts_of made.script) s.shape.2;
          totals = s.totals;
          shape = s.shape;
        };
        statements = ap top (
            before_fixed (image_statements 0 (images ++ span ∷ []) (script.sections ++ section ∷ [])) script.fixed script.snapshots script.rounds s.shape.3 s.shape.4 s.shape.0
            ∙ images_push 0 images script.sections span section each
            ∙ ap₂ (λ (x : List Statement) (y : ImageData). x ++ statement.Image y ∷ []) (sym (before_fixed images_part script.fixed script.snapshots script.rounds s.shape.3 s.shape.4 s.shape.0)) (image_is image section (length images) number some section_is_one.0 section_is_one.1));
      })

  -- ---- fixed images

  -- where no image was fixed, the next may be
  may_be_fixed : Sound (as_of stage.Images) → Sound (as_of stage.Fixed)
  may_be_fixed s = record { each = s.each; sections = s.sections; version = s.version; nodes = s.nodes; loads = s.loads; count = s.count; spans = s.spans; fixed = s.fixed; snapshots = s.snapshots; rounds = s.rounds; threads = s.threads; events = s.events; totals = s.totals; shape = (s.shape.0, s.shape.1, s.shape.4, s.shape.2) }

  from_images : (next : DraftData) (s : Statement) → Step (as_of stage.Fixed) next s → Step (as_of stage.Images) next s
  from_images next s step = record { sound = step.sound; statements = step.statements }

  fixed_sound : (image : ℕ) (next : DraftData) → Sound (as_of stage.Fixed) → fixed_added (as_of stage.Fixed) image ≡ Ok next → Step (as_of stage.Fixed) next (statement.Fixed image)
  fixed_sound image next s e =
      let named = bind_ok (ok_or (slice_get script.images image) reason.Name) _ next e in
      let found = some_from (slice_get script.images image) reason.Name named.0 named.1 in
      let made = with_statement (as_of stage.Fixed) (statement.Fixed image) in
      guarded_step (is_above (last_fixed script.images script.fixed) named.0) reason.Fixed _ made next _ named.2 (λ above. record {
        sound = record { each = s.each; sections = s.sections; version = s.version; nodes = s.nodes; loads = s.loads; count = s.count; spans = s.spans; fixed = fixed_push script.images script.fixed image named.0 s.fixed found above; snapshots = s.snapshots; rounds = s.rounds; threads = s.threads; events = s.events; totals = s.totals; shape = s.shape };
        statements = ap top (
            before_snapshots (images_part ++ map statement.Fixed (script.fixed ++ image ∷ [])) script.snapshots script.rounds s.shape.2 s.shape.0
            ∙ ap (λ (x : List Statement). images_part ++ x) (map_push statement.Fixed script.fixed image)
            ∙ sym (append_assoc images_part (map statement.Fixed script.fixed) (statement.Fixed image ∷ []))
            ∙ ap (λ (x : List Statement). x ++ statement.Fixed image ∷ []) (sym (before_snapshots fixed_part script.snapshots script.rounds s.shape.2 s.shape.0)));
      })

  abbrev counts : Counts
  counts = counts_of script

  -- ---- snapshots

  -- the snapshots so far where one goes on
  abbrev pub with_open : List SnapshotData
  with_open = script.snapshots ++ snapshot ∷ []

  abbrev counts_open : Counts
  counts_open = record { version = script.version; images = length script.images; snapshots = length with_open }

  pub open_snapshots : (length script.snapshots < 4096) × IsSnapshot snapshot → (length script.snapshots ≤ 4096) × All IsSnapshot script.snapshots → (length with_open ≤ 4096) × All IsSnapshot with_open
  open_snapshots one so_far =
      let few = one.0 in
      (omega (arith, length-append script.snapshots (snapshot ∷ [])), All-push IsSnapshot script.snapshots snapshot so_far.1 one.1)

  snapshot_begun : (snapshots : List SnapshotData) (fields : SnapshotFields) → script.rounds ≡ [] → fields.number ≡ length snapshots
      → top (part_with (snapshots ++ record { regs = fields.regs; memory = [] } ∷ []) ++ round_statements script.rounds) ≡ top (part_with snapshots ++ round_statements script.rounds) ++ statement.Snapshot fields ∷ []
  snapshot_begun snapshots fields no_rounds number =
      let begun : SnapshotData = record { regs = fields.regs; memory = [] } in
      let number_is : 0 + length snapshots ≡ fields.number = omega arith in
      let lines : snapshot_lines (0 + length snapshots) begun ≡ statement.Snapshot fields ∷ [] = ap (λ (n : ℕ). statement.Snapshot (record { number = n; regs = fields.regs }) ∷ []) number_is in
      ap top (
      before_rounds (part_with (snapshots ++ begun ∷ [])) script.rounds no_rounds
      ∙ ap (λ (x : List Statement). fixed_part ++ x) (snapshots_push 0 snapshots begun ∙ ap (λ (x : List Statement). snapshot_statements 0 snapshots ++ x) lines)
      ∙ sym (append_assoc fixed_part (snapshot_statements 0 snapshots) (statement.Snapshot fields ∷ []))
      ∙ ap (λ (x : List Statement). x ++ statement.Snapshot fields ∷ []) (sym (before_rounds (part_with snapshots) script.rounds no_rounds)))

  snapshot_sound : (fields : SnapshotFields) (next : DraftData) → HasForm (statement.Snapshot fields) → Sound (as_of stage.Fixed) → snapshot_added (as_of stage.Fixed) fields ≡ Ok next → Step (as_of stage.Fixed) next (statement.Snapshot fields)
  snapshot_sound fields next form s e =
      let made = with_statement (as_of stage.Fixed) (statement.Snapshot fields) in
      let order = guard_then (eqb fields.number (length script.snapshots)) reason.Order _ next e in
      guarded_step (ltb (length script.snapshots) 4096) reason.Limit _ made next _ order.1 (λ few. record {
        sound = record { each = s.each; sections = s.sections; version = s.version; nodes = s.nodes; loads = s.loads; count = s.count; spans = s.spans; fixed = s.fixed; snapshots = s.snapshots; rounds = s.rounds; threads = s.threads; events = s.events; totals = s.totals; shape = (s.shape.0, s.shape.1, ltb-true _ _ few, no_memory fields form, s.shape.3) };
        statements = snapshot_begun script.snapshots fields s.shape.0 (eqb-true _ _ order.0);
      })

  next_snapshot_sound : (fields : SnapshotFields) (next : DraftData) → HasForm (statement.Snapshot fields) → Sound (as_of stage.Snapshots) → snapshot_added (as_of stage.Snapshots) fields ≡ Ok next → Step (as_of stage.Snapshots) next (statement.Snapshot fields)
  next_snapshot_sound fields next form s e =
      let made = with_statement (as_of stage.Snapshots) (statement.Snapshot fields) in
      let order = guard_then (eqb fields.number (length with_open)) reason.Order _ next e in
      guarded_step (ltb (length with_open) 4096) reason.Limit _ made next _ order.1 (λ few. record {
        sound = record { each = s.each; sections = s.sections; version = s.version; nodes = s.nodes; loads = s.loads; count = s.count; spans = s.spans; fixed = s.fixed; snapshots = open_snapshots (s.shape.2, s.shape.3) s.snapshots; rounds = none_over counts_open s.shape.0; threads = none_before counts_open s.shape.1; events = none_happened counts_open s.shape.4; totals = s.totals; shape = (s.shape.0, s.shape.1, ltb-true _ _ few, no_memory fields form, s.shape.4) };
        statements = snapshot_begun with_open fields s.shape.0 (eqb-true _ _ order.0);
      })

  memory_sound : (region : RegionData) (next : DraftData) → HasForm (statement.Memory region) → Sound (as_of stage.Snapshots) → memory_added (as_of stage.Snapshots) region ≡ Ok next → Step (as_of stage.Snapshots) next (statement.Memory region)
  memory_sound region next form s e =
      let grown : SnapshotData = record snapshot { memory = snapshot.memory ++ region ∷ [] } in
      let made = with_statement (as_of stage.Snapshots) (statement.Memory region) in
      let added_one = bind_ok (region_added snapshot region) (λ x. Ok (record (as_of stage.Snapshots) { snapshot = x })) next e in
      let limit = guard_then (leb (recorded_bytes snapshot.memory + length region.bytes) 65536) reason.Limit _ added_one.0 added_one.1 in
      let accepted = guard_last (accepts snapshot.memory region) reason.Region grown added_one.0 limit.1 in
      let same : made ≡ next = ap (λ (x : SnapshotData). record (as_of stage.Snapshots) { snapshot = x }) accepted.1 ∙ ok_is _ next added_one.2 in
      let number = 0 + length script.snapshots in
      same_step _ made next _ same (record {
        sound = record { each = s.each; sections = s.sections; version = s.version; nodes = s.nodes; loads = s.loads; count = s.count; spans = s.spans; fixed = s.fixed; snapshots = s.snapshots; rounds = s.rounds; threads = s.threads; events = s.events; totals = s.totals; shape = (s.shape.0, s.shape.1, s.shape.2, snapshot_push snapshot region s.shape.3 form (leb-true _ _ limit.0) (accepted_true snapshot.memory region accepted.0), s.shape.4) };
        statements = ap top (
            before_rounds (part_with (script.snapshots ++ grown ∷ [])) script.rounds s.shape.0
            ∙ ap (λ (x : List Statement). fixed_part ++ x) (
            snapshots_push 0 script.snapshots grown
            ∙ ap (λ (x : List Statement). snapshot_statements 0 script.snapshots ++ statement.Snapshot (record { number = number; regs = snapshot.regs }) ∷ x) (map_push statement.Memory snapshot.memory region)
            ∙ sym (append_assoc (snapshot_statements 0 script.snapshots) (snapshot_lines number snapshot) (statement.Memory region ∷ []))
            ∙ ap (λ (x : List Statement). x ++ statement.Memory region ∷ []) (sym (snapshots_push 0 script.snapshots snapshot)))
            ∙ sym (append_assoc fixed_part (snapshot_statements 0 with_open) (statement.Memory region ∷ []))
            ∙ ap (λ (x : List Statement). x ++ statement.Memory region ∷ []) (sym (before_rounds (part_with with_open) script.rounds s.shape.0)));
      })

  -- ---- rounds and threads

  abbrev lines_with : List SnapshotData → List (List (List Event)) → List Statement
  lines_with snapshots rounds = top (part_with snapshots ++ round_statements rounds)

  one_more : (snapshots : List SnapshotData) (old new : List (List (List Event))) (line : Statement) → round_statements new ≡ round_statements old ++ line ∷ [] → lines_with snapshots new ≡ lines_with snapshots old ++ line ∷ []
  one_more snapshots old new line is =
      ap top (ap (λ (x : List Statement). part_with snapshots ++ x) is ∙ sym (append_assoc (part_with snapshots) (round_statements old) (line ∷ [])))

  -- after a snapshot, before the first round, after a round without threads, and after a thread
  round_after_snapshots : (next : DraftData) → Sound (as_of stage.Snapshots) → cond (ltb (length script.rounds) 64) (Ok (with_statement (as_of stage.Snapshots) statement.Round)) (Err reason.Limit) ≡ Ok next → Step (as_of stage.Snapshots) next statement.Round
  round_after_snapshots next s e =
      guarded_step (ltb (length script.rounds) 64) reason.Limit _ (with_statement (as_of stage.Snapshots) statement.Round) next _ e (λ few. record {
        sound = record { each = s.each; sections = s.sections; version = s.version; nodes = s.nodes; loads = s.loads; count = s.count; spans = s.spans; fixed = s.fixed; snapshots = open_snapshots (s.shape.2, s.shape.3) s.snapshots; rounds = none_over counts_open s.shape.0; threads = no_threads counts_open; events = no_events counts_open; totals = totalled_round totals script.rounds s.totals; shape = ltb-true _ _ few };
        statements = one_more with_open script.rounds (script.rounds ++ [] ∷ []) statement.Round (rounds_push script.rounds []);
      })

  round_sound : (next : DraftData) → Sound (as_of stage.Fixed) → cond (ltb (length script.rounds) 64) (Ok (with_statement (as_of stage.Fixed) statement.Round)) (Err reason.Limit) ≡ Ok next → Step (as_of stage.Fixed) next statement.Round
  round_sound next s e =
      guarded_step (ltb (length script.rounds) 64) reason.Limit _ (with_statement (as_of stage.Fixed) statement.Round) next _ e (λ few. record {
        sound = record { each = s.each; sections = s.sections; version = s.version; nodes = s.nodes; loads = s.loads; count = s.count; spans = s.spans; fixed = s.fixed; snapshots = s.snapshots; rounds = s.rounds; threads = no_threads counts; events = no_events counts; totals = totalled_round totals script.rounds s.totals; shape = ltb-true _ _ few };
        statements = one_more script.snapshots script.rounds (script.rounds ++ [] ∷ []) statement.Round (rounds_push script.rounds []);
      })

  -- the rounds so far where one goes on, without threads, or with one that goes on
  abbrev with_round : List (List (List Event))
  with_round = script.rounds ++ threads ∷ []

  abbrev with_thread : List (List (List Event))
  with_thread = script.rounds ++ (threads ++ events ∷ []) ∷ []

  pub round_rounds : Sound (as_of stage.Round) → AreRounds counts with_round
  round_rounds s = round_push counts script.rounds threads s.shape s.rounds s.threads

  pub thread_rounds : Sound (as_of stage.Thread) → AreRounds counts with_thread
  thread_rounds s = round_push counts script.rounds (threads ++ events ∷ []) s.shape.0 s.rounds (thread_push counts threads events s.shape.1 s.threads s.events)

  round_after_round : (next : DraftData) → Sound (as_of stage.Round) → cond (ltb (length with_round) 64) (Ok (with_statement (as_of stage.Round) statement.Round)) (Err reason.Limit) ≡ Ok next → Step (as_of stage.Round) next statement.Round
  round_after_round next s e =
      guarded_step (ltb (length with_round) 64) reason.Limit _ (with_statement (as_of stage.Round) statement.Round) next _ e (λ few. record {
        sound = record { each = s.each; sections = s.sections; version = s.version; nodes = s.nodes; loads = s.loads; count = s.count; spans = s.spans; fixed = s.fixed; snapshots = s.snapshots; rounds = (round_rounds s).each; threads = no_threads counts; events = no_events counts; totals = totalled_round totals with_round s.totals; shape = ltb-true _ _ few };
        statements = one_more script.snapshots with_round (with_round ++ [] ∷ []) statement.Round (rounds_push with_round []);
      })

  round_after_thread : (next : DraftData) → Sound (as_of stage.Thread) → cond (ltb (length with_thread) 64) (Ok (with_statement (as_of stage.Thread) statement.Round)) (Err reason.Limit) ≡ Ok next → Step (as_of stage.Thread) next statement.Round
  round_after_thread next s e =
      guarded_step (ltb (length with_thread) 64) reason.Limit _ (with_statement (as_of stage.Thread) statement.Round) next _ e (λ few. record {
        sound = record { each = s.each; sections = s.sections; version = s.version; nodes = s.nodes; loads = s.loads; count = s.count; spans = s.spans; fixed = s.fixed; snapshots = s.snapshots; rounds = (thread_rounds s).each; threads = no_threads counts; events = no_events counts; totals = totalled_round totals with_thread s.totals; shape = ltb-true _ _ few };
        statements = one_more script.snapshots with_thread (with_thread ++ [] ∷ []) statement.Round (rounds_push with_thread []);
      })

  thread_sound : (next : DraftData) → Sound (as_of stage.Round) → cond (ltb (length threads) 16) (Ok (with_statement (as_of stage.Round) statement.Thread)) (Err reason.Limit) ≡ Ok next → Step (as_of stage.Round) next statement.Thread
  thread_sound next s e =
      guarded_step (ltb (length threads) 16) reason.Limit _ (with_statement (as_of stage.Round) statement.Thread) next _ e (λ few. record {
        sound = record { each = s.each; sections = s.sections; version = s.version; nodes = s.nodes; loads = s.loads; count = s.count; spans = s.spans; fixed = s.fixed; snapshots = s.snapshots; rounds = s.rounds; threads = s.threads; events = no_events counts; totals = totalled_thread totals script.rounds threads s.totals; shape = (s.shape, ltb-true _ _ few) };
        statements = one_more script.snapshots with_round (script.rounds ++ (threads ++ [] ∷ []) ∷ []) statement.Thread (thread_begins script.rounds threads);
      })

  next_thread_sound : (next : DraftData) → Sound (as_of stage.Thread) → cond (ltb (length (threads ++ events ∷ [])) 16) (Ok (with_statement (as_of stage.Thread) statement.Thread)) (Err reason.Limit) ≡ Ok next → Step (as_of stage.Thread) next statement.Thread
  next_thread_sound next s e =
      guarded_step (ltb (length (threads ++ events ∷ [])) 16) reason.Limit _ (with_statement (as_of stage.Thread) statement.Thread) next _ e (λ few. record {
        sound = record { each = s.each; sections = s.sections; version = s.version; nodes = s.nodes; loads = s.loads; count = s.count; spans = s.spans; fixed = s.fixed; snapshots = s.snapshots; rounds = s.rounds; threads = thread_push counts threads events s.shape.1 s.threads s.events; events = no_events counts; totals = totalled_thread totals script.rounds (threads ++ events ∷ []) s.totals; shape = (s.shape.0, ltb-true _ _ few) };
        statements = one_more script.snapshots with_thread (script.rounds ++ ((threads ++ events ∷ []) ++ [] ∷ []) ∷ []) statement.Thread (thread_begins script.rounds (threads ++ events ∷ []));
      })

  -- the event may come in the version, names an image that there is, and its numbers are small
  abbrev MayHappen : Event → Type 0
  MayHappen e = may_come script.version stage.Thread (kind_of_statement (statement.Event e)) ≡ true

  event_is : (e : Event) → MayHappen e → is_named counts e ≡ true → HasForm (statement.Event e) → IsEvent counts e
  event_is (event.Register image) may named form = ltb-true image (length script.images) named
  event_is (event.Deregister base) may named form = form
  event_is (event.Replace image) may named form = (ltb-true image (length script.images) named, leb-true 2 script.version may)
  event_is (event.Load image) may named form = ltb-true image (length script.images) named
  event_is (event.Unload base) may named form = form
  event_is (event.Find pc) may named form = form
  event_is (event.Unwind stack) may named form = ltb-true stack (length script.snapshots) named

  event_sound : (happens : Event) (next : DraftData) → MayHappen happens → HasForm (statement.Event happens) → Sound (as_of stage.Thread)
      → cond (ltb (length events) 4096 && has_room totals happens) (cond (is_named counts happens) (Ok (with_statement (as_of stage.Thread) (statement.Event happens))) (Err reason.Name)) (Err reason.Limit) ≡ Ok next
      → Step (as_of stage.Thread) next (statement.Event happens)
  event_sound happens next may form s e =
      let made = with_statement (as_of stage.Thread) (statement.Event happens) in
      let limit = guard_then (ltb (length events) 4096 && has_room totals happens) reason.Limit _ next e in
      let room = and_parts (ltb (length events) 4096) (has_room totals happens) limit.0 in
      let few = ltb-true (length events) 4096 room.0 in
      let so_far = s.events in
      guarded_step (is_named counts happens) reason.Name _ made next _ limit.1 (λ named. record {
        sound = record {
          each = s.each;
          sections = s.sections;
          version = s.version;
          nodes = s.nodes;
          loads = s.loads;
          count = s.count;
          spans = s.spans;
          fixed = s.fixed;
          snapshots = s.snapshots;
          rounds = s.rounds;
          threads = s.threads;
          events = (omega (arith, length-append events (happens ∷ [])), All-push (IsEvent counts) events happens so_far.1 (event_is happens may named form));
          totals = totalled_event totals script.rounds threads events s.totals happens room.1;
          shape = s.shape;
        };
        statements = one_more script.snapshots with_thread (script.rounds ++ (threads ++ (events ++ happens ∷ []) ∷ []) ∷ []) (statement.Event happens) (event_comes script.rounds threads events happens);
      })

  -- ---- the last line

  no_round_yet : script.rounds ≡ [] → length script.rounds ≤ 64
  no_round_yet none = omega (arith, ap length none)

  end_fixed : (next : DraftData) → Sound (as_of stage.Fixed) → with_statement (as_of stage.Fixed) statement.End ≡ next → Step (as_of stage.Fixed) next statement.End
  end_fixed next s e = same_step _ (with_statement (as_of stage.Fixed) statement.End) next _ e (record {
    sound = record { each = s.each; sections = s.sections; version = s.version; nodes = s.nodes; loads = s.loads; count = s.count; spans = s.spans; fixed = s.fixed; snapshots = s.snapshots; rounds = s.rounds; threads = no_threads counts; events = no_events counts; totals = s.totals; shape = no_round_yet s.shape.0 };
    statements = refl;
  })

  end_snapshots : (next : DraftData) → Sound (as_of stage.Snapshots) → with_statement (as_of stage.Snapshots) statement.End ≡ next → Step (as_of stage.Snapshots) next statement.End
  end_snapshots next s e = same_step _ (with_statement (as_of stage.Snapshots) statement.End) next _ e (record {
    sound = record { each = s.each; sections = s.sections; version = s.version; nodes = s.nodes; loads = s.loads; count = s.count; spans = s.spans; fixed = s.fixed; snapshots = open_snapshots (s.shape.2, s.shape.3) s.snapshots; rounds = none_over counts_open s.shape.0; threads = no_threads counts_open; events = no_events counts_open; totals = s.totals; shape = no_round_yet s.shape.0 };
    statements = refl;
  })

  end_round : (next : DraftData) → Sound (as_of stage.Round) → with_statement (as_of stage.Round) statement.End ≡ next → Step (as_of stage.Round) next statement.End
  end_round next s e = same_step _ (with_statement (as_of stage.Round) statement.End) next _ e (record {
    sound = record { each = s.each; sections = s.sections; version = s.version; nodes = s.nodes; loads = s.loads; count = s.count; spans = s.spans; fixed = s.fixed; snapshots = s.snapshots; rounds = (round_rounds s).each; threads = no_threads counts; events = no_events counts; totals = s.totals; shape = (round_rounds s).few };
    statements = refl;
  })

  end_thread : (next : DraftData) → Sound (as_of stage.Thread) → with_statement (as_of stage.Thread) statement.End ≡ next → Step (as_of stage.Thread) next statement.End
  end_thread next s e = same_step _ (with_statement (as_of stage.Thread) statement.End) next _ e (record {
    sound = record { each = s.each; sections = s.sections; version = s.version; nodes = s.nodes; loads = s.loads; count = s.count; spans = s.spans; fixed = s.fixed; snapshots = s.snapshots; rounds = (thread_rounds s).each; threads = no_threads counts; events = no_events counts; totals = s.totals; shape = (thread_rounds s).few };
    statements = refl;
  })

  -- ---- a line of any kind
  pub statement_sound : (at : Stage) (s : Statement) (next : DraftData) → may_come script.version at (kind_of_statement s) ≡ true → HasForm s → Sound (as_of at) → added (as_of at) s ≡ Ok next → Step (as_of at) next s
  unfolding added
  statement_sound stage.Version (statement.Version version) next may form s e = version_sound version next s e
  statement_sound stage.Nodes (statement.Nodes nodes) next may form s e = nodes_sound nodes next s e
  statement_sound stage.Loads (statement.Loads loads) next may form s e = loads_sound loads next s e
  statement_sound stage.Images (statement.Image image) next may form s e = image_sound image next form s e
  statement_sound stage.Images (statement.Fixed image) next may form s e = from_images next _ (fixed_sound image next (may_be_fixed s) e)
  statement_sound stage.Images (statement.Snapshot fields) next may form s e = from_images next _ (snapshot_sound fields next form (may_be_fixed s) e)
  statement_sound stage.Images statement.Round next may form s e = from_images next _ (round_sound next (may_be_fixed s) e)
  statement_sound stage.Images statement.End next may form s e = from_images next _ (end_fixed next (may_be_fixed s) (ok_is _ next e))
  statement_sound stage.Fixed (statement.Fixed image) next may form s e = fixed_sound image next s e
  statement_sound stage.Fixed (statement.Snapshot fields) next may form s e = snapshot_sound fields next form s e
  statement_sound stage.Fixed statement.Round next may form s e = round_sound next s e
  statement_sound stage.Fixed statement.End next may form s e = end_fixed next s (ok_is _ next e)
  statement_sound stage.Snapshots (statement.Snapshot fields) next may form s e = next_snapshot_sound fields next form s e
  statement_sound stage.Snapshots (statement.Memory region) next may form s e = memory_sound region next form s e
  statement_sound stage.Snapshots statement.Round next may form s e = round_after_snapshots next s e
  statement_sound stage.Snapshots statement.End next may form s e = end_snapshots next s (ok_is _ next e)
  statement_sound stage.Round statement.Round next may form s e = round_after_round next s e
  statement_sound stage.Round statement.Thread next may form s e = thread_sound next s e
  statement_sound stage.Round statement.End next may form s e = end_round next s (ok_is _ next e)
  statement_sound stage.Thread statement.Round next may form s e = round_after_thread next s e
  statement_sound stage.Thread statement.Thread next may form s e = next_thread_sound next s e
  statement_sound stage.Thread (statement.Event happens) next may form s e = event_sound happens next may form s e
  statement_sound stage.Thread statement.End next may form s e = end_thread next s (ok_is _ next e)
  statement_sound _ (statement.Event (event.Register image)) next may form s e = absurd cc
  statement_sound _ (statement.Event (event.Deregister base)) next may form s e = absurd cc
  statement_sound _ (statement.Event (event.Replace image)) next may form s e = absurd cc
  statement_sound _ (statement.Event (event.Load image)) next may form s e = absurd cc
  statement_sound _ (statement.Event (event.Unload base)) next may form s e = absurd cc
  statement_sound _ (statement.Event (event.Find pc)) next may form s e = absurd cc
  statement_sound _ (statement.Event (event.Unwind stack)) next may form s e = absurd cc
  statement_sound _ _ next may form s e = absurd cc
