-- A line is refused for the first reason of the table that holds of it, or none does.
use Rattle.std.proofs.Common.{◌≡◌, ◌≢◌, ◌⊎◌, inl, inr, ℕ, ◌+◌, ◌-◌, ◌^◌, ◌<◌, ◌≤◌, Bool, true, false, true≢false, cond, ◌&&◌, eqb, ltb, leb, List, [], ◌∷◌, ◌++◌, length, Option, Some, None, Result, Ok, Err, refl, sym, ap, subst, ◌∙◌, eqb-true, ltb-true, leb-true, arith}
use Rattle.std.specs.List.{slice_get}
use Rattle.std.specs.Option.{ok_or}
use Rattle.std.proofs.lemmas.Bool.{and_parts, eqb-false, ltb-false, leb-false}
use Rattle.std.proofs.lemmas.Option.{slice_get_within}
use Rattle.reg_model.specs.SpanData.{SpanData}
use Rattle.frame_parse.specs.Sections.{SectionData}
use Rattle.frame_parse.specs.Reading.{section_of}
use Rattle.frame_parse.specs.declared.fault.FrameFault.{FrameFault}
use Rattle.script_text.specs.ScriptData.{ImageData, SnapshotData, recorded_bytes, counts_of, span_of}
use Rattle.script_text.specs.Fields.{pieces, is_printable}
use Rattle.script_text.specs.Statements.{word_of, forms, kind_of_statement, statement_fields, AreFields}
use Rattle.script_text.specs.Spelling.{Line}
use Rattle.event_script.specs.Draft.{DraftData, may_come, is_ended, snapshots_so_far, threads_so_far, rounds_so_far, with_image, with_statement}
use Rattle.frame_expr.specs.Regions.{RegionData}
use Rattle.script_text.specs.declared.statement.SnapshotFields.{SnapshotFields}
use Rattle.event_script.specs.Reasons.{LineText, IsOfKind, Says, SaysSome, IsOutOfOrder, IsUnwindTooMany, IsOutsideLimit, IsNoSpan, HasBadSection, IsNameless, IsNotAbove, IsNoRegion, IsReason, IsGood}
use Rattle.event_script.specs.Refusal.{whole_line}
use Rattle.event_script.specs.Reading.{◌>=>◌, kind_of, statement_of, section_or, image_added, last_fixed, is_above, fixed_added, snapshot_added, accepts, memory_added, is_named, has_room, added, by_word, after_line, at_end}
use Rattle.script_text.specs.declared.script.Event.{Event}
use Rattle.script_text.specs.declared.script.Event.TheVariants as event
use Rattle.script_text.specs.declared.reason.Reason.{Reason}
use Rattle.script_text.specs.declared.reason.Reason.TheVariants as reason
use Rattle.script_text.specs.declared.kind.Kind.{Kind}
use Rattle.script_text.specs.declared.statement.Statement.{Statement}
use Rattle.script_text.specs.declared.statement.Statement.TheVariants as statement
use Rattle.script_text.proofs.Pieces.{some_pieces}
use Rattle.event_script.proofs.Steps.{kind_word}
use Rattle.event_script.proofs.Words.{word_again}
use Rattle.event_script.proofs.Spoken.{same_kind, says_one, spoken, fields_fit, Wrong, unspoken}
use Rattle.event_script.proofs.Sections.{section_bad, section_refused}
use Rattle.event_script.proofs.Fixed.{found_span, above_low, too_low}
use Rattle.event_script.proofs.Recorded.{accepted_false, accepted_true}
use Rattle.event_script.proofs.Passed.{Judged, Passed, pass, pass_none, pass_region, pass_section, pass_word, refused}

-- ---- what a line says is judged

module _ (known : DraftData) (text : LineText) (s : Statement) (says : Says text s) where
  not_said : (P : Statement → Type 0) → (P s → ⊥) → SaysSome text P → ⊥
  not_said P refute (t, other, holds) = refute (subst P (says_one text t s other says) holds)

  -- reasons that never hold of it
  record Rows : Type 0 where
    order : IsOutOfOrder known s → ⊥
    limit : IsOutsideLimit known s → ⊥
    span : IsNoSpan s → ⊥
    section : (fault : FrameFault) → HasBadSection fault s → ⊥
    name : IsNameless known s → ⊥
    fixed : IsNotAbove known s → ⊥
    region : IsNoRegion known s → ⊥

  to_limit : Passed known text 9 → (IsOutOfOrder known s → ⊥) → Passed known text 10
  to_limit before order = pass known text reason.Order before (λ _. not_said (IsOutOfOrder known) order)

  to_span : Passed known text 9 → (IsOutOfOrder known s → ⊥) → (IsOutsideLimit known s → ⊥) → Passed known text 11
  to_span before order limit = pass known text reason.Limit (to_limit before order) (λ _. not_said (IsOutsideLimit known) limit)

  to_section : Passed known text 9 → (IsOutOfOrder known s → ⊥) → (IsOutsideLimit known s → ⊥) → (IsNoSpan s → ⊥) → Passed known text 12
  to_section before order limit span = pass known text reason.Span (to_span before order limit) (λ _. not_said IsNoSpan span)

  to_name : Passed known text 9 → (IsOutOfOrder known s → ⊥) → (IsOutsideLimit known s → ⊥) → (IsNoSpan s → ⊥) → ((fault : FrameFault) → HasBadSection fault s → ⊥) → Passed known text 13
  to_name before order limit span section = pass_section known text (to_section before order limit span) (λ fault. not_said (HasBadSection fault) (section fault))

  to_fixed : Passed known text 9 → (IsOutOfOrder known s → ⊥) → (IsOutsideLimit known s → ⊥) → (IsNoSpan s → ⊥) → ((fault : FrameFault) → HasBadSection fault s → ⊥) → (IsNameless known s → ⊥) → Passed known text 14
  to_fixed before order limit span section name = pass known text reason.Name (to_name before order limit span section) (λ _. not_said (IsNameless known) name)

  good : Passed known text 9 → Rows → IsGood known text
  good before rows =
      let passed = pass known text reason.Fixed (to_fixed before rows.order rows.limit rows.span rows.section rows.name) (λ _. not_said (IsNotAbove known) rows.fixed) in
      pass_region known text passed (not_said (IsNoRegion known) rows.region)

  limit_holds : Passed known text 9 → (IsOutOfOrder known s → ⊥) → IsOutsideLimit known s → IsReason known text reason.Limit
  limit_holds before order holds = refused known text reason.Limit (to_limit before order) (s, says, holds)

abbrev nothing : ⊥ → ⊥
nothing refute = refute

abbrev no_section : (fault : FrameFault) → ⊥ → ⊥
no_section fault refute = refute

-- a test between two bounds
outside : (low high n : ℕ) → (leb low n && leb n high) ≡ false → (n < low) ⊎ (high < n)
outside low high n e = by (leb low n) refl e
  where
    by : (t : Bool) → leb low n ≡ t → (t && leb n high) ≡ false → (n < low) ⊎ (high < n)
    by true p f = inr (leb-false n high f)
    by false p f = inl (leb-false low n p)

inside : (low high n : ℕ) → (leb low n && leb n high) ≡ true → ((n < low) ⊎ (high < n)) → ⊥
inside low high n e (inl below) = let p = and_parts (leb low n) (leb n high) e in let le = leb-true low n p.0 in absurd (omega arith)
inside low high n e (inr above) = let p = and_parts (leb low n) (leb n high) e in let le = leb-true n high p.1 in absurd (omega arith)

module _ (known : DraftData) (text : LineText) where
  -- a statement with only a limit
  by_limit : (s : Statement) → Says text s → Passed known text 9 → (IsOutOfOrder known s → ⊥) → (IsNoSpan s → ⊥) → ((fault : FrameFault) → HasBadSection fault s → ⊥) → (IsNameless known s → ⊥) → (IsNotAbove known s → ⊥) → (IsNoRegion known s → ⊥)
      → (t : Bool) → (t ≡ true → IsOutsideLimit known s → ⊥) → (t ≡ false → IsOutsideLimit known s) → (next : DraftData) → Judged known text (cond t (Ok next) (Err reason.Limit))
  by_limit s says before order span section name fixed region true within beyond next = good known text s says before (record { order = order; limit = within refl; span = span; section = section; name = name; fixed = fixed; region = region })
  by_limit s says before order span section name fixed region false within beyond next = limit_holds known text s says before order (beyond refl)

-- ---- small facts

section_or_fault : (r : Result SectionData FrameFault) (section : SectionData) (fault : FrameFault) → r ≡ Ok section → r ≡ Err fault → ⊥
section_or_fault r section fault p q = cc

some_or_none : (o : Option SpanData) (span : SpanData) → o ≡ Some span → o ≡ None → ⊥
some_or_none o span p q = cc

some_pieces_not : (pieces : Line) (first : List ℕ) (others : Line) → pieces ≡ first ∷ others → pieces ≡ [] → ⊥
some_pieces_not pieces first others p q = cc

cons_not : (b : ℕ) (rest : List ℕ) → b ∷ rest ≡ [] → ⊥
cons_not b rest e = cc

abbrev failed_draft : Reason → Result DraftData Reason
failed_draft why = Err why

why_is : (known : DraftData) (x y : Reason) → failed_draft x ≡ failed_draft y → x ≡ y
why_is known x y e = cc

named_there : (known : DraftData) (e : Event) → is_named (counts_of known.script) e ≡ true → IsNameless known (statement.Event e) → ⊥
named_there known (event.Register image) is past = let lt = ltb-true image (length known.script.images) is in absurd (omega arith)
named_there known (event.Replace image) is past = let lt = ltb-true image (length known.script.images) is in absurd (omega arith)
named_there known (event.Load image) is past = let lt = ltb-true image (length known.script.images) is in absurd (omega arith)
named_there known (event.Unwind snapshot) is past = let lt = ltb-true snapshot (length known.script.snapshots) is in absurd (omega arith)
named_there known _ is past = past

named_missing : (known : DraftData) (e : Event) → is_named (counts_of known.script) e ≡ false → IsNameless known (statement.Event e)
named_missing known (event.Register image) is = ltb-false image (length known.script.images) is
named_missing known (event.Replace image) is = ltb-false image (length known.script.images) is
named_missing known (event.Load image) is = ltb-false image (length known.script.images) is
named_missing known (event.Unwind snapshot) is = ltb-false snapshot (length known.script.snapshots) is
named_missing known _ is = absurd (true≢false is)

-- ---- the image of a line

module _ (known : DraftData) (text : LineText) (image : ImageData) (says : Says text (statement.Image image)) (before : Passed known text 9) where
  abbrev line_image : Statement
  line_image = statement.Image image

  abbrev in_order : Bool
  in_order = eqb image.number (length known.script.images)

  abbrev in_limits : Bool
  in_limits = ltb (length known.script.images) 4096 && leb (length image.bytes) 65536

  abbrev has_span : Bool
  has_span = ltb 0 image.size && leb (image.base + image.size) (2 ^ 64 - 1)

  abbrev with_section : Result SectionData FrameFault → Result DraftData Reason
  with_section given = section_or given >=> λ section. Ok (with_image known image section)

  image_read : (given : Result SectionData FrameFault) → section_of image.section image.bytes ≡ given → (IsOutOfOrder known line_image → ⊥) → (IsOutsideLimit known line_image → ⊥) → (IsNoSpan line_image → ⊥) → Judged known text (with_section given)
  image_read (Ok section) is order limit span = good known text line_image says before (record {
    order = order;
    limit = limit;
    span = span;
    section = λ fault bad. section_or_fault (section_of image.section image.bytes) section fault is (section_bad image.section image.bytes fault bad);
    name = nothing;
    fixed = nothing;
    region = nothing;
  })
  image_read (Err fault) is order limit span = refused known text (reason.Section fault) (to_section known text line_image says before order limit span) (line_image, says, section_refused image.section image.bytes fault is)

  span_fits : has_span ≡ true → IsNoSpan line_image → ⊥
  span_fits is (inl none) = let some = ltb-true 0 image.size (and_parts (ltb 0 image.size) (leb (image.base + image.size) (2 ^ 64 - 1)) is).0 in absurd (omega arith)
  span_fits is (inr above) = let below = leb-true (image.base + image.size) (2 ^ 64 - 1) (and_parts (ltb 0 image.size) (leb (image.base + image.size) (2 ^ 64 - 1)) is).1 in absurd (omega arith)

  no_span : (t : Bool) → ltb 0 image.size ≡ t → (t && leb (image.base + image.size) (2 ^ 64 - 1)) ≡ false → IsNoSpan line_image
  no_span true p e = inr (leb-false _ _ e)
  no_span false p e = inl (let none = ltb-false 0 image.size p in omega arith)

  image_spanned : (t : Bool) → has_span ≡ t → (IsOutOfOrder known line_image → ⊥) → (IsOutsideLimit known line_image → ⊥) → Judged known text (cond t (with_section (section_of image.section image.bytes)) (Err reason.Span))
  image_spanned true is order limit = image_read (section_of image.section image.bytes) refl order limit (span_fits is)
  image_spanned false is order limit = refused known text reason.Span (to_span known text line_image says before order limit) (line_image, says, no_span (ltb 0 image.size) refl is)

  limits_kept : in_limits ≡ true → IsOutsideLimit known line_image → ⊥
  limits_kept is (inl many) = let few = ltb-true _ _ (and_parts (ltb (length known.script.images) 4096) (leb (length image.bytes) 65536) is).0 in absurd (omega arith)
  limits_kept is (inr long) = let short = leb-true _ _ (and_parts (ltb (length known.script.images) 4096) (leb (length image.bytes) 65536) is).1 in absurd (omega arith)

  limits_passed : (t : Bool) → ltb (length known.script.images) 4096 ≡ t → (t && leb (length image.bytes) 65536) ≡ false → IsOutsideLimit known line_image
  limits_passed true p e = inr (leb-false _ _ e)
  limits_passed false p e = inl (ltb-false _ _ p)

  image_limited : (t : Bool) → in_limits ≡ t → (IsOutOfOrder known line_image → ⊥) → Judged known text (cond t (cond has_span (with_section (section_of image.section image.bytes)) (Err reason.Span)) (Err reason.Limit))
  image_limited true is order = image_spanned has_span refl order (limits_kept is)
  image_limited false is order = limit_holds known text line_image says before order (limits_passed (ltb (length known.script.images) 4096) refl is)

  image_ordered : (t : Bool) → in_order ≡ t → Judged known text (cond t (cond in_limits (cond has_span (with_section (section_of image.section image.bytes)) (Err reason.Span)) (Err reason.Limit)) (Err reason.Order))
  image_ordered true is = image_limited in_limits refl (λ other. other (eqb-true _ _ is))
  image_ordered false is = refused known text reason.Order before (line_image, says, eqb-false _ _ is)

  judged_image : Judged known text (image_added known image)
  judged_image = image_ordered in_order refl

-- ---- a fixed image

module _ (known : DraftData) (text : LineText) (image : ℕ) (says : Says text (statement.Fixed image)) (before : Passed known text 9) where
  abbrev line_fixed : Statement
  line_fixed = statement.Fixed image

  is_there : (span : SpanData) → slice_get known.script.images image ≡ Some span → length known.script.images ≤ image → ⊥
  is_there span is past = let within = slice_get_within known.script.images image span is in absurd (omega arith)

  is_missing : slice_get known.script.images image ≡ None → (t : Bool) → ltb image (length known.script.images) ≡ t → length known.script.images ≤ image
  is_missing none false e = ltb-false _ _ e
  is_missing none true e = absurd (some_or_none (slice_get known.script.images image) (span_of known.script.images image) (found_span known.script.images image (ltb-true _ _ e)) none)

  fixed_above : (span : SpanData) → slice_get known.script.images image ≡ Some span → (t : Bool) → is_above (last_fixed known.script.images known.script.fixed) span ≡ t → Judged known text (cond t (Ok (with_statement known line_fixed)) (Err reason.Fixed))
  fixed_above span is true test = good known text line_fixed says before (record { order = nothing; limit = nothing; span = nothing; section = no_section; name = is_there span is; fixed = above_low known.script.images known.script.fixed image span is test; region = nothing })
  fixed_above span is false test = refused known text reason.Fixed (to_fixed known text line_fixed says before nothing nothing nothing no_section (is_there span is)) (line_fixed, says, too_low known.script.images known.script.fixed image span is test)

  fixed_named : (o : Option SpanData) → slice_get known.script.images image ≡ o → Judged known text (ok_or o reason.Name >=> λ span. cond (is_above (last_fixed known.script.images known.script.fixed) span) (Ok (with_statement known line_fixed)) (Err reason.Fixed))
  fixed_named (Some span) is = fixed_above span is (is_above (last_fixed known.script.images known.script.fixed) span) refl
  fixed_named None is = refused known text reason.Name (to_name known text line_fixed says before nothing nothing nothing no_section) (line_fixed, says, is_missing is (ltb image (length known.script.images)) refl)

  judged_fixed : Judged known text (fixed_added known image)
  judged_fixed = fixed_named (slice_get known.script.images image) refl

-- ---- a snapshot, and its memory

module _ (known : DraftData) (text : LineText) (snapshot : SnapshotFields) (says : Says text (statement.Snapshot snapshot)) (before : Passed known text 9) where
  abbrev line_snapshot : Statement
  line_snapshot = statement.Snapshot snapshot

  snapshot_ordered : (t : Bool) → eqb snapshot.number (length (snapshots_so_far known)) ≡ t
      → Judged known text (cond t (cond (ltb (length (snapshots_so_far known)) 4096) (Ok (with_statement known line_snapshot)) (Err reason.Limit)) (Err reason.Order))
  snapshot_ordered true is =
      by_limit known text line_snapshot says before (λ other. other (eqb-true _ _ is)) nothing no_section nothing nothing nothing (ltb (length (snapshots_so_far known)) 4096)
      (λ is many. let few = ltb-true _ _ is in absurd (omega arith)) (λ is. ltb-false _ _ is) (with_statement known line_snapshot)
  snapshot_ordered false is = refused known text reason.Order before (line_snapshot, says, eqb-false _ _ is)

  judged_snapshot : Judged known text (snapshot_added known snapshot)
  judged_snapshot = snapshot_ordered (eqb snapshot.number (length (snapshots_so_far known))) refl

module _ (known : DraftData) (text : LineText) (region : RegionData) (says : Says text (statement.Memory region)) (before : Passed known text 9) where
  abbrev line_memory : Statement
  line_memory = statement.Memory region

  abbrev with_region : SnapshotData
  with_region = record known.snapshot { memory = known.snapshot.memory ++ region ∷ [] }

  abbrev made_known : SnapshotData → Result DraftData Reason
  made_known snapshot = Ok (record known { snapshot = snapshot })

  to_region : (IsOutsideLimit known line_memory → ⊥) → Passed known text 15
  to_region limit = pass known text reason.Fixed (to_fixed known text line_memory says before nothing limit nothing no_section nothing) (λ _. not_said known text line_memory says (IsNotAbove known) nothing)

  memory_accepted : (IsOutsideLimit known line_memory → ⊥) → (t : Bool) → accepts known.snapshot.memory region ≡ t → Judged known text (cond t (Ok with_region) (Err reason.Region) >=> made_known)
  memory_accepted limit true is = good known text line_memory says before (record { order = nothing; limit = limit; span = nothing; section = no_section; name = nothing; fixed = nothing; region = λ refute. refute (accepted_true known.snapshot.memory region is) })
  memory_accepted limit false is = refused known text reason.Region (to_region limit) (line_memory, says, accepted_false known.snapshot.memory region is)

  memory_limited : (t : Bool) → leb (recorded_bytes known.snapshot.memory + length region.bytes) 65536 ≡ t
      → Judged known text (cond t (cond (accepts known.snapshot.memory region) (Ok with_region) (Err reason.Region)) (Err reason.Limit) >=> made_known)
  memory_limited true is = memory_accepted (λ many. let few = leb-true (recorded_bytes known.snapshot.memory + length region.bytes) 65536 is in absurd (omega arith)) (accepts known.snapshot.memory region) refl
  memory_limited false is = limit_holds known text line_memory says before nothing (leb-false (recorded_bytes known.snapshot.memory + length region.bytes) 65536 is)

  judged_memory : Judged known text (memory_added known region)
  judged_memory = memory_limited (leb (recorded_bytes known.snapshot.memory + length region.bytes) 65536) refl

-- ---- an event

module _ (known : DraftData) (text : LineText) (e : Event) (says : Says text (statement.Event e)) (before : Passed known text 9) where
  abbrev line_event : Statement
  line_event = statement.Event e

  event_named : (t : Bool) → is_named (counts_of known.script) e ≡ t → (IsOutsideLimit known line_event → ⊥) → Judged known text (cond t (Ok (with_statement known line_event)) (Err reason.Name))
  event_named true is limit = good known text line_event says before (record { order = nothing; limit = limit; span = nothing; section = no_section; name = named_there known e is; fixed = nothing; region = nothing })
  event_named false is limit = refused known text reason.Name (to_name known text line_event says before nothing limit nothing no_section) (line_event, says, named_missing known e is)

  abbrev room_test : Bool
  room_test = ltb (length known.events) 4096

  one_too_many : (happens : Event) → has_room known.totals happens ≡ false → IsUnwindTooMany known happens
  one_too_many (event.Unwind snapshot) is = ltb-false known.totals.unwinds 16384 is
  one_too_many (event.Register image) is = absurd cc
  one_too_many (event.Deregister base) is = absurd cc
  one_too_many (event.Replace image) is = absurd cc
  one_too_many (event.Load image) is = absurd cc
  one_too_many (event.Unload base) is = absurd cc
  one_too_many (event.Find pc) is = absurd cc

  not_too_many : (happens : Event) → has_room known.totals happens ≡ true → IsUnwindTooMany known happens → ⊥
  not_too_many (event.Unwind snapshot) is many = (let few = ltb-true known.totals.unwinds 16384 is in omega arith)
  not_too_many (event.Register image) is many = many
  not_too_many (event.Deregister base) is many = many
  not_too_many (event.Replace image) is many = many
  not_too_many (event.Load image) is many = many
  not_too_many (event.Unload base) is many = many
  not_too_many (event.Find pc) is many = many

  event_kept : (room_test && has_room known.totals e) ≡ true → IsOutsideLimit known line_event → ⊥
  event_kept is (inl many) = let few = ltb-true _ _ (and_parts room_test (has_room known.totals e) is).0 in absurd (omega arith)
  event_kept is (inr many) = not_too_many e (and_parts room_test (has_room known.totals e) is).1 many

  event_passed : (t : Bool) → room_test ≡ t → (t && has_room known.totals e) ≡ false → IsOutsideLimit known line_event
  event_passed true p is = inr (one_too_many e is)
  event_passed false p is = inl (ltb-false _ _ p)

  event_limited : (t : Bool) → (room_test && has_room known.totals e) ≡ t → Judged known text (cond t (cond (is_named (counts_of known.script) e) (Ok (with_statement known line_event)) (Err reason.Name)) (Err reason.Limit))
  event_limited true is = event_named (is_named (counts_of known.script) e) refl (event_kept is)
  event_limited false is = limit_holds known text line_event says before nothing (event_passed room_test refl is)

-- ---- what a line says, of any kind

pub judged_statement : (known : DraftData) (text : LineText) (s : Statement) → Says text s → Passed known text 9 → Judged known text (added known s)
unfolding added
judged_statement known text (statement.Version version) says before =
    by_limit known text (statement.Version version) says before nothing nothing no_section nothing nothing nothing (leb 1 version && leb version 2) (inside 1 2 version) (outside 1 2 version) (with_statement known (statement.Version version))
judged_statement known text (statement.Nodes nodes) says before =
    by_limit known text (statement.Nodes nodes) says before nothing nothing no_section nothing nothing nothing (leb 4 nodes && leb nodes 16384) (inside 4 16384 nodes) (outside 4 16384 nodes) (with_statement known (statement.Nodes nodes))
judged_statement known text (statement.Loads loads) says before =
    by_limit known text (statement.Loads loads) says before nothing nothing no_section nothing nothing nothing (leb 1 loads && leb loads 1024) (inside 1 1024 loads) (outside 1 1024 loads) (with_statement known (statement.Loads loads))
judged_statement known text (statement.Image image) says before = judged_image known text image says before
judged_statement known text (statement.Fixed image) says before = judged_fixed known text image says before
judged_statement known text (statement.Snapshot snapshot) says before = judged_snapshot known text snapshot says before
judged_statement known text (statement.Memory region) says before = judged_memory known text region says before
judged_statement known text statement.Round says before =
    by_limit known text statement.Round says before nothing nothing no_section nothing nothing nothing (ltb (length (rounds_so_far known)) 64) (λ is many. let few = ltb-true _ _ is in absurd (omega arith)) (λ is. ltb-false _ _ is) (with_statement known statement.Round)
judged_statement known text statement.Thread says before =
    by_limit known text statement.Thread says before nothing nothing no_section nothing nothing nothing (ltb (length (threads_so_far known)) 16) (λ is many. let few = ltb-true _ _ is in absurd (omega arith)) (λ is. ltb-false _ _ is) (with_statement known statement.Thread)
judged_statement known text (statement.Event e) says before = event_limited known text e says before (ltb (length known.events) 4096 && has_room known.totals e) refl
judged_statement known text statement.End says before = good known text statement.End says before (record { order = nothing; limit = nothing; span = nothing; section = no_section; name = nothing; fixed = nothing; region = nothing })

-- ---- a line

module _ (known : DraftData) (line : List ℕ) where
  abbrev here : LineText
  here = whole_line line

  module _ (before : Passed known here 5) where
    -- the line is of one kind at the most
    of_kind : (k : Kind) (fields : Line) → pieces 32 line ≡ word_of k ∷ fields → (P : Kind → Line → Type 0) → (P k fields → ⊥) → IsOfKind known here P → ⊥
    of_kind k fields is P refute (other, others, other_is, may, holds) =
        let same = same_kind other k others fields (sym other_is ∙ is) in
        refute (subst (λ (xs : Line). P k xs) same.1 (subst (λ (x : Kind). P x others) same.0 holds))

    spoken_line : (k : Kind) (fields : Line) → pieces 32 line ≡ word_of k ∷ fields → may_come known.script.version known.stage k ≡ true → Passed known here 7 → (given : Result Statement Reason) → statement_of k fields ≡ given → Judged known here (given >=> λ s. added known s)
    spoken_line k fields is may passed (Ok s) e =
        let says = spoken k fields s e in
        let same = same_kind k (kind_of_statement s) fields (statement_fields s) says.line in
        let fit = fields_fit s says.form in
        let count : length fields ≡ length (forms k) = ap (λ (xs : Line). length xs) same.1 ∙ fit.0 ∙ sym (ap (λ (x : Kind). length (forms x)) same.0) in
        let fields_are : AreFields (forms k) fields = subst (λ (x : Kind). AreFields (forms x) fields) (sym same.0) (subst (λ (xs : Line). AreFields (forms (kind_of_statement s)) xs) (sym same.1) fit.1) in
        let p = pass known here reason.Fields passed (λ _. of_kind k fields is (λ k fields. length fields ≢ length (forms k)) (λ other. other count)) in
        let q = pass known here reason.Spelling p (λ _. of_kind k fields is (λ k fields. AreFields (forms k) fields → ⊥) (λ refute. refute fields_are)) in
        judged_statement known here s (record { line = is ∙ says.line; form = says.form }) q
    spoken_line k fields is may passed (Err why) e = wrong_line why (unspoken k fields why e)
      where
        wrong_line : (why : Reason) → Wrong (forms k) fields why → IsReason known here why
        wrong_line reason.Fields other = refused known here reason.Fields passed (k, fields, is, may, other)
        wrong_line reason.Spelling (count, refute) = refused known here reason.Spelling (pass known here reason.Fields passed (λ _. of_kind k fields is (λ k fields. length fields ≢ length (forms k)) (λ other. other count))) (k, fields, is, may, refute)
        wrong_line _ refute = absurd refute

    kind_line : (k : Kind) (fields : Line) → pieces 32 line ≡ word_of k ∷ fields → (t : Bool) → may_come known.script.version known.stage k ≡ t → Judged known here (cond t (statement_of k fields >=> λ s. added known s) (Err reason.Word))
    kind_line k fields is true may = spoken_line k fields is may (pass_word known here before (λ refute. refute k fields is may)) (statement_of k fields) refl
    kind_line k fields is false may = refused known here reason.Word before no_kind
      where
        no_kind : (other : Kind) (others : Line) → pieces 32 line ≡ word_of other ∷ others → may_come known.script.version known.stage other ≡ true → ⊥
        no_kind other others other_is can = true≢false (sym can ∙ ap (may_come known.script.version known.stage) (same_kind other k others fields (sym other_is ∙ is)).0 ∙ may)

    word_line : (word : List ℕ) (fields : Line) → pieces 32 line ≡ word ∷ fields → (o : Option Kind) → kind_of word ≡ o
        → Judged known here (ok_or o reason.Word >=> λ k. cond (may_come known.script.version known.stage k) (statement_of k fields >=> λ s. added known s) (Err reason.Word))
    word_line word fields is (Some k) e = kind_line k fields (is ∙ ap (λ (w : List ℕ). w ∷ fields) (kind_word word k (ap (λ (o : Option Kind). ok_or o reason.Word) e))) (may_come known.script.version known.stage k) refl
    word_line word fields is None e = refused known here reason.Word before no_kind
      where
        none : (o : Option Kind) (k : Kind) → o ≡ None → o ≡ Some k → ⊥
        none o k p q = cc

        first_word : (word other : List ℕ) (fields others : Line) → word ∷ fields ≡ other ∷ others → word ≡ other
        first_word word other fields others e = cc

        no_kind : (other : Kind) (others : Line) → pieces 32 line ≡ word_of other ∷ others → may_come known.script.version known.stage other ≡ true → ⊥
        no_kind other others other_is may = none (kind_of word) other e (ap kind_of (first_word word (word_of other) fields others (sym is ∙ other_is)) ∙ word_again other)

    judged_words : (fields : Line) → pieces 32 line ≡ fields → Judged known here (by_word known fields)
    unfolding by_word
    judged_words [] is = absurd (some_pieces_not (pieces 32 line) (some_pieces 32 line).0 (some_pieces 32 line).1 (some_pieces 32 line).2 is)
    judged_words (word ∷ fields) is = word_line word fields is (kind_of word) refl

  printable_line : Passed known here 4 → (t : Bool) → is_printable line ≡ t → Judged known here (cond t (by_word known (pieces 32 line)) (Err reason.Byte))
  printable_line before true e = judged_words (pass known here reason.Byte before (λ _ refute. true≢false (sym e ∙ refute))) (pieces 32 line) refl
  printable_line before false e = refused known here reason.Byte before e

  ended_line : (t : Bool) → is_ended known.stage ≡ t → Judged known here (cond t (Err reason.After) (cond (is_printable line) (by_word known (pieces 32 line)) (Err reason.Byte)))
  ended_line true e = refused known here reason.After (pass known here reason.Missing (pass_none known here) (λ _ refute. true≢false refute.2)) (e, inr refl)
  ended_line false e =
      printable_line
      (pass known here reason.Unended (pass known here reason.After (pass known here reason.Missing (pass_none known here) (λ _ refute. true≢false refute.2)) (λ _ refute. true≢false (sym refute.0 ∙ e))) (λ _ refute. true≢false refute))
      (is_printable line) refl

  pub judged_line : Judged known here (after_line known line)
  unfolding after_line
  judged_line = ended_line (is_ended known.stage) refl

-- ---- the end of the text

-- what is left where no line feed comes is refused for the table's reason, unless the text ends after its `end` line
pub judged_end : (known : DraftData) (rest : List ℕ) (why : Reason) → at_end known rest ≡ Err why → IsReason known (record { bytes = rest; has_feed = false }) why
unfolding at_end
judged_end known [] why e = by (is_ended known.stage) refl e
  where
    by : (t : Bool) → is_ended known.stage ≡ t → cond t (Ok known) (failed_draft reason.Missing) ≡ failed_draft why → IsReason known (record { bytes = []; has_feed = false }) why
    by true is e = absurd cc
    by false is e = subst (IsReason known (record { bytes = []; has_feed = false })) (why_is known reason.Missing why e) (refused known (record { bytes = []; has_feed = false }) reason.Missing (pass_none known (record { bytes = []; has_feed = false })) (is, refl, refl))
judged_end known (b ∷ rest) why e = by (is_ended known.stage) refl e
  where
    by : (t : Bool) → is_ended known.stage ≡ t → cond t (failed_draft reason.After) (failed_draft reason.Unended) ≡ failed_draft why → IsReason known (record { bytes = b ∷ rest; has_feed = false }) why
    by true is e = subst (IsReason known (record { bytes = b ∷ rest; has_feed = false })) (why_is known reason.After why e) (refused known (record { bytes = b ∷ rest; has_feed = false }) reason.After (pass known (record { bytes = b ∷ rest; has_feed = false }) reason.Missing (pass_none known (record { bytes = b ∷ rest; has_feed = false })) (λ _ refute. cons_not b rest refute.1)) (is, inl (cons_not b rest)))
    by false is e = subst (IsReason known (record { bytes = b ∷ rest; has_feed = false })) (why_is known reason.Unended why e)
        (refused known (record { bytes = b ∷ rest; has_feed = false }) reason.Unended (pass known (record { bytes = b ∷ rest; has_feed = false }) reason.After (pass known (record { bytes = b ∷ rest; has_feed = false }) reason.Missing (pass_none known (record { bytes = b ∷ rest; has_feed = false })) (λ _ refute. cons_not b rest refute.1)) (λ _ refute. true≢false (sym refute.0 ∙ is))) refl)
