-- Text of a script, as it grows line by line.
use Rattle.std.proofs.Common.{◌≡◌, ℕ, ◌+◌, ◌<◌, List, [], ◌∷◌, ◌++◌, length, map, get_or, take, refl, sym, ap, ap₂, ◌∙◌, append_assoc, append-nil, arith}
use Rattle.std.specs.Prelude.{codes}
use Rattle.std.specs.Fmt.{decimal}
use Rattle.std.proofs.lemmas.Grind.{flat_map-append}
use Rattle.std.proofs.lemmas.List.{take_more, length-take-le}
use Rattle.std.proofs.lemmas.Option.{slice_get_within, get_or_from_slice_get}
use Rattle.frame_parse.specs.Sections.{SectionData}
use Rattle.reg_model.specs.SpanData.{SpanData}
use Rattle.script_text.specs.EventLines.{event_spelling}
use Rattle.script_text.specs.Statements.{kind_of_event, statement_fields, word_of}
use Rattle.script_text.specs.declared.script.Event.{Event}
use Rattle.script_text.specs.declared.statement.Statement.{Statement}
use Rattle.script_text.specs.declared.statement.Statement.TheVariants as statement
use Rattle.std.specs.List.{flat_map, slice_get}
use Rattle.std.specs.Prelude.{Option, Some, None}
use Rattle.std.specs.Option.{option_map}
use Rattle.frame_expr.specs.Regions.{RegionData}
use Rattle.frame_expr.specs.declared.regs.Regs.{Regs}
use Rattle.script_text.specs.Digits.{hex}
use Rattle.script_text.specs.ScriptData.{ScriptData, SnapshotData}
use Rattle.script_text.specs.Spelling.{spelling_of, statement_text, statements_text, image_data, image_statements, snapshot_lines, snapshot_statements, thread_statements, round_statements, first_statements, body_statements, script_text}
use Rattle.script_text.proofs.Joined.{event_joined, spelled_line}
use Rattle.script_text.proofs.StatementLists.{images_push, snapshots_push, map_push}

lines_more : (old text new : List ℕ) (lines more : List Statement) → text ≡ old ++ statements_text lines → new ≡ text ++ statements_text more → new ≡ old ++ statements_text (lines ++ more)
lines_more old text new lines more p q =
    q ∙ ap (λ (x : List ℕ). x ++ statements_text more) p ∙ append_assoc old (statements_text lines) (statements_text more) ∙ ap (λ (x : List ℕ). old ++ x) (sym (flat_map-append statement_text lines more))

line_more : (old text new : List ℕ) (lines : List Statement) (s : Statement) → text ≡ old ++ statements_text lines → new ≡ text ++ statement_text s → new ≡ old ++ statements_text (lines ++ s ∷ [])
line_more old text new lines s p q = lines_more old text new lines (s ∷ []) p (q ∙ ap (λ (x : List ℕ). text ++ x) (sym (append-nil (statement_text s))))

taken : {X : Type 0} (xs : List X) (i : ℕ) (x : X) → i < length xs → x ≡ get_or xs i x → take (i + 1) xs ≡ take i xs ++ x ∷ []
taken xs i x lt is = take_more xs i x lt ∙ ap (λ y. take i xs ++ y ∷ []) (sym is)

-- one more of some lines that are made alike
made_more : {X : Type 0} (make : X → Statement) (old text new : List ℕ) (xs : List X) (i : ℕ) (d : X) → i < length xs → text ≡ old ++ statements_text (map make (take i xs)) → new ≡ text ++ statement_text (make (get_or xs i d))
    → new ≡ old ++ statements_text (map make (take (i + 1) xs))
made_more make old text new xs i d lt p q =
    let x = get_or xs i d in
    line_more old text new (map make (take i xs)) (make x) p q
    ∙ ap (λ (lines : List Statement). old ++ statements_text lines) (sym (ap (map make) (take_more xs i d lt) ∙ map_push make (take i xs) x))

event_line : (e : Event) → event_spelling e ++ codes "\n" ≡ statement_text (statement.Event e)
event_line e = ap (λ (x : List ℕ). x ++ codes "\n") (event_joined e) ∙ sym (spelled_line (word_of (kind_of_event e)) (statement_fields (statement.Event e)))

pub event_more : (old text spelled new : List ℕ) (events : List Event) (i : ℕ) (d : Event) → i < length events → text ≡ old ++ statements_text (map statement.Event (take i events))
    → spelled ≡ text ++ event_spelling (get_or events i d) → new ≡ spelled ++ codes "\n"
    → new ≡ old ++ statements_text (map statement.Event (take (i + 1) events))
event_more old text spelled new events i d lt p e q =
    let asked = get_or events i d in
    made_more statement.Event old text new events i d lt p (q ∙ ap (λ (x : List ℕ). x ++ codes "\n") e ∙ append_assoc text (event_spelling asked) (codes "\n") ∙ ap (λ (x : List ℕ). text ++ x) (event_line asked))

pub fixed_more : (old text new : List ℕ) (fixed : List ℕ) (i : ℕ) → i < length fixed → text ≡ old ++ statements_text (map statement.Fixed (take i fixed)) → new ≡ text ++ spelling_of (codes "fixed" ∷ decimal (get_or fixed i 0) ∷ [])
    → new ≡ old ++ statements_text (map statement.Fixed (take (i + 1) fixed))
fixed_more old text new fixed i lt p q = made_more statement.Fixed old text new fixed i 0 lt p q

threads_push : (threads : List (List Event)) (events : List Event) → thread_statements (threads ++ events ∷ []) ≡ thread_statements threads ++ (statement.Thread ∷ map statement.Event events)
threads_push [] events = append-nil (statement.Thread ∷ map statement.Event events)
threads_push (first ∷ threads) events =
    ap (λ (x : List Statement). (statement.Thread ∷ map statement.Event first) ++ x) (threads_push threads events)
    ∙ sym (append_assoc (statement.Thread ∷ map statement.Event first) (thread_statements threads) (statement.Thread ∷ map statement.Event events))

pub thread_more : (old text begun new : List ℕ) (threads : List (List Event)) (i : ℕ) (events shown : List Event) → i < length threads → events ≡ get_or threads i events → shown ≡ events
    → text ≡ old ++ statements_text (thread_statements (take i threads)) → begun ≡ text ++ codes "thread\n" → new ≡ begun ++ statements_text (map statement.Event shown)
    → new ≡ old ++ statements_text (thread_statements (take (i + 1) threads))
thread_more old text begun new threads i events shown lt is same p b q =
    let more : new ≡ text ++ statements_text (statement.Thread ∷ map statement.Event events) =
    q ∙ ap₂ (λ (x : List ℕ) (y : List Event). x ++ statements_text (map statement.Event y)) b same ∙ append_assoc text (codes "thread\n") (statements_text (map statement.Event events)) in
    lines_more old text new (thread_statements (take i threads)) (statement.Thread ∷ map statement.Event events) p more
    ∙ ap (λ (lines : List Statement). old ++ statements_text lines) (sym (ap thread_statements (taken threads i events lt is) ∙ threads_push (take i threads) events))

rounds_push : (rounds : List (List (List Event))) (threads : List (List Event)) → round_statements (rounds ++ threads ∷ []) ≡ round_statements rounds ++ (statement.Round ∷ thread_statements threads)
rounds_push [] threads = append-nil (statement.Round ∷ thread_statements threads)
rounds_push (first ∷ rounds) threads =
    ap (λ (x : List Statement). (statement.Round ∷ thread_statements first) ++ x) (rounds_push rounds threads)
    ∙ sym (append_assoc (statement.Round ∷ thread_statements first) (round_statements rounds) (statement.Round ∷ thread_statements threads))

pub round_more : (old text begun new : List ℕ) (rounds : List (List (List Event))) (i : ℕ) (threads shown : List (List Event)) → i < length rounds → threads ≡ get_or rounds i threads → shown ≡ threads
    → text ≡ old ++ statements_text (round_statements (take i rounds)) → begun ≡ text ++ codes "round\n" → new ≡ begun ++ statements_text (thread_statements shown)
    → new ≡ old ++ statements_text (round_statements (take (i + 1) rounds))
round_more old text begun new rounds i threads shown lt is same p b q =
    let more : new ≡ text ++ statements_text (statement.Round ∷ thread_statements threads) =
    q ∙ ap₂ (λ (x : List ℕ) (y : List (List Event)). x ++ statements_text (thread_statements y)) b same ∙ append_assoc text (codes "round\n") (statements_text (thread_statements threads)) in
    lines_more old text new (round_statements (take i rounds)) (statement.Round ∷ thread_statements threads) p more
    ∙ ap (λ (lines : List Statement). old ++ statements_text lines) (sym (ap round_statements (taken rounds i threads lt is) ∙ rounds_push (take i rounds) threads))

found_region : (o : Option RegionData) (address : ℕ) (bytes : List ℕ) → option_map (λ r. r.address) o ≡ Some address → option_map (λ r. r.bytes) o ≡ Some bytes → o ≡ Some (record { address = address; bytes = bytes })
found_region None address bytes p q = absurd cc
found_region (Some r) address bytes p q =
    let at : r.address ≡ address = cc in
    let are : r.bytes ≡ bytes = cc in
    ap₂ (λ (a : ℕ) (b : List ℕ). Some (record { address = a; bytes = b })) at are

pub region_more : (old text new : List ℕ) (regions : List RegionData) (i address : ℕ) (bytes : List ℕ) → option_map (λ r. r.address) (slice_get regions i) ≡ Some address → option_map (λ r. r.bytes) (slice_get regions i) ≡ Some bytes → text ≡ old ++ statements_text (map statement.Memory (take i regions)) → new ≡ text ++ statement_text (statement.Memory (record { address = address; bytes = bytes }))
    → new ≡ old ++ statements_text (map statement.Memory (take (i + 1) regions))
region_more old text new regions i address bytes at are p q =
    let region : RegionData = record { address = address; bytes = bytes } in
    let is = found_region (slice_get regions i) address bytes at are in
    let within = slice_get_within regions i region is in
    made_more statement.Memory old text new regions i region within p (q ∙ ap (λ (r : RegionData). text ++ statement_text (statement.Memory r)) (sym (get_or_from_slice_get regions i region region is)))

pub snapshot_more : (old text new : List ℕ) (snapshots : List SnapshotData) (i : ℕ) (snapshot : SnapshotData) → i < length snapshots → snapshot ≡ get_or snapshots i snapshot
    → text ≡ old ++ statements_text (snapshot_statements 0 (take i snapshots)) → new ≡ text ++ statements_text (snapshot_lines i snapshot)
    → new ≡ old ++ statements_text (snapshot_statements 0 (take (i + 1) snapshots))
snapshot_more old text new snapshots i snapshot lt is p q =
    let long = length-take-le i snapshots (omega arith) in
    let number : 0 + length (take i snapshots) ≡ i = omega (arith, long) in
    let lines : snapshot_statements 0 (take (i + 1) snapshots) ≡ snapshot_statements 0 (take i snapshots) ++ snapshot_lines i snapshot =
    ap (snapshot_statements 0) (taken snapshots i snapshot lt is) ∙ snapshots_push 0 (take i snapshots) snapshot
    ∙ ap (λ (n : ℕ). snapshot_statements 0 (take i snapshots) ++ snapshot_lines n snapshot) number in
    lines_more old text new (snapshot_statements 0 (take i snapshots)) (snapshot_lines i snapshot) p q
    ∙ ap (λ (x : List Statement). old ++ statements_text x) (sym lines)

-- a field, and then others
pub spelled_fields : (field : List ℕ) (fields : List (List ℕ)) → spelling_of (field ∷ fields) ≡ field ++ flat_map (λ f. 32 ∷ f) fields ++ 10 ∷ []
spelled_fields field [] = ap (λ (x : List ℕ). x ++ 10 ∷ []) (sym (append-nil field))
spelled_fields field (next ∷ fields) =
    ap (λ (x : List ℕ). field ++ 32 ∷ x) (spelled_fields next fields ∙ append_assoc next (flat_map (λ f. 32 ∷ f) fields) (10 ∷ []))
    ∙ ap (λ (x : List ℕ). field ++ 32 ∷ x) (sym (append_assoc next (flat_map (λ f. 32 ∷ f) fields) (10 ∷ [])))
    ∙ sym (append_assoc field (32 ∷ next ++ flat_map (λ f. 32 ∷ f) fields) (10 ∷ []))

mapped : {X : Type 0} (make : X → List ℕ) (xs : List X) → flat_map (λ f. 32 ∷ f) (map make xs) ≡ flat_map (λ x. 32 ∷ make x) xs
mapped make [] = refl
mapped make (x ∷ xs) = ap (λ (rest : List ℕ). 32 ∷ make x ++ rest) (mapped make xs)

pub snapshot_line_is : (number : ℕ) (regs : Regs) (old begun columns ended new : List ℕ) (memory : List RegionData)
    → begun ≡ old ++ (codes "snapshot " ++ decimal number) → columns ≡ begun ++ flat_map (λ n. 32 ∷ hex n) regs.columns → ended ≡ columns ++ codes "\n" → new ≡ ended ++ statements_text (map statement.Memory memory)
    → new ≡ old ++ statements_text (snapshot_lines number (record { regs = regs; memory = memory }))
snapshot_line_is number regs old begun columns ended new memory b c e n =
    let fields = decimal number ∷ map hex regs.columns in
    let line : spelling_of (codes "snapshot" ∷ fields) ≡ codes "snapshot " ++ decimal number ++ flat_map (λ n. 32 ∷ hex n) regs.columns ++ codes "\n" =
    spelled_fields (codes "snapshot") fields
    ∙ ap (λ (x : List ℕ). codes "snapshot " ++ decimal number ++ x ++ codes "\n") (mapped hex regs.columns) in
    let so_far : ended ≡ old ++ spelling_of (codes "snapshot" ∷ fields) =
    e ∙ ap (λ (x : List ℕ). x ++ codes "\n") (c ∙ ap (λ (x : List ℕ). x ++ flat_map (λ n. 32 ∷ hex n) regs.columns) b)
    ∙ regrouped old (codes "snapshot ") (decimal number) (flat_map (λ n. 32 ∷ hex n) regs.columns) (codes "\n")
    ∙ ap (λ (x : List ℕ). old ++ x) (sym line) in
    n ∙ ap (λ (x : List ℕ). x ++ statements_text (map statement.Memory memory)) so_far ∙ append_assoc old (spelling_of (codes "snapshot" ∷ fields)) (statements_text (map statement.Memory memory))
  where
    regrouped : (a b c d e : List ℕ) → (a ++ (b ++ c)) ++ d ++ e ≡ a ++ (b ++ c ++ d ++ e)
    regrouped a b c d e = simp (append_assoc)

pub column_more : (old text new : List ℕ) (columns : List ℕ) (i : ℕ) → i < length columns → text ≡ old ++ flat_map (λ n. 32 ∷ hex n) (take i columns) → new ≡ text ++ 32 ∷ hex (get_or columns i 0)
    → new ≡ old ++ flat_map (λ n. 32 ∷ hex n) (take (i + 1) columns)
column_more old text new columns i lt p q =
    let x = get_or columns i 0 in
    let last : flat_map (λ n. 32 ∷ hex n) (take (i + 1) columns) ≡ flat_map (λ n. 32 ∷ hex n) (take i columns) ++ 32 ∷ hex x =
    ap (flat_map (λ n. 32 ∷ hex n)) (take_more columns i 0 lt) ∙ flat_map-append (λ n. 32 ∷ hex n) (take i columns) (x ∷ [])
    ∙ ap (λ (y : List ℕ). flat_map (λ n. 32 ∷ hex n) (take i columns) ++ y) (append-nil (32 ∷ hex x)) in
    q ∙ ap (λ (y : List ℕ). y ++ 32 ∷ hex x) p ∙ append_assoc old (flat_map (λ n. 32 ∷ hex n) (take i columns)) (32 ∷ hex x) ∙ ap (λ (y : List ℕ). old ++ y) (sym last)

pub image_more : (old text new : List ℕ) (images : List SpanData) (sections : List SectionData) (i : ℕ) (span : SpanData) (section : SectionData) → i < length images → length sections ≡ length images
    → span ≡ get_or images i span → section ≡ get_or sections i section
    → text ≡ old ++ statements_text (image_statements 0 (take i images) (take i sections)) → new ≡ text ++ statement_text (statement.Image (image_data i span section))
    → new ≡ old ++ statements_text (image_statements 0 (take (i + 1) images) (take (i + 1) sections))
image_more old text new images sections i span section lt each span_is section_is p q =
    let long = length-take-le i images (omega arith) in
    let number : 0 + length (take i images) ≡ i = omega (arith, long) in
    let lines : image_statements 0 (take (i + 1) images) (take (i + 1) sections) ≡ image_statements 0 (take i images) (take i sections) ++ statement.Image (image_data i span section) ∷ [] =
    ap₂ (λ (x : List SpanData) (y : List SectionData). image_statements 0 x y) (taken images i span lt span_is) (taken sections i section (omega arith) section_is)
    ∙ images_push 0 (take i images) (take i sections) span section (omega (arith, long, length-take-le i sections (omega arith)))
    ∙ ap (λ (n : ℕ). image_statements 0 (take i images) (take i sections) ++ statement.Image (image_data n span section) ∷ []) number in
    line_more old text new (image_statements 0 (take i images) (take i sections)) (statement.Image (image_data i span section)) p q
    ∙ ap (λ (x : List Statement). old ++ statements_text x) (sym lines)

-- the first three lines
pub first_three : (version nodes loads : ℕ) (empty one two three : List ℕ) → empty ≡ [] → one ≡ empty ++ spelling_of (codes "frames" ∷ decimal version ∷ []) → two ≡ one ++ spelling_of (codes "nodes" ∷ decimal nodes ∷ []) → three ≡ two ++ spelling_of (codes "loads" ∷ decimal loads ∷ [])
    → three ≡ statements_text (first_statements version nodes loads)
first_three version nodes loads empty one two three e p q r =
    let first = line_more [] empty one [] (statement.Version version) e p in
    let second = line_more [] one two (statement.Version version ∷ []) (statement.Nodes nodes) first q in
    line_more [] two three (statement.Version version ∷ statement.Nodes nodes ∷ []) (statement.Loads loads) second r

pub all_lines : (s : ScriptData) (images : List SpanData) (sections : List SectionData) (fixed : List ℕ) (snapshots : List SnapshotData) (rounds : List (List (List Event))) (begun imaged kept stopped gone new : List ℕ) → images ≡ s.images → sections ≡ s.sections → fixed ≡ s.fixed → snapshots ≡ s.snapshots → rounds ≡ s.rounds
    → begun ≡ statements_text (first_statements s.version s.nodes s.loads) → imaged ≡ begun ++ statements_text (image_statements 0 images sections) → kept ≡ imaged ++ statements_text (map statement.Fixed fixed) → stopped ≡ kept ++ statements_text (snapshot_statements 0 snapshots) → gone ≡ stopped ++ statements_text (round_statements rounds) → new ≡ gone ++ codes "end\n"
    → new ≡ script_text s
unfolding script_text
all_lines s images sections fixed snapshots rounds begun imaged kept stopped gone new same_images same_sections same_fixed same_snapshots same_rounds b i f t r e =
    let first : begun ≡ [] ++ statements_text (first_statements s.version s.nodes s.loads) = b in
    let second = lines_more [] begun imaged (first_statements s.version s.nodes s.loads) (image_statements 0 s.images s.sections) first (i ∙ ap₂ (λ (x : List SpanData) (y : List SectionData). begun ++ statements_text (image_statements 0 x y)) same_images same_sections) in
    let between = lines_more [] imaged kept (first_statements s.version s.nodes s.loads ++ image_statements 0 s.images s.sections) (map statement.Fixed s.fixed) second (f ∙ ap (λ (x : List ℕ). imaged ++ statements_text (map statement.Fixed x)) same_fixed) in
    let stacks = lines_more [] kept stopped (first_statements s.version s.nodes s.loads ++ image_statements 0 s.images s.sections ++ map statement.Fixed s.fixed) (snapshot_statements 0 s.snapshots) between (t ∙ ap (λ (x : List SnapshotData). kept ++ statements_text (snapshot_statements 0 x)) same_snapshots) in
    let third = lines_more [] stopped gone (first_statements s.version s.nodes s.loads ++ image_statements 0 s.images s.sections ++ map statement.Fixed s.fixed ++ snapshot_statements 0 s.snapshots) (round_statements s.rounds) stacks (r ∙ ap (λ (x : List (List (List Event))). stopped ++ statements_text (round_statements x)) same_rounds) in
    line_more [] gone new (body_statements s) statement.End third e
