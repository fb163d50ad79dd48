-- How scripts are read, line after line. That this finds the first bad line of the table, and the
-- script that the bytes spell, is proved.
use Rattle.std.specs.Prelude.{◌≡◌, ℕ, ◌+◌, ◌-◌, ◌^◌, List, [], ◌∷◌, ◌++◌, length, Bool, true, false}
use Rattle.std.specs.Prelude.{◌&&◌}
use Rattle.std.specs.Prelude.{◌==◌, nat_lt, nat_le, Option, Some, None, Result, Ok, Err, slice_get}
use Rattle.std.specs.Prelude.{if◌then◌else◌}
use Rattle.std.specs.List.{find}
use Rattle.std.specs.Option.{ok_or, option_and_then}
use Rattle.std.specs.Str.{bytes_eq}
use Rattle.reg_model.specs.SpanData.{SpanData}
use Rattle.frame_parse.specs.Sections.{SectionData}
use Rattle.frame_parse.specs.declared.fault.FrameFault.{FrameFault}
use Rattle.frame_parse.specs.declared.fault.FrameFault.TheVariants as frame_fault
use Rattle.frame_parse.specs.Reading.{section_of}
use Rattle.script_text.specs.declared.limits.TheConstants.{FIRST_VERSION, LAST_VERSION}
use Rattle.script_text.specs.declared.limits.TheConstants.{LEAST_NODES, MOST_NODES}
use Rattle.script_text.specs.declared.limits.TheConstants.{LEAST_LOADS, MOST_LOADS, MOST_IMAGES}
use Rattle.script_text.specs.declared.limits.TheConstants.{MOST_SECTION_BYTES, MOST_SNAPSHOTS}
use Rattle.script_text.specs.declared.limits.TheConstants.{MOST_MEMORY_BYTES, MOST_ROUNDS}
use Rattle.script_text.specs.declared.limits.TheConstants.{MOST_THREADS, MOST_EVENTS}
use Rattle.script_text.specs.declared.limits.TheConstants.{MOST_UNWINDS}
use Rattle.frame_expr.specs.Regions.{RegionData, regions_end}
use Rattle.script_text.specs.ScriptData.{ImageData, SnapshotData, Counts, recorded_bytes}
use Rattle.script_text.specs.ScriptData.{counts_of}
use Rattle.script_text.specs.Fields.{pieces, is_printable, decimal_in, hex_in, section_bytes}
use Rattle.script_text.specs.Fields.{hex_bytes_in, all_hex_in}
use Rattle.script_text.specs.Statements.{word_of}
use Rattle.event_script.specs.Draft.{DraftData, nothing_known, may_come, is_ended}
use Rattle.event_script.specs.Draft.{snapshots_so_far, threads_so_far, rounds_so_far}
use Rattle.event_script.specs.Draft.{with_image, with_statement}
use Rattle.script_text.specs.declared.script.Event.{Event}
use Rattle.script_text.specs.declared.script.Event.TheVariants as event
use Rattle.script_text.specs.declared.reason.Reason.{Reason}
use Rattle.script_text.specs.declared.reason.Reason.TheVariants as reason
use Rattle.event_script.specs.declared.reader.fault.LineFault.{LineFault}
use Rattle.event_script.specs.declared.reader.fault.LineFault.TheVariants as fault
use Rattle.script_text.specs.declared.kind.Kind.{Kind}
use Rattle.script_text.specs.declared.kind.Kind.TheVariants as kind
use Rattle.script_text.specs.declared.statement.SnapshotFields.{SnapshotFields}
use Rattle.script_text.specs.declared.statement.Statement.{Statement}
use Rattle.script_text.specs.declared.statement.Statement.TheVariants as statement
use Rattle.event_script.specs.declared.reader.totals.Totals.{Totals}

infixl 10 ◌>=>◌
abbrev pub ◌>=>◌ : {A B E : Type 0} → Result A E → (A → Result B E) → Result B E
(Ok x) >=> f = f x
(Err e) >=> f = Err e

-- a section is refused for its bytes, and never for want of memory
abbrev pub IsOfBytes : Reason → Type 0
IsOfBytes (reason.Section frame_fault.NoMemory) = ⊥
IsOfBytes _ = Unit {0}

-- What a reader returned is what the line gives, unless memory ran out.
abbrev pub Fails : {A : Type 0} → LineFault → Result A Reason → Type 0
Fails fault.NoMemory given = Unit {0}
Fails (fault.Bad reason) given = (given ≡ Err reason) × IsOfBytes reason

abbrev pub GivesLine : {A : Type 0} → Result A LineFault → Result A Reason → Type 0
GivesLine (Ok x) given = given ≡ Ok x
GivesLine (Err e) given = Fails e given

-- The same of a reader that changes a draft in its place.
abbrev pub LeavesDraft : {A D : Type 0} → D → Result A LineFault → Result D Reason → Type 0
LeavesDraft now (Ok x) given = given ≡ Ok now
LeavesDraft now (Err e) given = Fails e given

-- ---- what a line says

abbrev pub kinds : List Kind
kinds = kind.Find ∷ kind.Register ∷ kind.Deregister ∷ kind.Replace ∷ kind.Load ∷ kind.Unload ∷
    kind.Unwind ∷ kind.Memory ∷ kind.Thread ∷ kind.Round ∷ kind.Image ∷ kind.Fixed ∷
    kind.Snapshot ∷ kind.Version ∷ kind.Nodes ∷ kind.Loads ∷ kind.End ∷ []

unfoldable pub kind_of : List ℕ → Option Kind
kind_of word = find (λ kind. bytes_eq word (word_of kind)) kinds

abbrev pub has_any : List (List ℕ) → Bool
has_any [] = false
has_any (field ∷ fields) = true

abbrev pub only : List (List ℕ) → Option (List ℕ)
only (field ∷ []) = Some field
only _ = None

abbrev pub one_decimal : List (List ℕ) → Result ℕ Reason
one_decimal fields = ok_or (only fields) reason.Fields >=>
    λ field. ok_or (decimal_in field) reason.Spelling

abbrev pub one_hex : List (List ℕ) → Result ℕ Reason
one_hex fields = ok_or (only fields) reason.Fields >=> λ field. ok_or (hex_in field) reason.Spelling

abbrev pub five : List (List ℕ) → Option (List ℕ × List ℕ × List ℕ × List ℕ × List ℕ)
five (number ∷ base ∷ size ∷ section ∷ bytes ∷ []) = Some (number, base, size, section, bytes)
five _ = None

abbrev pub image_fields : List (List ℕ) → Result ImageData Reason
image_fields fields =
    ok_or (five fields) reason.Fields >=> λ image.
    ok_or (decimal_in image.0) reason.Spelling >=> λ number.
    ok_or (hex_in image.1) reason.Spelling >=> λ base.
    ok_or (hex_in image.2) reason.Spelling >=> λ size.
    ok_or (hex_in image.3) reason.Spelling >=> λ section.
    ok_or (section_bytes image.4) reason.Spelling >=> λ bytes.
    Ok (record { number = number; base = base; size = size; section = section; bytes = bytes })

-- a number, and those of the 17 columns
abbrev pub numbers_in : List (List ℕ) → Result SnapshotFields Reason
numbers_in [] = Err reason.Fields
numbers_in (number ∷ columns) =
    ok_or (decimal_in number) reason.Spelling >=> λ number.
    ok_or (all_hex_in columns) reason.Spelling >=> λ columns.
    Ok (record { number = number; regs = record { columns = columns } })

abbrev pub snapshot_fields : List (List ℕ) → Result SnapshotFields Reason
snapshot_fields fields = if length fields == 18 then numbers_in fields else Err reason.Fields

abbrev pub two : List (List ℕ) → Option (List ℕ × List ℕ)
two (address ∷ bytes ∷ []) = Some (address, bytes)
two _ = None

abbrev pub memory_fields : List (List ℕ) → Result RegionData Reason
memory_fields fields =
    ok_or (two fields) reason.Fields >=> λ region.
    ok_or (hex_in region.0) reason.Spelling >=> λ address.
    ok_or (hex_bytes_in region.1) reason.Spelling >=> λ bytes.
    Ok (record { address = address; bytes = bytes })

-- where no field follows
abbrev pub fieldless : List (List ℕ) → Statement → Result Statement Reason
fieldless fields s = if has_any fields then Err reason.Fields else Ok s

unfoldable pub statement_of : Kind → List (List ℕ) → Result Statement Reason
statement_of kind.Version fields = one_decimal fields >=> λ version. Ok (statement.Version version)
statement_of kind.Nodes fields = one_decimal fields >=> λ nodes. Ok (statement.Nodes nodes)
statement_of kind.Loads fields = one_decimal fields >=> λ loads. Ok (statement.Loads loads)
statement_of kind.Image fields = image_fields fields >=> λ image. Ok (statement.Image image)
statement_of kind.Fixed fields = one_decimal fields >=> λ image. Ok (statement.Fixed image)
statement_of kind.Snapshot fields =
    snapshot_fields fields >=> λ snapshot. Ok (statement.Snapshot snapshot)
statement_of kind.Memory fields = memory_fields fields >=> λ region. Ok (statement.Memory region)
statement_of kind.Round fields = fieldless fields statement.Round
statement_of kind.Thread fields = fieldless fields statement.Thread
statement_of kind.Register fields =
    one_decimal fields >=> λ image. Ok (statement.Event (event.Register image))
statement_of kind.Deregister fields =
    one_hex fields >=> λ base. Ok (statement.Event (event.Deregister base))
statement_of kind.Replace fields =
    one_decimal fields >=> λ image. Ok (statement.Event (event.Replace image))
statement_of kind.Load fields =
    one_decimal fields >=> λ image. Ok (statement.Event (event.Load image))
statement_of kind.Unload fields =
    one_hex fields >=> λ base. Ok (statement.Event (event.Unload base))
statement_of kind.Find fields = one_hex fields >=> λ pc. Ok (statement.Event (event.Find pc))
statement_of kind.Unwind fields =
    one_decimal fields >=> λ snapshot. Ok (statement.Event (event.Unwind snapshot))
statement_of kind.End fields = fieldless fields statement.End

-- ---- what is known after it, or why it is bad

-- the section of an image, or the reason that it is none
abbrev pub section_or : Result SectionData FrameFault → Result SectionData Reason
section_or (Ok section) = Ok section
section_or (Err fault) = Err (reason.Section fault)

abbrev pub image_added : DraftData → ImageData → Result DraftData Reason
image_added known image =
    if image.number == length known.script.images then
    (if nat_lt (length known.script.images) MOST_IMAGES
    && nat_le (length image.bytes) MOST_SECTION_BYTES then
    (if nat_lt 0 image.size && nat_le (image.base + image.size) (2 ^ 64 - 1) then
    (section_or (section_of image.section image.bytes) >=>
    λ section. Ok (with_image known image section))
    else Err reason.Span)
    else Err reason.Limit)
    else Err reason.Order

-- the span of the image that was fixed last
abbrev pub last_fixed : List SpanData → List ℕ → Option SpanData
last_fixed images fixed = option_and_then (slice_get images) (slice_get fixed (length fixed - 1))

-- whether the span is wholly above another, where there is one
abbrev pub is_above : Option SpanData → SpanData → Bool
is_above None span = true
is_above (Some before) span = nat_lt before.last span.first

abbrev pub fixed_added : DraftData → ℕ → Result DraftData Reason
fixed_added known image =
    ok_or (slice_get known.script.images image) reason.Name >=> λ span.
    if is_above (last_fixed known.script.images known.script.fixed) span
    then Ok (with_statement known (statement.Fixed image)) else Err reason.Fixed

abbrev pub snapshot_added : DraftData → SnapshotFields → Result DraftData Reason
snapshot_added known snapshot =
    if snapshot.number == length (snapshots_so_far known) then
    (if nat_lt (length (snapshots_so_far known)) MOST_SNAPSHOTS
    then Ok (with_statement known (statement.Snapshot snapshot)) else Err reason.Limit)
    else Err reason.Order

-- whether the region can be recorded above the others
abbrev pub accepts : List RegionData → RegionData → Bool
accepts regions region =
    nat_lt 0 (length region.bytes) && nat_lt (region.address + length region.bytes) (2 ^ 64)
    && nat_le (regions_end regions) region.address

-- the snapshot with one more region of memory
abbrev pub region_added : SnapshotData → RegionData → Result SnapshotData Reason
region_added snapshot region =
    if nat_le (recorded_bytes snapshot.memory + length region.bytes) MOST_MEMORY_BYTES then
    (if accepts snapshot.memory region
    then Ok (record snapshot { memory = snapshot.memory ++ region ∷ [] }) else Err reason.Region)
    else Err reason.Limit

abbrev pub memory_added : DraftData → RegionData → Result DraftData Reason
memory_added known region =
    region_added known.snapshot region >=> λ snapshot. Ok (record known { snapshot = snapshot })

-- whether an event names nothing that there isn't
abbrev pub is_named : Counts → Event → Bool
is_named counts (event.Register image) = nat_lt image counts.images
is_named counts (event.Replace image) = nat_lt image counts.images
is_named counts (event.Load image) = nat_lt image counts.images
is_named counts (event.Unwind snapshot) = nat_lt snapshot counts.snapshots
is_named counts _ = true

-- whether a script may have one more such event
abbrev pub has_room : Totals → Event → Bool
has_room totals (event.Unwind snapshot) = nat_lt totals.unwinds MOST_UNWINDS
has_room totals _ = true

unfoldable pub added : DraftData → Statement → Result DraftData Reason
added known (statement.Version version) =
    if nat_le FIRST_VERSION version && nat_le version LAST_VERSION
    then Ok (with_statement known (statement.Version version)) else Err reason.Limit
added known (statement.Nodes nodes) =
    if nat_le LEAST_NODES nodes && nat_le nodes MOST_NODES
    then Ok (with_statement known (statement.Nodes nodes)) else Err reason.Limit
added known (statement.Loads loads) =
    if nat_le LEAST_LOADS loads && nat_le loads MOST_LOADS
    then Ok (with_statement known (statement.Loads loads)) else Err reason.Limit
added known (statement.Image image) = image_added known image
added known (statement.Fixed image) = fixed_added known image
added known (statement.Snapshot snapshot) = snapshot_added known snapshot
added known (statement.Memory region) = memory_added known region
added known statement.Round =
    if nat_lt (length (rounds_so_far known)) MOST_ROUNDS
    then Ok (with_statement known statement.Round) else Err reason.Limit
added known statement.Thread =
    if nat_lt (length (threads_so_far known)) MOST_THREADS
    then Ok (with_statement known statement.Thread) else Err reason.Limit
added known (statement.Event event) =
    if nat_lt (length known.events) MOST_EVENTS && has_room known.totals event
    then (if is_named (counts_of known.script) event
    then Ok (with_statement known (statement.Event event)) else Err reason.Name)
    else Err reason.Limit
added known statement.End = Ok (with_statement known statement.End)

-- ---- lines

-- what is known after a line of the kind, with the fields that follow its word
abbrev pub spoken_added : DraftData → Kind → List (List ℕ) → Result DraftData Reason
spoken_added known kind fields = statement_of kind fields >=> λ s. added known s

unfoldable pub by_word : DraftData → List (List ℕ) → Result DraftData Reason
by_word known [] = Err reason.Word
by_word known (word ∷ fields) =
    ok_or (kind_of word) reason.Word >=> λ kind.
    if may_come known.script.version known.stage kind then spoken_added known kind fields
    else Err reason.Word

-- what is known after a line, which stands here without its line feed
unfoldable pub after_line : DraftData → List ℕ → Result DraftData Reason
after_line known line =
    if is_ended known.stage then Err reason.After
    else (if is_printable line then by_word known (pieces 32 line) else Err reason.Byte)

-- where no line feed comes any more
unfoldable pub at_end : DraftData → List ℕ → Result DraftData Reason
at_end known [] = if is_ended known.stage then Ok known else Err reason.Missing
at_end known (b ∷ bytes) = if is_ended known.stage then Err reason.After else Err reason.Unended

-- a bad line, numbered from 1, and the first reason that holds of it
pub record BadLine : Type 0 where
  pub line : ℕ
  pub reason : Reason

abbrev pub at_line : ℕ → Result DraftData Reason → Result DraftData BadLine
at_line number (Ok known) = Ok known
at_line number (Err reason) = Err (record { line = number; reason = reason })

-- what is known in the end, or the first bad line; the first of these lines has the number
unfoldable pub after_lines : DraftData → ℕ → List (List ℕ) → Result DraftData BadLine
after_lines known number [] = at_line number (at_end known [])
after_lines known number (rest ∷ []) = at_line number (at_end known rest)
after_lines known number (line ∷ next ∷ others) =
    at_line number (after_line known line) >=>
    λ after. after_lines after (number + 1) (next ∷ others)

-- what the bytes make known, or their first bad line
abbrev pub outcome : List ℕ → Result DraftData BadLine
outcome bytes = after_lines nothing_known 1 (pieces 10 bytes)
