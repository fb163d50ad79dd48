-- Why a line is bad: the table of reasons, in its order.
use Rattle.std.specs.Prelude.{◌≡◌, ◌≢◌, ◌⊎◌, ℕ, ◌+◌, ◌-◌, ◌^◌, ◌<◌, ◌≤◌, List, [], ◌∷◌, length}
use Rattle.std.specs.Prelude.{Bool, true, false, Some, slice_get}
use Rattle.frame_parse.specs.Sections.{IsRefused}
use Rattle.frame_parse.specs.declared.fault.FrameFault.{FrameFault}
use Rattle.script_text.specs.declared.limits.TheConstants.{FIRST_VERSION, LAST_VERSION}
use Rattle.script_text.specs.declared.limits.TheConstants.{LEAST_NODES, MOST_NODES}
use Rattle.script_text.specs.declared.limits.TheConstants.{LEAST_LOADS, MOST_LOADS, MOST_IMAGES}
use Rattle.script_text.specs.declared.limits.TheConstants.{MOST_SECTION_BYTES, MOST_SNAPSHOTS}
use Rattle.script_text.specs.declared.limits.TheConstants.{MOST_MEMORY_BYTES, MOST_ROUNDS}
use Rattle.script_text.specs.declared.limits.TheConstants.{MOST_THREADS, MOST_EVENTS}
use Rattle.script_text.specs.declared.limits.TheConstants.{MOST_UNWINDS}
use Rattle.reg_model.specs.SpanData.{SpanData}
use Rattle.script_text.specs.Fields.{pieces, is_printable}
use Rattle.script_text.specs.Statements.{word_of, forms, AreFields, statement_line, HasForm}
use Rattle.script_text.specs.Spelling.{Line}
use Rattle.frame_expr.specs.Regions.{Accepts}
use Rattle.script_text.specs.ScriptData.{recorded_bytes}
use Rattle.event_script.specs.Draft.{DraftData, may_come, is_ended, snapshots_so_far}
use Rattle.event_script.specs.Draft.{threads_so_far, rounds_so_far}
use Rattle.script_text.specs.declared.script.Event.{Event}
use Rattle.script_text.specs.declared.script.Event.TheVariants as event
use Rattle.script_text.specs.declared.reason.Reason.{Reason}
use Rattle.script_text.specs.declared.reason.Reason.TheVariants as reason
use Rattle.script_text.specs.declared.kind.Kind.{Kind}
use Rattle.script_text.specs.declared.statement.Statement.{Statement}
use Rattle.script_text.specs.declared.statement.Statement.TheVariants as statement

-- what stands in the place of a line: its bytes, and whether a line feed ends them
pub record LineText : Type 0 where
  pub bytes : List ℕ
  pub has_feed : Bool

-- the line's fields, which a space (32) parts
abbrev pub fields_of : LineText → Line
fields_of text = pieces 32 text.bytes

-- the line begins with the word of a kind that may come here, and this holds of the kind and of its
-- other fields
abbrev pub IsOfKind : DraftData → LineText → (Kind → Line → Type 0) → Type 0
IsOfKind known text P =
    (kind : Kind) × (fields : Line) × (fields_of text ≡ word_of kind ∷ fields)
    × (may_come known.script.version known.stage kind ≡ true) × P kind fields

-- the line says this
pub record Says (text : LineText) (s : Statement) : Type 0 where
  pub line : fields_of text ≡ statement_line s
  pub form : HasForm s

-- the line says something of which this holds
abbrev pub SaysSome : LineText → (Statement → Type 0) → Type 0
SaysSome text P = (s : Statement) × Says text s × P s

-- ---- reasons against what a line says, in what the lines before it made known

-- an image's or a snapshot's number isn't the next
abbrev pub IsOutOfOrder : DraftData → Statement → Type 0
IsOutOfOrder known (statement.Image image) = image.number ≢ length known.script.images
IsOutOfOrder known (statement.Snapshot snapshot) =
    snapshot.number ≢ length (snapshots_so_far known)
IsOutOfOrder known _ = ⊥

-- it is one `unwind` event more than a script may have
abbrev pub IsUnwindTooMany : DraftData → Event → Type 0
IsUnwindTooMany known (event.Unwind snapshot) = MOST_UNWINDS ≤ known.totals.unwinds
IsUnwindTooMany known _ = ⊥

-- a number, or a count with this line, is outside its limit
abbrev pub IsOutsideLimit : DraftData → Statement → Type 0
IsOutsideLimit known (statement.Version version) =
    (version < FIRST_VERSION) ⊎ (LAST_VERSION < version)
IsOutsideLimit known (statement.Nodes nodes) = (nodes < LEAST_NODES) ⊎ (MOST_NODES < nodes)
IsOutsideLimit known (statement.Loads loads) = (loads < LEAST_LOADS) ⊎ (MOST_LOADS < loads)
IsOutsideLimit known (statement.Image image) =
    (MOST_IMAGES ≤ length known.script.images) ⊎ (MOST_SECTION_BYTES < length image.bytes)
IsOutsideLimit known (statement.Snapshot snapshot) =
    MOST_SNAPSHOTS ≤ length (snapshots_so_far known)
IsOutsideLimit known (statement.Memory region) =
    MOST_MEMORY_BYTES < recorded_bytes known.snapshot.memory + length region.bytes
IsOutsideLimit known statement.Round = MOST_ROUNDS ≤ length (rounds_so_far known)
IsOutsideLimit known statement.Thread = MOST_THREADS ≤ length (threads_so_far known)
IsOutsideLimit known (statement.Event event) =
    (MOST_EVENTS ≤ length known.events) ⊎ IsUnwindTooMany known event
IsOutsideLimit known _ = ⊥

-- the size is 0, or the base plus the size is above 2^64 - 1
abbrev pub IsNoSpan : Statement → Type 0
IsNoSpan (statement.Image image) = (image.size ≡ 0) ⊎ (2 ^ 64 - 1 < image.base + image.size)
IsNoSpan _ = ⊥

-- the section is refused for this
abbrev pub HasBadSection : FrameFault → Statement → Type 0
HasBadSection fault (statement.Image image) = IsRefused image.section image.bytes fault
HasBadSection fault _ = ⊥

-- it names an image or a snapshot that the script hasn't
abbrev pub IsNameless : DraftData → Statement → Type 0
IsNameless known (statement.Fixed image) = length known.script.images ≤ image
IsNameless known (statement.Event (event.Register image)) = length known.script.images ≤ image
IsNameless known (statement.Event (event.Replace image)) = length known.script.images ≤ image
IsNameless known (statement.Event (event.Load image)) = length known.script.images ≤ image
IsNameless known (statement.Event (event.Unwind snapshot)) =
    length known.script.snapshots ≤ snapshot
IsNameless known _ = ⊥

-- its span isn't wholly above that of the fixed image before it
abbrev pub IsNotAbove : DraftData → Statement → Type 0
IsNotAbove known (statement.Fixed image) =
    (last : ℕ) × (below above : SpanData)
    × (slice_get known.script.fixed (length known.script.fixed - 1) ≡ Some last)
    × (slice_get known.script.images last ≡ Some below)
    × (slice_get known.script.images image ≡ Some above)
    × (above.first ≤ below.last)
IsNotAbove known _ = ⊥

-- the region can't be recorded above those before it
abbrev pub IsNoRegion : DraftData → Statement → Type 0
IsNoRegion known (statement.Memory region) =
    Accepts known.snapshot.memory region.address region.bytes → ⊥
IsNoRegion known _ = ⊥

-- ---- the table

-- its number in the table, which has no sixth any more
abbrev pub number_in_table : Reason → ℕ
number_in_table reason.Missing = 1
number_in_table reason.After = 2
number_in_table reason.Unended = 3
number_in_table reason.Byte = 4
number_in_table reason.Word = 5
number_in_table reason.Fields = 7
number_in_table reason.Spelling = 8
number_in_table reason.Order = 9
number_in_table reason.Limit = 10
number_in_table reason.Span = 11
number_in_table (reason.Section fault) = 12
number_in_table reason.Name = 13
number_in_table reason.Fixed = 14
number_in_table reason.Region = 15

-- The reason holds of what stands in the place of a line, in what the lines before made known.
abbrev pub SpeaksAgainst : Reason → DraftData → LineText → Type 0
-- the input ends where a line must come
SpeaksAgainst reason.Missing known text =
    (is_ended known.stage ≡ false) × (text.bytes ≡ []) × (text.has_feed ≡ false)
-- bytes come after the `end` line
SpeaksAgainst reason.After known text =
    (is_ended known.stage ≡ true) × ((text.bytes ≢ []) ⊎ (text.has_feed ≡ true))
-- the line has no line feed
SpeaksAgainst reason.Unended known text = text.has_feed ≡ false
-- a byte outside 20 to 7e (hexadecimal) stands in it
SpeaksAgainst reason.Byte known text = is_printable text.bytes ≡ false
-- its first field can't start a line here
SpeaksAgainst reason.Word known text =
    (kind : Kind) (fields : Line) → fields_of text ≡ word_of kind ∷ fields
    → may_come known.script.version known.stage kind ≡ true → ⊥
-- the number of fields is wrong; an empty field counts as a field
SpeaksAgainst reason.Fields known text =
    IsOfKind known text (λ kind fields. length fields ≢ length (forms kind))
-- a field isn't spelled as its kind
SpeaksAgainst reason.Spelling known text =
    IsOfKind known text (λ kind fields. AreFields (forms kind) fields → ⊥)
SpeaksAgainst reason.Order known text = SaysSome text (IsOutOfOrder known)
SpeaksAgainst reason.Limit known text = SaysSome text (IsOutsideLimit known)
SpeaksAgainst reason.Span known text = SaysSome text IsNoSpan
SpeaksAgainst (reason.Section fault) known text = SaysSome text (HasBadSection fault)
SpeaksAgainst reason.Name known text = SaysSome text (IsNameless known)
SpeaksAgainst reason.Fixed known text = SaysSome text (IsNotAbove known)
SpeaksAgainst reason.Region known text = SaysSome text (IsNoRegion known)

-- the first reason that holds
pub record IsReason (known : DraftData) (text : LineText) (why : Reason) : Type 0 where
  pub holds : SpeaksAgainst why known text
  pub first : (other : Reason) → number_in_table other < number_in_table why
      → SpeaksAgainst other known text → ⊥

-- no reason holds
abbrev pub IsGood : DraftData → LineText → Type 0
IsGood known text = (why : Reason) → SpeaksAgainst why known text → ⊥
