-- What lines say, whatever stands before them, and how that is spelled.
use Rattle.std.specs.Prelude.{◌≡◌, ℕ, ◌^◌, ◌<◌, List, [], ◌∷◌, length, map, All, replicate, codes}
use Rattle.std.specs.Fmt.{decimal}
use Rattle.hex.specs.Hex.{IsBytes, encode_lower}
use Rattle.script_text.specs.Digits.{hex}
use Rattle.script_text.specs.declared.script.Event.{Event}
use Rattle.script_text.specs.declared.script.Event.TheVariants as event
use Rattle.script_text.specs.declared.kind.Kind.{Kind}
use Rattle.script_text.specs.declared.kind.Kind.TheVariants as kind
use Rattle.script_text.specs.declared.statement.Statement.{Statement}
use Rattle.script_text.specs.declared.statement.Statement.TheVariants as statement

-- the word that a line of the kind begins with
abbrev pub word_of : Kind → List ℕ
word_of kind.Version = codes "frames"
word_of kind.Nodes = codes "nodes"
word_of kind.Loads = codes "loads"
word_of kind.Image = codes "image"
word_of kind.Fixed = codes "fixed"
word_of kind.Snapshot = codes "snapshot"
word_of kind.Memory = codes "memory"
word_of kind.Round = codes "round"
word_of kind.Thread = codes "thread"
word_of kind.Register = codes "register"
word_of kind.Deregister = codes "deregister"
word_of kind.Replace = codes "replace"
word_of kind.Load = codes "load"
word_of kind.Unload = codes "unload"
word_of kind.Find = codes "find"
word_of kind.Unwind = codes "unwind"
word_of kind.End = codes "end"

-- how a field is spelled: as a decimal number, as a hexadecimal one, as bytes, one at least, or as
-- bytes or a dash
pub data Form : Type 0 where
  Decimal : Form
  Hexadecimal : Form
  Bytes : Form
  BytesOrDash : Form

-- the fields that come after the word
abbrev pub forms : Kind → List Form
forms kind.Image = Decimal ∷ Hexadecimal ∷ Hexadecimal ∷ Hexadecimal ∷ BytesOrDash ∷ []
forms kind.Snapshot = Decimal ∷ replicate 17 Hexadecimal
forms kind.Memory = Hexadecimal ∷ Bytes ∷ []
forms kind.Round = []
forms kind.Thread = []
forms kind.Deregister = Hexadecimal ∷ []
forms kind.Unload = Hexadecimal ∷ []
forms kind.Find = Hexadecimal ∷ []
forms kind.End = []
forms _ = Decimal ∷ []

-- the bytes of a section: none are a dash
abbrev pub section_digits : List ℕ → List ℕ
section_digits [] = codes "-"
section_digits (b ∷ bytes) = encode_lower (b ∷ bytes)

-- the field is spelled so: decimal numbers are below 2^32, hexadecimal ones below 2^64
abbrev pub IsField : Form → List ℕ → Type 0
IsField Decimal field = (n : ℕ) × (n < 2 ^ 32) × (field ≡ decimal n)
IsField Hexadecimal field = (n : ℕ) × (n < 2 ^ 64) × (field ≡ hex n)
IsField Bytes field =
    (bytes : List ℕ) × IsBytes bytes × (0 < length bytes) × (field ≡ encode_lower bytes)
IsField BytesOrDash field = (bytes : List ℕ) × IsBytes bytes × (field ≡ section_digits bytes)

-- each field is spelled as its form
abbrev pub AreFields : List Form → List (List ℕ) → Type 0
AreFields [] fields = Unit {0}
AreFields (form ∷ others) [] = Unit {0}
AreFields (form ∷ others) (field ∷ fields) = IsField form field × AreFields others fields

abbrev pub event_fields : Event → List (List ℕ)
event_fields (event.Register image) = decimal image ∷ []
event_fields (event.Deregister base) = hex base ∷ []
event_fields (event.Replace image) = decimal image ∷ []
event_fields (event.Load image) = decimal image ∷ []
event_fields (event.Unload base) = hex base ∷ []
event_fields (event.Find pc) = hex pc ∷ []
event_fields (event.Unwind snapshot) = decimal snapshot ∷ []

abbrev pub kind_of_statement : Statement → Kind
kind_of_statement (statement.Version version) = kind.Version
kind_of_statement (statement.Nodes nodes) = kind.Nodes
kind_of_statement (statement.Loads loads) = kind.Loads
kind_of_statement (statement.Image image) = kind.Image
kind_of_statement (statement.Fixed image) = kind.Fixed
kind_of_statement (statement.Snapshot snapshot) = kind.Snapshot
kind_of_statement (statement.Memory region) = kind.Memory
kind_of_statement statement.Round = kind.Round
kind_of_statement statement.Thread = kind.Thread
kind_of_statement (statement.Event (event.Register image)) = kind.Register
kind_of_statement (statement.Event (event.Deregister base)) = kind.Deregister
kind_of_statement (statement.Event (event.Replace image)) = kind.Replace
kind_of_statement (statement.Event (event.Load image)) = kind.Load
kind_of_statement (statement.Event (event.Unload base)) = kind.Unload
kind_of_statement (statement.Event (event.Find pc)) = kind.Find
kind_of_statement (statement.Event (event.Unwind snapshot)) = kind.Unwind
kind_of_statement statement.End = kind.End

abbrev pub kind_of_event : Event → Kind
kind_of_event e = kind_of_statement (statement.Event e)

abbrev pub statement_fields : Statement → List (List ℕ)
statement_fields (statement.Version version) = decimal version ∷ []
statement_fields (statement.Nodes nodes) = decimal nodes ∷ []
statement_fields (statement.Loads loads) = decimal loads ∷ []
statement_fields (statement.Image image) =
    decimal image.number ∷ hex image.base ∷ hex image.size ∷ hex image.section
    ∷ section_digits image.bytes ∷ []
statement_fields (statement.Fixed image) = decimal image ∷ []
statement_fields (statement.Snapshot snapshot) =
    decimal snapshot.number ∷ map hex snapshot.regs.columns
statement_fields (statement.Memory region) = hex region.address ∷ encode_lower region.bytes ∷ []
statement_fields (statement.Event event) = event_fields event
statement_fields _ = []

-- the fields of the line that says it, its word included
abbrev pub statement_line : Statement → List (List ℕ)
statement_line s = word_of (kind_of_statement s) ∷ statement_fields s

abbrev pub HasEventForm : Event → Type 0
HasEventForm (event.Register image) = image < 2 ^ 32
HasEventForm (event.Deregister base) = base < 2 ^ 64
HasEventForm (event.Replace image) = image < 2 ^ 32
HasEventForm (event.Load image) = image < 2 ^ 32
HasEventForm (event.Unload base) = base < 2 ^ 64
HasEventForm (event.Find pc) = pc < 2 ^ 64
HasEventForm (event.Unwind snapshot) = snapshot < 2 ^ 32

-- its numbers are as small as their forms want
abbrev pub HasForm : Statement → Type 0
HasForm (statement.Version version) = version < 2 ^ 32
HasForm (statement.Nodes nodes) = nodes < 2 ^ 32
HasForm (statement.Loads loads) = loads < 2 ^ 32
HasForm (statement.Image image) =
    (image.number < 2 ^ 32) × (image.base < 2 ^ 64) × (image.size < 2 ^ 64)
    × (image.section < 2 ^ 64) × IsBytes image.bytes
HasForm (statement.Fixed image) = image < 2 ^ 32
HasForm (statement.Snapshot snapshot) =
    (snapshot.number < 2 ^ 32) × (length snapshot.regs.columns ≡ 17)
    × All (λ n. n < 2 ^ 64) snapshot.regs.columns
HasForm (statement.Memory region) =
    (region.address < 2 ^ 64) × IsBytes region.bytes × (0 < length region.bytes)
HasForm (statement.Event event) = HasEventForm event
HasForm _ = Unit {0}
