-- The grammar of scripts: which bytes spell which script.
use Rattle.std.specs.Prelude.{◌≡◌, ℕ, ◌+◌, ◌-◌, List, [], ◌∷◌, ◌++◌, map}
use Rattle.std.specs.List.{flat_map}
use Rattle.frame_parse.specs.Sections.{SectionData}
use Rattle.reg_model.specs.SpanData.{SpanData}
use Rattle.script_text.specs.ScriptData.{ScriptData, ImageData, SnapshotData, IsRunnable}
use Rattle.script_text.specs.Statements.{statement_line}
use Rattle.script_text.specs.declared.script.Event.{Event}
use Rattle.script_text.specs.declared.statement.Statement.{Statement}
use Rattle.script_text.specs.declared.statement.Statement.TheVariants as statement

-- a line is its fields, one space between each two
abbrev pub Line : Type 0
Line = List (List ℕ)

-- its bytes, the line feed (10) at its end included
abbrev pub spelling_of : Line → List ℕ
spelling_of [] = 10 ∷ []
spelling_of (field ∷ []) = field ++ 10 ∷ []
spelling_of (field ∷ fields) = field ++ 32 ∷ spelling_of fields

-- the line that says it
abbrev pub statement_text : Statement → List ℕ
statement_text s = spelling_of (statement_line s)

-- the lines that say them, one after another
abbrev pub statements_text : List Statement → List ℕ
statements_text statements = flat_map statement_text statements

-- what the line of an image says, from its number, span and section
abbrev pub image_data : ℕ → SpanData → SectionData → ImageData
image_data number span section = record {
  number = number;
  base = span.first;
  size = span.last + 1 - span.first;
  section = section.address;
  bytes = section.bytes;
}

-- the images, numbered upwards, each with its section
abbrev pub image_statements : ℕ → List SpanData → List SectionData → List Statement
image_statements number [] sections = []
image_statements number (span ∷ images) [] = []
image_statements number (span ∷ images) (section ∷ sections) =
    statement.Image (image_data number span section) ∷ image_statements (number + 1) images sections

-- a snapshot's registers, and then its memory
abbrev pub snapshot_lines : ℕ → SnapshotData → List Statement
snapshot_lines number snapshot =
    statement.Snapshot (record { number = number; regs = snapshot.regs })
    ∷ map statement.Memory snapshot.memory

-- the snapshots, numbered upwards
abbrev pub snapshot_statements : ℕ → List SnapshotData → List Statement
snapshot_statements number [] = []
snapshot_statements number (snapshot ∷ snapshots) =
    snapshot_lines number snapshot ++ snapshot_statements (number + 1) snapshots

abbrev pub thread_statements : List (List Event) → List Statement
thread_statements [] = []
thread_statements (events ∷ threads) =
    statement.Thread ∷ map statement.Event events ++ thread_statements threads

abbrev pub round_statements : List (List (List Event)) → List Statement
round_statements [] = []
round_statements (threads ∷ rounds) =
    statement.Round ∷ thread_statements threads ++ round_statements rounds

-- the version and the two numbers
abbrev pub first_statements : ℕ → ℕ → ℕ → List Statement
first_statements version nodes loads =
    statement.Version version ∷ statement.Nodes nodes ∷ statement.Loads loads ∷ []

-- what the lines of a script say, but for the last one
abbrev pub body_statements : ScriptData → List Statement
body_statements s =
    first_statements s.version s.nodes s.loads ++ image_statements 0 s.images s.sections
    ++ map statement.Fixed s.fixed ++ snapshot_statements 0 s.snapshots ++ round_statements s.rounds

-- the text of a script
unfoldable pub script_text : ScriptData → List ℕ
script_text s = statements_text (body_statements s ++ statement.End ∷ [])

-- the bytes are those of a script that can be run
pub record IsScript (bytes : List ℕ) (s : ScriptData) : Type 0 where
  pub text : bytes ≡ script_text s
  pub runnable : IsRunnable s
