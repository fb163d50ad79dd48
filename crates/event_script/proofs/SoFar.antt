-- What the lines so far say, and what holds of what they make known.
use Rattle.std.proofs.Common.{◌≡◌, ℕ, ◌<◌, ◌≤◌, List, [], ◌∷◌, ◌++◌, length, All, sym, subst, arith}
use Rattle.std.proofs.lemmas.List.Elements.{All-from_recursion}
use Rattle.reg_model.specs.SpanData.{SpanData, IsSpan}
use Rattle.script_text.specs.ScriptData.{ScriptData, Counts, counts_of, IsSnapshot, IsSectionOf, AreFixed, IsEvent, IsThread, IsRound}
use Rattle.script_text.specs.Spelling.{body_statements}
use Rattle.event_script.specs.Draft.{DraftData, snapshots_so_far, rounds_so_far}
use Rattle.script_text.specs.declared.script.Event.{Event}
use Rattle.event_script.specs.declared.reader.kinds.Stage.{Stage}
use Rattle.event_script.specs.declared.reader.kinds.Stage.TheVariants as stage
use Rattle.script_text.specs.declared.statement.Statement.{Statement}
use Rattle.script_text.specs.declared.statement.Statement.TheVariants as statement
use Rattle.event_script.proofs.EventTotals.{Totalled}

-- ---- the lines so far

-- the script so far, with the snapshot or the round that goes on
abbrev pub script_so_far : DraftData → ScriptData
script_so_far known = record known.script { snapshots = snapshots_so_far known; rounds = rounds_so_far known }

abbrev pub statements_at : Stage → DraftData → List Statement
statements_at stage.Version known = []
statements_at stage.Nodes known = statement.Version known.script.version ∷ []
statements_at stage.Loads known = statement.Version known.script.version ∷ statement.Nodes known.script.nodes ∷ []
statements_at stage.Ended known = body_statements known.script ++ statement.End ∷ []
statements_at _ known = body_statements (script_so_far known)

abbrev pub statements_so_far : DraftData → List Statement
statements_so_far known = statements_at known.stage known

-- ---- what holds of what is known

abbrev pub VersionAt : Stage → ℕ → Type 0
VersionAt stage.Version version = Unit {0}
VersionAt _ version = (1 ≤ version) × (version ≤ 2)

abbrev pub NodesAt : Stage → ℕ → Type 0
NodesAt stage.Version nodes = Unit {0}
NodesAt stage.Nodes nodes = Unit {0}
NodesAt _ nodes = (4 ≤ nodes) × (nodes ≤ 16384)

abbrev pub LoadsAt : Stage → ℕ → Type 0
LoadsAt stage.Version loads = Unit {0}
LoadsAt stage.Nodes loads = Unit {0}
LoadsAt stage.Loads loads = Unit {0}
LoadsAt _ loads = (1 ≤ loads) × (loads ≤ 1024)

-- the rounds of a script
pub record AreRounds (counts : Counts) (rounds : List (List (List Event))) : Type 0 where
  pub few : length rounds ≤ 64
  pub each : All (IsRound counts) rounds

abbrev pub ShapeAt : Stage → DraftData → Type 0
ShapeAt stage.Images known = (known.script.rounds ≡ []) × (known.threads ≡ []) × (known.events ≡ []) × (known.script.fixed ≡ []) × (known.script.snapshots ≡ [])
ShapeAt stage.Fixed known = (known.script.rounds ≡ []) × (known.threads ≡ []) × (known.script.snapshots ≡ []) × (known.events ≡ [])
ShapeAt stage.Snapshots known = (known.script.rounds ≡ []) × (known.threads ≡ []) × (length known.script.snapshots < 4096) × IsSnapshot known.snapshot × (known.events ≡ [])
ShapeAt stage.Round known = length known.script.rounds < 64
ShapeAt stage.Thread known = (length known.script.rounds < 64) × (length known.threads < 16)
ShapeAt stage.Ended known = length known.script.rounds ≤ 64
ShapeAt _ known = (known.script.images ≡ []) × (known.script.rounds ≡ []) × (known.threads ≡ []) × (known.events ≡ []) × (known.script.fixed ≡ []) × (known.script.snapshots ≡ [])

pub record Sound (known : DraftData) : Type 0 where
  pub each : length known.script.sections ≡ length known.script.images
  pub sections : All IsSectionOf known.script.sections
  pub version : VersionAt known.stage known.script.version
  pub nodes : NodesAt known.stage known.script.nodes
  pub loads : LoadsAt known.stage known.script.loads
  pub count : length known.script.images ≤ 4096
  pub spans : All IsSpan known.script.images
  pub fixed : AreFixed known.script.images known.script.fixed
  pub snapshots : (length known.script.snapshots ≤ 4096) × All IsSnapshot known.script.snapshots
  pub rounds : All (IsRound (counts_of known.script)) known.script.rounds
  pub threads : IsRound (counts_of known.script) known.threads
  pub events : IsThread (counts_of known.script) known.events
  pub totals : Totalled known.totals (rounds_so_far known)
  pub shape : ShapeAt known.stage known

-- after one more line, which says this
pub record Step (known next : DraftData) (s : Statement) : Type 0 where
  pub sound : Sound next
  pub statements : statements_so_far next ≡ statements_so_far known ++ s ∷ []

pub same_step : (known made next : DraftData) (s : Statement) → made ≡ next → Step known made s → Step known next s
same_step known made next s e step = subst (λ (n : DraftData). Step known n s) e step

pub no_events : (counts : Counts) → IsThread counts []
no_events counts = (omega arith, All-from_recursion (IsEvent counts) [] tt)

pub no_threads : (counts : Counts) → IsRound counts []
no_threads counts = (omega arith, All-from_recursion (IsThread counts) [] tt)

pub no_rounds : (counts : Counts) → All (IsRound counts) []
no_rounds counts = All-from_recursion (IsRound counts) [] tt

pub no_snapshots : (0 ≤ 4096) × All IsSnapshot []
no_snapshots = (omega arith, All-from_recursion IsSnapshot [] tt)

pub no_fixed : (images : List SpanData) → AreFixed images []
no_fixed images = record { named = All-from_recursion (λ image. image < length images) [] tt; rising = tt }

pub early_rounds : (counts : Counts) (rounds : List (List (List Event))) → rounds ≡ [] → AreRounds counts rounds
early_rounds counts rounds none = subst (AreRounds counts) (sym none) (record { few = omega arith; each = no_rounds counts })
