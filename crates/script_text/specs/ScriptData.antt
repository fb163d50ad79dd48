-- Scripts as plain data, and their limits.
use Rattle.std.specs.Prelude.{◌≡◌, ℕ, ◌+◌, ◌^◌, ◌<◌, ◌≤◌, List, [], ◌∷◌, length, map, All}
use Rattle.std.specs.Prelude.{Bool, true, false, unwrap_or, slice_get, count_by}
use Rattle.std.specs.List.{sum_by}
use Rattle.reg_model.specs.SpanData.{SpanData, IsSpan}
use Rattle.hex.specs.Hex.{IsBytes}
use Rattle.frame_expr.specs.Regions.{RegionData, AreRegions}
use Rattle.frame_expr.specs.declared.regs.Regs.{Regs}
use Rattle.frame_parse.specs.Sections.{SectionData, HasFdes}
use Rattle.script_text.specs.declared.limits.TheConstants.{FIRST_VERSION, LAST_VERSION}
use Rattle.script_text.specs.declared.limits.TheConstants.{REPLACE_VERSION}
use Rattle.script_text.specs.declared.limits.TheConstants.{LEAST_NODES, MOST_NODES, LEAST_LOADS}
use Rattle.script_text.specs.declared.limits.TheConstants.{MOST_LOADS, MOST_IMAGES}
use Rattle.script_text.specs.declared.limits.TheConstants.{MOST_SECTION_BYTES, MOST_SNAPSHOTS}
use Rattle.script_text.specs.declared.limits.TheConstants.{MOST_MEMORY_BYTES, MOST_ROUNDS}
use Rattle.script_text.specs.declared.limits.TheConstants.{MOST_THREADS, MOST_EVENTS}
use Rattle.script_text.specs.declared.limits.TheConstants.{MOST_UNWINDS}
use Rattle.script_text.specs.declared.script.Event.{Event}
use Rattle.script_text.specs.declared.script.Event.TheVariants.{Register, Deregister, Replace}
use Rattle.script_text.specs.declared.script.Event.TheVariants.{Load, Unload, Find, Unwind}

-- what a contract sees of a recorded stack: the registers of its innermost frame, and memory
pub record SnapshotData : Type 0 where
  pub regs : Regs
  pub memory : List RegionData

-- what a contract sees of a script: by round and thread, the events
pub record ScriptData : Type 0 where
  pub version : ℕ
  pub nodes : ℕ
  pub loads : ℕ
  pub images : List SpanData
  pub sections : List SectionData
  pub fixed : List ℕ
  pub snapshots : List SnapshotData
  pub rounds : List (List (List Event))

-- the version, which says what events there are, and how many images and how many snapshots
pub record Counts : Type 0 where
  pub version : ℕ
  pub images : ℕ
  pub snapshots : ℕ

-- The event names an image or a snapshot that there is; addresses have 64 bits. The first version
-- has no replacements.
abbrev pub IsEvent : Counts → Event → Type 0
IsEvent counts (Register image) = image < counts.images
IsEvent counts (Deregister base) = base < 2 ^ 64
IsEvent counts (Replace image) = (image < counts.images) × (REPLACE_VERSION ≤ counts.version)
IsEvent counts (Load image) = image < counts.images
IsEvent counts (Unload base) = base < 2 ^ 64
IsEvent counts (Find pc) = pc < 2 ^ 64
IsEvent counts (Unwind snapshot) = snapshot < counts.snapshots

abbrev pub IsThread : Counts → List Event → Type 0
IsThread counts events = (length events ≤ MOST_EVENTS) × All (IsEvent counts) events

abbrev pub IsRound : Counts → List (List Event) → Type 0
IsRound counts threads = (length threads ≤ MOST_THREADS) × All (IsThread counts) threads

abbrev pub is_unwind : Event → Bool
is_unwind (Unwind snapshot) = true
is_unwind _ = false

-- how many events of all threads of all rounds unwind
abbrev pub count_unwinds : List (List (List Event)) → ℕ
count_unwinds rounds = sum_by (sum_by (count_by is_unwind)) rounds

abbrev pub counts_of : ScriptData → Counts
counts_of s = record {
  version = s.version;
  images = length s.images;
  snapshots = length s.snapshots;
}

-- the section of an image, whose bytes are records of `.eh_frame`
pub record IsSectionOf (section : SectionData) : Type 0 where
  pub address : section.address < 2 ^ 64
  pub size : length section.bytes ≤ MOST_SECTION_BYTES
  pub bytes : IsBytes section.bytes
  pub records : HasFdes section.address section.bytes section.fdes

-- the span of an image, by its number
abbrev pub span_of : List SpanData → ℕ → SpanData
span_of images image = unwrap_or (slice_get images image) (record { first = 0; last = 0 })

-- each span is wholly above the one before
abbrev pub Rise : List SpanData → Type 0
Rise [] = Unit {0}
Rise (span ∷ []) = Unit {0}
Rise (span ∷ next ∷ spans) = (span.last < next.first) × Rise (next ∷ spans)

-- the fixed images: each is there, and its span is wholly above that of the one before
pub record AreFixed (images : List SpanData) (fixed : List ℕ) : Type 0 where
  pub named : All (λ image. image < length images) fixed
  pub rising : Rise (map (span_of images) fixed)

-- how many bytes were recorded
abbrev pub recorded_bytes : List RegionData → ℕ
recorded_bytes [] = 0
recorded_bytes (region ∷ regions) = length region.bytes + recorded_bytes regions

-- the numbers of 17 columns, and regions that ascend, of few bytes altogether
pub record IsSnapshot (snapshot : SnapshotData) : Type 0 where
  pub count : length snapshot.regs.columns ≡ 17
  pub columns : All (λ n. n < 2 ^ 64) snapshot.regs.columns
  pub regions : AreRegions snapshot.memory
  pub bytes : All (λ region. IsBytes region.bytes) snapshot.memory
  pub size : recorded_bytes snapshot.memory ≤ MOST_MEMORY_BYTES

-- each number and each count is within its limit, each image is a span and has a section, each
-- snapshot is one, and each event names one of these
pub record IsRunnable (s : ScriptData) : Type 0 where
  pub version : (FIRST_VERSION ≤ s.version) × (s.version ≤ LAST_VERSION)
  pub nodes : (LEAST_NODES ≤ s.nodes) × (s.nodes ≤ MOST_NODES)
  pub loads : (LEAST_LOADS ≤ s.loads) × (s.loads ≤ MOST_LOADS)
  pub images : (length s.images ≤ MOST_IMAGES) × All IsSpan s.images
  pub sections : (length s.sections ≡ length s.images) × All IsSectionOf s.sections
  pub fixed : AreFixed s.images s.fixed
  pub snapshots : (length s.snapshots ≤ MOST_SNAPSHOTS) × All IsSnapshot s.snapshots
  pub rounds : (length s.rounds ≤ MOST_ROUNDS) × All (IsRound (counts_of s)) s.rounds
  pub unwinds : count_unwinds s.rounds ≤ MOST_UNWINDS

-- what the line of an image says: its number, its span by base and size, and its section by address
-- and bytes
pub record ImageData : Type 0 where
  pub number : ℕ
  pub base : ℕ
  pub size : ℕ
  pub section : ℕ
  pub bytes : List ℕ
