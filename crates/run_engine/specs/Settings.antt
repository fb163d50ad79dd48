-- What the events of a script are about.
use Rattle.std.specs.Prelude.{◌≡◌, ℕ, ◌≤◌, List, length}
use Rattle.reg_model.specs.SpanData.{SpanData}
use Rattle.frame_parse.specs.Sections.{SectionData}
use Rattle.script_text.specs.ScriptData.{Counts, SnapshotData}
use Rattle.script_text.specs.declared.limits.TheConstants.{MOST_IMAGES}

-- few images, each with a section
abbrev pub AreImages : List SpanData → List SectionData → Type 0
AreImages images sections = (length images ≤ MOST_IMAGES) × (length sections ≡ length images)

-- what events of a setting may name
abbrev pub setting_counts : ℕ → List SpanData → List SnapshotData → Counts
setting_counts version images snapshots = record {
  version = version;
  images = length images;
  snapshots = length snapshots;
}
