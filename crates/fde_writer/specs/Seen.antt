-- Sections as clauses see them.
use Rattle.std.specs.Prelude.{ℕ, []}
use Rattle.frame_parse.specs.Sections.{SectionData}

-- a section, and how often it was copied
pub record SeenData : Type 0 where
  pub section : SectionData
  pub copies : ℕ

-- none was seen
abbrev pub nothing_seen : SeenData
nothing_seen = record { section = record { address = 0; bytes = []; fdes = [] }; copies = 0 }
