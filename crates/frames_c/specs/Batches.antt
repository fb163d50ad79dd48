-- The rows of many addresses.
use Rattle.std.specs.Prelude.{◌≡◌, ◌≢◌, ℕ, ◌<◌, List, length, Bool, true, false, Option, Some, None}
use Rattle.std.specs.Prelude.{replicate, slice_index, slice_index_or}
use Rattle.frame_expr.specs.Registers.{column_count}
use Rattle.frame_parse.specs.Sections.{FdeData}
use Rattle.sound_records.specs.declared.refused.RefusedRecord.{RefusedRecord}
use Rattle.unwind_step.specs.Backtrace.{fde_in}
use Rattle.frames_c.specs.declared.row.FramesRow.{FramesRow}
use Rattle.frames_c.specs.Held.{LoadedData, claim_in}
use Rattle.frames_c.specs.Rows.{IsRowOf}

-- the row of an address that no FDE covers
abbrev pub no_row : FramesRow
no_row = record {
  cfa = 3;
  cfa_column = 0;
  cfa_offset = 0;
  rules = replicate column_count 0;
  numbers = replicate column_count 0;
}

-- the row of an address at which a refused record answers
abbrev pub refused_row : FramesRow
refused_row = record no_row { cfa = 4 }

-- the row of an address, where an FDE may cover it
abbrev pub IsRowWhere : Option FdeData → ℕ → FramesRow → Type 0
IsRowWhere (Some f) pc row = IsRowOf f pc row
IsRowWhere None pc row = row ≡ no_row

-- the same, unless a refused record answers
abbrev pub IsRowUnless : Option RefusedRecord → Option FdeData → ℕ → FramesRow → Type 0
IsRowUnless (Some x) f pc row = row ≡ refused_row
IsRowUnless None f pc row = IsRowWhere f pc row

abbrev pub IsBatchRow : LoadedData → ℕ → FramesRow → Type 0
IsBatchRow l pc row = IsRowUnless (claim_in pc l) (fde_in pc l.section) pc row

-- the first rows are those of the first addresses
abbrev pub AreRowsBelow : ℕ → LoadedData → List ℕ → List FramesRow → Type 0
AreRowsBelow count l pcs rows =
    (i : ℕ) → i < count → IsBatchRow l (slice_index pcs i) (slice_index_or rows i no_row)

-- the answer to many addresses: a row for each, or nothing where there are more or fewer rows
abbrev pub AnswersRows : LoadedData → List ℕ → List FramesRow → Bool → List FramesRow → Type 0
AnswersRows l pcs old true new =
    (length old ≡ length pcs) × (length new ≡ length pcs)
    × AreRowsBelow (length pcs) l pcs new
AnswersRows l pcs old false new = (length old ≢ length pcs) × (new ≡ old)
