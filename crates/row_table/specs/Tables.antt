-- The rows of a section in a table: each with the address from which on it holds.
use Rattle.std.specs.Prelude.{◌≡◌, ℕ, ◌+◌, ◌<◌, ◌≤◌, List, [], ◌∷◌, ◌++◌, length, get_or}
use Rattle.std.specs.Prelude.{◌≢◌, All, Some, slice_get}
use Rattle.frame_parse.specs.Sections.{FdeData, SectionData}
use Rattle.frame_rows.specs.declared.placed_row.PlacedRow.{PlacedRow}
use Rattle.frame_rows.specs.Expressions.{HasExpressions}
use Rattle.frame_rows.specs.RowAt.{IsRowAt, IsPlacedRowAt}
use Rattle.frame_rows.specs.Rows.{unset}
use Rattle.frame_rows.specs.Rules.{lent_row}
use Rattle.unwind_step.specs.Backtrace.{fde_in}

-- ---- what is kept

-- The rows one after another: where each begins, and its number among those that differ.
pub record RowsData : Type 0 where
  pub starts : List ℕ
  pub numbers : List ℕ
  pub distinct : List PlacedRow

-- Where the rows of each FDE begin, and where those of the last one end.
pub record TableData : Type 0 where
  pub begins : List ℕ
  pub rows : RowsData

-- the row at a place
abbrev pub row_in : RowsData → ℕ → PlacedRow
row_in r k = get_or r.distinct (get_or r.numbers k 0) unset

-- From one place up to another stand the rows of an FDE: the first begins where the FDE does, and
-- each holds up to where the next one begins.
pub record AreRowsOf (f : FdeData) (r : RowsData) (from end : ℕ) : Type 0 where
  pub some : from < end
  pub within : end ≤ length r.starts
  pub first : get_or r.starts from 0 ≡ f.entry.first
  pub ascending : (j k : ℕ) → from ≤ j → j < k → k < end
      → get_or r.starts j 0 < get_or r.starts k 0
  pub known : (k : ℕ) → from ≤ k → k < end → get_or r.numbers k 0 < length r.distinct
  pub rows : (k pc : ℕ) → from ≤ k → k < end → get_or r.starts k 0 ≤ pc
      → (k + 1 < end → pc < get_or r.starts (k + 1) 0) → IsPlacedRowAt f pc (row_in r k)

-- the FDE of a number in a section
pub record IsFdeOf (s : SectionData) (i : ℕ) (f : FdeData) : Type 0 where
  pub entry : slice_get s.fdes i ≡ Some f.entry
  pub section : f.section ≡ s.address
  pub bytes : f.bytes ≡ s.bytes

-- the table has the rows of the first n FDEs of a section
pub record HasRowsOf (s : SectionData) (n : ℕ) (t : TableData) : Type 0 where
  pub begins : length t.begins ≡ n + 1
  pub end : get_or t.begins n 0 ≡ length t.rows.starts
  pub numbers : length t.rows.numbers ≡ length t.rows.starts
  pub rows : (i : ℕ) (f : FdeData) → i < n → IsFdeOf s i f
      → AreRowsOf f t.rows (get_or t.begins i 0) (get_or t.begins (i + 1) 0)

-- it has the rows of all
abbrev pub IsRowTableOf : SectionData → TableData → Type 0
IsRowTableOf s t = HasRowsOf s (length s.fdes) t

-- ---- too many rows

-- each of them differs from all others
abbrev pub AreDifferent : List PlacedRow → Type 0
AreDifferent rows = (j k : ℕ) → j < k → k < length rows
    → get_or rows j unset ≢ get_or rows k unset

-- an FDE has the row at some address
abbrev pub HasRow : FdeData → PlacedRow → Type 0
HasRow f row = (pc : ℕ) × IsPlacedRowAt f pc row

-- so has an FDE of a section
pub record HasFdeWithRow (s : SectionData) (row : PlacedRow) : Type 0 where
  pub number : ℕ
  pub fde : FdeData
  pub is : IsFdeOf s number fde
  pub has : HasRow fde row

-- More than 65,536 rows of a section differ: so many and one are told.
pub record HasTooManyRows (s : SectionData) : Type 0 where
  pub rows : List PlacedRow
  pub count : length rows ≡ 65537
  pub different : AreDifferent rows
  pub come : All (HasFdeWithRow s) rows

-- ---- one row more, and the rows of one FDE more

-- the same rows, and maybe more after them
pub record IsExtended (old new : RowsData) : Type 0 where
  pub more_starts : List ℕ
  pub starts : new.starts ≡ old.starts ++ more_starts
  pub more_numbers : List ℕ
  pub numbers : new.numbers ≡ old.numbers ++ more_numbers
  pub more_distinct : List PlacedRow
  pub distinct : new.distinct ≡ old.distinct ++ more_distinct

-- A row has this number among those that differ; those before it have theirs as before, and nothing
-- but the row was added.
pub record IsNumbered (old : List PlacedRow) (row : PlacedRow) (number : ℕ) (new : List PlacedRow)
    : Type 0 where
  pub more : List PlacedRow
  pub are : new ≡ old ++ more
  pub alone : All (λ other. other ≡ row) more
  pub within : number < length new
  pub is : get_or new number unset ≡ row

-- 65,536 rows have their numbers, and this one isn't among them
pub record IsOneTooMany (old : List PlacedRow) (row : PlacedRow) : Type 0 where
  pub count : length old ≡ 65536
  pub different : AreDifferent (old ++ row ∷ [])

-- one row more, from an address on
pub record IsPushed (old : RowsData) (start : ℕ) (row : PlacedRow) (new : RowsData) : Type 0 where
  pub starts : new.starts ≡ old.starts ++ start ∷ []
  pub number : ℕ
  pub numbers : new.numbers ≡ old.numbers ++ number ∷ []
  pub numbered : IsNumbered old.distinct row number new.distinct

-- the rows of one FDE more
pub record IsAdded (old : RowsData) (f : FdeData) (new : RowsData) : Type 0 where
  pub extended : IsExtended old new
  pub even : length new.numbers ≡ length new.starts
  pub rows : AreRowsOf f new (length old.starts) (length new.starts)
  pub come : All (HasRow f) extended.more_distinct

-- with rows of an FDE there are more than 65,536 that differ
pub record HasRowsTooMany (old : List PlacedRow) (f : FdeData) : Type 0 where
  pub more : List PlacedRow
  pub count : length (old ++ more) ≡ 65537
  pub different : AreDifferent (old ++ more)
  pub come : All (HasRow f) more

-- ---- the number of a row

-- the table has the rows of an FDE that begins up to an address, by the FDE's number
pub record HasRowsFrom (t : TableData) (i : ℕ) (f : FdeData) (pc : ℕ) : Type 0 where
  pub begins : i + 1 < length t.begins
  pub even : length t.rows.numbers ≡ length t.rows.starts
  pub are : AreRowsOf f t.rows (get_or t.begins i 0) (get_or t.begins (i + 1) 0)
  pub reached : f.entry.first ≤ pc

-- This is the number of an FDE's row at an address: the row of this number has the rules that hold
-- there, and its expressions stand in the section's bytes.
pub record HasNumber (f : FdeData) (pc : ℕ) (rows : List PlacedRow) (number : ℕ) : Type 0 where
  pub within : number < length rows
  pub expressions : HasExpressions f.bytes (get_or rows number unset)
  pub row : IsRowAt f pc (lent_row f.bytes (get_or rows number unset))

-- the same of the FDE that covers the address first
pub record IsNumberAt (s : SectionData) (pc : ℕ) (rows : List PlacedRow) (number : ℕ) : Type 0 where
  pub fde : FdeData
  pub covers : fde_in pc s ≡ Some fde
  pub has : HasNumber fde pc rows number
