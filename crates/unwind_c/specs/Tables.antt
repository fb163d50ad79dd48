-- The sorted table of a loaded object: where code begins, and where its FDE stands.
use Rattle.std.specs.Prelude.{◌≡◌, ℕ, suc, ◌<◌, ◌⊎◌, ℤ, ◌≤ℤ◌, ◌<ℤ◌, List, length, IfSome, slice_get}
use Rattle.unwind_c.specs.declared.tables.UnwindEntry.{UnwindEntry}

-- code begins up to a number, or after it
abbrev pub BeginsUpTo : ℤ → UnwindEntry → Type 0
BeginsUpTo wanted e = e.first ≤ℤ wanted

abbrev pub BeginsAfter : ℤ → UnwindEntry → Type 0
BeginsAfter wanted e = wanted <ℤ e.first

-- the entry at a place begins up to a number, unless it is the first
abbrev pub IsBegun : List UnwindEntry → ℤ → ℕ → Type 0
IsBegun entries wanted place = (place ≡ 0) ⊎ IfSome (slice_get entries place) (BeginsUpTo wanted)

-- what stands at a place, if anything does, begins after a number
abbrev pub IsAfter : List UnwindEntry → ℤ → ℕ → Type 0
IsAfter entries wanted place = IfSome (slice_get entries place) (BeginsAfter wanted)

-- The entry at a place begins up to a number, or is the first; and the next begins after it.
pub record IsEntryUpTo (entries : List UnwindEntry) (wanted : ℤ) (place : ℕ) : Type 0 where
  pub within : place < length entries
  pub begun : IsBegun entries wanted place
  pub next : IsAfter entries wanted (suc place)
