-- How the first FDE that covers an address is found. Where no address is covered twice it is the
-- only one, and the FDEs stand in order of addresses; else the addresses stand in pieces.
use Rattle.std.specs.Prelude.{◌≡◌, ℕ, ◌+◌, ◌<◌, ◌≤◌, ◌^◌, List, [], ◌∷◌, length, get_or, Bool, true}
use Rattle.std.specs.Prelude.{nat_le, nat_lt, ◌&&◌, Option, Some, None, if◌then◌else◌}
use Rattle.std.specs.List.{All, Contains}
use Rattle.frame_parse.specs.declared.records.FdeEntry.{FdeEntry}
use Rattle.frame_parse.specs.declared.fde_lookup.CoveredRange.{CoveredRange}
use Rattle.frame_parse.specs.declared.fde_lookup.Lookup.{Lookup}
use Rattle.frame_parse.specs.declared.fde_lookup.Lookup.TheVariants.{Ordered, Pieces}
use Rattle.frame_parse.specs.declared.cover_pieces.CoverPiece.{CoverPiece}

-- the range of an FDE, with the FDE's number
abbrev pub range_of : ℕ → FdeEntry → CoveredRange
range_of i f = record { first = f.first; range = f.range; fde = i }

-- the range is the one of the FDE with its number
abbrev pub IsRangeOf : List FdeEntry → CoveredRange → Type 0
IsRangeOf fdes r = (r.fde < length fdes)
    × ((d : FdeEntry) → r ≡ range_of r.fde (get_or fdes r.fde d))

-- these are ranges of FDEs, and those of the first n that aren't empty are among them
pub record HasRanges (fdes : List FdeEntry) (n : ℕ) (ranges : List CoveredRange) : Type 0 where
  pub sound : All (IsRangeOf fdes) ranges
  pub whole : (i : ℕ) (d : FdeEntry) → i < n → i < length fdes → 0 < (get_or fdes i d).range
      → Contains ranges (range_of i (get_or fdes i d))

-- each range ends before the next begins
abbrev pub are_apart : List CoveredRange → Bool
are_apart [] = true
are_apart (a ∷ []) = true
are_apart (a ∷ b ∷ rs) = nat_le (a.first + a.range) b.first && are_apart (b ∷ rs)

-- an address is in a range
abbrev pub holds : ℕ → CoveredRange → Bool
holds pc r = nat_le r.first pc && nat_lt pc (r.first + r.range)

-- an address is in the range of an FDE
abbrev pub entry_covers : ℕ → FdeEntry → Bool
entry_covers pc f = nat_le f.first pc && nat_lt pc (f.first + f.range)

-- ---- pieces, from the highest addresses down

-- the number of the first of these FDEs that covers an address, where theirs begin at n
abbrev pub cover_number : ℕ → ℕ → List FdeEntry → Option ℕ
cover_number pc n [] = None
cover_number pc n (f ∷ fs) = if entry_covers pc f then Some n else cover_number pc (n + 1) fs

-- the number in the first piece that begins up to an address; below them all another
abbrev pub piece_number : ℕ → List CoverPiece → Option ℕ → Option ℕ
piece_number pc [] below = below
piece_number pc (x ∷ xs) below = if nat_le x.first pc then x.fde else piece_number pc xs below

-- the number of an earlier FDE, else that of a later one
abbrev pub number_or : Option ℕ → Option ℕ → Option ℕ
number_or (Some n) later = Some n
number_or None later = later

-- none of these pieces begins above an address
abbrev pub IsUpTo : ℕ → List CoverPiece → Type 0
IsUpTo address [] = Unit {0}
IsUpTo address (x ∷ xs) = (x.first ≤ address) × IsUpTo address xs

-- none begins above one before it
abbrev pub Falls : List CoverPiece → Type 0
Falls [] = Unit {0}
Falls (x ∷ xs) = IsUpTo x.first xs × Falls xs

-- these pieces tell of each address which of these FDEs covers it first
pub record TellsCovers (n : ℕ) (fdes : List FdeEntry) (pieces : List CoverPiece) : Type 0 where
  pub falls : Falls pieces
  pub tells : (pc : ℕ) → pc < 2 ^ 64 → piece_number pc pieces None ≡ cover_number pc n fdes

-- these pieces tell what earlier ones do, and else what later ones do
pub record IsOverlay (earlier later pieces : List CoverPiece) : Type 0 where
  pub falls : Falls pieces
  pub tells : (pc : ℕ)
      → piece_number pc pieces None
      ≡ number_or (piece_number pc earlier None) (piece_number pc later None)

-- ---- the way of finding finds among these FDEs

abbrev pub Finds : List FdeEntry → Lookup → Type 0
Finds fdes (Ordered ranges) =
    HasRanges fdes (length fdes) ranges.items × (are_apart ranges.items ≡ true)
Finds fdes (Pieces pieces) = TellsCovers 0 fdes pieces.items
