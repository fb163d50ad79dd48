-- The FDEs of a section as a plain table, and what is found in one.
use Rattle.std.specs.Prelude.{◌≡◌, ℕ, zero, suc, ◌+◌, ◌<◌, ◌≤◌, List, [], ◌∷◌, length, map, take}
use Rattle.std.specs.Prelude.{Bool, true, false, Option, Some, nat_le, nat_lt, ◌&&◌}
use Rattle.std.specs.List.{Contains, find, filter}
use Rattle.std.specs.List.Sorted.{IsPermutation, IsNonDecreasingBy}
use Rattle.std.specs.Option.{option_map}
use Rattle.frame_parse.specs.Entries.{FdeRecord}
use Rattle.frame_parse.specs.Sections.{first_cover}
use Rattle.frames_c.specs.declared.table.FramesEntry.{FramesEntry}

-- an FDE's first address, range and place
abbrev pub entry_told : FdeRecord → FramesEntry
entry_told f = record { first = f.first; range = f.range; place = f.start }

-- the FDEs that cover an address at all, in order of bytes
abbrev pub entries_told : List FdeRecord → List FramesEntry
entries_told fdes = map entry_told (filter (λ (f : FdeRecord). nat_lt 0 f.range) fdes)

-- an address is in the range of an entry
abbrev pub entry_has : ℕ → FramesEntry → Bool
entry_has pc e = nat_le e.first pc && nat_lt pc (e.first + e.range)

-- each range ends before the next begins
abbrev pub entries_apart : List FramesEntry → Bool
entries_apart [] = true
entries_apart (a ∷ []) = true
entries_apart (a ∷ b ∷ es) = nat_le (a.first + a.range) b.first && entries_apart (b ∷ es)

-- these are the FDEs in order of first addresses
pub record IsTableOf (fdes : List FdeRecord) (es : List FramesEntry) : Type 0 where
  pub same : IsPermutation (entries_told fdes) es
  pub ordered : IsNonDecreasingBy (λ (e : FramesEntry). e.first) es

-- a table has for each address what the section's own lookup finds
abbrev pub FindsAsSection : List FdeRecord → List FramesEntry → Type 0
FindsAsSection fdes es =
    (pc : ℕ) → find (entry_has pc) es ≡ option_map entry_told (first_cover pc fdes)

-- what comes of a table: 0 it stands in the first entries, 1 there is less room than FDEs, and then
-- nothing is written, 2 two ranges share an address
abbrev pub AnswersTable : List FdeRecord → List FramesEntry → ℕ → ℕ → List FramesEntry → Type 0
AnswersTable fdes old zero count new =
    (length fdes ≤ length old) × IsTableOf fdes (take count new)
    × (entries_apart (take count new) ≡ true) × FindsAsSection fdes (take count new)
AnswersTable fdes old (suc zero) count new =
    (length old < length fdes) × (count ≡ 0) × (new ≡ old)
AnswersTable fdes old (suc (suc n)) count new =
    (n ≡ 0) × (length fdes ≤ length old) × IsTableOf fdes (take count new)
    × (entries_apart (take count new) ≡ false)

-- What a search among entries finds: one that has the address, and the only one where the entries
-- are a table.
pub record IsSearched (es : List FramesEntry) (pc : ℕ) (found : Option FramesEntry) : Type 0 where
  pub has : (e : FramesEntry) → found ≡ Some e → Contains es e × (entry_has pc e ≡ true)
  pub apart : entries_apart es ≡ true → found ≡ find (entry_has pc) es
