-- Sections: records one after another, and their end.
use Rattle.std.specs.Prelude.{◌≡◌, ℕ, ◌+◌, ◌<◌, ◌⊎◌, map, get_or, List, [], ◌∷◌, ◌++◌, length, Bool}
use Rattle.std.specs.Prelude.{true, false, Option, Some, None, nat_lt, nat_le, ◌==◌, ◌||◌, ◌&&◌}
use Rattle.std.specs.Prelude.{if◌then◌else◌}
use Rattle.byteorder.specs.Endian.{little_number}
use Rattle.frame_parse.specs.declared.fault.FrameFault.{FrameFault}
use Rattle.frame_parse.specs.declared.records.CieRecord.{CieRecord}
use Rattle.frame_parse.specs.declared.records.Entry.{Entry}
use Rattle.frame_parse.specs.declared.records.Entry.TheVariants as entries
use Rattle.frame_parse.specs.Entries.{FdeRecord, Record, Cie, Fde}
use Rattle.frame_parse.specs.RecordNumbers.{end_length}
use Rattle.frame_parse.specs.Records.{whole_record}

-- a section ends where its bytes end, or at the length that ends it
abbrev pub is_end : List ℕ → Bool
is_end bytes = length bytes == 0 || (nat_le 4 (length bytes) && little_number 4 bytes == end_length)

-- the CIEs up to and with a record
abbrev pub with_record : List CieRecord → Record → List CieRecord
with_record earlier (Cie c) = earlier ++ c ∷ []
with_record earlier (Fde f) = earlier

-- the text, from place p on, spells these records after the earlier CIEs
abbrev pub AreRecords : ℕ → ℕ → List CieRecord → List ℕ → List Record → Type 0
AreRecords section p earlier text [] = text ≡ []
AreRecords section p earlier text (r ∷ rs) =
    (front : List ℕ) × (back : List ℕ) × (text ≡ front ++ back)
    × (whole_record section earlier).Spells p front r
    × AreRecords section (p + length front) (with_record earlier r) back rs

-- the CIEs and the FDEs among records, in order
abbrev pub cies_of : List Record → List CieRecord
cies_of [] = []
cies_of (Cie c ∷ rs) = c ∷ cies_of rs
cies_of (Fde f ∷ rs) = cies_of rs

abbrev pub fdes_of : List Record → List FdeRecord
fdes_of [] = []
fdes_of (Cie c ∷ rs) = fdes_of rs
fdes_of (Fde f ∷ rs) = f ∷ fdes_of rs

-- the bytes of a section at an address are records, and then its end
unfoldable pub IsSection : ℕ → List ℕ → List Record → Type 0
IsSection section bytes rs =
    (front : List ℕ) × (back : List ℕ) × (bytes ≡ front ++ back) × AreRecords section 0 [] front rs
    × (is_end back ≡ true)

-- the first refusal: what stands before it are whole records, and there the next one is refused
unfoldable pub IsRefused : ℕ → List ℕ → FrameFault → Type 0
IsRefused section bytes f =
    (rs : List Record) × (front : List ℕ) × (back : List ℕ) × (bytes ≡ front ++ back)
    × AreRecords section 0 [] front rs
    × (is_end back ≡ false) × (whole_record section (cies_of rs)).Refuses (length front) back f

-- these are some FDEs' sections
unfoldable pub HasFdes : ℕ → List ℕ → List FdeRecord → Type 0
HasFdes section bytes fdes = (rs : List Record) × IsSection section bytes rs × (fdes_of rs ≡ fdes)

-- every list of bytes has one list of records or one first refusal, never both
pub record HasOneAnswer (section : ℕ) (bytes : List ℕ) : Type 0 where
  pub some : ((rs : List Record) × IsSection section bytes rs)
      ⊎ ((f : FrameFault) × IsRefused section bytes f)
  pub one_list : (rs others : List Record) → IsSection section bytes rs
      → IsSection section bytes others → rs ≡ others
  pub one_fault : (f other : FrameFault) → IsRefused section bytes f → IsRefused section bytes other
      → f ≡ other
  pub not_both : (rs : List Record) (f : FrameFault) → IsSection section bytes rs
      → IsRefused section bytes f → ⊥

-- an FDE covers the addresses from its first on, as many as its range says
abbrev pub covers : ℕ → FdeRecord → Bool
covers pc f = nat_le f.first pc && nat_lt pc (f.first + f.range)

-- the first FDE in order of bytes that covers an address
abbrev pub first_cover : ℕ → List FdeRecord → Option FdeRecord
first_cover pc [] = None
first_cover pc (f ∷ fs) = if covers pc f then Some f else first_cover pc fs

-- where the CIEs begin
abbrev pub starts : List CieRecord → List ℕ
starts cs = map (λ c. c.start) cs

-- where the FDEs begin
abbrev pub fde_starts : List FdeRecord → List ℕ
fde_starts fs = map (λ f. f.start) fs

-- each number is above those before it
abbrev pub IsAscending : List ℕ → Type 0
IsAscending ns = (i j : ℕ) → i < j → j < length ns → get_or ns i 0 < get_or ns j 0

-- a record begins where it was read
abbrev pub BeginsAt : ℕ → Entry → Type 0
BeginsAt place (entries.Cie c) = c.start ≡ place
BeginsAt place (entries.Fde f) = f.start ≡ place

-- what contracts see of a section: its address and bytes, and its FDEs in order of bytes
pub record SectionData : Type 0 where
  pub address : ℕ
  pub bytes : List ℕ
  pub fdes : List FdeRecord

-- what contracts see of an FDE: its section's address and bytes, and its record
pub record FdeData : Type 0 where
  pub section : ℕ
  pub bytes : List ℕ
  pub entry : FdeRecord
