-- The bytes of `.eh_frame_hdr`, after the LSB: a version, three encodings, a pointer to the
-- section, and the sorted table, where there is one. An address is a signed number of four bytes to
-- which another one is added: the pointer's own, or that of the header in the table.
use Rattle.std.specs.Prelude.{◌≡◌, ℕ, zero, suc, ◌+◌, ◌%◌, ◌^◌, ◌⊎◌, List, [], ◌∷◌, ◌++◌, length}
use Rattle.std.specs.Prelude.{Option, Some, None, Result, Ok, Err, slice_get, ◌==◌, if◌then◌else◌}
use Rattle.std.specs.Int.{w32, w64, cast_unsigned}
use Rattle.eh_bytes.specs.PointerEncodings.{DW_EH_PE_udata4, DW_EH_PE_sdata4, DW_EH_PE_pcrel}
use Rattle.eh_bytes.specs.PointerEncodings.{DW_EH_PE_datarel, DW_EH_PE_omit}
use Rattle.eh_bytes.specs.CursorData.{CursorData}
use Rattle.eh_bytes.specs.Fields.{fixed, signed_fixed}
use Rattle.eh_bytes.specs.Grammar.{Part, ◌>>=◌, give, here, check, found, given, lift}
use Rattle.frame_parse.specs.Entries.{FdeRecord}
use Rattle.frame_parse.specs.Sections.{SectionData}
use Rattle.eh_hdr.specs.declared.fault.HeaderFault.{HeaderFault}
use Rattle.eh_hdr.specs.declared.fault.HeaderFault.TheVariants.{Short, Version, Encoding, Section}
use Rattle.eh_hdr.specs.declared.fault.HeaderFault.TheVariants.{Count, Fde, NoMemory}
use Rattle.eh_hdr.specs.declared.fields.TableKind.{TableKind}
use Rattle.eh_hdr.specs.declared.fields.TableKind.TheVariants.{Sorted, Absent}
use Rattle.eh_hdr.specs.declared.table.TableEntry.{TableEntry}
use Rattle.eh_hdr.specs.Places.{named_fde, follows}

-- ---- fields

-- a byte
unfoldable pub octet : Part HeaderFault ℕ
octet = do
  at ← here
  lift (λ f. Short at) (fixed 1)

-- a number of four bytes that isn't whole: what was wrong before it counts first
abbrev pub cut_after : Result (Unit {0}) HeaderFault → ℕ → HeaderFault
cut_after (Ok u) at = Short at
cut_after (Err f) at = f

-- an address: a signed number of four bytes, and another address, modulo 2 ^ 64
unfoldable pub relative : ℕ → Result (Unit {0}) HeaderFault → Part HeaderFault ℕ
relative base before = do
  at ← here
  x ← lift (λ f. cut_after before at) (signed_fixed w32)
  give ((cast_unsigned w64 x + base) % 2 ^ 64)

-- the version of a header
abbrev pub version_of_headers : ℕ
version_of_headers = 1

unfoldable pub header_version : Part HeaderFault (Unit {0})
header_version = do
  at ← here
  v ← octet
  check (v == version_of_headers) (Version at)

-- ---- encodings

-- of the pointer to the section, whose own address is added
abbrev pub section_pointer_encoding : ℕ
section_pointer_encoding = DW_EH_PE_pcrel + DW_EH_PE_sdata4

-- of the table's entries, to which the header's address is added
abbrev pub sorted_table_encoding : ℕ
sorted_table_encoding = DW_EH_PE_datarel + DW_EH_PE_sdata4

-- the encoding of the count tells whether there is a table
abbrev pub kind_by_count : ℕ → Option TableKind
kind_by_count e = if e == DW_EH_PE_udata4 then Some Sorted
    else (if e == DW_EH_PE_omit then Some Absent else None)

-- the encoding of the table that goes with it
abbrev pub table_encoding : TableKind → ℕ
table_encoding Sorted = sorted_table_encoding
table_encoding Absent = DW_EH_PE_omit

unfoldable pub pointer_encoding : Part HeaderFault (Unit {0})
pointer_encoding = do
  at ← here
  e ← octet
  check (e == section_pointer_encoding) (Encoding at)

unfoldable pub count_encoding : Part HeaderFault TableKind
count_encoding = do
  at ← here
  e ← octet
  found (kind_by_count e) (Encoding at)

unfoldable pub entry_encoding : TableKind → Part HeaderFault (Unit {0})
entry_encoding kind = do
  at ← here
  e ← octet
  check (e == table_encoding kind) (Encoding at)

-- ---- the pointer and the table

-- the pointer in a header at an address leads to the section
unfoldable pub section_pointer : ℕ → SectionData → Part HeaderFault (Unit {0})
section_pointer address section = do
  at ← here
  p ← relative ((address + at) % 2 ^ 64) (Ok tt)
  check (p == section.address) (Section at)

-- an entry, after that of this FDE
unfoldable pub table_entry : ℕ → SectionData → Option FdeRecord → Part HeaderFault TableEntry
table_entry address section before = do
  at ← here
  location ← relative address (Ok tt)
  a ← relative address (follows before at location)
  i ← found (named_fde section a location) (Fde at)
  _ ← given (follows before at location)
  give (record { location = location; address = a; fde = i })

-- so many entries
unfoldable pub table_entries : ℕ → SectionData → ℕ → Option FdeRecord
    → Part HeaderFault (List TableEntry)
table_entries address section zero before = give []
table_entries address section (suc n) before =
    table_entry address section before >>=
    λ e. table_entries address section n (slice_get section.fdes e.fde) >>=
    λ es. give (e ∷ es)

-- the count is the number of the section's FDEs
unfoldable pub entry_count : SectionData → Part HeaderFault ℕ
entry_count section = do
  at ← here
  n ← lift (λ f. Short at) (fixed 4)
  _ ← check (n == length section.fdes) (Count at)
  give n

unfoldable pub sorted_table : ℕ → SectionData → TableKind
    → Part HeaderFault (Option (List TableEntry))
sorted_table address section Absent = give None
sorted_table address section Sorted =
    entry_count section >>=
    λ n. table_entries address section n None >>=
    λ es. give (Some es)

-- what stands before the table of a header at an address, of this section
unfoldable pub header_head : ℕ → SectionData → Part HeaderFault TableKind
header_head address section = do
  _ ← header_version
  _ ← pointer_encoding
  kind ← count_encoding
  _ ← entry_encoding kind
  _ ← section_pointer address section
  give kind

unfoldable pub header : ℕ → SectionData → Part HeaderFault (Option (List TableEntry))
header address section =
    header_head address section >>= λ kind. sorted_table address section kind

-- ---- whole headers

-- the call gave what reading gives, or memory ran out
abbrev pub GivesOrLacks : {X Y : Type 0} → (X → Y)
    → (CursorData → Result (Y × CursorData) HeaderFault)
    → CursorData → Result X HeaderFault → CursorData → Type 0
GivesOrLacks view read old (Ok x) new = read old ≡ Ok (view x, new)
GivesOrLacks view read old (Err e) new = (e ≡ NoMemory) ⊎ (read old ≡ Err e)

-- the bytes begin with a header that has this table
unfoldable pub IsHeader : ℕ → SectionData → List ℕ → Option (List TableEntry) → Type 0
IsHeader address section bytes table =
    (front : List ℕ) × (back : List ℕ) × (bytes ≡ front ++ back)
    × (header address section).Spells 0 front table

-- the first refusal
abbrev pub IsRefusedHeader : ℕ → SectionData → List ℕ → HeaderFault → Type 0
IsRefusedHeader address section bytes f = (header address section).Refuses 0 bytes f

-- every list of bytes has one table or one first refusal, never both
pub record HasOneTable (address : ℕ) (section : SectionData) (bytes : List ℕ) : Type 0 where
  pub some : ((t : Option (List TableEntry)) × IsHeader address section bytes t)
      ⊎ ((f : HeaderFault) × IsRefusedHeader address section bytes f)
  pub one_table : (t other : Option (List TableEntry)) → IsHeader address section bytes t
      → IsHeader address section bytes other → t ≡ other
  pub one_fault : (f other : HeaderFault) → IsRefusedHeader address section bytes f
      → IsRefusedHeader address section bytes other → f ≡ other
  pub not_both : (t : Option (List TableEntry)) (f : HeaderFault)
      → IsHeader address section bytes t → IsRefusedHeader address section bytes f → ⊥
