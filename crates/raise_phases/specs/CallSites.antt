-- The table of call sites of a function, its language-specific data area (LSDA), as GCC and LLVM
-- write it for exceptions: a header, and the call sites, each of which says where to go from its
-- addresses.
use Rattle.std.specs.Prelude.{◌≡◌, ℕ, zero, suc, ◌+◌, ◌%◌, ◌<◌, List, [], ◌∷◌, ◌++◌, length, Bool}
use Rattle.std.specs.Prelude.{true, false, Option, Some, None, Result, Ok, nat_le, nat_lt, ◌==◌}
use Rattle.std.specs.Prelude.{◌||◌, ◌&&◌, not, if◌then◌else◌}
use Rattle.eh_bytes.specs.PointerEncodings.{DW_EH_PE_uleb128, DW_EH_PE_udata8, DW_EH_PE_sleb128}
use Rattle.eh_bytes.specs.PointerEncodings.{DW_EH_PE_omit}
use Rattle.eh_bytes.specs.Pointer.{is_pointer, encoded_number, encoded_pointer}
use Rattle.eh_bytes.specs.declared.fault.ByteFault.{ByteFault}
use Rattle.eh_bytes.specs.declared.fault.ByteFault.TheVariants as bytes
use Rattle.eh_bytes.specs.CursorData.{CursorData}
use Rattle.eh_bytes.specs.Results.{◌and_then◌}
use Rattle.eh_bytes.specs.Fields.{fixed, uleb}
use Rattle.eh_bytes.specs.Grammar.{Part, ◌>>=◌, give, here, when, check, lift, filled}
use Rattle.frame_parse.specs.Fields.{is_code_encoding}
use Rattle.raise_phases.specs.declared.fault.LsdaFault.{LsdaFault}
use Rattle.raise_phases.specs.declared.fault.LsdaFault.TheVariants.{Short, TooWide, Encoding}
use Rattle.raise_phases.specs.declared.call_sites.CallSite.{CallSite}
use Rattle.raise_phases.specs.declared.call_sites.Encoded.{Encoded}
use Rattle.raise_phases.specs.declared.call_sites.Encoded.TheVariants as encoded
use Rattle.raise_phases.specs.declared.call_sites.TableHeader.{TableHeader}
use Rattle.raise_phases.specs.declared.call_sites.TypeTable.{TypeTable}

-- a field's fault as the table's
abbrev pub lsda_fault : ByteFault → LsdaFault
lsda_fault (bytes.Short at) = Short at
lsda_fault (bytes.TooWide at) = TooWide at
lsda_fault (bytes.Encoding at byte) = Encoding at byte

-- a field of the table
abbrev pub lsda_field : {A : Type 0} → Part ByteFault A → Part LsdaFault A
lsda_field g = lift lsda_fault g

-- ---- encodings

-- Of where pads count from: those of code, or none. Of types: a number of fixed width, with nothing
-- or the field's address added, also of a pointer's address; or none. Of the numbers of call sites:
-- they have no sign, and nothing is added.
abbrev pub is_encoding_of : Encoded → ℕ → Bool
is_encoding_of encoded.Pads e = is_code_encoding e || e == DW_EH_PE_omit
is_encoding_of encoded.Types e =
    is_pointer e && not (e % 16 == DW_EH_PE_uleb128) && not (e % 16 == DW_EH_PE_sleb128)
    || e == DW_EH_PE_omit
is_encoding_of encoded.Sites e = nat_le DW_EH_PE_uleb128 e && nat_le e DW_EH_PE_udata8

-- one that is accepted
unfoldable pub accepted_encoding : Encoded → Part LsdaFault ℕ
accepted_encoding field = do
  at ← here
  e ← lsda_field (fixed 1)
  _ ← check (is_encoding_of field e) (Encoding at e)
  give e

-- ---- the header, of a table at an address for a function that starts at `first`

-- what pads count from: the function's first address, or that which a pointer tells
unfoldable pub pad_start : ℕ → ℕ → Part LsdaFault ℕ
pad_start first address = do
  e ← accepted_encoding encoded.Pads
  when (e == DW_EH_PE_omit) (give first) (lsda_field (encoded_pointer e address))

-- where the types end: so far behind the distance
unfoldable pub type_table : ℕ → Part LsdaFault (Option TypeTable)
type_table e = do
  n ← lsda_field uleb
  at ← here
  give (Some (record { encoding = e; end = at + n }))

unfoldable pub types_told : Part LsdaFault (Option TypeTable)
types_told = do
  e ← accepted_encoding encoded.Types
  when (e == DW_EH_PE_omit) (give None) (type_table e)

unfoldable pub table_header : ℕ → ℕ → Part LsdaFault TableHeader
table_header first address = do
  start ← pad_start first address
  types ← types_told
  e ← accepted_encoding encoded.Sites
  n ← lsda_field uleb
  give (record { pad_start = start; types = types; encoding = e; length = n })

-- ---- call sites

-- three numbers of the header's encoding, and an action
unfoldable pub call_site : ℕ → Part LsdaFault CallSite
call_site e = do
  start ← lsda_field (encoded_number e)
  size ← lsda_field (encoded_number e)
  pad ← lsda_field (encoded_number e)
  at ← here
  action ← lsda_field uleb
  give (record { start = start; length = size; pad = pad; action = action; action_at = at })

-- the address that lies so far from the function's first one is of the call site
abbrev pub site_covers : ℕ → CallSite → Bool
site_covers distance s = nat_le s.start distance && nat_lt distance (s.start + s.length)

-- the text spells these call sites one after another, of which none covers the address
abbrev pub ArePassed : ℕ → ℕ → ℕ → List ℕ → List CallSite → Type 0
ArePassed e distance p text [] = text ≡ []
ArePassed e distance p text (s ∷ ss) =
    (front : List ℕ) × (back : List ℕ) × (text ≡ front ++ back)
    × (call_site e).Spells p front s × (site_covers distance s ≡ false)
    × ArePassed e distance (p + length front) back ss

-- The call site that counts: the first that covers the address, after others that don't; none where
-- they come to the end. What stands after it isn't looked at.
abbrev pub CountsIn : ℕ → ℕ → ℕ → List ℕ → Option CallSite → Type 0
CountsIn e distance p text None = (passed : List CallSite) × ArePassed e distance p text passed
CountsIn e distance p text (Some s) =
    (passed : List CallSite) × (front : List ℕ) × (own : List ℕ) × (back : List ℕ)
    × (text ≡ front ++ (own ++ back)) × ArePassed e distance p front passed
    × (call_site e).Spells (p + length front) own s × (site_covers distance s ≡ true)

-- after others that don't cover the address stands one that is refused
abbrev pub IsRefusedIn : ℕ → ℕ → ℕ → List ℕ → LsdaFault → Type 0
IsRefusedIn e distance p bytes f =
    (passed : List CallSite) × (front : List ℕ) × (back : List ℕ) × (bytes ≡ front ++ back)
    × ArePassed e distance p front passed × (0 < length back)
    × (call_site e).Refuses (p + length front) back f

-- looking through the bytes that are left, at most n call sites
unfoldable pub look_through : ℕ → ℕ → ℕ → CursorData → Result (Option CallSite) LsdaFault
look_through zero e distance r = Ok None
look_through (suc n) e distance r =
    if length r.bytes == 0 then Ok None else ((call_site e).read r and_then λ x.
    (if site_covers distance x.0 then Ok (Some x.0) else look_through n e distance x.1))

abbrev pub covering_read : ℕ → ℕ → CursorData → Result (Option CallSite) LsdaFault
covering_read e distance r = look_through (length r.bytes) e distance r

-- all call sites of a table, which stand for the one that counts
unfoldable pub covering_site : ℕ → ℕ → Part LsdaFault (Option CallSite)
covering_site e distance = record {
  Spells = CountsIn e distance;
  Refuses = IsRefusedIn e distance;
  read = λ r. covering_read e distance r and_then λ s.
      Ok (s, record { bytes = []; at = r.at + length r.bytes });
}

-- the call sites have the length that the header says
unfoldable pub sized_sites : ℕ → TableHeader → Part LsdaFault (Option CallSite)
sized_sites distance h = do
  at ← here
  filled (Short at) h.length (covering_site h.encoding distance)
