-- A section as its items: records that are sound and records that are refused, each where the
-- length of the one before it ends. One bad record costs itself alone, and a bad CIE those that
-- lead to it.
use Rattle.std.specs.Prelude.{ℕ, zero, suc, ◌+◌, List, [], ◌∷◌, length, Bool, false, Option, Some}
use Rattle.std.specs.Prelude.{None, Result, Ok, Err, nat_lt, nat_le, ◌==◌, ◌&&◌, if◌then◌else◌}
use Rattle.eh_bytes.specs.CursorData.{CursorData}
use Rattle.eh_bytes.specs.Grammar.{Part, ◌>>=◌, give, here, refuse, when, found, block}
use Rattle.eh_bytes.specs.Fields.{fixed}
use Rattle.frame_parse.specs.declared.fault.RecordFault.{RecordFault}
use Rattle.frame_parse.specs.declared.fault.RecordFault.TheVariants.{Short, NoCie}
use Rattle.frame_parse.specs.declared.records.CieRecord.{CieRecord}
use Rattle.frame_parse.specs.Entries.{FdeRecord, Record, Cie, Fde}
use Rattle.frame_parse.specs.Fields.{field, pointer}
use Rattle.frame_parse.specs.RecordNumbers.{cie_id}
use Rattle.frame_parse.specs.Records.{cie_after, range, record_length, whole_record}
use Rattle.frame_parse.specs.Sections.{is_end, with_record, covers}
use Rattle.sound_records.specs.declared.refused.Claim.{Claim}
use Rattle.sound_records.specs.declared.refused.RefusedRecord.{RefusedRecord}
use Rattle.sound_records.specs.declared.answer.FdeAnswer.{FdeAnswer}
use Rattle.sound_records.specs.declared.answer.FdeAnswer.TheVariants.{NoFde, Found, Claimed}

-- a sound record, or a refused one
pub data Item : Type 0 where
  Sound : Record → Item
  Refused : RefusedRecord → Item

-- what was read, or none
abbrev pub what_was_read : {A F : Type 0} → Result (A × CursorData) F → Option A
what_was_read (Ok x) = Some x.0
what_was_read (Err f) = None

-- one value or another, by a result
abbrev pub by_result : {A F B : Type 0} → Result A F → (A → B) → (F → B) → B
by_result (Ok x) ok err = ok x
by_result (Err f) ok err = err f

-- the length of the record at p, and as many bytes, whatever is in them
unfoldable pub extent : ℕ → Part RecordFault (Unit {0})
extent p = record_length p >>= λ n. block (Short p) n (give tt)

-- what stands after the length of an FDE whose CIE is sound: its addresses
unfoldable pub addresses : ℕ → List CieRecord → Part RecordFault Claim
addresses section earlier = do
  at ← here
  id ← field (fixed 4)
  when (id == cie_id) (refuse (NoCie at))
      (found (cie_after earlier at id) (NoCie at) >>=
      λ c. pointer section c.augmentation.pointers >>=
      λ first. range c.augmentation.pointers first >>=
      λ size. give (record { first = first; range = size }))

-- the addresses that a record says, where it is an FDE of an earlier CIE that is sound
unfoldable pub record_claim : ℕ → List CieRecord → Part RecordFault Claim
record_claim section earlier = do
  start ← here
  n ← record_length start
  block (Short start) n (addresses section earlier)

-- what a refused record claims
unfoldable pub claimed : ℕ → List CieRecord → CursorData → Option Claim
claimed section earlier r = what_was_read ((record_claim section earlier).read r)

-- the items that stand here, at most n; what stands after a record that isn't whole isn't read
unfoldable pub items_from : ℕ → ℕ → List CieRecord → CursorData → List Item
items_from zero section earlier r = []
items_from (suc n) section earlier r =
    if is_end r.bytes then [] else by_result ((whole_record section earlier).read r)
    (λ x. Sound x.0 ∷ items_from n section (with_record earlier x.0) x.1)
    (λ f. Refused (record { start = r.at; fault = f; claim = claimed section earlier r })
    ∷ by_result ((extent r.at).read r) (λ e. items_from n section earlier e.1) (λ _. []))

-- the items of a section with these bytes at this address; each has a byte at least
unfoldable pub items_of : ℕ → List ℕ → List Item
items_of section bytes =
    items_from (suc (length bytes)) section [] (record { bytes = bytes; at = 0 })

-- the sound records, and the refused ones
abbrev pub sound_in : List Item → List Record
sound_in [] = []
sound_in (Sound r ∷ is) = r ∷ sound_in is
sound_in (Refused x ∷ is) = sound_in is

abbrev pub refused_in : List Item → List RefusedRecord
refused_in [] = []
refused_in (Sound r ∷ is) = refused_in is
refused_in (Refused x ∷ is) = x ∷ refused_in is

-- ---- lookups

-- a refused record claims an address
abbrev pub claims : ℕ → Option Claim → Bool
claims pc None = false
claims pc (Some c) = nat_le c.first pc && nat_lt pc (c.first + c.range)

-- by the first item in order of bytes that covers or claims the address
abbrev pub answer_at : ℕ → List Item → FdeAnswer FdeRecord
answer_at pc [] = NoFde
answer_at pc (Sound (Cie c) ∷ is) = answer_at pc is
answer_at pc (Sound (Fde f) ∷ is) = if covers pc f then Found f else answer_at pc is
answer_at pc (Refused x ∷ is) = if claims pc x.claim then Claimed x else answer_at pc is
