-- Reading entries in turn: what was read stands before what is left.
use Rattle.std.proofs.Common.{◌≡◌, ℕ, zero, suc, List, [], ◌∷◌, ◌++◌, Option, Result, Ok, Err, refl, sym, ap, append_assoc, slice_get}
use Rattle.std.proofs.lemmas.List.{append-nil}
use Rattle.eh_bytes.specs.CursorData.{CursorData}
use Rattle.eh_bytes.specs.Results.{◌and_then◌}
use Rattle.frame_parse.specs.Entries.{FdeRecord}
use Rattle.frame_parse.specs.Sections.{SectionData}
use Rattle.eh_hdr.specs.declared.fault.HeaderFault.{HeaderFault}
use Rattle.eh_hdr.specs.declared.table.TableEntry.{TableEntry}
use Rattle.eh_hdr.specs.Headers.{table_entry, table_entries}

abbrev pub Answer : Type 0
Answer = Result (List TableEntry × CursorData) HeaderFault

-- these entries, and then those that are given
abbrev pub behind : List TableEntry → Answer → Answer
behind done m = ◌and_then◌ m (λ x. Ok (done ++ x.0, x.1))

pub behind_nothing : (m : Answer) → m ≡ behind [] m
behind_nothing (Ok x) = refl
behind_nothing (Err f) = refl

behind_one : (done : List TableEntry) (e : TableEntry) (m : Answer) → behind done (◌and_then◌ m (λ x. Ok (e ∷ x.0, x.1))) ≡ behind (done ++ e ∷ []) m
behind_one done e (Ok x) = ap (λ (es : List TableEntry). Ok (es, x.1)) (sym (append_assoc done (e ∷ []) x.0))
behind_one done e (Err f) = refl

pub next_entry : (address : ℕ) (section : SectionData) (n : ℕ) (before : Option FdeRecord) (done : List TableEntry) (cursor : CursorData) (e : TableEntry) (new : CursorData)
    → (table_entry address section before).read cursor ≡ Ok (e, new)
    → behind done ((table_entries address section (suc n) before).read cursor) ≡ behind (done ++ e ∷ []) ((table_entries address section n (slice_get section.fdes e.fde)).read new)
unfolding table_entries
next_entry address section n before done cursor e new is = rw is (behind_one done e ((table_entries address section n (slice_get section.fdes e.fde)).read new))

pub no_next : (address : ℕ) (section : SectionData) (n : ℕ) (before : Option FdeRecord) (done : List TableEntry) (cursor : CursorData) (f : HeaderFault)
    → (table_entry address section before).read cursor ≡ Err f → behind done ((table_entries address section (suc n) before).read cursor) ≡ Err f
unfolding table_entries
no_next address section n before done cursor f is = rw is refl

pub last_read : (address : ℕ) (section : SectionData) (before : Option FdeRecord) (done : List TableEntry) (cursor : CursorData) → behind done ((table_entries address section zero before).read cursor) ≡ Ok (done, cursor)
unfolding table_entries
last_read address section before done cursor = ap (λ (es : List TableEntry). Ok (es, cursor)) (append-nil done)
