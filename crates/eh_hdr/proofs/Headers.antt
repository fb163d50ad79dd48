-- A header is exact, part by part, so each list of bytes has one table or one refusal.
use Rattle.std.proofs.Common.{◌≡◌, ℕ, zero, suc, ◌+◌, ◌-◌, ◌%◌, ◌^◌, List, [], ◌∷◌, length, Option, Some, None, Result, Ok, Err, refl, sym, ap, ◌∙◌, arith, inl, inr, slice_get}
use Rattle.std.specs.Prelude.{◌==◌, ◌⊎◌}
use Rattle.std.specs.Int.{w32}
use Rattle.std.specs.List.{slice_range}
use Rattle.std.proofs.lemmas.List.{take_all}
use Rattle.eh_bytes.specs.CursorData.{CursorData}
use Rattle.eh_bytes.specs.Fields.{signed_fixed}
use Rattle.eh_bytes.proofs.Exact.{left, IsExact, then_exact, give_exact, here_exact, check_exact, found_exact, given_exact, lift_exact}
use Rattle.eh_bytes.proofs.Fields.{fixed_exact}
use Rattle.eh_bytes.proofs.Results.{ok_is, err_is}
use Rattle.frame_parse.specs.Entries.{FdeRecord}
use Rattle.frame_parse.specs.Sections.{SectionData}
use Rattle.eh_hdr.specs.declared.fault.HeaderFault.{HeaderFault}
use Rattle.eh_hdr.specs.declared.fault.HeaderFault.TheVariants.{Short, Version, Encoding, Section, Count, Fde, NoMemory}
use Rattle.eh_hdr.specs.declared.fields.TableKind.{TableKind}
use Rattle.eh_hdr.specs.declared.fields.TableKind.TheVariants.{Sorted, Absent}
use Rattle.eh_hdr.specs.declared.table.TableEntry.{TableEntry}
use Rattle.eh_hdr.specs.Places.{named_fde, follows}
use Rattle.eh_hdr.specs.Headers.{version_of_headers, section_pointer_encoding, octet, cut_after, relative, header_version, kind_by_count, table_encoding, pointer_encoding, count_encoding, entry_encoding, section_pointer, table_entry, table_entries, entry_count, sorted_table, header_head, header, IsHeader, HasOneTable}

-- ---- fields

octet_exact : IsExact octet
unfolding octet
octet_exact = then_exact _ _ here_exact (λ at. lift_exact (λ f. Short at) _ (fixed_exact 1))

signed_exact : IsExact (signed_fixed w32)
signed_exact = then_exact _ _ (fixed_exact 4) (λ x. give_exact _)

relative_exact : (base : ℕ) (before : Result (Unit {0}) HeaderFault) → IsExact (relative base before)
unfolding relative
relative_exact base before =
    then_exact _ _ here_exact (λ at.
    then_exact _ _ (lift_exact (λ f. cut_after before at) _ signed_exact) (λ x. give_exact _))

version_exact : IsExact header_version
unfolding header_version
version_exact =
    then_exact _ _ here_exact (λ at.
    then_exact _ _ octet_exact (λ v. check_exact (v == version_of_headers) (Version at)))

pointer_encoding_exact : IsExact pointer_encoding
unfolding pointer_encoding
pointer_encoding_exact =
    then_exact _ _ here_exact (λ at.
    then_exact _ _ octet_exact (λ e. check_exact (e == section_pointer_encoding) (Encoding at)))

count_encoding_exact : IsExact count_encoding
unfolding count_encoding
count_encoding_exact =
    then_exact _ _ here_exact (λ at.
    then_exact _ _ octet_exact (λ e. found_exact (kind_by_count e) (Encoding at)))

entry_encoding_exact : (kind : TableKind) → IsExact (entry_encoding kind)
unfolding entry_encoding
entry_encoding_exact kind =
    then_exact _ _ here_exact (λ at.
    then_exact _ _ octet_exact (λ e. check_exact (e == table_encoding kind) (Encoding at)))

section_pointer_exact : (address : ℕ) (section : SectionData) → IsExact (section_pointer address section)
unfolding section_pointer
section_pointer_exact address section =
    then_exact _ _ here_exact (λ at.
    then_exact _ _ (relative_exact ((address + at) % 2 ^ 64) (Ok tt)) (λ p. check_exact (p == section.address) (Section at)))

pub head_exact : (address : ℕ) (section : SectionData) → IsExact (header_head address section)
unfolding header_head
head_exact address section =
    then_exact _ _ version_exact (λ _.
    then_exact _ _ pointer_encoding_exact (λ _.
    then_exact _ _ count_encoding_exact (λ kind.
    then_exact _ _ (entry_encoding_exact kind) (λ _.
    then_exact _ _ (section_pointer_exact address section) (λ _. give_exact kind)))))

-- ---- the table

pub entry_exact : (address : ℕ) (section : SectionData) (before : Option FdeRecord) → IsExact (table_entry address section before)
unfolding table_entry
entry_exact address section before =
    then_exact _ _ here_exact (λ at.
    then_exact _ _ (relative_exact address (Ok tt)) (λ location.
    then_exact _ _ (relative_exact address (follows before at location)) (λ a.
    then_exact _ _ (found_exact (named_fde section a location) (Fde at)) (λ i.
    then_exact _ _ (given_exact (follows before at location)) (λ _. give_exact _)))))

pub entries_exact : (address : ℕ) (section : SectionData) (n : ℕ) (before : Option FdeRecord) → IsExact (table_entries address section n before)
unfolding table_entries
entries_exact address section zero before = give_exact []
entries_exact address section (suc n) before =
    then_exact _ _ (entry_exact address section before) (λ e.
    then_exact _ _ (entries_exact address section n (slice_get section.fdes e.fde)) (λ es. give_exact (e ∷ es)))

count_exact : (section : SectionData) → IsExact (entry_count section)
unfolding entry_count
count_exact section =
    then_exact _ _ here_exact (λ at.
    then_exact _ _ (lift_exact (λ f. Short at) _ (fixed_exact 4)) (λ n.
    then_exact _ _ (check_exact (n == length section.fdes) (Count at)) (λ _. give_exact n)))

table_exact : (address : ℕ) (section : SectionData) (kind : TableKind) → IsExact (sorted_table address section kind)
unfolding sorted_table
table_exact address section Absent = give_exact None
table_exact address section Sorted =
    then_exact _ _ (count_exact section) (λ n.
    then_exact _ _ (entries_exact address section n None) (λ es. give_exact (Some es)))

pub header_exact : (address : ℕ) (section : SectionData) → IsExact (header address section)
unfolding header
header_exact address section = then_exact _ _ (head_exact address section) (λ kind. table_exact address section kind)

-- ---- one answer

-- what reading gives of the bytes from their front
abbrev pub answer_to : ℕ → SectionData → List ℕ → Result (Option (List TableEntry) × CursorData) HeaderFault
answer_to address section bytes = (header address section).read (left 0 bytes)

pub header_from_read : (address : ℕ) (section : SectionData) (bytes : List ℕ) (t : Option (List TableEntry)) (behind : CursorData) → answer_to address section bytes ≡ Ok (t, behind) → IsHeader address section bytes t
unfolding IsHeader
header_from_read address section bytes t behind e =
    let a = (header_exact address section).takes (left 0 bytes) t behind e in
    (a.front, behind.bytes, a.parts, a.spells)

header_is_read : (address : ℕ) (section : SectionData) (bytes : List ℕ) (t : Option (List TableEntry)) → IsHeader address section bytes t → (behind : CursorData) × (answer_to address section bytes ≡ Ok (t, behind))
unfolding IsHeader
header_is_read address section bytes t h =
    (left (0 + length h.0) h.1, ap (answer_to address section) h.2 ∙ (header_exact address section).again 0 h.0 h.1 t h.3)

some_answer : (address : ℕ) (section : SectionData) (bytes : List ℕ) (m : Result (Option (List TableEntry) × CursorData) HeaderFault) → answer_to address section bytes ≡ m
    → ((t : Option (List TableEntry)) × IsHeader address section bytes t) ⊎ ((f : HeaderFault) × (header address section).Refuses 0 bytes f)
some_answer address section bytes (Ok x) e = inl (x.0, header_from_read address section bytes x.0 x.1 e)
some_answer address section bytes (Err f) e = inr (f, (header_exact address section).refuses (left 0 bytes) f e)

pub one_answer : (address : ℕ) (section : SectionData) (bytes : List ℕ) → HasOneTable address section bytes
one_answer address section bytes =
    let read = answer_to address section bytes in
    record {
      some = some_answer address section bytes read refl;
      one_table = λ t other a b.
          let first = header_is_read address section bytes t a in
          let second = header_is_read address section bytes other b in
          let same : (t, first.0) ≡ (other, second.0) = ok_is {F = HeaderFault} (t, first.0) (other, second.0) (sym first.1 ∙ second.1) in
          ap (λ (x : Option (List TableEntry) × CursorData). x.0) same;
      one_fault = λ f other a b.
          err_is {A = Option (List TableEntry) × CursorData} f other (sym ((header_exact address section).refused 0 bytes f a) ∙ (header_exact address section).refused 0 bytes other b);
      not_both = λ t f a b.
          let first = header_is_read address section bytes t a in
          let both = sym first.1 ∙ (header_exact address section).refused 0 bytes f b in cc;
    }

-- ---- what a call of reading gave

pub header_given : (address : ℕ) (section : SectionData) (bytes : List ℕ) (t : Option (List TableEntry)) (cursor new : CursorData) → cursor ≡ left 0 bytes → (header address section).read cursor ≡ Ok (t, new) → IsHeader address section bytes t
header_given address section bytes t cursor new start e = header_from_read address section bytes t new (ap (header address section).read (sym start) ∙ e)

pub refusal_given : (address : ℕ) (section : SectionData) (bytes : List ℕ) (f : HeaderFault) (cursor : CursorData) → cursor ≡ left 0 bytes → (f ≡ NoMemory) ⊎ ((header address section).read cursor ≡ Err f)
    → (f ≡ NoMemory) ⊎ (header address section).Refuses 0 bytes f
refusal_given address section bytes f cursor start (inl lacks) = inl lacks
refusal_given address section bytes f cursor start (inr e) = inr ((header_exact address section).refuses (left 0 bytes) f (ap (header address section).read (sym start) ∙ e))

pub at_front : (bytes : List ℕ) (r : CursorData) → r.bytes ≡ slice_range bytes 0 (length bytes) → r.at ≡ 0 → r ≡ left 0 bytes
at_front bytes r same place =
    let whole : r.bytes ≡ bytes = same ∙ take_all (length bytes - 0) bytes (omega arith) in
    ap (λ (bs : List ℕ). record { bytes = bs; at = r.at }) whole ∙ ap (λ (p : ℕ). left p bytes) place
