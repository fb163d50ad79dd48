-- A table whose entries were read: they ascend, don't overlap, and name every FDE.
use Rattle.std.proofs.Common.{◌≡◌, ℕ, zero, suc, ◌+◌, ◌<◌, ◌≤◌, List, [], ◌∷◌, length, get_or, map, true, false, cond, Option, Some, None, Result, Ok, Err, nat_eq, nat_le, nat_lt, refl, sym, ap, subst, ◌∙◌, arith, inl, inr, slice_get, leb-false, ltb-false}
use Rattle.std.specs.Option.{option_map}
use Rattle.std.specs.List.{IsDistinct, AllByRecursion, list_any, position_or_len}
use Rattle.std.proofs.lemmas.Bool.{and_parts, or_cases, eqb-true, ne_eqb, cases_lt}
use Rattle.std.proofs.lemmas.List.{length-map}
use Rattle.std.proofs.lemmas.List.Quantifiers.{position-Some}
use Rattle.std.proofs.lemmas.List.Sums.{passes_at_first, fails_before_first}
use Rattle.std.proofs.lemmas.Map.Keys.{IsDistinct-cons}
use Rattle.std.proofs.lemmas.Map.Steps.{length-le_from_distinct_below}
use Rattle.std.proofs.lemmas.Option.{slice_get-map, slice_get-get_or, slice_get_within, get_or_from_slice_get}
use Rattle.eh_bytes.specs.Grammar.{found, given}
use Rattle.eh_bytes.proofs.Results.{cond_err}
use Rattle.frame_parse.specs.Entries.{FdeRecord}
use Rattle.frame_parse.specs.Sections.{SectionData, IsAscending}
use Rattle.eh_hdr.specs.declared.fault.HeaderFault.{HeaderFault}
use Rattle.eh_hdr.specs.declared.fault.HeaderFault.TheVariants.{Order, Overlap}
use Rattle.eh_hdr.specs.declared.fields.TableKind.{TableKind}
use Rattle.eh_hdr.specs.declared.fields.TableKind.TheVariants.{Sorted, Absent}
use Rattle.eh_hdr.specs.declared.table.TableEntry.{TableEntry}
use Rattle.eh_hdr.specs.Headers.{table_entry, table_entries, entry_count, sorted_table, header, IsHeader}
use Rattle.eh_hdr.specs.Places.{is_fde_at, section_place, named_fde, follows}
use Rattle.eh_hdr.specs.Tables.{IsPast, AreTableEntries, IsSortedTable, locations}
use Rattle.eh_hdr.proofs.Places.{no_fde}

-- ---- what an entry says

found_is : {A : Type 0} (o : Option A) (f : HeaderFault) (p : ℕ) (text : List ℕ) (x : A) → (found o f).Spells p text x → o ≡ Some x
found_is None f p text x s = absurd s
found_is {A} (Some y) f p text x s = ap (λ (z : A). Some z) s.1

given_is : {A : Type 0} (m : Result A HeaderFault) (p : ℕ) (text : List ℕ) (x : A) → (given m).Spells p text x → m ≡ Ok x
given_is {A} (Ok y) p text x s = ap (λ (z : A). Ok z) s.1
given_is (Err f) p text x s = absurd s

past : (before : Option FdeRecord) (at location : ℕ) (u : Unit {0}) → follows before at location ≡ Ok u → IsPast before location
past None at location u e = tt
past (Some f) at location u e =
    let a = cond_err (nat_le location f.first) (Order at) (cond (nat_lt location (f.first + f.range)) (Err (Overlap at)) (Ok tt)) u e in
    let b = cond_err (nat_lt location (f.first + f.range)) (Overlap at) (Ok tt) u a.1 in
    let above = leb-false _ _ a.0 in
    let far = ltb-false _ _ b.0 in
    (omega (arith, above), omega (arith, far))

-- the FDE that an entry names has its location
named_is : (section : SectionData) (a location i : ℕ) → named_fde section a location ≡ Some i → (f : FdeRecord) × (slice_get section.fdes i ≡ Some f) × (f.first ≡ location)
named_is section a location i e =
    let p = position-Some (is_fde_at (section_place section a) location) section.fdes i no_fde e in
    let f = get_or section.fdes i no_fde in
    let both = and_parts (nat_eq f.start (section_place section a)) (nat_eq f.first location) p.1 in
    (f, slice_get-get_or section.fdes i no_fde p.0, eqb-true _ _ both.1)

entry_is : (address : ℕ) (section : SectionData) (before : Option FdeRecord) (p : ℕ) (text : List ℕ) (e : TableEntry) → (table_entry address section before).Spells p text e
    → (f : FdeRecord) × (slice_get section.fdes e.fde ≡ Some f) × (f.first ≡ e.location) × IsPast before e.location
unfolding table_entry
entry_is address section before p text e s =
    let loc = s.5 in
    let adr = loc.5 in
    let num = adr.5 in
    let ord = num.5 in
    let same = ord.5.1 in
    let named = named_is section adr.0 loc.0 num.0 (found_is (named_fde section adr.0 loc.0) _ _ _ num.0 num.4) in
    let after = past before s.0 loc.0 ord.0 (given_is (follows before s.0 loc.0) _ _ ord.0 ord.4) in
    subst (λ (k : TableEntry). (f : FdeRecord) × (slice_get section.fdes k.fde ≡ Some f) × (f.first ≡ k.location) × IsPast before k.location) same (named.0, named.1, named.2, after)

-- ---- what all entries say

next_before : (fdes : List FdeRecord) (i : ℕ) (f : FdeRecord) (es : List TableEntry) → slice_get fdes i ≡ Some f → AreTableEntries fdes (slice_get fdes i) es → AreTableEntries fdes (Some f) es
next_before fdes i f es e a = subst (λ (o : Option FdeRecord). AreTableEntries fdes o es) e a

entries_are : (address : ℕ) (section : SectionData) (n : ℕ) (before : Option FdeRecord) (p : ℕ) (text : List ℕ) (es : List TableEntry) → (table_entries address section n before).Spells p text es
    → (length es ≡ n) × AreTableEntries section.fdes before es
unfolding table_entries
entries_are address section zero before p text es s = subst (λ (l : List TableEntry). (length l ≡ 0) × AreTableEntries section.fdes before l) s.1 (refl, tt)
entries_are address section (suc n) before p text es s =
    let e = s.0 in
    let more = s.5 in
    let first = entry_is address section before p s.1 e s.4 in
    let rest = entries_are address section n (slice_get section.fdes e.fde) _ more.1 more.0 more.4 in
    let all : AreTableEntries section.fdes before (e ∷ more.0) = (first.0, first.1, first.2, first.3, next_before section.fdes e.fde first.0 more.0 first.1 rest.1) in
    subst (λ (l : List TableEntry). (length l ≡ suc n) × AreTableEntries section.fdes before l) more.5.1 (omega (arith, rest.0), all)

count_is : (section : SectionData) (p : ℕ) (text : List ℕ) (n : ℕ) → (entry_count section).Spells p text n → n ≡ length section.fdes
unfolding entry_count
count_is section p text n s =
    let num = s.5 in
    let chk = num.5 in
    elim chk.4 [
      | inl w ↦ sym chk.5.1 ∙ eqb-true num.0 (length section.fdes) w.0
      | inr w ↦ absurd w.1
    ]

table_is : (address : ℕ) (section : SectionData) (kind : TableKind) (p : ℕ) (text : List ℕ) (t : Option (List TableEntry)) → (sorted_table address section kind).Spells p text t → IsSortedTable section.fdes t
unfolding sorted_table
table_is address section Absent p text t s = subst (λ (o : Option (List TableEntry)). IsSortedTable section.fdes o) s.1 tt
table_is address section Sorted p text t s =
    let many = count_is section p s.1 s.0 s.4 in
    let more = s.5 in
    let all = entries_are address section s.0 None _ more.1 more.0 more.4 in
    subst (λ (o : Option (List TableEntry)). IsSortedTable section.fdes o) more.5.1 (all.0 ∙ many, all.1)

pub header_is_sorted : (address : ℕ) (section : SectionData) (bytes : List ℕ) (t : Option (List TableEntry)) → IsHeader address section bytes t → IsSortedTable section.fdes t
unfolding IsHeader header
header_is_sorted address section bytes t h = table_is address section h.3.0 _ h.3.2 t h.3.5

-- ---- entries in order

-- an FDE ends before all entries after it
after_all : (fdes : List FdeRecord) (f : FdeRecord) (es : List TableEntry) (j : ℕ) (e : TableEntry) → AreTableEntries fdes (Some f) es → slice_get es j ≡ Some e → (f.first < e.location) × (f.first + f.range ≤ e.location)
after_all fdes f [] j e a is = absurd cc
after_all fdes f (d ∷ es) zero e a is = let same : d ≡ e = cc in subst (λ (k : TableEntry). (f.first < k.location) × (f.first + f.range ≤ k.location)) same a.3
after_all fdes f (d ∷ es) (suc j) e a is =
    let more = after_all fdes a.0 es j e a.4 is in
    (omega (arith, a.2, a.3.0, more.0), omega (arith, a.2, a.3.1, more.0))

pub in_order : (fdes : List FdeRecord) (before : Option FdeRecord) (es : List TableEntry) (i j : ℕ) (d e : TableEntry) (f : FdeRecord) → AreTableEntries fdes before es → i < j → slice_get es i ≡ Some d → slice_get es j ≡ Some e
    → slice_get fdes d.fde ≡ Some f → (f.first < e.location) × (f.first + f.range ≤ e.location)
in_order fdes before [] i j d e f a lt at_i at_j has = absurd cc
in_order fdes before (k ∷ es) i zero d e f a lt at_i at_j has = absurd (omega arith)
in_order fdes before (k ∷ es) zero (suc j) d e f a lt at_i at_j has =
    let same : k ≡ d = cc in
    let of : slice_get fdes k.fde ≡ Some f = ap (λ (x : TableEntry). slice_get fdes x.fde) same ∙ has in
    let here : a.0 ≡ f = let both = sym a.1 ∙ of in cc in
    subst (λ (g : FdeRecord). (g.first < e.location) × (g.first + g.range ≤ e.location)) here (after_all fdes a.0 es j e a.4 at_j)
in_order fdes before (k ∷ es) (suc i) (suc j) d e f a lt at_i at_j has = in_order fdes (Some a.0) es i j d e f a.4 (omega arith) at_i at_j has

pub entry_fde : (fdes : List FdeRecord) (before : Option FdeRecord) (es : List TableEntry) (i : ℕ) (e : TableEntry) → AreTableEntries fdes before es → slice_get es i ≡ Some e → (f : FdeRecord) × (slice_get fdes e.fde ≡ Some f) × (f.first ≡ e.location)
entry_fde fdes before [] i e a at = absurd cc
entry_fde fdes before (d ∷ es) zero e a at = let same : d ≡ e = cc in subst (λ (k : TableEntry). (f : FdeRecord) × (slice_get fdes k.fde ≡ Some f) × (f.first ≡ k.location)) same (a.0, a.1, a.2)
entry_fde fdes before (d ∷ es) (suc i) e a at = entry_fde fdes (Some a.0) es i e a.4 at

abbrev pub no_entry_here : TableEntry
no_entry_here = record { location = 0; address = 0; fde = 0 }

pub location_at : (es : List TableEntry) (i : ℕ) (e : TableEntry) → slice_get es i ≡ Some e → get_or (locations es) i 0 ≡ e.location
location_at es i e at = get_or_from_slice_get (locations es) i e.location 0 (slice_get-map (λ (k : TableEntry). k.location) es i ∙ ap (λ (o : Option TableEntry). option_map (λ (k : TableEntry). k.location) o) at)

pub locations_ascend : (fdes : List FdeRecord) (before : Option FdeRecord) (es : List TableEntry) → AreTableEntries fdes before es → IsAscending (locations es)
locations_ascend fdes before es a i j lt within =
    let size : length (locations es) ≡ length es = length-map es (λ (k : TableEntry). k.location) in
    let d = get_or es i no_entry_here in
    let e = get_or es j no_entry_here in
    let at_i : slice_get es i ≡ Some d = slice_get-get_or es i no_entry_here (omega (arith, size)) in
    let at_j : slice_get es j ≡ Some e = slice_get-get_or es j no_entry_here (omega (arith, size)) in
    let f = entry_fde fdes before es i d a at_i in
    let up = in_order fdes before es i j d e f.0 a lt at_i at_j f.1 in
    let first = location_at es i d at_i in
    let second = location_at es j e at_j in
    omega (arith, first, second, up.0, f.2)

-- ---- every FDE has an entry

abbrev pub numbers : List TableEntry → List ℕ
numbers es = map (λ e. e.fde) es

others : (k : ℕ) (ns : List ℕ) → ((j : ℕ) → j < length ns → nat_eq k (get_or ns j 0) ≡ false) → AllByRecursion (λ n. nat_eq k n ≡ false) ns
others k [] h = tt
others k (n ∷ ns) h = (h 0 (omega arith), others k ns (λ j lt. h (suc j) (omega arith)))

number_at : (es : List TableEntry) (j : ℕ) → j < length (numbers es) → (e : TableEntry) × (slice_get es j ≡ Some e) × (get_or (numbers es) j 0 ≡ e.fde)
number_at [] j lt = absurd (omega arith)
number_at (e ∷ es) zero lt = (e, refl, refl)
number_at (e ∷ es) (suc j) lt = number_at es j (omega arith)

-- no number stands twice: an FDE has one first address
distinct : (fdes : List FdeRecord) (before : Option FdeRecord) (es : List TableEntry) → AreTableEntries fdes before es → IsDistinct nat_eq (numbers es)
unfolding IsDistinct
distinct fdes before [] a = tt
distinct fdes before (e ∷ es) a =
    IsDistinct-cons nat_eq e.fde (numbers es)
    (others e.fde (numbers es) (λ j lt.
    let d = number_at es j lt in
    ne_eqb e.fde (get_or (numbers es) j 0) (λ same.
    let far = after_all fdes a.0 es j d.0 a.4 d.1 in
    let own = entry_fde fdes (Some a.0) es j d.0 a.4 d.1 in
    let number : e.fde ≡ d.0.fde = same ∙ d.2 in
    let both : a.0 ≡ own.0 = let one = sym a.1 ∙ ap (slice_get fdes) number ∙ own.1 in cc in
    absurd (omega (arith, far.0, own.2, ap (λ (f : FdeRecord). f.first) both)))))
    (distinct fdes (Some a.0) es a.4)

below_all : (fdes : List FdeRecord) (before : Option FdeRecord) (es : List TableEntry) (q : ℕ) → AreTableEntries fdes before es → list_any (nat_eq q) (numbers es) ≡ true → q < length fdes
below_all fdes before [] q a h = absurd cc
below_all fdes before (e ∷ es) q a h =
    elim (or_cases (nat_eq q e.fde) (list_any (nat_eq q) (numbers es)) h) [
      | inl here ↦ let lt = slice_get_within fdes e.fde a.0 a.1 in omega (arith, eqb-true q e.fde here, lt)
      | inr later ↦ below_all fdes (Some a.0) es q a.4 later
    ]

below_with : (n k : ℕ) (ns : List ℕ) → k < n → ((q : ℕ) → list_any (nat_eq q) ns ≡ true → q < n) → (q : ℕ) → list_any (nat_eq q) (k ∷ ns) ≡ true → q < n
below_with n k ns lt all q h =
    elim (or_cases (nat_eq q k) (list_any (nat_eq q) ns) h) [
      | inl here ↦ omega (arith, eqb-true q k here)
      | inr later ↦ all q later
    ]

pub has_entry : (fdes : List FdeRecord) (es : List TableEntry) (k : ℕ) → length es ≡ length fdes → AreTableEntries fdes None es → k < length fdes → (j : ℕ) × (e : TableEntry) × (slice_get es j ≡ Some e) × (e.fde ≡ k)
has_entry fdes es k many a lt =
    let ns = numbers es in
    let size : length ns ≡ length es = length-map es (λ (e : TableEntry). e.fde) in
    let i = position_or_len (nat_eq k) ns in
    elim (cases_lt i (length ns)) [
      | inl inside ↦
          let d = number_at es i inside in
          let hit = passes_at_first (nat_eq k) ns 0 inside in
          (i, d.0, d.1, sym d.2 ∙ sym (eqb-true k (get_or ns i 0) hit))
      | inr outside ↦
          let never = others k ns (λ j below. fails_before_first (nat_eq k) ns j 0 (omega arith)) in
          let apart = IsDistinct-cons nat_eq k ns never (distinct fdes None es a) in
          let few = length-le_from_distinct_below (k ∷ ns) (length fdes) apart (below_with (length fdes) k ns lt (λ q h. below_all fdes None es q a h)) in
          absurd (omega (arith, few, size, many))
    ]
