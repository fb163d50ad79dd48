-- Tables of FDEs whose ranges are apart: a search by halves finds the one that has the address, and it is the first that covers it.
use Rattle.std.specs.Prelude.{◌⊎◌, slice_get, slice_set}
use Rattle.std.proofs.lemmas.Option.{slice_get-get_or}
use Rattle.std.proofs.lemmas.List.{drop_more, take_more_set, append-nil, get_or_default, length-map}
use Rattle.std.proofs.Math.ListN.{get_or-map}
use Rattle.std.proofs.Math.Seq.{drop-length}
use Rattle.std.proofs.Common.{map, take, drop, ◌≡◌, ℕ, zero, suc, ◌+◌, ◌-◌, ◌<◌, ◌≤◌, Bool, cond, List, [], ◌∷◌, ◌++◌, length, get_or, true, false, Some, None, ◌&&◌, nat_le, nat_lt, refl, sym, ap, subst, ◌∙◌, arith, inl, inr, leb-true, ltb-true, le-ltb}
use Rattle.std.proofs.lemmas.Bool.{and_parts, and_right, cases_lt, lt-ltb}
use Rattle.std.proofs.lemmas.List.Elements.{filter_more, All-cons, All-nil}
use Rattle.std.proofs.lemmas.List.Sorted.{Contains-permutation, All-permutation}
use Rattle.std.specs.List.{All, Contains, find, filter}
use Rattle.std.specs.List.Sorted.{IsPermutation}
use Rattle.std.specs.Option.{option_map}
use Rattle.frame_parse.specs.Entries.{FdeRecord}
use Rattle.frame_parse.specs.Sections.{covers, first_cover}
use Rattle.frame_parse.specs.Lookups.{are_apart}
use Rattle.frame_parse.specs.declared.fde_lookup.CoveredRange.{CoveredRange}
use Rattle.frame_parse.proofs.Lookups as lookups
use Rattle.frames_c.specs.declared.table.FramesEntry.{FramesEntry}
use Rattle.frames_c.specs.TableEntries.{entry_told, entries_told, entry_has, entries_apart, FindsAsSection, IsSearched}

-- ---- as the ranges of frame_parse's lookups

abbrev range_of : FramesEntry → CoveredRange
range_of e = record { first = e.first; range = e.range; fde = e.place }

ranges_apart : (es : List FramesEntry) → are_apart (map range_of es) ≡ entries_apart es
ranges_apart [] = refl
ranges_apart (a ∷ []) = refl
ranges_apart (a ∷ b ∷ es) = ap (λ (x : Bool). nat_le (a.first + a.range) b.first && x) (ranges_apart (b ∷ es))

pub few_apart : (es : List FramesEntry) → length es < 2 → entries_apart es ≡ true
few_apart es lt = sym (ranges_apart es) ∙ lookups.few_apart (map range_of es) (rw (length-map es range_of) lt)

-- an entry ends before all after it begin
apart : (es : List FramesEntry) (i j : ℕ) (d : FramesEntry) → entries_apart es ≡ true → i < j → j < length es → (get_or es i d).first + (get_or es i d).range ≤ (get_or es j d).first
apart es i j d h lt within =
    let up = lookups.apart (map range_of es) i j (range_of d) (ranges_apart es ∙ h) lt (rw (length-map es range_of) within) in
    rw (get_or-map range_of es i d, get_or-map range_of es j d) at up

not_above : (pc : ℕ) (e : FramesEntry) → e.first + e.range ≤ pc → entry_has pc e ≡ false
not_above pc e le = and_right _ _ (le-ltb pc (e.first + e.range) le)

-- ---- halving

-- those from `base` on, as many as `size`, are entries, and where the entries are apart no other has the address
pub record AreLeft (es : List FramesEntry) (pc base size : ℕ) : Type 0 where
  pub within : base + size ≤ length es
  pub others : entries_apart es ≡ true → lookups.AreLeft (map range_of es) pc base size

pub all_left : (es : List FramesEntry) (pc : ℕ) → AreLeft es pc 0 (length es)
all_left es pc = record {
  within = omega arith;
  others = λ h. subst (lookups.AreLeft (map range_of es) pc 0) (length-map es range_of) (lookups.all_left (map range_of es) pc);
}

-- the upper half is left where the entry in the middle begins up to the address, else the lower one
pub half_left : (es : List FramesEntry) (pc base size half : ℕ) (d : FramesEntry) → AreLeft es pc base size → half + half ≤ size → half < size
    → AreLeft es pc (base + cond (nat_le (get_or es (base + half) d).first pc) half 0) (size - half)
half_left es pc base size half d left le lt = record {
  within = inside (nat_le (get_or es (base + half) d).first pc);
  others = λ h.
      let halves = lookups.half_left (map range_of es) pc base size half (range_of d) (ranges_apart es ∙ h) (left.others h) le lt in
      rw (get_or-map range_of es (base + half) d) at halves;
}
  where
    inside : (b : Bool) → base + cond b half 0 + (size - half) ≤ length es
    inside true = (let w = left.within in omega (arith, w))
    inside false = (let w = left.within in omega (arith, w))

module _ (es : List FramesEntry) (pc base size : ℕ) (left : lookups.AreLeft (map range_of es) pc base size) (j : ℕ) (d : FramesEntry) where
  below : j < base → entry_has pc (get_or es j d) ≡ false
  below lt = (let none = left.below j (range_of d) lt in rw (get_or-map range_of es j d) at none)

  above : base + size ≤ j → j < length es → entry_has pc (get_or es j d) ≡ false
  above le lt = (let none = left.above j (range_of d) le (rw (length-map es range_of) lt) in rw (get_or-map range_of es j d) at none)

-- ---- what is found

-- entries without the address at the front find nothing
find_behind : (pc : ℕ) (es : List FramesEntry) (n : ℕ) → ((j : ℕ) (d : FramesEntry) → j < n → j < length es → entry_has pc (get_or es j d) ≡ false) → find (entry_has pc) es ≡ find (entry_has pc) (drop n es)
find_behind pc es zero none = refl
find_behind pc [] (suc n) none = refl
find_behind pc (x ∷ es) (suc n) none = rw (none 0 x (omega arith) (omega arith)) (find_behind pc es n (λ j d low lt. none (suc j) d (omega arith) (omega arith)))

find-here : (pc : ℕ) (es : List FramesEntry) (i : ℕ) (d : FramesEntry) → i < length es → entry_has pc (get_or es i d) ≡ true → ((j : ℕ) (f : FramesEntry) → j < i → entry_has pc (get_or es j f) ≡ false) → find (entry_has pc) es ≡ Some (get_or es i d)
find-here pc es i d lt has before = find_behind pc es i (λ j f low _. before j f low) ∙ ap (find (entry_has pc)) (drop_more es i d lt) ∙ rw has refl

find-none : (pc : ℕ) (es : List FramesEntry) → ((j : ℕ) (d : FramesEntry) → j < length es → entry_has pc (get_or es j d) ≡ false) → find (entry_has pc) es ≡ None
find-none pc es none = find_behind pc es (length es) (λ j d _ lt. none j d lt) ∙ ap (find (entry_has pc)) (drop-length es)

-- the entry that is left has the address
pub found_here : (es : List FramesEntry) (pc base size : ℕ) (e : FramesEntry) → AreLeft es pc base size → size ≤ 1 → base < length es → get_or es base e ≡ e → entry_has pc e ≡ true → IsSearched es pc (Some e)
found_here es pc base size e left few lt is here = record {
  has = λ x same. let one : e ≡ x = cc in subst (λ (k : FramesEntry). Contains es k × (entry_has pc k ≡ true)) one ((base, lt, is), here);
  apart = λ h.
      let at = subst (λ k. entry_has pc k ≡ true) (sym is) here in
      ap (λ k. Some k) (sym is) ∙ sym (find-here pc es base e lt at (below es pc base size (left.others h)));
}

-- no entry has it
pub found_none : (es : List FramesEntry) (pc base size : ℕ) → AreLeft es pc base size → size ≤ 1 → ((d : FramesEntry) → base < length es → entry_has pc (get_or es base d) ≡ false) → IsSearched es pc None
found_none es pc base size left few none = record {
  has = λ x same. absurd cc;
  apart = λ h. sym (find-none pc es (λ j d lt.
      elim (cases_lt j base) [
        | inl before ↦ below es pc base size (left.others h) j d before
        | inr ge ↦
            elim (cases_lt base j) [
              | inl past ↦ above es pc base size (left.others h) j d (omega arith) lt
              | inr le ↦ let same : base ≡ j = omega arith in subst (λ k. entry_has pc (get_or es k d) ≡ false) same (none d (omega arith))
            ]
      ]));
}

-- ---- the FDEs

-- one more FDE
pub more_told : (fdes : List FdeRecord) (i : ℕ) (f : FdeRecord) → i < length fdes → get_or fdes i f ≡ f → entries_told (take (i + 1) fdes) ≡ entries_told (take i fdes) ++ cond (nat_lt 0 f.range) (entry_told f ∷ []) []
more_told fdes i f lt is =
    let more = filter_more (λ (x : FdeRecord). nat_lt 0 x.range) fdes i f lt in
    let at : filter (λ (x : FdeRecord). nat_lt 0 x.range) (take (i + 1) fdes) ≡ filter (λ (x : FdeRecord). nat_lt 0 x.range) (take i fdes) ++ cond (nat_lt 0 f.range) (f ∷ []) [] =
    subst (λ (x : FdeRecord). filter (λ (y : FdeRecord). nat_lt 0 y.range) (take (i + 1) fdes) ≡ filter (λ (y : FdeRecord). nat_lt 0 y.range) (take i fdes) ++ cond (nat_lt 0 x.range) (x ∷ []) []) is more in
    ap (map entry_told) at ∙ told_behind (filter (λ (x : FdeRecord). nat_lt 0 x.range) (take i fdes)) (nat_lt 0 f.range) f
  where
    told_behind : (xs : List FdeRecord) (b : Bool) (x : FdeRecord) → map entry_told (xs ++ cond b (x ∷ []) []) ≡ map entry_told xs ++ cond b (entry_told x ∷ []) []
    told_behind [] true x = refl
    told_behind [] false x = refl
    told_behind (y ∷ ys) b x = ap (λ k. entry_told y ∷ k) (told_behind ys b x)

-- ---- the section's own lookup

-- what an address finds among the FDEs, and among their entries
abbrev Told : ℕ → List FdeRecord → Type 0
Told pc fdes =
    ((first_cover pc fdes ≡ None) × All (λ e. entry_has pc e ≡ false) (entries_told fdes))
    ⊎ ((f : FdeRecord) × (first_cover pc fdes ≡ Some f) × Contains (entries_told fdes) (entry_told f) × (entry_has pc (entry_told f) ≡ true))

-- an FDE that covers an address isn't empty
not_empty : (pc : ℕ) (f : FdeRecord) → covers pc f ≡ true → nat_lt 0 f.range ≡ true
not_empty pc f e =
    let parts = and_parts (nat_le f.first pc) (nat_lt pc (f.first + f.range)) e in
    let low = leb-true _ _ parts.0 in
    let high = ltb-true _ _ parts.1 in
    lt-ltb 0 f.range (omega (arith, low, high))

abbrev entries_of : Bool → FdeRecord → List FdeRecord → List FramesEntry
entries_of b f fs = map entry_told (cond b (f ∷ filter (λ (x : FdeRecord). nat_lt 0 x.range) fs) (filter (λ (x : FdeRecord). nat_lt 0 x.range) fs))

none_more : (b : Bool) (pc : ℕ) (f : FdeRecord) (fs : List FdeRecord) → covers pc f ≡ false → All (λ e. entry_has pc e ≡ false) (entries_told fs) → All (λ e. entry_has pc e ≡ false) (entries_of b f fs)
none_more true pc f fs outside all = All-cons (λ e. entry_has pc e ≡ false) (entry_told f) (entries_told fs) outside all
none_more false pc f fs outside all = all

one_more : (b : Bool) (f g : FdeRecord) (fs : List FdeRecord) → Contains (entries_told fs) (entry_told g) → Contains (entries_of b f fs) (entry_told g)
one_more true f g fs (i, lt, is) = (suc i, omega arith, is)
one_more false f g fs has = has

first_told : (b : Bool) (f : FdeRecord) (fs : List FdeRecord) → b ≡ true → Contains (entries_of b f fs) (entry_told f)
first_told true f fs e = (0, omega arith, refl)
first_told false f fs e = absurd cc

told_first : (b : Bool) (pc : ℕ) (f : FdeRecord) (fs : List FdeRecord) → covers pc f ≡ b → Told pc fs → Told pc (f ∷ fs)
told_first true pc f fs e rest = inr (f, rw e refl, first_told (nat_lt 0 f.range) f fs (not_empty pc f e), e)
told_first false pc f fs e (inl (none, all)) = inl (rw e none, none_more (nat_lt 0 f.range) pc f fs e all)
told_first false pc f fs e (inr (g, is, has, here)) = inr (g, rw e is, one_more (nat_lt 0 f.range) f g fs has, here)

told : (pc : ℕ) (fdes : List FdeRecord) → Told pc fdes
told pc [] = inl (refl, All-nil (λ e. entry_has pc e ≡ false))
told pc (f ∷ fs) = told_first (covers pc f) pc f fs refl (told pc fs)

found_told : (pc : ℕ) (fdes : List FdeRecord) (es : List FramesEntry) → IsPermutation (entries_told fdes) es → entries_apart es ≡ true → Told pc fdes → find (entry_has pc) es ≡ option_map entry_told (first_cover pc fdes)
found_told pc fdes es p h (inl (none, all)) =
    rw none (find-none pc es (All-permutation (λ e. entry_has pc e ≡ false) (entries_told fdes) es p all))
found_told pc fdes es p h (inr (f, is, has, here)) =
    let (i, lt, at) = Contains-permutation (entries_told fdes) es (entry_told f) p has in
    let e = entry_told f in
    let low = leb-true _ _ (and_parts (nat_le e.first pc) (nat_lt pc (e.first + e.range)) here).0 in
    rw is (find-here pc es i e lt (subst (λ k. entry_has pc k ≡ true) (sym at) here) (λ j d before.
    let up = apart es j i d h before lt in
    let same = ap (λ (k : FramesEntry). k.first) (get_or_default es i d e lt ∙ at) in
    not_above pc (get_or es j d) (omega (arith, up, same, low)))
    ∙ ap (λ k. Some k) at)

-- a table whose entries are apart finds what the section does
pub finds_as_section : (fdes : List FdeRecord) (es : List FramesEntry) → IsPermutation (entries_told fdes) es → entries_apart es ≡ true → FindsAsSection fdes es
finds_as_section fdes es p h pc = found_told pc fdes es p h (told pc fdes)

-- ---- filling

got : (fdes : List FdeRecord) (i : ℕ) (f : FdeRecord) → i < length fdes → slice_get fdes i ≡ Some f → get_or fdes i f ≡ f
got fdes i f lt is = let there : Some f ≡ Some (get_or fdes i f) = sym is ∙ slice_get-get_or fdes i f lt in cc

-- an FDE that isn't empty is written behind the entries
pub fill_more : (fdes : List FdeRecord) (i n : ℕ) (f : FdeRecord) (es : List FramesEntry) → i < length fdes → n < length es → slice_get fdes i ≡ Some f → 0 < f.range → take n es ≡ entries_told (take i fdes)
    → take (n + 1) (slice_set es n (entry_told f)) ≡ entries_told (take (i + 1) fdes)
fill_more fdes i n f es lt room is some before =
    let some_there : nat_lt 0 f.range ≡ true = lt-ltb 0 f.range some in
    let more = more_told fdes i f lt (got fdes i f lt is) in
    let behind_all = take_more_set es n (entry_told f) room in
    behind_all ∙ ap (λ (k : List FramesEntry). k ++ entry_told f ∷ []) before ∙ sym (rw some_there at more)

-- an empty one isn't
pub fill_same : (fdes : List FdeRecord) (i n : ℕ) (f : FdeRecord) (es : List FramesEntry) → i < length fdes → slice_get fdes i ≡ Some f → f.range ≡ 0 → take n es ≡ entries_told (take i fdes)
    → take n es ≡ entries_told (take (i + 1) fdes)
fill_same fdes i n f es lt is none before =
    let none_there : nat_lt 0 f.range ≡ false = rw none refl in
    let more = more_told fdes i f lt (got fdes i f lt is) in
    before ∙ sym (append-nil (entries_told (take i fdes))) ∙ sym (rw none_there at more)
