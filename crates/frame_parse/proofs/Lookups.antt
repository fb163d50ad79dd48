-- Ranges that are apart: at most one has an address. So the one that has it is the first FDE's that covers it.
use Rattle.std.proofs.lemmas.Bool.{false_from_ne_true}
use Rattle.std.proofs.Common.{map, Option, ◌≡◌, ℕ, zero, suc, ◌+◌, ◌-◌, ◌*◌, ◌<◌, ◌≤◌, Bool, cond, List, [], ◌∷◌, length, get_or, true, false, Some, None, nat_le, nat_lt, refl, sym, ap, subst, ◌∙◌, arith, inl, inr, leb-true, leb-false, ltb-true, le-ltb}
use Rattle.std.proofs.lemmas.Bool.{and_parts, and_left, and_right, cases_lt, lt-leb}
use Rattle.std.specs.List.{All, Contains, find}
use Rattle.std.specs.Prelude.{slice_get, option_and_then, IfNone, IfSome}
use Rattle.std.specs.Option.{option_map}
use Rattle.std.proofs.lemmas.Option.{slice_get-map, slice_get-get_or}
use Rattle.std.proofs.lemmas.List.{length-map}
use Rattle.std.specs.List.Sorted.{IsPermutation}
use Rattle.std.proofs.lemmas.List.Sorted.{All-permutation, Contains-permutation}
use Rattle.std.proofs.lemmas.List.Elements.{All-contains}
use Rattle.frame_parse.specs.declared.fde_lookup.CoveredRange.{CoveredRange}
use Rattle.frame_parse.specs.declared.records.CieRecord.{CieRecord}
use Rattle.frame_parse.specs.declared.records.FdeEntry.{FdeEntry}
use Rattle.frame_parse.specs.Entries.{FdeRecord, fde_among}
use Rattle.frame_parse.specs.Sections.{first_cover}
use Rattle.frame_parse.specs.Lookups.{range_of, IsRangeOf, HasRanges, are_apart, holds, entry_covers}

pub few_apart : (rs : List CoveredRange) → length rs < 2 → are_apart rs ≡ true
few_apart [] lt = refl
few_apart (a ∷ []) lt = refl
few_apart (a ∷ b ∷ rs) lt = absurd (omega arith)

-- a range ends before all after it begin
above : (a : CoveredRange) (rs : List CoveredRange) (j : ℕ) (d : CoveredRange) → are_apart (a ∷ rs) ≡ true → j < length rs → a.first + a.range ≤ (get_or rs j d).first
above a [] j d h lt = absurd (omega arith)
above a (b ∷ rs) zero d h lt =
    let parts = and_parts (nat_le (a.first + a.range) b.first) (are_apart (b ∷ rs)) h in
    leb-true _ _ parts.0
above a (b ∷ rs) (suc j) d h lt =
    let parts = and_parts (nat_le (a.first + a.range) b.first) (are_apart (b ∷ rs)) h in
    let far = above b rs j d parts.1 (omega arith) in
    omega (arith, far, leb-true _ _ parts.0)

behind : (a : CoveredRange) (rs : List CoveredRange) → are_apart (a ∷ rs) ≡ true → are_apart rs ≡ true
behind a [] h = refl
behind a (b ∷ rs) h = (and_parts (nat_le (a.first + a.range) b.first) (are_apart (b ∷ rs)) h).1

pub apart : (rs : List CoveredRange) (i j : ℕ) (d : CoveredRange) → are_apart rs ≡ true → i < j → j < length rs → (get_or rs i d).first + (get_or rs i d).range ≤ (get_or rs j d).first
apart [] i j d h lt within = absurd (omega arith)
apart (a ∷ rs) i zero d h lt within = absurd (omega arith)
apart (a ∷ rs) zero (suc j) d h lt within = above a rs j d h (omega arith)
apart (a ∷ rs) (suc i) (suc j) d h lt within = apart rs i j d (behind a rs h) (omega arith) (omega arith)

not_below : (pc : ℕ) (r : CoveredRange) → pc < r.first → holds pc r ≡ false
not_below pc r lt = and_left _ _ (lt-leb r.first pc lt)

not_above : (pc : ℕ) (r : CoveredRange) → r.first + r.range ≤ pc → holds pc r ≡ false
not_above pc r le = and_right _ _ (le-ltb pc (r.first + r.range) le)

pub any_default : (rs : List CoveredRange) (k : ℕ) (c d : CoveredRange) → k < length rs → get_or rs k c ≡ get_or rs k d
any_default [] k c d lt = absurd (omega arith)
any_default (r ∷ rs) zero c d lt = refl
any_default (r ∷ rs) (suc k) c d lt = any_default rs k c d (omega arith)

-- ---- halving

-- no range outside the `size` from `base` on has the address
pub record AreLeft (rs : List CoveredRange) (pc base size : ℕ) : Type 0 where
  pub within : base + size ≤ length rs
  pub below : (k : ℕ) (d : CoveredRange) → k < base → holds pc (get_or rs k d) ≡ false
  pub above : (k : ℕ) (d : CoveredRange) → base + size ≤ k → k < length rs → holds pc (get_or rs k d) ≡ false

pub all_left : (rs : List CoveredRange) (pc : ℕ) → AreLeft rs pc 0 (length rs)
all_left rs pc = record { within = omega arith; below = λ k d lt. absurd (omega arith); above = λ k d le lt. absurd (omega arith) }

-- a range that begins up to the address leaves itself and those after it
upper_left : (rs : List CoveredRange) (pc base size j : ℕ) (d : CoveredRange) → are_apart rs ≡ true → AreLeft rs pc base size → j < size → (get_or rs (base + j) d).first ≤ pc → AreLeft rs pc (base + j) (size - j)
upper_left rs pc base size j d h left lt reached =
    let w = left.within in
    record {
      within = omega (arith, w);
      below = λ k f kl.
          let up = apart rs k (base + j) f h kl (omega (arith, w)) in
          let same = any_default rs (base + j) f d (omega (arith, w)) in
          not_above pc (get_or rs k f) (omega (arith, up, ap (λ (r : CoveredRange). r.first) same, reached));
      above = λ k f ge kl. left.above k f (omega (arith, ge, w)) kl;
    }

-- a range that begins above the address leaves those before it
lower_left : (rs : List CoveredRange) (pc base size j : ℕ) (d : CoveredRange) → are_apart rs ≡ true → AreLeft rs pc base size → j < size → pc < (get_or rs (base + j) d).first → AreLeft rs pc base j
lower_left rs pc base size j d h left lt beyond =
    let w = left.within in
    record {
      within = omega (arith, w);
      below = left.below;
      above = λ k f ge kl.
          elim (cases_lt (base + j) k) [
            | inl past ↦
                let up = apart rs (base + j) k f h past kl in
                let same = any_default rs (base + j) f d (omega (arith, w)) in
                not_below pc (get_or rs k f) (omega (arith, up, ap (λ (r : CoveredRange). r.first) same, beyond))
            | inr here ↦
                let same : k ≡ base + j = omega arith in
                let one = any_default rs k f d kl in
                not_below pc (get_or rs k f) (omega (arith, ap (λ (r : CoveredRange). r.first) (one ∙ ap (λ i. get_or rs i d) same), beyond))
          ];
    }

-- more may be left than need be
wider : (rs : List CoveredRange) (pc base size more : ℕ) → AreLeft rs pc base size → size ≤ more → base + more ≤ length rs → AreLeft rs pc base more
wider rs pc base size more left le within = record { within = within; below = left.below; above = λ k f ge kl. left.above k f (omega arith) kl }

-- ---- a half at a time

halved : (rs : List CoveredRange) (pc base size half : ℕ) (d : CoveredRange) (b : Bool) → are_apart rs ≡ true → AreLeft rs pc base size → half + half ≤ size → half < size
    → nat_le (get_or rs (base + half) d).first pc ≡ b → AreLeft rs pc (base + cond b half 0) (size - half)
halved rs pc base size half d true h left le lt e = upper_left rs pc base size half d h left lt (leb-true _ _ e)
halved rs pc base size half d false h left le lt e =
    let w = left.within in
    let none : base + 0 ≡ base = omega arith in
    let lower = wider rs pc base half (size - half) (lower_left rs pc base size half d h left lt (leb-false _ _ e)) (omega arith) (omega (arith, w)) in
    subst (λ k. AreLeft rs pc k (size - half)) (sym none) lower

-- the upper half is left where the range in the middle begins up to the address, else the lower one
pub half_left : (rs : List CoveredRange) (pc base size half : ℕ) (d : CoveredRange) → are_apart rs ≡ true → AreLeft rs pc base size → half + half ≤ size → half < size
    → AreLeft rs pc (base + cond (nat_le (get_or rs (base + half) d).first pc) half 0) (size - half)
half_left rs pc base size half d h left le lt = halved rs pc base size half d (nat_le (get_or rs (base + half) d).first pc) h left le lt refl

-- ---- a quarter at a time

-- a quarter is left after a range that begins up to the address and before one that doesn't
one_quarter : (rs : List CoveredRange) (pc base size q : ℕ) (d : CoveredRange) → are_apart rs ≡ true → AreLeft rs pc base size → q < size → pc < (get_or rs (base + q) d).first → q ≤ size - q → (more : ℕ) → q ≤ more → more ≤ size → AreLeft rs pc base more
one_quarter rs pc base size q d h left lt beyond few more le within =
    let w = left.within in
    wider rs pc base q more (lower_left rs pc base size q d h left lt beyond) le (omega (arith, w))

-- of two ranges the later one begins above the address where the earlier does
later : (rs : List CoveredRange) (pc i j : ℕ) (d : CoveredRange) → are_apart rs ≡ true → i < j → j < length rs → pc < (get_or rs i d).first → nat_le (get_or rs j d).first pc ≡ true → ⊥
later rs pc i j d h lt within beyond e =
    let up = apart rs i j d h lt within in
    let down = leb-true _ _ e in
    omega (arith, up, down)

quartered : (rs : List CoveredRange) (pc base size q : ℕ) (d : CoveredRange) (x y z : Bool) → are_apart rs ≡ true → AreLeft rs pc base size → 0 < q → 4 * q ≤ size
    → nat_le (get_or rs (base + q) d).first pc ≡ x → nat_le (get_or rs (base + 2 * q) d).first pc ≡ y → nat_le (get_or rs (base + 3 * q) d).first pc ≡ z
    → (k : ℕ) → k ≡ base + (cond x 1 0 + cond y 1 0 + cond z 1 0) * q → AreLeft rs pc k (size - 3 * q)
quartered rs pc base size q d true true true h left some le ex ey ez k is =
    let at : k ≡ base + 3 * q = omega arith in
    subst (λ n. AreLeft rs pc n (size - 3 * q)) (sym at) (upper_left rs pc base size (3 * q) d h left (omega arith) (leb-true _ _ ez))
quartered rs pc base size q d true true false h left some le ex ey ez k is =
    let at : k ≡ base + 2 * q = omega arith in
    let upper = upper_left rs pc base size (2 * q) d h left (omega arith) (leb-true _ _ ey) in
    let place : base + 3 * q ≡ base + 2 * q + q = omega arith in
    let beyond = rw place at (leb-false _ _ ez) in
    subst (λ n. AreLeft rs pc n (size - 3 * q)) (sym at) (one_quarter rs pc (base + 2 * q) (size - 2 * q) q d h upper (omega arith) beyond (omega arith) (size - 3 * q) (omega arith) (omega arith))
quartered rs pc base size q d true false false h left some le ex ey ez k is =
    let at : k ≡ base + q = omega arith in
    let upper = upper_left rs pc base size q d h left (omega arith) (leb-true _ _ ex) in
    let place : base + 2 * q ≡ base + q + q = omega arith in
    let beyond = rw place at (leb-false _ _ ey) in
    subst (λ n. AreLeft rs pc n (size - 3 * q)) (sym at) (one_quarter rs pc (base + q) (size - q) q d h upper (omega arith) beyond (omega arith) (size - 3 * q) (omega arith) (omega arith))
quartered rs pc base size q d false false false h left some le ex ey ez k is =
    let at : k ≡ base = omega arith in
    subst (λ n. AreLeft rs pc n (size - 3 * q)) (sym at) (one_quarter rs pc base size q d h left (omega arith) (leb-false _ _ ex) (omega arith) (size - 3 * q) (omega arith) (omega arith))
quartered rs pc base size q d false true z h left some le ex ey ez k is = absurd (later rs pc (base + q) (base + 2 * q) d h (omega arith) (let w = left.within in omega (arith, w)) (leb-false _ _ ex) ey)
quartered rs pc base size q d false false true h left some le ex ey ez k is = absurd (later rs pc (base + q) (base + 3 * q) d h (omega arith) (let w = left.within in omega (arith, w)) (leb-false _ _ ex) ez)
quartered rs pc base size q d true false true h left some le ex ey ez k is = absurd (later rs pc (base + 2 * q) (base + 3 * q) d h (omega arith) (let w = left.within in omega (arith, w)) (leb-false _ _ ey) ez)

-- of the ranges a quarter apart, as many quarters are passed by as begin up to the address
pub quarter_left : (rs : List CoveredRange) (pc base size q : ℕ) (d : CoveredRange) → are_apart rs ≡ true → AreLeft rs pc base size → 0 < q → 4 * q ≤ size
    → AreLeft rs pc (base + (cond (nat_le (get_or rs (base + q) d).first pc) 1 0 + cond (nat_le (get_or rs (base + 2 * q) d).first pc) 1 0 + cond (nat_le (get_or rs (base + 3 * q) d).first pc) 1 0) * q) (size - 3 * q)
quarter_left rs pc base size q d h left some le =
    quartered rs pc base size q d (nat_le (get_or rs (base + q) d).first pc) (nat_le (get_or rs (base + 2 * q) d).first pc) (nat_le (get_or rs (base + 3 * q) d).first pc) h left some le refl refl refl _ refl

within_both : (pc : ℕ) (a b : CoveredRange) → holds pc a ≡ true → holds pc b ≡ true → a.first + a.range ≤ b.first → ⊥
within_both pc a b ha hb le =
    let pa = and_parts (nat_le a.first pc) (nat_lt pc (a.first + a.range)) ha in
    let pb = and_parts (nat_le b.first pc) (nat_lt pc (b.first + b.range)) hb in
    let up = ltb-true _ _ pa.1 in
    let down = leb-true _ _ pb.0 in
    omega (arith, up, down)

-- of ranges that are apart one at most has an address
one_holds : (rs : List CoveredRange) (pc : ℕ) (a b : CoveredRange) → are_apart rs ≡ true → Contains rs a → Contains rs b → holds pc a ≡ true → holds pc b ≡ true → a ≡ b
one_holds rs pc a b h (i, li, ea) (j, lj, eb) ha hb =
    let ej : get_or rs j a ≡ b = any_default rs j a b lj ∙ eb in
    elim (cases_lt i j) [
      | inl lt ↦ absurd (within_both pc a b ha hb (let up = apart rs i j a h lt lj in rw (ea, ej) at up))
      | inr ge ↦
          elim (cases_lt j i) [
            | inl lt ↦ absurd (within_both pc b a hb ha (let up = apart rs j i a h lt li in rw (ea, ej) at up))
            | inr le ↦ let same : i ≡ j = omega arith in sym ea ∙ ap (λ k. get_or rs k a) same ∙ ej
          ]
    ]

-- ---- the FDEs

find_cover-at : (pc : ℕ) (fs : List FdeEntry) (i : ℕ) (d : FdeEntry) → i < length fs → entry_covers pc (get_or fs i d) ≡ true → ((j : ℕ) → j < i → entry_covers pc (get_or fs j d) ≡ false) → find (entry_covers pc) fs ≡ Some (get_or fs i d)
find_cover-at pc [] i d lt e before = absurd (omega arith)
find_cover-at pc (f ∷ fs) zero d lt e before = rw e refl
find_cover-at pc (f ∷ fs) (suc i) d lt e before =
    let no : entry_covers pc f ≡ false = before 0 (omega arith) in
    rw no (find_cover-at pc fs i d (omega arith) e (λ j h. before (suc j) (omega arith)))

find_cover-none : (pc : ℕ) (fs : List FdeEntry) → ((j : ℕ) (d : FdeEntry) → j < length fs → entry_covers pc (get_or fs j d) ≡ false) → find (entry_covers pc) fs ≡ None
find_cover-none pc [] none = refl
find_cover-none pc (f ∷ fs) none =
    let no : entry_covers pc f ≡ false = none 0 f (omega arith) in
    rw no (find_cover-none pc fs (λ j d h. none (suc j) d (omega arith)))

not_empty : (pc : ℕ) (f : FdeEntry) → entry_covers pc f ≡ true → 0 < f.range
not_empty pc f e =
    let parts = and_parts (nat_le f.first pc) (nat_lt pc (f.first + f.range)) e in
    let low = leb-true _ _ parts.0 in
    let high = ltb-true _ _ parts.1 in
    omega (arith, low, high)

pub permuted : (fs : List FdeEntry) (n : ℕ) (rs moved : List CoveredRange) → HasRanges fs n rs → IsPermutation rs moved → HasRanges fs n moved
permuted fs n rs moved h p = record {
  sound = All-permutation (IsRangeOf fs) rs moved p h.sound;
  whole = λ i d lt within some. Contains-permutation rs moved (range_of i (get_or fs i d)) p (h.whole i d lt within some);
}

pub none_covers : (pc : ℕ) (fs : List FdeEntry) (rs : List CoveredRange) → HasRanges fs (length fs) rs → All (λ r. holds pc r ≡ false) rs → find (entry_covers pc) fs ≡ None
none_covers pc fs rs h none = find_cover-none pc fs (λ j d lt.
    false_from_ne_true (entry_covers pc (get_or fs j d)) (λ e.
    let here = h.whole j d lt lt (not_empty pc (get_or fs j d) e) in
    let not : entry_covers pc (get_or fs j d) ≡ false = All-contains (λ r. holds pc r ≡ false) rs (range_of j (get_or fs j d)) none here in
    let both : true ≡ false = sym e ∙ not in
    absurd cc))

-- the range that has the address is of an FDE, and it is the first one that covers it
pub one_covers : (pc : ℕ) (fs : List FdeEntry) (rs : List CoveredRange) (r : CoveredRange) (d : FdeEntry) → HasRanges fs (length fs) rs → are_apart rs ≡ true → Contains rs r → holds pc r ≡ true
    → (r.fde < length fs) × (find (entry_covers pc) fs ≡ Some (get_or fs r.fde d))
one_covers pc fs rs r d h up here e =
    let of = All-contains (IsRangeOf fs) rs r h.sound here in
    let is = of.1 d in
    let at : entry_covers pc (get_or fs r.fde d) ≡ true = subst (λ x. holds pc x ≡ true) is e in (
      of.0,
      find_cover-at pc fs r.fde d of.0 at (λ j lt.
          false_from_ne_true (entry_covers pc (get_or fs j d)) (λ c.
          let other = h.whole j d (omega arith) (omega arith) (not_empty pc (get_or fs j d) c) in
          let same = one_holds rs pc (range_of j (get_or fs j d)) r up other here c e in
          let number : j ≡ r.fde = ap (λ (x : CoveredRange). x.fde) same in
          omega (arith, number, lt))),
    )

-- ---- by their numbers

no_entry : FdeEntry
no_entry = record { start = 0; cie = 0; first = 0; range = 0; lsda = None; program = record { at = 0; end = 0 } }

-- what the search among ranges that are apart found, is the number of the first cover
abbrev pub IsFound : ℕ → List CoveredRange → Option ℕ → Type 0
IsFound pc rs r = IfNone r (All (λ range. holds pc range ≡ false) rs) × IfSome r (λ fde. (range : CoveredRange) × Contains rs range × (holds pc range ≡ true) × (range.fde ≡ fde))

pub covered : (pc : ℕ) (fs : List FdeEntry) (rs : List CoveredRange) (r : Option ℕ) → HasRanges fs (length fs) rs → are_apart rs ≡ true → IsFound pc rs r
    → (option_and_then (slice_get fs) r ≡ find (entry_covers pc) fs) × IfSome r (λ i. i < length fs)
covered pc fs rs None h up found = (sym (none_covers pc fs rs h found.0), tt)
covered pc fs rs (Some i) h up found =
    let some = found.1 in
    let one = one_covers pc fs rs some.0 no_entry h up some.1 some.2 in
    let lt : i < length fs = omega (arith, one.0, some.3) in
    (slice_get-get_or fs i no_entry lt ∙ ap (λ (k : ℕ). Some (get_or fs k no_entry)) (sym some.3) ∙ sym one.1, lt)

-- ---- with their CIEs

choice-map : (cies : List CieRecord) (b : Bool) (f : FdeEntry) (o : Option FdeEntry) → cond b (Some (fde_among cies f)) (option_map (fde_among cies) o) ≡ option_map (fde_among cies) (cond b (Some f) o)
choice-map cies true f o = refl
choice-map cies false f o = refl

pub first_cover-map : (pc : ℕ) (cies : List CieRecord) (fs : List FdeEntry) → first_cover pc (map (fde_among cies) fs) ≡ option_map (fde_among cies) (find (entry_covers pc) fs)
first_cover-map pc cies [] = refl
first_cover-map pc cies (f ∷ fs) =
    ap (λ (o : Option FdeRecord). cond (entry_covers pc f) (Some (fde_among cies f)) o) (first_cover-map pc cies fs)
    ∙ choice-map cies (entry_covers pc f) f (find (entry_covers pc) fs)

-- the FDE with a number, if there is one
pub number-map : (cies : List CieRecord) (fs : List FdeEntry) (o : Option ℕ)
    → option_and_then (slice_get (map (fde_among cies) fs)) o ≡ option_map (fde_among cies) (option_and_then (slice_get fs) o)
number-map cies fs None = refl
number-map cies fs (Some i) = slice_get-map (fde_among cies) fs i

-- the first cover, by its number
pub cover-map : (pc : ℕ) (cies : List CieRecord) (fs : List FdeEntry) (r : Option ℕ) → option_and_then (slice_get fs) r ≡ find (entry_covers pc) fs
    → option_and_then (slice_get (map (fde_among cies) fs)) r ≡ first_cover pc (map (fde_among cies) fs)
cover-map pc cies fs r e = number-map cies fs r ∙ ap (λ (o : Option FdeEntry). option_map (fde_among cies) o) e ∙ sym (first_cover-map pc cies fs)

pub within-map : (cies : List CieRecord) (fs : List FdeEntry) (r : Option ℕ) → IfSome r (λ i. i < length fs) → IfSome r (λ i. i < length (map (fde_among cies) fs))
within-map cies fs None h = tt
within-map cies fs (Some i) h = omega (arith, h, length-map fs (fde_among cies))
