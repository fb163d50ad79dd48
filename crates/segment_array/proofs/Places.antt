-- A member in its place among others, and others without it.
use Rattle.std.proofs.Common.{◌≡◌, ℕ, zero, suc, ◌+◌, ◌-◌, ◌<◌, ◌≤◌, ◌⊎◌, ◌↔◌, inl, inr, ⊎_elim, List, [], ◌∷◌, ◌++◌, length, take, drop, get_or, Contains, sym, refl, ap, ◌∙◌, subst, arith, ◌==◌, not, true, false, true≢false, Bool, None, IfSome, IsSome, is_some, slice_get, eq-eqb, ne_eqb, if◌then◌else◌, lt_of_not-le, append_assoc, Some, nat_le, ◌&&◌}
use Rattle.std.proofs.lemmas.List.{take-append-drop, take_rest, length-drop}
use Rattle.std.specs.List.{All}
use Rattle.std.proofs.lemmas.List.Elements.{Contains-append_left, Contains-append_right, Contains-append_cases}
use native.Mathlib.Decide.{ℕ_discrete}
use Rattle.std.proofs.lemmas.Bool.{lt-leb}
use Rattle.reg_model.specs.SpanData.{Overlaps, contains}
use Rattle.reg_model.specs.Query.{member_at}
use Rattle.reg_model.specs.State.{IsFree, at_base}
use Rattle.reg_model.specs.History.{without}
use Rattle.reg_model.specs.declared.span.Member.{Member}
use Rattle.reg_model.proofs.Spans.{contains_from}
use Rattle.segment_array.specs.Ascending.{AscendFrom}
use Rattle.segment_array.specs.Placing.{IsPlaceOf, IsWithMember}

-- what holds of all holds of the first, and of the others
all_rest : (P : Member → Type 0) (x : Member) (xs : List Member) → All P (x ∷ xs) → All P xs
all_rest P x xs h k d l = h (suc k) d (omega (arith, l))

-- spans that share no address lie one after the other
apart_after : (x m : Member) → x.span.first ≤ x.span.last → m.span.first ≤ m.span.last → ¬ Overlaps x.span m.span → x.span.first ≤ m.span.first → x.span.last < m.span.first
apart_after x m x_span m_span apart le = lt_of_not-le (λ over. apart (m.span.first, (contains_from x.span m.span.first le over, contains_from m.span m.span.first (omega arith) m_span)))

apart_before : (x m : Member) → x.span.first ≤ x.span.last → m.span.first ≤ m.span.last → ¬ Overlaps x.span m.span → m.span.first < x.span.first → m.span.last < x.span.first
apart_before x m x_span m_span apart less = lt_of_not-le (λ over. apart (x.span.first, (contains_from x.span x.span.first (omega arith) x_span, contains_from m.span x.span.first (omega (arith, less)) over)))

-- a member in its place: they ascend
pub ascend_with : (low k : ℕ) (xs : List Member) (m : Member) → AscendFrom low xs → m.span.first ≤ m.span.last → low ≤ m.span.first → IsFree m.span xs → All (λ x. x.span.first ≤ m.span.first) (take k xs) → IfSome (slice_get xs k) (λ x. m.span.first < x.span.first) → AscendFrom low (take k xs ++ m ∷ drop k xs)
ascend_with low zero [] m h span le free below above = (le, span, tt)
ascend_with low zero (x ∷ xs) m h span le free below above =
    let after = apart_before x m h.1 span (free 0 x (omega arith)) above in (le, span, (omega (arith, after), h.1, h.2))
ascend_with low (suc k) [] m h span le free below above = (le, span, tt)
ascend_with low (suc k) (x ∷ xs) m h span le free below above =
    let before = apart_after x m h.1 span (free 0 x (omega arith)) (below 0 x (omega arith)) in
    (h.0, h.1, ascend_with (x.span.last + 1) k xs m h.2 span (omega (arith, before)) (all_rest (λ z. ¬ Overlaps z.span m.span) x xs free) (all_rest (λ z. z.span.first ≤ m.span.first) x (take k xs) below) above)

-- and are all of them and it
pub contains_with : (front back : List Member) (m x : Member) → Contains (front ++ m ∷ back) x ↔ (Contains (front ++ back) x ⊎ (m ≡ x))
contains_with front back m x = (
  (λ c. ⊎_elim (λ (e : Contains front x). inl (Contains-append_left front back x e)) (λ (e : Contains (m ∷ back) x). behind e) (Contains-append_cases front (m ∷ back) x c)),
  (λ c. ⊎_elim (λ (e : Contains (front ++ back) x). ⊎_elim (λ (f : Contains front x). Contains-append_left front (m ∷ back) x f) (λ (f : Contains back x). Contains-append_right front (m ∷ back) x (suc f.0, (let l = f.1 in omega (arith, l)), f.2)) (Contains-append_cases front back x e))
      (λ (e : m ≡ x). Contains-append_right front (m ∷ back) x (0, omega arith, e)) c),
)
  where
    behind : Contains (m ∷ back) x → Contains (front ++ back) x ⊎ (m ≡ x)
    behind (zero, l, e) = inr e
    behind (suc k, l, e) = inl (Contains-append_right front back x (k, omega (arith, l), e))

pub with_member : (xs : List Member) (m : Member) (k : ℕ) → AscendFrom 0 xs → m.span.first ≤ m.span.last → IsFree m.span xs → IsPlaceOf m.span.first xs k → IsWithMember m xs (take k xs ++ m ∷ drop k xs)
with_member xs m k h span free place = record {
  ascending = ascend_with 0 k xs m h span (omega arith) free place.below place.above;
  kept = λ x. subst (λ z. Contains (take k xs ++ m ∷ drop k xs) x ↔ (Contains z x ⊎ (m ≡ x))) (take-append-drop k xs) (contains_with (take k xs) (drop k xs) m x);
}

-- the same of a list that is known to be another, by the address
pub with_member_at : (xs ys : List Member) (m : Member) (k pc : ℕ) → xs ≡ ys → AscendFrom 0 ys → m.span.first ≤ m.span.last → IsFree m.span ys → IsPlaceOf pc xs k → pc ≡ m.span.first → IsWithMember m xs (take k xs ++ m ∷ drop k xs)
with_member_at xs ys m k pc same h span free place is = with_member xs m k (subst (AscendFrom 0) (sym same) h) span (subst (IsFree m.span) (sym same) free) (subst (λ z. IsPlaceOf z xs k) is place)

-- ---- a full segment

last_of : (ys : List Member) (n : ℕ) (d : Member) → length ys ≡ suc n → ys ≡ take n ys ++ get_or ys n d ∷ []
last_of [] n d e = absurd (omega (arith, e))
last_of (y ∷ []) zero d e = refl
last_of (y ∷ z ∷ ys) zero d e = absurd (omega (arith, e))
last_of (y ∷ ys) (suc n) d e = ap (λ zs. y ∷ zs) (last_of ys n d (omega (arith, e)))

pub dropped_at : (k n : ℕ) (xs : List Member) (d : Member) → get_or (drop k xs) n d ≡ get_or xs (k + n) d
dropped_at zero n xs d = let e : n ≡ zero + n = omega arith in ap (λ i. get_or xs i d) e
dropped_at (suc k) n [] d = refl
dropped_at (suc k) n (x ∷ xs) d = dropped_at k n xs d ∙ (let e : suc (k + n) ≡ suc k + n = omega arith in ap (λ i. get_or (x ∷ xs) i d) e)

-- the greatest of the seventeen stands behind the others
pub full_parts : (xs : List Member) (m : Member) (k n : ℕ) (d : Member) → length xs ≡ suc n → k ≤ n → take k xs ++ m ∷ drop k xs ≡ (take k xs ++ m ∷ take (n - k) (drop k xs)) ++ get_or xs n d ∷ []
full_parts xs m k n d len le =
    let rest : length (drop k xs) ≡ suc (n - k) = length-drop k xs ∙ (omega (arith, len, le)) in
    let e : k + (n - k) ≡ n = omega (arith, le) in
    let cut : drop k xs ≡ take (n - k) (drop k xs) ++ get_or xs n d ∷ [] = last_of (drop k xs) (n - k) d rest ∙ ap (λ z. take (n - k) (drop k xs) ++ z ∷ []) (dropped_at k (n - k) xs d ∙ ap (λ i. get_or xs i d) e) in
    ap (λ z. take k xs ++ m ∷ z) cut ∙ sym (append_assoc (take k xs) (m ∷ take (n - k) (drop k xs)) (get_or xs n d ∷ []))

pub front_ascends : (low : ℕ) (xs ys : List Member) → AscendFrom low (xs ++ ys) → AscendFrom low xs
front_ascends low [] ys h = tt
front_ascends low (x ∷ xs) ys h = (h.0, h.1, front_ascends (x.span.last + 1) xs ys h.2)

-- ---- without a member

pub ascend_lower : (low high : ℕ) (xs : List Member) → low ≤ high → AscendFrom high xs → AscendFrom low xs
ascend_lower low high [] le h = tt
ascend_lower low high (x ∷ xs) le h = let a = h.0 in (omega (arith, a, le), h.1, h.2)

-- a member doesn't contain an address above its last one, nor one below its first
pub unheld_below : (m : Member) (pc : ℕ) → m.span.last < pc → contains m.span pc ≡ false
unheld_below m pc h = go (nat_le m.span.first pc) (lt-leb pc m.span.last h)
  where
    go : (b : Bool) → nat_le pc m.span.last ≡ false → (b && nat_le pc m.span.last) ≡ false
    go true e = e
    go false e = refl

pub unheld_above : (m : Member) (pc : ℕ) → pc < m.span.first → contains m.span pc ≡ false
unheld_above m pc h = ap (λ b. b && nat_le pc m.span.last) (lt-leb m.span.first pc h)

-- nor do members that begin above it
pub none_above : (pc low : ℕ) (es : List Member) → AscendFrom low es → pc < low → member_at pc es ≡ None
none_above pc low [] h l = refl
none_above pc low (m ∷ es) h l =
    let a = h.0 in let b = h.1 in
    ap (λ c. if c then Some m else member_at pc es) (unheld_above m pc (omega (arith, a, l))) ∙ none_above pc (m.span.last + 1) es h.2 (omega (arith, a, b, l))

-- members that begin above a base don't begin at it
none_at : (base low : ℕ) (xs : List Member) → AscendFrom low xs → base < low → at_base base xs ≡ None
none_at base low [] h less = refl
none_at base low (x ∷ xs) h less =
    let a = h.0 in let b = h.1 in rw (ne_eqb x.span.first base (λ e. omega (arith, e, a, less))) (none_at base (x.span.last + 1) xs h.2 (omega (arith, a, b, less)))

kept_above : (base low : ℕ) (xs : List Member) → AscendFrom low xs → base < low → without base xs ≡ xs
kept_above base low [] h less = refl
kept_above base low (x ∷ xs) h less =
    let a = h.0 in let b = h.1 in rw (ne_eqb x.span.first base (λ e. omega (arith, e, a, less))) (ap (λ zs. x ∷ zs) (kept_above base (x.span.last + 1) xs h.2 (omega (arith, a, b, less))))

-- the one that is taken stands before its place
pub parts_without : (base low k : ℕ) (xs : List Member) → AscendFrom low xs → IsSome (at_base base xs) → k ≤ length xs → All (λ x. x.span.first ≤ base) (take k xs) → IfSome (slice_get xs k) (λ x. base < x.span.first) → (j : ℕ) × ((k ≡ suc j) × (without base xs ≡ take j xs ++ drop (suc j) xs))
parts_without base low k [] h held inside below above = absurd (true≢false (sym held))
parts_without base low zero (x ∷ xs) h held inside below above =
    let b = h.1 in
    let none : at_base base (x ∷ xs) ≡ None = rw (ne_eqb x.span.first base (λ e. omega (arith, e, above))) (none_at base (x.span.last + 1) xs h.2 (omega (arith, above, b))) in
    absurd (true≢false (sym held ∙ ap is_some none))
parts_without base low (suc k) (x ∷ xs) h held inside below above = go (ℕ_discrete x.span.first base) (parts_without base (x.span.last + 1) k xs h.2)
  where
    only : (n : ℕ) (ys : List Member) → x.span.first ≡ base → AscendFrom (x.span.last + 1) ys → n ≤ length ys → All (λ z. z.span.first ≤ base) (take n ys) → n ≡ 0
    only zero ys e a i f = refl
    only (suc n) [] e a i f = absurd (omega (arith, i))
    only (suc n) (y ∷ ys) e a i f = let p = f 0 y (omega arith) in let q = a.0 in let b = h.1 in absurd (omega (arith, p, q, b, e))

    go : Dec (x.span.first ≡ base) → (IsSome (at_base base xs) → k ≤ length xs → All (λ z. z.span.first ≤ base) (take k xs) → IfSome (slice_get xs k) (λ z. base < z.span.first) → (j : ℕ) × ((k ≡ suc j) × (without base xs ≡ take j xs ++ drop (suc j) xs)))
        → (j : ℕ) × ((suc k ≡ suc j) × (without base (x ∷ xs) ≡ take j (x ∷ xs) ++ drop (suc j) (x ∷ xs)))
    go (yes e) rest =
        let b = h.1 in
        let z = only k xs e h.2 (omega (arith, inside)) (all_rest (λ y. y.span.first ≤ base) x (take k xs) below) in
        (0, (ap suc z, rw (eq-eqb x.span.first base e) (kept_above base (x.span.last + 1) xs h.2 (omega (arith, b, e)))))
    go (no ne) rest =
        let found : IsSome (at_base base xs) = rw (ne_eqb x.span.first base ne) at held in
        let r = rest found (omega (arith, inside)) (all_rest (λ y. y.span.first ≤ base) x (take k xs) below) above in
        (suc r.0, (ap suc r.1.0, rw (ne_eqb x.span.first base ne) (ap (λ zs. x ∷ zs) r.1.1)))

pub ascend_without : (base low : ℕ) (xs ys : List Member) → AscendFrom low (xs ++ ys) → AscendFrom low (without base xs ++ ys)
ascend_without base low [] ys h = h
ascend_without base low (x ∷ xs) ys h = go (x.span.first == base) (ascend_without base (x.span.last + 1) xs ys h.2)
  where
    go : (b : Bool) → AscendFrom (x.span.last + 1) (without base xs ++ ys) → AscendFrom low ((if not b then (x ∷ without base xs) else without base xs) ++ ys)
    go true rest = let a = h.0 in let b = h.1 in ascend_lower low (x.span.last + 1) (without base xs ++ ys) (omega (arith, a, b)) rest
    go false rest = (h.0, h.1, rest)

-- the members before and behind the one that is taken
pub is_without : (base k : ℕ) (xs : List Member) → AscendFrom 0 xs → IsSome (at_base base xs) → IsPlaceOf base xs k → take (k - 1) xs ++ take (length xs - (k - 1 + 1)) (drop (k - 1 + 1) xs) ≡ without base xs
is_without base k xs h held place =
    let w = parts_without base 0 k xs h held place.inside place.below place.above in
    let e = w.1.0 in
    let before : k - 1 ≡ w.0 = omega (arith, e) in
    let behind : k - 1 + 1 ≡ suc w.0 = omega (arith, e) in
    rw (behind, take_rest, before) (sym w.1.1)
