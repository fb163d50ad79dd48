-- The lowest of members that overlap a span, where the members ascend.
use Rattle.std.proofs.Common.{◌≡◌, ℕ, zero, suc, ◌+◌, ◌-◌, ◌<◌, ◌≤◌, ◌⊎◌, inl, inr, ⊎_elim, List, [], ◌∷◌, ◌++◌, length, take, drop, get_or, Contains, sym, refl, ap, ◌∙◌, subst, arith, Option, Some, None, IfSome, lt_of_not-le}
use Rattle.std.specs.List.{All, AllByRecursion}
use Rattle.std.proofs.lemmas.List.{take-append-drop}
use Rattle.std.proofs.lemmas.List.Elements.{All-append, Contains-get_or}
use native.Mathlib.Decide.{ℕ_discrete, dec_le}
use Rattle.reg_model.specs.SpanData.{SpanData, Overlaps}
use Rattle.reg_model.specs.State.{IsFree, IsLowestOverlap}
use Rattle.reg_model.specs.declared.span.Member.{Member}
use Rattle.reg_model.proofs.Spans.{contains_from, overlap_bounds}
use Rattle.reg_model.proofs.Members.{taken_from, passed_over_all}
use Rattle.segment_array.specs.Ascending.{AscendFrom}
use Rattle.array_publish.proofs.Changed.{all_above, all_below, all_from, all_to, by_index, stands_at}
use Rattle.word_rule.specs.Copies.{ListsMembers, StandFrom}
use Rattle.array_publish.specs.Holders.{member_in}
use Rattle.array_publish.specs.Writing.{EndsBelow, EndsFrom}

pub overlap_of : (a b : SpanData) → a.first ≤ a.last → b.first ≤ b.last → a.first ≤ b.last → b.first ≤ a.last → Overlaps a b
overlap_of a b a_span b_span a_begins b_begins = go (dec_le a.first b.first)
  where
    go : Dec (a.first ≤ b.first) → Overlaps a b
    go (yes le) = (b.first, (contains_from a b.first le b_begins, contains_from b b.first (omega arith) b_span))
    go (no more) = let less = lt_of_not-le more in (a.first, (contains_from a a.first (omega arith) a_span, contains_from b a.first (omega (arith, less)) a_begins))

-- those from a member on begin at or above it
pub all_at : (low k : ℕ) (xs : List Member) (d : Member) → AscendFrom low xs → AllByRecursion (λ x. (get_or xs k d).span.first ≤ x.span.first) (drop k xs)
all_at low zero [] d h = tt
all_at low zero (x ∷ xs) d h = (omega arith, all_to (λ y. x.span.last < y.span.first) (λ y. x.span.first ≤ y.span.first) (λ y l. let o = h.1 in omega (arith, o, l)) xs (all_from (x.span.last + 1) x.span.last xs h.2 (omega arith)))
all_at low (suc k) [] d h = tt
all_at low (suc k) (x ∷ xs) d h = all_at (x.span.last + 1) k xs d h.2

-- where those before it don't overlap, the first that does is the lowest
pub first_lowest : (xs : List Member) (i : ℕ) (x : Member) (span : SpanData) → AscendFrom 0 xs → i < length xs → x ≡ get_or xs i x → IsFree span (take i xs) → Overlaps x.span span → IsLowestOverlap span xs x
first_lowest xs i x span h inside is free over = record {
  listed = subst (Contains xs) (sym is) (Contains-get_or xs i x inside);
  overlaps = over;
  lowest = subst (All (λ z. Overlaps z.span span → x.span.first ≤ z.span.first)) (take-append-drop i xs)
      (All-append (λ z. Overlaps z.span span → x.span.first ≤ z.span.first) (take i xs) (drop i xs)
      (λ k d l meets. absurd (free k d l meets))
      (by_index (λ z. Overlaps z.span span → x.span.first ≤ z.span.first) (drop i xs) (all_to (λ z. (get_or xs i x).span.first ≤ z.span.first) (λ z. Overlaps z.span span → x.span.first ≤ z.span.first) (λ z l _. let e = ap (λ m. m.span.first) is in omega (arith, e, l)) (drop i xs) (all_at 0 i xs x h))));
}

-- those before a place end below the span
pub free_front : (xs : List Member) (k : ℕ) (span : SpanData) (d : Member) → AscendFrom 0 xs → k ≤ length xs → (k ≡ 0) ⊎ ((get_or xs (k - 1) d).span.last < span.first) → IsFree span (take k xs)
free_front xs k span d h le end = by_index (λ x. ¬ Overlaps x.span span) (take k xs) (all_to (λ x. (x.span.first ≤ x.span.last) × (x.span.last < span.first)) (λ x. ¬ Overlaps x.span span) (λ x l over. let b = overlap_bounds x.span span over in let c = b.1 in let e = l.1 in omega (arith, c, e)) (take k xs) (all_below 0 k span.first xs d h le end))

-- of the fixed and the listed ones
pub both_lowest : (span : SpanData) (fixed xs : List Member) (m low : Member) → IsLowestOverlap span xs m → IsLowestOverlap span fixed low → m.span.first < low.span.first → IsLowestOverlap span (fixed ++ xs) m
both_lowest span fixed xs m low h f less = taken_from span fixed xs (Some low) m f h less

pub only_listed : (span : SpanData) (fixed xs : List Member) (m : Member) → IsLowestOverlap span xs m → IsFree span fixed → IsLowestOverlap span (fixed ++ xs) m
only_listed span fixed xs m h free = taken_from span fixed xs None m free h tt

pub fixed_lower : (span : SpanData) (fixed xs : List Member) (m low : Member) → IsLowestOverlap span xs m → IsLowestOverlap span fixed low → ¬ (m.span.first < low.span.first) → IsLowestOverlap span (fixed ++ xs) low
fixed_lower span fixed xs m low h f not_less = passed_over_all span fixed xs (Some low) (Some m) f h not_less

pub only_fixed : (span : SpanData) (fixed xs : List Member) (low : Member) → IsFree span xs → IsLowestOverlap span fixed low → IsLowestOverlap span (fixed ++ xs) low
only_fixed span fixed xs low free f = passed_over_all span fixed xs (Some low) None f free tt

-- no member overlaps a span between two, or at an end
pub free_split : (xs : List Member) (k : ℕ) (span : SpanData) (d : Member) → AscendFrom 0 xs → k ≤ length xs → (k ≡ 0) ⊎ ((get_or xs (k - 1) d).span.last < span.first) → (k ≡ length xs) ⊎ (span.last < (get_or xs k d).span.first) → IsFree span xs
free_split xs k span d h le end begin =
    let back = by_index (λ x. ¬ Overlaps x.span span) (drop k xs) (all_to (λ x. span.last < x.span.first) (λ x. ¬ Overlaps x.span span) (λ x l over. let b = overlap_bounds x.span span over in let c = b.0 in omega (arith, c, l)) (drop k xs) (all_above 0 k span.last xs d h begin)) in
    subst (IsFree span) (take-append-drop k xs) (All-append (λ x. ¬ Overlaps x.span span) (take k xs) (drop k xs) (free_front xs k span d h le end) back)

-- the lowest of the fixed ones, if one overlaps, where no listed one does
pub fixed_or_none : (span : SpanData) (fixed xs : List Member) (o : Option Member) → IfSome o (IsLowestOverlap span fixed) → IsFree span xs → IfSome o (IsLowestOverlap span (fixed ++ xs))
fixed_or_none span fixed xs None h free = tt
fixed_or_none span fixed xs (Some low) h free = only_fixed span fixed xs low free h

-- what the words of a copy say of ends, its members do
pub ends_listed : (active : List ℕ) (xs : List Member) (a k : ℕ) (d : Member) → StandFrom active 0 xs → k ≤ length xs → EndsBelow active a k → (k ≡ 0) ⊎ ((get_or xs (k - 1) d).span.last < a)
ends_listed active xs a zero d h le e = inl refl
ends_listed active xs a (suc k) d h le e = ⊎_elim (λ (z : suc k ≡ 0). absurd (omega (arith, z))) (λ (l : (member_in active (suc k - 1)).span.last < a).
    let i : ℕ = suc k - 1 in
    let same : member_in active i ≡ get_or xs i d = (let f : i ≡ 0 + i = omega arith in ap (member_in active) f) ∙ stands_at active 0 i xs d h (omega (arith, le)) in
    inr (subst (λ (m : Member). m.span.last < a) same l)) e

pub from_listed : (active : List ℕ) (xs : List Member) (a n k : ℕ) (d : Member) → StandFrom active 0 xs → n ≡ length xs → k < n → EndsFrom active a n k → a ≤ (get_or xs k d).span.last
from_listed active xs a n k d h len less e = ⊎_elim (λ (z : k ≡ n). absurd (omega (arith, z, less))) (λ (l : a ≤ (member_in active k).span.last).
    let same : member_in active k ≡ get_or xs k d = (let f : k ≡ 0 + k = omega arith in ap (member_in active) f) ∙ stands_at active 0 k xs d h (omega (arith, less, len)) in
    subst (λ (m : Member). a ≤ m.span.last) same l) e

pub listed_is : (active : List ℕ) (xs : List Member) (k : ℕ) (d : Member) → StandFrom active 0 xs → k < length xs → member_in active k ≡ get_or xs k d
listed_is active xs k d h less = (let f : k ≡ 0 + k = omega arith in ap (member_in active) f) ∙ stands_at active 0 k xs d h less

-- the listed member at a place overlaps, and is the lowest of them
pub listed_lowest : (active : List ℕ) (xs : List Member) (n k : ℕ) (x : Member) (span : SpanData) → ListsMembers active xs → n ≡ length xs → k < n → EndsBelow active span.first k → EndsFrom active span.first n k → x ≡ member_in active k → span.first ≤ span.last → x.span.first ≤ x.span.last → x.span.first ≤ span.last → IsLowestOverlap span xs x
listed_lowest active xs n k x span lists len less below above is span_ok x_ok begins =
    let here : x ≡ get_or xs k x = is ∙ listed_is active xs k x lists.stand (omega (arith, less, len)) in
    let ends = from_listed active xs span.first n k x lists.stand len less above in
    let end = subst (λ (m : Member). span.first ≤ m.span.last) (sym here) ends in
    first_lowest xs k x span lists.ascending (omega (arith, less, len)) here (free_front xs k span x lists.ascending (omega (arith, less, len)) (ends_listed active xs span.first k x lists.stand (omega (arith, less, len)) below))
    (overlap_of x.span span x_ok span_ok begins end)

-- ---- a search by halves

-- the members before the i-th end below an address, and those from it on don't
abbrev pub EndBelow : List Member → ℕ → ℕ → Type 0
EndBelow xs a i = (i ≡ 0) ⊎ ((x : Member) × ((x ≡ get_or xs (i - 1) x) × (x.span.last < a)))

abbrev pub EndAbove : List Member → ℕ → ℕ → Type 0
EndAbove xs a i = (i ≡ length xs) ⊎ ((d : Member) → a ≤ (get_or xs i d).span.last)

same_there : (xs : List Member) (i : ℕ) (d e : Member) → i < length xs → get_or xs i d ≡ get_or xs i e
same_there [] i d e less = absurd (omega (arith, less))
same_there (x ∷ xs) zero d e less = refl
same_there (x ∷ xs) (suc i) d e less = same_there xs i d e (omega (arith, less))

ordered_at : (low : ℕ) (xs : List Member) (i : ℕ) (d : Member) → AscendFrom low xs → i < length xs → (get_or xs i d).span.first ≤ (get_or xs i d).span.last
ordered_at low [] i d h less = absurd (omega (arith, less))
ordered_at low (x ∷ xs) zero d h less = h.1
ordered_at low (x ∷ xs) (suc i) d h less = ordered_at (x.span.last + 1) xs i d h.2 (omega (arith, less))

pub end_below : (xs : List Member) (a i : ℕ) (x : Member) → x ≡ get_or xs i x → x.span.last < a → EndBelow xs a (i + 1)
end_below xs a i x is less = let before : i ≡ i + 1 - 1 = omega arith in inr (x, (subst (λ j. x ≡ get_or xs j x) before is, less))

pub end_above : (xs : List Member) (a i : ℕ) (x : Member) → x ≡ get_or xs i x → i < length xs → a ≤ x.span.last → EndAbove xs a i
end_above xs a i x is inside le = inr (λ d. subst (λ (m : Member). a ≤ m.span.last) (is ∙ same_there xs i x d inside) le)

-- the one before, where there is one, ends below
before_ends : (xs : List Member) (a i : ℕ) (d : Member) → i ≤ length xs → EndBelow xs a i → (i ≡ 0) ⊎ ((get_or xs (i - 1) d).span.last < a)
before_ends xs a i d le below = go (ℕ_discrete i 0)
  where
    go : Dec (i ≡ 0) → (i ≡ 0) ⊎ ((get_or xs (i - 1) d).span.last < a)
    go (yes e) = inl e
    go (no ne) = ⊎_elim (λ (z : i ≡ 0). inl z) (λ (z : (x : Member) × ((x ≡ get_or xs (i - 1) x) × (x.span.last < a))). inr (subst (λ (m : Member). m.span.last < a) (z.1.0 ∙ same_there xs (i - 1) z.0 d (omega (arith, ne, le))) z.1.1)) below

some_member : Member
some_member = record { span = record { first = 0; last = 0 }; payload = 0 }

-- none is left: all end below
pub none_left : (xs : List Member) (span : SpanData) (i : ℕ) → AscendFrom 0 xs → EndBelow xs span.first i → i ≡ length xs → IsFree span xs
none_left xs span i h below end = free_split xs i span some_member h (omega (arith, end)) (before_ends xs span.first i some_member (omega (arith, end)) below) (inl end)

-- the first that doesn't end below overlaps, or none does
pub first_at : (xs : List Member) (span : SpanData) (i : ℕ) (x : Member) → AscendFrom 0 xs → EndBelow xs span.first i → i < length xs → x ≡ get_or xs i x → Overlaps x.span span → IsLowestOverlap span xs x
first_at xs span i x h below inside is meets = first_lowest xs i x span h inside is (free_front xs i span x h (omega (arith, inside)) (before_ends xs span.first i x (omega (arith, inside)) below)) meets

pub none_at : (xs : List Member) (span : SpanData) (i : ℕ) (x : Member) → AscendFrom 0 xs → EndBelow xs span.first i → EndAbove xs span.first i → i < length xs → x ≡ get_or xs i x → span.first ≤ span.last → ¬ Overlaps x.span span → IsFree span xs
none_at xs span i x h below above inside is span_ok apart = free_split xs i span x h (omega (arith, inside)) (before_ends xs span.first i x (omega (arith, inside)) below) (begin (dec_le x.span.first span.last))
  where
    end : span.first ≤ x.span.last
    end = ⊎_elim (λ (z : i ≡ length xs). absurd (omega (arith, z, inside))) (λ (f : (d : Member) → span.first ≤ (get_or xs i d).span.last). subst (λ (m : Member). span.first ≤ m.span.last) (sym is) (f x)) above

    x_ok : x.span.first ≤ x.span.last
    x_ok = subst (λ (m : Member). m.span.first ≤ m.span.last) (sym is) (ordered_at 0 xs i x h inside)

    begin : Dec (x.span.first ≤ span.last) → (i ≡ length xs) ⊎ (span.last < (get_or xs i x).span.first)
    begin (yes le) = absurd (apart (overlap_of x.span span x_ok span_ok le end))
    begin (no more) = let less = lt_of_not-le more in inr (subst (λ (m : Member). span.last < m.span.first) is less)
