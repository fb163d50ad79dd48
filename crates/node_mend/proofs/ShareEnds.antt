-- Even shares of two neighbours of which one is small: how much each gets, and that the fence between
-- them is another.
use Rattle.std.proofs.Common.{ℕ, ◌+◌, ◌/◌, ◌≡◌, ◌<◌, ◌⊎◌, inl, inr, true, arith, length, ◌||◌, IsTrue, List, ◌++◌, length-append, length-take-le, length-drop, take, drop, ◌≢◌, zero, suc, [], ◌∷◌, sym, subst}
use Rattle.std.proofs.lemmas.Bool.{ltb-true, or_cases}
use Rattle.std.specs.Prelude.{nat_lt}
use Rattle.reg_model.specs.declared.span.Member.{Member}
use Rattle.tree_shape.specs.Changes.{size, OverfillAs, both, first_part, last_part, entries_end, pairs_end, body_end}
use Rattle.tree_shape.specs.NodeData.{Body, Pairs, Entries, Link, EntriesWithin, Cut, NodeData}
use Rattle.tree_shape.specs.declared.pair.Pair.{Pair}
use Rattle.tree_shape.proofs.Slots.{some_left}
use Rattle.tree_laws.specs.Lawful.{IsOrderedAs}
use Rattle.node_store.specs.Writing.{kind_of_body}
use Rattle.tree_descent.specs.Removing.{IsSpareAs}
use Rattle.node_mend.specs.Siblings.{is_small_body}

abbrev pub half_of : Body → Body → ℕ
half_of a b = (size a + size b) / 2

one_less : (a b least : ℕ) → (nat_lt a least ≡ true) ⊎ (nat_lt b least ≡ true) → (a < least) ⊎ (b < least)
one_less a b least (inl e) = inl (ltb-true a least e)
one_less a b least (inr e) = inr (ltb-true b least e)

-- where one of two is small, the left one's half is more or less than it has
moves : (la lb most least : ℕ) → most < la + lb → least + least < most + 2 → (la < least) ⊎ (lb < least) → ((la + lb) / 2 < la) ⊎ (la < (la + lb) / 2)
moves la lb most least over few (inl small) = inr (omega (arith, over, few, small))
moves la lb most least over few (inr small) = inl (omega (arith, over, few, small))

pub share_moves : (a b : Body) → OverfillAs a b → IsTrue (is_small_body a || is_small_body b) → (half_of a b < size a) ⊎ (size a < half_of a b)
share_moves (Pairs left) (Pairs right) over small = moves (length left) (length right) 15 7 over (omega arith) (one_less (length left) (length right) 7 (or_cases _ _ small))
share_moves (Pairs left) (Entries right) over small = absurd over
share_moves (Pairs left) (Link next) over small = absurd over
share_moves (Entries left) (Pairs right) over small = absurd over
share_moves (Entries left) (Entries right) over small = moves (length left) (length right) 10 5 over (omega arith) (one_less (length left) (length right) 5 (or_cases _ _ small))
share_moves (Entries left) (Link next) over small = absurd over
share_moves (Link next) b over small = absurd over

half_sizes : {A : Type 0} (left right : List A) → (length (take ((length left + length right) / 2) (left ++ right)) ≡ (length left + length right) / 2) × (length (drop ((length left + length right) / 2) (left ++ right)) + (length left + length right) / 2 ≡ length left + length right)
half_sizes left right =
    let len = length-append left right in
    let first = length-take-le ((length left + length right) / 2) (left ++ right) (omega (arith, len)) in
    let last = length-drop ((length left + length right) / 2) (left ++ right) in
    (first, omega (arith, last, len))

-- the sizes of the shares
pub share_sizes : (a b : Body) → OverfillAs a b → (size (first_part (half_of a b) (both a b)) ≡ half_of a b) × (size (last_part (half_of a b) (both a b)) + half_of a b ≡ size a + size b)
share_sizes (Pairs left) (Pairs right) over = half_sizes left right
share_sizes (Pairs left) (Entries right) over = absurd over
share_sizes (Pairs left) (Link next) over = absurd over
share_sizes (Entries left) (Pairs right) over = absurd over
share_sizes (Entries left) (Entries right) over = half_sizes left right
share_sizes (Entries left) (Link next) over = absurd over
share_sizes (Link next) b over = absurd over

-- each share has more than the fewest, and is no free node
pub share_spares : (a b : Body) → OverfillAs a b → IsSpareAs (first_part (half_of a b) (both a b)) × IsSpareAs (last_part (half_of a b) (both a b))
share_spares (Pairs left) (Pairs right) over = let s = share_sizes (Pairs left) (Pairs right) over in let p = s.0 in let q = s.1 in (omega (arith, p, over), omega (arith, q, over))
share_spares (Pairs left) (Entries right) over = absurd over
share_spares (Pairs left) (Link next) over = absurd over
share_spares (Entries left) (Pairs right) over = absurd over
share_spares (Entries left) (Entries right) over = let s = share_sizes (Entries left) (Entries right) over in let p = s.0 in let q = s.1 in (omega (arith, p, over), omega (arith, q, over))
share_spares (Entries left) (Link next) over = absurd over
share_spares (Link next) b over = absurd over

pub share_kinds : (a b : Body) → OverfillAs a b → (kind_of_body (first_part (half_of a b) (both a b)) ≢ 2) × (kind_of_body (last_part (half_of a b) (both a b)) ≢ 2)
share_kinds (Pairs left) (Pairs right) over = ((λ e. omega (arith, e)), (λ e. omega (arith, e)))
share_kinds (Pairs left) (Entries right) over = absurd over
share_kinds (Pairs left) (Link next) over = absurd over
share_kinds (Entries left) (Pairs right) over = absurd over
share_kinds (Entries left) (Entries right) over = ((λ e. omega (arith, e)), (λ e. omega (arith, e)))
share_kinds (Entries left) (Link next) over = absurd over
share_kinds (Link next) b over = absurd over

-- Where lists end, of which the later one lies above a bound and the earlier one below it.
entries_over : (bound start high low m : ℕ) (es : List Member) → bound < start → bound < low → EntriesWithin low high es → bound < entries_end start (take m es)
entries_over bound start high low zero es above up h = above
entries_over bound start high low (suc m) [] above up h = above
entries_over bound start high low (suc m) (e ∷ es) above up h = let a = h.0.0 in let b = h.0.1 in entries_over bound e.span.last high (e.span.last + 1) m es (omega (arith, up, a, b)) (omega (arith, up, a, b)) (h.0.2, h.1.1)

entries_above : (bound start high m : ℕ) (xs ys : List Member) → length xs < m → 0 < length ys → EntriesWithin (bound + 1) high ys → bound < entries_end start (take m (xs ++ ys))
entries_above bound start high zero xs ys more some h = absurd (omega (arith, more))
entries_above bound start high (suc m) [] [] more some h = absurd (omega (arith, some))
entries_above bound start high (suc m) [] (b ∷ bs) more some h = let x = h.0.0 in let y = h.0.1 in entries_over bound b.span.last high (b.span.last + 1) m bs (omega (arith, x, y)) (omega (arith, x, y)) (h.0.2, h.1.1)
entries_above bound start high (suc m) (a ∷ xs) ys more some h = entries_above bound a.span.last high m xs ys (omega (arith, more)) some h

entries_below : (bound start low m : ℕ) (xs ys : List Member) → m < length xs → EntriesWithin low bound xs → start < low → entries_end start (take m (xs ++ ys)) < bound
entries_below bound start low m [] ys less h under = absurd (omega (arith, less))
entries_below bound start low zero (a ∷ xs) ys less h under = let x = h.0.0 in let y = h.0.1 in let z = h.1.0 in omega (arith, under, x, y, z)
entries_below bound start low (suc m) (a ∷ xs) ys less h under = entries_below bound a.span.last (a.span.last + 1) m xs ys (omega (arith, less)) (h.0.2, h.1.1) (omega arith)

pairs_over : (bound start high low m : ℕ) (ps : List Pair) → bound < start → bound < low → Cut low high ps → bound < pairs_end start (take m ps)
pairs_over bound start high low zero ps above up h = above
pairs_over bound start high low (suc m) [] above up h = above
pairs_over bound start high low (suc m) (p ∷ ps) above up h = let a = h.0 in pairs_over bound p.separator high (p.separator + 1) m ps (omega (arith, up, a)) (omega (arith, up, a)) h.1

pairs_above : (bound start high m : ℕ) (xs ys : List Pair) → length xs < m → 0 < length ys → Cut (bound + 1) high ys → bound < pairs_end start (take m (xs ++ ys))
pairs_above bound start high zero xs ys more some h = absurd (omega (arith, more))
pairs_above bound start high (suc m) [] [] more some h = absurd (omega (arith, some))
pairs_above bound start high (suc m) [] (b ∷ bs) more some h = let x = h.0 in pairs_over bound b.separator high (b.separator + 1) m bs (omega (arith, x)) (omega (arith, x)) h.1
pairs_above bound start high (suc m) (a ∷ xs) ys more some h = pairs_above bound a.separator high m xs ys (omega (arith, more)) some h

pairs_below : (high start low m : ℕ) (xs ys : List Pair) → m < length xs → Cut low high xs → start < low → pairs_end start (take m (xs ++ ys)) < high
pairs_below high start low m [] ys less h under = absurd (omega (arith, less))
pairs_below high start low zero (a ∷ xs) ys less h under = let l = some_left low high (a ∷ xs) h (omega arith) in omega (arith, l, under)
pairs_below high start low (suc m) (a ∷ xs) ys less h under = pairs_below high a.separator (a.separator + 1) m xs ys (omega (arith, less)) h.1 (omega arith)

-- the first of a part that isn't all of the left one
pairs_less : (high low m : ℕ) (xs ys : List Pair) → 0 < m → m < length xs → Cut low high xs → pairs_end 0 (take m (xs ++ ys)) < high
pairs_less high low zero xs ys some less h = absurd (omega (arith, some))
pairs_less high low (suc m) [] ys some less h = absurd (omega (arith, less))
pairs_less high low (suc m) (a ∷ xs) ys some less h = pairs_below high a.separator (a.separator + 1) m xs ys (omega (arith, less)) h.1 (omega arith)

entries_less : (bound low m : ℕ) (xs ys : List Member) → 0 < m → m < length xs → EntriesWithin low bound xs → entries_end 0 (take m (xs ++ ys)) < bound
entries_less bound low zero xs ys some less h = absurd (omega (arith, some))
entries_less bound low (suc m) [] ys some less h = absurd (omega (arith, less))
entries_less bound low (suc m) (a ∷ xs) ys some less h = entries_below bound a.span.last (a.span.last + 1) m xs ys (omega (arith, less)) (h.0.2, h.1.1) (omega arith)

-- so the fence between even shares isn't the old one
pub fence_moves : (s u : NodeData) (a b : Body) → IsOrderedAs s a → IsOrderedAs u b → s.high + 1 ≡ u.low → OverfillAs a b → (half_of a b < size a) ⊎ (size a < half_of a b) → body_end (first_part (half_of a b) (both a b)) ≢ s.high
fence_moves s u (Pairs left) (Pairs right) os ou next over (inl less) = λ e. (let l = pairs_less s.high s.low ((length left + length right) / 2) left right (omega (arith, over)) less os.1 in omega (arith, l, e))
fence_moves s u (Pairs left) (Pairs right) os ou next over (inr more) = λ e. (let l = pairs_above s.high 0 u.high ((length left + length right) / 2) left right more (omega (arith, over, more)) (subst (λ k. Cut k u.high right) (sym next) ou.1) in omega (arith, l, e))
fence_moves s u (Pairs left) (Entries right) os ou next over moved = absurd over
fence_moves s u (Pairs left) (Link k) os ou next over moved = absurd over
fence_moves s u (Entries left) (Pairs right) os ou next over moved = absurd over
fence_moves s u (Entries left) (Entries right) os ou next over (inl less) = λ e. (let l = entries_less s.high s.low ((length left + length right) / 2) left right (omega (arith, over)) less os.1 in omega (arith, l, e))
fence_moves s u (Entries left) (Entries right) os ou next over (inr more) = λ e. (let l = entries_above s.high 0 u.high ((length left + length right) / 2) left right more (omega (arith, over, more)) (subst (λ k. EntriesWithin k u.high right) (sym next) ou.1) in omega (arith, l, e))
fence_moves s u (Entries left) (Link k) os ou next over moved = absurd over
fence_moves s u (Link k) b os ou next over moved = absurd over
