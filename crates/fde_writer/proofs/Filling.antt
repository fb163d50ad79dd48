-- Room that is filled from a list, as far as it goes.
use Rattle.std.proofs.Common.{◌≡◌, ◌++◌, ◌∷◌, [], ◌+◌, ◌<◌, ℕ, zero, suc, List, drop, length, set, take, refl, sym, ◌∙◌, subst, ap, arith}
use Rattle.std.specs.Map.{keys_of}
use Rattle.std.proofs.lemmas.List.{length-map}

-- the first of a list in the room for them
abbrev pub filled : List ℕ → List ℕ → List ℕ
filled room xs = take (length room) xs ++ drop (length xs) room

-- one more is in its place
next_in_place : (room xs : List ℕ) (n x : ℕ) → n < length room → take (suc n) (set room n x) ++ filled (drop (suc n) (set room n x)) xs ≡ take n room ++ filled (drop n room) (x ∷ xs)
next_in_place [] xs n x within = absurd (omega (arith, within))
next_in_place (y ∷ room) xs zero x within = refl
next_in_place (y ∷ room) xs (suc n) x within = ap (λ zs. y ∷ zs) (next_in_place room xs n x (omega (arith, within)))

pub one_more : (room xs : List ℕ) (n x : ℕ) → n < length room → take (n + 1) (set room n x) ++ filled (drop (n + 1) (set room n x)) xs ≡ take n room ++ filled (drop n room) (x ∷ xs)
one_more room xs n x within =
    let next : suc n ≡ n + 1 = omega arith in
    subst (λ k. take k (set room n x) ++ filled (drop k (set room n x)) xs ≡ take n room ++ filled (drop n room) (x ∷ xs)) next (next_in_place room xs n x within)

-- where it is full, it stays
full : (room xs : List ℕ) → take (length room) room ++ filled (drop (length room) room) xs ≡ room
full [] [] = refl
full [] (x ∷ xs) = refl
full (y ∷ room) xs = ap (λ zs. y ∷ zs) (full room xs)

pub stays_full : (room xs whole : List ℕ) (n : ℕ) → n ≡ length room → take n room ++ filled (drop n room) xs ≡ whole → room ≡ whole
stays_full room xs whole n at is = sym (full room xs) ∙ subst (λ k. take k room ++ filled (drop k room) xs ≡ whole) at is

-- where nothing is left, the rest of it stays
stays : (room : List ℕ) (n : ℕ) → take n room ++ filled (drop n room) [] ≡ room
stays [] zero = refl
stays [] (suc n) = refl
stays (y ∷ room) zero = refl
stays (y ∷ room) (suc n) = ap (λ zs. y ∷ zs) (stays room n)

pub stays_so : (room xs whole : List ℕ) (n : ℕ) → xs ≡ [] → take n room ++ filled (drop n room) xs ≡ whole → room ≡ whole
stays_so room xs whole n none is = sym (stays room n) ∙ subst (λ ys. take n room ++ filled (drop n room) ys ≡ whole) none is

-- as many of the keys as a map has entries
pub filled_by : {X : Type 0} (room : List ℕ) (es : List (ℕ × X)) → filled room (keys_of es) ≡ take (length room) (keys_of es) ++ drop (length es) room
filled_by {X} room es =
    let first : ℕ × X → ℕ = λ e. e.0 in
    ap (λ n. take (length room) (keys_of es) ++ drop n room) (length-map es first)
