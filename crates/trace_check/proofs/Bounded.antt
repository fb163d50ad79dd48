-- Lists of small numbers, and their parts. Past the end of a list stands 0.
use Rattle.std.proofs.Common.{ℕ, zero, suc, ◌<◌, List, [], ◌∷◌, ◌++◌, drop, take, get_or, Option, Some, IfSome, Bool, true, false, cond}
use Rattle.std.specs.List.{AllByRecursion, find}

-- all numbers of a list are below a bound
abbrev pub Below : ℕ → List ℕ → Type 0
Below bound xs = (i : ℕ) → get_or xs i 0 < bound

module _ (bound : ℕ) (some : 0 < bound) where
  pub below_front : (xs ys : List ℕ) → Below bound (xs ++ ys) → Below bound xs
  below_front [] ys all i = some
  below_front (x ∷ xs) ys all zero = all 0
  below_front (x ∷ xs) ys all (suc i) = below_front xs ys (λ j. all (suc j)) i

  pub below_back : (xs ys : List ℕ) → Below bound (xs ++ ys) → Below bound ys
  below_back [] ys all = all
  below_back (x ∷ xs) ys all = below_back xs ys (λ j. all (suc j))

  pub below_drop : (k : ℕ) (xs : List ℕ) → Below bound xs → Below bound (drop k xs)
  below_drop zero xs all = all
  below_drop (suc k) [] all = all
  below_drop (suc k) (x ∷ xs) all = below_drop k xs (λ j. all (suc j))

  pub below_take : (k : ℕ) (xs : List ℕ) → Below bound xs → Below bound (take k xs)
  below_take zero xs all i = some
  below_take (suc k) [] all i = some
  below_take (suc k) (x ∷ xs) all zero = all 0
  below_take (suc k) (x ∷ xs) all (suc i) = below_take k xs (λ j. all (suc j)) i

  pub below_cons : (x : ℕ) (xs : List ℕ) → x < bound → Below bound xs → Below bound (x ∷ xs)
  below_cons x xs here all zero = here
  below_cons x xs here all (suc i) = all i

  pub below_none : Below bound []
  below_none i = some

-- what holds of every item holds of the one that is found
pub found_such : {X : Type 0} (P : X → Type 0) (test : X → Bool) (xs : List X) → AllByRecursion P xs → IfSome (find test xs) P
found_such P test [] all = tt
found_such {X} P test (x ∷ xs) all = either (test x) (Some x) (find test xs) all.0 (found_such P test xs all.1)
  where
    either : (b : Bool) (one other : Option X) → IfSome one P → IfSome other P → IfSome (cond b one other) P
    either true one other first second = first
    either false one other first second = second
