-- How often numbers stand in lists, and what stands in a list.
use Rattle.std.proofs.Common.{◌≡◌, ◌≢◌, ℕ, ◌+◌, ◌<◌, ◌≤◌, List, [], ◌∷◌, ◌++◌, refl, ap, sym, ◌∙◌}
use Rattle.std.proofs.Common.{subst, arith, Bool, true, false, cond, IsTrue, eqb, inl, inr, ◌⊎◌}
use Rattle.std.proofs.Common.{Some}
use Rattle.std.proofs.Common.{ltb, ◌||◌}
use Rattle.std.specs.List.{flat_map, AllByRecursion, count_by}
use Rattle.std.proofs.lemmas.List.Recursion.{is_count_by}
use Rattle.std.proofs.lemmas.Bool.{eq-eqb, ne_eqb, cases_eq, ltb-true, lt-ltb}
use Rattle.std.specs.Option.{option_map_or}
use Rattle.tree_laws.specs.Numbers.{times, once, is_among}

-- x stands in the list
abbrev pub In : {X : Type 0} → X → List X → Type 0
In x [] = ⊥
In x (y ∷ ys) = (y ≡ x) ⊎ In x ys

-- what holds of each element holds of one of them, and the other way round
pub all_at : {X : Type 0} (P : X → Type 0) (xs : List X) (x : X) → AllByRecursion P xs → In x xs → P x
all_at P [] x all there = absurd there
all_at P (y ∷ ys) x all there = elim there [ inl e ↦ subst P e all.0 | inr later ↦ all_at P ys x all.1 later ]

pub all_from : {X : Type 0} (P : X → Type 0) (xs : List X) → ((x : X) → In x xs → P x) → AllByRecursion P xs
all_from P [] each = tt
all_from P (y ∷ ys) each = (each y (inl refl), all_from P ys (λ x there. each x (inr there)))

pub in_append : {X : Type 0} (xs ys : List X) (x : X) → In x (xs ++ ys) → In x xs ⊎ In x ys
in_append [] ys x there = inr there
in_append (z ∷ xs) ys x there =
    elim there [ inl e ↦ inl (inl e) | inr later ↦ elim (in_append xs ys x later) [ inl a ↦ inl (inr a) | inr b ↦ inr b ] ]

pub in_left : {X : Type 0} (xs ys : List X) (x : X) → In x xs → In x (xs ++ ys)
in_left [] ys x there = absurd there
in_left (z ∷ xs) ys x there = elim there [ inl e ↦ inl e | inr later ↦ inr (in_left xs ys x later) ]

pub in_right : {X : Type 0} (xs ys : List X) (x : X) → In x ys → In x (xs ++ ys)
in_right [] ys x there = there
in_right (z ∷ xs) ys x there = inr (in_right xs ys x there)

pub in_flat_map : {X A : Type 0} (h : X → List A) (xs : List X) (a : A) → In a (flat_map h xs) → (x : X) × (In x xs × In a (h x))
in_flat_map h [] a there = absurd there
in_flat_map h (x ∷ xs) a there = elim (in_append (h x) (flat_map h xs) a there) [
  | inl here ↦ (x, (inl refl, here))
  | inr later ↦ let found = in_flat_map h xs a later in (found.0, (inr found.1.0, found.1.1))
]

pub in_flat_map_from : {X A : Type 0} (h : X → List A) (xs : List X) (x : X) (a : A) → In x xs → In a (h x) → In a (flat_map h xs)
in_flat_map_from h [] x a there at = absurd there
in_flat_map_from h (y ∷ ys) x a there at = elim there [
  | inl e ↦ in_left (h y) (flat_map h ys) a (subst (λ z. In a (h z)) (sym e) at)
  | inr later ↦ in_right (h y) (flat_map h ys) a (in_flat_map_from h ys x a later at)
]

-- counting
pub once_same : (n : ℕ) → once (eqb n n) ≡ 1
once_same n = ap once (eq-eqb n n refl)

pub once_other : (n x : ℕ) → n ≢ x → once (eqb n x) ≡ 0
once_other n x other = ap once (ne_eqb n x other)

pub once_most : (b : Bool) → once b ≤ 1
once_most b = elim b as (λ v. once v ≤ 1) [ true ↦ omega arith | false ↦ omega arith ]

pub once_true : (b : Bool) → 0 < once b → IsTrue b
once_true b some = elim b as (λ v. 0 < once v → IsTrue v) [ true ↦ λ h. refl | false ↦ λ h. absurd (omega arith) ] some

pub once_from : (b : Bool) → IsTrue b → once b ≡ 1
once_from b true' = ap once true'

pub times-append : (n : ℕ) (xs ys : List ℕ) → times n (xs ++ ys) ≡ times n xs + times n ys
times-append n [] ys = omega arith
times-append n (x ∷ xs) ys = omega (arith, times-append n xs ys)

pub times_head : (n : ℕ) (xs : List ℕ) → 0 < times n (n ∷ xs)
times_head n xs = omega (arith, once_same n)

-- a number that stands in a list is its first or stands after it
pub times_cases : (n x : ℕ) (xs : List ℕ) → 0 < times n (x ∷ xs) → (n ≡ x) ⊎ (0 < times n xs)
times_cases n x xs some = elim (cases_eq n x) [ inl e ↦ inl e | inr other ↦ inr (omega (arith, once_other n x other)) ]

-- numbers in a list, by cases
pub in_times : (xs : List ℕ) (n : ℕ) → In n xs → 0 < times n xs
in_times [] n there = absurd there
in_times (x ∷ xs) n there = elim there [
  | inl e ↦ subst (λ y. 0 < times y (x ∷ xs)) e (times_head x xs)
  | inr later ↦ omega (arith, in_times xs n later)
]

pub times_in : (xs : List ℕ) (n : ℕ) → 0 < times n xs → In n xs
times_in [] n there = absurd (omega arith)
times_in (x ∷ xs) n there =
    elim (times_cases n x xs there) [ inl e ↦ inl (sym e) | inr later ↦ inr (times_in xs n later) ]

pub all_times : (P : ℕ → Type 0) (xs : List ℕ) (n : ℕ) → AllByRecursion P xs → 0 < times n xs → P n
all_times P [] n all some = absurd (omega arith)
all_times P (x ∷ xs) n all some = elim (times_cases n x xs some) [ inl e ↦ subst P (sym e) all.0 | inr later ↦ all_times P xs n all.1 later ]

-- a number that stands in a list that is joined from others stands in one of them
pub times_flat_map : {X : Type 0} (h : X → List ℕ) (xs : List X) (n : ℕ) → 0 < times n (flat_map h xs) → (x : X) × (In x xs × (0 < times n (h x)))
times_flat_map h [] n some = absurd (omega arith)
times_flat_map h (x ∷ xs) n some = elim (cases_eq (times n (h x)) 0) [
  | inl none ↦
      let found = times_flat_map h xs n (omega (arith, times-append n (h x) (flat_map h xs))) in
      (found.0, (inr found.1.0, found.1.1))
  | inr here ↦ (x, (inl refl, omega arith))
]

pub times_flat_map_from : {X : Type 0} (h : X → List ℕ) (xs : List X) (x : X) (n : ℕ) → In x xs → times n (h x) ≤ times n (flat_map h xs)
times_flat_map_from h [] x n there = absurd there
times_flat_map_from h (y ∷ ys) x n there = elim there [
  | inl e ↦ let same : times n (h y) ≡ times n (h x) = ap (λ z. times n (h z)) e in omega (arith, times-append n (h y) (flat_map h ys))
  | inr later ↦ omega (arith, times-append n (h y) (flat_map h ys), times_flat_map_from h ys x n later)
]

-- the same, for a list joined from lists of numbers' own
pub times_under : (h : ℕ → List ℕ) (xs : List ℕ) (x n : ℕ) → 0 < times x xs → times n (h x) ≤ times n (flat_map h xs)
times_under h [] x n there = absurd (omega arith)
times_under h (y ∷ ys) x n there = elim (times_cases x y ys there) [
  | inl e ↦ let same : times n (h x) ≡ times n (h y) = ap (λ z. times n (h z)) e in omega (arith, times-append n (h y) (flat_map h ys))
  | inr later ↦ omega (arith, times-append n (h y) (flat_map h ys), times_under h ys x n later)
]

-- what two different numbers of a list both bring stands there twice
pub times_two : (h : ℕ → List ℕ) (xs : List ℕ) (x y n : ℕ) → 0 < times x xs → 0 < times y xs → x ≢ y → times n (h x) + times n (h y) ≤ times n (flat_map h xs)
times_two h [] x y n there also other = absurd (omega arith)
times_two h (z ∷ zs) x y n there also other =
    let sum = times-append n (h z) (flat_map h zs) in
    elim (times_cases x z zs there) [
      | inl e ↦ elim (times_cases y z zs also) [
        | inl f ↦ absurd (other (e ∙ sym f))
        | inr later ↦ let same : times n (h x) ≡ times n (h z) = ap (λ v. times n (h v)) e in omega (arith, times_under h zs y n later)
      ]
      | inr before ↦ elim (times_cases y z zs also) [
        | inl f ↦ let same : times n (h y) ≡ times n (h z) = ap (λ v. times n (h v)) f in omega (arith, times_under h zs x n before)
        | inr later ↦ omega (arith, times_two h zs x y n before later other)
      ]
    ]

-- lists that are joined from the same lists
pub flat_map_same : {X A : Type 0} (h k : X → List A) (xs : List X) → ((x : X) → In x xs → h x ≡ k x) → flat_map h xs ≡ flat_map k xs
flat_map_same h k [] each = refl
flat_map_same h k (x ∷ xs) each = ap (λ l. l ++ flat_map h xs) (each x (inl refl)) ∙ ap (λ l. k x ++ l) (flat_map_same h k xs (λ y there. each y (inr there)))

pub some_same : {X : Type 0} (x y : X) → Some x ≡ Some y → x ≡ y
some_same x y e = ap (λ o. option_map_or (λ z. z) o x) e

-- what holds of each number of a list, by the list's test
pub all_among : (P : ℕ → Type 0) (xs : List ℕ) (x : ℕ) → AllByRecursion P xs →
    IsTrue (is_among xs x) → P x
all_among P xs x all there = all_times P xs x all (ltb-true 0 (times x xs) there)

-- a test for one number and for some is the test of their list
pub listed_one : (n x : ℕ) → eqb x n ≡ is_among (n ∷ []) x
listed_one n x = elim (eqb x n) as (λ v. v ≡ ltb 0 (once v + 0)) [ true ↦ refl | false ↦ refl ]

pub listed_family : (n : ℕ) (xs : List ℕ) (x : ℕ) → (eqb x n || is_among xs x) ≡ is_among (n ∷ xs) x
listed_family n xs x = elim (eqb x n) as (λ v. (v || is_among xs x) ≡ ltb 0 (once v + times x xs)) [
  | true ↦ sym (lt-ltb 0 (1 + times x xs) (omega arith))
  | false ↦ ap (ltb 0) (omega arith)
]

-- the count is std's, which goes from the left and so doesn't compute on a list's first number
pub times-count_by : (n : ℕ) (xs : List ℕ) → times n xs ≡ count_by (λ x. eqb n x) xs
times-count_by n xs = is_count_by (times n) (λ x. eqb n x) refl each xs
  where
    each : (x : ℕ) (xs : List ℕ) →
        times n (x ∷ xs) ≡ cond (eqb n x) (1 + times n xs) (times n xs)
    each x xs = elim (eqb n x) as (λ v. once v + times n xs ≡ cond v (1 + times n xs) (times n xs)) [
      | true ↦ refl
      | false ↦ omega arith
    ]
