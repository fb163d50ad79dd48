-- Lists of a few nodes, and what halves, shares and joined nodes hold.
use Rattle.std.proofs.Common.{◌≡◌, ◌≢◌, ℕ, ◌+◌, ◌/◌, ◌<◌, ◌≤◌, List, [], ◌∷◌, ◌++◌, length, ap, sym}
use Rattle.std.proofs.Common.{◌∙◌, subst, arith, true, false, cond, eqb, inl, inr}
use Rattle.std.proofs.lemmas.Bool.{cases_eq, ne_eqb, lt-ltb, le-ltb, both_ways}
use Rattle.std.proofs.lemmas.List.{length-take-le, length-drop, length-append}
use Rattle.tree_laws.specs.Numbers.{times, is_among}
use Rattle.tree_shape.specs.NodeData.{NodeData, Body, Pairs, Entries, Link, pairs_in}
use Rattle.tree_shape.specs.Changes.{first_half, last_half, both, first_part, last_part, size}
use Rattle.tree_shape.specs.Changes.{FitAs, OverfillAs}
use Rattle.tree_laws.specs.Lawful.{IsFilled, IsFilledAs, fewest_pairs, fewest_entries}
use Rattle.tree_laws.specs.Steps.{middle, IsFull}
use Rattle.tree_laws.proofs.Times.{In, once_other, once_most, times_head}
use Rattle.tree_laws.proofs.Runs.{SameKind}

pub among : (xs : List ℕ) (x : ℕ) → 0 < times x xs → is_among xs x ≡ true
among xs x there = lt-ltb 0 (times x xs) there

pub not_among : (xs : List ℕ) (x : ℕ) → times x xs ≡ 0 → is_among xs x ≡ false
not_among xs x none = le-ltb 0 (times x xs) (omega arith)

-- a number that is none of two, by a test on a list of them
pub not_one : (xs : List ℕ) (x y : ℕ) → is_among xs x ≡ false → 0 < times y xs → x ≢ y
not_one xs x y outside there e = both_ways (is_among xs x) outside (among xs x (subst (λ z. 0 < times z xs) (sym e) there))

-- the least fillings of a node that isn't the root
pub fewest_below : (n : ℕ) → n ≢ 0 → (fewest_entries n ≡ 4) × (fewest_pairs n ≡ 6)
fewest_below n other = (ap (λ v. cond v 0 4) (ne_eqb n 0 other), ap (λ v. cond v 2 6) (ne_eqb n 0 other))

pub fewest_pairs_some : (n : ℕ) → 2 ≤ fewest_pairs n
fewest_pairs_some n = elim (eqb n 0) as (λ v. 2 ≤ cond v 2 6) [ true ↦ omega arith | false ↦ omega arith ]

-- a full node has a middle
pub full_middle : (b : Body) → IsFull b → (0 < middle b) × (middle b < size b)
full_middle (Pairs pairs) full = (omega arith, omega arith)
full_middle (Entries entries) full = (omega arith, omega arith)
full_middle (Link next) full = absurd full

-- the halves of a node are filled where they hold enough and not too much
pub halves_filled : (c r : ℕ) (s : NodeData) → c ≢ 0 → r ≢ 0 → IsFull s.body → IsFilled c (first_half (middle s.body) s) × IsFilled r (last_half (middle s.body) s)
halves_filled c r s c_below r_below full = halves s.body full
  where
    halves : (b : Body) → IsFull b → IsFilledAs c (first_part (middle b) b) × IsFilledAs r (last_part (middle b) b)
    halves (Pairs pairs) full =
        let least = fewest_below c c_below in
        let least' = fewest_below r r_below in
        let first = length-take-le 7 pairs (omega arith) in
        let last = length-drop 7 pairs in
        ((omega (arith, least.1), omega arith), (omega (arith, least'.1), omega arith))
    halves (Entries entries) full =
        let least = fewest_below c c_below in
        let least' = fewest_below r r_below in
        let first = length-take-le 5 entries (omega arith) in
        let last = length-drop 5 entries in
        ((omega (arith, least.0), omega arith), (omega (arith, least'.0), omega arith))
    halves (Link next) full = absurd full

-- what holds of two holds of each of them
pub two_of : {X : Type 0} (P : X → Type 0) (x y : X) → P x → P y → (b : X) → In b (x ∷ y ∷ []) → P b
two_of P x y px py b there = elim there [
  | inl e ↦ subst P e px
  | inr later ↦ elim later [ inl e ↦ subst P e py | inr none ↦ absurd none ]
]

pub one_of : {X : Type 0} (P : X → Type 0) (x : X) → P x → (b : X) → In b (x ∷ []) → P b
one_of P x px b there = elim there [ inl e ↦ subst P e px | inr none ↦ absurd none ]

-- two different numbers stand once each
pub once_two : (x c r : ℕ) → c ≢ r → times x (c ∷ r ∷ []) ≤ 1
once_two x c r other = elim (cases_eq x c) [
  | inl e ↦ omega (arith, once_most (eqb x c), once_other x r (λ f. other (sym e ∙ f)))
  | inr not_c ↦ omega (arith, once_other x c not_c, once_most (eqb x r))
]

-- a node of a list of one or two
pub second : (x y : ℕ) (xs : List ℕ) → 0 < times y (x ∷ y ∷ xs)
second x y xs = omega (arith, times_head y xs)

pub third : (x y z : ℕ) (xs : List ℕ) → 0 < times z (x ∷ y ∷ z ∷ xs)
third x y z xs = omega (arith, times_head z xs)

-- the pairs of a filled node
pub pairs_filled : (n : ℕ) (b : Body) → IsFilledAs n b → 0 < length (pairs_in b) → (fewest_pairs n ≤ length (pairs_in b)) × (length (pairs_in b) ≤ 15)
pairs_filled n (Pairs pairs) filled some = filled
pairs_filled n (Entries entries) filled some = absurd (omega arith)
pairs_filled n (Link next) filled some = absurd filled

-- a list of one number has no other
pub only : (y x : ℕ) → is_among (y ∷ []) x ≡ true → x ≡ y
only y x there = elim (cases_eq x y) [
  | inl e ↦ e
  | inr other ↦ absurd (both_ways (is_among (y ∷ []) x) (not_among (y ∷ []) x (omega (arith, once_other x y other))) there)
]

-- two nodes that fit into one, or overfill one, are of one kind
pub fit_kind : (b c : Body) → FitAs b c → SameKind b c
fit_kind (Pairs left) (Pairs right) fit = tt
fit_kind (Pairs left) (Entries right) fit = absurd fit
fit_kind (Pairs left) (Link next) fit = absurd fit
fit_kind (Entries left) (Pairs right) fit = absurd fit
fit_kind (Entries left) (Entries right) fit = tt
fit_kind (Entries left) (Link next) fit = absurd fit
fit_kind (Link next) c fit = absurd fit

pub overfill_kind : (b c : Body) → OverfillAs b c → SameKind b c
overfill_kind (Pairs left) (Pairs right) over = tt
overfill_kind (Pairs left) (Entries right) over = absurd over
overfill_kind (Pairs left) (Link next) over = absurd over
overfill_kind (Entries left) (Pairs right) over = absurd over
overfill_kind (Entries left) (Entries right) over = tt
overfill_kind (Entries left) (Link next) over = absurd over
overfill_kind (Link next) c over = absurd over

-- a joined node is filled
pub joined_filled : (n : ℕ) (b c : Body) → FitAs b c → IsFilledAs n b → IsFilledAs n (both b c)
joined_filled n (Pairs left) (Pairs right) fit filled = let len = length-append left right in (omega (arith, filled.0), omega arith)
joined_filled n (Pairs left) (Entries right) fit filled = absurd fit
joined_filled n (Pairs left) (Link next) fit filled = absurd fit
joined_filled n (Entries left) (Pairs right) fit filled = absurd fit
joined_filled n (Entries left) (Entries right) fit filled = let len = length-append left right in (omega (arith, filled.0), omega arith)
joined_filled n (Entries left) (Link next) fit filled = absurd fit
joined_filled n (Link next) c fit filled = absurd fit

-- even shares of two nodes that overfill one: there are some on each side, and both are filled
pub shares : (b c : Body) → OverfillAs b c → (0 < (size b + size c) / 2) × ((size b + size c) / 2 < size (both b c))
shares (Pairs left) (Pairs right) over = let len = length-append left right in (omega arith, omega arith)
shares (Pairs left) (Entries right) over = absurd over
shares (Pairs left) (Link next) over = absurd over
shares (Entries left) (Pairs right) over = absurd over
shares (Entries left) (Entries right) over = let len = length-append left right in (omega arith, omega arith)
shares (Entries left) (Link next) over = absurd over
shares (Link next) c over = absurd over

pub shares_filled : (n m k l : ℕ) (b c : Body) → n ≢ 0 → m ≢ 0 → OverfillAs b c → IsFilledAs k b → IsFilledAs l c →
    IsFilledAs n (first_part ((size b + size c) / 2) (both b c)) × IsFilledAs m (last_part ((size b + size c) / 2) (both b c))
shares_filled n m k l (Pairs left) (Pairs right) n_below m_below over filled also =
    let least = fewest_below n n_below in
    let least' = fewest_below m m_below in
    let len = length-append left right in
    let first = length-take-le ((length left + length right) / 2) (left ++ right) (omega arith) in
    let last = length-drop ((length left + length right) / 2) (left ++ right) in
    ((omega (arith, least.1), omega (arith, filled.1, also.1)), (omega (arith, least'.1), omega (arith, filled.1, also.1)))
shares_filled n m k l (Pairs left) (Entries right) n_below m_below over filled also = absurd over
shares_filled n m k l (Pairs left) (Link next) n_below m_below over filled also = absurd over
shares_filled n m k l (Entries left) (Pairs right) n_below m_below over filled also = absurd over
shares_filled n m k l (Entries left) (Entries right) n_below m_below over filled also =
    let least = fewest_below n n_below in
    let least' = fewest_below m m_below in
    let len = length-append left right in
    let first = length-take-le ((length left + length right) / 2) (left ++ right) (omega arith) in
    let last = length-drop ((length left + length right) / 2) (left ++ right) in
    ((omega (arith, least.0), omega (arith, filled.1, also.1)), (omega (arith, least'.0), omega (arith, filled.1, also.1)))
shares_filled n m k l (Entries left) (Link next) n_below m_below over filled also = absurd over
shares_filled n m k l (Link next) c n_below m_below over filled also = absurd over
