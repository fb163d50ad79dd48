-- Numbers of logs added up, and words that a step doesn't touch.
use Rattle.std.proofs.Common.{◌≡◌, ◌≢◌, ℕ, zero, suc, ◌+◌, ◌<◌, ◌≤◌, ◌⊎◌, inl, inr, ⊎_elim, subst, List, [], ◌∷◌, ◌++◌, length, set, sym, refl, ap, arith, ◌/◌, eq-eqb, ne_eqb}
use mathlib.Core.Option.{some, some-injective, some-ne-none}
use native.Mathlib.Decide.{ℕ_discrete}
use lib.ListN.{get_elem?}
use Rattle.atomic_table.proofs.Lists.{at_set, at_snoc}
use Rattle.word_rule.specs.declared.log.Log.{Log}
use Rattle.word_rule.specs.SharedWords.{updated, node_counters}
use Rattle.word_rule.specs.Callers.{total}

-- one log changes
pub total_set : (f : Log → ℕ) (views : List Log) (id : ℕ) (v w : Log) → get_elem? views id ≡ some v → total f (set views id w) + f v ≡ total f views + f w
total_set f [] id v w at = absurd (some-ne-none v (sym at))
total_set f (x ∷ views) zero v w at = let e : f x ≡ f v = ap f (some-injective x v at) in omega (arith, e)
total_set f (x ∷ views) (suc id) v w at = let e = total_set f views id v w at in omega (arith, e)

-- and its number doesn't
pub total_same : (f : Log → ℕ) (views : List Log) (id : ℕ) (v w : Log) → get_elem? views id ≡ some v → f w ≡ f v → total f (set views id w) ≡ total f views
total_same f views id v w at e = let s = total_set f views id v w at in omega (arith, s, e)

-- one log more
pub total_snoc : (f : Log → ℕ) (views : List Log) (w : Log) → total f (views ++ w ∷ []) ≡ total f views + f w
total_snoc f [] w = omega arith
total_snoc f (x ∷ views) w = let e = total_snoc f views w in omega (arith, e)

-- one of them is at most all
pub part_of_total : (f : Log → ℕ) (views : List Log) (id : ℕ) (v : Log) → get_elem? views id ≡ some v → f v ≤ total f views
part_of_total f [] id v at = absurd (some-ne-none v (sym at))
part_of_total f (x ∷ views) zero v at = let e : f x ≡ f v = ap f (some-injective x v at) in omega (arith, e)
part_of_total f (x ∷ views) (suc id) v at = let e = part_of_total f views id v at in omega (arith, e)

-- the counters of all versions but one
pub node_counters_above : (versions : ℕ → ℕ) (n x k : ℕ) → k ≤ n → node_counters (updated versions n x) k ≡ node_counters versions k
node_counters_above versions n x zero h = refl
node_counters_above versions n x (suc k) h =
    let here : updated versions n x k ≡ versions k = rw (ne_eqb k n (λ e. omega (arith, e, h))) refl in
    let rest = node_counters_above versions n x k (omega (arith, h)) in rw (here, rest) refl

pub node_counters_at : (versions : ℕ → ℕ) (n x k : ℕ) → n < k → node_counters (updated versions n x) k + versions n / 4 ≡ node_counters versions k + x / 4
node_counters_at versions n x zero h = absurd (omega (arith, h))
node_counters_at versions n x (suc k) h = go (ℕ_discrete k n) (node_counters_at versions n x k)
  where
    go : Dec (k ≡ n) → (n < k → node_counters (updated versions n x) k + versions n / 4 ≡ node_counters versions k + x / 4)
        → updated versions n x k / 4 + node_counters (updated versions n x) k + versions n / 4 ≡ versions k / 4 + node_counters versions k + x / 4
    go (yes e) rest =
        let here : updated versions n x k ≡ x = rw (eq-eqb k n e) refl in let below = node_counters_above versions n x k (omega (arith, e)) in
        let same : versions k ≡ versions n = ap versions e in rw (here, below, same) (omega arith)
    go (no ne) rest =
        let here : updated versions n x k ≡ versions k = rw (ne_eqb k n ne) refl in let r = rest (omega (arith, h, ne)) in rw here (omega (arith, r))

-- two of them together are at most all
pub two_of_total : (f : Log → ℕ) (views : List Log) (id j : ℕ) (v u : Log) → get_elem? views id ≡ some v → get_elem? views j ≡ some u → j ≢ id → f v + f u ≤ total f views
two_of_total f [] id j v u at there ne = absurd (some-ne-none v (sym at))
two_of_total f (x ∷ views) zero zero v u at there ne = absurd (ne refl)
two_of_total f (x ∷ views) zero (suc j) v u at there ne = let e : f x ≡ f v = ap f (some-injective x v at) in let p = part_of_total f views j u there in omega (arith, e, p)
two_of_total f (x ∷ views) (suc id) zero v u at there ne = let e : f x ≡ f u = ap f (some-injective x u there) in let p = part_of_total f views id v at in omega (arith, e, p)
two_of_total f (x ∷ views) (suc id) (suc j) v u at there ne = let p = two_of_total f views id j v u at there (λ e. ne (ap suc e)) in omega (arith, p)

-- where all others have none, one has all
pub all_of_total : (f : Log → ℕ) (views : List Log) (id : ℕ) (v : Log) → get_elem? views id ≡ some v → ((j : ℕ) (u : Log) → j ≢ id → get_elem? views j ≡ some u → f u ≡ 0) → total f views ≡ f v
all_of_total f [] id v at none = absurd (some-ne-none v (sym at))
all_of_total f (x ∷ views) zero v at none =
    let e : f x ≡ f v = ap f (some-injective x v at) in let r : total f views ≡ 0 = nothing_left f views (λ j u there. none (suc j) u (λ z. omega (arith, z)) there) in omega (arith, e, r)
  where
    nothing_left : (f : Log → ℕ) (views : List Log) → ((j : ℕ) (u : Log) → get_elem? views j ≡ some u → f u ≡ 0) → total f views ≡ 0
    nothing_left f [] none = refl
    nothing_left f (y ∷ views) none = let a : f y ≡ 0 = none 0 y refl in let b = nothing_left f views (λ j u there. none (suc j) u there) in omega (arith, a, b)
all_of_total f (x ∷ views) (suc id) v at none =
    let e : f x ≡ 0 = none 0 x (λ z. omega (arith, z)) refl in let r = all_of_total f views id v at (λ j u ne there. none (suc j) u (λ z. ne (suc_same j id z)) there) in omega (arith, e, r)
  where
    suc_same : (j id : ℕ) → suc j ≡ suc id → j ≡ id
    suc_same j id z = omega (arith, z)

-- what is more than nought, one of them has
pub some_of_total : (f : Log → ℕ) (views : List Log) → 0 < total f views → (j : ℕ) × (u : Log) × ((get_elem? views j ≡ some u) × (0 < f u))
some_of_total f [] h = absurd (omega arith)
some_of_total f (x ∷ views) h = go (f x) refl (λ more. some_of_total f views more)
  where
    go : (n : ℕ) → f x ≡ n → (0 < total f views → (j : ℕ) × (u : Log) × ((get_elem? views j ≡ some u) × (0 < f u))) → (j : ℕ) × (u : Log) × ((get_elem? (x ∷ views) j ≡ some u) × (0 < f u))
    go zero e rest = let r = rest (omega (arith, h, e)) in (suc r.0, r.1, r.2)
    go (suc n) e rest = (0, x, (refl, omega (arith, e)))

-- one log changes, and another after it
pub total_set_two : (f : Log → ℕ) (views : List Log) (id j : ℕ) (v w u z : Log) → get_elem? views id ≡ some v → get_elem? (set views id w) j ≡ some u → total f (set (set views id w) j z) + f v + f u ≡ total f views + f w + f z
total_set_two f views id j v w u z at there = let a = total_set f views id v w at in let b = total_set f (set views id w) j u z there in omega (arith, a, b)

-- what holds of every log but the one that steps, and of that one afterwards, holds of every log
pub after_step : (P : ℕ → Log → Type 0) (views : List Log) (id : ℕ) (w : Log) → P id w → ((j : ℕ) (u : Log) → j ≢ id → get_elem? views j ≡ some u → P j u)
    → (j : ℕ) (u : Log) → get_elem? (set views id w) j ≡ some u → P j u
after_step P views id w mine others j u e =
    ⊎_elim (λ (h : (j ≡ id) × (w ≡ u)). subst (λ (z : ℕ × Log). P z.0 z.1) (λ i. (sym h.0 i, h.1 i)) mine) (λ (h : (j ≢ id) × (get_elem? views j ≡ some u)). others j u h.0 h.1) (at_set views id j w u e)

-- a place that has a log is one of the list's
pub within : (views : List Log) (id : ℕ) (v : Log) → get_elem? views id ≡ some v → id < length views
within [] id v e = absurd (some-ne-none v (sym e))
within (x ∷ views) zero v e = omega arith
within (x ∷ views) (suc id) v e = let h = within views id v e in omega (arith, h)

-- two numbers are one, or not
pub decided : (j id : ℕ) → (j ≡ id) ⊎ (j ≢ id)
decided j id = go (ℕ_discrete j id)
  where
    go : Dec (j ≡ id) → (j ≡ id) ⊎ (j ≢ id)
    go (yes e) = inl e
    go (no n) = inr n

-- what holds of all, and of one that comes after them, holds of all then
pub behind : (P : ℕ → Log → Type 0) (views : List Log) (c : Log) → ((j : ℕ) (u : Log) → get_elem? views j ≡ some u → P j u) → ((j : ℕ) → P j c) → (j : ℕ) (u : Log) → get_elem? (views ++ c ∷ []) j ≡ some u → P j u
behind P views c all mine j u e = ⊎_elim (λ (h : get_elem? views j ≡ some u). all j u h) (λ (h : c ≡ u). subst (P j) h (mine j)) (at_snoc views c u j e)

-- a place that is set again
pub set_twice : (views : List Log) (id : ℕ) (v w : Log) → set (set views id v) id w ≡ set views id w
set_twice [] id v w = refl
set_twice (u ∷ views) zero v w = refl
set_twice (u ∷ views) (suc id) v w = ap (λ vs. u ∷ vs) (set_twice views id v w)
