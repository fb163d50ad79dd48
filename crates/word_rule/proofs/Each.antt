-- What holds of each item of a list.
use Rattle.std.proofs.Common.{◌≡◌, ℕ, zero, suc, arith, Contains, List, [], ◌∷◌, ◌++◌, Option, Some, None, sym, subst, true≢false, eq-eqb, ne_eqb, IsSome, IsSomeAnd, is_some, false, refl}
use Rattle.std.proofs.lemmas.Option.{none-some, same_Some}
use Rattle.std.specs.List.{AllByRecursion}
use native.Mathlib.Decide.{ℕ_discrete}
use Rattle.word_rule.specs.declared.log.Holding.{Holding}
use Rattle.word_rule.specs.Held.{held_of}

pub all_map : {A : Type 0} (P Q : A → Type 0) → ((a : A) → P a → Q a) → (xs : List A) → AllByRecursion P xs → AllByRecursion Q xs
all_map P Q f [] h = tt
all_map P Q f (x ∷ xs) h = (f x h.0, all_map P Q f xs h.1)

pub all_both : {A : Type 0} (P Q R : A → Type 0) → ((a : A) → P a → Q a → R a) → (xs : List A) → AllByRecursion P xs → AllByRecursion Q xs → AllByRecursion R xs
all_both P Q R f [] h i = tt
all_both P Q R f (x ∷ xs) h i = (f x h.0 i.0, all_both P Q R f xs h.1 i.1)

pub all_of : {A : Type 0} (P : A → Type 0) → ((a : A) → P a) → (xs : List A) → AllByRecursion P xs
all_of P f [] = tt
all_of P f (x ∷ xs) = (f x, all_of P f xs)

pub all_append : {A : Type 0} (P : A → Type 0) (xs ys : List A) → AllByRecursion P xs → AllByRecursion P ys → AllByRecursion P (xs ++ ys)
all_append P [] ys h i = i
all_append P (x ∷ xs) ys h i = (h.0, all_append P xs ys h.1 i)

pub all_behind : {A : Type 0} (P : A → Type 0) (xs ys : List A) → AllByRecursion P (xs ++ ys) → AllByRecursion P ys
all_behind P [] ys h = h
all_behind P (x ∷ xs) ys h = all_behind P xs ys h.1

pub all_with : {A : Type 0} (P : A → Type 0) (xs : List A) (x : A) → AllByRecursion P xs → Contains xs x → P x
all_with P [] x h (k, l, e) = absurd (omega (arith, l))
all_with P (y ∷ xs) x h (zero, l, e) = subst P e h.0
all_with P (y ∷ xs) x h (suc k, l, e) = all_with P xs x h.1 (k, omega (arith, l), e)

-- a lock that is found by its node
pub held_is : (P : Holding → Type 0) (n : ℕ) (held : List Holding) (h : Holding) → AllByRecursion P held → held_of n held ≡ Some h → P h × (h.node ≡ n)
held_is P n [] h all found = absurd (none-some h found)
held_is P n (g ∷ held) h all found = go (ℕ_discrete g.node n) (held_is P n held h all.1)
  where
    go : Dec (g.node ≡ n) → (held_of n held ≡ Some h → P h × (h.node ≡ n)) → P h × (h.node ≡ n)
    go (yes e) rest = let same : g ≡ h = same_Some _ _ (rw (eq-eqb g.node n e) at found) in (subst P same all.0, subst (λ k. k.node ≡ n) same e)
    go (no ne) rest = rest (rw (ne_eqb g.node n ne) at found)

-- what is there
pub some_of : {A : Type 0} (o : Option A) → IsSome o → (a : A) × (o ≡ Some a)
some_of None h = absurd (true≢false (sym h))
some_of (Some a) h = (a, refl)

pub some_with : {A : Type 0} (o : Option A) (P : A → Type 0) → IsSomeAnd o P → (a : A) × ((o ≡ Some a) × P a)
some_with None P h = absurd h
some_with (Some a) P h = (a, (refl, h))

pub not_some : {A : Type 0} (o : Option A) → is_some o ≡ false → o ≡ None
not_some None e = refl
not_some (Some a) e = absurd (true≢false e)
