-- The last item of a list.
use Rattle.std.proofs.Common.{◌≡◌, ℕ, ◌-◌, ◌⊎◌, inl, inr, List, [], ◌∷◌, ◌++◌, length, Some, slice_get, suc, zero, refl, ap, subst, length-append, arith}
use Rattle.reg_model.proofs.Histories.{slice_get-next}

-- an item of a list with one more at its end is the last one, or stood there before
pub at_end : {X : Type 0} (xs : List X) (x y : X) (i : ℕ) → slice_get (xs ++ x ∷ []) i ≡ Some y → (slice_get xs i ≡ Some y) ⊎ ((i ≡ length xs) × (x ≡ y))
at_end [] x y zero is = inr (refl, cc)
at_end [] x y (suc i) is = cc
at_end (z ∷ xs) x y zero is = inl is
at_end (z ∷ xs) x y (suc i) is = elim (at_end xs x y i is) [
  | inl before ↦ inl before
  | inr last ↦ inr (ap suc last.0, last.1)
]

-- the last item of a list with one more at its end
pub last-push : {X : Type 0} (xs : List X) (x : X) → slice_get (xs ++ x ∷ []) (length (xs ++ x ∷ []) - 1) ≡ Some x
last-push xs x = subst (λ k. slice_get (xs ++ x ∷ []) k ≡ Some x) (omega (arith, length-append xs (x ∷ []))) (slice_get-next xs x [])

-- the same place of a list has one item
pub same : {X : Type 0} (xs : List X) (x y : X) (i j : ℕ) → slice_get xs i ≡ Some x → slice_get xs j ≡ Some y → i ≡ j → x ≡ y
same xs x y i j at is e = let there : slice_get xs j ≡ Some x = subst (λ k. slice_get xs k ≡ Some x) e at in cc
