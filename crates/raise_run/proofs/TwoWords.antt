-- Two words.
use Rattle.std.proofs.Common.{◌≡◌, ◌≢◌, ℕ, List, [], ◌∷◌, length, map, get_or, None, refl, arith}
use Rattle.raise_run.specs.Words.{request_of}

pub two_words_are : {X : Type 0} (f : X → List ℕ) (xs : List X) (a b : X) → length xs ≡ 2 → a ≡ get_or xs 0 a → b ≡ get_or xs 1 b → map f xs ≡ f a ∷ f b ∷ []
two_words_are f [] a b two first second = absurd (omega (arith, two))
two_words_are f (x ∷ []) a b two first second = absurd (omega (arith, two))
two_words_are f (x ∷ y ∷ []) a b two first second = rw (first, second) refl
two_words_are f (x ∷ y ∷ z ∷ xs) a b two first second = absurd (omega (arith, two))

pub other_words : {X : Type 0} (f : X → List ℕ) (xs : List X) → length xs ≢ 2 → request_of (map f xs) ≡ None
other_words f [] other = refl
other_words f (x ∷ []) other = refl
other_words f (x ∷ y ∷ []) other = absurd (other refl)
other_words f (x ∷ y ∷ z ∷ xs) other = refl
