-- What was read of lines: the lines of one thing that is told, or why they begin none.
use Rattle.std.specs.Prelude.{◌≡◌, ◌≢◌, ℕ, List, [], ◌∷◌, ◌++◌, Option, Some, None}

-- no told thing's lines begin with these, and have these after them
abbrev pub AreBarred : {A : Type 0} → (A → Type 0) → (A → List (List ℕ)) → List (List ℕ)
    → List (List ℕ) → Type 0
AreBarred {A} told lines before front =
    (x : A) (others : List (List ℕ)) → told x → before ++ front ≢ lines x ++ others

-- with the first of what is left they are barred, whatever follows; or it is no line, as nothing is
-- left after it, and the lines before are not whole
abbrev pub AreBarredBy : {A : Type 0} → (A → Type 0) → (A → List (List ℕ)) → List (List ℕ)
    → List (List ℕ) → Type 0
AreBarredBy told lines before [] = ⊥
AreBarredBy told lines before (line ∷ []) = AreBarred told lines before []
AreBarredBy told lines before (line ∷ next ∷ others) =
    (rest : List (List ℕ)) → AreBarred told lines before (line ∷ rest)

-- the lines up to what is left begin a told thing's, and with the first of it they begin none
pub record IsStuck {A : Type 0} (told : A → Type 0) (lines : A → List (List ℕ))
    (all left : List (List ℕ)) : Type 0 where
  pub before : List (List ℕ)
  pub cut : all ≡ before ++ left
  pub some : A
  pub is_told : told some
  pub others : List (List ℕ)
  pub begun : lines some ≡ before ++ others
  pub barred : AreBarredBy told lines before left

-- what was read of all lines, and what is left of them
abbrev pub ReadsLines : {A : Type 0} → (A → Type 0) → (A → List (List ℕ)) → List (List ℕ)
    → Option A → List (List ℕ) → Type 0
ReadsLines told lines all None left = IsStuck told lines all left
ReadsLines told lines all (Some x) left = told x × (all ≡ lines x ++ left)
