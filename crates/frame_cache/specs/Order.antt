-- The order of the slots.
use Rattle.std.specs.Prelude.{◌≡◌, ◌≢◌, ℕ, zero, suc, ◌<◌, List, [], ◌∷◌, length, get_or}
use Rattle.std.specs.List.{AllByRecursion}

-- no number stands twice
abbrev pub StandOnce : List ℕ → Type 0
StandOnce [] = Unit {0}
StandOnce (x ∷ xs) = AllByRecursion (λ y. y ≢ x) xs × StandOnce xs

-- each of the eight slots stands once
pub record AreSlots (slots : List ℕ) : Type 0 where
  pub count : length slots ≡ 8
  pub apart : StandOnce slots
  pub inside : AllByRecursion (λ slot. slot < 8) slots

-- a list without what stands at a place
abbrev pub but_nth : {A : Type 0} → ℕ → List A → List A
but_nth n [] = []
but_nth zero (x ∷ xs) = xs
but_nth (suc n) (x ∷ xs) = x ∷ but_nth n xs

-- what stands at a place comes first
abbrev pub brought : ℕ → List ℕ → List ℕ
brought place slots = get_or slots place 0 ∷ but_nth place slots
