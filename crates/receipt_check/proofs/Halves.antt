-- Tests of two lists one after another.
use Rattle.std.proofs.Common.{◌≡◌, ◌↔◌, List, ◌++◌, Bool, true, false, IsTrue, All, inl, inr, sym, ◌∙◌}
use Rattle.std.specs.List.{Contains}
use Rattle.std.proofs.lemmas.Bool.{false≢true}
use Rattle.std.proofs.lemmas.List.Elements.{All-append, All-weaker, All-contains, All-contains_itself, Contains-append_left, Contains-append_right, Contains-append_cases}

pub All-front : {X : Type 0} (P : X → Type 0) (xs ys : List X) → All P (xs ++ ys) → All P xs
All-front P xs ys all = All-weaker (Contains xs) P (λ x listed. All-contains P (xs ++ ys) x all (Contains-append_left xs ys x listed)) xs (All-contains_itself xs)

pub All-back : {X : Type 0} (P : X → Type 0) (xs ys : List X) → All P (xs ++ ys) → All P ys
All-back P xs ys all = All-weaker (Contains ys) P (λ x listed. All-contains P (xs ++ ys) x all (Contains-append_right xs ys x listed)) ys (All-contains_itself ys)

pub all_in_both : {X : Type 0} (P : X → Type 0) (xs ys : List X) (one two : Bool) → one ≡ true → (IsTrue one ↔ All P xs) → (IsTrue two ↔ All P ys) → (IsTrue two ↔ All P (xs ++ ys))
all_in_both P xs ys one two is first second = (λ holds. All-append P xs ys (first.0 is) (second.0 holds), λ all. second.1 (All-back P xs ys all))

pub not_in_front : {X : Type 0} (P : X → Type 0) (xs ys : List X) (one : Bool) → one ≡ false → (IsTrue one ↔ All P xs) → (IsTrue one ↔ All P (xs ++ ys))
not_in_front P xs ys one is first = (λ holds. absurd (false≢true (sym is ∙ holds)), λ all. first.1 (All-front P xs ys all))

pub listed_in_front : {X : Type 0} (xs ys : List X) (x : X) (one : Bool) → one ≡ true → (IsTrue one ↔ Contains xs x) → (IsTrue one ↔ Contains (xs ++ ys) x)
listed_in_front xs ys x one is first = (λ holds. Contains-append_left xs ys x (first.0 holds), λ _. is)

pub listed_behind : {X : Type 0} (xs ys : List X) (x : X) (one two : Bool) → one ≡ false → (IsTrue one ↔ Contains xs x) → (IsTrue two ↔ Contains ys x) → (IsTrue two ↔ Contains (xs ++ ys) x)
listed_behind xs ys x one two is first second = (
  λ holds. Contains-append_right xs ys x (second.0 holds),
  λ listed. elim (Contains-append_cases xs ys x listed) [
    | inl front ↦ absurd (false≢true (sym is ∙ first.1 front))
    | inr back ↦ second.1 back
  ],
)
