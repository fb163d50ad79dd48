-- Lists beside lists.
use Rattle.std.proofs.Common.{◌≡◌, List, [], ◌∷◌, ◌++◌, length, refl, arith}
use Rattle.std.specs.List.{All, AllZip}
use Rattle.std.proofs.lemmas.List.Elements.{All-cons, All-from_recursion}

pub AllZip-more : {A B : Type 0} (R : A → B → Type 0) (xs : List A) (ys : List B) (a : A) (b : B) → AllZip R xs ys → R a b → AllZip R (xs ++ a ∷ []) (ys ++ b ∷ [])
AllZip-more R [] [] a b front last = (last, tt)
AllZip-more R (x ∷ xs) (y ∷ ys) a b front last = (front.0, AllZip-more R xs ys a b front.1 last)
AllZip-more R [] (y ∷ ys) a b front last = absurd front
AllZip-more R (x ∷ xs) [] a b front last = absurd front

pub AllZip-weaker : {A B : Type 0} (P R : A → B → Type 0) (weaker : (a : A) (b : B) → P a b → R a b) (xs : List A) (ys : List B) → AllZip P xs ys → AllZip R xs ys
AllZip-weaker P R weaker [] [] all = tt
AllZip-weaker P R weaker (x ∷ xs) (y ∷ ys) all = (weaker x y all.0, AllZip-weaker P R weaker xs ys all.1)
AllZip-weaker P R weaker [] (y ∷ ys) all = absurd all
AllZip-weaker P R weaker (x ∷ xs) [] all = absurd all

pub AllZip-length : {A B : Type 0} (R : A → B → Type 0) (xs : List A) (ys : List B) → AllZip R xs ys → length xs ≡ length ys
AllZip-length R [] [] all = refl
AllZip-length R (x ∷ xs) (y ∷ ys) all = (let rest = AllZip-length R xs ys all.1 in omega arith)
AllZip-length R [] (y ∷ ys) all = absurd all
AllZip-length R (x ∷ xs) [] all = absurd all

-- what holds of the second of two beside each other
pub AllZip-second : {A B : Type 0} (R : A → B → Type 0) (P : B → Type 0) → ((a : A) (b : B) → R a b → P b) → (xs : List A) (ys : List B) → AllZip R xs ys → All P ys
AllZip-second R P from [] [] all = All-from_recursion P [] tt
AllZip-second R P from (x ∷ xs) (y ∷ ys) all = All-cons P y ys (from x y all.0) (AllZip-second R P from xs ys all.1)
AllZip-second R P from [] (y ∷ ys) all = absurd all
AllZip-second R P from (x ∷ xs) [] all = absurd all
