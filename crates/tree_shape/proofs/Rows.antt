-- Parts of two lists one after another.
use Rattle.std.proofs.Common.{◌≡◌, ℕ, ◌+◌, ◌-◌, ◌≤◌, List, ◌++◌, length, take, drop, ap, sym, ◌∙◌}
use Rattle.std.proofs.Common.{arith}
use Rattle.std.proofs.Math.Seq.{take-append-add, drop-append-add}
use Rattle.std.proofs.lemmas.List.{take_all, length-drop}

-- a cut after the first list
pub take_over : {A : Type 0} (xs ys : List A) (n : ℕ) → length xs ≤ n → xs ++ take (n - length xs) ys ≡ take n (xs ++ ys)
take_over xs ys n behind =
    let sum : length xs + (n - length xs) ≡ n = omega arith in
    sym (take-append-add xs ys (n - length xs)) ∙ ap (λ k. take k (xs ++ ys)) sum

pub drop_over : {A : Type 0} (xs ys : List A) (n : ℕ) → length xs ≤ n → take (length ys - (n - length xs)) (drop (n - length xs) ys) ≡ drop n (xs ++ ys)
drop_over xs ys n behind =
    let sum : length xs + (n - length xs) ≡ n = omega arith in
    let whole : length (drop (n - length xs) ys) ≤ length ys - (n - length xs) = omega (arith, length-drop (n - length xs) ys) in
    take_all (length ys - (n - length xs)) (drop (n - length xs) ys) whole
    ∙ sym (drop-append-add xs ys (n - length xs)) ∙ ap (λ k. drop k (xs ++ ys)) sum
