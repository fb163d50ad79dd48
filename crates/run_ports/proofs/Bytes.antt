-- Bytes that are handed out from a place on.
use Rattle.std.proofs.Common.{◌≡◌, ℕ, ◌+◌, ◌≤◌, List, length, ◌++◌, take, drop, sym, ◌∙◌, ap}
use Rattle.std.proofs.lemmas.List.{take-append-drop, drop-drop, drop-append-le}

pub drop-more : (at n : ℕ) (bytes : List ℕ) → drop at bytes ≡ take n (drop at bytes) ++ drop (at + n) bytes
drop-more at n bytes = sym (take-append-drop n (drop at bytes)) ∙ ap (λ rest. take n (drop at bytes) ++ rest) (drop-drop n at bytes)

-- bytes behind those that were there
pub drop_front : (at : ℕ) (xs ys : List ℕ) → at ≤ length xs → drop at (xs ++ ys) ≡ drop at xs ++ ys
drop_front at xs ys within = drop-append-le at xs ys within
