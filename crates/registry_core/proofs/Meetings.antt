-- Callers that are split off and joined, one after another.
use Rattle.std.proofs.Common.{◌≡◌, ℕ, ◌+◌, ◌-◌, ◌<◌, ◌≤◌, List, [], ◌∷◌, ◌++◌, length, drop, get_or, sum, sym, ap, ◌∙◌, arith, append_assoc, append-nil}
use Rattle.std.proofs.lemmas.List.{drop_all, drop_more}
use Rattle.std.proofs.lemmas.List.Sums.{sum_by-drop_more}
use Rattle.word_rule.specs.CallerData.{CallerData}
use Rattle.registry_core.specs.Rounds.{after_one_split, one_split_off, after_splits, all_split_off}

-- one more of the numbers
pub callers_more : (gives : List ℕ) (i : ℕ) (k : CallerData) (callers all : List CallerData) → i < length gives → callers ++ all_split_off (drop i gives) k ≡ all
    → (callers ++ one_split_off (get_or gives i 0) k ∷ []) ++ all_split_off (drop (i + 1) gives) (after_one_split (get_or gives i 0) k) ≡ all
callers_more gives i k callers all within is =
    append_assoc callers (one_split_off (get_or gives i 0) k ∷ []) (all_split_off (drop (i + 1) gives) (after_one_split (get_or gives i 0) k))
    ∙ (sym (ap (λ more. callers ++ all_split_off more k) (drop_more gives i 0 within)) ∙ is)

pub splits_more : (gives : List ℕ) (i : ℕ) (k all : CallerData) → i < length gives → after_splits (drop i gives) k ≡ all → after_splits (drop (i + 1) gives) (after_one_split (get_or gives i 0) k) ≡ all
splits_more gives i k all within is = sym (ap (λ more. after_splits more k) (drop_more gives i 0 within)) ∙ is

-- all of them
pub callers_all : (gives : List ℕ) (i : ℕ) (k : CallerData) (callers all : List CallerData) → length gives ≤ i → callers ++ all_split_off (drop i gives) k ≡ all → all ≡ callers
callers_all gives i k callers all past is = sym is ∙ (ap (λ more. callers ++ all_split_off more k) (drop_all i gives past) ∙ append-nil callers)

pub room_more : (gives : List ℕ) (i left : ℕ) → i < length gives → sum (drop i gives) ≤ left → sum (drop (i + 1) gives) ≤ left - get_or gives i 0
room_more gives i left within room =
    let s : sum (drop i gives) ≡ get_or gives i 0 + sum (drop (i + 1) gives) = sum_by-drop_more (λ (give : ℕ). give) gives i 0 within in omega (arith, s, room)
