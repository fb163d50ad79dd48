-- The first line with a receipt that isn't so, of one receipt more.
use Rattle.std.proofs.Common.{◌≡◌, ℕ, ◌+◌, ◌<◌, ◌≤◌, List, [], ◌∷◌, ◌++◌, length, get_or, take, Option, Some, None, Bool, true, false, IsTrue, min, All, ◌↔◌, ◌⊎◌, inl, inr, refl, sym, ◌∙◌, ap, subst, arith}
use Rattle.std.proofs.lemmas.Bool.{cases_lt, false≢true}
use Rattle.std.proofs.lemmas.List.{take_more, take_all}
use Rattle.std.proofs.lemmas.List.Elements.{All-push, All-weaker, Contains-append_left, Contains-push}
use Rattle.std.specs.List.Sorted.{IsPermutation}
use Rattle.std.proofs.lemmas.List.Sorted.{IsPermutation-sym, All-permutation, Contains-permutation}
use Rattle.receipt_check.specs.declared.account.Told.{Told}
use Rattle.receipt_check.specs.Flaws.{IsFirstLine}
use Rattle.receipt_check.specs.Search.{IsSought, lower_line}

module _ (IsSo : Told → Type 0) (told : List Told) (t : Told) where
  -- on the lines above one
  abbrev Above : ℕ → Told → Type 0
  Above line o = o.line < line → IsSo o

  kept : (best : ℕ) → (t.line < best → IsSo t) → IsFirstLine IsSo told best → IsFirstLine IsSo (told ++ t ∷ []) best
  kept best so first = record {
    wrong = first.wrong;
    listed = Contains-append_left told (t ∷ []) first.wrong first.listed;
    here = first.here;
    is_wrong = first.is_wrong;
    above = All-push (Above best) told t first.above so;
  }

  found : ¬ IsSo t → All (Above t.line) told → IsFirstLine IsSo (told ++ t ∷ []) t.line
  found wrong above = record {
    wrong = t;
    listed = Contains-push told t;
    here = refl;
    is_wrong = wrong;
    above = All-push (Above t.line) told t above (λ less. absurd (omega arith));
  }

  lower_of_two : (best : ℕ) → ¬ IsSo t → IsFirstLine IsSo told best → (best ≤ t.line) ⊎ (t.line < best) → IsFirstLine IsSo (told ++ t ∷ []) (min best t.line)
  lower_of_two best wrong first (inl less) = (let is : min best t.line ≡ best = omega arith in rw is (kept best (λ above. absurd (omega arith)) first))
  lower_of_two best wrong first (inr less) =
      let is : min best t.line ≡ t.line = omega arith in
      rw is (found wrong (All-weaker (Above best) (Above t.line) (λ o so above. so (let below : o.line < t.line = above in omega arith)) told first.above))

  pub sought_next : (first : Option ℕ) (b : Bool) → (IsTrue b ↔ IsSo t) → IsSought IsSo told first → IsSought IsSo (told ++ t ∷ []) (lower_line first t.line b)
  sought_next None true so all = All-push IsSo told t all (so.0 refl)
  sought_next (Some best) true so first = kept best (λ _. so.0 refl) first
  sought_next None false so all = found (λ is. false≢true (so.1 is)) (All-weaker IsSo (Above t.line) (λ o is _. is) told all)
  sought_next (Some best) false so first = lower_of_two best (λ is. false≢true (so.1 is)) first (elim (cases_lt t.line best) [ inl less ↦ inr less | inr least ↦ inl least ])

-- the same along a loop
pub sought_more : (IsSo : Told → Type 0) (told : List Told) (i : ℕ) (t : Told) (first : Option ℕ) (b : Bool) → i < length told → t ≡ get_or told i t → (IsTrue b ↔ IsSo t) → IsSought IsSo (take i told) first → IsSought IsSo (take (i + 1) told) (lower_line first t.line b)
sought_more IsSo told i t first b within is so sought =
    let grown : take (i + 1) told ≡ take i told ++ t ∷ [] = take_more told i t within ∙ ap (λ u. take i told ++ u ∷ []) (sym is) in
    subst (λ (passed : List Told). IsSought IsSo passed (lower_line first t.line b)) (sym grown) (sought_next IsSo (take i told) t first b so sought)

pub sought_all : (IsSo : Told → Type 0) (told : List Told) (i : ℕ) (first : Option ℕ) → length told ≤ i → IsSought IsSo (take i told) first → IsSought IsSo told first
sought_all IsSo told i first past sought = subst (λ (passed : List Told). IsSought IsSo passed first) (take_all i told past) sought

-- the order of the list doesn't count
pub sought_moved : (IsSo : Told → Type 0) (xs ys : List Told) (first : Option ℕ) → IsPermutation xs ys → IsSought IsSo ys first → IsSought IsSo xs first
sought_moved IsSo xs ys None moved all = All-permutation IsSo ys xs (IsPermutation-sym xs ys moved) all
sought_moved IsSo xs ys (Some line) moved first =
    let back = IsPermutation-sym xs ys moved in
    record {
      wrong = first.wrong;
      listed = Contains-permutation ys xs first.wrong back first.listed;
      here = first.here;
      is_wrong = first.is_wrong;
      above = All-permutation (λ t. t.line < line → IsSo t) ys xs back first.above;
    }
