-- One more frame of a cleanup.
use Rattle.std.proofs.Common.{◌≡◌, ℕ, ◌+◌, ◌<◌, List, [], ◌∷◌, ◌++◌, length, take, slice_index_or, MatchBool, Bool, true, false, sym, subst}
use Rattle.std.specs.List.{AllZip}
use Rattle.std.proofs.lemmas.List.{take_more}
use Rattle.std.proofs.lemmas.List.Elements.{AllZip-push}
use Rattle.raise_phases.specs.declared.raised.Phase.{Phase}
use Rattle.raise_phases.specs.Raising.{Repeats}

-- one more frame is repeated
pub repeats_more : (search phases more : List Phase) (i m n : ℕ) (searched asked : Phase) → i < length search → searched ≡ slice_index_or search i searched → m ≡ i → AllZip Repeats (take m search) phases → more ≡ phases ++ asked ∷ [] → n ≡ i + 1 → Repeats searched asked → AllZip Repeats (take n search) more
repeats_more search phases more i m n searched asked within is so_far repeats all next here =
    let pushed = AllZip-push Repeats (take i search) phases searched asked (subst (λ (k : ℕ). AllZip Repeats (take k search) phases) so_far repeats) here in
    let at : take (i + 1) search ≡ take i search ++ searched ∷ [] = subst (λ (p : Phase). take (i + 1) search ≡ take i search ++ p ∷ []) (sym is) (take_more search i searched within) in
    subst (λ (k : ℕ). AllZip Repeats (take k search) more) (sym next)
    (subst (λ (ps : List Phase). AllZip Repeats (take (i + 1) search) ps) (sym all)
    (subst (λ (ps : List Phase). AllZip Repeats ps (phases ++ asked ∷ [])) (sym at) pushed))

-- a test that answers true tells the first of two facts
pub told_true : (b : Bool) (P N : Type 0) → b ≡ true → MatchBool b P N → P
told_true true P N is told = told
told_true false P N is told = cc
