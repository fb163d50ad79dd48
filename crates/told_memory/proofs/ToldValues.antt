-- Values over the words that were told of a memory.
use Rattle.std.proofs.Common.{rules, sym, refl, ap, subst, ◌∙◌, ◌≡◌, ℕ, List, [], ◌∷◌, Option, Some, None, Ok, Err}
use Rattle.std.specs.Prelude.{Result, drop}
use Rattle.eh_bytes.specs.Results.{◌and_then◌}
use Rattle.told_memory.specs.Telling.{IsToldOf}
use Rattle.frame_expr.specs.Regions.{RegionData, word_at}
use Rattle.frame_expr.specs.Values.{value_of, stack_after, with_loaded, entry}
use Rattle.frame_expr.specs.declared.operation.Operation.{Operation}
use Rattle.frame_expr.specs.declared.operation.Operation.TheVariants.{Nop, Constant, Breg, Deref, Dup, Drop, Over, Pick, Swap, Rot, Unary, PlusUconst, Binary, Compare}
use Rattle.frame_expr.specs.declared.fault.NoBytes.{NoBytes}

-- a stack that the words told give is the memory's
stack_stays : (told memory : List RegionData) (columns s t : List ℕ) (o : Operation) → IsToldOf told memory → stack_after columns told o s ≡ Ok t → stack_after columns memory o s ≡ Ok t
stack_stays told memory columns s t Nop agrees h = h
stack_stays told memory columns s t (Constant n) agrees h = h
stack_stays told memory columns s t (Breg r n) agrees h = h
stack_stays told memory columns s t Deref agrees h = go (word_at (entry 0 s) told) refl
  where
    go : (w : Option ℕ) → word_at (entry 0 s) told ≡ w → with_loaded (entry 0 s) (drop 1 s) (word_at (entry 0 s) memory) ≡ Ok t
    go (Some n) is = rw (agrees (entry 0 s) n is) (subst (λ (w : Option ℕ). with_loaded (entry 0 s) (drop 1 s) w ≡ Ok t) is h)
    go None is = let never : with_loaded (entry 0 s) (drop 1 s) None ≡ Ok t = subst (λ (w : Option ℕ). with_loaded (entry 0 s) (drop 1 s) w ≡ Ok t) is h in absurd (search rules)
stack_stays told memory columns s t Dup agrees h = h
stack_stays told memory columns s t Drop agrees h = h
stack_stays told memory columns s t Over agrees h = h
stack_stays told memory columns s t (Pick n) agrees h = h
stack_stays told memory columns s t Swap agrees h = h
stack_stays told memory columns s t Rot agrees h = h
stack_stays told memory columns s t (Unary u) agrees h = h
stack_stays told memory columns s t (PlusUconst n) agrees h = h
stack_stays told memory columns s t (Binary k) agrees h = h
stack_stays told memory columns s t (Compare k) agrees h = h

pub value_stays : (told memory : List RegionData) (columns : List ℕ) (os : List Operation) (s : List ℕ) (v : ℕ) → IsToldOf told memory → value_of columns told os s ≡ Ok v → value_of columns memory os s ≡ Ok v
unfolding value_of
value_stays told memory columns [] s v agrees h = h
value_stays told memory columns (o ∷ os) s v agrees h = go (λ t. value_stays told memory columns os t v agrees) (stack_after columns told o s) refl
  where
    go : ((t : List ℕ) → value_of columns told os t ≡ Ok v → value_of columns memory os t ≡ Ok v) → (r : Result (List ℕ) NoBytes) → stack_after columns told o s ≡ r
        → (stack_after columns memory o s and_then λ t. value_of columns memory os t) ≡ Ok v
    go more (Ok t) is = rw (stack_stays told memory columns s t o agrees is) (more t (subst (λ (r : Result (List ℕ) NoBytes). (r and_then λ t. value_of columns told os t) ≡ Ok v) is h))
    go more (Err f) is = let never : Err f ≡ Ok v = subst (λ (r : Result (List ℕ) NoBytes). (r and_then λ t. value_of columns told os t) ≡ Ok v) is h in absurd (search rules)

abbrev lacking : ℕ → NoBytes
lacking a = record { address = a }

-- the word that is lacking is that of a deref
stack_lacks : (told memory : List RegionData) (columns s : List ℕ) (f : NoBytes) (o : Operation) → stack_after columns told o s ≡ Err f → word_at f.address memory ≡ None → stack_after columns memory o s ≡ Err f
stack_lacks told memory columns s f Nop h none = absurd cc
stack_lacks told memory columns s f (Constant n) h none = absurd cc
stack_lacks told memory columns s f (Breg r n) h none = absurd cc
stack_lacks told memory columns s f Deref h none = go (word_at (entry 0 s) told) refl
  where
    go : (w : Option ℕ) → word_at (entry 0 s) told ≡ w → with_loaded (entry 0 s) (drop 1 s) (word_at (entry 0 s) memory) ≡ Err f
    go (Some n) is = let never : with_loaded (entry 0 s) (drop 1 s) (Some n) ≡ Err f = subst (λ (w : Option ℕ). with_loaded (entry 0 s) (drop 1 s) w ≡ Err f) is h in absurd cc
    go None is =
        let same : with_loaded (entry 0 s) (drop 1 s) None ≡ Err f = subst (λ (w : Option ℕ). with_loaded (entry 0 s) (drop 1 s) w ≡ Err f) is h in
        let equal : lacking (entry 0 s) ≡ f = cc in
        let here : word_at (entry 0 s) memory ≡ None = subst (λ (k : NoBytes). word_at k.address memory ≡ None) (sym equal) none in
        rw here same
stack_lacks told memory columns s f Dup h none = absurd cc
stack_lacks told memory columns s f Drop h none = absurd cc
stack_lacks told memory columns s f Over h none = absurd cc
stack_lacks told memory columns s f (Pick n) h none = absurd cc
stack_lacks told memory columns s f Swap h none = absurd cc
stack_lacks told memory columns s f Rot h none = absurd cc
stack_lacks told memory columns s f (Unary u) h none = absurd cc
stack_lacks told memory columns s f (PlusUconst n) h none = absurd cc
stack_lacks told memory columns s f (Binary k) h none = absurd cc
stack_lacks told memory columns s f (Compare k) h none = absurd cc

pub value_lacks : (told memory : List RegionData) (columns : List ℕ) (os : List Operation) (s : List ℕ) (f : NoBytes) → IsToldOf told memory → value_of columns told os s ≡ Err f → word_at f.address memory ≡ None → value_of columns memory os s ≡ Err f
unfolding value_of
value_lacks told memory columns [] s f agrees h none = absurd cc
value_lacks told memory columns (o ∷ os) s f agrees h none = go (λ t e. value_lacks told memory columns os t f agrees e none) (stack_after columns told o s) refl
  where
    go : ((t : List ℕ) → value_of columns told os t ≡ Err f → value_of columns memory os t ≡ Err f) → (r : Result (List ℕ) NoBytes) → stack_after columns told o s ≡ r
        → (stack_after columns memory o s and_then λ t. value_of columns memory os t) ≡ Err f
    go more (Ok t) is = rw (stack_stays told memory columns s t o agrees is) (more t (subst (λ (r : Result (List ℕ) NoBytes). (r and_then λ t. value_of columns told os t) ≡ Err f) is h))
    go more (Err g) is =
        let same : (Err g and_then λ t. value_of columns told os t) ≡ Err f = subst (λ (r : Result (List ℕ) NoBytes). (r and_then λ t. value_of columns told os t) ≡ Err f) is h in
        let equal : g ≡ f = cc in
        rw (stack_lacks told memory columns s f o (is ∙ ap Err equal) none) refl
