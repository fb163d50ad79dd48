-- Items that are read one after another, by their places.
use Rattle.std.proofs.Common.{◌≡◌, ℕ, zero, suc, ◌+◌, ◌<◌, List, [], ◌∷◌, ◌++◌, length, get_or, take, drop, refl, sym, ap, subst, ◌∙◌, append_assoc, take-append-drop, arith}
use Rattle.std.specs.List.{AllZip}
use Rattle.std.proofs.lemmas.List.{take_more, length-take}
use Rattle.journal_reader.specs.JournalLines.{numbered_lines}
use Rattle.journal_reader.specs.ReadLines.{IsStuck}
use Rattle.journal_reader.proofs.Sequences.{stuck_at, read_more}

pub get_same : {X : Type 0} (xs : List X) (i : ℕ) (d e : X) → i < length xs → get_or xs i d ≡ get_or xs i e
get_same [] i d e within = absurd (omega arith)
get_same (x ∷ xs) zero d e within = refl
get_same (x ∷ xs) (suc i) d e within = get_same xs i d e (omega arith)

module _ {E A : Type 0} (told : E → A → Type 0) (lines : ℕ → A → List (List ℕ))
    (unique : (e : E) (n : ℕ) (a a' : A) (xs ys : List (List ℕ)) → told e a → told e a' → lines n a ++ xs ≡ lines n a' ++ ys → (a ≡ a') × (xs ≡ ys))
    (some : (e : E) → (a : A) × told e a)
    (es : List E) (i : ℕ) (e : E) (within : i < length es) (is : e ≡ get_or es i e)
  where
    grown : take (i + 1) es ≡ take i es ++ e ∷ []
    grown = take_more es i e within ∙ ap (λ (x : E). take i es ++ x ∷ []) (sym is)

    parted : es ≡ take i es ++ e ∷ drop (i + 1) es
    parted = sym (take-append-drop (i + 1) es) ∙ ap (λ (x : List E). x ++ drop (i + 1) es) grown ∙ append_assoc (take i es) (e ∷ []) (drop (i + 1) es)

    placed : i + 1 ≡ 1 + length (take i es)
    placed = rw length-take (omega arith)

    pub loop_stuck : (xs : List A) (all mid left : List (List ℕ)) → AllZip told (take i es) xs → all ≡ numbered_lines lines 1 xs ++ mid → IsStuck (told e) (lines (i + 1)) mid left → IsStuck (AllZip told es) (numbered_lines lines 1) all left
    loop_stuck xs all mid left read cut stuck =
        let whole = stuck_at told lines unique some (take i es) e (drop (i + 1) es) 1 (i + 1) xs mid left read placed stuck in
        subst (λ (x : List (List ℕ)). IsStuck (AllZip told es) (numbered_lines lines 1) x left) (sym cut)
        (subst (λ (x : List E). IsStuck (AllZip told x) (numbered_lines lines 1) (numbered_lines lines 1 xs ++ mid) left) (sym parted) whole)

    pub loop_more : (xs : List A) (a : A) (all mid left : List (List ℕ)) → AllZip told (take i es) xs → all ≡ numbered_lines lines 1 xs ++ mid → told e a → mid ≡ lines (i + 1) a ++ left
        → AllZip told (take (i + 1) es) (xs ++ a ∷ []) × (all ≡ numbered_lines lines 1 (xs ++ a ∷ []) ++ left)
    loop_more xs a all mid left read cut is_told next =
        let more = read_more told lines unique some (take i es) e 1 (i + 1) xs a all mid left read placed is_told cut next in
        (subst (λ (x : List E). AllZip told x (xs ++ a ∷ [])) (sym grown) more.0, more.1)
