-- The lines of a phase, one after another.
use Rattle.std.proofs.Common.{◌≡◌, ℕ, ◌+◌, ◌<◌, List, [], ◌∷◌, ◌++◌, length, take, get_or, sym, ◌∙◌, ap, arith}
use Rattle.std.proofs.lemmas.List.{append-nil, take_more, length-take}
use Rattle.script_text.specs.Text.{numbered}
use Rattle.script_text.proofs.Numbered.{numbered-append}
use Rattle.script_text.proofs.Texts.{appended}

-- one more text after those of the first items, which are counted from 0
pub counted_next : {X : Type 0} (text : ℕ → X → List ℕ) (xs : List X) (i : ℕ) (x : X) → i < length xs → x ≡ get_or xs i x → (old mid new : List ℕ) → mid ≡ old ++ numbered text 0 (take i xs) → new ≡ mid ++ text i x → new ≡ old ++ numbered text 0 (take (i + 1) xs)
counted_next text xs i x within is old mid new first second =
    let grown : take (i + 1) xs ≡ take i xs ++ x ∷ [] = take_more xs i x within ∙ ap (λ y. take i xs ++ y ∷ []) (sym is) in
    let place : 0 + length (take i xs) ≡ i = rw length-take (omega arith) in
    let more : numbered text 0 (take (i + 1) xs) ≡ numbered text 0 (take i xs) ++ text i x =
    ap (numbered text 0) grown ∙ numbered-append text 0 (take i xs) (x ∷ [])
    ∙ ap (λ last. numbered text 0 (take i xs) ++ last) (append-nil (text (0 + length (take i xs)) x))
    ∙ ap (λ k. numbered text 0 (take i xs) ++ text k x) place in
    appended old mid new (numbered text 0 (take i xs)) (text i x) first second ∙ ap (λ all. old ++ all) (sym more)
