-- Parts one after another to the end of the bytes, where each is read in the state that the one
-- before it left: the instructions of a program, the operations of an expression. `one` is what one
-- step spells in a state.
use Rattle.std.specs.Prelude.{◌≡◌, ℕ, zero, suc, ◌+◌, ◌<◌, List, [], ◌∷◌, ◌++◌, length, Result, Ok}
use Rattle.std.specs.Prelude.{◌==◌, if◌then◌else◌}
use Rattle.eh_bytes.specs.CursorData.{CursorData}
use Rattle.eh_bytes.specs.Results.{◌and_then◌}
use Rattle.eh_bytes.specs.Grammar.{Part}

-- the text, from place p on, spells these steps one after another, from one state to another
abbrev pub AreSteps : {F S X : Type 0} → (S → Part F (X × S)) → ℕ → S → List ℕ → List X → S → Type 0
AreSteps one p s text [] t = (text ≡ []) × (s ≡ t)
AreSteps {F} {S} one p s text (x ∷ xs) t =
    (m : S) × (front : List ℕ) × (back : List ℕ) × (text ≡ front ++ back)
    × (one s).Spells p front (x, m) × AreSteps one (p + length front) m back xs t

-- reading steps to the end of the bytes, at most n of them
unfoldable pub run : {F S X : Type 0} → ℕ → (S → Part F (X × S)) → S → CursorData
    → Result (S × CursorData) F
run zero one s r = Ok (s, r)
run (suc n) one s r =
    if length r.bytes == 0 then Ok (s, r) else ((one s).read r and_then λ x. run n one x.0.1 x.1)

-- steps to the end of the bytes, and the state after them
abbrev pub steps_from : {F S X : Type 0} → (S → Part F (X × S)) → S → Part F S
steps_from {F} {S} {X} one s = record {
  Spells = λ p text t. (steps : List X) × AreSteps one p s text steps t;
  Refuses = λ p bytes f.
      (steps : List X) × (m : S) × (front : List ℕ) × (back : List ℕ) × (bytes ≡ front ++ back)
      × AreSteps one p s front steps m × (0 < length back)
      × (one m).Refuses (p + length front) back f;
  read = λ r. run (length r.bytes) one s r;
}
