-- Texts of numbered items.
use Rattle.std.proofs.Common.{◌≡◌, ℕ, ◌+◌, ◌<◌, List, [], ◌∷◌, ◌++◌, length, take, drop, get_or, map, refl, sym, ◌∙◌, ap, append_assoc, arith, take-append-drop}
use Rattle.std.proofs.lemmas.List.{append-nil, take_more, length-take}
use Rattle.script_text.specs.Text.{numbered, thread_text, round_text}
use Rattle.script_text.proofs.Texts.{appended}
use Rattle.script_text.specs.declared.journal.Answer.{Answer}

pub numbered-append : {X : Type 0} (text : ℕ → X → List ℕ) (n : ℕ) (xs ys : List X) → numbered text n (xs ++ ys) ≡ numbered text n xs ++ numbered text (n + length xs) ys
numbered-append text n [] ys = ap (λ k. numbered text k ys) (let same : n ≡ n + 0 = omega arith in same)
numbered-append text n (x ∷ xs) ys =
    let same : n + 1 + length xs ≡ n + length (x ∷ xs) = omega arith in
    ap (λ rest. text n x ++ rest) (numbered-append text (n + 1) xs ys ∙ ap (λ k. numbered text (n + 1) xs ++ numbered text k ys) same)
    ∙ sym (append_assoc (text n x) (numbered text (n + 1) xs) (numbered text (n + length (x ∷ xs)) ys))

pub numbered-map : {X Y : Type 0} (text : ℕ → Y → List ℕ) (f : X → Y) (n : ℕ) (xs : List X) → numbered text n (map f xs) ≡ numbered (λ k x. text k (f x)) n xs
numbered-map text f n [] = refl
numbered-map text f n (x ∷ xs) = ap (λ rest. text n (f x) ++ rest) (numbered-map text f (n + 1) xs)

pub numbered-same : {X : Type 0} (text other : ℕ → X → List ℕ) → ((n : ℕ) (x : X) → text n x ≡ other n x) → (n : ℕ) (xs : List X) → numbered text n xs ≡ numbered other n xs
numbered-same text other same n [] = refl
numbered-same text other same n (x ∷ xs) = rw (same n x, numbered-same text other same (n + 1) xs) refl

-- the texts of the first items, the next one's, and those of the rest
module _ {X : Type 0} (text : ℕ → X → List ℕ) (xs : List X) (i : ℕ) (x : X) (within : i < length xs) (is : x ≡ get_or xs i x) where
  pub numbered-take_more : numbered text 1 (take (i + 1) xs) ≡ numbered text 1 (take i xs) ++ text (i + 1) x
  numbered-take_more =
      let grown : take (i + 1) xs ≡ take i xs ++ x ∷ [] = take_more xs i x within ∙ ap (λ y. take i xs ++ y ∷ []) (sym is) in
      let place : 1 + length (take i xs) ≡ i + 1 = rw length-take (omega arith) in
      ap (numbered text 1) grown ∙ numbered-append text 1 (take i xs) (x ∷ [])
      ∙ ap (λ last. numbered text 1 (take i xs) ++ last) (append-nil (text (1 + length (take i xs)) x))
      ∙ ap (λ k. numbered text 1 (take i xs) ++ text k x) place

  pub numbered-parts : numbered text 1 xs ≡ numbered text 1 (take (i + 1) xs) ++ numbered text (1 + length (take (i + 1) xs)) (drop (i + 1) xs)
  numbered-parts = ap (numbered text 1) (sym (take-append-drop (i + 1) xs)) ∙ numbered-append text 1 (take (i + 1) xs) (drop (i + 1) xs)

-- the text of a journal whose rounds and threads are held in types of their own
pub rounds_text_is : {T U : Type 0} (answers_of : T → List Answer) (threads_of : U → List T) (rounds : List U) → numbered round_text 1 (map (λ round. map answers_of (threads_of round)) rounds) ≡ numbered (λ number round. numbered (λ thread answers. thread_text number thread (answers_of answers)) 1 (threads_of round)) 1 rounds
rounds_text_is answers_of threads_of rounds =
    numbered-map round_text (λ round. map answers_of (threads_of round)) 1 rounds
    ∙ numbered-same (λ number round. round_text number (map answers_of (threads_of round))) (λ number round. numbered (λ thread answers. thread_text number thread (answers_of answers)) 1 (threads_of round))
    (λ number round. numbered-map (thread_text number) answers_of 1 (threads_of round)) 1 rounds

-- one more text after those of the first items
pub numbered_next : {X : Type 0} (text : ℕ → X → List ℕ) (xs : List X) (i : ℕ) (x : X) → i < length xs → x ≡ get_or xs i x → (old mid new : List ℕ) → mid ≡ old ++ numbered text 1 (take i xs) → new ≡ mid ++ text (i + 1) x → new ≡ old ++ numbered text 1 (take (i + 1) xs)
numbered_next text xs i x within is old mid new first second =
    appended old mid new (numbered text 1 (take i xs)) (text (i + 1) x) first second
    ∙ ap (λ all. old ++ all) (sym (numbered-take_more text xs i x within is))
