-- Answers of rounds and threads that are held in types of their own.
use Rattle.std.proofs.Common.{List, [], ◌∷◌, map, arith}
use Rattle.std.specs.List.{All}
use Rattle.std.proofs.lemmas.List.Elements.{All-cons, All-head, All-tail, All-weaker}
use Rattle.script_text.specs.Text.{IsPrintable}
use Rattle.script_text.specs.declared.journal.Answer.{Answer}

pub All-unmap : {A B : Type 0} (P : B → Type 0) (f : A → B) (xs : List A) → All P (map f xs) → All (λ x. P (f x)) xs
All-unmap P f [] all = λ k d within. absurd (omega arith)
All-unmap P f (x ∷ xs) all = All-cons (λ y. P (f y)) x xs (All-head P (f x) (map f xs) all) (All-unmap P f xs (All-tail P (f x) (map f xs) all))

pub printable_is : {T U : Type 0} (answers_of : T → List Answer) (threads_of : U → List T) (rounds : List U) → All (All (All IsPrintable)) (map (λ round. map answers_of (threads_of round)) rounds) → All (λ round. All (λ thread. All IsPrintable (answers_of thread)) (threads_of round)) rounds
printable_is {T} {U} answers_of threads_of rounds all =
    let P : U → Type 0 = λ round. All (All IsPrintable) (map answers_of (threads_of round)) in
    let Q : U → Type 0 = λ round. All (λ thread. All IsPrintable (answers_of thread)) (threads_of round) in
    All-weaker P Q (λ round each. All-unmap (All IsPrintable) answers_of (threads_of round) each) rounds
    (All-unmap (All (All IsPrintable)) (λ round. map answers_of (threads_of round)) rounds all)
