-- What is left of a text is one piece at least.
use Rattle.std.proofs.Common.{◌≡◌, ℕ, List, ◌∷◌, ap, ◌∙◌}
use Rattle.script_text.specs.Fields.{pieces}
use Rattle.script_text.proofs.Pieces.{some_pieces}

pub next_of : (rest : List ℕ) → List ℕ
next_of rest = (some_pieces 10 rest).0

pub others_of : (rest : List ℕ) → List (List ℕ)
others_of rest = (some_pieces 10 rest).1

-- a line, and the piece after it
pub some_next : (all : List (List ℕ)) (line rest : List ℕ) → all ≡ line ∷ pieces 10 rest → all ≡ line ∷ next_of rest ∷ others_of rest
unfolding next_of others_of
some_next all line rest is = is ∙ ap (λ (x : List (List ℕ)). line ∷ x) (some_pieces 10 rest).2
