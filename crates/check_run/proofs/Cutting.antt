-- The script's part ends at the first line `end`.
use Rattle.std.proofs.Common.{◌≡◌, ℕ, ◌+◌, true, false, cond, List, [], ◌∷◌, ◌++◌, length, codes, length-append, sym, ap, ◌∙◌, arith}
use Rattle.std.specs.Str.{bytes_eq}
use Rattle.std.proofs.lemmas.Bool.{cond-true, cond-false}
use Rattle.script_text.specs.Fields.{pieces}
use Rattle.script_text.proofs.Joined.{join, join_pieces}
use Rattle.script_text.proofs.Pieces.{some_pieces}
use Rattle.check_run.specs.Parts.{script_length}

module _ (rest line after : List ℕ) (cut : pieces 10 rest ≡ line ∷ pieces 10 after) where
  rest_is : rest ≡ line ++ 10 ∷ after
  rest_is =
      let some = some_pieces 10 after in
      sym (join_pieces 10 rest) ∙ ap (join 10) cut ∙ ap (λ (x : List (List ℕ)). join 10 (line ∷ x)) some.2
      ∙ ap (λ (x : List (List ℕ)). line ++ 10 ∷ join 10 x) (sym some.2) ∙ ap (λ x. line ++ 10 ∷ x) (join_pieces 10 after)

  pub rest_longer : length rest ≡ length line + 1 + length after
  rest_longer = ap (λ (x : List ℕ). length x) rest_is ∙ length-append line (10 ∷ after) ∙ omega arith

  line_counts : script_length (pieces 10 rest) ≡ length line + 1 + cond (bytes_eq line (codes "end")) 0 (script_length (pieces 10 after))
  unfolding script_length
  line_counts =
      let some = some_pieces 10 after in
      ap script_length cut ∙ ap (λ (x : List (List ℕ)). script_length (line ∷ x)) some.2
      ∙ ap (λ (x : List (List ℕ)). length line + 1 + cond (bytes_eq line (codes "end")) 0 (script_length x)) (sym some.2)

  -- the line ends the script, or doesn't
  pub ends_here : bytes_eq line (codes "end") ≡ true → script_length (pieces 10 rest) + length after ≡ length rest
  ends_here is = (let count = line_counts ∙ ap (λ n. length line + 1 + n) (cond-true (bytes_eq line (codes "end")) 0 (script_length (pieces 10 after)) is) in let long = rest_longer in omega arith)

  pub goes_on : bytes_eq line (codes "end") ≡ false → script_length (pieces 10 rest) ≡ length line + 1 + script_length (pieces 10 after)
  goes_on is = line_counts ∙ ap (λ n. length line + 1 + n) (cond-false (bytes_eq line (codes "end")) 0 (script_length (pieces 10 after)) is)

-- no line is left
pub last_counts : (rest : List ℕ) → pieces 10 rest ≡ rest ∷ [] → script_length (pieces 10 rest) ≡ length rest
unfolding script_length
last_counts rest is = ap script_length is
