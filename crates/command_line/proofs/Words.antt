-- Words one by one.
use Rattle.std.proofs.Common.{◌≡◌, ℕ, List, [], ◌∷◌, length, get_or, map, Option, Some, None, MatchOption, ap, sym, ◌∙◌, arith, codes}
use Rattle.command_line.specs.CommandLine.{IsCount, IsCommandLine, AreTaken}
use Rattle.command_line.specs.Grammar.{words_of}
use Rattle.command_line.specs.declared.grammar.Asked.{Asked}
use Rattle.command_line.specs.declared.taking.Command.{Command}
use Rattle.command_line.specs.declared.taking.Command.TheVariants.{Run, Generate}

pub one_word : {X : Type 0} (f : X → List ℕ) (xs : List X) (x : X) (word : List ℕ) → length xs ≡ 1 → x ≡ get_or xs 0 x → f x ≡ word → map f xs ≡ word ∷ []
one_word f [] x word one is same = absurd (omega arith)
one_word f (y ∷ []) x word one is same = ap (λ bytes. bytes ∷ []) (ap f (sym is) ∙ same)
one_word f (y ∷ z ∷ xs) x word one is same = absurd (omega arith)

pub two_words : {X : Type 0} (f : X → List ℕ) (xs : List X) (x y : X) (word : List ℕ) → length xs ≡ 2 → x ≡ get_or xs 0 x → y ≡ get_or xs 1 y → f x ≡ word → map f xs ≡ word ∷ f y ∷ []
two_words f [] x y word two first second same = absurd (omega arith)
two_words f (a ∷ []) x y word two first second same = absurd (omega arith)
two_words f (a ∷ b ∷ []) x y word two first second same =
    ap (λ bytes. bytes ∷ f b ∷ []) (ap f (sym first) ∙ same) ∙ ap (λ bytes. word ∷ bytes ∷ []) (ap f (sym second))
two_words f (a ∷ b ∷ c ∷ xs) x y word two first second same = absurd (omega arith)

not_taken : (word : List ℕ) → ((count : ℕ) → ¬ IsCount word count) → ¬ AreTaken (codes "gen" ∷ word ∷ [])
not_taken word none (Run, is) = (let sizes : 2 ≡ 1 = ap length is in omega (arith, sizes))
not_taken word none (Generate count, (other, is, number)) = (let same : other ≡ word = cc in none count (rw same at number))

pub generated_is : (words : List (List ℕ)) (word : List ℕ) (asked : Asked) (command : Option Command) → words ≡ codes "gen" ∷ word ∷ [] → MatchOption command ((count : ℕ) → ¬ IsCount word count) (IsCommandLine (codes "gen" ∷ word ∷ []))
    → MatchOption command (words_of asked ≡ words → ¬ AreTaken words) (IsCommandLine words)
generated_is words word asked None is none = λ same. rw is (not_taken word none)
generated_is words word asked (Some command) is line = rw is line

-- a word that isn't the one that was read
pub other_number : {X : Type 0} (f : X → List ℕ) (xs : List X) (x y : X) (number : List ℕ) → length xs ≡ 2 → x ≡ get_or xs 0 x → y ≡ get_or xs 1 y → f x ≡ codes "gen" → ¬ (f y ≡ number) → ¬ (codes "gen" ∷ number ∷ [] ≡ map f xs)
other_number f xs x y number two first second gen other same =
    let both : codes "gen" ∷ number ∷ [] ≡ codes "gen" ∷ f y ∷ [] = same ∙ two_words f xs x y (codes "gen") two first second gen in
    other (let word : number ≡ f y = cc in sym word)
