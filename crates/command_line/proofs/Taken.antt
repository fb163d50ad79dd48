-- What `clap` reads of the words that are taken.
use Rattle.std.proofs.Common.{◌≡◌, ℕ, List, [], ◌∷◌, Some, true, codes, refl, arith}
use Rattle.std.proofs.lemmas.List.Elements.{All-head}
use Rattle.clap.specs.Takes.{takes}
use Rattle.clap.specs.Simple.{is_simple, subcommand_of}
use Rattle.clap.specs.ValueTests.{is_unsigned_in}
use Rattle.clap.proofs.OnLiterals.{clap_on_literals}
use Rattle.command_line.specs.Grammar.{subcommands, words_read}
use Rattle.command_line.specs.CommandLine.{IsDecimalDigit, IsCount, AreTaken}
use Rattle.command_line.specs.declared.taking.Command.TheVariants.{Run, Generate}
use Rattle.command_line.proofs.Digits.{of_each, unsigned}

pub simple : is_simple subcommands ≡ true
simple = refl

run_passes : takes subcommands (codes "run" ∷ []) ≡ true
unfolding clap_on_literals
run_passes = refl

run_read : words_read (subcommand_of subcommands (codes "run" ∷ [])) ≡ Some (codes "run" ∷ [])
unfolding clap_on_literals
run_read = refl

abbrev Passes : List ℕ → ℕ → Type 0
Passes bs b = is_unsigned_in 1 500 (b ∷ bs) ≡ true → takes subcommands (codes "gen" ∷ (b ∷ bs) ∷ []) ≡ true

abbrev IsRead : List ℕ → ℕ → Type 0
IsRead bs b = words_read (subcommand_of subcommands (codes "gen" ∷ (b ∷ bs) ∷ [])) ≡ Some (codes "gen" ∷ (b ∷ bs) ∷ [])

passes_48 : (bs : List ℕ) → Passes bs 48
unfolding clap_on_literals
passes_48 bs h = rw h refl

read_48 : (bs : List ℕ) → IsRead bs 48
unfolding clap_on_literals
read_48 bs = refl

passes_49 : (bs : List ℕ) → Passes bs 49
unfolding clap_on_literals
passes_49 bs h = rw h refl

read_49 : (bs : List ℕ) → IsRead bs 49
unfolding clap_on_literals
read_49 bs = refl

passes_50 : (bs : List ℕ) → Passes bs 50
unfolding clap_on_literals
passes_50 bs h = rw h refl

read_50 : (bs : List ℕ) → IsRead bs 50
unfolding clap_on_literals
read_50 bs = refl

passes_51 : (bs : List ℕ) → Passes bs 51
unfolding clap_on_literals
passes_51 bs h = rw h refl

read_51 : (bs : List ℕ) → IsRead bs 51
unfolding clap_on_literals
read_51 bs = refl

passes_52 : (bs : List ℕ) → Passes bs 52
unfolding clap_on_literals
passes_52 bs h = rw h refl

read_52 : (bs : List ℕ) → IsRead bs 52
unfolding clap_on_literals
read_52 bs = refl

passes_53 : (bs : List ℕ) → Passes bs 53
unfolding clap_on_literals
passes_53 bs h = rw h refl

read_53 : (bs : List ℕ) → IsRead bs 53
unfolding clap_on_literals
read_53 bs = refl

passes_54 : (bs : List ℕ) → Passes bs 54
unfolding clap_on_literals
passes_54 bs h = rw h refl

read_54 : (bs : List ℕ) → IsRead bs 54
unfolding clap_on_literals
read_54 bs = refl

passes_55 : (bs : List ℕ) → Passes bs 55
unfolding clap_on_literals
passes_55 bs h = rw h refl

read_55 : (bs : List ℕ) → IsRead bs 55
unfolding clap_on_literals
read_55 bs = refl

passes_56 : (bs : List ℕ) → Passes bs 56
unfolding clap_on_literals
passes_56 bs h = rw h refl

read_56 : (bs : List ℕ) → IsRead bs 56
unfolding clap_on_literals
read_56 bs = refl

passes_57 : (bs : List ℕ) → Passes bs 57
unfolding clap_on_literals
passes_57 bs h = rw h refl

read_57 : (bs : List ℕ) → IsRead bs 57
unfolding clap_on_literals
read_57 bs = refl

gen_passes : (b : ℕ) (bs : List ℕ) → IsDecimalDigit b → Passes bs b
gen_passes b bs = of_each (Passes bs) (passes_48 bs) (passes_49 bs) (passes_50 bs) (passes_51 bs) (passes_52 bs) (passes_53 bs) (passes_54 bs) (passes_55 bs) (passes_56 bs) (passes_57 bs) b

gen_read : (b : ℕ) (bs : List ℕ) → IsDecimalDigit b → IsRead bs b
gen_read b bs = of_each (IsRead bs) (read_48 bs) (read_49 bs) (read_50 bs) (read_51 bs) (read_52 bs) (read_53 bs) (read_54 bs) (read_55 bs) (read_56 bs) (read_57 bs) b

-- ---- all words that are taken

number_passes : (word : List ℕ) (count : ℕ) → IsCount word count → takes subcommands (codes "gen" ∷ word ∷ []) ≡ true
number_passes [] count is = absurd (omega (arith, is.size.0))
number_passes (b ∷ bs) count is = gen_passes b bs (All-head IsDecimalDigit b bs is.digits) (unsigned (b ∷ bs) count is)

number_read : (word : List ℕ) (count : ℕ) → IsCount word count → words_read (subcommand_of subcommands (codes "gen" ∷ word ∷ [])) ≡ Some (codes "gen" ∷ word ∷ [])
number_read [] count is = absurd (omega (arith, is.size.0))
number_read (b ∷ bs) count is = gen_read b bs (All-head IsDecimalDigit b bs is.digits)

pub taken_passes : (words : List (List ℕ)) → AreTaken words → takes subcommands words ≡ true
taken_passes words (Run, is) = rw is run_passes
taken_passes words (Generate count, (word, is, number)) = rw is (number_passes word count number)

pub taken_read : (words : List (List ℕ)) → AreTaken words → words_read (subcommand_of subcommands words) ≡ Some words
taken_read words (Run, is) = rw is run_read
taken_read words (Generate count, (word, is, number)) = rw is (number_read word count number)
