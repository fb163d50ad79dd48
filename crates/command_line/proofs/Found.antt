-- What was found, as what was read.
use Rattle.std.proofs.Common.{◌≡◌, ℕ, List, [], ◌∷◌, Option, Some, None, true, false, codes, refl, sym, ap, MatchOption, option_map, is_some, unwrap_or, true≢false}
use Rattle.std.specs.Box.{box_value}
use Rattle.std.specs.Prelude.{Box}
use Rattle.std.specs.Str.{bytes_eq}
use Rattle.clap.specs.Walk.{Row, Text, first_of, rows_of}
use Rattle.clap.specs.Matches.{subcommand_name_of, found_of}
use Rattle.clap.specs.Simple.{subcommand_rows, subcommand_rows_of}
use Rattle.clap.specs.declared.parser.matches.ArgMatches.{ArgMatches}
use Rattle.clap.specs.declared.parser.matches.SubCommand.{SubCommand}
use Rattle.clap.specs.declared.parser.matches.ArgMatches.TheViews.{out-ArgMatches, out-SubCommand}
use Rattle.command_line.specs.Grammar.{words_read, words_of}
use Rattle.command_line.specs.declared.grammar.Asked.{Asked}

pub read_gen : (found : Option (Text × List Row)) (name : Text) (rows : List Row) (number : Option Text) → found ≡ Some (name, rows) → bytes_eq name (codes "run") ≡ false → bytes_eq name (codes "gen") ≡ true → first_of (codes "N") rows ≡ number
    → words_read found ≡ option_map (λ n. codes "gen" ∷ n ∷ []) number
read_gen found name rows number is other gen first = rw (is, other, gen, first) refl

pub read_words : (words : List (List ℕ)) (asked : Option Asked) → option_map words_of asked ≡ Some words → MatchOption asked ⊥ (λ a. words_of a ≡ words)
read_words words None e = absurd (true≢false (sym (ap is_some e)))
read_words words (Some asked) e = ap (λ o. unwrap_or o words) e

-- a subcommand that was found, by its name and what its arguments have
pub found_is : (m : ArgMatches) (name : Text) (rows : List Row) → Some name ≡ subcommand_name_of m → Some rows ≡ option_map (λ p. p.1) (subcommand_rows (out-ArgMatches m).subcommand) → subcommand_rows_of m ≡ Some (name, rows)
found_is m name rows = go (out-ArgMatches m).subcommand
  where
    go : {Z : Type 0} (o : Option (Box SubCommand Z)) → Some name ≡ option_map (λ b. (out-SubCommand (box_value b)).name.now) o → Some rows ≡ option_map (λ p. p.1) (subcommand_rows o) → subcommand_rows o ≡ Some (name, rows)
    go None is has = absurd (true≢false (ap is_some is))
    go (Some b) is has =
        let same : name ≡ (out-SubCommand (box_value b)).name.now = ap (λ o. unwrap_or o name) is in
        let all : rows ≡ rows_of (found_of (out-SubCommand (box_value b)).matches) = ap (λ o. unwrap_or o rows) has in
        rw (same, all) refl
