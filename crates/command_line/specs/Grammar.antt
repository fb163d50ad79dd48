-- The command line as `clap` reads it.
use Rattle.std.specs.Prelude.{List, ℕ, [], ◌∷◌, Option, Some, None, true, codes, option_map}
use Rattle.std.specs.Prelude.{if◌then◌else◌}
use Rattle.std.specs.Str.{bytes_eq}
use Rattle.clap.specs.Walk.{Rule, Row, Text, first_of}
use Rattle.clap.specs.Simple.{App, new_app, new_rule, new_shape, with_rule, with_subcommand, on_top}
use Rattle.clap.specs.declared.builder.value_parser.ValueParser.TheVariants as parsers
use Rattle.command_line.specs.declared.count.TheConstants.{MOST_IMAGES}
use Rattle.command_line.specs.declared.grammar.Asked.{Asked}
use Rattle.command_line.specs.declared.grammar.Asked.TheVariants.{Run, Generate}

-- a required number from 1 to 500
abbrev pub number_rule : Rule
number_rule = record (new_rule (codes "N")) {
  required = true;
  parser = Some (parsers.Unsigned 1 MOST_IMAGES);
}

-- the program, without its own name among the words, and which one of these it asks for: `run`,
-- without arguments, or `gen`, with a number
abbrev pub program : App
program = on_top (λ shape. record shape { no_binary_name = true; subcommand_required = true })
    (new_app (codes "unwind_main"))

abbrev pub subcommands : App
subcommands = with_subcommand (with_subcommand program (new_shape (codes "run")))
    (with_rule (new_app (codes "gen")) number_rule).top

-- what was read, in its plainest words
abbrev pub words_of : Asked → List (List ℕ)
words_of Run = codes "run" ∷ []
words_of (Generate number) = codes "gen" ∷ number.now ∷ []

-- the same of what was found: the name of the subcommand, and what its argument has
abbrev pub words_read : Option (Text × List Row) → Option (List (List ℕ))
words_read None = None
words_read (Some (name, rows)) =
    if bytes_eq name (codes "run") then Some (codes "run" ∷ [])
    else (if bytes_eq name (codes "gen")
    then option_map (λ number. codes "gen" ∷ number ∷ []) (first_of (codes "N") rows) else None)
