use Rattle.std.proofs.Common.{◌≡◌, ◌∙◌, ap, sym, map, List, ℕ}
use Rattle.std.specs.String.{string_bytes}
use Rattle.std.proofs.lemmas.Bool.{false≢true}
use Rattle.clap.specs.Simple.{App, is_simple, subcommand_of}
use Rattle.clap.specs.Takes.{takes}
use Rattle.clap.specs.declared.error.kind.ErrorKind.TheVariants.{OutOfMemory}
use Rattle.command_line.specs.Grammar.{words_read}
use Rattle.command_line.proofs.Found.{read_words}
use Rattle.command_line.proofs.Taken.{simple, taken_passes, taken_read}
use Rattle.command_line.proofs.grammar.parse.Goals as goal

pub returns-in-Ok : goal.returns-in-Ok
returns-in-Ok c = λ taken.
    let words : List (List ℕ) = map string_bytes c.args.words.now in
    let app = c.in_ok-grammar.ensures in
    let found = c.in-Ok.ensures.matches (ap is_simple app ∙ simple) in
    read_words words _ (c.read_from.ensures ∙ ap words_read found.1 ∙ ap (λ (a : App). words_read (subcommand_of a words)) app ∙ taken_read words taken)

pub returns : goal.returns
returns c = λ taken.
    let words : List (List ℕ) = map string_bytes c.args.words.now in
    let app = c.in_ok-grammar.ensures in
    let wanting : c.kind.result ≡ OutOfMemory = c.kind.ensures ∙ c.in-Err.ensures.passes (ap (λ (a : App). takes a words) app ∙ taken_passes words taken) in
    let hit = rw wanting at c.eq.ensures in
    false≢true (sym c.if-eq.false ∙ hit)
