use Rattle.std.proofs.Common.{◌∙◌, ap, sym, codes, option_map}
use Rattle.std.proofs.lemmas.Bool.{not-false}
use Rattle.clap.specs.Matches.{found_of}
use Rattle.clap.proofs.WalkLemmas.{first_value-rows}
use Rattle.command_line.specs.Grammar.{words_of}
use Rattle.command_line.proofs.Found.{found_is, read_gen}
use Rattle.command_line.proofs.grammar.read_from.Goals as goal

pub returns-in_err-number : goal.returns-in_err-number
returns-in_err-number c =
    let found = found_is c.args.matches.now _ _ c.in_ok-name.ensures.name c.in_ok-name.ensures.rows in
    let other = sym c.eq.ensures ∙ c.if-eq.false in
    let gen = not-false _ (sym c.ne.ensures ∙ c.if-ne.false) in
    let given = sym (c.in_err-number.ensures ∙ first_value-rows (found_of c.in_ok-name.inner.now) (codes "N")) in
    ap (option_map words_of) c.from_residual-in_err-number.ensures ∙ sym (read_gen _ _ _ _ found other gen given)

pub returns : goal.returns
returns c =
    let found = found_is c.args.matches.now _ _ c.in_ok-name.ensures.name c.in_ok-name.ensures.rows in
    let other = sym c.eq.ensures ∙ c.if-eq.false in
    let gen = not-false _ (sym c.ne.ensures ∙ c.if-ne.false) in
    let given = sym (c.in_ok-number.ensures ∙ first_value-rows (found_of c.in_ok-name.inner.now) (codes "N")) in
    sym (read_gen _ _ _ _ found other gen given)
