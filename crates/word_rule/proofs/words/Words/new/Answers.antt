use Rattle.std.proofs.Common.{length, List, ℕ, [], ◌∷◌, sym, ap, ◌∙◌, subst, arith}
use Rattle.word_rule.specs.declared.rule.Made.{Made}
use Rattle.word_rule.specs.declared.log.Terms.{Terms}
use Rattle.word_rule.specs.Key.{terms_of}
use Rattle.word_rule.specs.Logs.{first_log}
use Rattle.word_rule.specs.TableInvariant.{TableInvariant}
use Rattle.word_rule.proofs.InitialCallers.{initial_length}
use Rattle.word_rule.proofs.InitialTable.{table_begins}
use Rattle.word_rule.proofs.words.Words.new.Goals as goal

pub of_words-requires : goal.of_words-requires
of_words-requires c =
    let t : Terms = record { nodes = c.args.nodes; loads = c.args.loads; payloads = c.args.payloads; fixed = c.args.fixed.items } in
    subst (λ (m : Made). TableInvariant (terms_of m) c.as_slice.result.now (first_log (terms_of m) ∷ [])) (sym c.of-key.ensures)
    (subst (λ (w : List ℕ). TableInvariant t w (first_log t ∷ [])) (sym (c.as_slice.ensures.value ∙ c.in_ok-words.ensures))
    (table_begins t (record { nodes = c.requires.nodes; loads = c.requires.loads; fixed = c.requires.ascending; payloads = omega (arith, c.ranges.payloads); members = c.requires.members })))

pub invariant_of-result : goal.invariant_of-result
invariant_of-result c =
    let t : Terms = record { nodes = c.args.nodes; loads = c.args.loads; payloads = c.args.payloads; fixed = c.args.fixed.items } in
    let told = c.in_ok-table.ensures in
    (ap (λ k. k.value) told.5 ∙ c.of-key.ensures, told.0 ∙ (ap length (c.as_slice.ensures.value ∙ c.in_ok-words.ensures) ∙ initial_length t), told.1, c.requires.nodes.1, c.requires.nodes.0)
