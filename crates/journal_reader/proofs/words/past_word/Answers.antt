use Rattle.std.proofs.Common.{◌≡◌, ◌≢◌, List, ℕ, ◌++◌, MatchOption, subst}
use Rattle.std.proofs.lemmas.Bool.Decides.{Decides-eqb}
use Rattle.std.proofs.lemmas.Slice.Eq.{strip_prefix_is}
use Rattle.journal_reader.proofs.Cuts.{past_from}
use Rattle.journal_reader.proofs.words.past_word.Goals as goal

pub returns : goal.returns
returns c =
    past_from c.args.word.now c.args.text.now c.strip_prefix.result
    (subst (λ (w : List ℕ). MatchOption c.strip_prefix.result ((rest : List ℕ) → c.args.text.now ≢ w ++ rest) (λ x. c.args.text.now ≡ w ++ x.now)) c.as_bytes.ensures.value
    (strip_prefix_is Decides-eqb c.args.text.now c.as_bytes.result.now c.strip_prefix.result c.strip_prefix.ensures.cases))
