use Rattle.std.proofs.Common.{◌≡◌, get_or, sym, ap, ◌∙◌, eq-eqb}
use Rattle.std.proofs.lemmas.Bool.{eqb-true}
use Rattle.word_rule.specs.CallerData.{CallerData}
use Rattle.array_publish.specs.Holders.{active_words, member_in, spare_words}
use Rattle.array_publish.proofs.Works.{loads_then}
use Rattle.array_publish.proofs.other.begin_alike.Goals as goal

pub returns-clause-loads : goal.returns-clause-loads
returns-clause-loads c = loads_then _ _ _ c.active_word-first.ensures.loads c.other_word-other.ensures.loads

pub returns-clause-alike : goal.returns-clause-alike
returns-clause-alike c =
    let k0 : CallerData = c.args.me.now in
    let first : c.active_word-first.result ≡ (member_in (active_words k0.log.loader) c.args.index).span.first = c.active_word-first.ensures.value ∙ ap (λ p. get_or (active_words k0.log.loader) p 0) c.place_of_member-place.ensures in
    let other : c.other_word-other.result ≡ (member_in (spare_words k0.log.loader) c.args.index).span.first = c.other_word-other.ensures.value ∙ (λ i. get_or (spare_words (c.active_word-first.ensures.loads.kept i)) (c.place_of_member-place.ensures i) 0) in
    ((λ e. sym first ∙ (eqb-true c.active_word-first.result c.other_word-other.result e ∙ other)), (λ e. eq-eqb c.active_word-first.result c.other_word-other.result (first ∙ (e ∙ sym other))))
