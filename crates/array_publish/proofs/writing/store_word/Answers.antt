use Rattle.std.proofs.Common.{◌+◌, ◌∙◌, set, sym, subst, IfSome}
use Rattle.word_rule.specs.CallerData.{CallerData}
use Rattle.word_rule.specs.Steps.{IsHeldWord}
use Rattle.array_publish.specs.Holders.{Spells, spare_words}
use Rattle.array_publish.proofs.Works.{held_spare, kept_word}
use Rattle.array_publish.proofs.writing.store_word.Goals as goal

pub returns-else-load_copy-value-clause-spells : goal.returns-else-load_copy-value-clause-spells
returns-else-load_copy-value-clause-spells c =
    let h = c.requires.work.holder in
    let held = subst (λ p. IfSome c.args.me.now.log.loader (IsHeldWord c.args.me.now.log.terms (p + c.args.at) c.load_copy.result)) c.requires.work.places.spare c.load_copy.ensures.held in
    let is = held_spare c.args.words.now.terms c.args.me.now.log.terms c.args.starts.now.copy c.args.at c.load_copy.result c.args.me.now.log.loader h.terms h.holds h.one c.requires.inside held in
    subst (λ (k : CallerData). Spells (set (spare_words c.args.me.now.log.loader) c.args.at c.args.value) c.args.me.now k) (sym c.load_copy.ensures.log) (kept_word c.args.me.now _ c.args.at c.args.value c.load_copy.result is c.if-load_copy-value.false)

pub returns-then-load_copy-value-clause-kept : goal.returns-then-load_copy-value-clause-kept
returns-then-load_copy-value-clause-kept c same =
    let h = c.requires.work.holder in
    let held = subst (λ p. IfSome c.args.me.now.log.loader (IsHeldWord c.args.me.now.log.terms (p + c.args.at) c.load_copy.result)) c.requires.work.places.spare c.load_copy.ensures.held in
    let is = held_spare c.args.words.now.terms c.args.me.now.log.terms c.args.starts.now.copy c.args.at c.load_copy.result c.args.me.now.log.loader h.terms h.holds h.one c.requires.inside held in
    absurd (c.if-load_copy-value.true (sym is ∙ same))
