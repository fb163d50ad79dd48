use Rattle.std.proofs.Common.{sym, ap, ◌∙◌, subst, length}
use Rattle.word_rule.specs.Callers.{IsAlone, IsWhole}
use Rattle.word_rule.specs.Logs.{is_nameless}
use Rattle.word_rule.proofs.Alone.{closes}
use Rattle.word_rule.proofs.words.Words.close.Goals as goal

pub returns-clause-number : goal.returns-clause-number
returns-clause-number c =
    let all = closes _ _ _ _ _ _ (ap is_nameless c.me.invariant.role) (subst (λ k. IsAlone k.log.lineage) (sym c.me.view_is) c.requires.alone) c.close_with-closed.ensures.values.2 c.word-clock.ensures in
    c.updates_at.ensures ∙ all.0 ∙ ap (λ k. length k.log.past) c.me.view_is

pub returns-clause-whole : goal.returns-clause-whole
returns-clause-whole c =
    let all = closes _ _ _ _ _ _ (ap is_nameless c.me.invariant.role) (subst (λ k. IsAlone k.log.lineage) (sym c.me.view_is) c.requires.alone) c.close_with-closed.ensures.values.2 c.word-clock.ensures in
    subst (λ k. IsWhole k.log) c.me.view_is all.1
