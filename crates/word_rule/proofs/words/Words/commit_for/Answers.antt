use Rattle.std.proofs.Common.{sym, ap, ◌∙◌, subst, arith}
use Rattle.word_rule.specs.Key.{terms_of}
use Rattle.word_rule.specs.Commits.{MayCommit}
use Rattle.word_rule.specs.declared.log.Terms.{Terms}
use Rattle.word_rule.proofs.Committing.{commits_of}
use Rattle.word_rule.proofs.words.Words.commit_for.Goals as goal

pub fetch_add-requires : goal.fetch_add-requires
fetch_add-requires g c =
    let may = subst (λ (t : Terms). MayCommit t c.args.update c.args.seat.now.me.0) (ap (λ k. k.terms) (sym c.self.view_is) ∙ ap terms_of (sym c.self.invariant.0)) c.requires.may in (
      c.requires.table ∙ sym (ap (λ k. k.table) c.self.view_is),
      omega (arith, c.self.invariant.1),
      commits_of _ _ _ _ c.requires.caller c.exchange_laws.ensures (record { members = c.order.ensures.entries; ascending = c.order.ensures.ascending }) c.decided.ensures _ _ c.requires.about may,
    )
