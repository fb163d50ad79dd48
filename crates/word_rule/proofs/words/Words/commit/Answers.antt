use Rattle.std.proofs.Common.{◌+◌, ◌<◌, ap, sym, subst, arith}
use Rattle.word_rule.specs.CallerData.{due}
use Rattle.word_rule.specs.Commits.{AfterCommit, MayCommit}
use Rattle.word_rule.proofs.KeptVersions.{caller_committed}
use Rattle.word_rule.proofs.words.Words.commit.Goals as goal

pub commit_for-found-requires-clause-may : goal.commit_for-found-requires-clause-may
commit_for-found-requires-clause-may c = subst (λ k. MayCommit c.args.self.now.terms c.args.update k.log) (sym c.me.view_is) c.requires.may

pub invariant_of-me : goal.invariant_of-me
invariant_of-me c =
    let d = subst (λ k. 0 < due k) (sym c.me.view_is) c.requires.due in
    caller_committed _ _ _ _ _ _ _ c.args.update c.commit_for-found.result c.commit_for-found.ensures.log c.commit_for-found.ensures.same.2 (omega (arith, d)) (ap (λ n. n + 1) c.updates_at.ensures) c.me.invariant

pub returns-clause-log : goal.returns-clause-log
returns-clause-log c = (c.commit_for-found.result, subst (λ k. AfterCommit c.args.update c.commit_for-found.result k.log c.commit_for-found.new.seat.me.0) c.me.view_is c.commit_for-found.ensures.log)
