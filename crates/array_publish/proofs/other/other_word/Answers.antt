use Rattle.std.proofs.Common.{◌+◌, sym, subst, IfSome}
use Rattle.word_rule.specs.Steps.{IsHeldWord}
use Rattle.array_publish.proofs.Works.{held_spare, loads_one}
use Rattle.array_publish.proofs.other.other_word.Goals as goal

pub returns-clause-loads : goal.returns-clause-loads
returns-clause-loads c = loads_one c.args.me.now _ _ c.load_copy.result c.load_copy.ensures.log

pub returns-clause-value : goal.returns-clause-value
returns-clause-value c =
    let h = c.requires.work.holder in
    let held = subst (λ p. IfSome c.args.me.now.log.loader (IsHeldWord c.args.me.now.log.terms (p + c.args.at) c.load_copy.result)) c.requires.work.places.spare c.load_copy.ensures.held in
    sym (held_spare c.args.words.now.terms c.args.me.now.log.terms c.args.starts.now.copy c.args.at c.load_copy.result c.args.me.now.log.loader h.terms h.holds h.one c.requires.inside held)
