use Rattle.std.proofs.Common.{sym, subst}
use Rattle.leaf_change.specs.Replacement.{RefusesReplacement}
use Rattle.leaf_change.proofs.Replacings.{shows_no_span, unspanned_so}
use Rattle.reg_model.specs.declared.answer.Replaced.TheVariants as replaced
use Rattle.leaf_change.proofs.replacing.none_with.Goals as goal

pub load_clock-clock-requires-clause-ask : goal.load_clock-clock-requires-clause-ask
load_clock-clock-requires-clause-ask c = shows_no_span c.args.words.now.terms c.args.leaf.now c.args.member.now c.args.me.now c.requires.alone c.requires.level c.requires.here c.requires.none

pub returns : goal.returns
returns c =
    subst (λ s. RefusesReplacement c.args.words.now.terms c.args.member.now (replaced.NotFound s) c.args.me.now c.load_clock-clock.new.me) (sym c.updates_at.ensures)
    (unspanned_so c.args.words.now.terms c.args.leaf.now c.args.member.now c.args.me.now c.requires.alone c.requires.level c.requires.here c.requires.none c.load_clock-clock.new.me c.load_clock-clock.result c.load_clock-clock.ensures.log c.load_clock-clock.ensures.refusal c.load_clock-clock.ensures.rest)
