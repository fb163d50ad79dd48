use Rattle.std.proofs.Common.{inr, sym, subst}
use Rattle.tree_descent.specs.Insertion.{RefusesMember}
use Rattle.tree_descent.proofs.Refusing.{clock_load, refused_full}
use Rattle.reg_model.specs.declared.answer.Inserted.TheVariants as inserted
use Rattle.leaf_change.proofs.leaf.say_full.Goals as goal

pub load_clock-clock-requires-clause-ask : goal.load_clock-clock-requires-clause-ask
load_clock-clock-requires-clause-ask c = inr c.requires.shows

pub returns-clause-refused : goal.returns-clause-refused
returns-clause-refused c =
    let t = c.args.words.now.terms in let m = c.args.member.now in let k = c.args.me.now in let load = c.load_clock-clock in
    subst (λ s. RefusesMember t m (inserted.Full s) k load.new.me) (sym c.updates_at.ensures) (refused_full t m k load.new.me load.result load.ensures.log (load.ensures.refusal.1 c.requires.shows) load.ensures.rest)

pub returns-clause-loads : goal.returns-clause-loads
returns-clause-loads c = clock_load c.args.words.now.terms c.args.member.now c.args.me.now c.load_clock-clock.new.me c.load_clock-clock.result c.load_clock-clock.ensures.log
