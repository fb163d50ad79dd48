use Rattle.std.proofs.Common.{inl, sym, subst}
use Rattle.node_store.proofs.Outlined.{loads_hold}
use Rattle.tree_descent.specs.Insertion.{RefusesMember}
use Rattle.tree_descent.specs.Stands.{StandsAt}
use Rattle.tree_descent.proofs.Lowering.{settled_live, settled_order}
use Rattle.tree_descent.proofs.Outlining.{stands_spelled, steps_of_loads}
use Rattle.tree_descent.proofs.Refusing.{refused_after, refused_so, shows_overlap}
use Rattle.tree_descent.proofs.Putting.{leaf_at_zero}
use Rattle.reg_model.specs.declared.answer.Inserted.TheVariants as inserted
use Rattle.leaf_change.proofs.leaf.refused.Goals as goal

pub overlap_in-requires-clause-inside : goal.overlap_in-requires-clause-inside
overlap_in-requires-clause-inside c = c.requires.stands.within

pub overlap_in-requires-clause-spells : goal.overlap_in-requires-clause-spells
overlap_in-requires-clause-spells c = stands_spelled c.args.words.now.terms c.args.leaf.now c.args.me.now.log c.requires.stands

pub overlap_in-requires-clause-leaf : goal.overlap_in-requires-clause-leaf
overlap_in-requires-clause-leaf c =
    let at = c.args.leaf.now in let s = c.requires.stands in
    leaf_at_zero at.content (settled_live c.args.words.now.terms at.node at.content at.changed s.lock s.here).1.1.ordered c.requires.level

pub overlap_in-requires-clause-ordered : goal.overlap_in-requires-clause-ordered
overlap_in-requires-clause-ordered c =
    let at = c.args.leaf.now in let s = c.requires.stands in
    settled_order c.args.words.now.terms at.node at.content at.changed s.lock s.here

pub load_clock-clock-requires-clause-ask : goal.load_clock-clock-requires-clause-ask
load_clock-clock-requires-clause-ask c =
    let t = c.args.words.now.terms in let at = c.args.leaf.now in let k = c.args.me.now in let k1 = c.overlap_in.new.me in
    let stands = subst (StandsAt t at) (sym (loads_hold k k1 c.overlap_in.ensures.loads)) c.requires.stands in
    inl (c.in_ok-other.other, shows_overlap t at.node at.content at.changed c.args.member.now c.in_ok-other.other k1 stands c.requires.level c.requires.here c.in_ok-other.ensures.found)

pub returns-clause-overlaps : goal.returns-clause-overlaps
returns-clause-overlaps c =
    let t = c.args.words.now.terms in let at = c.args.leaf.now in let k = c.args.me.now in let k1 = c.overlap_in.new.me in
    let same = loads_hold k k1 c.overlap_in.ensures.loads in
    let stands = subst (StandsAt t at) (sym same) c.requires.stands in
    subst (λ s. RefusesMember t c.args.member.now (inserted.Overlap c.in_ok-other.other s) k c.load_clock-clock.new.me) (sym c.updates_at.ensures)
    (refused_after t c.args.member.now _ k k1 c.load_clock-clock.new.me same (steps_of_loads k k1 c.overlap_in.ensures.loads)
    (refused_so t at.node at.content at.changed c.args.member.now c.in_ok-other.other k1 stands c.requires.level c.requires.here c.in_ok-other.ensures.found
    c.load_clock-clock.new.me c.load_clock-clock.result c.load_clock-clock.ensures.log c.load_clock-clock.ensures.refusal c.load_clock-clock.ensures.rest))
