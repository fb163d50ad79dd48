use Rattle.std.proofs.Common.{◌∙◌, sym, subst}
use Rattle.node_store.proofs.Outlined.{loads_hold}
use Rattle.tree_descent.specs.Removing.{HoldsAlone}
use Rattle.tree_descent.proofs.Outlining.{alone_spells}
use Rattle.tree_descent.proofs.Lowering.{settled_live, settled_order}
use Rattle.tree_descent.proofs.Putting.{leaf_at_zero}
use Rattle.leaf_change.specs.Takings.{RefusesBase}
use Rattle.leaf_change.proofs.Absences.{absent_after, absent_so, none_of, shows_none}
use Rattle.reg_model.specs.declared.answer.Removed.TheVariants as removed
use Rattle.leaf_change.proofs.leaf_removal.not_found.Goals as goal

pub begins_at-begins-requires-clause-spells : goal.begins_at-begins-requires-clause-spells
begins_at-begins-requires-clause-spells c = alone_spells c.args.words.now.terms c.args.leaf.now c.args.me.now.log c.requires.alone

pub begins_at-begins-requires-clause-leaf : goal.begins_at-begins-requires-clause-leaf
begins_at-begins-requires-clause-leaf c =
    let at = c.args.leaf.now in
    leaf_at_zero at.content (settled_live c.args.words.now.terms at.node at.content at.changed c.requires.alone.lock c.requires.alone.here).1.1.ordered c.requires.level

pub begins_at-begins-requires-clause-ordered : goal.begins_at-begins-requires-clause-ordered
begins_at-begins-requires-clause-ordered c =
    let at = c.args.leaf.now in
    settled_order c.args.words.now.terms at.node at.content at.changed c.requires.alone.lock c.requires.alone.here

pub load_clock-clock-requires-clause-ask : goal.load_clock-clock-requires-clause-ask
load_clock-clock-requires-clause-ask c =
    let t = c.args.words.now.terms in let at = c.args.leaf.now in let k = c.args.me.now in let k1 = c.begins_at-begins.new.me in
    let none = none_of _ (sym c.begins_at-begins.ensures.begins ∙ c.if-begins.false) in
    let alone = subst (HoldsAlone t at) (sym (loads_hold k k1 c.begins_at-begins.ensures.loads)) c.requires.alone in
    shows_none t at c.args.base k1 alone c.requires.level c.requires.here none

pub returns-clause-none : goal.returns-clause-none
returns-clause-none c =
    let t = c.args.words.now.terms in let at = c.args.leaf.now in let k = c.args.me.now in let k1 = c.begins_at-begins.new.me in
    let none = none_of _ (sym c.begins_at-begins.ensures.begins ∙ c.if-begins.false) in
    let alone = subst (HoldsAlone t at) (sym (loads_hold k k1 c.begins_at-begins.ensures.loads)) c.requires.alone in
    subst (λ s. RefusesBase t c.args.base (removed.NotFound s) k c.load_clock-clock.new.me) (sym c.updates_at.ensures)
    (absent_after t c.args.base _ k k1 c.load_clock-clock.new.me c.begins_at-begins.ensures.loads
    (absent_so t at c.args.base k1 alone c.requires.level c.requires.here none
    c.load_clock-clock.new.me c.load_clock-clock.result c.load_clock-clock.ensures.log c.load_clock-clock.ensures.refusal c.load_clock-clock.ensures.rest))
