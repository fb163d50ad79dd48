use Rattle.std.proofs.Common.{◌∙◌, sym, ap, arith, nat_eq}
use Rattle.leaf_change.proofs.Absences.{none_begun, one_begun}
use Rattle.leaf_change.proofs.leaf_removal.begins_at.Goals as goal

pub returns-then-begun-eq0-clause-begins : goal.returns-then-begun-eq0-clause-begins
returns-then-begun-eq0-clause-begins c = sym (none_begun c.args.base c.args.leaf.now.content c.requires.leaf c.requires.ordered (sym c.if-begun-eq0.true ∙ c.requires.begun))

pub entry_of-entry-requires-clause-place : goal.entry_of-entry-requires-clause-place
entry_of-entry-requires-clause-place c =
    let some = c.if-begun-eq0.false in
    let few = c.requires.few in
    omega (arith, some, few)

pub returns-clause-begins : goal.returns-clause-begins
returns-clause-begins c =
    ap (λ first. nat_eq first c.args.base) c.first.ensures.value ∙ one_begun c.args.base c.args.begun c.args.leaf.now.content c.entry_of-entry.result c.requires.leaf c.requires.ordered c.if-begun-eq0.false c.requires.begun c.entry_of-entry.ensures.entry
