use Rattle.std.proofs.Common.{sym, ap, ◌∙◌, subst, length, ◌<◌, ◌-◌, get_or}
use Rattle.std.proofs.lemmas.Option.{get_or_from_slice_get}
use Rattle.tree_shape.specs.NodeData.{pairs_of}
use Rattle.tree_shape.specs.declared.pair.Pair.{Pair}
use Rattle.tree_descent.proofs.Descending.{slot_branch}
use Rattle.tree_descent.proofs.Outlining.{loads_then, spells_later}
use Rattle.tree_descent.proofs.descent.child_for.Goals as goal

pub pair_of-requires-clause-spells : goal.pair_of-requires-clause-spells
pair_of-requires-clause-spells c = spells_later c.args.at.now.node c.args.at.now.content c.args.me.now.log c.slot_of-slot.new.me.log c.slot_of-slot.ensures.holdings c.requires.spells

pub returns-clause-child : goal.returns-clause-child
returns-clause-child c =
    let s = c.args.at.now.content in
    let d : Pair = record { child = 0; separator = 0 } in
    let slot = c.slot_of-slot.ensures.first in
    let b = slot_branch (s.level - 1) s.low c.args.pc (pairs_of s) d c.requires.here.0 (subst (λ k. k < length (pairs_of s)) slot c.slot_of-slot.ensures.found) in
    let pair = get_or_from_slice_get (pairs_of s) c.slot_of-slot.result c.pair_of.result d c.pair_of.ensures.pair in
    (b.0, (b.1.0, b.1.1 ∙ (ap (λ k. (get_or (pairs_of s) k d).child) (sym slot) ∙ ap (λ (p : Pair). p.child) pair), b.1.2, b.1.3))

pub returns-clause-loads : goal.returns-clause-loads
returns-clause-loads c = loads_then c.args.me.now c.slot_of-slot.new.me c.pair_of.new.me c.slot_of-slot.ensures.loads c.pair_of.ensures.loads
