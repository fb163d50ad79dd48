use Rattle.std.proofs.Common.{◌≡◌, ◌+◌, ◌*◌, ◌<◌, ℕ, ap, subst, arith, ◌∙◌, length}
use Rattle.tree_shape.specs.NodeData.{NodeData, pairs_of}
use Rattle.word_rule.specs.CallerData.{CallerData}
use Rattle.word_rule.specs.declared.log.Budget.{Budget}
use Rattle.word_rule.specs.NodeTells.{KnowsTree}
use Rattle.word_rule.specs.Sights.{after_node_load}
use Rattle.word_rule.specs.Places.{CALL_CREDIT}
use Rattle.node_store.specs.Holding.{ReadsHeld}
use Rattle.tree_descent.specs.Paths.{StepsOnNodes}
use Rattle.tree_descent.proofs.Descending.{steps_of_read}
use Rattle.tree_descent.proofs.Descents.{steps_of_load}
use Rattle.tree_descent.proofs.Loading.{keeps_load, keeps_then}
use Rattle.tree_descent.proofs.NodeSteps.{steps_then}
use Rattle.fence_move.proofs.NextLeaves.{after_inside, may_read_next, top_above, top_is}
use Rattle.fence_move.proofs.RaisedFences.{content_inner, may_store_top, moves_fence, pending, settled_by, spines3, steps_top, top_most, wrote_so}
use Rattle.fence_move.proofs.WrittenSpines.{loads_of_write}
use Rattle.fence_move.proofs.fence.raise_fence.Goals as goal

-- the tree that a load told of
tree_at : (k k1 : CallerData) → k1.log.holdings ≡ k.log.holdings → KnowsTree k1.log.holdings → KnowsTree k.log.holdings
tree_at k k1 same tree = subst KnowsTree same tree

steps2 : (x found : ℕ) (shape : NodeData) (k k1 k2 : CallerData) → ReadsHeld x k k1 shape → k2 ≡ record k1 { log = after_node_load x 2 found k1.log } → StepsOnNodes k k2
steps2 x found shape k k1 k2 reads loads = steps_then k k1 k2 (steps_of_read x k k1 shape reads) (steps_of_load x 2 found k1 k2 loads)

-- what a slot has that has another after it
before : (a b : ℕ) → a + 1 < b → a < b
before a b h = omega (arith, h)

pub read_held-content-requires-clause-inside : goal.read_held-content-requires-clause-inside
read_held-content-requires-clause-inside g c = c.requires.next.0.way.within

pub read_held-content-requires-clause-held : goal.read_held-content-requires-clause-held
read_held-content-requires-clause-held g c = may_read_next c.args.words.now.terms c.args.above.now.node c.args.above.now.slot c.args.me.now c.requires.next.0

pub load_node-requires-clause-inside : goal.load_node-requires-clause-inside
load_node-requires-clause-inside g c = c.requires.next.0.way.within

pub pair_at-left-requires : goal.pair_at-left-requires
pair_at-left-requires g c = before c.args.above.now.slot (length (pairs_of c.read_held-content.result)) (after_inside c.args.words.now.terms c.args.above.now.node c.args.above.now.slot c.args.me.now c.read_held-content.new.me c.requires.next.0 c.read_held-content.result c.read_held-content.ensures.reads)

pub pair_after-right-requires : goal.pair_after-right-requires
pair_after-right-requires g c = after_inside c.args.words.now.terms c.args.above.now.node c.args.above.now.slot c.args.me.now c.read_held-content.new.me c.requires.next.0 c.read_held-content.result c.read_held-content.ensures.reads

pub level_below-level-requires : goal.level_below-level-requires
level_below-level-requires g c = top_above c.args.words.now.terms c.args.above.now.node c.args.above.now.slot c.args.me.now c.read_held-content.new.me c.requires.next.0 c.read_held-content.result c.read_held-content.ensures.reads

pub set_separator-raised-requires-clause-inner : goal.set_separator-raised-requires-clause-inner
set_separator-raised-requires-clause-inner g c = content_inner c.args.words.now.terms c.args.above.now.node c.args.above.now.slot c.args.fence c.args.me.now c.requires.next.0 (tree_at c.args.me.now c.read_held-content.new.me c.read_held-content.ensures.holdings c.load_node.ensures.tree) c.requires.next.1 c.requires.next.2 c.requires.next.3 c.read_held-content.new.me c.load_node.new.me c.read_held-content.result c.read_held-content.ensures.reads (ap (λ (z : CallerData). z.log.holdings) c.load_node.ensures.log ∙ c.read_held-content.ensures.holdings)

pub set_separator-raised-requires-clause-slot : goal.set_separator-raised-requires-clause-slot
set_separator-raised-requires-clause-slot g c = before c.args.above.now.slot (length (pairs_of c.read_held-content.result)) (after_inside c.args.words.now.terms c.args.above.now.node c.args.above.now.slot c.args.me.now c.read_held-content.new.me c.requires.next.0 c.read_held-content.result c.read_held-content.ensures.reads)

pub write_held-requires-clause-inside : goal.write_held-requires-clause-inside
write_held-requires-clause-inside g c = c.requires.next.0.way.within

pub write_held-requires-clause-may : goal.write_held-requires-clause-may
write_held-requires-clause-may g c = may_store_top c.args.words.now.terms c.args.above.now.node c.args.above.now.slot c.args.fence c.args.me.now c.requires.next.0 (tree_at c.args.me.now c.read_held-content.new.me c.read_held-content.ensures.holdings c.load_node.ensures.tree) c.requires.next.1 c.requires.next.2 c.requires.next.3 c.read_held-content.new.me c.load_node.new.me c.read_held-content.result c.read_held-content.ensures.reads (ap (λ (z : CallerData). z.log.holdings) c.load_node.ensures.log ∙ c.read_held-content.ensures.holdings)

pub write_spines-requires-clause-table : goal.write_spines-requires-clause-table
write_spines-requires-clause-table g c = (steps_then c.args.me.now c.load_node.new.me c.write_held.new.me (steps2 c.args.above.now.node c.load_node.result c.read_held-content.result c.args.me.now c.read_held-content.new.me c.load_node.new.me c.read_held-content.ensures.reads c.load_node.ensures.log) (steps_top c.args.words.now.terms c.args.above.now.node c.args.above.now.slot c.args.fence c.args.me.now c.requires.next.0 (tree_at c.args.me.now c.read_held-content.new.me c.read_held-content.ensures.holdings c.load_node.ensures.tree) c.requires.next.1 c.requires.next.2 c.requires.next.3 c.read_held-content.new.me c.load_node.new.me c.read_held-content.result c.read_held-content.ensures.reads (ap (λ (z : CallerData). z.log.holdings) c.load_node.ensures.log ∙ c.read_held-content.ensures.holdings) c.write_held.new.me c.set_separator-raised.result c.set_separator-raised.ensures c.write_held.ensures.stores c.write_held.ensures.spells)).calls.caller.table ∙ c.requires.table

pub write_spines-requires-clause-spines : goal.write_spines-requires-clause-spines
write_spines-requires-clause-spines g c = spines3 c.args.words.now.terms c.args.above.now.node c.args.above.now.slot c.args.fence c.args.me.now c.requires.next.0 (tree_at c.args.me.now c.read_held-content.new.me c.read_held-content.ensures.holdings c.load_node.ensures.tree) c.requires.next.1 c.requires.next.2 c.requires.next.3 c.read_held-content.new.me c.load_node.new.me c.read_held-content.result c.read_held-content.ensures.reads (ap (λ (z : CallerData). z.log.holdings) c.load_node.ensures.log ∙ c.read_held-content.ensures.holdings) c.write_held.new.me c.set_separator-raised.result c.set_separator-raised.ensures c.write_held.ensures.stores c.write_held.ensures.spells c.pair_at-left.result c.pair_after-right.result c.pair_at-left.ensures c.pair_after-right.ensures c.level_below-level.result c.level_below-level.ensures

pub settle_spine-requires-clause-table : goal.settle_spine-requires-clause-table
settle_spine-requires-clause-table g c = (steps_then c.args.me.now c.write_held.new.me c.write_spines.new.me (steps_then c.args.me.now c.load_node.new.me c.write_held.new.me (steps2 c.args.above.now.node c.load_node.result c.read_held-content.result c.args.me.now c.read_held-content.new.me c.load_node.new.me c.read_held-content.ensures.reads c.load_node.ensures.log) (steps_top c.args.words.now.terms c.args.above.now.node c.args.above.now.slot c.args.fence c.args.me.now c.requires.next.0 (tree_at c.args.me.now c.read_held-content.new.me c.read_held-content.ensures.holdings c.load_node.ensures.tree) c.requires.next.1 c.requires.next.2 c.requires.next.3 c.read_held-content.new.me c.load_node.new.me c.read_held-content.result c.read_held-content.ensures.reads (ap (λ (z : CallerData). z.log.holdings) c.load_node.ensures.log ∙ c.read_held-content.ensures.holdings) c.write_held.new.me c.set_separator-raised.result c.set_separator-raised.ensures c.write_held.ensures.stores c.write_held.ensures.spells)) c.write_spines.ensures.same).calls.caller.table ∙ c.requires.table

pub settle_spine-requires-clause-spine : goal.settle_spine-requires-clause-spine
settle_spine-requires-clause-spine g c = pending c.args.words.now.terms c.args.above.now.node c.args.above.now.slot c.args.fence c.args.me.now c.requires.next.0 (tree_at c.args.me.now c.read_held-content.new.me c.read_held-content.ensures.holdings c.load_node.ensures.tree) c.requires.next.1 c.requires.next.2 c.requires.next.3 c.read_held-content.new.me c.load_node.new.me c.read_held-content.result c.read_held-content.ensures.reads (ap (λ (z : CallerData). z.log.holdings) c.load_node.ensures.log ∙ c.read_held-content.ensures.holdings) c.write_held.new.me c.set_separator-raised.result c.set_separator-raised.ensures c.write_held.ensures.stores c.write_held.ensures.spells c.write_spines.new.me (wrote_so c.args.words.now.terms c.args.above.now.node c.args.above.now.slot c.args.fence c.args.me.now c.requires.next.0 (tree_at c.args.me.now c.read_held-content.new.me c.read_held-content.ensures.holdings c.load_node.ensures.tree) c.requires.next.1 c.requires.next.2 c.requires.next.3 c.read_held-content.new.me c.load_node.new.me c.read_held-content.result c.read_held-content.ensures.reads (ap (λ (z : CallerData). z.log.holdings) c.load_node.ensures.log ∙ c.read_held-content.ensures.holdings) c.write_held.new.me c.set_separator-raised.result c.set_separator-raised.ensures c.write_held.ensures.stores c.write_held.ensures.spells c.pair_at-left.result c.pair_after-right.result c.pair_at-left.ensures c.pair_after-right.ensures c.level_below-level.result c.level_below-level.ensures c.write_spines.new.me c.write_spines.ensures.writes) c.move_fence.ensures.change (record { decided = c.exchange_decided.ensures; transfer = c.transfer.ensures.lawful; reached = c.transfer.ensures.reached; widen = c.widen.ensures.lawful; wider = c.widen.ensures.reached }) c.pair_after-right.result c.pair_after-right.ensures c.level_below-level.result c.level_below-level.ensures

pub settle_spine-requires-clause-surplus : goal.settle_spine-requires-clause-surplus
settle_spine-requires-clause-surplus g c = (let steps = (steps_then c.args.me.now c.write_held.new.me c.write_spines.new.me (steps_then c.args.me.now c.load_node.new.me c.write_held.new.me (steps2 c.args.above.now.node c.load_node.result c.read_held-content.result c.args.me.now c.read_held-content.new.me c.load_node.new.me c.read_held-content.ensures.reads c.load_node.ensures.log) (steps_top c.args.words.now.terms c.args.above.now.node c.args.above.now.slot c.args.fence c.args.me.now c.requires.next.0 (tree_at c.args.me.now c.read_held-content.new.me c.read_held-content.ensures.holdings c.load_node.ensures.tree) c.requires.next.1 c.requires.next.2 c.requires.next.3 c.read_held-content.new.me c.load_node.new.me c.read_held-content.result c.read_held-content.ensures.reads (ap (λ (z : CallerData). z.log.holdings) c.load_node.ensures.log ∙ c.read_held-content.ensures.holdings) c.write_held.new.me c.set_separator-raised.result c.set_separator-raised.ensures c.write_held.ensures.stores c.write_held.ensures.spells)) c.write_spines.ensures.same) in let b = ap (λ (z : Budget). z.credit) steps.budget in let l = ap (λ z. CALL_CREDIT * z) steps.calls.caller.left in let m = top_most c.args.words.now.terms c.args.above.now.node c.args.above.now.slot c.args.fence c.args.me.now c.requires.next.0 (tree_at c.args.me.now c.read_held-content.new.me c.read_held-content.ensures.holdings c.load_node.ensures.tree) c.requires.next.1 c.requires.next.2 c.requires.next.3 in let e = ap (λ (s : NodeData). s.level) (top_is c.args.words.now.terms c.args.above.now.node c.args.above.now.slot c.args.me.now c.read_held-content.new.me c.requires.next.0 c.read_held-content.result c.read_held-content.ensures.reads) in let d = c.level_below-level.ensures in let s = c.requires.surplus in let u = c.requires.next.0.top in omega (arith, b, l, m, e, d, s, u))

pub returns-clause-moves : goal.returns-clause-moves
returns-clause-moves g c next raised lies inside = moves_fence c.args.words.now.terms c.args.above.now.node c.args.above.now.slot c.args.fence c.args.me.now next (tree_at c.args.me.now c.read_held-content.new.me c.read_held-content.ensures.holdings c.load_node.ensures.tree) raised lies inside c.read_held-content.new.me c.load_node.new.me c.read_held-content.result c.read_held-content.ensures.reads (ap (λ (z : CallerData). z.log.holdings) c.load_node.ensures.log ∙ c.read_held-content.ensures.holdings) c.write_held.new.me c.set_separator-raised.result c.set_separator-raised.ensures c.write_held.ensures.stores c.write_held.ensures.spells c.write_spines.new.me (wrote_so c.args.words.now.terms c.args.above.now.node c.args.above.now.slot c.args.fence c.args.me.now next (tree_at c.args.me.now c.read_held-content.new.me c.read_held-content.ensures.holdings c.load_node.ensures.tree) raised lies inside c.read_held-content.new.me c.load_node.new.me c.read_held-content.result c.read_held-content.ensures.reads (ap (λ (z : CallerData). z.log.holdings) c.load_node.ensures.log ∙ c.read_held-content.ensures.holdings) c.write_held.new.me c.set_separator-raised.result c.set_separator-raised.ensures c.write_held.ensures.stores c.write_held.ensures.spells c.pair_at-left.result c.pair_after-right.result c.pair_at-left.ensures c.pair_after-right.ensures c.level_below-level.result c.level_below-level.ensures c.write_spines.new.me c.write_spines.ensures.writes) c.move_fence.ensures.change c.move_fence.ensures.kept (record { decided = c.exchange_decided.ensures; transfer = c.transfer.ensures.lawful; reached = c.transfer.ensures.reached; widen = c.widen.ensures.lawful; wider = c.widen.ensures.reached }) c.settle_spine.new.me c.level_below-level.result c.level_below-level.ensures (steps_then c.args.me.now c.write_held.new.me c.write_spines.new.me (steps_then c.args.me.now c.load_node.new.me c.write_held.new.me (steps2 c.args.above.now.node c.load_node.result c.read_held-content.result c.args.me.now c.read_held-content.new.me c.load_node.new.me c.read_held-content.ensures.reads c.load_node.ensures.log) (steps_top c.args.words.now.terms c.args.above.now.node c.args.above.now.slot c.args.fence c.args.me.now next (tree_at c.args.me.now c.read_held-content.new.me c.read_held-content.ensures.holdings c.load_node.ensures.tree) raised lies inside c.read_held-content.new.me c.load_node.new.me c.read_held-content.result c.read_held-content.ensures.reads (ap (λ (z : CallerData). z.log.holdings) c.load_node.ensures.log ∙ c.read_held-content.ensures.holdings) c.write_held.new.me c.set_separator-raised.result c.set_separator-raised.ensures c.write_held.ensures.stores c.write_held.ensures.spells)) c.write_spines.ensures.same)
    (settled_by c.args.words.now.terms c.args.above.now.node c.args.above.now.slot c.args.fence c.args.me.now next (tree_at c.args.me.now c.read_held-content.new.me c.read_held-content.ensures.holdings c.load_node.ensures.tree) raised lies inside c.read_held-content.new.me c.load_node.new.me c.read_held-content.result c.read_held-content.ensures.reads (ap (λ (z : CallerData). z.log.holdings) c.load_node.ensures.log ∙ c.read_held-content.ensures.holdings) c.write_held.new.me c.set_separator-raised.result c.set_separator-raised.ensures c.write_held.ensures.stores c.write_held.ensures.spells c.write_spines.new.me (wrote_so c.args.words.now.terms c.args.above.now.node c.args.above.now.slot c.args.fence c.args.me.now next (tree_at c.args.me.now c.read_held-content.new.me c.read_held-content.ensures.holdings c.load_node.ensures.tree) raised lies inside c.read_held-content.new.me c.load_node.new.me c.read_held-content.result c.read_held-content.ensures.reads (ap (λ (z : CallerData). z.log.holdings) c.load_node.ensures.log ∙ c.read_held-content.ensures.holdings) c.write_held.new.me c.set_separator-raised.result c.set_separator-raised.ensures c.write_held.ensures.stores c.write_held.ensures.spells c.pair_at-left.result c.pair_after-right.result c.pair_at-left.ensures c.pair_after-right.ensures c.level_below-level.result c.level_below-level.ensures c.write_spines.new.me c.write_spines.ensures.writes) c.move_fence.ensures.change (record { decided = c.exchange_decided.ensures; transfer = c.transfer.ensures.lawful; reached = c.transfer.ensures.reached; widen = c.widen.ensures.lawful; wider = c.widen.ensures.reached }) c.pair_after-right.result c.pair_after-right.ensures c.level_below-level.result c.level_below-level.ensures c.settle_spine.new.me c.settle_spine.ensures.settled)

pub returns-clause-loads : goal.returns-clause-loads
returns-clause-loads g c = keeps_then c.args.me.now c.write_spines.new.me c.settle_spine.new.me (keeps_then c.args.me.now c.write_held.new.me c.write_spines.new.me (keeps_then c.args.me.now c.load_node.new.me c.write_held.new.me (keeps_then c.args.me.now c.read_held-content.new.me c.load_node.new.me (steps_of_read c.args.above.now.node c.args.me.now c.read_held-content.new.me c.read_held-content.result c.read_held-content.ensures.reads).loads (keeps_load c.args.above.now.node 2 c.load_node.result c.read_held-content.new.me c.load_node.new.me c.load_node.ensures.log)) (loads_of_write c.args.above.now.node c.set_separator-raised.result c.load_node.new.me c.write_held.new.me c.write_held.ensures.stores)) c.write_spines.ensures.same.loads) c.settle_spine.ensures.loads
