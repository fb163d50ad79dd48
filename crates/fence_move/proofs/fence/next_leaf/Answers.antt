use Rattle.std.proofs.Common.{◌≡◌, ℕ, sym, ap, subst, ◌∙◌}
use Rattle.tree_shape.specs.NodeData.{NodeData}
use Rattle.word_rule.specs.CallerData.{CallerData}
use Rattle.word_rule.specs.Sights.{after_node_load}
use Rattle.node_store.specs.Holding.{ReadsHeld}
use Rattle.tree_descent.specs.Paths.{StepsOnNodes}
use Rattle.tree_descent.proofs.Descending.{steps_of_read}
use Rattle.tree_descent.proofs.Descents.{steps_of_load}
use Rattle.tree_descent.proofs.Loading.{found_after}
use Rattle.tree_descent.proofs.NodeSteps.{steps_then}
use Rattle.fence_move.specs.Spines.{LocksSpine, NamesChild}
use Rattle.fence_move.proofs.NextLeaves.{holds_next, holds_pair, level_some, may_read_way, names_read, slot_inside}
use Rattle.fence_move.proofs.fence.next_leaf.Goals as goal

steps2 : (x found : ℕ) (shape : NodeData) (k k1 k2 : CallerData) → k1 ≡ record k { log = after_node_load x 2 found k.log } → ReadsHeld x k1 k2 shape → StepsOnNodes k k2
steps2 x found shape k k1 k2 loads reads = steps_then k k1 k2 (steps_of_load x 2 found k k1 loads) (steps_of_read x k1 k2 shape reads)

pub load_node-requires-clause-inside : goal.load_node-requires-clause-inside
load_node-requires-clause-inside g c = c.requires.way.0.within

pub read_held-content-requires-clause-inside : goal.read_held-content-requires-clause-inside
read_held-content-requires-clause-inside g c = c.requires.way.0.within

pub read_held-content-requires-clause-held : goal.read_held-content-requires-clause-held
read_held-content-requires-clause-held g c = may_read_way c.args.words.now.terms c.args.above.now.node c.args.above.now.slot c.load_node.new.me c.args.me.now.log.holdings (ap (λ (z : CallerData). z.log.holdings) c.load_node.ensures.log) c.requires.way.0 c.load_node.ensures.tree

pub pair_after-pair-requires : goal.pair_after-pair-requires
pair_after-pair-requires g c = slot_inside c.args.words.now.terms c.args.above.now.node c.args.above.now.slot c.args.me.now.log.holdings c.requires.way.0 c.load_node.ensures.tree c.load_node.new.me c.read_held-content.new.me (ap (λ (z : CallerData). z.log.holdings) c.load_node.ensures.log) c.read_held-content.result c.read_held-content.ensures.reads

pub level_below-level-requires : goal.level_below-level-requires
level_below-level-requires g c = level_some c.args.words.now.terms c.args.above.now.node c.args.above.now.slot c.args.me.now.log.holdings c.requires.way.0 c.load_node.ensures.tree c.load_node.new.me c.read_held-content.new.me (ap (λ (z : CallerData). z.log.holdings) c.load_node.ensures.log) c.read_held-content.result c.read_held-content.ensures.reads

pub lock_spine-requires-clause-terms : goal.lock_spine-requires-clause-terms
lock_spine-requires-clause-terms g c = (steps2 c.args.above.now.node c.load_node.result c.read_held-content.result c.args.me.now c.load_node.new.me c.read_held-content.new.me c.load_node.ensures.log c.read_held-content.ensures.reads).calls.caller.terms ∙ c.requires.terms

pub lock_spine-requires-clause-child : goal.lock_spine-requires-clause-child
lock_spine-requires-clause-child g c = subst (λ l. NamesChild c.args.words.now.terms c.pair_after-pair.result.child l c.read_held-content.new.me.log.holdings) (sym c.level_below-level.ensures)
    (names_read c.args.words.now.terms c.args.above.now.node c.args.above.now.slot c.args.me.now.log.holdings c.requires.way.0 c.load_node.ensures.tree c.load_node.new.me c.read_held-content.new.me (ap (λ (z : CallerData). z.log.holdings) c.load_node.ensures.log) c.read_held-content.result c.read_held-content.ensures.reads
    c.pair_after-pair.result c.pair_after-pair.ensures c.read_held-content.ensures.holdings)

pub returns-in-Err-clause-busy : goal.returns-in-Err-clause-busy
returns-in-Err-clause-busy g c = (c.in-Err.ensures.busy.0 ∙ (c.read_held-content.ensures.holdings ∙ ap (λ (z : CallerData). z.log.holdings) c.load_node.ensures.log), c.in-Err.ensures.busy.1)

pub returns-in-Err-clause-same : goal.returns-in-Err-clause-same
returns-in-Err-clause-same g c = steps_then c.args.me.now c.read_held-content.new.me c.lock_spine.new.me (steps2 c.args.above.now.node c.load_node.result c.read_held-content.result c.args.me.now c.load_node.new.me c.read_held-content.new.me c.load_node.ensures.log c.read_held-content.ensures.reads) c.lock_spine.ensures.same

pub returns-in-Ok-clause-next : goal.returns-in-Ok-clause-next
returns-in-Ok-clause-next g c = holds_next c.args.words.now.terms c.args.above.now.node c.args.above.now.slot c.args.me.now.log.holdings c.requires.way.0 c.load_node.ensures.tree c.load_node.new.me c.read_held-content.new.me (ap (λ (z : CallerData). z.log.holdings) c.load_node.ensures.log) c.read_held-content.result c.read_held-content.ensures.reads
    c.pair_after-pair.result c.pair_after-pair.ensures c.read_held-content.ensures.holdings c.in-Ok.right.node c.in-Ok.right.content c.lock_spine.new.me.log.holdings
    (subst (λ l. LocksSpine c.args.words.now.terms c.pair_after-pair.result.child l c.in-Ok.right.node c.in-Ok.right.content c.read_held-content.new.me.log.holdings c.lock_spine.new.me.log.holdings) c.level_below-level.ensures c.in-Ok.ensures.ok)

pub returns-in-Ok-clause-leaves : goal.returns-in-Ok-clause-leaves
returns-in-Ok-clause-leaves g c = holds_pair c.args.words.now.terms c.args.above.now.node c.args.above.now.slot c.args.me.now.log.holdings c.requires.way.0 c.load_node.ensures.tree c.load_node.new.me c.read_held-content.new.me (ap (λ (z : CallerData). z.log.holdings) c.load_node.ensures.log) c.read_held-content.result c.read_held-content.ensures.reads
    c.pair_after-pair.result c.pair_after-pair.ensures c.read_held-content.ensures.holdings c.in-Ok.right.node c.in-Ok.right.content c.lock_spine.new.me.log.holdings
    (subst (λ l. LocksSpine c.args.words.now.terms c.pair_after-pair.result.child l c.in-Ok.right.node c.in-Ok.right.content c.read_held-content.new.me.log.holdings c.lock_spine.new.me.log.holdings) c.level_below-level.ensures c.in-Ok.ensures.ok)
    c.args.leaf.now.node c.args.leaf.now.content c.requires.way.1 c.requires.way.2

pub returns-in-Ok-clause-same : goal.returns-in-Ok-clause-same
returns-in-Ok-clause-same g c = steps_then c.args.me.now c.read_held-content.new.me c.lock_spine.new.me (steps2 c.args.above.now.node c.load_node.result c.read_held-content.result c.args.me.now c.load_node.new.me c.read_held-content.new.me c.load_node.ensures.log c.read_held-content.ensures.reads) c.lock_spine.ensures.same

pub returns-in-Err-clause-cause : goal.returns-in-Err-clause-cause
returns-in-Err-clause-cause g c = found_after c.in-Err.busy c.args.me.now c.read_held-content.new.me c.lock_spine.new.me (steps2 c.args.above.now.node c.load_node.result c.read_held-content.result c.args.me.now c.load_node.new.me c.read_held-content.new.me c.load_node.ensures.log c.read_held-content.ensures.reads).loads c.in-Err.ensures.cause
