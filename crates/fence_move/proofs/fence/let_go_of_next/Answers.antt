use Rattle.std.proofs.Common.{◌≡◌, sym, subst}
use Rattle.tree_descent.proofs.Descending.{steps_of_read}
use Rattle.tree_descent.proofs.NodeSteps.{steps_then}
use Rattle.fence_move.specs.Spines.{HoldsFresh}
use Rattle.fence_move.proofs.NextLeaves.{after_inside, fresh_next, left_next, may_read_next, top_above}
use Rattle.fence_move.proofs.fence.let_go_of_next.Goals as goal

pub read_held-content-requires-clause-inside : goal.read_held-content-requires-clause-inside
read_held-content-requires-clause-inside g c = c.requires.next.way.within

pub read_held-content-requires-clause-held : goal.read_held-content-requires-clause-held
read_held-content-requires-clause-held g c = may_read_next c.args.words.now.terms c.args.above.now.node c.args.above.now.slot c.args.me.now c.requires.next

pub pair_after-pair-requires : goal.pair_after-pair-requires
pair_after-pair-requires g c = after_inside c.args.words.now.terms c.args.above.now.node c.args.above.now.slot c.args.me.now c.read_held-content.new.me c.requires.next c.read_held-content.result c.read_held-content.ensures.reads

pub level_below-level-requires : goal.level_below-level-requires
level_below-level-requires g c = top_above c.args.words.now.terms c.args.above.now.node c.args.above.now.slot c.args.me.now c.read_held-content.new.me c.requires.next c.read_held-content.result c.read_held-content.ensures.reads

pub let_go_of_spine-requires-clause-spine : goal.let_go_of_spine-requires-clause-spine
let_go_of_spine-requires-clause-spine g c = subst (λ l. HoldsFresh c.args.words.now.terms c.pair_after-pair.result.child l c.read_held-content.new.me.log.holdings) (sym c.level_below-level.ensures) (fresh_next c.args.words.now.terms c.args.above.now.node c.args.above.now.slot c.args.me.now c.read_held-content.new.me c.requires.next c.read_held-content.result c.read_held-content.ensures.reads c.pair_after-pair.result c.pair_after-pair.ensures c.read_held-content.ensures.holdings)

pub returns-clause-base : goal.returns-clause-base
returns-clause-base g c next = left_next c.args.words.now.terms c.args.above.now.node c.args.above.now.slot c.args.me.now c.read_held-content.new.me next c.read_held-content.result c.read_held-content.ensures.reads c.pair_after-pair.result c.pair_after-pair.ensures c.read_held-content.ensures.holdings c.let_go_of_spine.new.me.log.holdings
    (subst (λ l. (spine : HoldsFresh c.args.words.now.terms c.pair_after-pair.result.child l c.read_held-content.new.me.log.holdings) → c.let_go_of_spine.new.me.log.holdings ≡ record c.read_held-content.new.me.log.holdings { held = spine.base }) c.level_below-level.ensures c.let_go_of_spine.ensures.base)

pub returns-clause-same : goal.returns-clause-same
returns-clause-same g c = steps_then c.args.me.now c.read_held-content.new.me c.let_go_of_spine.new.me (steps_of_read c.args.above.now.node c.args.me.now c.read_held-content.new.me c.read_held-content.result c.read_held-content.ensures.reads) c.let_go_of_spine.ensures.same
