use Rattle.std.proofs.Common.{◌+◌, ◌<◌, length, ◌∙◌, ap, sym, refl, subst, arith}
use Rattle.tree_shape.specs.Changes.{Fit, at_slot, joined, pair, swallow_next}
use Rattle.tree_shape.specs.NodeData.{NodeData, IsInner, Pairs, pairs_of}
use Rattle.tree_descent.proofs.Outlining.{may_read}
use Rattle.tree_descent.proofs.Lowering.{settled_inner}
use Rattle.tree_descent.proofs.NodeSteps.{steps_then}
use Rattle.node_mend.specs.Siblings.{HoldsSiblings}
use Rattle.node_mend.proofs.HeldOutlines.{mended_spells, outlined_mends}
use Rattle.node_mend.proofs.Joining.{inside_of}
use Rattle.node_mend.proofs.Mended.{gone_held, gone_out, gone_ready, join_lost, joins_so, lost_may, lost_surplus, surplus_kept}
use Rattle.node_mend.proofs.mending.join.Goals as goal

pub join_pair-both-requires : goal.join_pair-both-requires
join_pair-both-requires g c = subst (λ (z : NodeData). Fit z c.contents_of-left.result.1) (sym c.contents_of-left.ensures.left) (subst (λ (z : NodeData). Fit c.args.x.now.left.content z) (sym c.contents_of-left.ensures.right) c.requires.fit)

pub drop_pair-above-requires-clause-inner : goal.drop_pair-above-requires-clause-inner
drop_pair-above-requires-clause-inner g c = subst IsInner (sym c.contents_of-left.ensures.above) (settled_inner c.args.words.now.terms c.args.x.now.above.node c.args.x.now.above.content c.args.x.now.above.changed c.requires.held.upper c.requires.held.parent (let level = c.requires.held.level in omega (arith, level)))

pub drop_pair-above-requires-clause-next : goal.drop_pair-above-requires-clause-next
drop_pair-above-requires-clause-next g c = subst (λ (z : NodeData). c.args.x.now.slot + 1 < length (pairs_of z)) (sym c.contents_of-left.ensures.above) (inside_of (pairs_of c.args.x.now.above.content) (c.args.x.now.slot + 1) (pair c.args.x.now.right.node c.args.x.now.right.content.high) c.requires.held.next)

pub join_into_left-requires-clause-held : goal.join_into_left-requires-clause-held
join_into_left-requires-clause-held g c = subst (HoldsSiblings c.args.words.now.terms c.args.x.now) (sym c.contents_of-left.ensures.holdings) c.requires.held

pub join_into_left-requires-clause-content : goal.join_into_left-requires-clause-content
join_into_left-requires-clause-content g c = c.join_pair-both.ensures ∙ (λ i. joined (c.contents_of-left.ensures.left i) (c.contents_of-left.ensures.right i))

pub join_into_left-requires-clause-above : goal.join_into_left-requires-clause-above
join_into_left-requires-clause-above g c = c.drop_pair-above.ensures ∙ ap (λ (z : NodeData). record z { body = Pairs (at_slot swallow_next c.args.x.now.slot (pairs_of z)) }) c.contents_of-left.ensures.above

pub give_back-requires-clause-may : goal.give_back-requires-clause-may
give_back-requires-clause-may g c = record { held = gone_held c.args.words.now.terms c.args.x.now c.join_into_left.new.me c.join_into_left.ensures.gone; out = gone_out c.args.words.now.terms c.args.x.now c.join_into_left.new.me c.join_into_left.ensures.gone; settled = gone_ready c.args.words.now.terms c.args.x.now c.join_into_left.new.me c.join_into_left.ensures.gone }

pub give_back-requires-clause-surplus : goal.give_back-requires-clause-surplus
give_back-requires-clause-surplus g c =
    let k = c.args.me.now in let k1 = c.contents_of-left.new.me in let read = c.contents_of-left.ensures.steps in
    let kept = surplus_kept k c.join_into_left.new.me (steps_then k k1 c.join_into_left.new.me read c.join_into_left.ensures.same) in let most = c.requires.surplus in omega (arith, kept, most)

pub outline_of-content-requires-clause-held : goal.outline_of-content-requires-clause-held
outline_of-content-requires-clause-held g c =
    let k = c.args.me.now in let k1 = c.contents_of-left.new.me in let read = c.contents_of-left.ensures.steps in
    let k2 = c.join_into_left.new.me in let k3 = c.give_back.new.me in let k4 = c.load_node.new.me in
    let mends = joins_so c.args.words.now.terms c.args.x.now k k2 k3 k4 c.load_node.result (joined c.args.x.now.left.content c.args.x.now.right.content) c.requires.terms c.requires.held c.join_into_left.ensures.gone (steps_then k k1 k2 read c.join_into_left.ensures.same) c.in_default.ensures.ok c.load_node.ensures.holder c.load_node.ensures.log refl in
    may_read c.args.x.now.left.node (joined c.args.x.now.left.content c.args.x.now.right.content) k4.log (mended_spells c.args.words.now.terms c.args.x.now c.args.x.now.left.node (joined c.args.x.now.left.content c.args.x.now.right.content) k k4 mends)

pub returns-clause-mends : goal.returns-clause-mends
returns-clause-mends g c =
    let k = c.args.me.now in let k1 = c.contents_of-left.new.me in let read = c.contents_of-left.ensures.steps in
    let k2 = c.join_into_left.new.me in let k3 = c.give_back.new.me in let k4 = c.load_node.new.me in
    let mends = joins_so c.args.words.now.terms c.args.x.now k k2 k3 k4 c.load_node.result (joined c.args.x.now.left.content c.args.x.now.right.content) c.requires.terms c.requires.held c.join_into_left.ensures.gone (steps_then k k1 k2 read c.join_into_left.ensures.same) c.in_default.ensures.ok c.load_node.ensures.holder c.load_node.ensures.log refl in
    (outlined_mends c.args.words.now.terms c.args.x.now c.args.x.now.left.node (joined c.args.x.now.left.content c.args.x.now.right.content) c.outline_of-content.result k k4 c.outline_of-content.new.me mends c.outline_of-content.ensures.spells c.outline_of-content.ensures.loads c.outline_of-content.ensures.holdings)

pub let_go_of-requires-clause-may : goal.let_go_of-requires-clause-may
let_go_of-requires-clause-may g c =
    let k = c.args.me.now in let k1 = c.contents_of-left.new.me in let read = c.contents_of-left.ensures.steps in
    let k2 = c.join_into_left.new.me in let steps = steps_then k k1 k2 read c.join_into_left.ensures.same in
    lost_may c.args.words.now.terms c.args.x.now c.in-Err.busy k k2 c.give_back.new.me c.join_into_left.ensures.gone steps c.in-Err.ensures.lost.0

pub let_go_of-requires-clause-surplus : goal.let_go_of-requires-clause-surplus
let_go_of-requires-clause-surplus g c =
    let k = c.args.me.now in let k1 = c.contents_of-left.new.me in let read = c.contents_of-left.ensures.steps in
    let k2 = c.join_into_left.new.me in let steps = steps_then k k1 k2 read c.join_into_left.ensures.same in
    lost_surplus c.args.words.now.terms c.args.x.now c.in-Err.busy k k2 c.give_back.new.me c.join_into_left.ensures.gone steps c.in-Err.ensures.lost.0 c.requires.surplus

pub returns-in-Err-clause-lost : goal.returns-in-Err-clause-lost
returns-in-Err-clause-lost g c =
    let k = c.args.me.now in let k1 = c.contents_of-left.new.me in let read = c.contents_of-left.ensures.steps in
    let k2 = c.join_into_left.new.me in let steps = steps_then k k1 k2 read c.join_into_left.ensures.same in
    (join_lost c.args.words.now.terms c.args.x.now c.in-Err.busy k k2 c.give_back.new.me c.join_into_left.ensures.gone steps c.in-Err.ensures.lost.0 c.let_go_of.new.me c.let_go_of.ensures, c.in-Err.ensures.lost.1)
