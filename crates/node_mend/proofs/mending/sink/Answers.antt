use Rattle.std.proofs.Common.{◌*◌, ◌∙◌, ap, sym, refl, subst, arith}
use Rattle.tree_shape.specs.Changes.{Fit, joined}
use Rattle.tree_shape.specs.NodeData.{NodeData}
use Rattle.word_rule.specs.Places.{CALL_CREDIT}
use Rattle.tree_descent.proofs.Outlining.{may_read}
use Rattle.tree_descent.proofs.NodeSteps.{steps_then}
use Rattle.node_mend.specs.Siblings.{HoldsSiblings, sunk_root}
use Rattle.node_mend.proofs.HeldOutlines.{outlined_sinks, sunk_spells}
use Rattle.node_mend.proofs.Mended.{surplus_kept}
use Rattle.node_mend.proofs.Sinking.{left_held, left_lost, left_lost_may, left_lost_surplus, left_ready, right_held, right_is_out, right_lost, right_ready, sinks_so}
use Rattle.node_mend.proofs.mending.sink.Goals as goal

pub sink_root-sunk-requires : goal.sink_root-sunk-requires
sink_root-sunk-requires g c = subst (λ (z : NodeData). Fit z c.contents_of-left.result.1) (sym c.contents_of-left.ensures.left) (subst (λ (z : NodeData). Fit c.args.x.now.left.content z) (sym c.contents_of-left.ensures.right) c.requires.fit)

pub sink_into_root-requires-clause-held : goal.sink_into_root-requires-clause-held
sink_into_root-requires-clause-held g c = subst (HoldsSiblings c.args.words.now.terms c.args.x.now) (sym c.contents_of-left.ensures.holdings) c.requires.held

pub sink_into_root-requires-clause-content : goal.sink_into_root-requires-clause-content
sink_into_root-requires-clause-content g c = c.sink_root-sunk.ensures ∙ (λ i. record (joined (c.contents_of-left.ensures.left i) (c.contents_of-left.ensures.right i)) { low = (c.contents_of-left.ensures.above i).low; high = (c.contents_of-left.ensures.above i).high })

pub give_back-requires-clause-may : goal.give_back-requires-clause-may
give_back-requires-clause-may g c = record { held = left_held c.args.x.now c.sink_into_root.new.me c.sink_into_root.ensures.gone; out = c.sink_into_root.ensures.gone.left_out; settled = left_ready c.args.x.now c.sink_into_root.new.me c.sink_into_root.ensures.gone }

pub give_back-requires-clause-surplus : goal.give_back-requires-clause-surplus
give_back-requires-clause-surplus g c =
    let k = c.args.me.now in let k1 = c.contents_of-left.new.me in let read = c.contents_of-left.ensures.steps in
    let k2 = c.sink_into_root.new.me in
    let kept = surplus_kept k k2 (steps_then k k1 k2 read c.sink_into_root.ensures.same) in let most = c.requires.surplus in
    omega (arith, kept, most)

pub give_back-requires-2-clause-may : goal.give_back-requires-2-clause-may
give_back-requires-2-clause-may g c = record { held = right_held c.args.x.now c.sink_into_root.new.me c.sink_into_root.ensures.gone c.give_back.new.me c.in_default.ensures.ok; out = right_is_out c.args.x.now c.sink_into_root.new.me c.sink_into_root.ensures.gone c.give_back.new.me c.in_default.ensures.ok; settled = right_ready c.args.x.now c.sink_into_root.new.me c.sink_into_root.ensures.gone c.give_back.new.me c.in_default.ensures.ok }

pub give_back-requires-2-clause-surplus : goal.give_back-requires-2-clause-surplus
give_back-requires-2-clause-surplus g c =
    let k = c.args.me.now in let k1 = c.contents_of-left.new.me in let read = c.contents_of-left.ensures.steps in
    let k2 = c.sink_into_root.new.me in
    let kept = surplus_kept k k2 (steps_then k k1 k2 read c.sink_into_root.ensures.same) in let most = c.requires.surplus in
    let left = ap (λ z. CALL_CREDIT * z) c.in_default.ensures.ok.spends.calls.caller.left in let credit = c.in_default.ensures.ok.spends.credit in omega (arith, kept, most, left, credit)

pub outline_of-content-requires-clause-held : goal.outline_of-content-requires-clause-held
outline_of-content-requires-clause-held g c =
    let k = c.args.me.now in let k1 = c.contents_of-left.new.me in let read = c.contents_of-left.ensures.steps in
    let k2 = c.sink_into_root.new.me in let k4 = c.load_node.new.me in
    let sinks = sinks_so c.args.x.now c.sink_into_root.new.me c.sink_into_root.ensures.gone c.give_back.new.me c.in_default.ensures.ok c.give_back-2.new.me c.in_default-give_back.ensures.ok c.args.words.now.terms k k4 c.load_node.result (sunk_root c.args.x.now) c.requires.terms c.requires.held (steps_then k k1 k2 read c.sink_into_root.ensures.same) c.load_node.ensures.holder c.load_node.ensures.log refl in
    may_read 0 (sunk_root c.args.x.now) k4.log (sunk_spells c.args.words.now.terms c.args.x.now (sunk_root c.args.x.now) k k4 sinks)

pub returns-clause-sinks : goal.returns-clause-sinks
returns-clause-sinks g c =
    let k = c.args.me.now in let k1 = c.contents_of-left.new.me in let read = c.contents_of-left.ensures.steps in
    let k2 = c.sink_into_root.new.me in let k4 = c.load_node.new.me in
    let sinks = sinks_so c.args.x.now c.sink_into_root.new.me c.sink_into_root.ensures.gone c.give_back.new.me c.in_default.ensures.ok c.give_back-2.new.me c.in_default-give_back.ensures.ok c.args.words.now.terms k k4 c.load_node.result (sunk_root c.args.x.now) c.requires.terms c.requires.held (steps_then k k1 k2 read c.sink_into_root.ensures.same) c.load_node.ensures.holder c.load_node.ensures.log refl in
    (outlined_sinks c.args.words.now.terms c.args.x.now (sunk_root c.args.x.now) c.outline_of-content.result k k4 c.outline_of-content.new.me sinks c.outline_of-content.ensures.spells c.outline_of-content.ensures.loads c.outline_of-content.ensures.holdings)

pub let_go_of-requires-clause-may : goal.let_go_of-requires-clause-may
let_go_of-requires-clause-may g c =
    let k = c.args.me.now in let k1 = c.contents_of-left.new.me in let read = c.contents_of-left.ensures.steps in
    let k2 = c.sink_into_root.new.me in let steps = steps_then k k1 k2 read c.sink_into_root.ensures.same in
    left_lost_may c.args.x.now c.in-Err.busy k k2 c.sink_into_root.ensures.gone steps c.requires.root c.give_back.new.me c.in-Err.ensures.lost.0

pub let_go_of-requires-clause-surplus : goal.let_go_of-requires-clause-surplus
let_go_of-requires-clause-surplus g c =
    let k = c.args.me.now in let k1 = c.contents_of-left.new.me in let read = c.contents_of-left.ensures.steps in
    let k2 = c.sink_into_root.new.me in let steps = steps_then k k1 k2 read c.sink_into_root.ensures.same in
    left_lost_surplus c.args.x.now c.in-Err.busy k k2 c.sink_into_root.ensures.gone steps c.requires.root c.give_back.new.me c.in-Err.ensures.lost.0 c.requires.surplus

pub returns-in-Err-clause-lost : goal.returns-in-Err-clause-lost
returns-in-Err-clause-lost g c =
    let k = c.args.me.now in let k1 = c.contents_of-left.new.me in let read = c.contents_of-left.ensures.steps in
    let k2 = c.sink_into_root.new.me in let steps = steps_then k k1 k2 read c.sink_into_root.ensures.same in
    (left_lost c.args.x.now c.in-Err.busy k k2 c.sink_into_root.ensures.gone steps c.requires.root c.give_back.new.me c.in-Err.ensures.lost.0 c.let_go_of.new.me c.let_go_of.ensures, c.in-Err.ensures.lost.1)

pub returns-in-Err-give_back-clause-lost : goal.returns-in-Err-give_back-clause-lost
returns-in-Err-give_back-clause-lost g c =
    let k = c.args.me.now in let k1 = c.contents_of-left.new.me in let read = c.contents_of-left.ensures.steps in
    let k2 = c.sink_into_root.new.me in let steps = steps_then k k1 k2 read c.sink_into_root.ensures.same in
    (right_lost c.args.x.now c.in-Err-give_back.lost k k2 c.sink_into_root.ensures.gone steps c.requires.root c.give_back.new.me c.give_back-2.new.me c.in_default.ensures.ok c.in-Err-give_back.ensures.lost.0, c.in-Err-give_back.ensures.lost.1)
