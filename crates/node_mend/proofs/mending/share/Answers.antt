use Rattle.std.proofs.Common.{◌<◌, ◌∙◌, ap, sym, subst, true}
use Rattle.tree_shape.specs.NodeData.{IsInFences}
use Rattle.word_rule.specs.CallerData.{CallerData}
use Rattle.node_store.specs.Holding.{SpellsHeld, StoresHeld}
use Rattle.tree_descent.proofs.Outlining.{may_read}
use Rattle.node_mend.specs.Siblings.{HoldsSiblings}
use Rattle.node_mend.specs.declared.mending.Shares.{Shares}
use Rattle.node_mend.proofs.HeldOutlines.{mended_spells, mends_after, outlined_mends}
use Rattle.node_mend.proofs.Mended.{surplus_kept}
use Rattle.node_mend.proofs.Sharing.{may_above, may_leave, may_left, may_right, others_of, shares_so, steps4, table3}
use Rattle.node_mend.proofs.mending.share.Goals as goal

pub write_held-requires-clause-may : goal.write_held-requires-clause-may
write_held-requires-clause-may g c = may_left c.args.words.now.terms c.args.x.now c.shares_of-shares.new.me c.load_node.new.me c.load_node.result (subst (HoldsSiblings c.args.words.now.terms c.args.x.now) (sym c.shares_of-shares.ensures.holdings) c.requires.held) c.load_node.ensures.tree c.load_node.ensures.log c.requires.overfill

pub write_held-requires-2-clause-may : goal.write_held-requires-2-clause-may
write_held-requires-2-clause-may g c = may_right c.args.words.now.terms c.args.x.now c.shares_of-shares.new.me c.load_node.new.me c.load_node.result (subst (HoldsSiblings c.args.words.now.terms c.args.x.now) (sym c.shares_of-shares.ensures.holdings) c.requires.held) c.load_node.ensures.tree c.load_node.ensures.log c.requires.overfill c.write_held.new.me (subst (λ (z : Shares). StoresHeld c.args.x.now.left.node z.left c.load_node.new.me c.write_held.new.me) c.shares_of-shares.ensures.shares c.write_held.ensures.stores) (subst (λ (z : Shares). SpellsHeld c.args.x.now.left.node z.left c.write_held.new.me.log) c.shares_of-shares.ensures.shares c.write_held.ensures.spells)

pub write_held-requires-3-clause-may : goal.write_held-requires-3-clause-may
write_held-requires-3-clause-may g c = may_above c.args.words.now.terms c.args.x.now c.shares_of-shares.new.me c.load_node.new.me c.load_node.result (subst (HoldsSiblings c.args.words.now.terms c.args.x.now) (sym c.shares_of-shares.ensures.holdings) c.requires.held) c.load_node.ensures.tree c.load_node.ensures.log c.requires.overfill c.write_held.new.me (subst (λ (z : Shares). StoresHeld c.args.x.now.left.node z.left c.load_node.new.me c.write_held.new.me) c.shares_of-shares.ensures.shares c.write_held.ensures.stores) (subst (λ (z : Shares). SpellsHeld c.args.x.now.left.node z.left c.write_held.new.me.log) c.shares_of-shares.ensures.shares c.write_held.ensures.spells) c.write_held-2.new.me (subst (λ (z : Shares). StoresHeld c.args.x.now.right.node z.right c.write_held.new.me c.write_held-2.new.me) c.shares_of-shares.ensures.shares c.write_held-2.ensures.stores) (subst (λ (z : Shares). SpellsHeld c.args.x.now.right.node z.right c.write_held-2.new.me.log) c.shares_of-shares.ensures.shares c.write_held-2.ensures.spells)

pub write_held-requires-3-clause-table : goal.write_held-requires-3-clause-table
write_held-requires-3-clause-table g c = table3 c.args.words.now.terms c.args.x.now c.shares_of-shares.new.me c.load_node.new.me c.load_node.result (subst (HoldsSiblings c.args.words.now.terms c.args.x.now) (sym c.shares_of-shares.ensures.holdings) c.requires.held) c.load_node.ensures.tree c.load_node.ensures.log c.requires.overfill c.write_held.new.me (subst (λ (z : Shares). StoresHeld c.args.x.now.left.node z.left c.load_node.new.me c.write_held.new.me) c.shares_of-shares.ensures.shares c.write_held.ensures.stores) (subst (λ (z : Shares). SpellsHeld c.args.x.now.left.node z.left c.write_held.new.me.log) c.shares_of-shares.ensures.shares c.write_held.ensures.spells) c.write_held-2.new.me (subst (λ (z : Shares). StoresHeld c.args.x.now.right.node z.right c.write_held.new.me c.write_held-2.new.me) c.shares_of-shares.ensures.shares c.write_held-2.ensures.stores) (subst (λ (z : Shares). SpellsHeld c.args.x.now.right.node z.right c.write_held-2.new.me.log) c.shares_of-shares.ensures.shares c.write_held-2.ensures.spells) ∙ (c.shares_of-shares.ensures.steps.calls.caller.table ∙ c.requires.table)

pub let_go-requires-clause-may : goal.let_go-requires-clause-may
let_go-requires-clause-may g c = may_leave c.args.words.now.terms c.args.x.now c.shares_of-shares.new.me c.load_node.new.me c.load_node.result (subst (HoldsSiblings c.args.words.now.terms c.args.x.now) (sym c.shares_of-shares.ensures.holdings) c.requires.held) c.load_node.ensures.tree c.load_node.ensures.log c.requires.overfill c.write_held.new.me (subst (λ (z : Shares). StoresHeld c.args.x.now.left.node z.left c.load_node.new.me c.write_held.new.me) c.shares_of-shares.ensures.shares c.write_held.ensures.stores) (subst (λ (z : Shares). SpellsHeld c.args.x.now.left.node z.left c.write_held.new.me.log) c.shares_of-shares.ensures.shares c.write_held.ensures.spells) c.write_held-2.new.me (subst (λ (z : Shares). StoresHeld c.args.x.now.right.node z.right c.write_held.new.me c.write_held-2.new.me) c.shares_of-shares.ensures.shares c.write_held-2.ensures.stores) (subst (λ (z : Shares). SpellsHeld c.args.x.now.right.node z.right c.write_held-2.new.me.log) c.shares_of-shares.ensures.shares c.write_held-2.ensures.spells) c.write_held-3.new.me (subst (λ (z : Shares). StoresHeld c.args.x.now.above.node z.above c.write_held-2.new.me c.write_held-3.new.me) c.shares_of-shares.ensures.shares c.write_held-3.ensures.stores) (subst (λ (z : Shares). SpellsHeld c.args.x.now.above.node z.above c.write_held-3.new.me.log) c.shares_of-shares.ensures.shares c.write_held-3.ensures.spells) (record { decided = c.exchange_decided.ensures; transfer = c.transfer.ensures.lawful; reached = c.transfer.ensures.reached; widen = c.widen.ensures.lawful; wider = c.widen.ensures.reached }) c.share.ensures.change c.requires.small c.choose-chosen.result.other (others_of c.args.x.now c.args.pc c.choose-chosen.result c.choose-chosen.ensures)

pub let_go-requires-clause-surplus : goal.let_go-requires-clause-surplus
let_go-requires-clause-surplus g c = subst (λ d. 0 < d) (sym (surplus_kept c.shares_of-shares.new.me c.write_held-3.new.me (steps4 c.args.words.now.terms c.args.x.now c.shares_of-shares.new.me c.load_node.new.me c.load_node.result (subst (HoldsSiblings c.args.words.now.terms c.args.x.now) (sym c.shares_of-shares.ensures.holdings) c.requires.held) c.load_node.ensures.tree c.load_node.ensures.log c.requires.overfill c.write_held.new.me (subst (λ (z : Shares). StoresHeld c.args.x.now.left.node z.left c.load_node.new.me c.write_held.new.me) c.shares_of-shares.ensures.shares c.write_held.ensures.stores) (subst (λ (z : Shares). SpellsHeld c.args.x.now.left.node z.left c.write_held.new.me.log) c.shares_of-shares.ensures.shares c.write_held.ensures.spells) c.write_held-2.new.me (subst (λ (z : Shares). StoresHeld c.args.x.now.right.node z.right c.write_held.new.me c.write_held-2.new.me) c.shares_of-shares.ensures.shares c.write_held-2.ensures.stores) (subst (λ (z : Shares). SpellsHeld c.args.x.now.right.node z.right c.write_held-2.new.me.log) c.shares_of-shares.ensures.shares c.write_held-2.ensures.spells) c.write_held-3.new.me (subst (λ (z : Shares). StoresHeld c.args.x.now.above.node z.above c.write_held-2.new.me c.write_held-3.new.me) c.shares_of-shares.ensures.shares c.write_held-3.ensures.stores) (subst (λ (z : Shares). SpellsHeld c.args.x.now.above.node z.above c.write_held-3.new.me.log) c.shares_of-shares.ensures.shares c.write_held-3.ensures.spells) (record { decided = c.exchange_decided.ensures; transfer = c.transfer.ensures.lawful; reached = c.transfer.ensures.reached; widen = c.widen.ensures.lawful; wider = c.widen.ensures.reached }) c.share.ensures.change c.requires.small) ∙ surplus_kept c.args.me.now c.shares_of-shares.new.me c.shares_of-shares.ensures.steps)) c.requires.surplus

pub outline_of-content-requires-clause-held : goal.outline_of-content-requires-clause-held
outline_of-content-requires-clause-held g c =
    let so = shares_so c.args.words.now.terms c.args.x.now c.shares_of-shares.new.me c.load_node.new.me c.load_node.result (subst (HoldsSiblings c.args.words.now.terms c.args.x.now) (sym c.shares_of-shares.ensures.holdings) c.requires.held) c.load_node.ensures.tree c.load_node.ensures.log c.requires.overfill c.write_held.new.me (subst (λ (z : Shares). StoresHeld c.args.x.now.left.node z.left c.load_node.new.me c.write_held.new.me) c.shares_of-shares.ensures.shares c.write_held.ensures.stores) (subst (λ (z : Shares). SpellsHeld c.args.x.now.left.node z.left c.write_held.new.me.log) c.shares_of-shares.ensures.shares c.write_held.ensures.spells) c.write_held-2.new.me (subst (λ (z : Shares). StoresHeld c.args.x.now.right.node z.right c.write_held.new.me c.write_held-2.new.me) c.shares_of-shares.ensures.shares c.write_held-2.ensures.stores) (subst (λ (z : Shares). SpellsHeld c.args.x.now.right.node z.right c.write_held-2.new.me.log) c.shares_of-shares.ensures.shares c.write_held-2.ensures.spells) c.write_held-3.new.me (subst (λ (z : Shares). StoresHeld c.args.x.now.above.node z.above c.write_held-2.new.me c.write_held-3.new.me) c.shares_of-shares.ensures.shares c.write_held-3.ensures.stores) (subst (λ (z : Shares). SpellsHeld c.args.x.now.above.node z.above c.write_held-3.new.me.log) c.shares_of-shares.ensures.shares c.write_held-3.ensures.spells) (record { decided = c.exchange_decided.ensures; transfer = c.transfer.ensures.lawful; reached = c.transfer.ensures.reached; widen = c.widen.ensures.lawful; wider = c.widen.ensures.reached }) c.share.ensures.change c.requires.small c.args.pc c.choose-chosen.result c.let_go.new.me c.load_node-2.new.me c.load_node-2.result (c.shares_of-shares.ensures.steps.calls.caller.terms ∙ c.requires.terms) c.requires.between c.choose-chosen.ensures c.let_go.ensures c.load_node-2.ensures.holder c.load_node-2.ensures.log in
    may_read c.choose-chosen.result.node so.0 c.load_node-2.new.me.log (mended_spells c.args.words.now.terms c.args.x.now c.choose-chosen.result.node so.0 c.shares_of-shares.new.me c.load_node-2.new.me so.1.0)

pub returns-clause-mends : goal.returns-clause-mends
returns-clause-mends g c =
    let so = shares_so c.args.words.now.terms c.args.x.now c.shares_of-shares.new.me c.load_node.new.me c.load_node.result (subst (HoldsSiblings c.args.words.now.terms c.args.x.now) (sym c.shares_of-shares.ensures.holdings) c.requires.held) c.load_node.ensures.tree c.load_node.ensures.log c.requires.overfill c.write_held.new.me (subst (λ (z : Shares). StoresHeld c.args.x.now.left.node z.left c.load_node.new.me c.write_held.new.me) c.shares_of-shares.ensures.shares c.write_held.ensures.stores) (subst (λ (z : Shares). SpellsHeld c.args.x.now.left.node z.left c.write_held.new.me.log) c.shares_of-shares.ensures.shares c.write_held.ensures.spells) c.write_held-2.new.me (subst (λ (z : Shares). StoresHeld c.args.x.now.right.node z.right c.write_held.new.me c.write_held-2.new.me) c.shares_of-shares.ensures.shares c.write_held-2.ensures.stores) (subst (λ (z : Shares). SpellsHeld c.args.x.now.right.node z.right c.write_held-2.new.me.log) c.shares_of-shares.ensures.shares c.write_held-2.ensures.spells) c.write_held-3.new.me (subst (λ (z : Shares). StoresHeld c.args.x.now.above.node z.above c.write_held-2.new.me c.write_held-3.new.me) c.shares_of-shares.ensures.shares c.write_held-3.ensures.stores) (subst (λ (z : Shares). SpellsHeld c.args.x.now.above.node z.above c.write_held-3.new.me.log) c.shares_of-shares.ensures.shares c.write_held-3.ensures.spells) (record { decided = c.exchange_decided.ensures; transfer = c.transfer.ensures.lawful; reached = c.transfer.ensures.reached; widen = c.widen.ensures.lawful; wider = c.widen.ensures.reached }) c.share.ensures.change c.requires.small c.args.pc c.choose-chosen.result c.let_go.new.me c.load_node-2.new.me c.load_node-2.result (c.shares_of-shares.ensures.steps.calls.caller.terms ∙ c.requires.terms) c.requires.between c.choose-chosen.ensures c.let_go.ensures c.load_node-2.ensures.holder c.load_node-2.ensures.log in
    let k6 = c.load_node-2.new.me in let k7 = c.outline_of-content.new.me in
    let outlined = outlined_mends c.args.words.now.terms c.args.x.now c.choose-chosen.result.node so.0 c.outline_of-content.result c.shares_of-shares.new.me k6 k7 so.1.0 c.outline_of-content.ensures.spells c.outline_of-content.ensures.loads c.outline_of-content.ensures.holdings in
    mends_after c.args.words.now.terms c.args.x.now (record { node = c.choose-chosen.result.node; content = c.outline_of-content.result; changed = true }) c.args.me.now c.shares_of-shares.new.me k7 c.shares_of-shares.ensures.steps outlined.0

pub returns-clause-fences : goal.returns-clause-fences
returns-clause-fences g c =
    let so = shares_so c.args.words.now.terms c.args.x.now c.shares_of-shares.new.me c.load_node.new.me c.load_node.result (subst (HoldsSiblings c.args.words.now.terms c.args.x.now) (sym c.shares_of-shares.ensures.holdings) c.requires.held) c.load_node.ensures.tree c.load_node.ensures.log c.requires.overfill c.write_held.new.me (subst (λ (z : Shares). StoresHeld c.args.x.now.left.node z.left c.load_node.new.me c.write_held.new.me) c.shares_of-shares.ensures.shares c.write_held.ensures.stores) (subst (λ (z : Shares). SpellsHeld c.args.x.now.left.node z.left c.write_held.new.me.log) c.shares_of-shares.ensures.shares c.write_held.ensures.spells) c.write_held-2.new.me (subst (λ (z : Shares). StoresHeld c.args.x.now.right.node z.right c.write_held.new.me c.write_held-2.new.me) c.shares_of-shares.ensures.shares c.write_held-2.ensures.stores) (subst (λ (z : Shares). SpellsHeld c.args.x.now.right.node z.right c.write_held-2.new.me.log) c.shares_of-shares.ensures.shares c.write_held-2.ensures.spells) c.write_held-3.new.me (subst (λ (z : Shares). StoresHeld c.args.x.now.above.node z.above c.write_held-2.new.me c.write_held-3.new.me) c.shares_of-shares.ensures.shares c.write_held-3.ensures.stores) (subst (λ (z : Shares). SpellsHeld c.args.x.now.above.node z.above c.write_held-3.new.me.log) c.shares_of-shares.ensures.shares c.write_held-3.ensures.spells) (record { decided = c.exchange_decided.ensures; transfer = c.transfer.ensures.lawful; reached = c.transfer.ensures.reached; widen = c.widen.ensures.lawful; wider = c.widen.ensures.reached }) c.share.ensures.change c.requires.small c.args.pc c.choose-chosen.result c.let_go.new.me c.load_node-2.new.me c.load_node-2.result (c.shares_of-shares.ensures.steps.calls.caller.terms ∙ c.requires.terms) c.requires.between c.choose-chosen.ensures c.let_go.ensures c.load_node-2.ensures.holder c.load_node-2.ensures.log in
    let k6 = c.load_node-2.new.me in let k7 = c.outline_of-content.new.me in
    let outlined = outlined_mends c.args.words.now.terms c.args.x.now c.choose-chosen.result.node so.0 c.outline_of-content.result c.shares_of-shares.new.me k6 k7 so.1.0 c.outline_of-content.ensures.spells c.outline_of-content.ensures.loads c.outline_of-content.ensures.holdings in
    subst (IsInFences c.args.pc) (sym outlined.1) so.1.1

pub let_go-requires-clause-table : goal.let_go-requires-clause-table
let_go-requires-clause-table g c = (steps4 c.args.words.now.terms c.args.x.now c.shares_of-shares.new.me c.load_node.new.me c.load_node.result (subst (HoldsSiblings c.args.words.now.terms c.args.x.now) (sym c.shares_of-shares.ensures.holdings) c.requires.held) c.load_node.ensures.tree c.load_node.ensures.log c.requires.overfill c.write_held.new.me (subst (λ (z : Shares). StoresHeld c.args.x.now.left.node z.left c.load_node.new.me c.write_held.new.me) c.shares_of-shares.ensures.shares c.write_held.ensures.stores) (subst (λ (z : Shares). SpellsHeld c.args.x.now.left.node z.left c.write_held.new.me.log) c.shares_of-shares.ensures.shares c.write_held.ensures.spells) c.write_held-2.new.me (subst (λ (z : Shares). StoresHeld c.args.x.now.right.node z.right c.write_held.new.me c.write_held-2.new.me) c.shares_of-shares.ensures.shares c.write_held-2.ensures.stores) (subst (λ (z : Shares). SpellsHeld c.args.x.now.right.node z.right c.write_held-2.new.me.log) c.shares_of-shares.ensures.shares c.write_held-2.ensures.spells) c.write_held-3.new.me (subst (λ (z : Shares). StoresHeld c.args.x.now.above.node z.above c.write_held-2.new.me c.write_held-3.new.me) c.shares_of-shares.ensures.shares c.write_held-3.ensures.stores) (subst (λ (z : Shares). SpellsHeld c.args.x.now.above.node z.above c.write_held-3.new.me.log) c.shares_of-shares.ensures.shares c.write_held-3.ensures.spells) (record { decided = c.exchange_decided.ensures; transfer = c.transfer.ensures.lawful; reached = c.transfer.ensures.reached; widen = c.widen.ensures.lawful; wider = c.widen.ensures.reached }) c.share.ensures.change c.requires.small).calls.caller.table ∙ (c.shares_of-shares.ensures.steps.calls.caller.table ∙ c.requires.table)

pub load_node-requires-2-clause-table : goal.load_node-requires-2-clause-table
load_node-requires-2-clause-table g c = ap (λ (z : CallerData). z.table) c.let_go.ensures ∙ ((steps4 c.args.words.now.terms c.args.x.now c.shares_of-shares.new.me c.load_node.new.me c.load_node.result (subst (HoldsSiblings c.args.words.now.terms c.args.x.now) (sym c.shares_of-shares.ensures.holdings) c.requires.held) c.load_node.ensures.tree c.load_node.ensures.log c.requires.overfill c.write_held.new.me (subst (λ (z : Shares). StoresHeld c.args.x.now.left.node z.left c.load_node.new.me c.write_held.new.me) c.shares_of-shares.ensures.shares c.write_held.ensures.stores) (subst (λ (z : Shares). SpellsHeld c.args.x.now.left.node z.left c.write_held.new.me.log) c.shares_of-shares.ensures.shares c.write_held.ensures.spells) c.write_held-2.new.me (subst (λ (z : Shares). StoresHeld c.args.x.now.right.node z.right c.write_held.new.me c.write_held-2.new.me) c.shares_of-shares.ensures.shares c.write_held-2.ensures.stores) (subst (λ (z : Shares). SpellsHeld c.args.x.now.right.node z.right c.write_held-2.new.me.log) c.shares_of-shares.ensures.shares c.write_held-2.ensures.spells) c.write_held-3.new.me (subst (λ (z : Shares). StoresHeld c.args.x.now.above.node z.above c.write_held-2.new.me c.write_held-3.new.me) c.shares_of-shares.ensures.shares c.write_held-3.ensures.stores) (subst (λ (z : Shares). SpellsHeld c.args.x.now.above.node z.above c.write_held-3.new.me.log) c.shares_of-shares.ensures.shares c.write_held-3.ensures.spells) (record { decided = c.exchange_decided.ensures; transfer = c.transfer.ensures.lawful; reached = c.transfer.ensures.reached; widen = c.widen.ensures.lawful; wider = c.widen.ensures.reached }) c.share.ensures.change c.requires.small).calls.caller.table ∙ (c.shares_of-shares.ensures.steps.calls.caller.table ∙ c.requires.table))

pub outline_of-content-requires-clause-table : goal.outline_of-content-requires-clause-table
outline_of-content-requires-clause-table g c =
    let so = shares_so c.args.words.now.terms c.args.x.now c.shares_of-shares.new.me c.load_node.new.me c.load_node.result (subst (HoldsSiblings c.args.words.now.terms c.args.x.now) (sym c.shares_of-shares.ensures.holdings) c.requires.held) c.load_node.ensures.tree c.load_node.ensures.log c.requires.overfill c.write_held.new.me (subst (λ (z : Shares). StoresHeld c.args.x.now.left.node z.left c.load_node.new.me c.write_held.new.me) c.shares_of-shares.ensures.shares c.write_held.ensures.stores) (subst (λ (z : Shares). SpellsHeld c.args.x.now.left.node z.left c.write_held.new.me.log) c.shares_of-shares.ensures.shares c.write_held.ensures.spells) c.write_held-2.new.me (subst (λ (z : Shares). StoresHeld c.args.x.now.right.node z.right c.write_held.new.me c.write_held-2.new.me) c.shares_of-shares.ensures.shares c.write_held-2.ensures.stores) (subst (λ (z : Shares). SpellsHeld c.args.x.now.right.node z.right c.write_held-2.new.me.log) c.shares_of-shares.ensures.shares c.write_held-2.ensures.spells) c.write_held-3.new.me (subst (λ (z : Shares). StoresHeld c.args.x.now.above.node z.above c.write_held-2.new.me c.write_held-3.new.me) c.shares_of-shares.ensures.shares c.write_held-3.ensures.stores) (subst (λ (z : Shares). SpellsHeld c.args.x.now.above.node z.above c.write_held-3.new.me.log) c.shares_of-shares.ensures.shares c.write_held-3.ensures.spells) (record { decided = c.exchange_decided.ensures; transfer = c.transfer.ensures.lawful; reached = c.transfer.ensures.reached; widen = c.widen.ensures.lawful; wider = c.widen.ensures.reached }) c.share.ensures.change c.requires.small c.args.pc c.choose-chosen.result c.let_go.new.me c.load_node-2.new.me c.load_node-2.result (c.shares_of-shares.ensures.steps.calls.caller.terms ∙ c.requires.terms) c.requires.between c.choose-chosen.ensures c.let_go.ensures c.load_node-2.ensures.holder c.load_node-2.ensures.log in
    so.1.0.spends.calls.caller.table ∙ (c.shares_of-shares.ensures.steps.calls.caller.table ∙ c.requires.table)
