use Rattle.std.proofs.Common.{◌+◌, ap, subst, arith}
use Rattle.tree_shape.specs.NodeData.{pairs_of}
use Rattle.tree_shape.proofs.Orders.{inner_order}
use Rattle.tree_shape.proofs.Slots.{slot_inside}
use Rattle.word_rule.specs.NodeTells.{HeldTells}
use Rattle.node_store.proofs.Outlined.{few_slots, is_held, loads_hold, one_load, separator_told, slot_ends, slot_next}
use Rattle.node_store.proofs.outline.slot_of.Goals as goal

pub overflow_cast-count : goal.overflow_cast-count
overflow_cast-count c = let few = (few_slots c.args.node c.count-count.result c.args.outline.now c.args.me.now.log c.requires.spells c.requires.inner c.count-count.ensures).1 in omega (arith, few)

pub at_pair-requires : goal.at_pair-requires
at_pair-requires c = let few = (few_slots c.args.node c.count-count.result c.args.outline.now c.args.me.now.log c.requires.spells c.requires.inner c.count-count.ensures).1 in omega (arith, few, c.loop-slot-test.true)

pub load_node-requires-clause-word : goal.load_node-requires-clause-word
load_node-requires-clause-word c =
    let few = (few_slots c.args.node c.count-count.result c.args.outline.now c.args.me.now.log c.requires.spells c.requires.inner c.count-count.ensures).1 in
    (omega (arith, c.at_pair.ensures), omega (arith, c.at_pair.ensures, few, c.loop-slot-test.true))

pub returns-then-pc-load_node-clause-first : goal.returns-then-pc-load_node-clause-first
returns-then-pc-load_node-clause-first c =
    let count = (few_slots c.args.node c.count-count.result c.args.outline.now c.args.me.now.log c.requires.spells c.requires.inner c.count-count.ensures).0 in
    let pair = separator_told c.args.node c.loop-slot.slot c.load_node.result c.args.outline.now c.args.me.now.log c.loop-slot.me.log c.requires.spells c.requires.inner (omega (arith, c.loop-slot-test.true, count)) (loads_hold c.args.me.now c.loop-slot.me c.loop-slot.invariant.loads) (subst (λ at. HeldTells c.args.node at c.load_node.result c.loop-slot.me.log) (ap (λ at. at + 1) c.at_pair.ensures) c.load_node.ensures.held) in
    slot_ends c.args.pc c.loop-slot.slot (pairs_of c.args.outline.now) pair.0 pair.1.0 (omega (arith, pair.1.1, c.if-pc-load_node.true)) c.loop-slot.invariant.left

pub returns-then-pc-load_node-clause-loads : goal.returns-then-pc-load_node-clause-loads
returns-then-pc-load_node-clause-loads c =
    one_load c.args.node _ c.load_node.result c.args.me.now c.loop-slot.me c.load_node.new.me
    (is_held c.args.node c.args.outline.now c.args.me.now.log c.requires.spells) c.loop-slot.invariant.loads c.load_node.ensures.log

pub loop-slot-preserved : goal.loop-slot-preserved
loop-slot-preserved c =
    let count = (few_slots c.args.node c.count-count.result c.args.outline.now c.args.me.now.log c.requires.spells c.requires.inner c.count-count.ensures).0 in
    let pair = separator_told c.args.node c.loop-slot.slot c.load_node.result c.args.outline.now c.args.me.now.log c.loop-slot.me.log c.requires.spells c.requires.inner (omega (arith, c.loop-slot-test.true, count)) (loads_hold c.args.me.now c.loop-slot.me c.loop-slot.invariant.loads) (subst (λ at. HeldTells c.args.node at c.load_node.result c.loop-slot.me.log) (ap (λ at. at + 1) c.at_pair.ensures) c.load_node.ensures.held) in
    record {
      loads = one_load c.args.node _ c.load_node.result c.args.me.now c.loop-slot.me c.load_node.new.me
          (is_held c.args.node c.args.outline.now c.args.me.now.log c.requires.spells) c.loop-slot.invariant.loads c.load_node.ensures.log;
      left = slot_next c.args.pc c.loop-slot.slot (pairs_of c.args.outline.now) pair.0 pair.1.0 (omega (arith, pair.1.1, c.if-pc-load_node.false)) c.loop-slot.invariant.left;
    }

pub unreachable-requires : goal.unreachable-requires
unreachable-requires c =
    let s = c.args.outline.now in
    let count = (few_slots c.args.node c.count-count.result s c.args.me.now.log c.requires.spells c.requires.inner c.count-count.ensures).0 in
    let cut = inner_order s c.requires.inner c.requires.ordered in
    let inside = slot_inside c.args.pc 0 s.high (pairs_of s) cut (omega arith) c.requires.here.1 in
    absurd (omega (arith, inside, count, c.loop-slot.invariant.left, c.loop-slot-test.false))
