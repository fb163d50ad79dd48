use Rattle.std.proofs.Common.{◌+◌, ◌-◌, ◌≤◌, Option, Some, [], ap, arith, drop, length, subst, sym, ◌∷◌, ◌∙◌}
use Rattle.word_rule.specs.CallerData.{CallerData}
use Rattle.tree_descent.proofs.Lowering.{pair_inner, settled_order}
use Rattle.tree_descent.proofs.Outlining.{steps_read}
use Rattle.tree_descent.proofs.Spending.{more_spent, spends_same, steps_after, surplus_steps}
use Rattle.btree_change.specs.Kept.{HoldsPath}
use Rattle.btree_change.specs.declared.stand.Beyond.{Beyond}
use Rattle.btree_change.specs.Stands.{IsReach, StandsOnWay, kept_above, kept_node}
use Rattle.btree_change.proofs.KeptPaths.{kept_may}
use Rattle.btree_change.proofs.Standing.{above_path, child_ends, kept_length, left_alone, left_with_parent, lower_spelled, parent_path, stands_above, stands_child, stands_parent, upper_spelled}
use Rattle.btree_change.proofs.stand.stand_below.Goals as goal

pub load_node-requires-clause-inside : goal.load_node-requires-clause-inside
load_node-requires-clause-inside g c = c.requires.reach.0.child_within

pub reach_of-reach-requires-clause-above : goal.reach_of-reach-requires-clause-above
reach_of-reach-requires-clause-above g c = c.requires.reach.0.parent_within

pub reach_of-reach-requires-clause-below : goal.reach_of-reach-requires-clause-below
reach_of-reach-requires-clause-below g c = c.requires.reach.0.child_within

pub reach_of-reach-requires-clause-parent : goal.reach_of-reach-requires-clause-parent
reach_of-reach-requires-clause-parent g c =
    let m = c.args.member.now in let step = c.args.step in let hs = c.args.me.now.log.holdings in
    upper_spelled c.args.words.now.terms m.span.first m.span.last step.parent step.child (drop 2 hs.held) hs c.requires.reach.0 c.load_node.ensures.tree c.load_node.new.me.log (ap (λ (k : CallerData). k.log.holdings) c.load_node.ensures.log)

pub reach_of-reach-requires-clause-child : goal.reach_of-reach-requires-clause-child
reach_of-reach-requires-clause-child g c =
    let m = c.args.member.now in let step = c.args.step in let hs = c.args.me.now.log.holdings in
    lower_spelled c.args.words.now.terms m.span.first m.span.last step.parent step.child (drop 2 hs.held) hs c.requires.reach.0 c.load_node.ensures.tree c.load_node.new.me.log (ap (λ (k : CallerData). k.log.holdings) c.load_node.ensures.log)

pub reach_of-reach-requires-clause-inner : goal.reach_of-reach-requires-clause-inner
reach_of-reach-requires-clause-inner g c = pair_inner c.args.words.now.terms c.args.member.now.span.first c.args.step.parent c.args.step.child (drop 2 c.args.me.now.log.holdings.held) c.args.me.now.log.holdings c.requires.reach.0

pub reach_of-reach-requires-clause-ordered : goal.reach_of-reach-requires-clause-ordered
reach_of-reach-requires-clause-ordered g c = let p = c.requires.reach.0 in settled_order c.args.words.now.terms c.args.step.parent.node c.args.step.parent.content c.args.step.parent.changed p.upper p.parent_is

pub reach_of-reach-requires-clause-high : goal.reach_of-reach-requires-clause-high
reach_of-reach-requires-clause-high g c =
    let m = c.args.member.now in let step = c.args.step in let hs = c.args.me.now.log.holdings in
    child_ends c.args.words.now.terms m.span.first m.span.last step.parent step.child (drop 2 hs.held) hs c.requires.reach.0 c.load_node.ensures.tree

-- the span ends in the child
pub let_go_of-requires-clause-inside : goal.let_go_of-requires-clause-inside
let_go_of-requires-clause-inside g c = c.requires.reach.0.parent_within

pub let_go_of-requires-clause-may : goal.let_go_of-requires-clause-may
let_go_of-requires-clause-may g c =
    let t = c.args.words.now.terms in let m = c.args.member.now in let step = c.args.step in let so_far = c.args.so_far in
    let k = c.args.me.now in let k1 = c.load_node.new.me in let k2 = c.reach_of-reach.new.me in let hs = k.log.holdings in
    let path = parent_path t m.span.first m.span.last step.parent step.child (drop 2 hs.held) hs c.requires.reach.0 c.load_node.ensures.tree so_far c.requires.reach.1 in
    kept_may t (kept_node step.parent) (kept_above so_far) (c.requires.reach.0.lower ∷ []) k2.log.holdings (subst (HoldsPath t (kept_node step.parent ∷ kept_above so_far) (c.requires.reach.0.lower ∷ [])) (sym (steps_read step.child.node 2 c.load_node.result k k1 k2 c.load_node.ensures.log c.reach_of-reach.ensures.loads).1) path)

pub let_go_of-requires-clause-surplus : goal.let_go_of-requires-clause-surplus
let_go_of-requires-clause-surplus g c =
    let k = c.args.me.now in let k1 = c.load_node.new.me in let k2 = c.reach_of-reach.new.me in
    let steps = (steps_read c.args.step.child.node 2 c.load_node.result k k1 k2 c.load_node.ensures.log c.reach_of-reach.ensures.loads).0 in
    let e = c.requires.surplus in surplus_steps 0 k k2 1 (spends_same k k2 steps) (omega (arith, e))

pub returns-in-Child-clause-stands : goal.returns-in-Child-clause-stands
returns-in-Child-clause-stands g c =
    let t = c.args.words.now.terms in let m = c.args.member.now in let step = c.args.step in let so_far = c.args.so_far in
    let k = c.args.me.now in let k1 = c.load_node.new.me in let k2 = c.reach_of-reach.new.me in let k3 = c.let_go_of.new.me in let hs = k.log.holdings in let pair = c.requires.reach.0 in let tree = c.load_node.ensures.tree in
    let reach = subst (IsReach step.parent.content m.span.first m.span.last) c.in-Child.is c.reach_of-reach.ensures.reach in
    let left = left_alone t m step.parent step.child step.room (drop 2 hs.held) k pair tree c.requires.way so_far c.requires.reach.1 c.requires.height c.requires.loader reach k2 k3 (steps_read step.child.node 2 c.load_node.result k k1 k2 c.load_node.ensures.log c.reach_of-reach.ensures.loads) c.let_go_of.ensures in
    stands_child t m step.parent step.child step.room (drop 2 hs.held) k pair tree c.requires.way so_far c.requires.reach.1 c.requires.height c.requires.loader reach 1 k3 left.steps left.held (left.out ∙ pair.out)

pub returns-in-Child-clause-spends : goal.returns-in-Child-clause-spends
returns-in-Child-clause-spends g c =
    let k = c.args.me.now in let k1 = c.load_node.new.me in let k2 = c.reach_of-reach.new.me in
    let steps = (steps_read c.args.step.child.node 2 c.load_node.result k k1 k2 c.load_node.ensures.log c.reach_of-reach.ensures.loads).0 in
    steps_after 0 1 (length (kept_above c.args.so_far) + 1 - 0) k k2 c.let_go_of.new.me (omega arith) (spends_same k k2 steps) c.let_go_of.ensures.steps

-- it ends in another child of the parent
pub let_go_of_kept-requires-clause-path : goal.let_go_of_kept-requires-clause-path
let_go_of_kept-requires-clause-path g c =
    let t = c.args.words.now.terms in let m = c.args.member.now in let step = c.args.step in let so_far = c.args.so_far in
    let k = c.args.me.now in let k1 = c.load_node.new.me in let k2 = c.reach_of-reach.new.me in let hs = k.log.holdings in let pair = c.requires.reach.0 in let tree = c.load_node.ensures.tree in
    let path = above_path t m.span.first m.span.last step.parent step.child (drop 2 hs.held) hs pair tree so_far c.requires.reach.1 in
    (pair.lower ∷ pair.upper ∷ [], subst (HoldsPath t (kept_above so_far) (pair.lower ∷ pair.upper ∷ [])) (sym (steps_read step.child.node 2 c.load_node.result k k1 k2 c.load_node.ensures.log c.reach_of-reach.ensures.loads).1) path)

pub let_go_of_kept-requires-clause-surplus : goal.let_go_of_kept-requires-clause-surplus
let_go_of_kept-requires-clause-surplus g c =
    let k = c.args.me.now in let k1 = c.load_node.new.me in let k2 = c.reach_of-reach.new.me in
    let steps = (steps_read c.args.step.child.node 2 c.load_node.result k k1 k2 c.load_node.ensures.log c.reach_of-reach.ensures.loads).0 in
    let e = c.requires.surplus in surplus_steps 0 k k2 (length (kept_above c.args.so_far)) (spends_same k k2 steps) (omega (arith, e))

pub returns-in-Parent-clause-stands : goal.returns-in-Parent-clause-stands
returns-in-Parent-clause-stands g c =
    let t = c.args.words.now.terms in let m = c.args.member.now in let step = c.args.step in let so_far = c.args.so_far in
    let k = c.args.me.now in let k1 = c.load_node.new.me in let k2 = c.reach_of-reach.new.me in let k3 = c.let_go_of_kept.new.me in let hs = k.log.holdings in let pair = c.requires.reach.0 in let tree = c.load_node.ensures.tree in
    let left = left_with_parent t m step.parent step.child step.room (drop 2 hs.held) k pair tree c.requires.way so_far c.requires.reach.1 c.requires.height c.requires.loader k2 k3 (steps_read step.child.node 2 c.load_node.result k k1 k2 c.load_node.ensures.log c.reach_of-reach.ensures.loads) c.let_go_of_kept.ensures in
    let reach = subst (IsReach step.parent.content m.span.first m.span.last) c.in-Parent.is c.reach_of-reach.ensures.reach in
    subst (λ (b : Beyond). StandsOnWay t m (record { at = step.child; beyond = Some b; room = step.room }) k3.log) (sym c.above_both.ensures)
    (stands_parent t m step.parent step.child step.room (drop 2 hs.held) k pair tree c.requires.way so_far c.requires.reach.1 c.requires.height c.requires.loader c.in-Parent.slot reach (length (kept_above so_far)) k3 left.steps left.held (left.out ∙ pair.out))

pub returns-in-Parent-clause-fewer : goal.returns-in-Parent-clause-fewer
returns-in-Parent-clause-fewer g c = let one = ap (λ (b : Beyond). length b.kept) c.above_both.ensures in omega (arith, one)

pub returns-in-Parent-clause-spends : goal.returns-in-Parent-clause-spends
returns-in-Parent-clause-spends g c =
    let t = c.args.words.now.terms in let m = c.args.member.now in let step = c.args.step in let so_far = c.args.so_far in
    let k = c.args.me.now in let k1 = c.load_node.new.me in let k2 = c.reach_of-reach.new.me in let k3 = c.let_go_of_kept.new.me in let hs = k.log.holdings in let pair = c.requires.reach.0 in let tree = c.load_node.ensures.tree in
    let left = left_with_parent t m step.parent step.child step.room (drop 2 hs.held) k pair tree c.requires.way so_far c.requires.reach.1 c.requires.height c.requires.loader k2 k3 (steps_read step.child.node 2 c.load_node.result k k1 k2 c.load_node.ensures.log c.reach_of-reach.ensures.loads) c.let_go_of_kept.ensures in
    let one = ap (λ (b : Beyond). length b.kept) c.above_both.ensures in
    more_spent (length (kept_above so_far)) (length (kept_above so_far) + 1 - length c.above_both.result.kept) k k3 (omega (arith, one)) left.steps

-- or beyond the parent
pub keep_too-requires : goal.keep_too-requires
keep_too-requires g c = let inner = c.requires.reach.0.inner in let low = c.requires.height in omega (arith, inner, low)

pub returns-clause-stands : goal.returns-clause-stands
returns-clause-stands g c =
    let t = c.args.words.now.terms in let m = c.args.member.now in let step = c.args.step in let so_far = c.args.so_far in
    let k = c.args.me.now in let k1 = c.load_node.new.me in let k2 = c.reach_of-reach.new.me in let hs = k.log.holdings in let pair = c.requires.reach.0 in let tree = c.load_node.ensures.tree in
    let reach = subst (IsReach step.parent.content m.span.first m.span.last) c.in-Above.is c.reach_of-reach.ensures.reach in
    let read = (steps_read step.child.node 2 c.load_node.result k k1 k2 c.load_node.ensures.log c.reach_of-reach.ensures.loads) in
    subst (λ (o : Option Beyond). StandsOnWay t m (record { at = step.child; beyond = o; room = step.room }) k2.log) (sym c.keep_too.ensures)
    (stands_above t m step.parent step.child step.room (drop 2 hs.held) k pair tree c.requires.way so_far c.requires.reach.1 c.requires.height c.requires.loader reach k2 read.0 read.1)

pub returns-clause-fewer : goal.returns-clause-fewer
returns-clause-fewer g c =
    let so_far = c.args.so_far in let step = c.args.step in let k = c.args.me.now in
    subst (λ (o : Option Beyond). length (kept_above o) ≤ length (kept_above so_far) + 1) (sym c.keep_too.ensures)
    (kept_length c.args.words.now.terms c.args.member.now step.parent step.child step.room (drop 2 k.log.holdings.held) k c.requires.reach.0 c.load_node.ensures.tree c.requires.way so_far c.requires.reach.1 c.requires.height c.requires.loader)

pub returns-clause-spends : goal.returns-clause-spends
returns-clause-spends g c =
    let k = c.args.me.now in let k1 = c.load_node.new.me in let k2 = c.reach_of-reach.new.me in
    let steps = (steps_read c.args.step.child.node 2 c.load_node.result k k1 k2 c.load_node.ensures.log c.reach_of-reach.ensures.loads).0 in
    more_spent 0 (length (kept_above c.args.so_far) + 1 - length (kept_above c.keep_too.result)) k k2 (omega arith) (spends_same k k2 steps)
