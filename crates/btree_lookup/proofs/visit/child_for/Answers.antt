use Rattle.std.proofs.Common.{◌≡◌, ◌⊎◌, ◌≤◌, inl, inr, arith}
use Rattle.btree_lookup.proofs.Pairs.{all_below, child_seen, child_wrong, count_wrong}
use Rattle.btree_lookup.proofs.visit.child_for.Goals.{then-child-eq0-via-then-child-eq0, then-child-eq0-via-else-child-eq0+then-child-visit, then-child-eq0-via-else-child-eq0+else-child-visit+then-child-nodes}
use Rattle.btree_lookup.proofs.visit.child_for.Goals as goal

pub returns-then-count-clause-none : goal.returns-then-count-clause-none
returns-then-count-clause-none g c k above counted _ =
    count_wrong c.args.words.now.terms c.args.pc k c.args.visit (g.L.Looker.known c.args.me.now) c.args.count
    counted (omega (arith, c.if-count.true)) above

pub returns-then-slot-count-clause-none : goal.returns-then-slot-count-clause-none
returns-then-slot-count-clause-none g c k above counted _ =
    all_below c.args.words.now.terms c.args.pc k c.args.visit (g.L.Looker.known c.slot_for-slot.new.me) c.args.count c.slot_for-slot.result (c.slot_for-slot.ensures.below k c.args.count counted) c.if-slot-count.true above

pub returns-then-child-eq0-clause-none : goal.returns-then-child-eq0-clause-none
returns-then-child-eq0-clause-none g c k above counted _ =
    let few = c.if-count.false in let less = c.if-slot-count.false in
    let wrong : (c.load_node-child.result ≡ 0) ⊎ ((c.load_node-child.result ≡ c.args.visit.node) ⊎ (c.args.words.now.terms.nodes ≤ c.load_node-child.result)) = elim c.then-child-eq0.branch [
      | then-child-eq0-via-then-child-eq0 w' ↦ inl (omega (arith, w'.if-child-eq0))
      | then-child-eq0-via-else-child-eq0+then-child-visit w' ↦ inr (inl (omega (arith, w'.if-child-visit)))
      | then-child-eq0-via-else-child-eq0+else-child-visit+then-child-nodes w' ↦ inr (inr (let n = w'.nodes.ensures.value in let l = w'.if-child-nodes in omega (arith, n, l)))
    ] in
    child_wrong c.args.words.now.terms c.args.pc k c.args.visit (g.L.Looker.known c.slot_for-slot.new.me) c.args.count c.slot_for-slot.result (c.slot_for-slot.ensures.below k c.args.count counted)
    (g.L.Looker.known c.load_node-child.new.self) c.load_node-child.result (omega (arith, less)) (omega (arith, few)) above c.load_node-child.ensures.log wrong

pub returns-clause-child : goal.returns-clause-child
returns-clause-child g c k above counted =
    let few = c.if-count.false in let less = c.if-slot-count.false in
    child_seen c.args.words.now.terms c.args.pc k c.args.visit (g.L.Looker.known c.slot_for-slot.new.me) c.args.count c.slot_for-slot.result (c.slot_for-slot.ensures.below k c.args.count counted)
    (g.L.Looker.known c.load_node-child.new.self) c.load_node-child.result (omega (arith, less)) (omega (arith, few)) above c.load_node-child.ensures.log c.if-child-eq0.false c.if-child-visit.false
