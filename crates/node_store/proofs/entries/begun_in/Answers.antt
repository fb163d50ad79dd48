use Rattle.std.proofs.Common.{◌≡◌, ◌+◌, ◌*◌, ◌∙◌, ap, sym, subst, arith, nat_le}
use Rattle.tree_shape.specs.NodeData.{entries_of}
use Rattle.word_rule.specs.NodeTells.{HeldTells}
use Rattle.node_store.proofs.LeafSearch.{Looked, begins_at, few_entries, inside_list, looked_all, looked_none, looked_on}
use Rattle.node_store.proofs.LeafWords.{leaf_of}
use Rattle.node_store.proofs.Outlined.{is_held, known, loads_hold, no_loads, one_load, told}
use Rattle.node_store.proofs.entries.begun_in.Goals as goal

pub overflow_cast-count : goal.overflow_cast-count
overflow_cast-count c =
    let few = (few_entries c.args.node c.count-count.result c.args.outline.now c.args.me.now.log c.requires.spells c.requires.leaf c.count-count.ensures).1 in
    omega (arith, few)

pub loop-place-init : goal.loop-place-init
loop-place-init c = record { loads = no_loads c.args.me.now; goes = looked_none c.args.pc (entries_of c.args.outline.now) }

pub loop-place-preserved : goal.loop-place-preserved
loop-place-preserved c =
    let n = c.args.node in
    let s = c.args.outline.now in
    let v = c.args.me.now.log in
    let place = c.loop-place.place in
    let x = known n s v c.requires.spells in
    let word = told n (6 + 3 * place) c.load_node-base.result s v c.loop-place.me.log x (loads_hold c.args.me.now c.loop-place.me c.loop-place.invariant.loads) (subst (λ at. HeldTells n at c.load_node-base.result c.loop-place.me.log) c.at_entry.ensures c.load_node-base.ensures.held) in
    record {
      loads = one_load n _ c.load_node-base.result c.args.me.now c.loop-place.me c.load_node-base.new.me
          (is_held n s v c.requires.spells) c.loop-place.invariant.loads c.load_node-base.ensures.log;
      goes = looked_on c.args.pc (entries_of s) place c.loop-place.ahead c.loop-place.begun c.loop-place.invariant.goes (nat_le c.load_node-base.result c.args.pc)
          (λ m is. ap (λ k. nat_le k c.args.pc) (sym (begins_at x.lock.words s (leaf_of x.lock.words s x.spells c.requires.leaf) place m (inside_list (entries_of s) place m is) is ∙ word)))
          c.where_holds-ahead.result c.where_holds-ahead.ensures;
    }

pub returns-clause-begun : goal.returns-clause-begun
returns-clause-begun c =
    let few = few_entries c.args.node c.count-count.result c.args.outline.now c.args.me.now.log c.requires.spells c.requires.leaf c.count-count.ensures in
    let end : c.loop-place.place ≡ 10 = (let t = c.loop-place-test.false in let e = c.loop-place.auto.place-end in omega (arith, t, e)) in
    let goes = subst (λ k. Looked c.args.pc (entries_of c.args.outline.now) k c.loop-place.ahead c.loop-place.begun) end c.loop-place.invariant.goes in
    c.min.ensures ∙ looked_all c.args.pc (entries_of c.args.outline.now) c.loop-place.ahead c.loop-place.begun c.count-count.result goes (omega (arith, few.0, few.1)) few.0
