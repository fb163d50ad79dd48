use Rattle.std.proofs.Common.{ap, ◌∙◌, arith}
use Rattle.std.proofs.lemmas.Result.{err_from_is_err_and}
use Rattle.btree_lookup.proofs.Answering.{few_loads, writes_same}
use Rattle.btree_lookup.proofs.Pairs.{count_loaded}
use Rattle.btree_lookup.proofs.lookup.try_find.Goals as goal

pub returns-in_err-visit-clause-writes : goal.returns-in_err-visit-clause-writes
returns-in_err-visit-clause-writes g c = writes_same c.args.words.now.terms c.args.pc (g.L.Looker.known c.args.me.now) (g.L.Looker.known c.root.new.me) _ ((c.in_err-visit.ensures.err c.args.pc).0)

pub returns-in_err-visit-clause-few : goal.returns-in_err-visit-clause-few
returns-in_err-visit-clause-few g c = few_loads c.args.words.now.terms c.args.pc (g.L.Looker.known c.args.me.now) (g.L.Looker.known c.root.new.me) _ ((c.in_err-visit.ensures.err c.args.pc).0)

pub returns-in_err-node-clause-writes : goal.returns-in_err-node-clause-writes
returns-in_err-node-clause-writes g c = writes_same c.args.words.now.terms c.args.pc (g.L.Looker.known c.args.me.now) (g.L.Looker.known c.descend.new.me) _ ((c.in_err-node.ensures.err (g.L.Looker.known c.args.me.now) (count_loaded c.args.words.now.terms c.args.pc (g.L.Looker.known c.args.me.now) c.loop-visit.visit (g.L.Looker.known c.loop-visit.me) (g.L.Looker.known c.load_node-count.new.self) c.load_node-count.result c.loop-visit.invariant.way c.load_node-count.ensures.log)).0)

pub returns-in_err-node-clause-few : goal.returns-in_err-node-clause-few
returns-in_err-node-clause-few g c = few_loads c.args.words.now.terms c.args.pc (g.L.Looker.known c.args.me.now) (g.L.Looker.known c.descend.new.me) _ ((c.in_err-node.ensures.err (g.L.Looker.known c.args.me.now) (count_loaded c.args.words.now.terms c.args.pc (g.L.Looker.known c.args.me.now) c.loop-visit.visit (g.L.Looker.known c.loop-visit.me) (g.L.Looker.known c.load_node-count.new.self) c.load_node-count.result c.loop-visit.invariant.way c.load_node-count.ensures.log)).0)

pub loop-visit-preserved : goal.loop-visit-preserved
loop-visit-preserved g c =
    let told = c.in_ok-node.ensures in
    record {
      table = told.table ∙ (ap (λ k. k.table) c.load_node-count.ensures.log ∙ c.loop-visit.invariant.table);
      inside = told.inside;
      way = told.ok (g.L.Looker.known c.args.me.now) (count_loaded c.args.words.now.terms c.args.pc (g.L.Looker.known c.args.me.now) c.loop-visit.visit (g.L.Looker.known c.loop-visit.me) (g.L.Looker.known c.load_node-count.new.self) c.load_node-count.result c.loop-visit.invariant.way c.load_node-count.ensures.log);
    }

pub returns-clause-writes : goal.returns-clause-writes
returns-clause-writes g c = writes_same c.args.words.now.terms c.args.pc (g.L.Looker.known c.args.me.now) (g.L.Looker.known c.leaf.new.me) _ (c.leaf.ensures.tries (g.L.Looker.known c.args.me.now) (omega (arith, c.loop-visit-test.false)) c.loop-visit.invariant.way)

pub returns-clause-few : goal.returns-clause-few
returns-clause-few g c = few_loads c.args.words.now.terms c.args.pc (g.L.Looker.known c.args.me.now) (g.L.Looker.known c.leaf.new.me) _ (c.leaf.ensures.tries (g.L.Looker.known c.args.me.now) (omega (arith, c.loop-visit-test.false)) c.loop-visit.invariant.way)

pub returns-clause-terms : goal.returns-clause-terms
returns-clause-terms g c = c.leaf.ensures.terms (g.L.Looker.known c.args.me.now) (omega (arith, c.loop-visit-test.false)) c.loop-visit.invariant.way

pub returns-clause-alone : goal.returns-clause-alone
returns-clause-alone g c = λ alone none_held. c.leaf.ensures.alone (g.L.Looker.known c.args.me.now) (omega (arith, c.loop-visit-test.false)) c.loop-visit.invariant.way alone

pub returns-in_err-node-clause-tries : goal.returns-in_err-node-clause-tries
returns-in_err-node-clause-tries g c =
    let p = err_from_is_err_and c.from_residual-in_err-node.result c.from_residual-in_err-node.ensures.1 in
    rw (p.1, p.2) ((c.in_err-node.ensures.err (g.L.Looker.known c.args.me.now) (count_loaded c.args.words.now.terms c.args.pc (g.L.Looker.known c.args.me.now) c.loop-visit.visit (g.L.Looker.known c.loop-visit.me) (g.L.Looker.known c.load_node-count.new.self) c.load_node-count.result c.loop-visit.invariant.way c.load_node-count.ensures.log)).0)

pub returns-in_err-node-clause-alone : goal.returns-in_err-node-clause-alone
returns-in_err-node-clause-alone g c =
    let p = err_from_is_err_and c.from_residual-in_err-node.result c.from_residual-in_err-node.ensures.1 in
    rw p.1 (c.in_err-node.ensures.alone (g.L.Looker.known c.args.me.now) (count_loaded c.args.words.now.terms c.args.pc (g.L.Looker.known c.args.me.now) c.loop-visit.visit (g.L.Looker.known c.loop-visit.me) (g.L.Looker.known c.load_node-count.new.self) c.load_node-count.result c.loop-visit.invariant.way c.load_node-count.ensures.log))
