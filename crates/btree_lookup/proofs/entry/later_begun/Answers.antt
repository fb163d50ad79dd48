use Rattle.std.proofs.Common.{◌≡◌, ◌+◌, ◌*◌, ◌∙◌, ap, refl, subst, arith, nat_le}
use Rattle.word_rule.specs.Sights.{after_node_load}
use Rattle.btree_lookup.specs.Visits.{SeesLater}
use Rattle.btree_lookup.proofs.Leaves.{base_looked}
use Rattle.btree_lookup.proofs.Turns.{all_turned, turned_on}
use Rattle.btree_lookup.proofs.entry.later_begun.Goals as goal

pub loop-at-init : goal.loop-at-init
loop-at-init g c = record {
  table = c.requires.table;
  goes = all_turned 0;
  later = λ k count w. w;
}

pub loop-at-preserved : goal.loop-at-preserved
loop-at-preserved g c =
    let i = c.loop-at.invariant in let less = c.loop-at-test.true in
    let turn = turned_on (nat_le c.load_node-next.result c.args.pc) c.loop-at.ahead c.where_holds-ahead.result c.loop-at.at c.loop-at.later i.goes c.where_holds-ahead.ensures in
    record {
      table = ap (λ k. k.table) c.load_node-next.ensures.log ∙ i.table;
      goes = turn.1;
      later = λ k count w.
          let place : 6 + 3 * (c.loop-at.at + 1) ≡ 9 + 3 * c.loop-at.at = omega arith in
          let log = subst (λ p. (g.L.Looker.known c.load_node-next.new.self) ≡ record (g.L.Looker.known c.loop-at.me) { log = after_node_load c.args.visit.node p c.load_node-next.result (g.L.Looker.known c.loop-at.me).log }) place c.load_node-next.ensures.log in
          subst (λ n. SeesLater c.args.words.now.terms c.args.pc k c.args.visit count (c.loop-at.at + 1) (c.loop-at.later + n) (g.L.Looker.known c.load_node-next.new.self)) turn.0
          (base_looked c.args.words.now.terms c.args.pc k c.args.visit (g.L.Looker.known c.loop-at.me) (g.L.Looker.known c.load_node-next.new.self) count c.loop-at.at c.loop-at.later c.load_node-next.result i.goes.0 _ (i.later k count w) log less i.goes.2.all_so i.goes.2.fewer refl);
    }

pub returns-clause-later : goal.returns-clause-later
returns-clause-later g c k count w =
    let end : c.loop-at.at ≡ 9 = (let t = c.loop-at-test.false in let e = c.loop-at.auto.at-end in omega (arith, t, e)) in
    subst (λ n. SeesLater c.args.words.now.terms c.args.pc k c.args.visit count n c.loop-at.later (g.L.Looker.known c.loop-at.me)) end (c.loop-at.invariant.later k count w)
