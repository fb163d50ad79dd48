use Rattle.std.proofs.Common.{◌≡◌, ◌+◌, ◌∙◌, ap, refl, subst, arith, nat_lt}
use Rattle.btree_lookup.specs.Visits.{SeesBelow}
use Rattle.btree_lookup.proofs.Pairs.{separator_looked}
use Rattle.btree_lookup.proofs.Turns.{all_turned, turned_on}
use Rattle.btree_lookup.proofs.visit.below.Goals as goal

pub loop-at-init : goal.loop-at-init
loop-at-init g c = record {
  table = c.requires.table;
  goes = all_turned c.args.slots.start;
  below = λ k count w. w;
}

pub loop-at-preserved : goal.loop-at-preserved
loop-at-preserved g c =
    let i = c.loop-at.invariant in let less = c.loop-at-test.true in let most = c.requires.slots.1 in
    let turn = turned_on (nat_lt c.load_node-separator.result c.args.pc) c.loop-at.ahead c.where_holds-ahead.result c.loop-at.at c.loop-at.slot i.goes c.where_holds-ahead.ensures in
    record {
      table = ap (λ k. k.table) c.load_node-separator.ensures.log ∙ i.table;
      goes = turn.1;
      below = λ k count w.
          subst (λ n. SeesBelow c.args.words.now.terms c.args.pc k c.args.visit count (c.loop-at.at + 1) (c.loop-at.slot + n) (g.L.Looker.known c.load_node-separator.new.self)) turn.0
          (separator_looked c.args.words.now.terms c.args.pc k c.args.visit (g.L.Looker.known c.loop-at.me) (g.L.Looker.known c.load_node-separator.new.self) count c.loop-at.at c.loop-at.slot c.load_node-separator.result (i.below k count w) c.load_node-separator.ensures.log (omega (arith, less, most)) i.goes.2.few i.goes.0 _ i.goes.2.all_so i.goes.2.fewer refl);
    }

pub returns-clause-below : goal.returns-clause-below
returns-clause-below g c k count w =
    let end : c.loop-at.at ≡ c.args.slots.end = (let t = c.loop-at-test.false in let e = c.loop-at.auto.at-end c.requires.slots.0 in omega (arith, t, e)) in
    subst (λ n. SeesBelow c.args.words.now.terms c.args.pc k c.args.visit count n c.loop-at.slot (g.L.Looker.known c.loop-at.me)) end (c.loop-at.invariant.below k count w)
