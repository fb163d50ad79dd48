use Rattle.std.proofs.Common.{◌+◌, ℕ, sym, subst, arith}
use Rattle.word_rule.specs.CallerData.{CallerData}
use Rattle.word_rule.specs.declared.log.Terms.{Terms}
use Rattle.array_publish.specs.Search.{CountsBegun}
use Rattle.array_publish.proofs.CopyWalks.{loads_none, loads_both, at_copy_stays}
use Rattle.array_publish.proofs.Counts.{none_counted, one_counted, counted_at_most}
use Rattle.array_publish.proofs.search.begun_in.Goals as goal

pub loop-number-init : goal.loop-number-init
loop-number-init g c = record {
  loads = loads_none c.args.words.now.terms c.args.at.copy (g.L.Looker.known c.args.me.now);
  copy = c.requires.from.copy;
  few = omega arith;
  inside = omega arith;
  begun = none_counted c.args.words.now.terms c.args.at.copy (g.L.Looker.known c.args.me.now) c.args.pc c.args.series;
}

pub loop-number-preserved : goal.loop-number-preserved
loop-number-preserved g c =
    let t : Terms = c.args.words.now.terms in
    let copy : ℕ = c.args.at.copy in
    let k : CallerData = (g.L.Looker.known c.loop-number.me) in
    let k' : CallerData = (g.L.Looker.known c.load_word-first.new.me) in
    let was = c.loop-number in
    let i = was.invariant in let more = c.load_word-first.ensures.loads in
    let first : ℕ = c.load_word-first.result in
    let count = i.few in let one = c.load_word-first.ensures.one in
    let inside = i.inside in let number = c.where_holds-begun.ensures in let most = counted_at_most first c.args.pc 1 in record {
      loads = loads_both t copy (g.L.Looker.known c.args.me.now) k k' i.loads more;
      copy = at_copy_stays c.args.words.now copy k k' i.copy more;
      few = omega (arith, count, one);
      inside = omega (arith, inside, number, most);
      begun = subst (λ n. CountsBegun t copy k' c.args.pc c.args.series (was.number + 1) (was.begun + n)) (sym number)
          (one_counted t copy k k' c.args.pc c.args.series was.number was.begun first more inside (c.loop-number-test.true) i.begun c.load_word-first.ensures.told);
    }
