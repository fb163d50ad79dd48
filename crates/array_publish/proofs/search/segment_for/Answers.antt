use Rattle.std.proofs.Common.{◌+◌, ◌*◌, ◌-◌, ◌/◌, ℕ, subst, arith}
use Rattle.word_rule.specs.CallerData.{CallerData}
use Rattle.word_rule.specs.declared.log.Terms.{Terms}
use Rattle.array_publish.specs.Search.{CountsBegun}
use Rattle.array_publish.proofs.CopyWalks.{loads_both}
use Rattle.array_publish.proofs.Counts.{counted_later}
use Rattle.array_publish.proofs.Searches.{by_segments, eights}
use Rattle.array_publish.proofs.search.segment_for.Goals as goal

pub returns-clause-loads : goal.returns-clause-loads
returns-clause-loads g c = loads_both c.args.words.now.terms c.args.at.copy (g.L.Looker.known c.args.me.now) (g.L.Looker.known c.begun_in-begun.new.me) (g.L.Looker.known c.begun_in-more.new.me) c.begun_in-begun.ensures.loads c.begun_in-more.ensures.loads

pub returns-clause-between : goal.returns-clause-between
returns-clause-between g c =
    let t : Terms = c.args.words.now.terms in
    let k1 : CallerData = (g.L.Looker.known c.begun_in-begun.new.me) in let k2 : CallerData = (g.L.Looker.known c.begun_in-more.new.me) in
    let e : ℕ = c.begun_in-begun.result in let o : ℕ = c.begun_in-more.result in
    let few = c.begun_in-begun.ensures.inside in let most = c.begun_in-more.ensures.inside in let number = c.min-length.ensures in
    by_segments t c.args.at.copy k2 c.args.pc c.args.last e o (c.args.last - (c.args.last - 128 * e - 16 * o)) (counted_later t c.args.at.copy k1 k2 c.args.pc (eights c.args.last) (c.args.last / 128) e c.begun_in-more.ensures.loads c.begun_in-begun.ensures.begun) few
    (subst (λ m. CountsBegun t c.args.at.copy k2 c.args.pc (record { place = 4 + 400 * e + 50; apart = 50; length = m }) m o) number c.begun_in-more.ensures.begun) (omega (arith, most, number)) (omega (arith, few, most, number))
