use Rattle.std.proofs.Common.{◌+◌, ◌*◌, ◌-◌, ℕ, arith}
use Rattle.word_rule.specs.declared.log.Terms.{Terms}
use Rattle.array_publish.proofs.CopyWalks.{loads_both, loads_none}
use Rattle.array_publish.proofs.Searches.{found_last, none_begun, nothing_listed}
use Rattle.array_publish.proofs.search.last_begun.Goals as goal

pub returns-then-count-eq0-clause-loads : goal.returns-then-count-eq0-clause-loads
returns-then-count-eq0-clause-loads g c = loads_none c.args.words.now.terms c.args.at.copy (g.L.Looker.known c.args.me.now)

pub returns-then-first-pc-clause-loads : goal.returns-then-first-pc-clause-loads
returns-then-first-pc-clause-loads g c =
    loads_both c.args.words.now.terms c.args.at.copy (g.L.Looker.known c.args.me.now) (g.L.Looker.known c.begun_within-more.new.me) (g.L.Looker.known c.load_word-first.new.me) (loads_both c.args.words.now.terms c.args.at.copy (g.L.Looker.known c.args.me.now) (g.L.Looker.known c.segment_for-segment.new.me) (g.L.Looker.known c.begun_within-more.new.me) c.segment_for-segment.ensures.loads c.begun_within-more.ensures.loads) c.load_word-first.ensures.loads

pub returns-clause-loads : goal.returns-clause-loads
returns-clause-loads g c =
    loads_both c.args.words.now.terms c.args.at.copy (g.L.Looker.known c.args.me.now) (g.L.Looker.known c.begun_within-more.new.me) (g.L.Looker.known c.load_word-first.new.me) (loads_both c.args.words.now.terms c.args.at.copy (g.L.Looker.known c.args.me.now) (g.L.Looker.known c.segment_for-segment.new.me) (g.L.Looker.known c.begun_within-more.new.me) c.segment_for-segment.ensures.loads c.begun_within-more.ensures.loads) c.load_word-first.ensures.loads

pub returns-then-count-eq0-clause-last : goal.returns-then-count-eq0-clause-last
returns-then-count-eq0-clause-last g c = nothing_listed c.args.words.now.terms c.args.at.copy (g.L.Looker.known c.args.me.now) c.args.pc c.args.count (omega (arith, c.if-count-eq0.true))

pub returns-then-first-pc-clause-last : goal.returns-then-first-pc-clause-last
returns-then-first-pc-clause-last g c =
    let t : Terms = c.args.words.now.terms in
    let a = c.segment_for-segment.ensures in let b = c.begun_within-more.ensures in
    let low : ℕ = c.args.count - 1 - c.segment_for-segment.result.after in
    let more : ℕ = c.begun_within-more.result in
    let last = found_last t c.args.at.copy (g.L.Looker.known c.segment_for-segment.new.me) (g.L.Looker.known c.begun_within-more.new.me) (g.L.Looker.known c.load_word-first.new.me) c.args.pc c.args.count c.segment_for-segment.result more (omega (arith, c.if-count-eq0.false)) a.after a.whole a.place a.between b.loads b.inside b.begun c.load_word-first.ensures.loads in
    none_begun t c.args.at.copy (g.L.Looker.known c.load_word-first.new.me) c.args.pc c.args.count (low + more) (c.segment_for-segment.result.place + 3 * more) c.load_word-first.result last.1 last.0 c.load_word-first.ensures.told (omega (arith, c.if-first-pc.true))

pub returns-clause-last : goal.returns-clause-last
returns-clause-last g c =
    let t : Terms = c.args.words.now.terms in
    let a = c.segment_for-segment.ensures in let b = c.begun_within-more.ensures in
    let low : ℕ = c.args.count - 1 - c.segment_for-segment.result.after in
    let more : ℕ = c.begun_within-more.result in
    let last = found_last t c.args.at.copy (g.L.Looker.known c.segment_for-segment.new.me) (g.L.Looker.known c.begun_within-more.new.me) (g.L.Looker.known c.load_word-first.new.me) c.args.pc c.args.count c.segment_for-segment.result more (omega (arith, c.if-count-eq0.false)) a.after a.whole a.place a.between b.loads b.inside b.begun c.load_word-first.ensures.loads in
    let after = a.after in let inside = b.inside in
    (low + more, last.0, omega (arith, after, inside, c.if-count-eq0.false), omega (arith, c.if-first-pc.false), c.load_word-first.ensures.told, last.1)
