use Rattle.std.proofs.Common.{◌+◌, Some, subst, arith}
use Rattle.word_rule.specs.CallerData.{CallerData}
use Rattle.word_rule.specs.declared.log.Terms.{Terms}
use Rattle.array_publish.specs.Search.{IsLastBegun}
use Rattle.array_publish.proofs.CopyWalks.{loads_both, told_later}
use Rattle.array_publish.proofs.Searches.{begun_later, none_listed, ends_below, is_listed}
use Rattle.array_publish.proofs.search.listed_at.Goals as goal

pub returns-in_default-clause-loads : goal.returns-in_default-clause-loads
returns-in_default-clause-loads g c =
    loads_both c.args.words.now.terms c.args.copy (g.L.Looker.known c.args.me.now) (g.L.Looker.known c.load_word.new.me) (g.L.Looker.known c.last_begun.new.me) c.load_word.ensures.loads c.last_begun.ensures.loads

pub returns-in_default-clause-found : goal.returns-in_default-clause-found
returns-in_default-clause-found g c =
    let t : Terms = c.args.words.now.terms in
    let k : CallerData = (g.L.Looker.known c.last_begun.new.me) in
    let told = told_later t c.args.copy (g.L.Looker.known c.load_word.new.me) k 1 c.load_word.result c.last_begun.ensures.loads c.load_word.ensures.told in
    let none = subst (IsLastBegun t c.args.copy k c.args.pc c.min-count.result) c.in_default.is c.last_begun.ensures.last in
    none_listed t c.args.copy k c.args.pc c.min-count.result c.load_word.result told (omega (arith, c.min-count.ensures, c.loads-loads.ensures)) none

pub returns-then-pc-last-clause-loads : goal.returns-then-pc-last-clause-loads
returns-then-pc-last-clause-loads g c =
    let t : Terms = c.args.words.now.terms in
    let two = loads_both t c.args.copy (g.L.Looker.known c.args.me.now) (g.L.Looker.known c.load_word.new.me) (g.L.Looker.known c.last_begun.new.me) c.load_word.ensures.loads c.last_begun.ensures.loads in
    loads_both t c.args.copy (g.L.Looker.known c.args.me.now) (g.L.Looker.known c.last_begun.new.me) (g.L.Looker.known c.load_word-last.new.me) two c.load_word-last.ensures.loads

pub returns-then-pc-last-clause-found : goal.returns-then-pc-last-clause-found
returns-then-pc-last-clause-found g c =
    let t : Terms = c.args.words.now.terms in
    let k1 : CallerData = (g.L.Looker.known c.last_begun.new.me) in
    let k : CallerData = (g.L.Looker.known c.load_word-last.new.me) in
    let told = told_later t c.args.copy k1 k 1 c.load_word.result c.load_word-last.ensures.loads (told_later t c.args.copy (g.L.Looker.known c.load_word.new.me) k1 1 c.load_word.result c.last_begun.ensures.loads c.load_word.ensures.told) in
    let last = subst (IsLastBegun t c.args.copy k1 c.args.pc c.min-count.result) c.in-Some.is c.last_begun.ensures.last in
    let begun = begun_later t c.args.copy k1 k c.args.pc c.min-count.result (Some c.in-Some.field-0) c.load_word-last.ensures.loads last in
    let told_last = c.load_word-last.ensures.told in
    ends_below t c.args.copy k c.args.pc c.min-count.result c.load_word.result told (omega (arith, c.min-count.ensures, c.loads-loads.ensures)) c.in-Some.field-0 begun c.load_word-last.result told_last (omega (arith, c.if-pc-last.true))

pub returns-clause-loads : goal.returns-clause-loads
returns-clause-loads g c =
    let t : Terms = c.args.words.now.terms in
    let two = loads_both t c.args.copy (g.L.Looker.known c.args.me.now) (g.L.Looker.known c.load_word.new.me) (g.L.Looker.known c.last_begun.new.me) c.load_word.ensures.loads c.last_begun.ensures.loads in
    let three = loads_both t c.args.copy (g.L.Looker.known c.args.me.now) (g.L.Looker.known c.last_begun.new.me) (g.L.Looker.known c.load_word-last.new.me) two c.load_word-last.ensures.loads in
    loads_both t c.args.copy (g.L.Looker.known c.args.me.now) (g.L.Looker.known c.load_word-last.new.me) (g.L.Looker.known c.load_word-payload.new.me) three c.load_word-payload.ensures.loads

pub returns-clause-found : goal.returns-clause-found
returns-clause-found g c =
    let t : Terms = c.args.words.now.terms in
    let k1 : CallerData = (g.L.Looker.known c.last_begun.new.me) in
    let k2 : CallerData = (g.L.Looker.known c.load_word-last.new.me) in
    let k : CallerData = (g.L.Looker.known c.load_word-payload.new.me) in
    let two = loads_both t c.args.copy k1 k2 k c.load_word-last.ensures.loads c.load_word-payload.ensures.loads in
    let told = told_later t c.args.copy k1 k 1 c.load_word.result two (told_later t c.args.copy (g.L.Looker.known c.load_word.new.me) k1 1 c.load_word.result c.last_begun.ensures.loads c.load_word.ensures.told) in
    let last = subst (IsLastBegun t c.args.copy k1 c.args.pc c.min-count.result) c.in-Some.is c.last_begun.ensures.last in
    let begun = begun_later t c.args.copy k1 k c.args.pc c.min-count.result (Some c.in-Some.field-0) two last in
    let told_last = told_later t c.args.copy k2 k (c.in-Some.field-0.place + 1) c.load_word-last.result c.load_word-payload.ensures.loads c.load_word-last.ensures.told in
    let payload_at = c.load_word-payload.ensures.told in
    is_listed t c.args.copy k c.args.pc c.min-count.result c.load_word.result told (omega (arith, c.min-count.ensures, c.loads-loads.ensures)) c.in-Some.field-0 begun c.load_word-last.result told_last (omega (arith, c.if-pc-last.false)) c.load_word-payload.result payload_at

pub returns-in_default-clause-few : goal.returns-in_default-clause-few
returns-in_default-clause-few g c = let one = c.load_word.ensures.one in let two = c.last_begun.ensures.few in omega (arith, one, two)

pub returns-then-pc-last-clause-few : goal.returns-then-pc-last-clause-few
returns-then-pc-last-clause-few g c = let one = c.load_word.ensures.one in let two = c.last_begun.ensures.few in let three = c.load_word-last.ensures.one in omega (arith, one, two, three)

pub returns-clause-few : goal.returns-clause-few
returns-clause-few g c =
    let one = c.load_word.ensures.one in let two = c.last_begun.ensures.few in let three = c.load_word-last.ensures.one in let four = c.load_word-payload.ensures.one in
    omega (arith, one, two, three, four)
