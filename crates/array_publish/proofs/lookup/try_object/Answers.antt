use Rattle.std.proofs.Common.{◌∙◌, arith}
use Rattle.word_rule.specs.declared.log.Ask.TheVariants as ask
use Rattle.array_publish.proofs.LoadCounts.{clock_counted}
use Rattle.array_publish.proofs.Lookups.{again, is_member, found_so}
use Rattle.array_publish.proofs.lookup.try_object.Goals as goal

pub answer-requires : goal.answer-requires
answer-requires g c =
    let one = c.load_clock-first.ensures in let two = c.load_clock-second.ensures in let o = c.object_at-object.ensures in
    is_member c.args.words.now.terms c.args.pc c.load_clock-first.result c.load_clock-second.result (g.L.Looker.known c.args.me.now) (g.L.Looker.known c.load_clock-first.new.self) (g.L.Looker.known c.object_at-object.new.me) (g.L.Looker.known c.load_clock-second.new.self) c.object_at-object.result
    one.log one.rest o.loads o.found two.log two.rest c.if-second-published.false

pub returns-clause-looks : goal.returns-clause-looks
returns-clause-looks g c =
    let one = c.load_clock-first.ensures in let two = c.load_clock-second.ensures in let o = c.object_at-object.ensures in
    found_so c.args.words.now.terms c.args.pc c.load_clock-first.result c.load_clock-second.result (g.L.Looker.known c.args.me.now) (g.L.Looker.known c.load_clock-first.new.self) (g.L.Looker.known c.object_at-object.new.me) (g.L.Looker.known c.load_clock-second.new.self) c.object_at-object.result
    one.log one.rest o.loads o.found two.log two.rest c.if-second-published.false c.answer.result c.answer.ensures.member (c.answer.ensures.stamp ∙ c.updates_at.ensures)

pub returns-then-second-published-clause-looks : goal.returns-then-second-published-clause-looks
returns-then-second-published-clause-looks g c =
    let one = c.load_clock-first.ensures in let two = c.load_clock-second.ensures in let o = c.object_at-object.ensures in
    again c.args.words.now.terms c.args.pc c.load_clock-first.result c.load_clock-second.result (g.L.Looker.known c.args.me.now) (g.L.Looker.known c.load_clock-first.new.self) (g.L.Looker.known c.object_at-object.new.me) (g.L.Looker.known c.load_clock-second.new.self) c.object_at-object.result
    one.log one.rest o.loads o.found two.log two.rest c.if-second-published.true

pub returns-clause-few : goal.returns-clause-few
returns-clause-few g c =
    let one = clock_counted c.args.words.now.terms ask.Nothing c.load_clock-first.result (g.L.Looker.known c.args.me.now) (g.L.Looker.known c.load_clock-first.new.self) c.load_clock-first.ensures.log in let two = c.object_at-object.ensures.few in
    let three = clock_counted c.args.words.now.terms (ask.Loaded c.args.pc) c.load_clock-second.result (g.L.Looker.known c.object_at-object.new.me) (g.L.Looker.known c.load_clock-second.new.self) c.load_clock-second.ensures.log in
    omega (arith, one, two, three)

pub returns-then-second-published-clause-few : goal.returns-then-second-published-clause-few
returns-then-second-published-clause-few g c =
    let one = clock_counted c.args.words.now.terms ask.Nothing c.load_clock-first.result (g.L.Looker.known c.args.me.now) (g.L.Looker.known c.load_clock-first.new.self) c.load_clock-first.ensures.log in let two = c.object_at-object.ensures.few in
    let three = clock_counted c.args.words.now.terms (ask.Loaded c.args.pc) c.load_clock-second.result (g.L.Looker.known c.object_at-object.new.me) (g.L.Looker.known c.load_clock-second.new.self) c.load_clock-second.ensures.log in
    omega (arith, one, two, three)
