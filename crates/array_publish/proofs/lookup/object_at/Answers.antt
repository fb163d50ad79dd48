use Rattle.std.proofs.Common.{◌≡◌, ◌∙◌, Some, sym, ap, arith}
use Rattle.reg_model.specs.Query.{member_at}
use Rattle.word_rule.specs.declared.log.Terms.{Terms}
use Rattle.array_publish.proofs.CopyWalks.{loads_none}
use Rattle.array_publish.proofs.Searches.{fixed_first, then_listed}
use Rattle.array_publish.proofs.lookup.object_at.Goals as goal

pub returns-in-Some-clause-loads : goal.returns-in-Some-clause-loads
returns-in-Some-clause-loads g c = loads_none c.args.words.now.terms c.args.copy (g.L.Looker.known c.args.me.now)

pub returns-in-Some-clause-found : goal.returns-in-Some-clause-found
returns-in-Some-clause-found g c =
    let t : Terms = c.args.words.now.terms in
    let found : Some c.in-Some.member ≡ member_at c.args.pc t.fixed = sym c.in-Some.is ∙ (c.containing.ensures ∙ ap (member_at c.args.pc) c.fixed.ensures) in
    fixed_first t c.args.copy (g.L.Looker.known c.args.me.now) t.fixed c.args.pc c.in-Some.member c.of.result found
    c.of.ensures

pub returns-in-None-clause-found : goal.returns-in-None-clause-found
returns-in-None-clause-found g c =
    let t : Terms = c.args.words.now.terms in
    then_listed t c.args.copy (g.L.Looker.known c.listed_at.new.me) t.fixed c.args.pc c.listed_at.result (sym c.in-None.is ∙ (c.containing.ensures ∙ ap (member_at c.args.pc) c.fixed.ensures)) c.listed_at.ensures.found

pub returns-in-Some-clause-few : goal.returns-in-Some-clause-few
returns-in-Some-clause-few g c = omega arith

pub returns-in-None-clause-few : goal.returns-in-None-clause-few
returns-in-None-clause-few g c = c.listed_at.ensures.few
