use Rattle.std.proofs.Common.{◌+◌, sym, ap, ◌∙◌, subst}
use Rattle.word_rule.specs.Sights.{after_copy_load}
use Rattle.array_publish.specs.CopyLoads.{LoadsCopy, IsTold}
use Rattle.array_publish.proofs.CopyWalks.{one_load, one_told}
use Rattle.array_publish.proofs.LoadCounts.{word_counted}
use Rattle.array_publish.proofs.copies.load_word.Goals as goal

pub returns-clause-loads : goal.returns-clause-loads
returns-clause-loads g c =
    let h = c.requires.from.copy in
    subst (λ k. LoadsCopy c.args.words.now.terms c.args.at.copy (g.L.Looker.known c.args.me.now) k) (sym (c.load_copy.ensures.log ∙ ap (λ p. record (g.L.Looker.known c.args.me.now) { log = after_copy_load (p + c.args.word) c.load_copy.result (g.L.Looker.known c.args.me.now).log }) c.requires.from.start))
    (one_load c.args.words.now.terms c.args.at.copy (g.L.Looker.known c.args.me.now) c.args.word c.load_copy.result h.terms h.sight c.requires.inside)

pub returns-clause-told : goal.returns-clause-told
returns-clause-told g c =
    let h = c.requires.from.copy in
    subst (λ k. IsTold c.args.words.now.terms c.args.at.copy k c.args.word c.load_copy.result) (sym (c.load_copy.ensures.log ∙ ap (λ p. record (g.L.Looker.known c.args.me.now) { log = after_copy_load (p + c.args.word) c.load_copy.result (g.L.Looker.known c.args.me.now).log }) c.requires.from.start))
    (one_told c.args.words.now.terms c.args.at.copy (g.L.Looker.known c.args.me.now) c.args.word c.load_copy.result h.terms h.sight c.requires.inside)

pub returns-clause-one : goal.returns-clause-one
returns-clause-one g c = word_counted (g.L.Looker.known c.args.me.now) (g.L.Looker.known c.load_copy.new.self) _ c.load_copy.result c.load_copy.ensures.log
