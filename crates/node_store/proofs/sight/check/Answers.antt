use Rattle.std.proofs.Common.{◌≡◌, Some, true, ap, ◌∙◌, sym, subst}
use Rattle.word_rule.specs.Spelling.{spelled}
use Rattle.std.proofs.lemmas.Option.{none-some, cond_some}
use Rattle.node_store.specs.Sights.{IsLiveAs, after_look}
use Rattle.node_store.proofs.Sighted.{seen}
use Rattle.node_store.proofs.sight.check.Goals as goal

pub unreachable-requires : goal.unreachable-requires
unreachable-requires c =
    let one = seen c.args.me.now.log c.args.sight.now c.load_version-version.result c.all_words.ensures c.requires.kept c.load_version-version.ensures.tells.1 c.if-version-sight.false in
    none-some one.0 (sym c.in_default.is ∙ c.node_of.ensures ∙ one.1.0)

pub returns : goal.returns
returns c =
    let one = seen c.args.me.now.log c.args.sight.now c.load_version-version.result c.all_words.ensures c.requires.kept c.load_version-version.ensures.tells.1 c.if-version-sight.false in
    let is : spelled c.args.sight.now.words ≡ Some c.in-Some.shape = sym c.node_of.ensures ∙ c.in-Some.is in
    let same : one.0 ≡ c.in-Some.shape = (cond_some true one.0 c.in-Some.shape (sym one.1.0 ∙ is)).1 in
    (is, subst (IsLiveAs c.args.me.now.log c.args.sight.now.node) same one.1.1, c.load_version-version.ensures.log ∙ ap (λ found. after_look c.args.sight.now.node found c.args.me.now) c.if-version-sight.false)
