use Rattle.std.proofs.Common.{◌<◌, sym, ap, ◌∙◌, subst, arith}
use Rattle.word_rule.specs.CallerData.{CallerData, surplus}
use Rattle.word_rule.specs.Steps.{after_node_release}
use Rattle.word_rule.proofs.KeptVersions.{caller_let_go}
use Rattle.word_rule.proofs.words.Words.release_node.Goals as goal

pub invariant_of-me : goal.invariant_of-me
invariant_of-me c =
    let s = subst (λ k. 0 < surplus k) (sym c.me.view_is) c.requires.surplus in
    caller_let_go _ _ _ _ _ _ _ c.release_for.ensures.log c.release_for.ensures.same.2 (omega (arith, s)) c.me.invariant

pub returns-clause-log : goal.returns-clause-log
returns-clause-log c =
    let e = c.release_for.ensures in
    (λ i. record { table = e.same.0 i; left = c.me.inside.left; log = e.log i }) ∙ ap (λ (k : CallerData). record k { log = after_node_release c.args.node k.log }) c.me.view_is
