use Rattle.std.proofs.Common.{ap, ◌∙◌}
use Rattle.word_rule.specs.CallerData.{CallerData}
use Rattle.word_rule.specs.Steps.{after_node_store}
use Rattle.word_rule.proofs.KeptVersions.{caller_stored}
use Rattle.word_rule.proofs.words.Words.store_node.Goals as goal

pub invariant_of-me : goal.invariant_of-me
invariant_of-me c = caller_stored _ _ _ _ _ _ c.args.node c.args.at c.args.value c.store_node_for.ensures.log c.store_node_for.ensures.same.2 c.me.invariant

pub returns-clause-log : goal.returns-clause-log
returns-clause-log c =
    let e = c.store_node_for.ensures in
    (λ i. record { table = e.same.0 i; left = c.me.inside.left; log = e.log i }) ∙ ap (λ (k : CallerData). record k { log = after_node_store c.args.node c.args.at c.args.value k.log }) c.me.view_is
