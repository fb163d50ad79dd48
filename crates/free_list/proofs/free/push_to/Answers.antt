use Rattle.std.proofs.Common.{sym, subst}
use Rattle.word_rule.specs.CallerData.{CallerData}
use Rattle.word_rule.specs.Steps.{MayPush}
use Rattle.free_list.proofs.Giving.{may_push}
use Rattle.free_list.proofs.free.push_to.Goals as goal

pub push-requires-clause-may : goal.push-requires-clause-may
push-requires-clause-may c = subst (λ (k : CallerData). MayPush c.args.node c.args.head k.log) (sym c.store_node.ensures.log) (may_push c.args.node c.args.head c.args.me.now.log c.requires.free c.requires.short)
