use Rattle.std.proofs.Common.{ap}
use Rattle.word_rule.specs.Logs.{is_gone}
use Rattle.word_rule.proofs.words.Words.load_node.Goals as goal

pub load_node_for-requires-clause-stands : goal.load_node_for-requires-clause-stands
load_node_for-requires-clause-stands c = ap is_gone c.me.invariant.role
