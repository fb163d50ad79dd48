use Rattle.std.proofs.Common.{ap}
use Rattle.word_rule.specs.Logs.{is_gone}
use Rattle.word_rule.proofs.words.Words.read_version.Goals as goal

pub load_version_for-requires-clause-stands : goal.load_version_for-requires-clause-stands
load_version_for-requires-clause-stands c = ap is_gone c.me.invariant.role
