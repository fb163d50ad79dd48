use Rattle.std.proofs.Common.{ap}
use Rattle.word_rule.specs.Logs.{is_gone}
use Rattle.word_rule.proofs.words.Words.read_clock.Goals as goal

pub load_clock_for-found-requires-clause-stands : goal.load_clock_for-found-requires-clause-stands
load_clock_for-found-requires-clause-stands c = ap is_gone c.me.invariant.role
