use Rattle.std.proofs.Common.{ap}
use Rattle.word_rule.specs.Logs.{is_gone}
use Rattle.word_rule.proofs.words.Words.begin_reading.Goals as goal

pub begin_sight_for-requires-clause-stands : goal.begin_sight_for-requires-clause-stands
begin_sight_for-requires-clause-stands c = ap is_gone c.me.invariant.role
