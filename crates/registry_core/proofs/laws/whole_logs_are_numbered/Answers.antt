use Rattle.registry_core.proofs.Counting.{whole_counted, whole_numbered}
use Rattle.registry_core.proofs.laws.whole_logs_are_numbered.Goals as goal

pub returns-clause-numbers : goal.returns-clause-numbers
returns-clause-numbers c = whole_numbered

pub returns-clause-count : goal.returns-clause-count
returns-clause-count c = whole_counted
