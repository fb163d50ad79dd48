use Rattle.journal_check.proofs.ToldLines.{lines_each, last_line_is}
use Rattle.journal_check.proofs.laws.told_lines_are_those_of_the_text.Goals as goal

pub returns-clause-each : goal.returns-clause-each
returns-clause-each c = lines_each

pub returns-clause-last : goal.returns-clause-last
returns-clause-last c = last_line_is
