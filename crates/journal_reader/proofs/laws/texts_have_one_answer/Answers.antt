use Rattle.journal_reader.proofs.OneAnswer.{one_line, never_told_and_bad}
use Rattle.journal_reader.proofs.laws.texts_have_one_answer.Goals as goal

pub returns : goal.returns
returns c = record { one_line = one_line; never_both = never_told_and_bad }
