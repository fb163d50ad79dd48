use Rattle.journal_reader.proofs.OneAnswer.{one_journal}
use Rattle.journal_reader.proofs.laws.reads_back.Goals as goal

pub returns : goal.returns
returns c = one_journal
