use Rattle.told_memory.proofs.ToldSteps.{next_serves}
use Rattle.told_memory.proofs.ToldValues.{value_lacks, value_stays}
use Rattle.told_memory.proofs.laws.told_words_serve.Goals as goal

pub returns : goal.returns
returns c = next_serves value_stays value_lacks
