use Rattle.told_memory.proofs.AskedWords.{next_wants}
use Rattle.told_memory.proofs.laws.asks_anew.Goals as goal

pub returns : goal.returns
returns c = next_wants
