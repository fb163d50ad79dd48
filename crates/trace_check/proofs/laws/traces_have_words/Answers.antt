use Rattle.trace_check.proofs.Words.{trace_words}
use Rattle.trace_check.proofs.laws.traces_have_words.Goals as goal

pub returns : goal.returns
returns c = λ sections memory regs trace spelled bytes words unfolds. trace_words sections spelled memory regs bytes words trace unfolds
