use Rattle.frame_parse.proofs.OneAnswer.{one_answer}
use Rattle.frame_parse.proofs.section.one_answer.Goals as goal

pub returns : goal.returns
returns c = one_answer
