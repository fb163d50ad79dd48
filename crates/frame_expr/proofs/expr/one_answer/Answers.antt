use Rattle.frame_expr.proofs.Parts.{one_answer}
use Rattle.frame_expr.proofs.expr.one_answer.Goals as goal

pub returns : goal.returns
returns c = one_answer
