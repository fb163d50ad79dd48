use Rattle.eh_hdr.proofs.Headers.{one_answer}
use Rattle.eh_hdr.proofs.laws.headers_have_one_answer.Goals as goal

pub returns : goal.returns
returns c = one_answer
