use Rattle.frame_parse.proofs.Kept.{initial_alike}
use Rattle.frame_parse.proofs.laws.initial_instructions_are_the_cies.Goals as goal

pub returns : goal.returns
returns c = initial_alike
