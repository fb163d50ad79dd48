use Rattle.frame_parse.proofs.OneAnswer.{answered}
use Rattle.frame_parse.proofs.section.section_is_answered.Goals as goal

pub returns : goal.returns
returns c = answered
