use Rattle.frame_parse.proofs.Places.{record_stands}
use Rattle.frame_parse.proofs.laws.records_stand.Goals as goal

pub returns : goal.returns
returns c = record_stands
