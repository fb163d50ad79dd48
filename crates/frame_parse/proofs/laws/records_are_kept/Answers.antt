use Rattle.std.proofs.Common.{length, refl}
use Rattle.frame_parse.proofs.Kept.{record_kept}
use Rattle.frame_parse.proofs.laws.records_are_kept.Goals as goal

pub returns : goal.returns
returns c = λ section earlier bytes before front after r whole all s. record_kept section (length before) earlier bytes before front after r whole refl all s
