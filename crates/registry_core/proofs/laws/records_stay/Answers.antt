use Rattle.registry_core.proofs.Following.{record_stays}
use Rattle.registry_core.proofs.laws.records_stay.Goals as goal

pub returns : goal.returns
returns c = record_stays c.receipts_stay.ensures
