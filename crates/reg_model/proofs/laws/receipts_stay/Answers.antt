use Rattle.reg_model.proofs.Receipts.{holds_on}
use Rattle.reg_model.proofs.laws.receipts_stay.Goals as goal

pub returns : goal.returns
returns c start history more nodes callers later since r fewer = holds_on start history more nodes callers later since r fewer
