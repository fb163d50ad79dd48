use Rattle.event_script.proofs.Following.{five_some, five_none}
use Rattle.event_script.proofs.reader.fields.five_fields.Goals as goal

pub returns-in_err-fifth : goal.returns-in_err-fifth
returns-in_err-fifth c = rw c.from_residual-in_err-fifth.ensures (five_none _ _ _ _ _ _ _ _ _ c.in_ok-first.ensures c.in_ok-second.ensures c.in_ok-third.ensures c.in_ok-fourth.ensures c.in_err-fifth.ensures)

pub returns : goal.returns
returns c = five_some _ _ _ _ _ _ _ _ _ _ c.in_ok-first.ensures c.in_ok-second.ensures c.in_ok-third.ensures c.in_ok-fourth.ensures c.in_ok-fifth.ensures
