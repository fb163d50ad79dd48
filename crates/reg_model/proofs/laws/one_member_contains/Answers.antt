use Rattle.reg_model.proofs.Histories.{member_at-contains}
use Rattle.reg_model.proofs.laws.one_member_contains.Goals as goal

pub returns : goal.returns
returns c = member_at-contains
