use Rattle.std.proofs.Common.{refl}
use Rattle.receipt_check.proofs.States.{present_first}
use Rattle.receipt_check.proofs.present.Present.opening.Goals as goal

pub returns-clause-present : goal.returns-clause-present
returns-clause-present c = λ history. present_first _ history _ _ refl c.in_ok-opening.ensures c.new.ensures
