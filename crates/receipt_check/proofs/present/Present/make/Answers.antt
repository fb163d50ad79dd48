use Rattle.std.proofs.Common.{refl}
use Rattle.receipt_check.proofs.States.{present_more}
use Rattle.receipt_check.proofs.present.Present.make.Goals as goal

pub returns-clause-present : goal.returns-clause-present
returns-clause-present c =
    λ start history is present. present_more start history c.args.update.now _ _ c.registered_count.result is present c.in_ok-make.ensures refl c.registered_count.ensures c.in_ok-go_on.ensures
