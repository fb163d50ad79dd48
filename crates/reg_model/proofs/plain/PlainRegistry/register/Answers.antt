use Rattle.std.proofs.Common.{refl}
use Rattle.reg_model.proofs.plain.PlainRegistry.register.Goals as goal

pub returns-clause-step : goal.returns-clause-step
returns-clause-step c =
    rw (c.in_ok-push.ensures.items, ← c.self.view_is) (record { right = tt; changes = (rw c.deref.ensures.value at c.in_default.ensures, refl, refl) })
