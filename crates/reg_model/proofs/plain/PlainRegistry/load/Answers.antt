use Rattle.std.proofs.Common.{◌≡◌, ◌<◌, length, refl, arith}
use Rattle.reg_model.proofs.plain.PlainRegistry.load.Goals as goal

pub returns-then-len-self-clause-step : goal.returns-then-len-self-clause-step
returns-then-len-self-clause-step c =
    let full : length c.self.inside.loaded.items ≡ c.self.inside.loads = (let count = c.len.ensures in let above = c.if-len-self.true in let limit = c.self.invariant in omega (arith, c.self.inside.loaded.ok.0)) in
    rw (← c.self.view_is) (record { right = (rw (c.deref.ensures.value, c.deref-2.ensures.value) at c.in_default.ensures, full); changes = (refl, refl) })

pub returns-clause-step : goal.returns-clause-step
returns-clause-step c =
    let room : length c.self.inside.loaded.items < c.self.inside.loads = (let count = c.len.ensures in let below = c.if-len-self.false in omega (arith, c.self.inside.loaded.ok.0)) in
    rw (c.in_ok-push.ensures.items, ← c.self.view_is) (record { right = tt; changes = ((rw (c.deref.ensures.value, c.deref-2.ensures.value) at c.in_default.ensures, room), refl, refl) })
