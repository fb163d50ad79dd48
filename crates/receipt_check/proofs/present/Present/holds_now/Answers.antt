use Rattle.std.proofs.Common.{◌≤◌, length}
use Rattle.reg_model.specs.Receipt.{moment, IsAtNumber, IsRight}
use Rattle.receipt_check.specs.Sweep.{HoldsNow}
use Rattle.receipt_check.proofs.KeptMembers.{fails_by}
use Rattle.receipt_check.proofs.present.Present.holds_now.Goals as goal

pub returns-then-not-stands : goal.returns-then-not-stands
returns-then-not-stands c = λ s shows.
    let r = c.args.row.now.receipt in
    fails_by ((moment r ≤ length c.args.history.now) × IsAtNumber c.args.history.now r) (HoldsNow c.args.history.now s c.args.nodes c.args.self.now c.args.row.now) _ c.if-not-stands.true c.stands.ensures (λ holds. (holds.0, holds.1))

pub returns-then-not-is_right : goal.returns-then-not-is_right
returns-then-not-is_right c = λ s shows. fails_by (IsRight s c.args.row.now.receipt) (HoldsNow c.args.history.now s c.args.nodes c.args.self.now c.args.row.now) _ c.if-not-is_right.true (c.is_right.ensures s shows) (λ holds. holds.2)

pub returns : goal.returns
returns c = λ s shows.
    let stood = c.stands.ensures.0 c.if-not-stands.false in (
      λ is. (stood.0, stood.1, (c.is_right.ensures s shows).0 c.if-not-is_right.false, c.is_filled.ensures.0 is),
      λ holds. c.is_filled.ensures.1 holds.3,
    )
