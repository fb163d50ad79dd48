use Rattle.std.proofs.Common.{◌<◌, ◌≤◌, length, vec_len, refl, arith}
use Rattle.run_ports.proofs.Endings.{ends_concluded}
use Rattle.run_ports.proofs.Pieces.{Hands-longer}
use Rattle.check_run.specs.CheckOutcome.{IsDueFor}
use Rattle.check_run.specs.CheckStatuses.{check_ending_of}
use Rattle.check_run.specs.declared.running.TheConstants.{CHECK_LIMIT}
use Rattle.check_run.specs.declared.status.CheckStatus.TheVariants as status
use Rattle.check_run.proofs.running.check_source.Goals as goal

pub returns-in-Ok-clause-ends : goal.returns-in-Ok-clause-ends
returns-in-Ok-clause-ends g c =
    let long : CHECK_LIMIT < length c.in-Ok.bytes.items = (let count = c.len.ensures in let above = c.if-len-gt-CHECK_LIMIT.true in omega (arith, c.in-Ok.bytes.ok.0)) in
    ends_concluded check_ending_of (IsDueFor _) (Unit {0}) _ _ status.TooLong _ refl
    (Hands-longer CHECK_LIMIT _ _ c.in-Ok.bytes.items c.in-Ok.ensures.handed long, refl)
    c.conclude.ensures.concludes

pub check_input-requires-clause-short : goal.check_input-requires-clause-short
check_input-requires-clause-short g c =
    let short : length c.in-Ok.bytes.items ≤ CHECK_LIMIT = (let count = c.len.ensures in let below = c.if-len-gt-CHECK_LIMIT.false in omega (arith, c.in-Ok.bytes.ok.0)) in
    rw (c.deref.ensures.value) short

pub returns-in-Ok-2-clause-ends : goal.returns-in-Ok-2-clause-ends
returns-in-Ok-2-clause-ends g c =
    let within : vec_len c.in-Ok.bytes ≤ CHECK_LIMIT = (let count = c.len.ensures in let below = c.if-len-gt-CHECK_LIMIT.false in omega arith) in
    c.check_input.ensures.ends _ _ _ (rw (c.deref.ensures.value) (c.in-Ok.ensures.all within))
