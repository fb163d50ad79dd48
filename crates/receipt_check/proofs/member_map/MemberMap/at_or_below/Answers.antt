use Rattle.std.proofs.Common.{arith}
use Rattle.receipt_check.proofs.KeptMembers.{none_of, le_from, le_to, le_back}
use Rattle.receipt_check.proofs.member_map.MemberMap.at_or_below.Goals as goal

pub returns-in-Some : goal.returns-in-Some
returns-in-Some c =
    let parts = c.range.ensures.in_range tt in
    let entry = parts.3 _ _ c.in-Some.ensures.steps in
    let greatest = parts.4 _ _ c.in-Some.ensures.steps in
    let key = c.in-Some.field-0-0.now in
    (key, le_from key c.args.address entry.0.1, entry.1, λ above more up. none_of _ (λ some. let last = le_back key above (greatest above (tt, le_to above c.args.address up) some) in omega arith))
