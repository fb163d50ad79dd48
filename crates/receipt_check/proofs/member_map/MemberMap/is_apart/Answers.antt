use Rattle.receipt_check.proofs.KeptMembers.{kept_iff}
use Rattle.receipt_check.proofs.member_map.MemberMap.is_apart.Goals as goal

pub returns : goal.returns
returns c = λ kept are.
    let same = rw (c.under.ensures, c.first.ensures.value) at c.is_same.ensures in
    let iff = kept_iff c.args.self.now.apart kept are c.args.member.now in
    (λ is. iff.0 (same.0 is), λ inside. same.1 (iff.1 inside))
