use Rattle.std.proofs.Common.{◌≡◌, length, sym, arith}
use Rattle.std.specs.Vec.{vec_len}
use Rattle.std.proofs.lemmas.Bool.{eqb-true}
use Rattle.std.proofs.lemmas.List.{nil_from_length}
use Rattle.receipt_check.proofs.KeptMembers.{free_same}
use Rattle.receipt_check.proofs.member_map.MemberMap.may_keep.Goals as goal

pub returns : goal.returns
returns c = λ kept are holds.
    let rest = c.args.self.now.rest in
    let none : length rest.items ≡ 0 = (let len = eqb-true (vec_len rest) 0 (sym c.if-not-is_empty.ensures) in omega (arith, rest.ok.0)) in
    (nil_from_length rest.items none, (free_same c.args.span.now c.last.result kept c.begin_above.result c.last.ensures.value (c.begin_above.ensures kept are)).0 holds)
