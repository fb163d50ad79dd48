use Rattle.std.proofs.Common.{◌≡◌, ◌-◌, ◌^◌, ◌≤◌, subst}
use Rattle.std.proofs.lemmas.Bool.{le-ltb}
use Rattle.std.proofs.lemmas.Result.{err_from_is_err_and}
use Rattle.fde_members.specs.declared.members.MembersFault.TheVariants.{Far}
use Rattle.reg_model.specs.declared.span.Member.{Member}
use Rattle.fde_writer.specs.Moves.{moved_member}
use Rattle.fde_writer.proofs.Moved.{move_fault}
use Rattle.fde_writer.proofs.moving.moved_members.Goals as goal

pub returns-in_err-member-clause-fault : goal.returns-in_err-member-clause-fault
returns-in_err-member-clause-fault c =
    let x = c.place-item.result in
    let p = err_from_is_err_and c.from_residual.result c.from_residual.ensures.1 in
    let far = subst (λ (m : Member). c.in_err-member.field-0.0 ≡ Far (moved_member c.args.from c.args.to m).payload) c.member.ensures c.in_err-member.ensures.far in
    let apart = subst (λ (m : Member). 2 ^ 32 - 1 ≤ (moved_member c.args.from c.args.to m).payload) c.member.ensures c.in_err-member.ensures.apart in
    rw (p.1, p.2) (move_fault c.args.from c.args.to c.args.places.now c.loop-place.place-index x c.loop-place.members.items c.in_err-member.field-0.0 c.loop-place-test.true c.place-item.is c.loop-place.invariant.members c.loop-place.invariant.near far
    (le-ltb (moved_member c.args.from c.args.to x.member).payload (2 ^ 32 - 1) apart))
