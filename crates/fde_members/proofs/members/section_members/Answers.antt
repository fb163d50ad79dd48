use Rattle.std.proofs.Common.{◌≡◌, ℕ, ◌++◌, ◌∷◌, [], subst, true}
use Rattle.std.specs.List.{All}
use Rattle.std.proofs.lemmas.List.Elements.{All-append, All-same}
use Rattle.std.proofs.lemmas.Result.{err_from_is_err_and}
use Rattle.fde_members.specs.Members.{IsFaultOf, is_near, members_at, section_members}
use Rattle.fde_members.proofs.Listing.{ends_at, fault_told, listed_more}
use Rattle.fde_members.proofs.members.section_members.Goals as goal

pub add_member-requires : goal.add_member-requires
add_member-requires c =
    let s = c.args.section.now in
    ends_at s.fdes c.loop-index.index c.fde-fde.result.entry c.known.ensures.ends c.fde-fde.ensures.entry

pub loop-index-preserved : goal.loop-index-preserved
loop-index-preserved c =
    let s = c.args.section.now in
    let was = c.loop-index in
    let f = c.fde-fde.result.entry in
    let items = was.members.items in
    let one = members_at c.args.low s.address (f ∷ []) in
    let more = subst (λ (a : ℕ). c.add_member.new.members.items ≡ items ++ members_at c.args.low a (f ∷ [])) c.address-address.ensures c.in_ok-add_member.ensures.member in
    let near = subst (λ (a : ℕ). All (λ m. is_near m ≡ true) (members_at c.args.low a (f ∷ []))) c.address-address.ensures c.in_ok-add_member.ensures.near in
    record {
      listed = rw more (listed_more c.args.low s.address s.fdes was.index f (section_members c.args.low s) items c.fde-fde.ensures.entry was.invariant.listed);
      near = All-same (λ m. is_near m ≡ true) c.add_member.new.members.items (items ++ one) more (All-append (λ m. is_near m ≡ true) items one was.invariant.near near);
    }

pub returns-in_err-add_member-clause-fault : goal.returns-in_err-add_member-clause-fault
returns-in_err-add_member-clause-fault c =
    let s = c.args.section.now in
    let was = c.loop-index in
    let f = c.fde-fde.result.entry in
    let fault = c.in_err-add_member.field-0.0 in
    let of = subst (λ (a : ℕ). IsFaultOf c.args.low a f fault) c.address-address.ensures c.in_err-add_member.ensures.fault in
    let p = err_from_is_err_and c.from_residual.result c.from_residual.ensures.1 in
    rw (p.1, p.2) (fault_told c.args.low s was.index f was.members.items fault c.fde-fde.ensures.entry was.invariant.listed was.invariant.near of)
