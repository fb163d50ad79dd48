use Rattle.std.proofs.Common.{◌≡◌, ℕ, Some, true, false, slice_get, subst, ap, ◌∙◌, arith}
use Rattle.std.specs.Option.{option_map}
use Rattle.eh_hdr.specs.Places.{is_fde_at}
use Rattle.eh_hdr.proofs.Places.{IsFirstFrom, named_past, named_here, named_not, place_of_address}
use Rattle.eh_hdr.proofs.fde_place.named_fde.Goals as goal
use Rattle.eh_hdr.proofs.fde_place.named_fde.Goals.{else-index-count-via-then-index-count+else-is_fde_at, else-index-count-via-else-index-count}

pub returns-then-is_fde_at-clause-value : goal.returns-then-is_fde_at-clause-value
returns-then-is_fde_at-clause-value c =
    let section = c.args.section.now in
    let at = c.first_from-index in
    let place = place_of_address section c.args.address c.address.result c.address.ensures in
    let from = subst (λ (p : ℕ). IsFirstFrom section.fdes p at.result) place (record { within = at.ensures.within; below = at.ensures.below; above = at.ensures.above }) in
    let named = subst (λ (p : ℕ). option_map (is_fde_at p c.args.location) (slice_get section.fdes at.result) ≡ Some true) place (c.is_fde_at.ensures ∙ ap Some c.if-is_fde_at.true) in
    named_here section.fdes _ c.args.location at.result from named (omega arith)

pub returns-else-index-count-clause-value : goal.returns-else-index-count-clause-value
returns-else-index-count-clause-value c =
    let section = c.args.section.now in
    let at = c.first_from-index in
    let place = place_of_address section c.args.address c.address.result c.address.ensures in
    let from = subst (λ (p : ℕ). IsFirstFrom section.fdes p at.result) place (record { within = at.ensures.within; below = at.ensures.below; above = at.ensures.above }) in
    elim c.else-index-count.branch [
      | else-index-count-via-then-index-count+else-is_fde_at w ↦
          let named = subst (λ (p : ℕ). option_map (is_fde_at p c.args.location) (slice_get section.fdes at.result) ≡ Some false) place (w.is_fde_at.ensures ∙ ap Some w.if-is_fde_at.false) in
          named_not section.fdes _ c.args.location at.result c.known.ensures.ascending from named (omega (arith, w.if-index-count.true, c.count.ensures))
      | else-index-count-via-else-index-count w ↦ named_past section.fdes _ c.args.location at.result from (omega (arith, w.if-index-count.false, c.count.ensures))
    ]
