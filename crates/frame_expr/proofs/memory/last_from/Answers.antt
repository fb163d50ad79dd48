use Rattle.std.proofs.Common.{◌≡◌, ◌<◌, ◌≤◌, ◌++◌, length, sym, ap, ◌∙◌, arith}
use Rattle.std.proofs.lemmas.List.{take-append-drop}
use Rattle.frame_expr.specs.Regions.{RegionData}
use Rattle.frame_expr.proofs.Ascending.{in_upper_half, in_lower_half, in_none, in_the_one, first_fits}
use Rattle.frame_expr.proofs.memory.last_from.Goals as goal

pub loop-left-preserved-then-first-address : goal.loop-left-preserved-then-first-address
loop-left-preserved-then-first-address c =
    let parts : c.loop-left.left.now ≡ c.split_at.result.0.now ++ c.split_at.result.1.now = rw (c.split_at.ensures.front, c.split_at.ensures.back) (sym (take-append-drop _ c.loop-left.left.now)) in
    let some : 0 < length c.split_at.result.1.now = omega (arith, c.split_at.ensures.back_len, c.loop-left-test.true) in
    let le : c.index-high-0.result.address ≤ c.args.address = omega (arith, c.if-first-address.true, ap (λ (r : RegionData). r.address) c.first.view_is) in
    let high = in_upper_half c.args.address c.loop-left.invariant.0 _ _ _ c.index-high-0.result parts some c.index-high-0.is c.loop-left.invariant.1 le in
    (high.0, high.1, λ n many. high.2 n many ∙ c.loop-left.invariant.2 n many)

pub loop-left-preserved : goal.loop-left-preserved
loop-left-preserved c =
    let parts : c.loop-left.left.now ≡ c.split_at.result.0.now ++ c.split_at.result.1.now = rw (c.split_at.ensures.front, c.split_at.ensures.back) (sym (take-append-drop _ c.loop-left.left.now)) in
    let some : 0 < length c.split_at.result.1.now = omega (arith, c.split_at.ensures.back_len, c.loop-left-test.true) in
    let lt : c.args.address < c.index-high-0.result.address = omega (arith, c.if-first-address.false, ap (λ (r : RegionData). r.address) c.first.view_is) in
    let low = in_lower_half c.args.address c.loop-left.invariant.0 _ _ _ c.index-high-0.result parts some c.index-high-0.is c.loop-left.invariant.1 lt in
    (low.0, low.1, λ n many. low.2 n many ∙ c.loop-left.invariant.2 n many)

pub returns-in-empty-clause-held : goal.returns-in-empty-clause-held
returns-in-empty-clause-held c = λ n many. sym (c.loop-left.invariant.2 n many) ∙ in_none n c.args.address c.loop-left.left.now c.in-empty.len_below

pub returns-in-len1-up-clause-held : goal.returns-in-len1-up-clause-held
returns-in-len1-up-clause-held c = λ n many.
    sym (c.loop-left.invariant.2 n many) ∙ in_the_one n c.args.address c.loop-left.left.now c.region-item.result c.loop-left-test.false c.in-len1-up.len_at_least c.region-item.is

pub returns-in-len1-up-clause-fits : goal.returns-in-len1-up-clause-fits
returns-in-len1-up-clause-fits c = first_fits c.loop-left.invariant.0 c.loop-left.left.now c.region-item.result c.loop-left.invariant.1 c.in-len1-up.len_at_least c.region-item.is
