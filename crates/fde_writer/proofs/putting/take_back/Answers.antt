use Rattle.std.proofs.Common.{◌≡◌, ◌∷◌, ◌++◌, [], arith, subst, sym, take, List, ◌+◌}
use Rattle.std.proofs.lemmas.List.{length-take-le, take_more}
use Rattle.fde_writer.specs.Places.{PlaceData}
use Rattle.fde_writer.specs.Puttings.{StopsTaking, TakesAway}
use Rattle.fde_writer.proofs.Books.{any_err}
use Rattle.fde_writer.proofs.ManyMembers.{stops_then, takes_none, takes_then}
use Rattle.fde_writer.proofs.putting.take_back.Goals as goal

pub loop-place-init : goal.loop-place-init
loop-place-init c = takes_none c.args.writer.now c.none-numbers.result c.requires.free c.none-numbers.ensures

pub loop-place-preserved : goal.loop-place-preserved
loop-place-preserved c =
    let ps = c.args.places.now in
    let i = c.loop-place.place-index in
    let x = c.place-item.result in
    let w = c.args.writer.now in
    let u = c.take.new.writer in
    let n = c.and-numbers.result in
    let next : take (i + 1) ps ≡ take i ps ++ x ∷ [] = subst (λ (y : PlaceData). take (i + 1) ps ≡ take i ps ++ y ∷ []) (sym c.place-item.is) (take_more ps i x c.loop-place-test.true) in
    subst (λ (qs : List PlaceData). TakesAway qs n w u) (sym next)
    (takes_then (take i ps) x c.loop-place.numbers n c.in_ok-number.number w c.loop-place.writer u c.loop-place.invariant c.in_ok-number.ensures.taken c.and-numbers.ensures)

pub returns-in_err-number-clause-stops : goal.returns-in_err-number-clause-stops
returns-in_err-number-clause-stops c =
    let ps = c.args.places.now in
    let i = c.loop-place.place-index in
    let x = c.place-item.result in
    let stops = subst (λ (y : PlaceData). StopsTaking (y ∷ []) c.loop-place.writer c.take.new.writer) c.place-item.is c.in_err-number.ensures.stops in
    let within = c.loop-place-test.true in
    any_err (StopsTaking ps c.args.writer.now c.take.new.writer)
    (stops_then ps i x c.loop-place.numbers c.args.writer.now c.loop-place.writer c.take.new.writer within (length-take-le i ps (omega (arith, within))) c.loop-place.invariant stops) c.from_residual.result
