use Rattle.std.proofs.Common.{◌≡◌, ◌*◌, ◌∙◌, ap, sym, subst, List, length}
use Rattle.fde_writer.specs.Places.{PlaceData, all_registered, placed_members}
use Rattle.fde_writer.specs.Puttings.{IsPutFault, Puts}
use Rattle.fde_writer.proofs.Entered.{as_many, entered, entered_alike, left}
use Rattle.fde_writer.proofs.entering.enter.Goals as goal

pub returns-then-is_one_registered-clause-enters : goal.returns-then-is_one_registered-clause-enters
returns-then-is_one_registered-clause-enters c =
    let new = c.put.new.self in
    let puts = subst (λ (ps : List PlaceData). Puts (placed_members ps) (2 * length ps) new c.in-Ok-put.numbers c.args.client.now c.put.new.writer) c.requires.places c.in-Ok-put.ensures.put in
    let same : new ≡ c.args.standing.places = c.is_one_registered.ensures c.if-is_one_registered.true ∙ ap all_registered puts.whole ∙ sym c.requires.registered in
    entered_alike c.args.key c.args.standing c.in-Ok-put.numbers new c.args.client.now c.put.new.writer c.args.book.now c.push.new.self puts c.in-Ok.ensures.pushes same

pub settle-requires : goal.settle-requires
settle-requires c =
    let new = c.put.new.self in
    let puts = subst (λ (ps : List PlaceData). Puts (placed_members ps) (2 * length ps) new c.in-Ok-put.numbers c.args.client.now c.put.new.writer) c.requires.places c.in-Ok-put.ensures.put in
    as_many c.args.key c.args.standing c.in-Ok-put.numbers new c.args.client.now c.put.new.writer c.args.book.now c.push.new.self puts c.in-Ok.ensures.pushes

pub returns-else-is_one_registered-clause-enters : goal.returns-else-is_one_registered-clause-enters
returns-else-is_one_registered-clause-enters c =
    let new = c.put.new.self in
    let puts = subst (λ (ps : List PlaceData). Puts (placed_members ps) (2 * length ps) new c.in-Ok-put.numbers c.args.client.now c.put.new.writer) c.requires.places c.in-Ok-put.ensures.put in
    entered c.args.key c.args.standing c.in-Ok-put.numbers new c.args.client.now c.put.new.writer c.args.book.now c.push.new.self c.settle.new.self puts c.in-Ok.ensures.pushes c.settle.ensures

pub returns-in-Err-put-clause-fault : goal.returns-in-Err-put-clause-fault
returns-in-Err-put-clause-fault c = (
  subst (λ (ps : List PlaceData). IsPutFault (placed_members ps) (3 * length ps) c.args.client.now c.put.new.writer c.in-Err-put.fault) c.requires.places c.in-Err-put.ensures.fault,
  left c.args.key c.args.standing c.pop.result c.args.book.now c.push.new.self c.pop.new.self c.in-Ok.ensures.pushes c.pop.ensures.pops c.pop.ensures.none,
)
