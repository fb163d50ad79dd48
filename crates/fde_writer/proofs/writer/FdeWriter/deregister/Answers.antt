use Rattle.std.proofs.Common.{◌-◌, ◌∙◌, sym, subst, length, map, List, ℕ}
use Rattle.fde_writer.specs.Outcomes.{IsDeregistration}
use Rattle.fde_writer.specs.Places.{HoldsAtLeast, PlaceData}
use Rattle.fde_writer.specs.Puttings.{StopsTaking, TakesAway}
use Rattle.fde_writer.specs.Sections.{FdeWriterData, IsFdeWriterWith, fde_writer, members_now}
use Rattle.fde_writer.specs.Standing.{standing_under}
use Rattle.fde_writer.specs.declared.outcome.Deregistration.TheVariants as deregistration
use Rattle.fde_writer.proofs.Endings.{deregistered, half_deregistered}
use Rattle.fde_writer.proofs.Keeping.{held, stopped_taking_keeps, taken_keeps}
use Rattle.fde_writer.proofs.writer.FdeWriter.deregister.Goals as goal

pub take_back-requires-clause-there : goal.take_back-requires-clause-there
take_back-requires-clause-there c =
    let i = c.self.inside in
    let x = c.in-Some.standing in
    let u = fde_writer i.client i.low i.book (map (λ s. s.value.section) i.given.items) in
    subst (HoldsAtLeast (members_now u)) (sym c.places-2.ensures) (held i.due u c.args.key x (standing_under c.args.key c.pop.new.self) c.pop.new.self c.self.invariant c.in-Some.ensures.pops i.client)

pub invariant_of-self-in-Ok : goal.invariant_of-self-in-Ok
invariant_of-self-in-Ok c =
    let i = c.self.inside in
    let x = c.in-Some.standing in
    let u = fde_writer i.client i.low i.book (map (λ s. s.value.section) i.given.items) in
    let takes = subst (λ (ps : List PlaceData). TakesAway ps c.in-Ok.numbers i.client c.take_back.new.writer) c.places-2.ensures c.in-Ok.ensures.taken in
    subst (λ (ps : List PlaceData). IsFdeWriterWith (i.due - length ps) (fde_writer c.take_back.new.writer i.low c.pop.new.self u.ever)) (sym c.places.ensures)
    (taken_keeps i.due u c.args.key x (standing_under c.args.key c.pop.new.self) c.pop.new.self c.self.invariant c.in-Some.ensures.pops c.take_back.new.writer c.in-Ok.numbers (sym c.stuck.ensures ∙ c.if-stuck.false) takes)

pub invariant_of-self-2 : goal.invariant_of-self-2
invariant_of-self-2 c =
    let i = c.self.inside in
    let x = c.in-Some.standing in
    let u = fde_writer i.client i.low i.book (map (λ s. s.value.section) i.given.items) in
    let stops = subst (λ (ps : List PlaceData). StopsTaking ps i.client c.take_back.new.writer) c.places-2.ensures c.in-Err.ensures.stops in
    subst (λ (ps : List PlaceData). IsFdeWriterWith (i.due - length ps) (fde_writer c.take_back.new.writer i.low c.pop.new.self u.ever)) (sym c.places.ensures)
    (stopped_taking_keeps i.due u c.args.key x (standing_under c.args.key c.pop.new.self) c.pop.new.self c.self.invariant c.in-Some.ensures.pops c.take_back.new.writer stops)

pub returns-in-Ok : goal.returns-in-Ok
returns-in-Ok c =
    let i = c.self.inside in
    let x = c.in-Some.standing in
    let u = fde_writer i.client i.low i.book (map (λ s. s.value.section) i.given.items) in
    let takes = subst (λ (ps : List PlaceData). TakesAway ps c.in-Ok.numbers i.client c.take_back.new.writer) c.places-2.ensures c.in-Ok.ensures.taken in
    let done = deregistered u c.args.key x (standing_under c.args.key c.pop.new.self) c.take_back.new.writer c.pop.new.self (sym c.stuck.ensures ∙ c.if-stuck.false) c.in-Some.ensures.pops c.in-Ok.numbers takes in
    subst (λ (k : ℕ). IsDeregistration c.args.key c.args.self.now (fde_writer c.take_back.new.writer i.low c.pop.new.self u.ever) (deregistration.Done k c.in-Ok.numbers)) (sym c.note.ensures)
    (subst (λ (v : FdeWriterData). IsDeregistration c.args.key v (fde_writer c.take_back.new.writer i.low c.pop.new.self u.ever) (deregistration.Done x.note c.in-Ok.numbers)) c.self.view_is done)

pub returns : goal.returns
returns c =
    let i = c.self.inside in
    let x = c.in-Some.standing in
    let u = fde_writer i.client i.low i.book (map (λ s. s.value.section) i.given.items) in
    let stops = subst (λ (ps : List PlaceData). StopsTaking ps i.client c.take_back.new.writer) c.places-2.ensures c.in-Err.ensures.stops in
    subst (λ (v : FdeWriterData). IsDeregistration c.args.key v (fde_writer c.take_back.new.writer i.low c.pop.new.self u.ever) deregistration.Stuck) c.self.view_is
    (half_deregistered u c.args.key x (standing_under c.args.key c.pop.new.self) c.take_back.new.writer c.pop.new.self (sym c.stuck.ensures ∙ c.if-stuck.false) c.in-Some.ensures.pops stops)
