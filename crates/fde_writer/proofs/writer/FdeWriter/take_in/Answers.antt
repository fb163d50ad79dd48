use Rattle.std.proofs.Common.{◌≡◌, ◌∙◌, ap, sym, subst, List}
use Rattle.std.specs.List.{All}
use Rattle.fde_members.specs.Members.{section_members}
use Rattle.reg_model.specs.SpanData.{IsSpan}
use Rattle.fde_writer.specs.Moves.{IsMoveFault, moved_members}
use Rattle.fde_writer.specs.Outcomes.{IsRegistration}
use Rattle.fde_writer.specs.Places.{PlaceData, placed_members}
use Rattle.fde_writer.specs.Sections.{FdeWriterData}
use Rattle.fde_writer.proofs.Moved.{move_refused, section_moved}
use Rattle.fde_writer.proofs.writer.FdeWriter.take_in.Goals as goal

pub returns-in-Err : goal.returns-in-Err
returns-in-Err c =
    let x = c.args.standing.now in
    let now = c.args.self.now in
    let low : c.self.inside.low ≡ now.low = ap (λ (u : FdeWriterData). u.low) c.self.view_is in
    let spans = subst (λ (ps : List PlaceData). All (λ m. IsSpan m.span) (placed_members ps)) c.places.ensures c.have_spans.ensures in
    let moved = section_moved c.payloads_lead.ensures c.args.low now.low x.section (placed_members x.places) c.ranges.low.fits spans c.requires in
    let free = ap (λ (u : FdeWriterData). u.client.stuck) (sym c.self.view_is) ∙ sym c.stuck.ensures ∙ c.if-stuck.false in
    let fault = subst (λ (ps : List PlaceData). IsMoveFault c.args.low now.low (placed_members ps) c.in-Err.fault) c.places-2.ensures
    (subst (λ k. IsMoveFault c.args.low k (placed_members c.places-2.result.now) c.in-Err.fault) low c.in-Err.ensures.fault) in
    subst (IsRegistration c.args.key x.note x.section now now) (sym c.refused.ensures) (move_refused c.args.key x.note c.args.low x.section (placed_members x.places) now c.in-Err.fault free moved fault)

pub stand_with-requires-clause-whole : goal.stand_with-requires-clause-whole
stand_with-requires-clause-whole c =
    let x = c.args.standing.now in
    let now = c.args.self.now in
    let low : c.self.inside.low ≡ now.low = ap (λ (u : FdeWriterData). u.low) c.self.view_is in
    let spans = subst (λ (ps : List PlaceData). All (λ m. IsSpan m.span) (placed_members ps)) c.places.ensures c.have_spans.ensures in
    let moved = section_moved c.payloads_lead.ensures c.args.low now.low x.section (placed_members x.places) c.ranges.low.fits spans c.requires in
    c.deref.ensures.value ∙ c.in-Ok.ensures.members ∙ ap (λ k. moved_members c.args.low k (placed_members c.places-2.result.now)) low
    ∙ ap (λ (ps : List PlaceData). moved_members c.args.low now.low (placed_members ps)) c.places-2.ensures ∙ moved ∙ ap (section_members now.low) (sym c.section.ensures)
