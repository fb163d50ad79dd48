use Rattle.std.proofs.Common.{◌∷◌, [], subst}
use Rattle.reg_model.specs.declared.answer.Removed.{Removed}
use Rattle.sole_writer.specs.Writers.{WriterAnswers, WriterData}
use Rattle.fde_writer.specs.Places.{PlaceData}
use Rattle.fde_writer.specs.Puttings.{removal_from}
use Rattle.fde_writer.proofs.OneMember.{Known, never_missing, take_stopped, taken}
use Rattle.fde_writer.proofs.putting.take.Goals as goal

pub returns-clause-taken : goal.returns-clause-taken
returns-clause-taken c =
    let p : PlaceData = c.args.place.now in
    let w : WriterData = c.args.writer.now in
    let v : WriterData = c.remove.new.writer in
    let known : Known w = record { lawful = c.known.ensures.lawful; registered = c.known.ensures.registered; loaded = c.known.ensures.loaded } in
    taken p.half p.member _ c.in-Done.number w v known c.requires.there (subst (λ (r : Removed). WriterAnswers (removal_from p.half p.member.span.first r) w v) c.in-Done.is c.in-Ok.ensures.answers)

pub returns-in-Err-clause-stops : goal.returns-in-Err-clause-stops
returns-in-Err-clause-stops c = take_stopped (c.args.place.now ∷ []) _ _ _ c.in-Err.ensures.stops

pub unreachable-requires : goal.unreachable-requires
unreachable-requires c =
    let p : PlaceData = c.args.place.now in
    let w : WriterData = c.args.writer.now in
    let v : WriterData = c.remove.new.writer in
    let known : Known w = record { lawful = c.known.ensures.lawful; registered = c.known.ensures.registered; loaded = c.known.ensures.loaded } in
    never_missing p.half p.member _ w v known c.requires.there (subst (λ (r : Removed). WriterAnswers (removal_from p.half p.member.span.first r) w v) c.in-NotFound.is c.in-Ok.ensures.answers)
