use Rattle.std.proofs.Common.{◌∙◌, Some, None, sym, arith}
use Rattle.sound_records.proofs.Lookups.{answer_seen, fde_before, fde_behind}
use Rattle.sound_records.proofs.section.SoundSection.fde_at.Goals as goal

pub returns-in-None-claim : goal.returns-in-None-claim
returns-in-None-claim c =
    answer_seen c.records_stand.ensures c.args.pc c.self.inside.section c.self.inside.refused.items None None c.self.invariant c.in-None.ensures.value (rw c.deref.ensures.value at c.in-None-claim.ensures) _ c.self.view_is

pub returns-in-Some-claim : goal.returns-in-Some-claim
returns-in-Some-claim c =
    answer_seen c.records_stand.ensures c.args.pc c.self.inside.section c.self.inside.refused.items None (Some c.in-Some-claim.record) c.self.invariant c.in-None.ensures.value (rw c.deref.ensures.value at c.in-Some-claim.ensures) _ c.self.view_is

pub returns-in-None-claim-2 : goal.returns-in-None-claim-2
returns-in-None-claim-2 c =
    let cover = sym c.fde-fde.ensures.entry ∙ c.in-Some.ensures.value in
    answer_seen c.records_stand.ensures c.args.pc c.self.inside.section c.self.inside.refused.items (Some c.fde-fde.result.entry) None c.self.invariant cover (rw c.deref.ensures.value at c.in-None-claim-2.ensures) _ c.self.view_is

pub returns-then-place-record : goal.returns-then-place-record
returns-then-place-record c =
    let cover = sym c.fde-fde.ensures.entry ∙ c.in-Some.ensures.value in
    sym (fde_before c.fde-fde.result.entry c.in-Some-claim-2.record (omega (arith, c.place.ensures, c.if-place-record.true)))
    ∙ answer_seen c.records_stand.ensures c.args.pc c.self.inside.section c.self.inside.refused.items _ _ c.self.invariant cover (rw c.deref.ensures.value at c.in-Some-claim-2.ensures) _ c.self.view_is

pub returns-else-place-record : goal.returns-else-place-record
returns-else-place-record c =
    let cover = sym c.fde-fde.ensures.entry ∙ c.in-Some.ensures.value in
    sym (fde_behind c.fde-fde.result.entry c.in-Some-claim-2.record (omega (arith, c.place.ensures, c.if-place-record.false)))
    ∙ answer_seen c.records_stand.ensures c.args.pc c.self.inside.section c.self.inside.refused.items _ _ c.self.invariant cover (rw c.deref.ensures.value at c.in-Some-claim-2.ensures) _ c.self.view_is
