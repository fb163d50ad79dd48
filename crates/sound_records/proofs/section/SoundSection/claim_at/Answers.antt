use Rattle.sound_records.proofs.Lookups.{claim_seen}
use Rattle.sound_records.proofs.section.SoundSection.claim_at.Goals as goal

pub returns-clause-claimed : goal.returns-clause-claimed
returns-clause-claimed c =
    (claim_seen c.records_stand.ensures c.args.pc c.self.inside.section c.self.inside.refused.items c.claim_among.result c.self.invariant (rw c.deref.ensures.value at c.claim_among.ensures) _ c.self.view_is).0

pub returns-clause-none : goal.returns-clause-none
returns-clause-none c =
    (claim_seen c.records_stand.ensures c.args.pc c.self.inside.section c.self.inside.refused.items c.claim_among.result c.self.invariant (rw c.deref.ensures.value at c.claim_among.ensures) _ c.self.view_is).1
