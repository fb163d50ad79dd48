use Rattle.std.proofs.Common.{◌<◌, ◌^◌, length, subst, sym}
use Rattle.frame_parse.specs.Sections.{SectionData}
use Rattle.frames_c.proofs.Covers.{found_low}
use Rattle.frames_c.proofs.share.LoadedSection.fde_at.Goals as goal

pub returns-in-None-clause-place : goal.returns-in-None-clause-place
returns-in-None-clause-place c =
    let section = c.section-section.result.now in
    let short = subst (λ (s : SectionData). length s.bytes < 2 ^ 32) (sym c.section-section.ensures) c.self.invariant.0 in
    found_low c.args.pc (length section.bytes) section.fdes c.fde_at.result c.known.ensures.within short c.fde_at.ensures.entry

pub returns-in-Some-clause-place : goal.returns-in-Some-clause-place
returns-in-Some-clause-place c =
    let section = c.section-section.result.now in
    let short = subst (λ (s : SectionData). length s.bytes < 2 ^ 32) (sym c.section-section.ensures) c.self.invariant.0 in
    found_low c.args.pc (length section.bytes) section.fdes c.fde_at-in-Some.result c.known.ensures.within short c.fde_at-in-Some.ensures.entry
