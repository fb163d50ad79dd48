use Rattle.std.proofs.Common.{◌∙◌}
use Rattle.sound_records.proofs.Agreement.{nothing_refused}
use Rattle.sound_records.proofs.section.SoundSection.of_section.Goals as goal

pub invariant_of-result : goal.invariant_of-result
invariant_of-result c =
    let s = c.args.section in
    let none = nothing_refused s.address s.bytes s.fdes (c.agrees_with_read.ensures s.address s.bytes) (c.section_is_answered.ensures s.address s.bytes) c.requires in
    (none.0, c.new-refused.ensures.items ∙ none.1)
