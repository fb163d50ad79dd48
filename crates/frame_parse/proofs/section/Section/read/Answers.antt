use Rattle.frame_parse.proofs.Places.{section_keeps}
use Rattle.frame_parse.proofs.section.Section.read.Goals as goal

pub of_records-requires-clause-kept : goal.of_records-requires-clause-kept
of_records-requires-clause-kept c = section_keeps _ _ _ c.in_ok-cies.ensures.found
