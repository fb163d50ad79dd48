use Rattle.frame_parse.proofs.Places.{section_keeps}
use Rattle.frame_parse.proofs.section.Section.keep.Goals as goal

pub keep_records-requires-clause-kept : goal.keep_records-requires-clause-kept
keep_records-requires-clause-kept c = rw c.deref.ensures.value at (section_keeps _ _ _ c.in_ok-cies.ensures.found)
