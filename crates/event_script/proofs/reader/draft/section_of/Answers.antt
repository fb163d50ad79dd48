use Rattle.std.proofs.Common.{ap}
use Rattle.event_script.specs.Reading.{section_or}
use Rattle.event_script.proofs.Sections.{section_ok_of, section_bad_or, of_bytes}
use Rattle.event_script.proofs.reader.draft.section_of.Goals as goal

pub returns-in-Ok : goal.returns-in-Ok
returns-in-Ok c = let e = c.in-Ok.ensures in ap section_or (section_ok_of c.args.address c.args.bytes.items c.in-Ok.section e.kept.0 e.kept.1 e.found)

pub returns-in_default : goal.returns-in_default
returns-in_default c =
    rw c.into.ensures (ap section_or (section_bad_or c.args.address c.args.bytes.items c.in-Err.fault c.in_default.not-NoMemory c.in-Err.ensures.refused), of_bytes c.in-Err.fault c.in_default.not-NoMemory)
