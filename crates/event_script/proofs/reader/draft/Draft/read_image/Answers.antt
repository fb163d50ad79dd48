use Rattle.std.proofs.Common.{ap}
use Rattle.event_script.specs.Draft.{is_ended}
use Rattle.event_script.proofs.SaidLines.{image_said, read_in_fields}
use Rattle.event_script.proofs.reader.draft.Draft.read_image.Goals as goal

pub returns-in-Some : goal.returns-in-Some
returns-in-Some c =
    let said = rw c.in-Some.is at c.in_ok-found.ensures in
    rw (image_said c.args.self.now _ c.args.line.now c.requires said.0 said.1) c.image.ensures

pub returns-in-None : goal.returns-in-None
returns-in-None c = rw (read_in_fields c.args.self.now c.args.line.now (ap is_ended c.requires)) c.read_by_fields.ensures
