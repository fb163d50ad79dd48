use Rattle.frame_parse.proofs.Kept.{programs_of_index}
use Rattle.frame_parse.specs.Entries.{with_cie}
use Rattle.frame_parse.proofs.section.Section.fde.Goals as goal

pub new-requires : goal.new-requires
new-requires c =
    let s = c.self.inside in
    rw c.deref.ensures.value
    (programs_of_index s.address s.bytes.items s.fdes c.args.index (with_cie c.get.result.0.now c.get.result.1.now) c.self.invariant.programs c.get.ensures)
