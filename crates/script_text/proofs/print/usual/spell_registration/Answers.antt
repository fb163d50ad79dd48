use Rattle.std.proofs.Common.{decimal, ◌++◌, codes, [], refl}
use Rattle.script_text.specs.Text.{event_number}
use Rattle.script_text.proofs.LineEnds.{line_spelled, registration_said}
use Rattle.script_text.proofs.print.usual.spell_registration.Goals as goal

pub returns : goal.returns
returns c =
    let number = c.args.number in
    let image = codes "register " ++ decimal c.args.image in
    record { text = line_spelled (event_number number.round number.thread number.event) image (codes " done " ++ decimal c.args.done) [] _ _ _ _ _ _ _ c.clear.ensures c.prepend.ensures refl c.prepend_number_after.ensures.text c.prepend_number_after-2.ensures.text c.prepend_number.ensures (registration_said image (decimal c.args.done)) }
