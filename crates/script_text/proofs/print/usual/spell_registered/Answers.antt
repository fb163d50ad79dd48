use Rattle.std.proofs.Common.{decimal, ◌++◌, codes}
use Rattle.script_text.specs.Digits.{hex}
use Rattle.script_text.specs.Text.{event_number}
use Rattle.script_text.proofs.LineEnds.{line_spelled, registered_said}
use Rattle.script_text.proofs.print.usual.spell_registered.Goals as goal

pub returns : goal.returns
returns c =
    let number = c.args.number in
    let pc = codes "find " ++ hex c.args.pc in
    record { text = λ span. line_spelled (event_number number.round number.thread number.event) pc (codes " registered " ++ decimal c.args.image) (codes " at " ++ decimal c.args.stamp) _ _ _ _ _ _ _ c.clear.ensures c.prepend.ensures c.prepend_number_after.ensures.text c.prepend_number_after-2.ensures.text c.prepend_address.ensures.text c.prepend_number.ensures (registered_said pc (decimal c.args.image) (decimal c.args.stamp)) }
