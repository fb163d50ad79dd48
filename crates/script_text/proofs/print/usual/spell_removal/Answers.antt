use Rattle.std.proofs.Common.{decimal, ◌++◌, codes}
use Rattle.script_text.specs.Digits.{hex}
use Rattle.script_text.specs.Text.{event_number}
use Rattle.script_text.proofs.LineEnds.{line_spelled, removal_said}
use Rattle.script_text.proofs.print.usual.spell_removal.Goals as goal

pub returns : goal.returns
returns c =
    let number = c.args.number in
    let base = codes "deregister " ++ hex c.args.base in
    record { text = λ span. line_spelled (event_number number.round number.thread number.event) base (codes " done " ++ decimal c.args.done) (codes " image " ++ decimal c.args.image) _ _ _ _ _ _ _ c.clear.ensures c.prepend.ensures c.prepend_number_after.ensures.text c.prepend_number_after-2.ensures.text c.prepend_address.ensures.text c.prepend_number.ensures (removal_said base (decimal c.args.done) (decimal c.args.image)) }
