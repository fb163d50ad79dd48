use Rattle.std.specs.Fmt.{decimal}
use Rattle.script_text.specs.Text.{addresses_text, place_text}
use Rattle.script_text.proofs.LineEnds.{three_before}
use Rattle.script_text.proofs.print.journal.prepend_frame_rest.Goals as goal

pub returns-clause-text : goal.returns-clause-text
returns-clause-text c =
    three_before (decimal c.args.number) (addresses_text c.args.line.now) (place_text c.args.line.now.place) _ _ _ _ c.prepend_place.ensures.text c.prepend_addresses.ensures.text c.prepend_decimal.ensures.text
