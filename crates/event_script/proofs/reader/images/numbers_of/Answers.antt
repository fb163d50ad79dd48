use Rattle.event_script.proofs.SaidLines.{image_numbers}
use Rattle.event_script.proofs.reader.images.numbers_of.Goals as goal

pub returns : goal.returns
returns c = image_numbers _ _ _ _ _ _ c.in_ok-digits.digits.now c.first_field.result.1.now c.in_ok-base.rest.now c.in_ok-size.rest.now c.in_ok-section.rest.now _ _ _ _ c.in_ok-fields.ensures c.first_field.ensures c.in_ok-base.ensures c.in_ok-size.ensures c.in_ok-section.ensures c.in_ok-digits.ensures c.in_ok-number.ensures c.in_ok-base-2.ensures c.in_ok-size-2.ensures c.in_ok-section-2.ensures
