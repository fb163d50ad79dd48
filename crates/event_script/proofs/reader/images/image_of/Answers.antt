use Rattle.std.proofs.Common.{◌≡◌, ◌∙◌, ℕ, Some, Vec, Global, ap, option_map, sym}
use Rattle.script_text.specs.Fields.{section_bytes}
use Rattle.event_script.proofs.SaidLines.{whole_image}
use Rattle.event_script.proofs.reader.images.image_of.Goals as goal

pub returns : goal.returns
returns c =
    let numbers = c.in-Some.numbers in
    let told = c.in-Some.ensures in
    let found : section_bytes numbers.digits.now ≡ Some c.in-Some-2.bytes.items = sym c.in_ok-bytes.ensures ∙ ap (option_map (λ (v : Vec ℕ Global). v.items)) c.in-Some-2.is in
    whole_image c.args.line.now numbers.digits.now c.in-Some-2.bytes.items numbers.number numbers.base numbers.size numbers.section told.0 told.1 told.2 told.3 told.4 found
