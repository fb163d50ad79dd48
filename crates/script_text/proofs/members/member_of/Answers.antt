use Rattle.std.proofs.Common.{◌≡◌, ℕ, ◌<◌, List, Option, length, get_or, refl, sym, ap}
use Rattle.std.specs.Option.{unwrap_or}
use Rattle.std.proofs.lemmas.Option.{slice_get_read}
use Rattle.reg_model.specs.SpanData.{SpanData}
use Rattle.reg_model.specs.declared.span.Member.{Member}
use Rattle.script_text.specs.Lawful.{image_member}
use Rattle.script_text.proofs.members.member_of.Goals as goal

member_is : (images : List SpanData) (number : ℕ) (span : SpanData) → number < length images → span ≡ get_or images number span → image_member images number ≡ record { span = span; payload = number }
member_is images number span lt is =
    let nowhere : SpanData = record { first = 0; last = 0 } in
    let member : SpanData → Member = λ s. record { span = s; payload = number } in
    ap (λ (o : Option SpanData). member (unwrap_or o nowhere)) (slice_get_read images (length images) number span refl lt is)

pub returns : goal.returns
returns c = sym (member_is c.args.images.now c.args.image c.index-images-image.result c.requires c.index-images-image.is)
