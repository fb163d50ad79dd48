use Rattle.std.proofs.Common.{◌∙◌, ◌+◌, ap}
use Rattle.std.proofs.lemmas.List.Elements.{All-push}
use Rattle.script_text.specs.ScriptData.{IsSectionOf}
use Rattle.script_generator.proofs.Ranges.{sections_more}
use Rattle.script_generator.proofs.images.sections_of.Goals as goal

pub loop-image-preserved : goal.loop-image-preserved
loop-image-preserved c =
    let section = c.in_ok-section_at.field-0 in
    let address = c.in_ok-section_at.ensures.address ∙ ap (λ n. n + 4096) c.first.ensures.value in
    rw c.in_ok-push.ensures.items (
      sections_more c.args.images.now c.loop-image.sections.items c.loop-image.image-index c.image-item.result section c.loop-image-test.true c.image-item.is address c.in_ok-section_at.ensures.bytes c.loop-image.invariant.0,
      All-push IsSectionOf c.loop-image.sections.items section c.loop-image.invariant.1 c.in_ok-section_at.ensures.whole,
    )
