use Rattle.script_text.proofs.Spelled.{image_more}
use Rattle.script_text.proofs.print.script.put_images.Goals as goal

pub loop-number-preserved : goal.loop-number-preserved
loop-number-preserved c = image_more _ _ _ c.args.images.now c.args.sections.now c.loop-number.number c.index-images-number.result c.index-sections-number.result c.loop-number-test.true c.requires c.index-images-number.is c.index-sections-number.is c.loop-number.invariant c.in_ok-put_image.ensures
