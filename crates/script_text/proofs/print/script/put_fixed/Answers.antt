use Rattle.script_text.proofs.Spelled.{fixed_more}
use Rattle.script_text.proofs.print.script.put_fixed.Goals as goal

pub loop-image-preserved : goal.loop-image-preserved
loop-image-preserved c = fixed_more _ _ _ c.args.fixed.now c.loop-image.image-index c.loop-image-test.true c.loop-image.invariant c.in_ok-put_number.ensures
