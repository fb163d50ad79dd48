use Rattle.script_text.proofs.Spelled.{region_more}
use Rattle.script_text.proofs.print.script.put_memory.Goals as goal

pub loop-index-preserved : goal.loop-index-preserved
loop-index-preserved c = region_more _ _ _ c.args.memory.now c.loop-index.index _ _ c.address.ensures c.region.ensures c.loop-index.invariant c.in_ok-put_region.ensures
