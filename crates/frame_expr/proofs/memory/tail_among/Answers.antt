use Rattle.std.proofs.Common.{◌∙◌, arith}
use Rattle.frame_expr.specs.Regions.{tail_in, tail_at}
use Rattle.frame_expr.proofs.Ascending.{in_no_region, in_the_region}
use Rattle.frame_expr.proofs.memory.tail_among.Goals as goal

pub returns-in-None : goal.returns-in-None
unfolding tail_at
returns-in-None c = in_no_region (tail_in c.args.address) 1 c.args.address c.args.regions.now (c.in-None.ensures.held 1 (omega arith))

pub returns-in-Some : goal.returns-in-Some
unfolding tail_at
returns-in-Some c = c.tail.ensures ∙ in_the_region (tail_in c.args.address) 1 c.args.address c.args.regions.now c.in-Some.region.now (c.in-Some.ensures.held 1 (omega arith))
