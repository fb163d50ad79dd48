use Rattle.std.proofs.Common.{◌∙◌, arith}
use Rattle.byteorder.specs.Endian.{little_number}
use Rattle.frame_expr.specs.Regions.{tail_in, word_at}
use Rattle.frame_expr.proofs.Ascending.{in_no_region, in_the_region}
use Rattle.frame_expr.proofs.memory.word_among.Goals as goal

pub returns-in-None : goal.returns-in-None
unfolding word_at
returns-in-None c = in_no_region (λ r. little_number 8 (tail_in c.args.address r)) 8 c.args.address c.args.regions.now (c.in-None.ensures.held 8 (omega arith))

pub returns-in-Some : goal.returns-in-Some
unfolding word_at
returns-in-Some c = c.word.ensures ∙ in_the_region (λ r. little_number 8 (tail_in c.args.address r)) 8 c.args.address c.args.regions.now c.in-Some.region.now (c.in-Some.ensures.held 8 (omega arith))
