use Rattle.std.proofs.Common.{sym, ◌∙◌}
use Rattle.frame_parse.proofs.Lookups.{few_apart}
use Rattle.frame_parse.proofs.fde_lookup.are_apart.Goals as goal

pub returns : goal.returns
returns c = sym (c.loop-left.invariant ∙ few_apart c.loop-left.left.now c.in_default.len_below)
