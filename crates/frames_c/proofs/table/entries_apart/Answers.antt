use Rattle.std.proofs.Common.{sym, ◌∙◌}
use Rattle.frames_c.proofs.Tables.{few_apart}
use Rattle.frames_c.proofs.table.entries_apart.Goals as goal

pub returns : goal.returns
returns c = sym (c.loop-left.invariant ∙ few_apart c.loop-left.left.now c.in_default.len_below)
