use Rattle.std.proofs.Common.{sym, ◌∙◌}
use Rattle.frame_expr.proofs.Ascending.{last_end, last_fits}
use Rattle.frame_expr.proofs.memory.regions_end.Goals as goal

pub end-requires : goal.end-requires
end-requires c = last_fits 0 c.args.regions.now c.in-Some.region.now c.requires (sym c.in-Some.ensures.value)

pub returns-in-Some : goal.returns-in-Some
returns-in-Some c = c.end.ensures ∙ sym (last_end c.args.regions.now c.in-Some.region.now (sym c.in-Some.ensures.value))
