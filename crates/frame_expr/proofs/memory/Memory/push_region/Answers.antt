use Rattle.std.proofs.Common.{rules, ◌<◌, ◌≤◌, ◌^◌, length, arith}
use Rattle.frame_expr.specs.Regions.{RegionData, end, regions_end}
use Rattle.frame_expr.proofs.Ascending.{one_more}
use Rattle.frame_expr.proofs.memory.Memory.push_region.Goals as goal

pub invariant_of-self-2 : goal.invariant_of-self-2
invariant_of-self-2 c =
    let rs = c.self.inside.regions.items in
    let r : RegionData = record { address = c.args.address; bytes = c.args.bytes.now } in
    let some : 0 < length c.args.bytes.now = search rules in
    let fits : end r < 2 ^ 64 = search rules in
    let last : regions_end rs ≤ c.args.address = search rules in
    let more = one_more 0 rs r c.self.invariant (omega arith) last some fits in
    rw (c.in_ok-push.ensures.items, c.in_ok-bytes.ensures.items) more
