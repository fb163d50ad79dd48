use Rattle.std.proofs.Common.{sym, length}
use Rattle.frame_parse.proofs.Lookups.{permuted}
use Rattle.frame_parse.proofs.fde_lookup.lookup_of.Goals as goal

pub returns-then-are_apart : goal.returns-then-are_apart
returns-then-are_apart c =
    let fdes = c.args.fdes.now in
    let moved = permuted fdes (length fdes) c.in_ok-ranges.ranges.items c.sort_unstable_by_key.new.self.items c.in_ok-ranges.ensures c.sort_unstable_by_key.ensures.permutation in
    (moved, sym (rw c.deref.ensures.value at c.if-are_apart.ensures))
