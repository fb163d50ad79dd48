use Rattle.std.proofs.Common.{Some}
use Rattle.eh_hdr.specs.Tables.{IsSortedTable}
use Rattle.eh_hdr.proofs.Tables.{locations_ascend}
use Rattle.eh_hdr.proofs.header.Header.entries.Goals as goal

pub returns-in-Some-clause-ascending : goal.returns-in-Some-clause-ascending
returns-in-Some-clause-ascending c =
    let table : IsSortedTable c.self.inside.section.now.fdes (Some c.in-Some.entries.items) = rw c.in-Some.is at c.self.invariant in
    rw c.deref.ensures.value (locations_ascend _ _ c.in-Some.entries.items table.1)
