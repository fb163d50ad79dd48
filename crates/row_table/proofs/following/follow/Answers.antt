use Rattle.std.proofs.Common.{refl}
use Rattle.row_table.proofs.FollowedRows.{bytes_lacked, frame_followed}
use Rattle.row_table.proofs.ManyRestored.{all_restored, first_lacks}
use Rattle.row_table.proofs.following.follow.Goals as goal

pub returns-in-Frame : goal.returns-in-Frame
returns-in-Frame g c =
    let lent = c.placed-placed.ensures in
    let cfa = c.in-Some.ensures in
    let memory = g.M.WordSource.regions c.args.memory.now in
    frame_followed lent.0 c.args.row.now c.placed-placed.result.now c.in-Some.cfa c.args.regs.now.columns memory c.restore_all.new.regs.columns lent.1 (cfa.leads lent.0) (cfa.cfa lent.0 memory) (all_restored c.placed-placed.result.now c.in-Some.cfa memory lent.0 c.args.regs.now.columns c.restore_all.new.regs.columns (rw c.in-Frame.is at c.restore_all.ensures.restores))
    c.restore_all.ensures.length

pub returns-in-NoBytes : goal.returns-in-NoBytes
returns-in-NoBytes g c =
    let lent = c.placed-placed.ensures in
    let cfa = c.in-Some.ensures in
    let memory = g.M.WordSource.regions c.args.memory.now in
    let placed = c.placed-placed.result.now in
    let old = c.args.regs.now.columns in
    let address = c.in-NoBytes.address in
    let lacks = first_lacks placed c.in-Some.cfa memory lent.0 old c.restore_all.new.regs.columns address (rw c.in-NoBytes.is at c.restore_all.ensures.restores) in
    (refl, bytes_lacked lent.0 c.args.row.now placed c.in-Some.cfa old memory (record { address = address }) lent.1 (cfa.leads lent.0) (cfa.cfa lent.0 memory) lacks)
