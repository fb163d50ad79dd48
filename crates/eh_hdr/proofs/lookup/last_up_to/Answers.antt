use Rattle.std.proofs.Common.{◌+◌, ◌/◌, ◌<◌, length, nat_le, get_or, ap, arith}
use Rattle.std.proofs.lemmas.Option.{slice_get-get_or}
use Rattle.eh_hdr.specs.Tables.{locations}
use Rattle.eh_hdr.proofs.Searches.{half_left, is_last, none_up_to, size_of, location_in}
use Rattle.eh_hdr.proofs.Tables.{no_entry_here}
use Rattle.eh_hdr.proofs.lookup.last_up_to.Goals as goal
use Rattle.eh_hdr.proofs.lookup.last_up_to.Goals.{else-base-entries-via-then-base-entries+else-entries-base, else-base-entries-via-else-base-entries}

pub loop-size-preserved : goal.loop-size-preserved
loop-size-preserved c =
    let es = c.args.entries.now in
    let was = c.loop-size in
    let half = was.size / 2 in
    let inside : was.base + half < length es = omega (arith, was.invariant.within, size_of es) in
    let here = location_in es (was.base + half) _ inside in
    rw c.where_holds-base.ensures
    (half_left (locations es) c.args.pc was.base was.size half _ c.requires was.invariant (omega arith) (omega arith) (ap (λ n. nat_le n c.args.pc) here))

pub returns-then-entries-base-clause-some : goal.returns-then-entries-base-clause-some
returns-then-entries-base-clause-some c =
    let es = c.args.entries.now in
    let was = c.loop-size in
    is_last es c.args.pc was.base was.size (get_or es was.base no_entry_here) was.invariant (omega arith) (slice_get-get_or es was.base no_entry_here (omega arith)) c.if-entries-base.true

pub returns-else-base-entries-clause-none : goal.returns-else-base-entries-clause-none
returns-else-base-entries-clause-none c =
    let es = c.args.entries.now in
    let was = c.loop-size in
    none_up_to es c.args.pc was.base was.size c.requires was.invariant (omega arith) (λ lt.
    elim c.else-base-entries.branch [
      | else-base-entries-via-then-base-entries+else-entries-base w ↦ let here = location_in es was.base no_entry_here lt in omega (arith, here, w.if-entries-base.false)
      | else-base-entries-via-else-base-entries w ↦ absurd (omega (arith, w.if-base-entries.false))
    ])
