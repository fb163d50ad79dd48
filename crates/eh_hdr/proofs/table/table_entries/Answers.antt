use Rattle.std.proofs.Common.{◌≡◌, ◌+◌, ◌-◌, ℕ, suc, ap, ◌∙◌, arith, inr, slice_get}
use Rattle.std.specs.Option.{option_and_then}
use Rattle.std.proofs.lemmas.Result.{err_from_is_err_and}
use Rattle.eh_hdr.specs.Headers.{table_entries}
use Rattle.eh_hdr.proofs.Entries.{behind, next_entry, no_next, last_read}
use Rattle.eh_hdr.proofs.table.table_entries.Goals as goal

pub returns-in_err-entry : goal.returns-in_err-entry
returns-in_err-entry c =
    let section = c.args.section.now in
    let was = c.loop in
    let before = option_and_then (slice_get section.fdes) was.before in
    let one : c.args.count - was.counter ≡ suc (c.args.count - (was.counter + 1)) = omega (arith, c.loop-test.true) in
    let here = was.invariant.reading ∙ ap (λ (n : ℕ). behind was.entries.items ((table_entries c.args.address section n before).read was.cursor)) one in
    let stopped = no_next c.args.address section (c.args.count - (was.counter + 1)) before was.entries.items was.cursor c.in_err-entry.field-0.0 c.in_err-entry.ensures.read in
    let p = err_from_is_err_and c.from_residual-in_err-entry.result c.from_residual-in_err-entry.ensures.1 in
    rw (p.1, p.2) (inr (here ∙ stopped))

pub loop-preserved : goal.loop-preserved
loop-preserved c =
    let section = c.args.section.now in
    let was = c.loop in
    let before = option_and_then (slice_get section.fdes) was.before in
    let one : c.args.count - was.counter ≡ suc (c.args.count - (was.counter + 1)) = omega (arith, c.loop-test.true) in
    let here = was.invariant.reading ∙ ap (λ (n : ℕ). behind was.entries.items ((table_entries c.args.address section n before).read was.cursor)) one in
    record {
      known = c.in_ok-entry.ensures.fde;
      reading =
          rw c.in_ok-push.ensures.items
          (here ∙ next_entry c.args.address section (c.args.count - (was.counter + 1)) before was.entries.items was.cursor c.in_ok-entry.entry c.table_entry.new.cursor c.in_ok-entry.ensures.read);
    }

pub returns : goal.returns
returns c =
    let section = c.args.section.now in
    let was = c.loop in
    let before = option_and_then (slice_get section.fdes) was.before in
    let none : c.args.count - was.counter ≡ 0 = omega (arith, c.loop-test.false) in
    was.invariant.reading ∙ ap (λ (n : ℕ). behind was.entries.items ((table_entries c.args.address section n before).read was.cursor)) none ∙ last_read c.args.address section before was.entries.items was.cursor
