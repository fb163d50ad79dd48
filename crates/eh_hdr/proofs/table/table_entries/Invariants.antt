use Rattle.std.proofs.Common.{◌≡◌, ◌-◌, ◌<◌, length, None, slice_get}
use Rattle.std.specs.Prelude.{IfSome}
use Rattle.std.specs.Option.{option_and_then}
use Rattle.eh_hdr.specs.Headers.{table_entries}
use Rattle.eh_hdr.proofs.Entries.{behind}
use Rattle.eh_hdr.proofs.table.table_entries.Given as goal

abbrev pub invariant-loop : goal.invariant-loop
invariant-loop l = record {
  known : IfSome l.before (λ i. i < length l.section.fdes);
  reading : (table_entries l.address l.section l.count None).read l.initial.cursor
      ≡ behind l.entries.items ((table_entries l.address l.section (l.count - l.counter) (option_and_then (slice_get l.section.fdes) l.before)).read l.cursor);
}
