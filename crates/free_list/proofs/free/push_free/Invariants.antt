use Rattle.std.proofs.Common.{◌≡◌, ◌<◌, ◌^◌}
use Rattle.free_list.specs.Free.{IsUnlinked, StaysOut}
use Rattle.free_list.proofs.free.push_free.Given as goal

abbrev pub invariant-loop : goal.invariant-loop
invariant-loop g l = record {
  stays : StaysOut l.node l.head l.fn.me l.me;
  short : l.head < 2 ^ 32;
  free : IsUnlinked l.node l.me.log;
  table : l.me.table ≡ l.words.table;
}
