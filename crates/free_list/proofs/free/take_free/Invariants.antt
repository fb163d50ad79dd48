use Rattle.std.proofs.Common.{◌≡◌, ◌<◌, Err, length}
use Rattle.free_list.specs.Free.{EndsRound}
use Rattle.free_list.proofs.free.take_free.Given as goal

abbrev pub invariant-loop : goal.invariant-loop
invariant-loop g l = record {
  round : EndsRound l.fn.me l.me (Err l.lost);
  table : l.me.table ≡ l.words.table;
  room : length l.me.log.holdings.out < 4;
}
