use Rattle.std.proofs.Common.{◌+◌, ◌≤◌}
use Rattle.array_publish.specs.CopyLoads.{IsAtCopy, LoadsCopy, load_count}
use Rattle.array_publish.specs.Search.{CountsBegun}
use Rattle.array_publish.proofs.search.begun_in.Given as goal

abbrev pub invariant-loop-number : goal.invariant-loop-number
invariant-loop-number g l = record {
  loads : LoadsCopy l.words.terms l.at.copy (g.L.Looker.known l.fn.me) (g.L.Looker.known l.me);
  copy : IsAtCopy l.words l.at.copy (g.L.Looker.known l.me);
  few : load_count (g.L.Looker.known l.me) ≤ load_count (g.L.Looker.known l.fn.me) + l.number;
  inside : l.begun ≤ l.number;
  begun : CountsBegun l.words.terms l.at.copy (g.L.Looker.known l.me) l.pc l.series l.number l.begun;
}
