use Rattle.std.proofs.Common.{◌+◌, ◌*◌, ◌≤◌, length, map, take}
use Rattle.std.specs.List.{AllZip, flat_map}
use Rattle.script_text.specs.Lawful.{receipts_of}
use Rattle.run_engine.specs.Kept.{IsKeptRight, rounds_told}
use Rattle.run_engine.specs.Played.{round_updates}
use Rattle.run_engine.specs.Shared.{IsAfterRounds, IsReady}
use Rattle.run_engine.proofs.rounds.play_shared.Given as goal

-- the rounds so far are answered, and joined again
abbrev pub invariant-loop-index : goal.invariant-loop-index
invariant-loop-index g l = record {
  answered : AllZip (AllZip (AllZip (IsKeptRight l.setting.images.now l.setting.sections.now l.setting.snapshots.now))) (take l.index l.rounds) l.kept.items;
  after : IsAfterRounds (map (λ round. map (λ answers. flat_map (receipts_of l.setting.images.now) answers) round) (rounds_told l.setting.images.now l.rounds l.kept.items)) l.fn.me l.me;
  ready : IsReady (length l.setting.images.now) l.registry l.me;
  left : l.fn.me.left ≤ l.me.left + round_updates * l.index;
}
