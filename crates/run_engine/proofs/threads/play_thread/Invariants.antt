use Rattle.std.proofs.Common.{◌+◌, ◌≤◌, length, take}
use Rattle.std.specs.List.{AllZip, flat_map}
use Rattle.reg_model.specs.Chain.{Chain}
use Rattle.registry_core.specs.Calls.{Receives}
use Rattle.script_text.specs.Lawful.{receipts_of}
use Rattle.run_engine.specs.Kept.{IsKeptRight, thread_told}
use Rattle.run_engine.specs.Played.{updates_in}
use Rattle.run_engine.specs.Shared.{IsReady}
use Rattle.run_engine.proofs.threads.play_thread.Given as goal

-- the events so far are answered, one after another
abbrev pub invariant-loop-index : goal.invariant-loop-index
invariant-loop-index g l = record {
  answered : AllZip (IsKeptRight l.setting.images.now l.setting.sections.now l.setting.snapshots.now) (take l.index l.events) l.answers.items;
  calls : Chain Receives l.fn.player.me (flat_map (receipts_of l.setting.images.now) (thread_told l.setting.images.now l.events l.answers.items)) l.player.me;
  ready : IsReady (length l.setting.images.now) l.player.registry l.player.me;
  left : l.fn.player.me.left ≤ l.player.me.left + updates_in (take l.index l.events);
}
