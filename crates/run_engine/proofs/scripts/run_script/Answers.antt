use Rattle.std.proofs.Common.{◌≡◌}
use Rattle.std.specs.List.{flat_map}
use Rattle.script_text.specs.JournalData.{JournalData}
use Rattle.script_text.specs.Lawful.{IsLawfulJournal, thread_receipts}
use Rattle.registry_core.specs.Rounds.{joined_lists}
use Rattle.run_engine.specs.Played.{IsPlayed}
use Rattle.run_engine.proofs.Sharing.{ok_is}
use Rattle.run_engine.proofs.scripts.run_script.Goals as goal

pub returns-clause-lawful : goal.returns-clause-lawful
returns-clause-lawful g c = ok_is c.tell_journal.result (IsLawfulJournal c.args.script.now) _ c.in_ok-kept.ensures.kept.lawful c.tell_journal.ensures

pub returns-clause-played : goal.returns-clause-played
returns-clause-played g c = ok_is c.tell_journal.result (λ (journal : JournalData). IsPlayed journal.rounds) _ c.in_ok-kept.ensures.kept.played c.tell_journal.ensures

pub returns-clause-receipts : goal.returns-clause-receipts
returns-clause-receipts g c = ok_is c.tell_journal.result (λ (journal : JournalData). joined_lists c.run_kept.new.me.log.receipts ≡ flat_map (λ round. round) (thread_receipts c.args.script.now.images journal)) _ c.in_ok-kept.ensures.receipts c.tell_journal.ensures
