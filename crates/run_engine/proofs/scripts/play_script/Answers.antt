use Rattle.script_text.specs.JournalData.{JournalData}
use Rattle.script_text.specs.Lawful.{IsLawfulJournal}
use Rattle.run_engine.specs.Played.{IsPlayed}
use Rattle.run_engine.proofs.Sharing.{ok_is}
use Rattle.run_engine.proofs.scripts.play_script.Goals as goal

pub returns-clause-lawful : goal.returns-clause-lawful
returns-clause-lawful g c = ok_is c.tell_journal.result (IsLawfulJournal c.args.script.now) _ c.in_ok-kept.ensures.lawful c.tell_journal.ensures

pub returns-clause-played : goal.returns-clause-played
returns-clause-played g c = ok_is c.tell_journal.result (λ (journal : JournalData). IsPlayed journal.rounds) _ c.in_ok-kept.ensures.played c.tell_journal.ensures
