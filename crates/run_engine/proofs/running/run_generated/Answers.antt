use Rattle.std.proofs.Common.{refl, inr}
use Rattle.script_generator.specs.Summaries.{summary_of, summary_text}
use Rattle.run_engine.proofs.Countable.{countable}
use Rattle.run_engine.proofs.running.run_generated.Goals as goal

pub write_summary-requires-clause-countable : goal.write_summary-requires-clause-countable
write_summary-requires-clause-countable g c =
    countable c.in-Ok.script.sections c.in-Ok.script.snapshots c.in-Ok-play_script.journal.rounds c.in-Ok-play_script.ensures.played c.in-Ok-play_script.ensures.lawful.unfolded

pub returns-in-Err-Failed-clause-ends : goal.returns-in-Err-Failed-clause-ends
returns-in-Err-Failed-clause-ends g c =
    let failed = rw c.in-Err-Failed.field-0-is at c.in-Err-Failed.ensures.failed in (
      failed refl,
      (
        summary_text (summary_of c.in-Ok-play_script.journal),
        record {
          script = c.in-Ok.script;
          journal = c.in-Ok-play_script.journal;
          generated = c.in-Ok.ensures;
          lawful = c.in-Ok-play_script.ensures.lawful;
          text_is = refl;
        },
        c.in-Err-Failed.ensures.err,
      ),
    )

pub returns-clause-ends : goal.returns-clause-ends
returns-clause-ends g c =
    inr (
      summary_text (summary_of c.in-Ok-play_script.journal),
      record {
        script = c.in-Ok.script;
        journal = c.in-Ok-play_script.journal;
        generated = c.in-Ok.ensures;
        lawful = c.in-Ok-play_script.ensures.lawful;
        text_is = refl;
      },
      c.in-Err-NoMemory.ensures.err,
    )
