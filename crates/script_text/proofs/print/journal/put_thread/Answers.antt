use Rattle.script_text.specs.Text.{answer_text}
use Rattle.script_text.proofs.Numbered.{numbered_next}
use Rattle.script_text.proofs.print.journal.put_thread.Goals as goal

pub loop-index-preserved : goal.loop-index-preserved
loop-index-preserved c =
    numbered_next (answer_text c.args.round c.args.thread) c.args.answers.now c.loop-index.index c.index-answers-index.result c.loop-index-test.true c.index-answers-index.is _ _ _ c.loop-index.invariant c.in_ok-put_event.ensures
