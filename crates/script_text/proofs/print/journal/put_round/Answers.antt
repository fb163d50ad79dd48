use Rattle.script_text.specs.Text.{thread_text}
use Rattle.script_text.proofs.Numbered.{numbered_next}
use Rattle.script_text.proofs.print.journal.put_round.Goals as goal

pub loop-index-preserved : goal.loop-index-preserved
loop-index-preserved c =
    numbered_next (λ thread answers. thread_text c.args.round thread answers.items) c.args.threads.now c.loop-index.index c.index-threads-index.result c.loop-index-test.true c.index-threads-index.is _ _ _ c.loop-index.invariant (rw c.deref.ensures.value at c.in_ok-put_thread.ensures)
