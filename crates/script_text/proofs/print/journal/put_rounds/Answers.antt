use Rattle.script_text.specs.Text.{numbered, thread_text}
use Rattle.script_text.proofs.Numbered.{numbered_next}
use Rattle.script_text.proofs.print.journal.put_rounds.Goals as goal

pub loop-index-preserved : goal.loop-index-preserved
loop-index-preserved c =
    numbered_next (λ round threads. numbered (λ thread answers. thread_text round thread answers.items) 1 threads.items) c.args.rounds.now c.loop-index.index c.index-rounds-index.result c.loop-index-test.true c.index-rounds-index.is _ _ _ c.loop-index.invariant (rw c.deref.ensures.value at c.in_ok-put_round.ensures)
