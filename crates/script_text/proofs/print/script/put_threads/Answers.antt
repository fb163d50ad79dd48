use Rattle.std.proofs.Common.{◌∙◌}
use Rattle.script_text.proofs.Spelled.{thread_more}
use Rattle.script_text.proofs.print.script.put_threads.Goals as goal

pub loop-thread-preserved : goal.loop-thread-preserved
loop-thread-preserved c = thread_more _ _ _ _ c.args.threads.now c.loop-thread.thread-index c.thread-item.result _ c.loop-thread-test.true c.thread-item.is (c.deref.ensures.value ∙ c.thread.view_is) c.loop-thread.invariant c.in_ok-push_str.ensures.bytes c.in_ok-put_events.ensures
