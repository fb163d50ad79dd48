use Rattle.script_text.proofs.Spelled.{event_more}
use Rattle.script_text.proofs.print.script.put_events.Goals as goal

pub loop-event-preserved : goal.loop-event-preserved
loop-event-preserved c = event_more _ _ _ _ c.args.events.now c.loop-event.event-index _ c.loop-event-test.true c.loop-event.invariant c.in_ok-put_event.ensures c.in_ok-push_str.ensures.bytes
