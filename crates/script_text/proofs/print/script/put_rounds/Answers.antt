use Rattle.std.proofs.Common.{◌∙◌}
use Rattle.script_text.proofs.Spelled.{round_more}
use Rattle.script_text.proofs.print.script.put_rounds.Goals as goal

pub loop-round-preserved : goal.loop-round-preserved
loop-round-preserved c = round_more _ _ _ _ c.args.rounds.now c.loop-round.round-index c.round-item.result _ c.loop-round-test.true c.round-item.is (c.deref.ensures.value ∙ c.round.view_is) c.loop-round.invariant c.in_ok-push_str.ensures.bytes c.in_ok-put_threads.ensures
