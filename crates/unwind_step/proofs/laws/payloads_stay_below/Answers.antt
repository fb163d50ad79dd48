use Rattle.unwind_step.proofs.Payloads.{below_after}
use Rattle.unwind_step.proofs.laws.payloads_stay_below.Goals as goal

pub returns : goal.returns
returns c = below_after
