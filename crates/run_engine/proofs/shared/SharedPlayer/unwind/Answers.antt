use Rattle.std.proofs.Common.{◌≡◌, ap}
use Rattle.std.proofs.lemmas.Result.{IfOk-weaker}
use Rattle.reg_model.specs.Chain.{Chain}
use Rattle.registry_core.specs.Calls.{Receives}
use Rattle.script_text.specs.Lawful.{receipts_of_trace}
use Rattle.run_engine.specs.Shared.{SharedPlayerData}
use Rattle.run_engine.proofs.Sharing.{either_way, goes_calls, goes_registry}
use Rattle.run_engine.proofs.shared.SharedPlayer.unwind.Goals as goal

pub returns-clause-calls : goal.returns-clause-calls
returns-clause-calls g c =
    IfOk-weaker c.trace.result _ (λ trace. Chain Receives c.args.self.now.me (receipts_of_trace trace.frames) c.trace.new.finder.me)
    (λ trace goes. goes_calls c.args.self.now c.trace.new.finder trace.frames goes) c.trace.ensures.queries

pub returns-clause-registry : goal.returns-clause-registry
returns-clause-registry g c =
    either_way c.trace.result _ _ (c.trace.new.finder.registry ≡ c.args.self.now.registry) (λ trace goes. goes_registry c.args.self.now c.trace.new.finder trace.frames goes) (λ same. ap (λ (p : SharedPlayerData). p.registry) same) c.trace.ensures.queries c.trace.ensures.unasked
