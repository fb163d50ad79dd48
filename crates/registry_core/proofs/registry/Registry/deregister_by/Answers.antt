use Rattle.registry_core.proofs.Begun.{tree_tried}
use Rattle.registry_core.proofs.registry.Registry.deregister_by.Goals as goal

pub returns-clause-call : goal.returns-clause-call
returns-clause-call g c =
    rw (← c.self.view_is) (tree_tried c.self.inside.words _ c.args.me.now c.remove_by.new.me c.remove_by.result _ c.requires.caller.idle c.requires.begun (c.may_try.ensures.0 c.if-not-may_try.false) c.remove_by.ensures.terms c.remove_by.ensures.answer (λ answer a. (a.call.caller, a.call.nothing)) c.remove_by.ensures.busy)
