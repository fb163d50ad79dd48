use Rattle.registry_core.proofs.Begun.{insertion_tried, tree_tried}
use Rattle.registry_core.proofs.registry.Registry.register_by.Goals as goal

pub returns-clause-answer : goal.returns-clause-answer
returns-clause-answer g c =
    rw (← c.self.view_is) (insertion_tried _ _ _ _ _ (c.may_try.ensures.0 c.if-not-may_try.false) c.insert_by.ensures.answer)

pub returns-clause-call : goal.returns-clause-call
returns-clause-call g c =
    rw (← c.self.view_is) (tree_tried c.self.inside.words _ c.args.me.now c.insert_by.new.me c.insert_by.result _ c.requires.caller.idle c.requires.begun (c.may_try.ensures.0 c.if-not-may_try.false) c.insert_by.ensures.terms c.insert_by.ensures.answer (λ answer a. (a.call.caller, a.call.nothing)) c.insert_by.ensures.busy)
