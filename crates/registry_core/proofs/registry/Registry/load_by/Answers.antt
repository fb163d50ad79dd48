use Rattle.registry_core.proofs.Begun.{load_tried}
use Rattle.registry_core.proofs.registry.Registry.load_by.Goals as goal

pub returns-clause-answer : goal.returns-clause-answer
returns-clause-answer g c =
    rw (← c.self.view_is) (load_tried c.self.inside.words.terms _ _ _ _ (c.may_try.ensures.0 c.if-not-may_try.false) c.load_by.ensures.answer)
