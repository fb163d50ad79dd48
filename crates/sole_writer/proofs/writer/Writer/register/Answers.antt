use Rattle.std.proofs.Common.{ap, ◌∙◌}
use Rattle.std.specs.Arc.{arc_value}
use Rattle.reg_model.specs.declared.answer.Receipt.TheVariants as receipt
use Rattle.sole_writer.specs.Writers.{begun_call}
use Rattle.sole_writer.proofs.Answering.{ComesTo, comes_to, full_found, registered}
use Rattle.sole_writer.proofs.writer.Writer.register.Goals.{After-is_err-self-inside}
use Rattle.sole_writer.proofs.writer.Writer.register.Goals as goal

come : (c : After-is_err-self-inside) → ComesTo (receipt.Register c.args.member) c.register_by-answer.result c.args.self.now (record { words = arc_value c.self.inside.registry; me = c.confirm.new.me; stuck = c.is_err-self-inside.result })
come c =
    comes_to _ c.args.self.now c.self.invariant c.self.view_is c.requires.free c.requires.left _ c.deref.ensures _ _ _ c.begin.ensures.after c.begin.ensures.may c.confirm.ensures.same c.confirm.ensures.room c.confirm.ensures.whole (receipt.Register c.args.member) c.register_by-answer.result c.is_err-self-inside.result c.is_err-self-inside.ensures.value _ (λ idle enough. registered _ _ _ idle enough c.args.member c.first-first.ensures.span) c.register_by-answer.ensures.answer _ _ (λ idle why gives_up. gives_up) c.register_by-answer.ensures.call.busy

pub invariant_of-self : goal.invariant_of-self
invariant_of-self c = (come (goal.at.invariant_of-self c).After-is_err-self-inside).writer

pub returns-clause-answers : goal.returns-clause-answers
returns-clause-answers c = (come (goal.at.returns-clause-answers c).After-is_err-self-inside).answers

pub returns-clause-stops : goal.returns-clause-stops
returns-clause-stops c = (come (goal.at.returns-clause-stops c).After-is_err-self-inside).stops

pub returns-clause-full : goal.returns-clause-full
returns-clause-full c = full_found _ c.args.member c.args.self.now _ _ _ (c.begin.ensures.after ∙ ap begun_call c.self.view_is) c.confirm.ensures.same c.register_by-answer.result c.register_by-answer.ensures.answer
