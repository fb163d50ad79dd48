use Rattle.std.specs.Arc.{arc_value}
use Rattle.reg_model.specs.declared.answer.Receipt.TheVariants as receipt
use Rattle.sole_writer.proofs.Answering.{ComesTo, comes_to, loader_gives_up, loaded}
use Rattle.sole_writer.proofs.writer.Writer.load.Goals.{After-is_err-self-inside}
use Rattle.sole_writer.proofs.writer.Writer.load.Goals as goal

come : (c : After-is_err-self-inside) → ComesTo (receipt.Load c.args.member) c.load_by-answer.result c.args.self.now (record { words = arc_value c.self.inside.registry; me = c.confirm.new.me; stuck = c.is_err-self-inside.result })
come c =
    comes_to _ c.args.self.now c.self.invariant c.self.view_is c.requires.free c.requires.left _ c.deref.ensures _ _ _ c.begin.ensures.after c.begin.ensures.may c.confirm.ensures.same c.confirm.ensures.room c.confirm.ensures.whole (receipt.Load c.args.member) c.load_by-answer.result c.is_err-self-inside.result c.is_err-self-inside.ensures.value _ (λ idle enough. loaded _ _ _ idle enough c.args.member c.first-first.ensures.span) c.load_by-answer.ensures.answer _ _ (loader_gives_up _ _) c.load_by-answer.ensures.call.busy

pub invariant_of-self : goal.invariant_of-self
invariant_of-self c = (come (goal.at.invariant_of-self c).After-is_err-self-inside).writer

pub returns : goal.returns
returns c = let came = come (goal.at.returns c).After-is_err-self-inside in record { answers = came.answers; stops = came.stops }
