use Rattle.std.proofs.Common.{◌∷◌, [], subst, sym}
use Rattle.reg_model.specs.declared.answer.Loading.{Loading}
use Rattle.reg_model.specs.declared.answer.Receipt.TheVariants as receipt
use Rattle.sole_writer.specs.Writers.{WriterAnswers}
use Rattle.fde_writer.specs.Runs.{IsNoRoom}
use Rattle.fde_writer.proofs.OneMember.{load_refused, put_loaded, put_stopped}
use Rattle.fde_writer.proofs.putting.load.Goals as goal

pub returns-in-Done-clause-put : goal.returns-in-Done-clause-put
returns-in-Done-clause-put c =
    put_loaded c.args.member.now c.in-Done.number c.args.writer.now c.load.new.self
    (subst (λ (r : Loading). WriterAnswers (receipt.Load c.args.member.now r) c.args.writer.now c.load.new.self) c.in-Done.is c.in-Ok.ensures.answers)

pub returns-in-Overlap-clause-fault : goal.returns-in-Overlap-clause-fault
returns-in-Overlap-clause-fault c =
    load_refused c.args.member.now c.in-Ok.loading c.args.writer.now c.load.new.self (subst IsNoRoom (sym c.in-Overlap.is) tt) c.in-Ok.ensures.answers

pub returns-in-LoadFull-clause-fault : goal.returns-in-LoadFull-clause-fault
returns-in-LoadFull-clause-fault c =
    load_refused c.args.member.now c.in-Ok.loading c.args.writer.now c.load.new.self (subst IsNoRoom (sym c.in-LoadFull.is) tt) c.in-Ok.ensures.answers

pub returns-in-Err-clause-fault : goal.returns-in-Err-clause-fault
returns-in-Err-clause-fault c = put_stopped (c.args.member.now ∷ []) 1 _ _ _ c.in-Err.ensures.stops
