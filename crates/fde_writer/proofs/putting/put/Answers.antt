use Rattle.std.proofs.Common.{◌∷◌, [], arith, subst}
use Rattle.reg_model.specs.declared.answer.Inserted.{Inserted}
use Rattle.reg_model.specs.declared.answer.Receipt.TheVariants as receipt
use Rattle.reg_model.specs.declared.span.Member.{Member}
use Rattle.sole_writer.specs.Writers.{WriterAnswers, WriterData}
use Rattle.fde_writer.specs.Puttings.{IsLoadingFault, IsPutFault, Puts}
use Rattle.fde_writer.proofs.OneMember.{fault_after, full_fault, if_err, if_ok, one, put_after, put_registered, put_stopped, puts_more}
use Rattle.fde_writer.proofs.putting.put.Goals as goal

pub returns-in-Done-clause-put : goal.returns-in-Done-clause-put
returns-in-Done-clause-put c =
    puts_more (c.args.member.now ∷ []) 1 2 _ _ _ _ (omega arith) (put_registered c.args.member.now c.in-Done.number c.args.writer.now c.register.new.self
    (subst (λ (r : Inserted). WriterAnswers (receipt.Register c.args.member.now r) c.args.writer.now c.register.new.self) c.in-Done.is c.in-Ok.ensures.answers))

pub returns-in-Full-clause-fault : goal.returns-in-Full-clause-fault
returns-in-Full-clause-fault c =
    full_fault c.args.member.now _ c.args.writer.now c.register.new.self
    (subst (λ (r : Inserted). WriterAnswers (receipt.Register c.args.member.now r) c.args.writer.now c.register.new.self) c.in-Full.is c.in-Ok.ensures.answers)

pub returns-in-Overlap-clause-put : goal.returns-in-Overlap-clause-put
returns-in-Overlap-clause-put c =
    let m : Member = c.args.member.now in
    let w : WriterData = c.args.writer.now in
    let v : WriterData = c.register.new.self in
    let u : WriterData = c.load.new.writer in
    let a = subst (λ (r : Inserted). WriterAnswers (receipt.Register m r) w v) c.in-Overlap.is c.in-Ok.ensures.answers in
    if_ok (λ p. Puts (m ∷ []) 1 (record { member = m; half = p.half } ∷ []) (record { first = p.number; last = p.number }) v u)
    (λ p. Puts (m ∷ []) 2 (record { member = m; half = p.half } ∷ []) (record { first = p.number; last = p.number }) w u)
    (λ p is. put_after m _ _ w v u a p.half (one p.number) is) c.load.result c.load.ensures.put

pub returns-in-Overlap-clause-fault : goal.returns-in-Overlap-clause-fault
returns-in-Overlap-clause-fault c =
    let m : Member = c.args.member.now in
    let w : WriterData = c.args.writer.now in
    let v : WriterData = c.register.new.self in
    if_err (IsLoadingFault m v c.load.new.writer) (IsPutFault (m ∷ []) 2 w c.load.new.writer)
    (fault_after m _ _ w v c.load.new.writer (subst (λ (r : Inserted). WriterAnswers (receipt.Register m r) w v) c.in-Overlap.is c.in-Ok.ensures.answers)) c.load.result c.load.ensures.fault

pub returns-in-Err-clause-fault : goal.returns-in-Err-clause-fault
returns-in-Err-clause-fault c = put_stopped (c.args.member.now ∷ []) 2 _ _ _ c.in-Err.ensures.stops
