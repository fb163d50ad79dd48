use Rattle.std.proofs.Common.{subst, sym}
use Rattle.reg_model.specs.declared.answer.Half.{Half}
use Rattle.fde_reader.specs.Readers.{AsksHalf}
use Rattle.fde_reader.proofs.reader.try_half.Goals as goal

pub returns-in-Registered : goal.returns-in-Registered
returns-in-Registered c =
    subst (λ (half : Half). AsksHalf half c.args.registry.now.terms c.args.pc c.args.me.now c.try_registered.new.me c.try_registered.result) (sym c.in-Registered.is) c.try_registered.ensures.tries

pub returns-in-Loaded : goal.returns-in-Loaded
returns-in-Loaded c =
    subst (λ (half : Half). AsksHalf half c.args.registry.now.terms c.args.pc c.args.me.now c.try_loaded.new.me c.try_loaded.result) (sym c.in-Loaded.is) c.try_loaded.ensures.looks
