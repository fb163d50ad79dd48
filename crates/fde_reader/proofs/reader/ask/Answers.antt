use Rattle.fde_reader.proofs.Halves.{half_again, half_found, half_rest}
use Rattle.fde_reader.proofs.reader.ask.Goals as goal

pub returns-clause-found : goal.returns-clause-found
returns-clause-found c = half_found c.args.half c.args.registry.now.terms c.args.pc c.args.me.now c.try_half.new.me c.try_half.result c.try_half.ensures

pub returns-clause-again : goal.returns-clause-again
returns-clause-again c = half_again c.args.half c.args.registry.now.terms c.args.pc c.args.me.now c.try_half.new.me c.try_half.result c.try_half.ensures

pub returns-clause-rest : goal.returns-clause-rest
returns-clause-rest c = half_rest c.args.half c.args.registry.now.terms c.args.pc c.args.me.now c.try_half.new.me c.try_half.result c.try_half.ensures
