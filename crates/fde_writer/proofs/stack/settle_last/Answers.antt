use Rattle.std.proofs.Common.{arith}
use Rattle.fde_writer.proofs.StackEnds.{settled_last}
use Rattle.fde_writer.proofs.stack.settle_last.Goals as goal

pub returns : goal.returns
returns c = λ earlier x e.
    let told = c.len-latest.ensures in
    let long = c.args.all.now.ok.0 in
    settled_last c.args.all.now.items c.index_mut.result.now c.settle.new.self c.len-latest.result c.args.places (omega (arith, told, long)) c.index_mut.ensures.value c.settle.ensures earlier x e
