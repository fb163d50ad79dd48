use Rattle.std.proofs.Common.{refl, sym, ap, Ok, Err}
use Rattle.registry_client.specs.Splits.{split_told}
use Rattle.registry_client.specs.declared.splits.SplitFault.{SplitFault}
use Rattle.registry_c.proofs.clients.split.Goals as goal

pub returns-in-Ok : goal.returns-in-Ok
returns-in-Ok c = (Ok c.in-Ok.other.value, c.in-Ok.ensures, refl, c.of.ensures)

pub returns-in-Err-NoMemory : goal.returns-in-Err-NoMemory
returns-in-Err-NoMemory c =
    let e = c.in-Err-NoMemory in (Err e.field-0, e.ensures, ap (λ (f : SplitFault). split_told (Err f)) (sym e.field-0-is), c.requires)

pub returns-in-Err-Few : goal.returns-in-Err-Few
returns-in-Err-Few c =
    let e = c.in-Err-Few in (Err e.field-0, e.ensures, ap (λ (f : SplitFault). split_told (Err f)) (sym e.field-0-is), c.requires)
