use Rattle.std.proofs.Common.{◌∙◌, refl, sym, ap, Ok, Err}
use Rattle.unwind_c.specs.Limits.{library_told}
use Rattle.unwind_c.specs.declared.limits.NewFault.{NewFault}
use Rattle.unwind_c.proofs.writers.unwind_c_new.Goals as goal

pub returns-in-Ok : goal.returns-in-Ok
returns-in-Ok c = (Ok c.in-Ok.writer.value, c.in-Ok.ensures, refl, c.of.ensures)

pub returns-in-Err-NoMemory : goal.returns-in-Err-NoMemory
returns-in-Err-NoMemory c =
    let e = c.in-Err-NoMemory in (Err e.field-0, e.ensures, ap (λ (f : NewFault). library_told (Err f)) (sym e.field-0-is), c.requires.out)

pub returns-in-Err-Size : goal.returns-in-Err-Size
returns-in-Err-Size c =
    let e = c.in-Err-Size in (Err e.field-0, e.ensures, c.told.ensures ∙ ap (λ (f : NewFault). library_told (Err f)) (sym e.field-0-is), c.requires.out)
