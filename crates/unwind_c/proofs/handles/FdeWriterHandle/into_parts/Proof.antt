-- `into_parts` moves the pointer, and what it owns goes with it.
use prog.Wp.{Tables}
use contract.Running.{tables, tables_of}
use denote.Triple.Spec.{triple_of}
use denote.Triple.Table.{entered}
use Rattle.c_handle.proofs.HandleSteps.IntoParts.{meets}
use Rattle.unwind_c.proofs.HandleTypes.{fde_writer_handle}
use Rattle.unwind_c.specs.contracts.handles.FdeWriterHandle.into_parts as F
use Rattle.unwind_c.specs.contracts.handles.FdeWriterHandle.into_parts.Key.{name as #self}
use Rattle.unwind_c.proofs.handles.FdeWriterHandle.into_parts.Statement as stated
use Rattle.unwind_c.proofs.handles.FdeWriterHandle.into_parts.Code as code

pub into_parts_spec : {M : Type 1} → stated.statement M
unfolding tables_of
into_parts_spec 𝓤 𝓛 𝓜 𝓡 wired =
    let 𝓣 : Tables 𝓤 𝓛.H = tables_of 𝓤 𝓛.H 𝓜 (tables 𝓤 𝓛.H 𝓜 𝓡 𝓡.env) in
    entered 𝓤 𝓛.H (triple_of 𝓛 F.signature (F.spec 𝓛 𝓜.mem 𝓡.returns)) 𝓣.C 𝓣.Λ #self code.function (code.unfolded 𝓤 𝓛.H 𝓜 𝓡 wired) (meets fde_writer_handle 𝓛 𝓣)
