-- The handles, as c_handle speaks of one.
use mathlib.Core.Path.{refl}
use Rattle.c_handle.proofs.HandleSteps.Form.{HandleType, handles_to}
use Rattle.c_handle.specs.contracts.shared.Shared as Shared
use Rattle.c_handle.proofs.shared.Shared.TheLaws as shared
use Rattle.frames_c.specs.contracts.share.LoadedSection as LoadedSection
use Rattle.frames_c.proofs.share.LoadedSection.TheLaws as loaded
use Rattle.frames_c.specs.contracts.handles.SectionHandle as SectionHandle
use Rattle.frames_c.specs.contracts.row_share.RowsOfSection as RowsOfSection
use Rattle.frames_c.proofs.row_share.RowsOfSection.TheLaws as rows
use Rattle.frames_c.specs.contracts.handles.RowTableHandle as RowTableHandle
use Rattle.frames_c.specs.contracts.modules.LoadedModules as LoadedModules
use Rattle.frames_c.proofs.modules.LoadedModules.TheLaws as modules
use Rattle.frames_c.specs.contracts.handles.ModulesHandle as ModulesHandle
use Rattle.frame_expr.specs.contracts.memory.Memory as Memory
use Rattle.frame_expr.proofs.memory.Memory.TheLaws as memory
use Rattle.frames_c.specs.contracts.handles.MemoryHandle as MemoryHandle

abbrev pub section_handle : HandleType
section_handle = handles_to (Shared.the_row LoadedSection.the_row) (shared.the_row_laws LoadedSection.the_row loaded.the_row_laws) SectionHandle.the_type (λ h. (h.at, h.held)) (λ at held. record { at = at; held = held }) (λ at held. refl)

abbrev pub row_table_handle : HandleType
row_table_handle = handles_to (Shared.the_row RowsOfSection.the_row) (shared.the_row_laws RowsOfSection.the_row rows.the_row_laws) RowTableHandle.the_type (λ h. (h.at, h.held)) (λ at held. record { at = at; held = held }) (λ at held. refl)

abbrev pub modules_handle : HandleType
modules_handle = handles_to LoadedModules.the_row modules.the_row_laws ModulesHandle.the_type (λ h. (h.at, h.held)) (λ at held. record { at = at; held = held }) (λ at held. refl)

abbrev pub memory_handle : HandleType
memory_handle = handles_to Memory.the_row memory.the_row_laws MemoryHandle.the_type (λ h. (h.at, h.held)) (λ at held. record { at = at; held = held }) (λ at held. refl)
