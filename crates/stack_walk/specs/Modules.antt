-- Modules of code, and what comes of a frame by the module of its address.
use Rattle.std.specs.Prelude.{◌≡◌, ℕ, ◌+◌, ◌<◌, ◌≤◌, List, [], ◌∷◌, Bool, Option, Some, None}
use Rattle.std.specs.Prelude.{nat_le, nat_lt, ◌&&◌}
use Rattle.std.specs.List.{find}
use Rattle.frame_expr.specs.Regions.{RegionData}
use Rattle.frame_parse.specs.Sections.{SectionData, first_cover}
use Rattle.sound_records.specs.declared.refused.RefusedRecord.{RefusedRecord}
use Rattle.sound_records.specs.Sections.{claim_among}
use Rattle.unwind_step.specs.Sources.{IsStepIn}
use Rattle.stack_walk.specs.declared.list.ModuleFault.{ModuleFault}
use Rattle.stack_walk.specs.declared.list.ModuleFault.TheVariants.{NotAbove, NoMemory}
use Rattle.stack_walk.specs.declared.modules.ModuleStep.{ModuleStep}
use Rattle.stack_walk.specs.declared.modules.ModuleStep.TheVariants.{NoModule, NoFde, Refused}
use Rattle.stack_walk.specs.declared.modules.ModuleStep.TheVariants.{Found}

-- code from an address on, the section that tells its frames, and the records that were refused in
-- it, in order of bytes
pub record ModuleData : Type 0 where
  pub first : ℕ
  pub size : ℕ
  pub section : SectionData
  pub refused : List RefusedRecord

-- the first address after a module
abbrev pub module_end : ModuleData → ℕ
module_end m = m.first + m.size

-- the first address after all modules, where they ascend
abbrev pub modules_end : List ModuleData → ℕ
modules_end [] = 0
modules_end (m ∷ []) = module_end m
modules_end (m ∷ n ∷ ms) = modules_end (n ∷ ms)

-- the modules stand at this address or above, each after the one before
abbrev pub AreModulesFrom : ℕ → List ModuleData → Type 0
AreModulesFrom low [] = Unit {0}
AreModulesFrom low (m ∷ ms) = (low ≤ m.first) × AreModulesFrom (module_end m) ms

-- why a module isn't added: the first cause, and want of memory only where there is none
abbrev pub IsModuleFault : List ModuleData → ℕ → ModuleFault → Type 0
IsModuleFault ms first NotAbove = first < modules_end ms
IsModuleFault ms first NoMemory = modules_end ms ≤ first

abbrev pub has_code_at : ℕ → ModuleData → Bool
has_code_at pc m = nat_le m.first pc && nat_lt pc (module_end m)

-- the module of an address
unfoldable pub module_at : ℕ → List ModuleData → Option ModuleData
module_at pc ms = find (has_code_at pc) ms

-- the refused record of a module that answers at an address
abbrev pub module_claim : ℕ → ModuleData → Option RefusedRecord
module_claim pc m = claim_among pc m.section.fdes m.refused

-- what comes of a frame's registers by the module of the address at which they are looked up
abbrev pub IsModuleStep
    : List ModuleData → ℕ → List ℕ → List RegionData → ModuleStep → Type 0
IsModuleStep ms look old memory NoModule = module_at look ms ≡ None
IsModuleStep ms look old memory NoFde =
    (m : ModuleData) × (module_at look ms ≡ Some m) × (module_claim look m ≡ None)
    × (first_cover look m.section.fdes ≡ None)
IsModuleStep ms look old memory Refused =
    (m : ModuleData) × (module_at look ms ≡ Some m)
    × ((x : RefusedRecord) × (module_claim look m ≡ Some x))
IsModuleStep ms look old memory (Found step) =
    (m : ModuleData) × (module_at look ms ≡ Some m) × (module_claim look m ≡ None)
    × IsStepIn m.section look old memory step.outcome step.signal
