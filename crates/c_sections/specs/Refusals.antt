-- Why there is no section, as C is told: in numbers.
use Rattle.std.specs.Prelude.{◌≡◌, ◌⊎◌, ℕ, ◌<◌, ◌≤◌, ◌^◌, List, length}
use Rattle.frame_parse.specs.declared.fault.FrameFault.{FrameFault}
use Rattle.frame_parse.specs.declared.fault.FrameFault.TheVariants as faults
use Rattle.frame_parse.specs.Sections.{IsRefused}
use Rattle.c_sections.specs.declared.refusal.FramesRefusal.{FramesRefusal}
use Rattle.c_sections.specs.declared.refusal.LoadFault.{LoadFault}
use Rattle.c_sections.specs.declared.refusal.LoadFault.TheVariants.{Long, Frames}

-- a refusal by its kind, the first byte of its record, its place, and the byte or column refused
abbrev pub refusal : ℕ → ℕ → ℕ → ℕ → FramesRefusal
refusal kind start at detail =
    record { kind = kind; start = start; at = at; detail = detail }

-- a section's first refusal
abbrev pub refusal_told : FrameFault → FramesRefusal
refusal_told faults.NoMemory = refusal 0 0 0 0
refusal_told (faults.Short start at) = refusal 1 start at 0
refusal_told (faults.TooWide start at) = refusal 2 start at 0
refusal_told (faults.Encoding start at byte) = refusal 3 start at byte
refusal_told (faults.NoCie start at) = refusal 4 start at 0
refusal_told (faults.Version start at byte) = refusal 5 start at byte
refusal_told (faults.Augmentation start at) = refusal 6 start at 0
refusal_told (faults.Column start at column) = refusal 7 start at column
refusal_told (faults.Range start at) = refusal 8 start at 0
refusal_told (faults.Opcode start at byte) = refusal 9 start at byte
refusal_told (faults.Location start at) = refusal 10 start at 0
refusal_told (faults.Remember start at) = refusal 11 start at 0
refusal_told (faults.Operation start at byte) = refusal 12 start at byte
refusal_told (faults.Depth start at) = refusal 13 start at 0
refusal_told (faults.CfaRule start at) = refusal 14 start at 0

-- the same, or the refusal of a section that is too long for numbers of four bytes
abbrev pub load_told : LoadFault → FramesRefusal
load_told Long = refusal 15 0 0 0
load_told (Frames f) = refusal_told f

-- Why there is no section of these bytes: they are too many, or memory ran out, or it is the first
-- refusal.
abbrev pub IsLoadFault : ℕ → List ℕ → LoadFault → Type 0
IsLoadFault address bytes Long = 2 ^ 32 ≤ length bytes
IsLoadFault address bytes (Frames f) =
    (length bytes < 2 ^ 32) × ((f ≡ faults.NoMemory) ⊎ IsRefused address bytes f)

abbrev pub IsToldRefusal : ℕ → List ℕ → FramesRefusal → Type 0
IsToldRefusal address bytes told =
    (f : LoadFault) × IsLoadFault address bytes f × (told ≡ load_told f)
