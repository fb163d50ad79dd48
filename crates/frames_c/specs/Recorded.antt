-- Recorded memory, as C is told.
use Rattle.std.specs.Prelude.{◌≡◌, ℕ, zero, suc, List, [], ◌∷◌, ◌++◌}
use Rattle.frame_expr.specs.Regions.{RegionData, Accepts, IsRefusedRegion}
use Rattle.frame_expr.specs.declared.memory.RegionFault.{RegionFault}
use Rattle.frame_expr.specs.declared.memory.RegionFault.TheVariants.{Empty, End, Order, NoMemory}

-- why a region isn't recorded
abbrev pub region_told : RegionFault → ℕ
region_told Empty = 1
region_told End = 2
region_told Order = 3
region_told NoMemory = 4

-- the region is recorded above the others, or refused and they stay as they were
abbrev pub AnswersRegion : List RegionData → ℕ → List ℕ → ℕ → List RegionData → Type 0
AnswersRegion old address bytes zero new =
    Accepts old address bytes × (new ≡ old ++ record { address = address; bytes = bytes } ∷ [])
AnswersRegion old address bytes (suc n) new =
    (f : RegionFault) × IsRefusedRegion old address bytes f × (region_told f ≡ suc n) × (new ≡ old)
