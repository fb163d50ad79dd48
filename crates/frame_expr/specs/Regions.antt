-- Recorded memory: regions, each an address and the bytes from there on, and the numbers in them.
use Rattle.std.specs.Prelude.{◌≡◌, ℕ, ◌+◌, ◌-◌, ◌^◌, ◌<◌, ◌≤◌, List, [], ◌∷◌, length, drop, Bool}
use Rattle.std.specs.Prelude.{Option, nat_le, ◌&&◌}
use Rattle.std.specs.List.{find}
use Rattle.std.specs.Option.{option_map}
use Rattle.byteorder.specs.Endian.{little_number}
use Rattle.frame_expr.specs.declared.memory.RegionFault.{RegionFault}
use Rattle.frame_expr.specs.declared.memory.RegionFault.TheVariants.{Empty, End, Order, NoMemory}

pub record RegionData : Type 0 where
  pub address : ℕ
  pub bytes : List ℕ

-- the first address after a region
abbrev pub end : RegionData → ℕ
end r = r.address + length r.bytes

-- the first address after all regions, where they ascend
abbrev pub regions_end : List RegionData → ℕ
regions_end [] = 0
regions_end (r ∷ []) = end r
regions_end (r ∷ q ∷ rs) = regions_end (q ∷ rs)

-- The regions stand at this address or above, each with a byte at least, each after the one before,
-- and none reaches past the last address, 2 ^ 64 - 2.
abbrev pub AreFrom : ℕ → List RegionData → Type 0
AreFrom low [] = Unit {0}
AreFrom low (r ∷ rs) =
    (low ≤ r.address) × (0 < length r.bytes) × (end r < 2 ^ 64) × AreFrom (end r) rs

abbrev pub AreRegions : List RegionData → Type 0
AreRegions rs = AreFrom 0 rs

-- the region holds all of the next n bytes from the address on
abbrev pub holds_bytes : ℕ → ℕ → RegionData → Bool
holds_bytes n a r = nat_le r.address a && nat_le (a + n) (end r)

-- the region that does, or nothing where none does
unfoldable pub region_at : ℕ → ℕ → List RegionData → Option RegionData
region_at n a rs = find (holds_bytes n a) rs

-- a region's bytes from the address on
abbrev pub tail_in : ℕ → RegionData → List ℕ
tail_in a r = drop (a - r.address) r.bytes

-- the eight bytes at the address, the lowest first, in the region that holds all eight
unfoldable pub word_at : ℕ → List RegionData → Option ℕ
word_at a rs = option_map (λ r. little_number 8 (tail_in a r)) (region_at 8 a rs)

-- the bytes from the address to the end of the region that holds it
unfoldable pub tail_at : ℕ → List RegionData → Option (List ℕ)
tail_at a rs = option_map (tail_in a) (region_at 1 a rs)

-- the region can be recorded above the others
abbrev pub Accepts : List RegionData → ℕ → List ℕ → Type 0
Accepts rs a bytes = (0 < length bytes) × (a + length bytes < 2 ^ 64) × (regions_end rs ≤ a)

-- Why it can't: the first of these that holds. Want of memory may come in any other case.
abbrev pub IsRefusedRegion : List RegionData → ℕ → List ℕ → RegionFault → Type 0
IsRefusedRegion rs a bytes Empty = length bytes ≡ 0
IsRefusedRegion rs a bytes End = (0 < length bytes) × (2 ^ 64 ≤ a + length bytes)
IsRefusedRegion rs a bytes Order =
    (0 < length bytes) × (a + length bytes < 2 ^ 64) × (a < regions_end rs)
IsRefusedRegion rs a bytes NoMemory = Accepts rs a bytes
