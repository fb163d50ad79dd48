-- What stands beside the members in the slots.
use Rattle.std.specs.Prelude.{◌≡◌, ℕ, ◌-◌, ◌<◌, ◌/◌, ◌%◌, List, length, get_or, min}
use Rattle.reg_model.specs.declared.span.Member.{Member}
use Rattle.frame_cache.specs.Recent.{in_slot}

-- how many addresses are a block, and how many blocks have numbers of their own
abbrev pub BLOCK : ℕ
BLOCK = 16

abbrev pub NUMBERS : ℕ
NUMBERS = 65536

-- the number of an address's block
abbrev pub block_of : ℕ → ℕ
block_of pc = pc / BLOCK % NUMBERS

-- how many blocks later a member ends than it begins, at most the greatest number
abbrev pub blocks_reached : Member → ℕ
blocks_reached m = min (m.span.last / BLOCK - m.span.first / BLOCK) (NUMBERS - 1)

-- Each slot has the number of the block in which its member begins, and how many later that ends.
pub record AreMarked (blocks reaches : List ℕ) (members : List Member) : Type 0 where
  pub count : length members ≡ 8
  pub block : (i : ℕ) → i < 8 → get_or blocks i 0 ≡ block_of (in_slot members i).span.first
  pub reach : (i : ℕ) → i < 8 → get_or reaches i 0 ≡ blocks_reached (in_slot members i)
