-- Ranges of addresses in order of their first ones, each with how far those up to it reach.
use Rattle.std.specs.Prelude.{◌≡◌, ℕ, ◌<◌, ◌≤◌, ◌+◌, List, slice_get, Some, IfSome}
use Rattle.unwind_c.specs.declared.ranges.UnwindRange.{UnwindRange}

-- an address is one of a range
abbrev pub IsInRange : ℕ → UnwindRange → Type 0
IsInRange pc r = (r.first ≤ pc) × (pc < r.first + r.size)

-- it is one of the range at a place, or of none there
abbrev pub IsInRangeAt : List UnwindRange → ℕ → ℕ → Type 0
IsInRangeAt rs pc place = IfSome (slice_get rs place) (IsInRange pc)

abbrev pub IsOutsideAt : List UnwindRange → ℕ → ℕ → Type 0
IsOutsideAt rs pc place = IfSome (slice_get rs place) (λ r. ¬ IsInRange pc r)

-- Ranges are in order of their first addresses, and none up to one ends behind what that reaches.
pub record AreSearchable (rs : List UnwindRange) : Type 0 where
  pub ordered : (i j : ℕ) (a b : UnwindRange) → i ≤ j → slice_get rs i ≡ Some a
      → slice_get rs j ≡ Some b → a.first ≤ b.first
  pub reaches : (i j : ℕ) (a b : UnwindRange) → i ≤ j → slice_get rs i ≡ Some a
      → slice_get rs j ≡ Some b → a.first + a.size ≤ b.reach
