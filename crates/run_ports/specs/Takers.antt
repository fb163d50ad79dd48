-- What came of a source to one who takes its bytes.
use Rattle.std.specs.Prelude.{◌≡◌, ℕ, ◌+◌, ◌≤◌, List, length, Option, IfSome}
use Rattle.run_ports.specs.Ports.{Hands}
use Rattle.run_ports.specs.declared.reading.Taken.{Taken}
use Rattle.run_ports.specs.declared.reading.Taken.TheVariants.{Whole, TooLong}

-- the bytes that came are all that a source had, where it tells them, or one more than the limit
abbrev pub AreAllOrTooMany : ℕ → Option (List ℕ) → List ℕ → Taken → Type 0
AreAllOrTooMany limit had bytes Whole = (length bytes ≤ limit) × IfSome had (λ all. all ≡ bytes)
AreAllOrTooMany limit had bytes TooLong = length bytes ≡ limit + 1

-- The bytes that a source handed out came to the taker, and no others.
pub record Came (limit : ℕ) (has_taken : List ℕ → Type 0) (old new : Option (List ℕ))
    (amount : Taken) : Type 0 where
  pub bytes : List ℕ
  pub taken : has_taken bytes
  pub handed : Hands old new bytes
  pub limited : AreAllOrTooMany limit old bytes amount
