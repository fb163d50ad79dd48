-- What sources hand out, what sinks take, and when a count of faults rose.
use Rattle.std.specs.Prelude.{◌≡◌, ◌⊎◌, ℕ, ◌-◌, ◌^◌, ◌<◌, ◌≤◌, List, ◌++◌, length, Option, Some}
use Rattle.std.specs.Prelude.{None, MatchOption}
use Rattle.std.specs.Option.{option_map}

-- a count rose, or stands at its last value
abbrev pub Rose : ℕ → ℕ → Type 0
Rose old new = (old < new) ⊎ (new ≡ 2 ^ 64 - 1)

-- a source that tells its bytes handed out these
abbrev pub Hands : Option (List ℕ) → Option (List ℕ) → List ℕ → Type 0
Hands old new bytes =
    MatchOption old (Unit {0}) (λ had. MatchOption new ⊥ (λ left. had ≡ bytes ++ left))

-- a source that tells its bytes handed out at most so many
abbrev pub HandsUpTo : ℕ → Option (List ℕ) → Option (List ℕ) → Type 0
HandsUpTo most old new = (bytes : List ℕ) × (length bytes ≤ most) × Hands old new bytes

-- a sink that tells its bytes gained these; one that tells none goes on so
abbrev pub Gains : Option (List ℕ) → Option (List ℕ) → List ℕ → Type 0
Gains old new bytes = MatchOption old (new ≡ None) (λ held. new ≡ Some (held ++ bytes))

-- a sink gained a front of these bytes, or all of them
abbrev pub GainsPart : Option (List ℕ) → Option (List ℕ) → List ℕ → Type 0
GainsPart old new bytes =
    (front : List ℕ) × (rest : List ℕ) × (bytes ≡ front ++ rest) × Gains old new front

-- what a sink holds, where it tells that, with these bytes behind it
abbrev pub with_bytes : Option (List ℕ) → List ℕ → Option (List ℕ)
with_bytes held bytes = option_map (λ had. had ++ bytes) held
