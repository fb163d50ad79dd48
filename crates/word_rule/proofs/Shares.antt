-- What is given away of an amount: no more than it, something, and less than all where it is 2.
use Rattle.std.proofs.Common.{◌≡◌, ℕ, ◌/◌, ◌<◌, ◌≤◌, ◌^◌, Bool, true, false, refl, arith, nat_le, if◌then◌else◌}
use Rattle.std.proofs.lemmas.Bool.{leb-true}
use Rattle.word_rule.specs.Shares.{part_of}

pub part_within : (amount : ℕ) → part_of amount ≤ amount
part_within amount = elim (nat_le (2 ^ 40) amount) as (λ b. (if b then amount / 2 ^ 20 else amount / 2) ≤ amount) [ true ↦ omega arith | false ↦ omega arith ]

pub part_some : (amount : ℕ) → 2 ≤ amount → 0 < part_of amount
part_some amount enough = go (nat_le (2 ^ 40) amount) refl
  where
    go : (b : Bool) → nat_le (2 ^ 40) amount ≡ b → 0 < part_of amount
    go true e = let large = leb-true (2 ^ 40) amount e in rw e (omega (arith, large))
    go false e = rw e (omega (arith, enough))

pub part_less : (amount : ℕ) → 2 ≤ amount → part_of amount < amount
part_less amount enough = elim (nat_le (2 ^ 40) amount) as (λ b. (if b then amount / 2 ^ 20 else amount / 2) < amount) [ true ↦ omega (arith, enough) | false ↦ omega (arith, enough) ]
