-- Bytes spell numbers below a power of 256, and each operation gives a number of 64 bits.
use Rattle.std.proofs.Common.{ℕ, zero, suc, ◌%◌, ◌^◌, ◌<◌, List, arith}
use Rattle.std.proofs.Math.Nat.{mod-lt, pow-succ'}
use Rattle.byteorder.specs.Endian.{little_from, little_number}
use Rattle.hex.specs.Hex.{IsBytes}

little_below : (n i : ℕ) (xs : List ℕ) → IsBytes xs → little_from i n xs < 256 ^ n
little_below zero i xs bytes = omega arith
little_below (suc n) i xs bytes =
    let here = bytes i in
    let rest = little_below n (suc i) xs bytes in
    let power = pow-succ' 256 n in
    omega arith

pub fixed_below : (n : ℕ) (xs : List ℕ) → IsBytes xs → little_number n xs < 256 ^ n
fixed_below n xs bytes = little_below n 0 xs bytes

pub mod_fits : (n : ℕ) → n % 2 ^ 64 < 2 ^ 64
mod_fits n = mod-lt n (omega arith)
