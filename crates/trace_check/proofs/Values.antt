-- Operations leave numbers of 64 bits on a stack of such numbers, and so have a value of 64 bits.
use Rattle.std.proofs.Common.{◌≡◌, ℕ, suc, ◌+◌, ◌-◌, ◌*◌, ◌/◌, ◌%◌, ◌^◌, ◌<◌, List, [], ◌∷◌, get_or, drop, Bool, true, false, cond, ltb, nat_lt, pos, negsuc, Option, Some, None, IfSome, option_map, Result, Ok, Err, refl, sym, subst, arith}
use Rattle.std.specs.Prelude.{unsigned_abs}
use Rattle.std.specs.Int.{w64, cast_unsigned, int_shr}
use Rattle.std.specs.List.{AllByRecursion}
use Rattle.std.proofs.Math.Nat.{div-le_self}
use Rattle.std.proofs.lemmas.Bool.{ltb-false}
use Rattle.std.proofs.lemmas.Nat.{and_le_l, or_lt, xor_lt}
use Rattle.std.proofs.lemmas.List.Elements.{recursion_from_All}
use Rattle.byteorder.specs.Endian.{little_number}
use Rattle.eh_bytes.specs.Results.{◌and_then◌}
use Rattle.frame_expr.specs.declared.operation.Operation.{Operation}
use Rattle.frame_expr.specs.declared.operation.Operation.TheVariants.{Nop, Constant, Breg, Deref, Dup, Drop, Over, Pick, Swap, Rot, Unary, PlusUconst, Binary, Compare}
use Rattle.frame_expr.specs.declared.operation.Unary as unaries
use Rattle.frame_expr.specs.declared.operation.Unary.TheVariants.{Abs, Neg, Not}
use Rattle.frame_expr.specs.declared.operation.Binary as binaries
use Rattle.frame_expr.specs.declared.operation.Binary.TheVariants.{And, Or, Xor, Minus, Mul, Plus, Shl, Shr, Shra}
use Rattle.frame_expr.specs.declared.fault.NoBytes.{NoBytes}
use Rattle.frame_expr.specs.Regions.{RegionData, region_at, word_at, tail_in}
use Rattle.frame_expr.specs.Values.{unary, binary, compare, entry, with_loaded, stack_after, value_of, stack_of, IsValue}
use Rattle.hex.specs.Hex.{IsBytes}
use Rattle.trace_check.specs.Words.{AreWords, HoldBytes, HasWord}
use Rattle.trace_check.proofs.Bounded.{Below, below_drop, below_cons, found_such}
use Rattle.trace_check.proofs.Numbers.{fixed_below, mod_fits}
use Rattle.trace_check.proofs.Operands.{IsOperand, operations_fit}

-- ---- arithmetic

unary_fits : (u : unaries.Unary) (b : ℕ) → b < 2 ^ 64 → unary u b < 2 ^ 64
unary_fits Abs b less = absolute (ltb b (2 ^ 63)) refl
  where
    absolute : (t : Bool) → ltb b (2 ^ 63) ≡ t → unsigned_abs (cond t (pos b) (negsuc (2 ^ 64 - suc b))) < 2 ^ 64
    absolute true is = less
    absolute false is = let above = ltb-false b (2 ^ 63) is in omega (arith, above, less)
unary_fits Neg b less = mod_fits (2 ^ 64 - b)
unary_fits Not b less = omega arith

shifted : (t : Bool) (n : ℕ) → n < 2 ^ 64 → cond t n 0 < 2 ^ 64
shifted true n less = less
shifted false n less = omega arith

shift_fits : (t : Bool) (n m k : ℕ) → n < 2 ^ 64 → cast_unsigned w64 (int_shr (cond t (pos n) (negsuc m)) k) < 2 ^ 64
shift_fits true n m k less = let below = div-le_self n (2 ^ k) in omega (arith, less, below)
shift_fits false n m k less = omega arith

binary_fits : (o : binaries.Binary) (a b : ℕ) → a < 2 ^ 64 → b < 2 ^ 64 → binary o a b < 2 ^ 64
binary_fits And a b first second = let less = and_le_l a b in omega (arith, less, first)
binary_fits Or a b first second = or_lt 64 a b first second
binary_fits Xor a b first second = xor_lt 64 a b first second
binary_fits Minus a b first second = mod_fits (a + (2 ^ 64 - b))
binary_fits Mul a b first second = mod_fits (a * b)
binary_fits Plus a b first second = mod_fits (a + b)
binary_fits Shl a b first second = shifted (nat_lt b 64) ((a * 2 ^ b) % 2 ^ 64) (mod_fits (a * 2 ^ b))
binary_fits Shr a b first second = let less = div-le_self a (2 ^ b) in shifted (nat_lt b 64) (a / 2 ^ b) (omega (arith, less, first))
binary_fits Shra a b first second = shift_fits (ltb a (2 ^ 63)) a (2 ^ 64 - suc a) (cond (nat_lt b 64) b 63) first

comparison_fits : (t : Bool) → cond t 1 0 < 2 ^ 64
comparison_fits true = omega arith
comparison_fits false = omega arith

-- ---- recorded words

region_bytes : (n a : ℕ) (memory : List RegionData) → HoldBytes memory → IfSome (region_at n a memory) (λ region. Below 256 region.bytes)
unfolding region_at
region_bytes n a memory bytes = found_such (λ region. Below 256 region.bytes) _ memory (recursion_from_All (λ region. Below 256 region.bytes) memory bytes)

word_of : (a : ℕ) (o : Option RegionData) → IfSome o (λ region. Below 256 region.bytes) → IfSome (option_map (λ r. little_number 8 (tail_in a r)) o) (λ n. n < 2 ^ 64)
word_of a None all = tt
word_of a (Some r) all = let less = fixed_below 8 (tail_in a r) (below_drop 256 (omega arith) (a - r.address) r.bytes all) in omega (arith, less)

pub word_fits : (a : ℕ) (memory : List RegionData) → HoldBytes memory → IfSome (word_at a memory) (λ n. n < 2 ^ 64)
unfolding word_at
word_fits a memory bytes = word_of a (region_at 8 a memory) (region_bytes 8 a memory bytes)

-- ---- stacks

abbrev HasStack : Result (List ℕ) NoBytes → Type 0
HasStack (Ok s) = AreWords s
HasStack (Err fault) = fault.address < 2 ^ 64

module _ (columns : List ℕ) (memory : List RegionData) (words : AreWords columns) (bytes : HoldBytes memory) where
  onto : (n : ℕ) (s : List ℕ) → n < 2 ^ 64 → AreWords s → AreWords (n ∷ s)
  onto n s = below_cons (2 ^ 64) (omega arith) n s

  without : (k : ℕ) (s : List ℕ) → AreWords s → AreWords (drop k s)
  without k s = below_drop (2 ^ 64) (omega arith) k s

  loaded : (a : ℕ) (s : List ℕ) (o : Option ℕ) → a < 2 ^ 64 → AreWords s → IfSome o (λ n. n < 2 ^ 64) → HasStack (with_loaded a s o)
  loaded a s None less all word = less
  loaded a s (Some n) less all word = onto n s word all

  after_fits : (o : Operation) (s : List ℕ) → IsOperand o → AreWords s → HasStack (stack_after columns memory o s)
  after_fits Nop s fits all = all
  after_fits (Constant n) s fits all = onto n s fits all
  after_fits (Breg r n) s fits all = onto _ s (mod_fits (get_or columns r 0 + n)) all
  after_fits Deref s fits all = loaded (entry 0 s) (drop 1 s) (word_at (entry 0 s) memory) (all 0) (without 1 s all) (word_fits (entry 0 s) memory bytes)
  after_fits Dup s fits all = onto (entry 0 s) s (all 0) all
  after_fits Drop s fits all = without 1 s all
  after_fits Over s fits all = onto (entry 1 s) s (all 1) all
  after_fits (Pick n) s fits all = onto (entry n s) s (all n) all
  after_fits Swap s fits all = onto (entry 1 s) (entry 0 s ∷ drop 2 s) (all 1) (onto (entry 0 s) (drop 2 s) (all 0) (without 2 s all))
  after_fits Rot s fits all = onto (entry 1 s) (entry 2 s ∷ entry 0 s ∷ drop 3 s) (all 1) (onto (entry 2 s) (entry 0 s ∷ drop 3 s) (all 2) (onto (entry 0 s) (drop 3 s) (all 0) (without 3 s all)))
  after_fits (Unary u) s fits all = onto (unary u (entry 0 s)) (drop 1 s) (unary_fits u (entry 0 s) (all 0)) (without 1 s all)
  after_fits (PlusUconst n) s fits all = onto _ (drop 1 s) (mod_fits (entry 0 s + n)) (without 1 s all)
  after_fits (Binary k) s fits all = onto (binary k (entry 1 s) (entry 0 s)) (drop 2 s) (binary_fits k (entry 1 s) (entry 0 s) (all 1) (all 0)) (without 2 s all)
  after_fits (Compare k) s fits all = onto _ (drop 2 s) (comparison_fits (compare k (entry 1 s) (entry 0 s))) (without 2 s all)

  value_fits : (os : List Operation) (s : List ℕ) → AllByRecursion IsOperand os → AreWords s → HasWord (value_of columns memory os s)
  unfolding value_of
  value_fits [] s fits all = all 0
  value_fits (o ∷ os) s fits all = going_on (stack_after columns memory o s) (after_fits o s fits.0 all) (λ t. value_fits os t fits.1)
    where
      going_on : (r : Result (List ℕ) NoBytes) → HasStack r → ((t : List ℕ) → AreWords t → HasWord (value_of columns memory os t)) → HasWord (r and_then λ t. value_of columns memory os t)
      going_on (Ok t) is more = more t is
      going_on (Err fault) is more = is

  -- the value of an expression that bytes spell
  pub expression_fits : (depth : ℕ) (e : List ℕ) (start : Option ℕ) (value : Result ℕ NoBytes) → IsBytes e → AreWords (stack_of start) → IsValue depth e columns memory start value → HasWord value
  expression_fits depth e start value spelled first (os, (end, are, some), same) =
      subst HasWord (sym same) (value_fits os (stack_of start) (operations_fit 0 depth e os end spelled are) first)
