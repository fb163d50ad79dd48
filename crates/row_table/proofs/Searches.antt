-- Searching by quarters, and at the end one by one, among starts that ascend.
use Rattle.std.proofs.Common.{◌≡◌, ℕ, ◌+◌, ◌-◌, ◌*◌, ◌<◌, ◌≤◌, List, get_or, cond, Bool, true, false, nat_le, refl, sym, subst, arith, inl, inr, add-zero}
use Rattle.std.proofs.lemmas.Bool.{leb-true, leb-false, cases_lt}

-- each start is above those before it
abbrev pub IsAscending : List ℕ → ℕ → ℕ → Type 0
IsAscending starts from end = (j k : ℕ) → from ≤ j → j < k → k < end → get_or starts j 0 < get_or starts k 0

-- the last start up to the address is one of these
pub record IsLeft (starts : List ℕ) (pc from end base size : ℕ) : Type 0 where
  pub from_on : from ≤ base
  pub some : 0 < size
  pub inside : base + size ≤ end
  pub reached : get_or starts base 0 ≤ pc
  pub past : (k : ℕ) → base + size ≤ k → k < end → pc < get_or starts k 0

above : (starts : List ℕ) (pc from end j k : ℕ) → IsAscending starts from end → from ≤ j → j ≤ k → k < end → pc < get_or starts j 0 → pc < get_or starts k 0
above starts pc from end j k up ge le lt h =
    elim (cases_lt j k) [
      | inl less ↦ let more = up j k ge less lt in omega (arith, more)
      | inr more ↦ let same : k ≡ j = omega arith in rw same h
    ]

last_tried : (starts : List ℕ) (pc from end base size : ℕ) (b : Bool) → IsAscending starts from end → IsLeft starts pc from end base size → 1 < size → nat_le (get_or starts (base + 1) 0) pc ≡ b → IsLeft starts pc from end (base + cond b 1 0) (size - 1)
last_tried starts pc from end base size true up left more e = record {
  from_on = omega (arith, left.from_on);
  some = omega arith;
  inside = omega (arith, left.inside);
  reached = leb-true _ _ e;
  past = λ k ge lt. left.past k (omega arith) lt;
}
last_tried starts pc from end base size false up left more e =
    let inside = left.inside in
    let from_on = left.from_on in record {
      from_on = omega arith;
      some = omega arith;
      inside = omega arith;
      reached = rw (add-zero base) left.reached;
      past = λ k ge lt. above starts pc from end (base + 1) k up (omega arith) (omega arith) lt (leb-false _ _ e);
    }

pub last_left : (starts : List ℕ) (pc from end base size : ℕ) → IsAscending starts from end → IsLeft starts pc from end base size → 1 < size → IsLeft starts pc from end (base + cond (nat_le (get_or starts (base + 1) 0) pc) 1 0) (size - 1)
last_left starts pc from end base size up left more = last_tried starts pc from end base size (nat_le (get_or starts (base + 1) 0) pc) up left more refl

pub all_left : (starts : List ℕ) (pc from end : ℕ) → from < end → get_or starts from 0 ≤ pc → IsLeft starts pc from end from (end - from)
all_left starts pc from end some reached = record { from_on = omega arith; some = omega arith; inside = omega arith; reached = reached; past = λ k ge lt. absurd (omega arith) }

-- ---- a quarter at a time

-- what is left from a start that is reached
upper_left : (starts : List ℕ) (pc from end base size j : ℕ) → IsLeft starts pc from end base size → j < size → get_or starts (base + j) 0 ≤ pc → IsLeft starts pc from end (base + j) (size - j)
upper_left starts pc from end base size j left less reached = record {
  from_on = omega (arith, left.from_on);
  some = omega arith;
  inside = omega (arith, left.inside);
  reached = reached;
  past = λ k ge lt. left.past k (omega arith) lt;
}

-- what is left before a start that isn't reached, and maybe more
lower_left : (starts : List ℕ) (pc from end base size j more : ℕ) → IsAscending starts from end → IsLeft starts pc from end base size → 0 < j → j < size → pc < get_or starts (base + j) 0 → j ≤ more → more ≤ size → IsLeft starts pc from end base more
lower_left starts pc from end base size j more up left some less beyond le within =
    let inside = left.inside in
    let from_on = left.from_on in record {
      from_on = from_on;
      some = omega arith;
      inside = omega arith;
      reached = left.reached;
      past = λ k ge lt. above starts pc from end (base + j) k up (omega arith) (omega arith) lt beyond;
    }

-- of two starts the later one isn't reached where the earlier isn't
later : (starts : List ℕ) (pc from end i j : ℕ) → IsAscending starts from end → from ≤ i → i < j → j < end → pc < get_or starts i 0 → nat_le (get_or starts j 0) pc ≡ true → ⊥
later starts pc from end i j up ge lt within beyond e = let more = up i j ge lt within in let down = leb-true _ _ e in omega (arith, more, down)

quartered : (starts : List ℕ) (pc from end base size q : ℕ) (x y z : Bool) → IsAscending starts from end → IsLeft starts pc from end base size → 0 < q → 4 * q ≤ size
    → nat_le (get_or starts (base + q) 0) pc ≡ x → nat_le (get_or starts (base + 2 * q) 0) pc ≡ y → nat_le (get_or starts (base + 3 * q) 0) pc ≡ z
    → (k : ℕ) → k ≡ base + (cond x 1 0 + cond y 1 0 + cond z 1 0) * q → IsLeft starts pc from end k (size - 3 * q)
quartered starts pc from end base size q true true true up left some le ex ey ez k is =
    let at : k ≡ base + 3 * q = omega arith in
    subst (λ n. IsLeft starts pc from end n (size - 3 * q)) (sym at) (upper_left starts pc from end base size (3 * q) left (omega arith) (leb-true _ _ ez))
quartered starts pc from end base size q true true false up left some le ex ey ez k is =
    let at : k ≡ base + 2 * q = omega arith in
    let upper = upper_left starts pc from end base size (2 * q) left (omega arith) (leb-true _ _ ey) in
    let place : base + 3 * q ≡ base + 2 * q + q = omega arith in
    let beyond = rw place at (leb-false _ _ ez) in
    subst (λ n. IsLeft starts pc from end n (size - 3 * q)) (sym at) (lower_left starts pc from end (base + 2 * q) (size - 2 * q) q (size - 3 * q) up upper some (omega arith) beyond (omega arith) (omega arith))
quartered starts pc from end base size q true false false up left some le ex ey ez k is =
    let at : k ≡ base + q = omega arith in
    let upper = upper_left starts pc from end base size q left (omega arith) (leb-true _ _ ex) in
    let place : base + 2 * q ≡ base + q + q = omega arith in
    let beyond = rw place at (leb-false _ _ ey) in
    subst (λ n. IsLeft starts pc from end n (size - 3 * q)) (sym at) (lower_left starts pc from end (base + q) (size - q) q (size - 3 * q) up upper some (omega arith) beyond (omega arith) (omega arith))
quartered starts pc from end base size q false false false up left some le ex ey ez k is =
    let at : k ≡ base = omega arith in
    subst (λ n. IsLeft starts pc from end n (size - 3 * q)) (sym at) (lower_left starts pc from end base size q (size - 3 * q) up left some (omega arith) (leb-false _ _ ex) (omega arith) (omega arith))
quartered starts pc from end base size q false true z up left some le ex ey ez k is = absurd (let f = left.from_on in let w = left.inside in later starts pc from end (base + q) (base + 2 * q) up (omega arith) (omega arith) (omega arith) (leb-false _ _ ex) ey)
quartered starts pc from end base size q false false true up left some le ex ey ez k is = absurd (let f = left.from_on in let w = left.inside in later starts pc from end (base + q) (base + 3 * q) up (omega arith) (omega arith) (omega arith) (leb-false _ _ ex) ez)
quartered starts pc from end base size q true false true up left some le ex ey ez k is = absurd (let f = left.from_on in let w = left.inside in later starts pc from end (base + 2 * q) (base + 3 * q) up (omega arith) (omega arith) (omega arith) (leb-false _ _ ey) ez)

-- of the starts a quarter apart, as many quarters are passed by as are reached
pub quarter_left : (starts : List ℕ) (pc from end base size q : ℕ) → IsAscending starts from end → IsLeft starts pc from end base size → 0 < q → 4 * q ≤ size
    → IsLeft starts pc from end (base + (cond (nat_le (get_or starts (base + q) 0) pc) 1 0 + cond (nat_le (get_or starts (base + 2 * q) 0) pc) 1 0 + cond (nat_le (get_or starts (base + 3 * q) 0) pc) 1 0) * q) (size - 3 * q)
quarter_left starts pc from end base size q up left some le =
    quartered starts pc from end base size q (nat_le (get_or starts (base + q) 0) pc) (nat_le (get_or starts (base + 2 * q) 0) pc) (nat_le (get_or starts (base + 3 * q) 0) pc) up left some le refl refl refl _ refl
