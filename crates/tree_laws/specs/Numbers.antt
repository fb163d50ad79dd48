-- Lists of node numbers.
use Rattle.std.specs.Prelude.{ℕ, ◌+◌, Bool, List, [], ◌∷◌, ◌==◌, nat_lt, if◌then◌else◌}

-- 1 for true, 0 for false
abbrev pub once : Bool → ℕ
once b = if b then 1 else 0

-- how often a number stands in a list
abbrev pub times : ℕ → List ℕ → ℕ
times n [] = 0
times n (x ∷ xs) = once (n == x) + times n xs

-- whether it stands there
abbrev pub is_among : List ℕ → ℕ → Bool
is_among xs n = nat_lt 0 (times n xs)
