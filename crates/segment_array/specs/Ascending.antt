-- Members in ascending order.
use Rattle.std.specs.Prelude.{ℕ, ◌+◌, ◌≤◌, List, [], ◌∷◌}
use Rattle.reg_model.specs.declared.span.Member.{Member}

-- Members one after another from `low` on: each begins at or above `low`, and those after it begin
-- above its last address. So they ascend and are disjoint.
abbrev pub AscendFrom : ℕ → List Member → Type 0
AscendFrom low [] = Unit {0}
AscendFrom low (m ∷ members) =
    (low ≤ m.span.first) × (m.span.first ≤ m.span.last) × AscendFrom (m.span.last + 1) members
