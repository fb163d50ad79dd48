-- Columns restored one after another.
use Rattle.std.proofs.Common.{◌≢◌, ℕ, ◌+◌, ◌<◌, List, length, Ok, arith, below_more}
use Rattle.std.proofs.lemmas.List.{get_or-set_other, get_or-set_same}
use Rattle.std.proofs.Math.ListN.{set}
use Rattle.frame_expr.specs.Regions.{RegionData}
use Rattle.frame_rows.specs.Rules.{RowData}
use Rattle.unwind_step.specs.Rules.{IsRestored}
use Rattle.unwind_step.specs.NextFrame.{AreRestored, rule_in}

-- one more column
pub AreRestored-more : (i : ℕ) (row : RowData) (cfa : ℕ) (old : List ℕ) (memory : List RegionData) (new : List ℕ) (n : ℕ) → i < length new → AreRestored i row cfa old memory new → IsRestored i (rule_in row i) cfa old memory (Ok n) → AreRestored (i + 1) row cfa old memory (set new i n)
AreRestored-more i row cfa old memory new n within before here =
    let Here : ℕ → ℕ → Type 0 = λ r x. IsRestored r (rule_in row r) cfa old memory (Ok x) in
    below_more _ _ (λ r below. let ne : r ≢ i = omega arith in rw get_or-set_other (before r below)) (rw get_or-set_same here)
