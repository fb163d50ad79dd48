use Rattle.std.proofs.Common.{List, Vec, Global, [], length, ℕ, ◌≡◌, ◌≤◌, sym, subst, arith}
use Rattle.frame_rows.specs.declared.placed_row.PlacedRow.{PlacedRow}
use Rattle.row_table.specs.Numbering.{IsIndexOf}
use Rattle.row_table.proofs.Numbers.{no_index}
use Rattle.row_table.proofs.distinct_rows.DistinctRows.new.Goals as goal

abbrev words_in : Vec ℕ Global → List ℕ
words_in key = key.items

pub invariant_of-result : goal.invariant_of-result
invariant_of-result c =
    let none : c.new.result.items ≡ [] = c.new.ensures.items in
    subst (λ (l : List PlacedRow). IsIndexOf (Vec ℕ Global) words_in c.new-2.result l × (length l ≤ 65536)) (sym none) (no_index words_in c.new-2.result c.new-2.ensures.empty, omega arith)
