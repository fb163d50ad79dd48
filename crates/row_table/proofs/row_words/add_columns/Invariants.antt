use Rattle.std.proofs.Common.{◌≡◌, ◌++◌, length}
use Rattle.row_table.specs.Numbering.{columns_words}
use Rattle.row_table.proofs.row_words.add_columns.Given as goal

-- the words so far, and those of the columns that are left
abbrev pub invariant-loop-left : goal.invariant-loop-left
invariant-loop-left l = l.words.items ++ columns_words l.left ≡ l.fn.words.items ++ columns_words l.columns

abbrev pub decreases-loop-left : goal.decreases-loop-left
decreases-loop-left l = length l.left
