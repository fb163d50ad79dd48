use Rattle.std.proofs.Common.{◌≡◌, ◌+◌, ◌<◌, length, map, drop}
use Rattle.std.specs.Prelude.{All}
use Rattle.row_table.specs.Courses.{state_in}
use Rattle.row_table.specs.Transitions.{IsLonger}
use Rattle.row_table.proofs.course.copy_kept.Given as goal

-- those from `left` on are copied
abbrev pub invariant-copies : goal.invariant-copies
invariant-copies l = record {
  longer : IsLonger l.fn.rows.items l.rows.items;
  count : length l.rows.items + l.left ≡ length l.fn.rows.items + length l.kept;
  copied : length l.copied + l.left ≡ length l.kept;
  within : All (λ number. number < length l.rows.items) l.copied;
  told : map (state_in l.rows.items) l.copied ≡ drop l.left (map (state_in l.states) l.kept);
}

abbrev pub decreases-copies : goal.decreases-copies
decreases-copies l = l.left
