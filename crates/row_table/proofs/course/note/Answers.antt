use Rattle.std.proofs.Common.{ℕ, List, Option, sym, subst, arith}
use Rattle.row_table.specs.Courses.{HaveRowNumbers}
use Rattle.row_table.proofs.CourseLaws.{none_more, one_noted}
use Rattle.row_table.proofs.course.note.Goals as goal

pub unknown-preserved : goal.unknown-preserved
unknown-preserved c = λ distinct states are.
    subst (λ (l : List (Option ℕ)). HaveRowNumbers distinct states l) (sym c.in_ok-push.ensures.items) (none_more distinct states c.unknown.numbers.items (c.unknown.invariant distinct states are))

pub returns-in_err-push : goal.returns-in_err-push
returns-in_err-push c = λ distinct states are there is.
    subst (λ (l : List (Option ℕ)). HaveRowNumbers distinct states l) (sym c.in_err-push.ensures.items) (c.unknown.invariant distinct states are)

pub returns : goal.returns
returns c = λ distinct states are there is.
    one_noted distinct states c.unknown.numbers.items c.args.state c.args.number (c.unknown.invariant distinct states are) (omega (arith, c.unknown-test.false, c.len.ensures, c.unknown.numbers.ok)) there is
