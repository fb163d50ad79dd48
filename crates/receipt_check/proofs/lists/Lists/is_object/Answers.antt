use Rattle.receipt_check.proofs.Halves.{listed_in_front, listed_behind}
use Rattle.receipt_check.proofs.lists.Lists.is_object.Goals as goal

pub returns-then-is_listed : goal.returns-then-is_listed
returns-then-is_listed c = λ s shows. listed_in_front s.fixed s.loaded c.args.member.now _ c.if-is_listed.true (c.is_listed.ensures s.fixed shows.fixed)

pub returns-else-is_listed : goal.returns-else-is_listed
returns-else-is_listed c = λ s shows. listed_behind s.fixed s.loaded c.args.member.now _ _ c.if-is_listed.false (c.is_listed.ensures s.fixed shows.fixed) (c.is_listed-else-is_listed.ensures s.loaded shows.loaded)
