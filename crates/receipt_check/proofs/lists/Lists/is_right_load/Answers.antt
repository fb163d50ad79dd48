use Rattle.std.proofs.Common.{◌≡◌, length}
use Rattle.reg_model.specs.State.{IsFree, objects}
use Rattle.receipt_check.proofs.KeptMembers.{and_then, and_not}
use Rattle.receipt_check.proofs.lists.Lists.is_right_load.Goals as goal

pub returns-in-Overlap : goal.returns-in-Overlap
returns-in-Overlap c = λ s shows. rw c.in-Overlap.is (c.is_lowest_object.ensures s shows)

pub returns-then-is_free_of_objects : goal.returns-then-is_free_of_objects
returns-then-is_free_of_objects c = λ s shows. rw c.in-LoadFull.is (and_then (IsFree c.args.member.now.span (objects s)) (length s.loaded ≡ s.loads) _ _ c.if-is_free_of_objects.true (c.is_free_of_objects.ensures s shows) (c.is_full.ensures s shows))

pub returns-else-is_free_of_objects : goal.returns-else-is_free_of_objects
returns-else-is_free_of_objects c = λ s shows. rw c.in-LoadFull.is (and_not (IsFree c.args.member.now.span (objects s)) (length s.loaded ≡ s.loads) _ c.if-is_free_of_objects.false (c.is_free_of_objects.ensures s shows))
