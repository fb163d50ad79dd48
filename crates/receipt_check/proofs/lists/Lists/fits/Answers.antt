use Rattle.std.proofs.Common.{◌<◌, length}
use Rattle.reg_model.specs.State.{IsFree, objects}
use Rattle.receipt_check.proofs.KeptMembers.{and_then, and_not}
use Rattle.receipt_check.proofs.lists.Lists.fits.Goals as goal

pub returns-in-Register : goal.returns-in-Register
returns-in-Register c = λ s shows. rw c.in-Register.is (c.is_free.ensures s.registered shows.registered)

pub returns-then-is_free_of_objects : goal.returns-then-is_free_of_objects
returns-then-is_free_of_objects c = λ s shows. rw c.in-Load.is (and_then (IsFree c.in-Load.member.span (objects s)) (length s.loaded < s.loads) _ _ c.if-is_free_of_objects.true (c.is_free_of_objects.ensures s shows) (c.has_room.ensures s shows))

pub returns-else-is_free_of_objects : goal.returns-else-is_free_of_objects
returns-else-is_free_of_objects c = λ s shows. rw c.in-Load.is (and_not (IsFree c.in-Load.member.span (objects s)) (length s.loaded < s.loads) _ c.if-is_free_of_objects.false (c.is_free_of_objects.ensures s shows))
