use Rattle.receipt_check.proofs.lists.Lists.is_right_insertion.Goals as goal

pub returns-in-Overlap : goal.returns-in-Overlap
returns-in-Overlap c = λ s shows. rw c.in-Overlap.is (c.is_lowest.ensures s.registered shows.registered)

pub returns-in-Full : goal.returns-in-Full
returns-in-Full c = λ s shows. rw c.in-Full.is (c.is_free.ensures s.registered shows.registered)
