use Rattle.receipt_check.proofs.lists.Lists.is_right.Goals as goal

pub returns-in-Register : goal.returns-in-Register
returns-in-Register c = λ s shows. rw c.in-Register.is (c.is_right_insertion.ensures s shows)

pub returns-in-Deregister : goal.returns-in-Deregister
returns-in-Deregister c = λ s shows. rw c.in-Deregister.is (c.is_right_removal.ensures s.registered shows.registered)

pub returns-in-Replace : goal.returns-in-Replace
returns-in-Replace c = λ s shows. rw c.in-Replace.is (c.is_right_replacement.ensures s.registered shows.registered)

pub returns-in-Load : goal.returns-in-Load
returns-in-Load c = λ s shows. rw c.in-Load.is (c.is_right_load.ensures s shows)

pub returns-in-Unload : goal.returns-in-Unload
returns-in-Unload c = λ s shows. rw c.in-Unload.is (c.is_right_removal-in-Unload.ensures s.loaded shows.loaded)
