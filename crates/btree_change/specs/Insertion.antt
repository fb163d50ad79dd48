-- What the insertion of a member makes of its caller.
use Rattle.std.specs.Prelude.{◌-◌, ◌≡◌, ◌<◌, ◌≤◌}
use Rattle.reg_model.specs.declared.answer.Inserted.{Inserted}
use Rattle.reg_model.specs.declared.span.Member.{Member}
use Rattle.word_rule.specs.CallerData.{CallerData, surplus}
use Rattle.word_rule.specs.declared.log.Terms.{Terms}
use Rattle.word_rule.specs.Places.{CALL_CREDIT}
use Rattle.tree_descent.specs.Loads.{FoundNoRoom}
use Rattle.tree_descent.specs.Updates.{AnswersUpdate}
use Rattle.tree_descent.specs.Insertion.{taken_by, IsRightInsertion, IfFull}
use Rattle.reg_model.specs.declared.answer.Receipt.TheVariants as receipt
use Rattle.reg_model.specs.declared.answer.Inserted.TheVariants as inserted

-- An insertion that was begun was answered, as the state is after all that is seen then. Full has
-- its cause among the loads of the call.
pub record AnswersInsertion (t : Terms) (m : Member) (answer : Inserted) (k k' : CallerData)
    : Type 0 where
  pub right : IsRightInsertion t m k k' answer
  pub cause : IfFull answer (FoundNoRoom m.span.first k k')
  pub call : AnswersUpdate (receipt.Register m answer) (taken_by answer) k k'

-- a caller that began an update call
abbrev pub call_begun : CallerData → CallerData
call_begun k = record k { left = k.left - 1 }

-- An insertion was begun, and answered. Spent where no update call is left, and then nothing was
-- done.
abbrev pub Inserts : Terms → Member → CallerData → CallerData → Inserted → Type 0
Inserts t m k k' inserted.Spent = (k.left ≡ 0) × (k' ≡ k)
Inserts t m k k' answer = (0 < k.left) × AnswersInsertion t m answer (call_begun k) k'

-- A begun insertion was tried, and answered. Spent where the caller has fewer releases to spare
-- than a call may make, and then nothing was done.
abbrev pub TriesInsertion : Terms → Member → CallerData → CallerData → Inserted → Type 0
TriesInsertion t m k k' inserted.Spent = (surplus k < CALL_CREDIT) × (k' ≡ k)
TriesInsertion t m k k' answer = (CALL_CREDIT ≤ surplus k) × AnswersInsertion t m answer k k'
