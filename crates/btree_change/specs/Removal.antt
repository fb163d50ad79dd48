-- What the removal of the member that begins at an address makes of its caller.
use Rattle.std.specs.Prelude.{ℕ, ◌≡◌, ◌<◌, ◌≤◌}
use Rattle.reg_model.specs.declared.answer.Removed.{Removed}
use Rattle.word_rule.specs.CallerData.{CallerData, surplus}
use Rattle.word_rule.specs.declared.log.Terms.{Terms}
use Rattle.word_rule.specs.Places.{CALL_CREDIT}
use Rattle.tree_descent.specs.Updates.{AnswersUpdate}
use Rattle.leaf_change.specs.Removal.{AnswersRightly, taken_by_removal}
use Rattle.btree_change.specs.Insertion.{call_begun}
use Rattle.reg_model.specs.declared.answer.Receipt.TheVariants as receipt
use Rattle.reg_model.specs.declared.answer.Removed.TheVariants as removed

-- A removal that was begun was answered, as the state is after all that is seen then.
pub record AnswersRemoval (t : Terms) (base : ℕ) (answer : Removed) (k k' : CallerData) : Type 0
  where
    pub right : AnswersRightly t base k k' answer
    pub call : AnswersUpdate (receipt.Deregister base answer) (taken_by_removal answer) k k'

-- A removal was begun, and answered. Spent where no update call is left, and then nothing was done.
abbrev pub Removes : Terms → ℕ → CallerData → CallerData → Removed → Type 0
Removes t base k k' removed.Spent = (k.left ≡ 0) × (k' ≡ k)
Removes t base k k' answer = (0 < k.left) × AnswersRemoval t base answer (call_begun k) k'

-- A begun removal was tried, and answered. Spent where the caller has fewer releases to spare than
-- a call may make, and then nothing was done.
abbrev pub TriesRemoval : Terms → ℕ → CallerData → CallerData → Removed → Type 0
TriesRemoval t base k k' removed.Spent = (surplus k < CALL_CREDIT) × (k' ≡ k)
TriesRemoval t base k k' answer = (CALL_CREDIT ≤ surplus k) × AnswersRemoval t base answer k k'
