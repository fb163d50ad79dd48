-- What taking a member out of a held leaf, and finding none, make of a caller.
use Rattle.std.specs.Prelude.{ℕ, true, ◌≡◌}
use Rattle.reg_model.specs.declared.span.Member.{Member}
use Rattle.reg_model.specs.declared.answer.Removed.{Removed}
use Rattle.word_rule.specs.CallerData.{CallerData}
use Rattle.word_rule.specs.declared.log.Terms.{Terms}
use Rattle.tree_descent.specs.Updates.{AcceptsUpdate, RefusesUpdate}
use Rattle.leaf_change.specs.Removal.{AnswersRightly, taken_by_removal}
use Rattle.reg_model.specs.declared.answer.Receipt.TheVariants as receipt
use Rattle.reg_model.specs.declared.answer.Removed.TheVariants as removed

-- A member was taken out of a held leaf and committed, with this number: it is the registered one
-- that began at the base.
pub record TakesMember (t : Terms) (base : ℕ) (leaf number : ℕ) (m : Member)
    (k k' : CallerData) : Type 0 where
  pub right : AnswersRightly t base k k' (removed.Done number m)
  pub call : AcceptsUpdate (receipt.Deregister base (removed.Done number m)) leaf true k k'

-- A removal was refused under the lock of a leaf.
pub record RefusesBase (t : Terms) (base : ℕ) (answer : Removed) (k k' : CallerData) : Type 0 where
  pub right : AnswersRightly t base k k' answer
  pub none_taken : taken_by_removal answer ≡ 0
  pub call : RefusesUpdate (receipt.Deregister base answer) k k'
