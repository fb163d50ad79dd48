-- What the replacement of the member that has a whole span makes of its caller.
use Rattle.std.specs.Prelude.{◌≡◌, ◌<◌, ◌≤◌}
use Rattle.reg_model.specs.declared.answer.Replaced.{Replaced}
use Rattle.reg_model.specs.declared.span.Member.{Member}
use Rattle.word_rule.specs.CallerData.{CallerData, surplus}
use Rattle.word_rule.specs.declared.log.Terms.{Terms}
use Rattle.word_rule.specs.Places.{CALL_CREDIT}
use Rattle.tree_descent.specs.Updates.{AnswersUpdate}
use Rattle.leaf_change.specs.Replacement.{taken_by_replacement, ReplacesRightly}
use Rattle.btree_change.specs.Insertion.{call_begun}
use Rattle.reg_model.specs.declared.answer.Receipt.TheVariants as receipt
use Rattle.reg_model.specs.declared.answer.Replaced.TheVariants as replaced

-- A replacement that was begun was answered, as the state is after all that is seen then.
pub record AnswersReplacement (t : Terms) (m : Member) (answer : Replaced) (k k' : CallerData)
    : Type 0 where
  pub right : ReplacesRightly t m k k' answer
  pub call : AnswersUpdate (receipt.Replace m answer) (taken_by_replacement answer) k k'

-- A replacement was begun, and answered. Spent where no update call is left, and then nothing was
-- done.
abbrev pub MakesReplacement : Terms → Member → CallerData → CallerData → Replaced → Type 0
MakesReplacement t m k k' replaced.Spent = (k.left ≡ 0) × (k' ≡ k)
MakesReplacement t m k k' answer = (0 < k.left) × AnswersReplacement t m answer (call_begun k) k'

-- A begun replacement was tried, and answered. Spent where the caller has fewer releases to spare
-- than a call may make, and then nothing was done.
abbrev pub TriesReplacement : Terms → Member → CallerData → CallerData → Replaced → Type 0
TriesReplacement t m k k' replaced.Spent = (surplus k < CALL_CREDIT) × (k' ≡ k)
TriesReplacement t m k k' answer = (CALL_CREDIT ≤ surplus k) × AnswersReplacement t m answer k k'
