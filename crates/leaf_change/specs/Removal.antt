-- What an answer to the removal of the member that begins at an address says.
use Rattle.std.specs.Prelude.{◌≡◌, ℕ, List, [], ◌∷◌, ◌++◌, length, IsNone, Some}
use mathlib.Core.List.{IsPrefix}
use Rattle.reg_model.specs.History.{state_after}
use Rattle.reg_model.specs.State.{at_base}
use Rattle.reg_model.specs.declared.answer.Removed.{Removed}
use Rattle.reg_model.specs.declared.answer.Update.{Update}
use Rattle.word_rule.specs.CallerData.{CallerData}
use Rattle.word_rule.specs.Callers.{IsMemberOf, start}
use Rattle.word_rule.specs.declared.log.Terms.{Terms}
use Rattle.reg_model.specs.declared.answer.Removed.TheVariants as removed
use Rattle.reg_model.specs.declared.answer.Update.TheVariants as update

-- The answer to a removal is right, where `k` was its caller when the call was begun and k' is it
-- afterwards.
abbrev pub AnswersRightly : Terms → ℕ → CallerData → CallerData → Removed → Type 0
AnswersRightly t base k k' (removed.Done number m) = (before : List Update)
    × (IsPrefix k.log.past before × (k'.log.past ≡ before ++ update.Deregister base ∷ [])
    × (number ≡ length k'.log.past)
    × (at_base base (state_after (start t) before).registered ≡ Some m)
    × IsMemberOf t m)
AnswersRightly t base k k' (removed.NotFound stamp) = IsPrefix k.log.past k'.log.past
    × (stamp ≡ length k'.log.past)
    × IsNone (at_base base (state_after (start t) k'.log.past).registered)
AnswersRightly t base k k' removed.Spent = ⊥

-- what an accepted removal takes of an allowance
abbrev pub taken_by_removal : Removed → ℕ
taken_by_removal (removed.Done number m) = 1
taken_by_removal _ = 0
