-- What the replacement of a member in its leaf, and finding none with its span, make of a caller.
use Rattle.std.specs.Prelude.{◌≡◌, ◌<◌, List, [], ◌∷◌, ◌++◌, length, IsNone, IsSomeAnd, ℕ, Bool}
use mathlib.Core.List.{IsPrefix}
use Rattle.reg_model.specs.History.{state_after}
use Rattle.reg_model.specs.State.{at_span}
use Rattle.reg_model.specs.declared.answer.Replaced.{Replaced}
use Rattle.reg_model.specs.declared.answer.Update.{Update}
use Rattle.reg_model.specs.declared.span.Member.{Member}
use Rattle.word_rule.specs.CallerData.{CallerData}
use Rattle.word_rule.specs.Callers.{start}
use Rattle.word_rule.specs.declared.log.Terms.{Terms}
use Rattle.tree_descent.specs.Updates.{AcceptsUpdate, RefusesUpdate}
use Rattle.reg_model.specs.declared.answer.Replaced.TheVariants as replaced
use Rattle.reg_model.specs.declared.answer.Update.TheVariants as update
use Rattle.reg_model.specs.declared.answer.Receipt.TheVariants as receipt

-- The answer to a replacement is right, where `k` was its caller when the call was begun and k' is
-- it afterwards. The payload is the one that the member with this whole span had before.
abbrev pub ReplacesRightly : Terms → Member → CallerData → CallerData → Replaced → Type 0
ReplacesRightly t m k k' (replaced.Done number payload) = (before : List Update)
    × (IsPrefix k.log.past before × (k'.log.past ≡ before ++ update.Replace m ∷ [])
    × (number ≡ length k'.log.past)
    × IsSomeAnd (at_span m.span (state_after (start t) before).registered)
    (λ old. old.payload ≡ payload)
    × (payload < t.payloads))
ReplacesRightly t m k k' (replaced.NotFound stamp) = IsPrefix k.log.past k'.log.past
    × (stamp ≡ length k'.log.past)
    × IsNone (at_span m.span (state_after (start t) k'.log.past).registered)
ReplacesRightly t m k k' replaced.Spent = ⊥

-- what an accepted replacement takes of an allowance
abbrev pub taken_by_replacement : Replaced → ℕ
taken_by_replacement (replaced.Done number payload) = 1
taken_by_replacement _ = 0

-- A member took the place of the one with its whole span, in a held leaf, and was committed with
-- this number. That one had this payload.
pub record ReplacesMember (t : Terms) (m : Member) (leaf payload number : ℕ) (changed : Bool)
    (k k' : CallerData) : Type 0 where
  pub right : ReplacesRightly t m k k' (replaced.Done number payload)
  pub call : AcceptsUpdate (receipt.Replace m (replaced.Done number payload)) leaf changed k k'

-- A replacement was refused under the lock of a leaf.
pub record RefusesReplacement (t : Terms) (m : Member) (answer : Replaced) (k k' : CallerData)
    : Type 0 where
  pub right : ReplacesRightly t m k k' answer
  pub none_taken : taken_by_replacement answer ≡ 0
  pub call : RefusesUpdate (receipt.Replace m answer) k k'
