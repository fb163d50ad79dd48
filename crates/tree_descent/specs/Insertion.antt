-- What an answer to an insertion says, under the lock of a leaf.
use Rattle.std.specs.Prelude.{◌≡◌, List, [], ◌∷◌, ◌++◌, length, ℕ}
use mathlib.Core.List.{IsPrefix}
use Rattle.reg_model.specs.History.{state_after}
use Rattle.reg_model.specs.State.{IsFree, IsLowestOverlap}
use Rattle.reg_model.specs.declared.answer.Inserted.{Inserted}
use Rattle.reg_model.specs.declared.answer.Update.{Update}
use Rattle.reg_model.specs.declared.span.Member.{Member}
use Rattle.word_rule.specs.CallerData.{CallerData}
use Rattle.word_rule.specs.Callers.{IsMemberOf, start}
use Rattle.word_rule.specs.declared.log.Terms.{Terms}
use Rattle.word_rule.specs.TreeRefusals.{WasFilledSince}
use Rattle.tree_descent.specs.Updates.{RefusesUpdate}
use Rattle.reg_model.specs.declared.answer.Inserted.TheVariants as inserted
use Rattle.reg_model.specs.declared.answer.Receipt.TheVariants as receipt
use Rattle.reg_model.specs.declared.answer.Update.TheVariants as update

-- The answer to an insertion is right, where `k` was its caller when the call was begun and k' is
-- it afterwards. Where it is Full, ten members were registered at some moment since the receipt
-- before it, and since the caller was split off; and twice as many as the nodes that no caller can
-- have out.
abbrev pub IsRightInsertion : Terms → Member → CallerData → CallerData → Inserted → Type 0
IsRightInsertion t m k k' (inserted.Done number) = (before : List Update)
    × (IsPrefix k.log.past before × (k'.log.past ≡ before ++ update.Register m ∷ [])
    × (number ≡ length k'.log.past))
IsRightInsertion t m k k' (inserted.Overlap other stamp) = IsPrefix k.log.past k'.log.past
    × (stamp ≡ length k'.log.past)
    × IsLowestOverlap m.span (state_after (start t) k'.log.past).registered other
    × IsMemberOf t other
IsRightInsertion t m k k' (inserted.Full stamp) = IsPrefix k.log.past k'.log.past
    × (stamp ≡ length k'.log.past)
    × IsFree m.span (state_after (start t) k'.log.past).registered
    × WasFilledSince k.log t k'.log.past (receipt.Register m (inserted.Full stamp))
IsRightInsertion t m k k' inserted.Spent = ⊥

-- what holds where the answer is Full
abbrev pub IfFull : Inserted → Type 0 → Type 0
IfFull (inserted.Full stamp) P = P
IfFull _ P = Unit {0}

-- what an accepted insertion takes of an allowance, and its release of a credit
abbrev pub taken_by : Inserted → ℕ
taken_by (inserted.Done number) = 1
taken_by _ = 0

-- A member was refused under the lock of a leaf.
pub record RefusesMember (t : Terms) (m : Member) (answer : Inserted) (k k' : CallerData) : Type 0
  where
    pub right : IsRightInsertion t m k k' answer
    pub none_taken : taken_by answer ≡ 0
    pub call : RefusesUpdate (receipt.Register m answer) k k'
