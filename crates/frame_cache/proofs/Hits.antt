-- A receipt of a hit tells what the half answers at its stamp, for each address of the member.
use Rattle.std.proofs.Common.{◌≡◌, ℕ, zero, suc, List, [], ◌∷◌, take, max, subst, arith, true, Some}
use Rattle.std.specs.List.{Contains}
use Rattle.std.specs.Bool.{IsTrue}
use Rattle.reg_model.specs.History.{after, IsHistory, state_after, state_at}
use Rattle.reg_model.specs.Query.{member_at, query}
use Rattle.reg_model.specs.Receipt.{AllHold, Holds, member_of, moment, stamp_of}
use Rattle.reg_model.specs.SpanData.{contains}
use Rattle.reg_model.specs.State.{State, AreDisjoint, IsLawful, objects}
use Rattle.reg_model.specs.declared.answer.Found.{Found}
use Rattle.reg_model.specs.declared.answer.Found.TheVariants.{Hit}
use Rattle.reg_model.specs.declared.answer.Half.{Half}
use Rattle.reg_model.specs.declared.answer.Half.TheVariants.{Loaded, Registered}
use Rattle.reg_model.specs.declared.answer.Receipt.{Receipt}
use Rattle.reg_model.specs.declared.answer.Receipt.TheVariants.{Query}
use Rattle.reg_model.specs.declared.answer.Update.{Update}
use Rattle.reg_model.specs.declared.span.Member.{Member}
use Rattle.word_rule.proofs.TreeRefusals.{found_there}

history_take : (s : State) (updates : List Update) (k : ℕ) → IsHistory s updates → IsHistory s (take k updates)
history_take s updates zero h = tt
history_take s [] (suc k) h = tt
history_take s (u ∷ updates) (suc k) h = (h.0, history_take (after u s) updates k h.1)

-- a receipt of a list that holds
receipt_holds : (start : State) (history : List Update) (nodes callers since : ℕ) (receipts : List Receipt) (r : Receipt) → AllHold start history nodes callers since receipts → Contains receipts r → (since : ℕ) × Holds start history nodes callers since r
receipt_holds start history nodes callers since [] r all (k, within, is) = absurd (omega (arith, within))
receipt_holds start history nodes callers since (x ∷ receipts) r all (zero, within, is) = (since, subst (Holds start history nodes callers since) is all.0)
receipt_holds start history nodes callers since (x ∷ receipts) r all (suc k, within, is) = receipt_holds start history nodes callers (max since (moment x)) receipts r all.1 (k, omega (arith, within), is)

-- what was answered is what the half answers at the stamp
pub answer_holds : (start : State) (history : List Update) (nodes callers since : ℕ) (receipts : List Receipt) (half : Half) (pc : ℕ) (found : Found) → AllHold start history nodes callers since receipts → Contains receipts (Query half pc found) → query half pc (state_at start history (stamp_of found)) ≡ member_of found
answer_holds start history nodes callers since receipts half pc found all there = (receipt_holds start history nodes callers since receipts (Query half pc found) all there).1.right

module _ (one : (members : List Member) (m : Member) (pc : ℕ) → AreDisjoint members → Contains members m → IsTrue (contains m.span pc) → member_at pc members ≡ Some m) where
  hit_again : (members : List Member) (m : Member) (pc other : ℕ) → AreDisjoint members → member_at other members ≡ Some m → contains m.span pc ≡ true → member_at pc members ≡ Some m
  hit_again members m pc other disjoint found here = one members m pc disjoint (found_there other members m found).0 here

  half_again : (half : Half) (s : State) (m : Member) (pc other : ℕ) → IsLawful s → query half other s ≡ Some m → contains m.span pc ≡ true → query half pc s ≡ Some m
  half_again Registered s m pc other lawful found here = hit_again s.registered m pc other lawful.registered found here
  half_again Loaded s m pc other lawful found here = hit_again (objects s) m pc other lawful.objects found here

  -- a hit is the hit of each address of its member
  module _ (lawful : (start : State) (history : List Update) → IsLawful start → IsHistory start history → IsLawful (state_after start history)) where
    pub hit_holds : (start : State) (history : List Update) (nodes callers since : ℕ) (receipts : List Receipt) (half : Half) (pc other stamp : ℕ) (m : Member) → IsLawful start → IsHistory start history → AllHold start history nodes callers since receipts → Contains receipts (Query half other (Hit m stamp)) → contains m.span pc ≡ true → query half pc (state_at start history stamp) ≡ Some m
    hit_holds start history nodes callers since receipts half pc other stamp m first is all there here =
        half_again half (state_at start history stamp) m pc other (lawful start (take stamp history) first (history_take start history stamp is)) (answer_holds start history nodes callers since receipts half other (Hit m stamp) all there) here
