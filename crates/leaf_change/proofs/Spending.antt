-- A change of a leaf and the release behind it: what both take of their caller.
use Rattle.std.proofs.Common.{ℕ, ◌+◌, ◌≤◌, List, ◌∙◌, arith, Bool, [], ◌∷◌, ap, ◌<◌, ◌≡◌, length, sym, subst}
use mathlib.Core.List.{IsPrefix}
use Rattle.reg_model.specs.declared.answer.Receipt.{Receipt}
use Rattle.reg_model.specs.declared.answer.Inserted.{Inserted}
use Rattle.reg_model.specs.declared.span.Member.{Member}
use Rattle.reg_model.specs.History.{state_after}
use Rattle.reg_model.specs.State.{IsFree, IsLowestOverlap}
use Rattle.word_rule.specs.CallerData.{CallerData, surplus, due}
use Rattle.word_rule.proofs.CallersKept.{kept_caller_on}
use Rattle.word_rule.specs.Callers.{start}
use Rattle.word_rule.specs.TreeRefusals.{WasFilledSince}
use Rattle.word_rule.specs.declared.log.Terms.{Terms}
use Rattle.tree_descent.specs.Releases.{Spends}
use Rattle.tree_descent.specs.Updates.{AcceptsUpdate}
use Rattle.tree_descent.specs.Insertion.{IsRightInsertion}
use Rattle.leaf_change.specs.Insertion.{SpendsCall}
use Rattle.reg_model.specs.declared.answer.Inserted.TheVariants as inserted
use Rattle.reg_model.specs.declared.answer.Receipt.TheVariants as receipt

-- or the second
pub spends_before : (a b c : ℕ) (more : List Receipt) (taken : ℕ) (k l m : CallerData) → a + b ≤ c → SpendsCall more taken a k l → Spends b l m → SpendsCall more taken c k m
spends_before a b c more taken k l m sum p q = record {
  caller = kept_caller_on p.caller q.calls.caller;
  receipts = q.calls.receipts ∙ p.receipts;
  allowance = q.allowance ∙ p.allowance;
  credit = let x = p.credit in let y = q.credit in omega (arith, x, y, sum);
}

-- or accepted
pub accepted_call : (r : Receipt) (leaf : ℕ) (changed : Bool) (k l : CallerData) → AcceptsUpdate r leaf changed k l → SpendsCall (r ∷ []) 1 0 k l
accepted_call r leaf changed k l p = record {
  caller = p.caller;
  receipts = p.receipts;
  allowance = ap (λ b. b.allowance) p.budget;
  credit = let e = ap (λ b. b.credit) p.budget in omega (arith, e);
}

-- the releases that are left over
pub surplus_after : (more : List Receipt) (taken most : ℕ) (k l : CallerData) (need : ℕ) → SpendsCall more taken most k l → most + need ≤ surplus k → need ≤ surplus l
surplus_after more taken most k l need s enough =
    let e = s.caller.left in let c = s.credit in omega (arith, e, c, enough)

pub due_after : (a : ℕ) (k l : CallerData) → Spends a k l → 0 < due k → 0 < due l
due_after a k l s some = let x = s.allowance in let y = s.calls.caller.left in omega (arith, x, y, some)

pub right_before : (t : Terms) (m : Member) (answer : Inserted) (k l n : CallerData) → n.log.past ≡ l.log.past → IsRightInsertion t m k l answer → IsRightInsertion t m k n answer
right_before t m (inserted.Done number) k l n past r = (r.0, (r.1.0, past ∙ r.1.1, r.1.2 ∙ ap length (sym past)))
right_before t m (inserted.Overlap other stamp) k l n past r = (subst (IsPrefix k.log.past) (sym past) r.0, r.1 ∙ ap length (sym past), subst (λ p. IsLowestOverlap m.span (state_after (start t) p).registered other) (sym past) r.2, r.3)
right_before t m (inserted.Full stamp) k l n past r = (subst (IsPrefix k.log.past) (sym past) r.0, r.1 ∙ ap length (sym past), subst (λ p. IsFree m.span (state_after (start t) p).registered) (sym past) r.2, subst (λ p. WasFilledSince k.log t p (receipt.Register m (inserted.Full stamp))) (sym past) r.3)
right_before t m inserted.Spent k l n past r = absurd r
