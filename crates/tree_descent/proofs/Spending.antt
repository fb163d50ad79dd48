-- SplitNodes of an update call, one after another: what they take of their caller.
use Rattle.std.proofs.Common.{ap, arith, refl, ℕ, ◌+◌, ◌≤◌, ◌∙◌, List, sym, subst}
use mathlib.Core.List.{IsPrefix}
use Rattle.reg_model.specs.Receipt.{WasFilled}
use Rattle.reg_model.specs.declared.answer.Receipt.{Receipt}
use Rattle.reg_model.specs.declared.answer.Update.{Update}
use Rattle.reg_model.specs.declared.answer.Inserted.{Inserted}
use Rattle.reg_model.specs.declared.span.Member.{Member}
use Rattle.word_rule.specs.CallerData.{CallerData, surplus, KeepsCalls}
use Rattle.word_rule.proofs.CallersKept.{kept_calls_on, kept_calls}
use Rattle.word_rule.specs.Observations.{last_moment}
use Rattle.word_rule.specs.Callers.{IsAlone, start}
use Rattle.word_rule.specs.TreeRefusals.{WasFilledSince}
use Rattle.word_rule.specs.declared.log.Receipts.{Receipts}
use Rattle.word_rule.specs.declared.log.Terms.{Terms}
use Rattle.tree_descent.specs.Paths.{StepsOnNodes}
use Rattle.tree_descent.specs.Releases.{Spends, with_release_less}
use Rattle.tree_descent.proofs.NodeSteps.{calls_so}
use Rattle.tree_descent.proofs.Loading.{keeps_then, keeps_all}
use Rattle.tree_descent.specs.Insertion.{IsRightInsertion}
use Rattle.reg_model.specs.declared.answer.Inserted.TheVariants as inserted
use Rattle.reg_model.specs.declared.answer.Receipt.TheVariants as receipt

-- nothing was let go of
pub spends_same : (k l : CallerData) → StepsOnNodes k l → Spends 0 k l
spends_same k l s = record {
  calls = s.calls;
  allowance = ap (λ b. b.allowance) s.budget;
  credit = (let e = ap (λ b. b.credit) s.budget in omega (arith, e));
  loads = s.loads;
}

-- one node was
pub spends_one : (k l : CallerData) → StepsOnNodes (with_release_less k) l → Spends 1 k l
spends_one k l s = record {
  calls = kept_calls_on (calls_so k refl refl) s.calls;
  allowance = ap (λ b. b.allowance) s.budget;
  credit = (let e = ap (λ b. b.credit) s.budget in omega (arith, e));
  loads = s.loads;
}

pub steps_after : (a b c : ℕ) (k l m : CallerData) → a + b ≤ c → Spends a k l → Spends b l m → Spends c k m
steps_after a b c k l m sum p q = record {
  calls = kept_calls_on p.calls q.calls;
  allowance = q.allowance ∙ p.allowance;
  credit = (let x = p.credit in let y = q.credit in omega (arith, x, y, sum));
  loads = keeps_then k l m p.loads q.loads;
}

pub spends_all : (n : ℕ) (k : CallerData) → Spends n k k
spends_all n k = record { calls = kept_calls k; allowance = refl; credit = omega arith; loads = keeps_all k }

pub more_spent : (a b : ℕ) (k l : CallerData) → a ≤ b → Spends a k l → Spends b k l
more_spent a b k l less s = steps_after a 0 b k l l (omega (arith, less)) s (spends_all 0 l)

pub surplus_steps : (a : ℕ) (k l : CallerData) (need : ℕ) → Spends a k l → a + need ≤ surplus k → need ≤ surplus l
surplus_steps a k l need s enough =
    let e = s.calls.caller.left in let c = s.credit in omega (arith, e, c, enough)

-- A Full tells the same of steps before, which leave the receipts and the callers.
filled_before : (t : Terms) (past : List Update) (k l : CallerData) (r : Receipt) → KeepsCalls k l → WasFilledSince l.log t past r → WasFilledSince k.log t past r
filled_before t past k l r kept (callers, (were, filled)) = (
  callers,
  (
    record {
      least = (let least = were.least in let made = kept.caller.made in omega (arith, made, least));
      alone = λ alone. were.alone (subst IsAlone (sym kept.caller.lineage) alone) ∙ ap (λ n. n + 1) kept.caller.made;
    },
    subst (λ (x : Receipts). WasFilled (start t) past t.nodes callers (last_moment x.since x.own) r) kept.receipts filled,
  ),
)

-- An answer is right also for one that took steps before, and after more steps.
pub right_after : (t : Terms) (m : Member) (answer : Inserted) (k l n : CallerData) → KeepsCalls k l → IsRightInsertion t m l n answer → IsRightInsertion t m k n answer
right_after t m (inserted.Done number) k l n kept (before, (begins, is, number_is)) = (before, (subst (λ p. IsPrefix p before) kept.past begins, is, number_is))
right_after t m (inserted.Overlap other stamp) k l n kept r = (subst (λ p. IsPrefix p n.log.past) kept.past r.0, r.1, r.2, r.3)
right_after t m (inserted.Full stamp) k l n kept r = (subst (λ p. IsPrefix p n.log.past) kept.past r.0, r.1, r.2, filled_before t n.log.past k l (receipt.Register m (inserted.Full stamp)) kept r.3)
right_after t m inserted.Spent k l n kept r = absurd r
