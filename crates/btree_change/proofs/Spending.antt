-- SplitNodes of an update call, one after another: what they take of their caller.
use Rattle.std.proofs.Common.{ℕ, ◌+◌, ◌≤◌, List, ◌++◌, ap, ◌∙◌, arith, ◌≡◌, [], ◌∷◌}
use Rattle.reg_model.specs.declared.answer.Receipt.{Receipt}
use Rattle.reg_model.specs.declared.span.Member.{Member}
use Rattle.word_rule.specs.CallerData.{CallerData, WordsData}
use Rattle.word_rule.specs.declared.log.Receipts.{Receipts}
use Rattle.word_rule.proofs.CallersKept.{kept_caller_on}
use Rattle.word_rule.specs.Places.{CALL_CREDIT}
use Rattle.tree_descent.specs.Releases.{Spends}
use Rattle.tree_descent.specs.Updates.{RefusesUpdate, AnswersUpdate}
use Rattle.tree_descent.specs.Paths.{HoldsNothing}
use Rattle.tree_descent.proofs.Spending.{surplus_steps}
use Rattle.leaf_change.specs.Insertion.{SpendsCall, MayPut}
use Rattle.leaf_change.proofs.Spending.{due_after}

-- one part after another, of which the first answers nothing
pub spends_after : (a b c : ℕ) (more : List Receipt) (taken : ℕ) (k l m : CallerData) → a + b ≤ c → Spends a k l → SpendsCall more taken b l m → SpendsCall more taken c k m
spends_after a b c more taken k l m sum p q = record {
  caller = kept_caller_on p.calls.caller q.caller;
  receipts = q.receipts ∙ ap (λ (r : Receipts). record r { own = r.own ++ more }) p.calls.receipts;
  allowance = q.allowance ∙ (let x = p.allowance in omega (arith, x));
  credit = let x = p.credit in let y = q.credit in omega (arith, x, y, sum);
}

-- an update was refused
pub refused_call : (r : Receipt) (taken : ℕ) (k l : CallerData) → taken ≡ 0 → RefusesUpdate r k l → SpendsCall (r ∷ []) taken 0 k l
refused_call r taken k l none p = record {
  caller = p.caller;
  receipts = p.receipts;
  allowance = let e = ap (λ b. b.allowance) p.budget in omega (arith, e, none);
  credit = let e = ap (λ b. b.credit) p.budget in omega (arith, e);
}

-- an update was answered, and nothing is held any more
pub answers_so : (r : Receipt) (taken most : ℕ) (k l : CallerData) → most ≤ CALL_CREDIT → SpendsCall (r ∷ []) taken most k l → HoldsNothing l.log.holdings → AnswersUpdate r taken k l
answers_so r taken most k l few p nothing = record {
  caller = p.caller;
  receipts = p.receipts;
  allowance = p.allowance;
  credit = let c = p.credit in omega (arith, c, few);
  nothing = nothing;
}

pub own_same : (a : ℕ) (k l : CallerData) → Spends a k l → l.log.receipts.own ≡ k.log.receipts.own
own_same a k l s = ap (λ (r : Receipts). r.own) s.calls.receipts

-- what a part of a call asks to put a member, after steps that took some of the releases
pub may_still : (w : WordsData) (m : Member) (a releases rest : ℕ) (k l : CallerData) → a + rest ≤ releases → Spends a k l → MayPut w m releases k → MayPut w m rest l
may_still w m a releases rest k l sum s may = record {
  table = s.calls.caller.table ∙ may.table;
  terms = s.calls.caller.terms ∙ may.terms;
  loader = s.calls.caller.loader ∙ may.loader;
  payload = may.payload;
  begun = due_after a k l s may.begun;
  spare = surplus_steps a k l rest s (let enough = may.spare in omega (arith, sum, enough));
}
