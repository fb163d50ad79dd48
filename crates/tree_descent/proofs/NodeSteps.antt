-- Steps on nodes: what they leave of their caller where only its locks, its loads, its sights and
-- its budget are others.
use Rattle.std.proofs.Common.{◌≡◌, ap, ◌∙◌, refl, sym, subst}
use Rattle.word_rule.specs.CallerData.{CallerData, KeepsCaller, KeepsCalls}
use Rattle.word_rule.specs.declared.log.Log.{Log}
use Rattle.word_rule.proofs.CallersKept.{kept_calls_on, kept_calls}
use Rattle.word_rule.specs.Callers.{IsIdle}
use Rattle.word_rule.specs.Logs.{after_spending}
use Rattle.tree_descent.specs.Loads.{KeepsLoads}
use Rattle.tree_descent.specs.Paths.{StepsOnNodes, HoldsNothing}
use Rattle.tree_descent.proofs.Loading.{keeps_then, keeps_all}
use Rattle.tree_descent.specs.Releases.{with_release_less}

-- a log that may also have seen more, and taken receipts
pub caller_so : (k : CallerData) {k' : CallerData} {v : Log} → k' ≡ record k { log = v } → v ≡ record k.log { past = v.past; budget = v.budget; receipts = v.receipts; trace = v.trace; holdings = v.holdings; sights = v.sights } → KeepsCaller k k'
caller_so k is same = record {
  table = ap (λ (z : CallerData). z.table) is;
  left = ap (λ (z : CallerData). z.left) is;
  terms = ap (λ (z : CallerData). z.log.terms) is ∙ ap (λ (z : Log). z.terms) same;
  role = ap (λ (z : CallerData). z.log.role) is ∙ ap (λ (z : Log). z.role) same;
  loader = ap (λ (z : CallerData). z.log.loader) is ∙ ap (λ (z : Log). z.loader) same;
  made = ap (λ (z : CallerData). z.log.made) is ∙ ap (λ (z : Log). z.made) same;
  lineage = ap (λ (z : CallerData). z.log.lineage) is ∙ ap (λ (z : Log). z.lineage) same;
}

pub calls_so : (k : CallerData) {k' : CallerData} {v : Log} → k' ≡ record k { log = v } → v ≡ record k.log { budget = v.budget; trace = v.trace; holdings = v.holdings; sights = v.sights } → KeepsCalls k k'
calls_so k is same =
    let whole = is ∙ ap (λ (z : Log). record k { log = z }) same in record {
      caller = caller_so k whole refl;
      past = ap (λ (z : CallerData). z.log.past) whole;
      receipts = ap (λ (z : CallerData). z.log.receipts) whole;
    }

pub steps_so : (k : CallerData) {k' : CallerData} {v : Log} → k' ≡ record k { log = v } → v ≡ record k.log { trace = v.trace; holdings = v.holdings; sights = v.sights } → KeepsLoads k (record k { log = v }) → StepsOnNodes k k'
steps_so k is same loads =
    let whole = is ∙ ap (λ (z : Log). record k { log = z }) same in record {
      calls = calls_so k whole refl;
      budget = ap (λ (z : CallerData). z.log.budget) whole;
      loads = subst (KeepsLoads k) (sym is) loads;
    }

-- steps on nodes, one after another
pub steps_then : (k l m : CallerData) → StepsOnNodes k l → StepsOnNodes l m → StepsOnNodes k m
steps_then k l m a b = record {
  calls = kept_calls_on a.calls b.calls;
  budget = b.budget ∙ a.budget;
  loads = keeps_then k l m a.loads b.loads;
}

pub steps_none : (k : CallerData) → StepsOnNodes k k
steps_none k = record { calls = kept_calls k; budget = refl; loads = keeps_all k }

pub still_idle : (k l : CallerData) → StepsOnNodes k l → HoldsNothing l.log.holdings → IsIdle k.log → IsIdle l.log
still_idle k l steps nothing idle = record {
  held = nothing.0;
  out = nothing.1;
  loader = steps.calls.caller.loader ∙ idle.loader;
}

-- a release less before steps and after them
pub less_release_then : (a b : CallerData) → StepsOnNodes a b → StepsOnNodes (with_release_less a) (with_release_less b)
less_release_then a b same = record {
  calls = kept_calls_on (calls_so (with_release_less a) {k' = a} {v = a.log} refl refl) (kept_calls_on same.calls (calls_so b refl refl));
  budget = ap after_spending same.budget;
  loads = same.loads;
}
