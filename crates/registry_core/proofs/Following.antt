-- Calls one after another, by their receipts.
use Rattle.std.proofs.Common.{◌≡◌, ℕ, ◌≤◌, List, [], ◌∷◌, ◌++◌, length, sym, refl, ap, subst, ◌∙◌, arith, append-nil, append_assoc, max, add-zero}
use mathlib.Core.List.{IsPrefix}
use Rattle.reg_model.specs.Chain.{Chain, IsBetween}
use Rattle.reg_model.specs.State.{State}
use Rattle.reg_model.specs.Receipt.{AllHold, Holds, moment, stamp_of}
use Rattle.reg_model.specs.declared.answer.Found.{Found}
use Rattle.reg_model.specs.declared.answer.Half.{Half}
use Rattle.reg_model.specs.declared.answer.Receipt.{Receipt}
use Rattle.reg_model.specs.declared.answer.Receipt.TheVariants.{Query}
use Rattle.reg_model.specs.declared.answer.Update.{Update}
use Rattle.word_rule.specs.CallerData.{CallerData}
use Rattle.word_rule.specs.Callers.{IsRecord, start}
use Rattle.word_rule.specs.declared.log.ReceiptList.{ReceiptList}
use Rattle.word_rule.specs.declared.log.Receipts.{Receipts}
use Rattle.word_rule.specs.declared.log.Terms.{Terms}
use Rattle.word_rule.proofs.ObservationsFrame.{longer_length}
use Rattle.registry_core.specs.Calls.{Answered, Receives, is_of_update}
use Rattle.registry_core.specs.Queries.{Queries}
use Rattle.registry_core.proofs.Counting.{count_both}
use Rattle.word_rule.proofs.Joins.{prefix_both}
use Rattle.word_rule.proofs.Each.{all_append, all_map}

-- receipts with these of one's own
abbrev with_own : List Receipt → Receipts → Receipts
with_own own r = record r { own = own }

pub answered_none : (k : CallerData) → Answered [] k k
answered_none k = record {
  table = refl;
  terms = refl;
  begins = ([], append-nil k.log.past);
  between = tt;
  left = sym (add-zero k.left);
  own = λ i. with_own (sym (append-nil k.log.receipts.own) i) k.log.receipts;
  loader = refl;
  held = refl;
  out = refl;
  lineage = refl;
  made = refl;
}

pub answered_both : (a b c : CallerData) (front back : List Receipt) → Answered front a b → Answered back b c → Answered (front ++ back) a c
answered_both a b c front back p q = record {
  table = q.table ∙ p.table;
  terms = q.terms ∙ p.terms;
  begins = prefix_both a.log.past b.log.past c.log.past p.begins q.begins;
  between = all_append (IsBetween (length a.log.past) (length c.log.past)) front back
      (all_map (IsBetween (length a.log.past) (length b.log.past)) (IsBetween (length a.log.past) (length c.log.past)) (λ r h. (h.0, (let n = longer_length b.log.past c.log.past q.begins in let w = h.1 in omega (arith, n, w)))) front p.between)
      (all_map (IsBetween (length b.log.past) (length c.log.past)) (IsBetween (length a.log.past) (length c.log.past)) (λ r h. ((let n = longer_length a.log.past b.log.past p.begins in let w = h.0 in omega (arith, n, w)), h.1)) back q.between);
  left = let n = count_both is_of_update front back in let x = p.left in let y = q.left in omega (arith, n, x, y);
  own = q.own ∙ (ap (λ (r : Receipts). with_own (r.own ++ back) r) p.own ∙ (λ i. with_own (append_assoc a.log.receipts.own front back i) a.log.receipts));
  loader = q.loader ∙ p.loader;
  held = q.held ∙ p.held;
  out = q.out ∙ p.out;
  lineage = q.lineage ∙ p.lineage;
  made = q.made ∙ p.made;
}

-- a query of one half
pub query_received : (t : Terms) (which : Half) (pc : ℕ) (found : Found) (a b : CallerData) → Queries t (Query which pc found ∷ []) a b → Receives a (Query which pc found) b
query_received t which pc found a b q =
    let seen : b.log.past ≡ q.past = ap (λ (k : CallerData). k.log.past) q.log in
    let left : b.left ≡ a.left = ap (λ (k : CallerData). k.left) q.log in
    record {
      table = ap (λ (k : CallerData). k.table) q.log;
      terms = ap (λ (k : CallerData). k.log.terms) q.log;
      begins = subst (IsPrefix a.log.past) (sym seen) q.begins;
      between = ((q.order.0, subst (λ past. stamp_of found ≤ length past) (sym seen) (q.hold.0.always 0 0 0).within), tt);
      left = sym left ∙ sym (add-zero b.left);
      own = ap (λ (k : CallerData). k.log.receipts) q.log;
      loader = ap (λ (k : CallerData). k.log.loader) q.log;
      held = ap (λ (k : CallerData). k.log.holdings.held) q.log;
      out = ap (λ (k : CallerData). k.log.holdings.out) q.log;
      lineage = ap (λ (k : CallerData). k.log.lineage) q.log;
      made = ap (λ (k : CallerData). k.log.made) q.log;
    }

-- a chain of calls
pub chain_answered : (a b : CallerData) (rs : List Receipt) → Chain Receives a rs b → Answered rs a b
chain_answered a b [] is = subst (λ k. Answered [] a k) (sym is) (answered_none a)
chain_answered a b (r ∷ rs) (mid, call, rest) = answered_both a mid b (r ∷ []) rs call (chain_answered mid b rs rest)

-- receipts that hold go on to hold
module _ (stay : (start : State) (history more : List Update) (nodes callers later since : ℕ) (r : Receipt) → callers ≤ later → Holds start history nodes callers since r → Holds start (history ++ more) nodes later since r) where
  all_stay : (s : State) (history more : List Update) (nodes callers later since : ℕ) (rs : List Receipt) → callers ≤ later → AllHold s history nodes callers since rs → AllHold s (history ++ more) nodes later since rs
  all_stay s history more nodes callers later since [] l h = tt
  all_stay s history more nodes callers later since (r ∷ rs) l h = (stay s history more nodes callers later since r l h.0, all_stay s history more nodes callers later (max since (moment r)) rs l h.1)

  pub record_stays : (t : Terms) (past later : List Update) (callers more : ℕ) (rs : ReceiptList) → IsPrefix past later → callers ≤ more → IsRecord t past callers rs → IsRecord t later more rs
  record_stays t past later callers more rs p l h = (subst (λ z. AllHold (start t) z t.nodes more rs.since rs.list) p.1 (all_stay (start t) past p.0 t.nodes callers more rs.since rs.list l h.0), h.1)
