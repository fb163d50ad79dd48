-- Receipts that answer what was asked, and hold now: they go on a log's own, and end what its loads told of fullness.
use Rattle.std.proofs.Common.{◌≡◌, ℕ, ◌+◌, ◌≤◌, ◌⊎◌, ⊎_elim, List, [], ◌∷◌, ◌++◌, length, length-append, set, sym, refl, ap, ◌∙◌, subst, arith, ◌==◌, ◌&&◌, false, IfSome, is_some, append-nil}
use Rattle.std.specs.List.{AllByRecursion, count_by}
use Rattle.std.proofs.lemmas.List.Sums.{sum_by_push}
use mathlib.Core.Option.{some}
use mathlib.Core.List.{IsPrefix}
use lib.ListN.{get_elem?}
use Rattle.reg_model.specs.Receipt.{moment}
use Rattle.reg_model.specs.Numbers.{has_number}
use Rattle.reg_model.specs.declared.answer.Update.{Update}
use Rattle.reg_model.specs.declared.answer.Receipt.{Receipt}
use Rattle.tree_laws.specs.Numbers.{once}
use Rattle.word_rule.specs.declared.log.ReceiptList.{ReceiptList}
use Rattle.word_rule.specs.declared.log.LoadEvent.{LoadEvent}
use Rattle.word_rule.specs.declared.log.Terms.{Terms}
use Rattle.word_rule.specs.declared.log.Log.{Log}
use Rattle.word_rule.specs.SharedWords.{SharedWords, memory_of}
use Rattle.word_rule.specs.Logs.{is_nameless, weight, turns, own_list}
use Rattle.word_rule.specs.Sights.{with_receipts}
use Rattle.word_rule.specs.Callers.{total, CallersHold, LogHolds, IsRecord, AtLoader, LoaderLock, dones_in}
use Rattle.word_rule.specs.Observations.{WasFull, ObservationsHold, last_moment}
use Rattle.word_rule.specs.TableInvariant.{TableInvariant}
use Rattle.word_rule.proofs.Refusals.{HoldsNow, answer_record}
use Rattle.word_rule.proofs.Facts.{total_same, after_step}
use Rattle.word_rule.proofs.Each.{all_map}
use Rattle.word_rule.proofs.CallersFrame.{lineages_over, lock_stays, none_before, idle_stays}
use Rattle.word_rule.proofs.NodesFrame.{nodes_same}
use Rattle.word_rule.proofs.Frames.{no_word_step}
use Rattle.word_rule.proofs.Joins.{record_later}

-- what is asked is answered by one such receipt, which comes after a log's own, or by none
abbrev pub Told : Terms → List Update → ℕ → ReceiptList → List Receipt → Type 0
Told t history callers own rs = (rs ≡ []) ⊎ ((r : Receipt) × ((rs ≡ r ∷ []) × HoldsNow t history callers (last_moment own.since own.list) r))

-- they go on a record
pub told_record : (t : Terms) (past history : List Update) (callers : ℕ) (own : ReceiptList) (rs : List Receipt) → IsPrefix past history → own.since ≤ length history → Told t history callers own rs → IsRecord t past callers own → IsRecord t history callers (record own { list = own.list ++ rs })
told_record t past history callers own rs longer since told h = ⊎_elim
    (λ (none_more : rs ≡ []). subst (λ xs. IsRecord t history callers (record own { list = xs })) (sym (ap (λ xs. own.list ++ xs) none_more ∙ append-nil own.list)) (record_later t past history callers callers longer (omega arith) own h))
    (λ (one : (x : Receipt) × ((rs ≡ x ∷ []) × HoldsNow t history callers (last_moment own.since own.list) x)). subst (λ xs. IsRecord t history callers (record own { list = own.list ++ xs })) (sym one.1.0) (answer_record t past history callers own one.0 one.1.1 longer since h))
    told

-- no number is among them
pub told_numbers : (t : Terms) (history : List Update) (callers : ℕ) (own : ReceiptList) (rs : List Receipt) (n : ℕ) → Told t history callers own rs → count_by (has_number n) (own.list ++ rs) ≡ count_by (has_number n) own.list
told_numbers t history callers own rs n told = ⊎_elim
    (λ (none_more : rs ≡ []). ap (count_by (has_number n)) (ap (λ xs. own.list ++ xs) none_more ∙ append-nil own.list))
    (λ (one : (x : Receipt) × ((rs ≡ x ∷ []) × HoldsNow t history callers (last_moment own.since own.list) x)).
    let none : has_number n one.0 ≡ false = ap (λ u. is_some u && (moment one.0 == n)) one.1.1.accepts in
    ap (λ xs. count_by (has_number n) (own.list ++ xs)) one.1.0 ∙ (sum_by_push (λ x. once (has_number n x)) own.list one.0 ∙ (let z : once (has_number n one.0) ≡ 0 = ap once none in omega (arith, z))))
    told

-- they end what a load told of fullness
ended : (t : Terms) (history : List Update) (callers : ℕ) (own : ReceiptList) (rs : List Receipt) (l : LoadEvent) → l.receipts ≤ length own.list → WasFull t history callers own l → WasFull t history callers (record own { list = own.list ++ rs }) l
ended t history callers own [] l few h = subst (λ k. WasFull t history callers (record own { list = k }) l) (sym (append-nil own.list)) h
ended t history callers own (x ∷ rs) l few h = let len : length (own.list ++ x ∷ rs) ≡ length own.list + length (x ∷ rs) = length-append own.list (x ∷ rs) in
    record { count = λ same. absurd (omega (arith, same, len, few)); head = λ same _ _ _. absurd (omega (arith, same, len, few)); highest = h.highest }

pub all_ended : (t : Terms) (history : List Update) (callers most : ℕ) (own : ReceiptList) (rs : List Receipt) (ls : List LoadEvent) → AllByRecursion (λ l. (l.turns ≤ most) × (l.receipts ≤ length own.list)) ls → AllByRecursion (WasFull t history callers own) ls
    → AllByRecursion (WasFull t history callers (record own { list = own.list ++ rs })) ls
all_ended t history callers most own rs [] e h = tt
all_ended t history callers most own rs (l ∷ ls) e h = (ended t history callers own rs l e.0.1 h.0, all_ended t history callers most own rs ls e.1 h.1)

-- The callers where one log gets such receipts, and has seen more: all else of it is as before.
module _ (t : Terms) (m : SharedWords) (views : List Log) (history : List Update) (c : CallersHold t m views history) (id : ℕ) (v w : Log) (at : get_elem? views id ≡ some v) (role : w.role ≡ v.role) (budget : w.budget ≡ v.budget) (loader : w.loader ≡ v.loader) (made : w.made ≡ v.made) (lineage : w.lineage ≡ v.lineage) (done : (n : ℕ) → dones_in n w ≡ dones_in n v) where
  made_same : total (λ u. u.made) (set views id w) ≡ total (λ u. u.made) views
  made_same = total_same (λ u. u.made) views id v w at made

  pub callers_told : LogHolds t history (total (λ u. u.made) views + 1) w → CallersHold t m (set views id w) history
  callers_told holds = record {
    holder = c.holder;
    of_history = c.of_history;
    room = (let e = total_same (λ u. u.budget.allowance) views id v w at (ap (λ b. b.allowance) budget) in let o = c.room in omega (arith, e, o));
    numbers = λ n. total_same (dones_in n) views id v w at (done n) ∙ c.numbers n;
    each = subst (λ k. (j : ℕ) (u : Log) → get_elem? (set views id w) j ≡ some u → LogHolds t history (k + 1) u) (sym made_same)
        (after_step (λ _ u. LogHolds t history (total (λ z. z.made) views + 1) u) views id w holds (λ j u _ there. c.each j u there));
    weights = (let e = total_same (λ u. weight u.role) views id v w at (ap weight role) in let b = made_same in let o = c.weights in omega (arith, e, b, o));
    loader = lock_stays views m.loader m.loader id v w c.holder at loader (λ e. subst (LoaderLock m.loader views) e c.loader) c.loader;
    at_loader = after_step (λ j u. AtLoader m c.holder j u.loader) views id w (subst (AtLoader m c.holder id) (sym loader) (c.at_loader id v at)) (λ j u _ there. c.at_loader j u there);
    spare_copy = λ clean. c.spare_copy (none_before views id v w at (subst (λ o. IfSome o (λ h. h.stored ≡ false)) loader) clean);
    counted = (let e = total_same (λ u. u.budget.credit) views id v w at (ap (λ b. b.credit) budget) in let o = c.counted in omega (arith, e, o));
    lineages = lineages_over views c.lineages id v w at role lineage (λ gone. let h = c.lineages.nameless id v at (sym (ap is_nameless role) ∙ gone) in ((λ n. done n ∙ h.0 n), made ∙ h.1));
  }

-- A log that gets such receipts, and does nothing else.
module _ (t : Terms) (words : List ℕ) (views : List Log) (r : TableInvariant t words views) (id : ℕ) (v : Log) (at : get_elem? views id ≡ some v) (rs : List Receipt) (told : Told t v.past (total (λ u. u.made) views + 1) (own_list v.receipts) rs) where
  abbrev m : SharedWords
  m = memory_of t words

  abbrev w : Log
  w = with_receipts rs v

  own_past : IsPrefix v.past v.past
  own_past = ([], append-nil v.past)

  callers : CallersHold t m (set views id w) r.memory.history
  callers =
      let mine = r.memory.callers.each id v at in
      callers_told t m views r.memory.history r.memory.callers id v w at refl refl refl refl refl (λ n. let e = told_numbers t v.past (total (λ u. u.made) views + 1) (own_list v.receipts) rs n told in omega (arith, e)) (record {
        terms = mine.terms;
        begins = mine.begins;
        receipts = record { since = mine.receipts.since; own = told_record t v.past v.past (total (λ u. u.made) views + 1) (own_list v.receipts) rs own_past mine.receipts.since told mine.receipts.own; joined = mine.receipts.joined; heard = mine.receipts.heard };
        idle = idle_stays v w refl refl mine.idle;
      })

  mine : ObservationsHold t m r.memory.history (total (λ u. u.made) views + 1) r.memory.shadow w
  mine =
      let o = r.memory.observations id v at in
      let len : length (v.receipts.own ++ rs) ≡ length v.receipts.own + length rs = length-append v.receipts.own rs in record {
        sights = o.sights;
        copies = o.copies;
        full = all_ended t r.memory.history (total (λ u. u.made) views + 1) (turns v.trace) (own_list v.receipts) rs v.trace.loads o.earlier o.full;
        earlier = all_map (λ l. (l.turns ≤ turns v.trace) × (l.receipts ≤ length v.receipts.own)) (λ l. (l.turns ≤ turns v.trace) × (l.receipts ≤ length (v.receipts.own ++ rs))) (λ l e. let b = e.1 in (e.0, omega (arith, b, len))) v.trace.loads o.earlier;
      }

  pub answered : TableInvariant t words (set views id w)
  answered = no_word_step t words views r id w (record {
    history = r.memory.history;
    callers = callers;
    shadow = r.memory.shadow;
    nodes = nodes_same views id v w at t m.nodes r.memory.history r.memory.shadow refl r.memory.nodes;
    active = r.memory.active;
    observations = subst (λ c. (j : ℕ) (u : Log) → get_elem? (set views id w) j ≡ some u → ObservationsHold t m r.memory.history (c + 1) r.memory.shadow u) (sym (total_same (λ u. u.made) views id v w at refl))
        (after_step (λ _ u. ObservationsHold t m r.memory.history (total (λ z. z.made) views + 1) r.memory.shadow u) views id w mine (λ j u _ there. r.memory.observations j u there));
  }) (λ alone. r.alone id v at alone)
