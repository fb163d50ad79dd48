-- One that is alone has all that was ever done.
use Rattle.std.proofs.Common.{◌≡◌, ◌≢◌, ℕ, ◌+◌, ◌%◌, ◌<◌, ◌≤◌, List, [], ◌∷◌, ◌++◌, length, length-append, set, get_or, ne_eqb, sym, refl, ap, ◌∙◌, subst, arith, Option, Some, None, false, true, max, is_some, ◌&&◌, ◌==◌, lt_of_not-le}
use Rattle.std.specs.List.{AllByRecursion, count_by}
use Rattle.std.proofs.lemmas.List.Sums.{sum_by-cons}
use mathlib.Core.Option.{none, some, some-injective, some-ne-none}
use native.Mathlib.Decide.{dec_le}
use lib.ListN.{get_elem?}
use borrow.Author.Tests.{le-leb}
use Rattle.atomic_table.specs.Table.{State as TableState, Me, step, keeps, Allows, Final, Seen}
use Rattle.atomic_table.proofs.Lists.{set_again}
use Rattle.reg_model.specs.State.{State}
use Rattle.reg_model.specs.History.{IsHistory, after}
use Rattle.reg_model.specs.Receipt.{moment, accepted, AllHold}
use Rattle.reg_model.specs.Numbers.{has_number}
use Rattle.reg_model.specs.declared.answer.Update.{Update}
use Rattle.reg_model.specs.declared.answer.Receipt.{Receipt}
use Rattle.word_rule.specs.declared.log.ReceiptList.{ReceiptList}
use Rattle.word_rule.specs.declared.log.Log.{Log}
use Rattle.word_rule.specs.declared.log.Terms.{Terms}
use Rattle.tree_laws.specs.Numbers.{once}
use Rattle.word_rule.specs.Logs.{is_nameless}
use Rattle.word_rule.specs.Callers.{total, CallersHold, LogHolds, IsRecord, ReceiptsHold, IsAlone, IsWhole, dones_of_all, dones_in, number_of, start}
use Rattle.word_rule.specs.TableInvariant.{TableInvariant}
use Rattle.word_rule.specs.Plays.{confirms}
use Rattle.word_rule.proofs.Facts.{part_of_total, all_of_total}
use Rattle.word_rule.specs.SharedWords.{SharedWords, memory_of}
use Rattle.word_rule.proofs.Lineages.{others_nameless, not_gone}
use Rattle.word_rule.proofs.Memories.{set_same}

-- numbers are not above what was seen
dones_within : (t : Terms) (past : List Update) (callers since n : ℕ) (rs : List Receipt) → length past < n → AllHold (start t) past t.nodes callers since rs → count_by (has_number n) rs ≡ 0
dones_within t past callers since n [] above h = refl
dones_within t past callers since n (x ∷ rs) above h =
    let c = sum_by-cons (λ r. once (has_number n r)) x rs in let rest = dones_within t past callers (max since (moment x)) n rs above h.1 in let w = h.0.within in
    let here = done_other (accepted x) (moment x) n (λ e. omega (arith, e, w, above)) in omega (arith, c, rest, here)
  where
    done_other : (a : Option Update) (m n : ℕ) → m ≢ n → once (is_some a && (m == n)) ≡ 0
    done_other None m n ne = refl
    done_other (Some u) m n ne = rw (ne_eqb m n ne) refl

dones_all_within : (t : Terms) (past : List Update) (callers n : ℕ) (lists : List ReceiptList) → length past < n → AllByRecursion (IsRecord t past callers) lists → dones_of_all n lists ≡ 0
dones_all_within t past callers n [] above h = refl
dones_all_within t past callers n (rs ∷ lists) above h =
    let c = sum_by-cons (λ (receipts : ReceiptList). count_by (has_number n) receipts.list) rs lists in let a = dones_within t past callers rs.since n rs.list above h.0.0 in let b = dones_all_within t past callers n lists above h.1 in omega (arith, c, a, b)

-- a history begins with a history
history_front : (s : State) (front rest : List Update) → IsHistory s (front ++ rest) → IsHistory s front
history_front s [] rest h = tt
history_front s (u ∷ front) rest h = (h.0, history_front (after u s) front rest h.1)

last_number : (n : ℕ) → 0 < n → number_of n n ≡ 1
last_number n h = rw (le-leb 1 n h, le-leb n n (omega arith)) refl

module _ (t : Terms) (m : SharedWords) (views : List Log) (history : List Update) (r : CallersHold t m views history) (id : ℕ) (v : Log) (at : get_elem? views id ≡ some v) (alone : IsAlone v.lineage) where
  nameless_others : (j : ℕ) (u : Log) → j ≢ id → get_elem? views j ≡ some u → is_nameless u.role ≡ true
  nameless_others = others_nameless views r.lineages id v at alone

  dones_all : (n : ℕ) → total (dones_in n) views ≡ dones_in n v
  dones_all n = all_of_total (dones_in n) views id v at (λ j u far there. (r.lineages.nameless j u there (nameless_others j u far there)).0 n)

  pub made_all : total (λ u. u.made) views ≡ v.made
  made_all = all_of_total (λ u. u.made) views id v at (λ j u far there. (r.lineages.nameless j u there (nameless_others j u far there)).1)

  own_log : LogHolds t history (v.made + 1) v
  own_log = subst (λ m. LogHolds t history (m + 1) v) made_all (r.each id v at)

  -- it has seen the whole history
  pub seen_all : length v.past ≡ length history
  seen_all = go (dec_le (length history) (length v.past))
    where
      sum : length v.past + length own_log.begins.0 ≡ length history
      sum = sym (length-append v.past own_log.begins.0) ∙ ap length own_log.begins.1

      go : Dec (length history ≤ length v.past) → length v.past ≡ length history
      go (yes h) = let s = sum in omega (arith, s, h)
      go (no h) =
          let above : length v.past < length history = lt_of_not-le h in
          let n : ℕ = length history in
          let a = dones_within t v.past (v.made + 1) v.receipts.since n v.receipts.own above own_log.receipts.own.0 in
          let b = dones_all_within t v.past (v.made + 1) n v.receipts.joined above own_log.receipts.joined in
          let c = dones_all n in let d = r.numbers n in let e = last_number n (omega (arith, above)) in absurd (omega (arith, a, b, c, d, e))

  pub whole : is_nameless v.role ≡ false → IsWhole v
  whole stands = record {
    lawful = subst (λ s. IsHistory (start s) v.past) (sym (own_log.terms (not_gone v.role stands))) (history_front (start t) v.past own_log.begins.0 (subst (IsHistory (start t)) (sym own_log.begins.1) r.of_history.lawful));
    numbers = λ n. sym (dones_all n) ∙ (r.numbers n ∙ ap (λ k. number_of k n) (sym seen_all));
    receipts = subst (λ s. ReceiptsHold s v.past (v.made + 1) v.receipts) (sym (own_log.terms (not_gone v.role stands))) own_log.receipts;
  }

pub settles_loads : (t : Terms) (slots id : ℕ) (me : Me (Unit {0}) Log) → Allows (λ (s : TableState (Unit {0}) Log). TableInvariant t s.words s.views) slots id me 0 (λ n. n) (confirms (step slots 0 0 0 none) me)
settles_loads t slots id me s r deep at small =
    let same_views : set s.views id me.0 ≡ s.views = set_again s.views id me.0 at in
    let same_words : set s.words 0 (get_or s.words 0 0) ≡ s.words = set_same s.words 0 in (
      me.0,
      keeps,
      tt,
      rw (same_words, same_views) r,
      (refl, (let a = part_of_total (λ u. u.budget.allowance) s.views id me.0 at in let o = r.memory.callers.room in let b = (r.memory.callers.each id me.0 at).begins in let l = sym (length-append me.0.past b.0) ∙ ap length b.1 in omega (arith, a, o, l)), (let a = part_of_total (λ u. u.budget.credit) s.views id me.0 at in let o = r.memory.callers.counted in omega (arith, a, o)), (let a = part_of_total (λ u. u.lineage.share) s.views id me.0 at in let o = r.memory.callers.lineages.whole in omega (arith, a, o)), λ stands alone. whole t (memory_of t s.words) s.views r.memory.history r.memory.callers id me.0 at alone stands, (r.memory.callers.each id me.0 at).receipts.heard),
    )

first_word : (words : List ℕ) (n : ℕ) → get_elem? words 0 ≡ some n → get_or words 0 0 ≡ n
first_word [] n e = absurd (some-ne-none n (sym e))
first_word (x ∷ words) n e = some-injective x n e

-- what is found where one that is alone takes the words apart
pub closes : (t : Terms) (words : List ℕ) (slots : List (Unit {0})) (id : ℕ) (v : Log) (n : ℕ) → is_nameless v.role ≡ false → IsAlone v.lineage → Final (Seen (λ (s : TableState (Unit {0}) Log). TableInvariant t s.words s.views) id v) words slots → get_elem? words 0 ≡ some n
    → (n % 4294967296 ≡ length v.past) × IsWhole v
closes t words slots id v n stands alone final found =
    let s = final.0 in let r = final.1.0.memory.callers in let history = final.1.0.memory.history in
    let clock : get_or s.words 0 0 ≡ n = ap (λ w. get_or w 0 0) final.2 ∙ first_word words n found in
    (ap (λ k. k % 4294967296) (sym clock) ∙ (r.of_history.updates ∙ sym (seen_all t (memory_of t s.words) s.views history r id v final.1.1 alone)), whole t (memory_of t s.words) s.views history r id v final.1.1 alone stands)
