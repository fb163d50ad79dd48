-- What is said of callers stays over a step that changes one log and not what it has seen or received.
use Rattle.std.proofs.Common.{◌≡◌, ℕ, ◌+◌, ◌<◌, ◌≤◌, List, set, sym, refl, ap, ◌∙◌, subst, arith, ⊎_elim, ◌≢◌, ◌%◌, Option, Some, None, IfSome, Bool, false, true}
use mathlib.Core.Option.{some, some-injective}
use lib.ListN.{get_elem?}
use Rattle.atomic_table.proofs.Lists.{set_here, set_else}
use Rattle.reg_model.specs.declared.answer.Update.{Update}
use Rattle.word_rule.specs.declared.log.Role.TheVariants as role
use Rattle.word_rule.specs.declared.log.LoaderHolding.{LoaderHolding}
use Rattle.word_rule.specs.declared.log.Log.{Log}
use Rattle.word_rule.specs.declared.log.Terms.{Terms}
use Rattle.word_rule.specs.SharedWords.{SharedWords, counters}
use Rattle.word_rule.specs.Places.{spare, upper}
use Rattle.word_rule.specs.Copies.{IsBehind}
use Rattle.word_rule.specs.Logs.{is_gone, is_nameless, weight}
use Rattle.word_rule.specs.Callers.{total, CallersHold, LogHolds, LineagesHold, IsIdle, AtLoader, LoaderLock, NoneStored, dones, dones_in}
use Rattle.word_rule.proofs.Facts.{total_set, total_same, after_step, within, decided}

-- a caller's log has weight 1, so what is asked of others isn't asked of it
pub busy : (v w : Log) → v.role ≡ role.Caller → weight v.role ≡ 0 → IsIdle w
busy v w caller zero_weight = absurd (let one : weight v.role ≡ 1 = ap weight caller in omega (arith, zero_weight, one))

-- one that keeps its locks and what it has out stays idle
pub idle_stays : (v w : Log) → w.holdings ≡ v.holdings → w.loader ≡ v.loader → (weight v.role ≡ 0 → IsIdle v) → weight v.role ≡ 0 → IsIdle w
idle_stays v w holdings loader idle zero_weight = let i = idle zero_weight in record { held = ap (λ h. h.held) holdings ∙ i.held; out = ap (λ h. h.out) holdings ∙ i.out; loader = loader ∙ i.loader }

-- What such a step leaves as it is in its log.
pub record IsLike (v w : Log) : Type 0 where
  pub terms : w.terms ≡ v.terms
  pub role : w.role ≡ v.role
  pub past : w.past ≡ v.past
  pub receipts : w.receipts ≡ v.receipts
  pub allowance : w.budget.allowance ≡ v.budget.allowance
  pub made : w.made ≡ v.made
  pub lineage : w.lineage ≡ v.lineage

-- the lock stays held, or free
pub lock_stays : (views : List Log) (word x id : ℕ) (v w : Log) (holder : Option ℕ) → get_elem? views id ≡ some v → w.loader ≡ v.loader → (holder ≡ None → x % 4 ≡ 0) → LoaderLock word views holder → LoaderLock x (set views id w) holder
lock_stays views word x id v w None at same free h = free refl
lock_stays views word x id v w (Some j) at same free h = ⊎_elim
    (λ (is : j ≡ id). (w, h.1, (subst (λ k. get_elem? (set views id w) k ≡ some w) (sym is) (set_here views id w (within views id v at)), same ∙ (ap (λ u. u.loader) (mine is) ∙ h.2.1))))
    (λ (is : j ≢ id). (h.0, h.1, (set_else views id j w is ∙ h.2.0, h.2.1)))
    (decided j id)
  where
    mine : j ≡ id → v ≡ h.0
    mine is = some-injective v h.0 (sym at ∙ (ap (get_elem? views) (sym is) ∙ h.2.0))

-- a log that isn't the holder's has no part in the lock, and stored nothing under it
pub none_elsewhere : (m : SharedWords) (holder : Option ℕ) (j : ℕ) (o : Option LoaderHolding) → holder ≢ Some j → AtLoader m holder j o → IfSome o (λ h. h.stored ≡ false)
none_elsewhere m holder j None far h = tt
none_elsewhere m holder j (Some g) far h = absurd (far h.0)

-- where no log has stored afterwards, none had before, if the log that steps then had none
pub none_before : (views : List Log) (id : ℕ) (v w : Log) → get_elem? views id ≡ some v → (IfSome w.loader (λ h. h.stored ≡ false) → IfSome v.loader (λ h. h.stored ≡ false)) → NoneStored (set views id w) → NoneStored views
none_before views id v w at mine clean j u there = ⊎_elim
    (λ (is : j ≡ id). subst (λ k. IfSome k.loader (λ h. h.stored ≡ false)) (some-injective v u (sym at ∙ (ap (get_elem? views) (sym is) ∙ there))) (mine (clean id w (set_here views id w (within views id v at)))))
    (λ (is : j ≢ id). clean j u (set_else views id j w is ∙ there)) (decided j id)

-- how logs were forked stays where one keeps its role, its share and its count of callers
module _ (views : List Log) (lineages : LineagesHold views) (id : ℕ) (v w : Log) (at : get_elem? views id ≡ some v) (role : w.role ≡ v.role) (lineage : w.lineage ≡ v.lineage) (gone : is_nameless w.role ≡ true → ((n : ℕ) → dones_in n w ≡ 0) × (w.made ≡ 0)) where
  had_role : {b : Bool} → is_nameless w.role ≡ b → is_nameless v.role ≡ b
  had_role s = sym (ap is_nameless role) ∙ s

  pub lineages_over : LineagesHold (set views id w)
  lineages_over = record {
    whole = total_same (λ u. u.lineage.share) views id v w at (ap (λ k. k.share) lineage) ∙ lineages.whole;
    named = after_step (λ _ u. is_nameless u.role ≡ false → 0 < u.lineage.share) views id w (λ s. subst (λ k. 0 < k.share) (sym lineage) (lineages.named id v at (had_role s))) (λ j u _ e. lineages.named j u e);
    nameless = after_step (λ _ u. is_nameless u.role ≡ true → ((n : ℕ) → dones_in n u ≡ 0) × (u.made ≡ 0)) views id w gone (λ j u _ e. lineages.nameless j u e);
  }

module _ (t : Terms) (m : SharedWords) (views : List Log) (history : List Update) (r : CallersHold t m views history) (id : ℕ) (v w : Log) (at : get_elem? views id ≡ some v) (like : IsLike v w) where
  was_nameless : {b : Bool} → is_nameless w.role ≡ b → is_nameless v.role ≡ b
  was_nameless s = sym (ap is_nameless like.role) ∙ s

  was_gone : {b : Bool} → is_gone w.role ≡ b → is_gone v.role ≡ b
  was_gone s = sym (ap is_gone like.role) ∙ s

  like_log : (c : ℕ) → (weight w.role ≡ 0 → IsIdle w) → LogHolds t history c v → LogHolds t history c w
  like_log c idle h = record {
    terms = λ s. like.terms ∙ h.terms (was_gone s);
    begins = rw like.past h.begins;
    receipts = rw (like.past, like.receipts) h.receipts;
    idle = idle;
  }

  lineages_stay : LineagesHold (set views id w)
  lineages_stay = lineages_over views r.lineages id v w at like.role like.lineage
      (λ s. let h = r.lineages.nameless id v at (was_nameless s) in ((λ n. ap (dones n) like.receipts ∙ h.0 n), like.made ∙ h.1))

  -- no counter rises by more than the credit falls
  pub callers_step : (m' : SharedWords) (holder : Option ℕ) → m'.clock ≡ m.clock → counters t m' + w.budget.credit ≤ counters t m + v.budget.credit → LoaderLock m'.loader (set views id w) holder
      → ((j : ℕ) (u : Log) → get_elem? (set views id w) j ≡ some u → AtLoader m' holder j u.loader) → (weight w.role ≡ 0 → IsIdle w)
      → (NoneStored (set views id w) → IsBehind t (m'.copies (upper m'.clock % 2)) (m'.copies (spare m'.clock))) → CallersHold t m' (set views id w) history
  callers_step m' holder clock fewer lock at_lock idle spare_copy =
      let made : total (λ u. u.made) (set views id w) ≡ total (λ u. u.made) views = total_same (λ u. u.made) views id v w at like.made in
      record {
        holder = holder;
        of_history = rw clock r.of_history;
        room = rw (total_same (λ u. u.budget.allowance) views id v w at like.allowance) r.room;
        numbers = λ n. rw (total_same (dones_in n) views id v w at (ap (dones n) like.receipts)) (r.numbers n);
        each = λ j u e. rw made (after_step (λ _ z. LogHolds t history (total (λ y. y.made) views + 1) z) views id w (like_log _ idle (r.each id v at)) (λ j u _ e. r.each j u e) j u e);
        weights = (let s = total_same (λ u. weight u.role) views id v w at (ap weight like.role) in let o = r.weights in omega (arith, s, made, o));
        loader = lock;
        at_loader = at_lock;
        spare_copy = spare_copy;
        counted = (let c = total_set (λ u. u.budget.credit) views id v w at in let o = r.counted in omega (arith, c, o, fewer));
        lineages = lineages_stay;
      }
