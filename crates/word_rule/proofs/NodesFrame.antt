-- What is said of nodes stays over a step that changes one log and no node.
use Rattle.std.proofs.Common.{◌≡◌, ◌≢◌, ℕ, ◌+◌, List, set, sym, ap, ◌∙◌, subst, ⊎_elim, Bool, Option, Some, None, IsSome}
use mathlib.Core.Option.{some, some-injective}
use lib.ListN.{get_elem?}
use Rattle.atomic_table.proofs.Lists.{set_here, set_else}
use Rattle.reg_model.specs.declared.answer.Update.{Update}
use Rattle.tree_laws.specs.Numbers.{times, once}
use Rattle.word_rule.specs.declared.log.Holding.{Holding}
use Rattle.word_rule.specs.declared.log.Log.{Log}
use Rattle.word_rule.specs.declared.log.Terms.{Terms}
use Rattle.word_rule.specs.SharedWords.{NodeWords}
use Rattle.word_rule.specs.Held.{held_of}
use Rattle.word_rule.specs.Callers.{IsLockedAt}
use Rattle.word_rule.specs.Nodes.{Shadow, NodesHold, HoldsNode, HoldingsHold, HeldBy}
use Rattle.word_rule.proofs.Facts.{total_same, after_step, within, decided}

-- a log that a place has is the one that is known there
pub same_log : (views : List Log) (id j : ℕ) (v u : Log) → get_elem? views id ≡ some v → get_elem? views j ≡ some u → j ≡ id → u ≡ v
same_log views id j v u at there is = some-injective u v (sym there ∙ (ap (get_elem? views) is ∙ at))

-- a lock over other versions, holders and stores, which say the same of its node
pub lock_over : {t : Terms} {words : NodeWords} {shadow : Shadow} (versions : ℕ → ℕ) (holder : ℕ → Option ℕ) (stored : ℕ → Bool) (j : ℕ) (h : Holding) → holder h.node ≡ shadow.holder h.node → IsLockedAt h.version (versions h.node) → shadow.stored h.node ≡ stored h.node
    → HoldsNode t words shadow j h → HoldsNode t (record words { versions = versions }) (record shadow { holder = holder; stored = stored }) j h
lock_over versions holder stored j h same_holder locked same_store k = record {
  within = k.within;
  is_holder = same_holder ∙ k.is_holder;
  locked = locked;
  as_now = k.as_now;
  settled = k.settled;
  stored = k.stored ∙ same_store;
  clean = k.clean;
  marked = k.marked;
  unmarked = k.unmarked;
}

module _ (views : List Log) (id : ℕ) (v w : Log) (at : get_elem? views id ≡ some v) where
  pub holder_stays : (n : ℕ) (holder : Option ℕ) → (IsSome (held_of n v.holdings.held) → IsSome (held_of n w.holdings.held)) → HeldBy n views holder → HeldBy n (set views id w) holder
  holder_stays n None kept h = tt
  holder_stays n (Some j) kept h = ⊎_elim
      (λ (is : j ≡ id). (
        w,
        (
          subst (λ k. get_elem? (set views id w) k ≡ some w) (sym is) (set_here views id w (within views id v at)),
          kept (subst (λ u. IsSome (held_of n u.holdings.held)) (same_log views id j v h.0 at h.1.0 is) h.1.1),
        ),
      ))
      (λ (far : j ≢ id). (h.0, (set_else views id j w far ∙ h.1.0, h.1.1))) (decided j id)

  -- the log keeps its locks and what it has out
  pub nodes_own : (t : Terms) (words : NodeWords) (history : List Update) (shadow : Shadow) → HoldingsHold t words shadow id w.holdings → ((n : ℕ) → IsSome (held_of n v.holdings.held) → IsSome (held_of n w.holdings.held))
      → ((n : ℕ) → times n w.holdings.out ≡ times n v.holdings.out) → NodesHold t words views history shadow → NodesHold t words (set views id w) history shadow
  nodes_own t words history shadow mine kept out r = record {
    lawful = r.lawful;
    entries = r.entries;
    unlocked = r.unlocked;
    holdings = after_step (λ j z. HoldingsHold t words shadow j z.holdings) views id w mine (λ j z _ there. r.holdings j z there);
    holders = λ n. holder_stays n (shadow.holder n) (kept n) (r.holders n);
    each_once = λ n. ap (λ k. once (shadow.live n) + times n shadow.free + k) (total_same (λ z. times n z.holdings.out) views id v w at (out n)) ∙ r.each_once n;
    chain = r.chain;
  }

  pub nodes_same : (t : Terms) (words : NodeWords) (history : List Update) (shadow : Shadow) → w.holdings ≡ v.holdings → NodesHold t words views history shadow → NodesHold t words (set views id w) history shadow
  nodes_same t words history shadow same r = nodes_own t words history shadow (subst (HoldingsHold t words shadow id) (sym same) (r.holdings id v at)) (λ n h. subst (λ k. IsSome (held_of n k.held)) (sym same) h) (λ n. ap (λ k. times n k.out) same) r
