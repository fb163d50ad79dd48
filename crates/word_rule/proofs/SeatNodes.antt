-- What is said of nodes stays where a caller or a note comes or goes.
use Rattle.std.proofs.Common.{◌≡◌, ◌≢◌, ℕ, ◌+◌, List, [], ◌∷◌, ◌++◌, set, sym, ap, ◌∙◌, subst, ⊎_elim, arith, Option, Some, None, IsSome, true≢false}
use mathlib.Core.Option.{some}
use lib.ListN.{get_elem?}
use Rattle.atomic_table.proofs.Lists.{set_here, set_else, at_longer}
use Rattle.reg_model.specs.declared.answer.Update.{Update}
use Rattle.tree_laws.specs.Numbers.{times, once}
use Rattle.word_rule.specs.declared.log.Role.{Role}
use Rattle.word_rule.specs.declared.log.Budget.{Budget}
use Rattle.word_rule.specs.declared.log.Log.{Log}
use Rattle.word_rule.specs.declared.log.Terms.{Terms}
use Rattle.word_rule.specs.SharedWords.{NodeWords}
use Rattle.word_rule.specs.Held.{held_of}
use Rattle.word_rule.specs.Logs.{child_log, spent_log}
use Rattle.word_rule.specs.Callers.{total}
use Rattle.word_rule.specs.Nodes.{Shadow, NodesHold, HoldingsHold, HeldBy}
use Rattle.word_rule.proofs.Facts.{total_same, total_snoc, total_set_two, after_step, within, behind, decided}
use Rattle.word_rule.proofs.NodesFrame.{same_log}

-- one that holds nothing
pub holds_nothing : (t : Terms) (words : NodeWords) (shadow : Shadow) (id : ℕ) → HoldingsHold t words shadow id (record { held = []; out = [] })
holds_nothing t words shadow id = record { each = tt; once = λ n. omega arith; few_out = omega arith }

module _ (t : Terms) (words : NodeWords) (views : List Log) (history : List Update) (shadow : Shadow) (id : ℕ) (role : Role) (budget : Budget) (v w : Log) (at : get_elem? views id ≡ some v) (same : w.holdings ≡ v.holdings) where
  abbrev forked : List Log
  forked = set views id w ++ child_log role budget v ∷ []

  holders_forked : (n : ℕ) (holder : Option ℕ) → HeldBy n views holder → HeldBy n forked holder
  holders_forked n None h = tt
  holders_forked n (Some j) h = ⊎_elim
      (λ (is : j ≡ id). (
        w,
        (
          at_longer (set views id w) (child_log role budget v ∷ []) j w (subst (λ k. get_elem? (set views id w) k ≡ some w) (sym is) (set_here views id w (within views id v at))),
          subst (λ k. IsSome (held_of n k.held)) (sym same) (subst (λ u. IsSome (held_of n u.holdings.held)) (same_log views id j v h.0 at h.1.0 is) h.1.1),
        ),
      ))
      (λ (far : j ≢ id). (h.0, (at_longer (set views id w) (child_log role budget v ∷ []) j h.0 (set_else views id j w far ∙ h.1.0), h.1.1))) (decided j id)

  out_forked : (n : ℕ) → total (λ z. times n z.holdings.out) forked ≡ total (λ z. times n z.holdings.out) views
  out_forked n = let s = total_snoc (λ z. times n z.holdings.out) (set views id w) (child_log role budget v) in let e = total_same (λ z. times n z.holdings.out) views id v w at (ap (λ k. times n k.out) same) in omega (arith, s, e)

  pub nodes_fork : NodesHold t words views history shadow → NodesHold t words forked history shadow
  nodes_fork r = record {
    lawful = r.lawful;
    entries = r.entries;
    unlocked = r.unlocked;
    holdings = behind (λ j z. HoldingsHold t words shadow j z.holdings) (set views id w) (child_log role budget v)
        (after_step (λ j z. HoldingsHold t words shadow j z.holdings) views id w (subst (HoldingsHold t words shadow id) (sym same) (r.holdings id v at)) (λ j z _ there. r.holdings j z there)) (λ j. holds_nothing t words shadow j);
    holders = λ n. holders_forked n (shadow.holder n) (r.holders n);
    each_once = λ n. ap (λ k. once (shadow.live n) + times n shadow.free + k) (out_forked n) ∙ r.each_once n;
    chain = r.chain;
  }

module _ (t : Terms) (words : NodeWords) (views : List Log) (history : List Update) (shadow : Shadow) (id other : ℕ) (v u b : Log) (at : get_elem? views id ≡ some v) (ne : other ≢ id)
    (there : get_elem? (set views id b) other ≡ some u) (same : b.holdings ≡ v.holdings) (held : u.holdings.held ≡ []) (out : u.holdings.out ≡ []) where
  abbrev joined : List Log
  joined = set (set views id b) other spent_log

  was : get_elem? views other ≡ some u
  was = sym (set_else views id other b ne) ∙ there

  holders_joined : (n : ℕ) (holder : Option ℕ) → HeldBy n views holder → HeldBy n joined holder
  holders_joined n None h = tt
  holders_joined n (Some j) h = ⊎_elim
      (λ (is : j ≡ id). (
        b,
        (
          set_else (set views id b) other j spent_log (λ e. ne (sym e ∙ is)) ∙ subst (λ k. get_elem? (set views id b) k ≡ some b) (sym is) (set_here views id b (within views id v at)),
          subst (λ k. IsSome (held_of n k.held)) (sym same) (subst (λ z. IsSome (held_of n z.holdings.held)) (same_log views id j v h.0 at h.1.0 is) h.1.1),
        ),
      ))
      (λ (far : j ≢ id). (h.0, (set_else (set views id b) other j spent_log (λ is. nobody (subst (λ hs. IsSome (held_of n hs)) held (subst (λ z. IsSome (held_of n z.holdings.held)) (same_log views other j u h.0 was h.1.0 is) h.1.1))) ∙ (set_else views id j b far ∙ h.1.0), h.1.1))) (decided j id)
    where
      nobody : IsSome (held_of n []) → ⊥
      nobody h = true≢false (sym h)

  out_joined : (n : ℕ) → total (λ z. times n z.holdings.out) joined ≡ total (λ z. times n z.holdings.out) views
  out_joined n =
      let s = total_set_two (λ z. times n z.holdings.out) views id other v b u spent_log at there in
      let e : times n b.holdings.out ≡ times n v.holdings.out = ap (λ k. times n k.out) same in let o : times n u.holdings.out ≡ 0 = ap (times n) out in omega (arith, s, e, o)

  pub nodes_join : NodesHold t words views history shadow → NodesHold t words joined history shadow
  nodes_join r = record {
    lawful = r.lawful;
    entries = r.entries;
    unlocked = r.unlocked;
    holdings = after_step (λ j z. HoldingsHold t words shadow j z.holdings) (set views id b) other spent_log (holds_nothing t words shadow other)
        (λ j x _ e. after_step (λ j z. HoldingsHold t words shadow j z.holdings) views id b (subst (HoldingsHold t words shadow id) (sym same) (r.holdings id v at)) (λ k z _ f. r.holdings k z f) j x e);
    holders = λ n. holders_joined n (shadow.holder n) (r.holders n);
    each_once = λ n. ap (λ k. once (shadow.live n) + times n shadow.free + k) (out_joined n) ∙ r.each_once n;
    chain = r.chain;
  }
