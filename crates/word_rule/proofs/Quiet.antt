-- A step that changes no word keeps the rule where its log does.
use Rattle.std.proofs.Common.{◌≡◌, ℕ, ◌+◌, List, get_or, set, sym, refl, subst, arith, IfSome, IsSome, false}
use mathlib.Core.Option.{some}
use lib.ListN.{get_elem?}
use Rattle.tree_laws.specs.Numbers.{times}
use Rattle.word_rule.specs.declared.log.Terms.{Terms}
use Rattle.word_rule.specs.declared.log.Log.{Log}
use Rattle.word_rule.specs.SharedWords.{SharedWords, memory_of}
use Rattle.word_rule.specs.Held.{held_of}
use Rattle.word_rule.specs.Logs.{weight}
use Rattle.word_rule.specs.Callers.{total, IsIdle, IsAlone, AtLoader, LoaderLock}
use Rattle.word_rule.specs.Nodes.{HoldingsHold}
use Rattle.word_rule.specs.Observations.{ObservationsHold}
use Rattle.word_rule.specs.TableInvariant.{TableInvariant, IsStill}
use Rattle.word_rule.proofs.Facts.{total_same, after_step}
use Rattle.word_rule.proofs.CallersFrame.{IsLike, callers_step, lock_stays, none_before}
use Rattle.word_rule.proofs.NodesFrame.{nodes_own}
use Rattle.word_rule.proofs.Frames.{load_step}

module _ (t : Terms) (words : List ℕ) (views : List Log) (r : TableInvariant t words views) (id : ℕ) (v w : Log) (at : get_elem? views id ≡ some v) where
  abbrev m : SharedWords
  m = memory_of t words

  pub quiet : (k : ℕ) → IsLike v w → w.loader ≡ v.loader → w.budget.credit ≡ v.budget.credit → (weight w.role ≡ 0 → IsIdle w) → HoldingsHold t m.nodes r.memory.shadow id w.holdings
      → ((n : ℕ) → IsSome (held_of n v.holdings.held) → IsSome (held_of n w.holdings.held)) → ((n : ℕ) → times n w.holdings.out ≡ times n v.holdings.out)
      → ObservationsHold t m r.memory.history (total (λ u. u.made) views + 1) r.memory.shadow w → (IsAlone w.lineage → IsStill words w) → TableInvariant t (set words k (get_or words k 0)) (set views id w)
  quiet k like loader credit idle holdings kept out mine still =
      let made : total (λ u. u.made) (set views id w) ≡ total (λ u. u.made) views = total_same (λ u. u.made) views id v w at like.made in
      load_step t words views r id w k (record {
        history = r.memory.history;
        callers = callers_step t m views r.memory.history r.memory.callers id v w at like m r.memory.callers.holder refl (omega (arith, credit))
            (lock_stays views m.loader m.loader id v w r.memory.callers.holder at loader (λ e. subst (LoaderLock m.loader views) e r.memory.callers.loader) r.memory.callers.loader)
            (after_step (λ j u. AtLoader m r.memory.callers.holder j u.loader) views id w (subst (AtLoader m r.memory.callers.holder id) (sym loader) (r.memory.callers.at_loader id v at)) (λ j u _ e. r.memory.callers.at_loader j u e)) idle
            (λ clean. r.memory.callers.spare_copy (none_before views id v w at (subst (λ o. IfSome o (λ h. h.stored ≡ false)) loader) clean));
        shadow = r.memory.shadow;
        nodes = nodes_own views id v w at t m.nodes r.memory.history r.memory.shadow holdings kept out r.memory.nodes;
        active = r.memory.active;
        observations = subst (λ c. (j : ℕ) (u : Log) → get_elem? (set views id w) j ≡ some u → ObservationsHold t m r.memory.history (c + 1) r.memory.shadow u) (sym made)
            (after_step (λ _ u. ObservationsHold t m r.memory.history (total (λ z. z.made) views + 1) r.memory.shadow u) views id w mine (λ j u _ there. r.memory.observations j u there));
      }) still
