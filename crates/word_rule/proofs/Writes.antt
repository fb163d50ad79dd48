-- A step that changes a word keeps the rule where what it makes of nodes, copies and callers does.
use Rattle.std.proofs.Common.{◌≡◌, ℕ, ◌+◌, ◌<◌, ◌≤◌, List, [], length, set, sym, refl, subst, arith, Option, Some, None, IfSome, false}
use mathlib.Core.Option.{some}
use mathlib.Core.List.{IsPrefix}
use lib.ListN.{get_elem?}
use Rattle.reg_model.specs.declared.answer.Update.{Update}
use Rattle.word_rule.specs.declared.log.Terms.{Terms}
use Rattle.word_rule.specs.declared.log.LoaderHolding.{LoaderHolding}
use Rattle.word_rule.specs.declared.log.NodeSight.{NodeSight}
use Rattle.word_rule.specs.declared.log.CopySight.{CopySight}
use Rattle.word_rule.specs.declared.log.Log.{Log}
use Rattle.word_rule.specs.SharedWords.{NodeWords, SharedWords, memory_of, counters}
use Rattle.word_rule.specs.Logs.{is_nameless, weight, turns, own_list}
use Rattle.word_rule.specs.Callers.{total, CallersHold, IsIdle, AtLoader, LoaderLock}
use Rattle.word_rule.specs.Nodes.{Shadow, NodesHold}
use Rattle.word_rule.specs.Copies.{ActiveCopy, CopySightHolds}
use Rattle.word_rule.specs.Observations.{SightHolds, ObservationsHold}
use Rattle.word_rule.specs.TableInvariant.{TableInvariant}
use Rattle.word_rule.proofs.Facts.{total_same, after_step}
use Rattle.word_rule.proofs.CallersFrame.{IsLike, callers_step, lock_stays, none_before}
use Rattle.word_rule.proofs.ObservationsFrame.{no_more, observations_over, observations_same}
use Rattle.word_rule.proofs.Frames.{table_step, still_after_turn}

-- What a step that writes leaves of its log's observations.
pub record Wrote (v w : Log) : Type 0 where
  pub own : own_list w.receipts ≡ own_list v.receipts
  pub sights : w.sights ≡ v.sights
  pub loads : w.trace.loads ≡ v.trace.loads
  pub turn : turns v.trace < turns w.trace

-- a log's part in the loader's lock stays where nodes change
pub nodes_at_loader : (m : SharedWords) (nodes : NodeWords) (holder : Option ℕ) (j : ℕ) (o : Option LoaderHolding) → AtLoader m holder j o → AtLoader (record m { nodes = nodes }) holder j o
nodes_at_loader m nodes holder j None h = tt
nodes_at_loader m nodes holder j (Some g) h = (h.0, record { locked = h.1.locked; published = h.1.published; active = h.1.active; spare = h.1.spare })

module _ (t : Terms) (words : List ℕ) (views : List Log) (r : TableInvariant t words views) (id : ℕ) (v w : Log) (at : get_elem? views id ≡ some v) (stands : is_nameless v.role ≡ false) where
  abbrev m : SharedWords
  m = memory_of t words

  -- the callers, where nodes change alone
  pub callers_over_nodes : (nodes : NodeWords) → IsLike v w → w.loader ≡ v.loader → counters t (record m { nodes = nodes }) + w.budget.credit ≤ counters t m + v.budget.credit → (weight w.role ≡ 0 → IsIdle w) → CallersHold t (record m { nodes = nodes }) (set views id w) r.memory.history
  callers_over_nodes nodes like loader fewer idle = callers_step t m views r.memory.history r.memory.callers id v w at like (record m { nodes = nodes }) r.memory.callers.holder refl fewer
      (lock_stays views m.loader m.loader id v w r.memory.callers.holder at loader (λ e. subst (LoaderLock m.loader views) e r.memory.callers.loader) r.memory.callers.loader)
      (after_step (λ j u. AtLoader (record m { nodes = nodes }) r.memory.callers.holder j u.loader) views id w
      (subst (AtLoader (record m { nodes = nodes }) r.memory.callers.holder id) (sym loader) (nodes_at_loader m nodes r.memory.callers.holder id v.loader (r.memory.callers.at_loader id v at)))
      (λ j u _ e. nodes_at_loader m nodes r.memory.callers.holder j u.loader (r.memory.callers.at_loader j u e))) idle
      (λ clean. r.memory.callers.spare_copy (none_before views id v w at (subst (λ o. IfSome o (λ h. h.stored ≡ false)) loader) clean))

  pub written : (words' : List ℕ) (m' : SharedWords) (history' : List Update) (shadow' : Shadow) → length words' ≡ length words → memory_of t words' ≡ m' → IsPrefix r.memory.history history'
      → CallersHold t m' (set views id w) history' → NodesHold t m'.nodes (set views id w) history' shadow' → ActiveCopy t m'.clock m'.copies history' → w.made ≡ v.made
      → ((s : NodeSight) → SightHolds t m.nodes r.memory.history r.memory.shadow s → SightHolds t m'.nodes history' shadow' s) → ((s : CopySight) → CopySightHolds t m.clock m.copies s → CopySightHolds t m'.clock m'.copies s)
      → Wrote v w → TableInvariant t words' (set views id w)
  written words' m' history' shadow' wide is longer callers nodes active made sights copies wrote =
      let same : total (λ u. u.made) (set views id w) ≡ total (λ u. u.made) views = total_same (λ u. u.made) views id v w at made in
      let over : (u : Log) → ObservationsHold t m r.memory.history (total (λ z. z.made) views + 1) r.memory.shadow u → ObservationsHold t m' history' (total (λ z. z.made) views + 1) shadow' u =
      observations_over t m m' r.memory.history history' (total (λ z. z.made) views + 1) (total (λ z. z.made) views + 1) r.memory.shadow shadow' sights copies longer (omega arith) in
      table_step t words views r id v w at stands words' m' wide is (record {
        history = history';
        callers = callers;
        shadow = shadow';
        nodes = nodes;
        active = active;
        observations = subst (λ c. (j : ℕ) (u : Log) → get_elem? (set views id w) j ≡ some u → ObservationsHold t m' history' (c + 1) shadow' u) (sym same)
            (after_step (λ _ u. ObservationsHold t m' history' (total (λ z. z.made) views + 1) shadow' u) views id w
            (observations_same t m' history' (total (λ z. z.made) views + 1) shadow' v w [] (no_more v w wrote.own (let turn = wrote.turn in omega (arith, turn)) wrote.loads) wrote.sights tt tt (over v (r.memory.observations id v at)))
            (λ j u _ there. over u (r.memory.observations j u there)));
      }) (λ _. still_after_turn words' v w wrote.turn wrote.loads (r.memory.observations id v at).earlier)
