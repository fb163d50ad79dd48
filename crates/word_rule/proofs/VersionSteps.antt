-- A step that changes the version word of a node, and of the rest no more than who holds the node: it keeps the rule where what it makes of locks does.
use Rattle.std.proofs.Common.{◌≡◌, ◌≢◌, ℕ, ◌+◌, ◌*◌, ◌/◌, ◌%◌, ◌<◌, ◌≤◌, ◌⊎◌, [], set, length-set, sym, refl, ap, ◌∙◌, subst, arith, false, Option, IsSome, append-nil}
use mathlib.Core.Option.{some}
use native.Mathlib.Decide.{ℕ_discrete}
use lib.ListN.{get_elem?}
use Rattle.tree_laws.specs.Numbers.{times, once}
use Rattle.word_rule.specs.declared.log.Role.TheVariants as role
use Rattle.word_rule.specs.declared.log.Terms.{Terms}
use Rattle.word_rule.specs.declared.log.NodeSight.{NodeSight}
use Rattle.word_rule.specs.declared.log.Log.{Log}
use Rattle.word_rule.specs.SharedWords.{NodeWords, SharedWords, memory_of, updated}
use Rattle.word_rule.specs.Held.{held_of}
use Rattle.word_rule.specs.Logs.{is_nameless, weight}
use Rattle.word_rule.specs.Callers.{IsLockedAt}
use Rattle.word_rule.specs.Nodes.{Shadow, NodesHold, HoldingsHold, HeldBy, IsOpen}
use Rattle.word_rule.specs.Observations.{SightHolds}
use Rattle.word_rule.specs.TableInvariant.{TableInvariant}
use Rattle.word_rule.proofs.Facts.{total_same, after_step, node_counters_at}
use Rattle.word_rule.proofs.Memories.{set_version}
use Rattle.word_rule.proofs.CallersFrame.{IsLike, busy}
use Rattle.word_rule.proofs.NodesFrame.{holder_stays}
use Rattle.word_rule.proofs.ObservationsFrame.{sight_over}
use Rattle.word_rule.proofs.Frames.{Sit}
use Rattle.word_rule.proofs.Writes.{Wrote, callers_over_nodes, written}
use Rattle.word_rule.proofs.NodeLocks.{updated_here, updated_other}

module _ (t : Terms) (id : ℕ) (v w : Log) (caller : v.role ≡ role.Caller) (n x : ℕ) (inside : n < t.nodes) (s : Sit) (r : TableInvariant t s.words s.views) (at : get_elem? s.views id ≡ some v) (holder : ℕ → Option ℕ) (same : (k : ℕ) → k ≢ n → holder k ≡ r.memory.shadow.holder k) where
  abbrev pub words' : NodeWords
  words' = record (memory_of t s.words).nodes { versions = updated (memory_of t s.words).nodes.versions n x }

  abbrev pub shadow' : Shadow
  shadow' = record r.memory.shadow { holder = holder }

  -- what the step owes of the lock
  pub record OnLock : Type 0 where
    pub mine : HoldingsHold t words' shadow' id w.holdings
    pub others : (j : ℕ) (u : Log) → j ≢ id → get_elem? s.views j ≡ some u → HoldingsHold t words' shadow' j u.holdings
    pub open_then : IsOpen x ((memory_of t s.words).nodes.contents n) (r.memory.shadow.settled n) (holder n)
    pub held_then : HeldBy n (set s.views id w) (holder n)
    pub kept : (k : ℕ) → k ≢ n → IsSome (held_of k v.holdings.held) → IsSome (held_of k w.holdings.held)
    -- a version that was is no higher, and one at which a sight stands afterwards was there
    pub later : (k : ℕ) → k % 4 ≡ 0 → k ≤ (memory_of t s.words).nodes.versions n → k ≤ x
    pub stood : (k : ℕ) → k % 4 ≡ 0 → k ≤ (memory_of t s.words).nodes.versions n → (x ≡ k) ⊎ (IsLockedAt k x × (r.memory.shadow.stored n ≡ false))
        → ((memory_of t s.words).nodes.versions n ≡ k) ⊎ (IsLockedAt k ((memory_of t s.words).nodes.versions n) × (r.memory.shadow.stored n ≡ false))

  module _ (lock : OnLock) (out : w.holdings.out ≡ v.holdings.out) where
    nodes : NodesHold t words' (set s.views id w) r.memory.history shadow'
    nodes = record {
      lawful = r.memory.nodes.lawful;
      entries = r.memory.nodes.entries;
      unlocked = open_after;
      holdings = after_step (λ j z. HoldingsHold t words' shadow' j z.holdings) s.views id w lock.mine lock.others;
      holders = holders_after;
      each_once = λ k. ap (λ z. once (r.memory.shadow.live k) + times k r.memory.shadow.free + z) (total_same (λ z. times k z.holdings.out) s.views id v w at (ap (times k) out)) ∙ r.memory.nodes.each_once k;
      chain = r.memory.nodes.chain;
    }
      where
        open_after : (k : ℕ) → k < t.nodes → IsOpen (updated (memory_of t s.words).nodes.versions n x k) ((memory_of t s.words).nodes.contents k) (r.memory.shadow.settled k) (holder k)
        open_after k less = go (ℕ_discrete k n)
          where
            go : Dec (k ≡ n) → IsOpen (updated (memory_of t s.words).nodes.versions n x k) ((memory_of t s.words).nodes.contents k) (r.memory.shadow.settled k) (holder k)
            go (yes e) = subst (λ z. IsOpen z ((memory_of t s.words).nodes.contents k) (r.memory.shadow.settled k) (holder k)) (sym (updated_here (memory_of t s.words).nodes.versions n x k e))
                (subst (λ z. IsOpen x ((memory_of t s.words).nodes.contents z) (r.memory.shadow.settled z) (holder z)) (sym e) lock.open_then)
            go (no ne) = subst (λ z. IsOpen z ((memory_of t s.words).nodes.contents k) (r.memory.shadow.settled k) (holder k)) (sym (updated_other (memory_of t s.words).nodes.versions n x k ne))
                (subst (IsOpen ((memory_of t s.words).nodes.versions k) ((memory_of t s.words).nodes.contents k) (r.memory.shadow.settled k)) (sym (same k ne)) (r.memory.nodes.unlocked k less))

        holders_after : (k : ℕ) → HeldBy k (set s.views id w) (holder k)
        holders_after k = go (ℕ_discrete k n)
          where
            go : Dec (k ≡ n) → HeldBy k (set s.views id w) (holder k)
            go (yes e) = subst (λ z. HeldBy z (set s.views id w) (holder z)) (sym e) lock.held_then
            go (no ne) = subst (HeldBy k (set s.views id w)) (sym (same k ne)) (holder_stays s.views id v w at k (r.memory.shadow.holder k) (lock.kept k ne) (r.memory.nodes.holders k))

    sights : (k : NodeSight) → SightHolds t (memory_of t s.words).nodes r.memory.history r.memory.shadow k → SightHolds t words' r.memory.history shadow' k
    sights k h = go (ℕ_discrete k.node n)
      where
        go : Dec (k.node ≡ n) → SightHolds t words' r.memory.history shadow' k
        go (yes e) =
            let word : updated (memory_of t s.words).nodes.versions n x k.node ≡ x = updated_here (memory_of t s.words).nodes.versions n x k.node e in
            sight_over t (memory_of t s.words).nodes words' r.memory.history r.memory.history r.memory.shadow shadow' k (subst (λ z. k.version ≤ z) (sym word) (lock.later k.version h.even (subst (λ z. k.version ≤ (memory_of t s.words).nodes.versions z) e h.later)))
            (λ st. record {
              stands = subst (λ z. ((memory_of t s.words).nodes.versions z ≡ k.version) ⊎ (IsLockedAt k.version ((memory_of t s.words).nodes.versions z) × (r.memory.shadow.stored z ≡ false))) (sym e)
                  (lock.stood k.version h.even (subst (λ z. k.version ≤ (memory_of t s.words).nodes.versions z) e h.later) (subst (λ z. (x ≡ k.version) ⊎ (IsLockedAt k.version x × (r.memory.shadow.stored z ≡ false))) e (subst (λ z. (z ≡ k.version) ⊎ (IsLockedAt k.version z × (r.memory.shadow.stored k.node ≡ false))) word st)));
              contents = refl;
              settled = refl;
              live = refl;
            }) ([], append-nil r.memory.history) h
        go (no ne) =
            let word : updated (memory_of t s.words).nodes.versions n x k.node ≡ (memory_of t s.words).nodes.versions k.node = updated_other (memory_of t s.words).nodes.versions n x k.node ne in
            sight_over t (memory_of t s.words).nodes words' r.memory.history r.memory.history r.memory.shadow shadow' k (subst (λ z. k.version ≤ z) (sym word) h.later)
            (λ st. record {
              stands = subst (λ z. (z ≡ k.version) ⊎ (IsLockedAt k.version z × (r.memory.shadow.stored k.node ≡ false))) word st;
              contents = refl;
              settled = refl;
              live = refl;
            }) ([], append-nil r.memory.history) h

    pub stepped_version : IsLike v w → w.loader ≡ v.loader → x / 4 + w.budget.credit ≤ (memory_of t s.words).nodes.versions n / 4 + v.budget.credit → Wrote v w → TableInvariant t (set s.words (4 + 36 * n) x) (set s.views id w)
    stepped_version like loader fewer wrote =
        let m : SharedWords = memory_of t s.words in
        let sum = node_counters_at m.nodes.versions n x t.nodes inside in
        written t s.words s.views r id v w at (ap is_nameless caller) (set s.words (4 + 36 * n) x) (record m { nodes = words' }) r.memory.history shadow' (length-set s.words (4 + 36 * n) x) (set_version t s.words r.wide x n inside) ([], append-nil r.memory.history)
        (callers_over_nodes t s.words s.views r id v w at (ap is_nameless caller) words' like loader (omega (arith, sum, fewer)) (λ zero_weight. busy v w caller (ap weight (sym like.role) ∙ zero_weight))) nodes r.memory.active like.made sights (λ k h. h) wrote
