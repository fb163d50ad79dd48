-- The lock of a node keeps the rule.
use Rattle.std.proofs.Common.{◌≡◌, ◌≢◌, ℕ, zero, suc, ◌+◌, ◌*◌, ◌/◌, ◌%◌, ◌^◌, ◌<◌, ◌≤◌, List, [], ◌∷◌, get_or, set, length-set, sym, refl, ap, ◌∙◌, subst, inl, inr, ⊎_elim, arith, ◌==◌, false, IsTrue, Option, Some, None, IfSome, IsSome, eq-eqb, ne_eqb, append-nil}
use Rattle.std.proofs.lemmas.Option.{none-some}
use Rattle.std.proofs.lemmas.List.Sums.{sum_by-cons}
use Rattle.std.specs.List.{AllByRecursion, count_by}
use mathlib.Core.Option.{some}
use native.Mathlib.Decide.{ℕ_discrete}
use lib.ListN.{get_elem?}
use Rattle.atomic_table.proofs.Lists.{set_here}
use Rattle.tree_shape.specs.declared.node.NodeBounds.{NodeBounds}
use Rattle.tree_laws.specs.Numbers.{times, once}
use Rattle.word_rule.specs.declared.log.Role.TheVariants as role
use Rattle.word_rule.specs.declared.log.Terms.{Terms}
use Rattle.word_rule.specs.declared.log.Holding.{Holding}
use Rattle.word_rule.specs.declared.log.NodeSight.{NodeSight}
use Rattle.word_rule.specs.declared.log.Log.{Log}
use Rattle.word_rule.specs.SharedWords.{NodeWords, SharedWords, memory_of, updated, node_counters}
use Rattle.word_rule.specs.Spelling.{SpellsNode}
use Rattle.word_rule.specs.Held.{held_of}
use Rattle.word_rule.specs.Logs.{is_nameless, load_of, after_load, own_list}
use Rattle.word_rule.specs.Steps.{after_marked_lock}
use Rattle.word_rule.specs.Callers.{total, IsLockedAt}
use Rattle.word_rule.specs.Nodes.{Shadow, NodesHold, HoldsNode, HoldingsHold, HeldBy, IsOpen, IsPlaced}
use Rattle.word_rule.specs.Observations.{SightHolds, IsFullCount, HadMembers, WasFull}
use Rattle.word_rule.specs.TableInvariant.{TableInvariant}
use Rattle.word_rule.specs.Plays.{Seated}
use Rattle.word_rule.proofs.Facts.{total_same, after_step, within, node_counters_at}
use Rattle.word_rule.proofs.Each.{all_map, all_of}
use Rattle.word_rule.proofs.Memories.{set_version}
use Rattle.word_rule.proofs.Standing.{even_is_open}
use Rattle.word_rule.proofs.CallersFrame.{IsLike, busy}
use Rattle.word_rule.proofs.NodesFrame.{holder_stays, lock_over}
use Rattle.word_rule.proofs.ObservationsFrame.{sight_over, observations_same}
use Rattle.word_rule.proofs.Frames.{Sit, still_after_load}
use Rattle.word_rule.proofs.Quiet.{quiet}
use Rattle.word_rule.proofs.Writes.{callers_over_nodes, written}

pub updated_here : {A : Type 0} (f : ℕ → A) (n : ℕ) (x : A) (k : ℕ) → k ≡ n → updated f n x k ≡ x
updated_here f n x k e = rw (eq-eqb k n e) refl

pub updated_other : {A : Type 0} (f : ℕ → A) (n : ℕ) (x : A) (k : ℕ) → k ≢ n → updated f n x k ≡ f k
updated_other f n x k ne = rw (ne_eqb k n ne) refl

-- a node that no lock is of
none_of : (n : ℕ) (held : List Holding) → AllByRecursion (λ h. h.node ≢ n) held → count_by (λ h. h.node == n) held ≡ 0
none_of n [] all = refl
none_of n (h ∷ held) all = let c = sum_by-cons (λ (g : Holding). once (g.node == n)) h held in let rest = none_of n held all.1 in let here : once (h.node == n) ≡ 0 = rw (ne_eqb h.node n all.0) refl in omega (arith, c, rest, here)

-- one version is at most all
pub one_counter : (versions : ℕ → ℕ) (n k : ℕ) → n < k → versions n / 4 ≤ node_counters versions k
one_counter versions n zero h = absurd (omega (arith, h))
one_counter versions n (suc k) h = go (ℕ_discrete n k) (one_counter versions n k)
  where
    go : Dec (n ≡ k) → (n < k → versions n / 4 ≤ node_counters versions k) → versions n / 4 ≤ versions k / 4 + node_counters versions k
    go (yes e) rest = let same : versions n ≡ versions k = ap versions e in omega (arith, same)
    go (no ne) rest = let l = rest (omega (arith, h, ne)) in omega (arith, l)

-- a load of a node's version word tells nothing of fullness
pub of_version : (t : Terms) (id : ℕ) (me : Seated) (s : Sit) (r : TableInvariant t s.words s.views) (n : ℕ) → WasFull t r.memory.history (total (λ u. u.made) s.views + 1) (own_list me.0.receipts) (load_of me.0 (4 + 36 * n) (get_or s.words (4 + 36 * n) 0))
of_version t id me s r n = record {
  count = λ _. all_of (λ h. IsFullCount (load_of me.0 (4 + 36 * n) (get_or s.words (4 + 36 * n) 0)) h → HadMembers t r.memory.history (own_list me.0.receipts) 10) (λ h full. absurd (let e = full.0 in omega (arith, e))) me.0.holdings.held;
  head = λ _ is _ _. absurd (omega (arith, is));
  highest = λ top. absurd (let e = top.0 in omega (arith, e));
}

module _ (t : Terms) (slots id : ℕ) (me : Seated) (caller : me.0.role ≡ role.Caller) where
  abbrev Holds : Sit → Type 0
  Holds s = TableInvariant t s.words s.views

  stands : is_nameless me.0.role ≡ false
  stands = ap is_nameless caller

  pub refused : (s : Sit) (r : Holds s) (n : ℕ) → get_elem? s.views id ≡ some me.0 → TableInvariant t (set s.words (4 + 36 * n) (get_or s.words (4 + 36 * n) 0)) (set s.views id (after_load (4 + 36 * n) (get_or s.words (4 + 36 * n) 0) me.0))
  refused s r n here =
      let found : ℕ = get_or s.words (4 + 36 * n) 0 in
      let w : Log = after_load (4 + 36 * n) found me.0 in
      quiet t s.words s.views r id me.0 w here (4 + 36 * n) (record { terms = refl; role = refl; past = refl; receipts = refl; allowance = refl; made = refl; lineage = refl }) refl refl (busy me.0 w caller)
      (r.memory.nodes.holdings id me.0 here) (λ _ h. h) (λ _. refl)
      (observations_same t (memory_of t s.words) r.memory.history (total (λ u. u.made) s.views + 1) r.memory.shadow me.0 w (load_of me.0 (4 + 36 * n) found ∷ []) (record { own = refl; turns = omega arith; loads = refl }) refl (of_version t id me s r n, tt) ((omega arith, omega arith), tt) (r.memory.observations id me.0 here))
      (λ alone. still_after_load s.words me.0 w (load_of me.0 (4 + 36 * n) found) refl refl refl (r.alone id me.0 here alone))

  module _ (n seen : ℕ) (inside : n < t.nodes) (s : Sit) (r : Holds s) (at : get_elem? s.views id ≡ some me.0) (hit : (memory_of t s.words).nodes.versions n ≡ seen) (even : seen % 2 ≡ 0)
      (mark : Option NodeBounds) (marks : IfSome mark (λ f. IsTrue (r.memory.shadow.live n) × IsPlaced (r.memory.shadow.settled n) f)) where
    abbrev words : NodeWords
    words = (memory_of t s.words).nodes

    abbrev words' : NodeWords
    words' = record (memory_of t s.words).nodes { versions = updated (memory_of t s.words).nodes.versions n (seen + 1) }

    abbrev shadow : Shadow
    shadow = r.memory.shadow

    abbrev shadow' : Shadow
    shadow' = record r.memory.shadow { holder = updated r.memory.shadow.holder n (Some id); stored = updated r.memory.shadow.stored n false }

    abbrev w : Log
    w = after_marked_lock mark n seen (r.memory.shadow.settled n) ((memory_of t s.words).nodes.contents n) me.0

    open_before : r.memory.shadow.holder n ≡ None
    open_before = even_is_open t (memory_of t s.words).nodes s.views r.memory.history r.memory.shadow r.memory.nodes n (ap (λ k. k % 2) hit ∙ even)

    was_open : ((memory_of t s.words).nodes.versions n % 4 ≡ 0) × SpellsNode ((memory_of t s.words).nodes.contents n) (r.memory.shadow.settled n)
    was_open = subst (IsOpen ((memory_of t s.words).nodes.versions n) ((memory_of t s.words).nodes.contents n) (r.memory.shadow.settled n)) open_before (r.memory.nodes.unlocked n inside)

    pub four : seen % 4 ≡ 0
    four = ap (λ k. k % 4) (sym hit) ∙ was_open.0

    -- no lock is of this node
    other_node : (j : ℕ) (h : Holding) → HoldsNode t (memory_of t s.words).nodes r.memory.shadow j h → h.node ≢ n
    other_node j h k e = none-some j (sym open_before ∙ (ap r.memory.shadow.holder (sym e) ∙ k.is_holder))

    same_lock : (j : ℕ) (h : Holding) → HoldsNode t (memory_of t s.words).nodes r.memory.shadow j h → HoldsNode t words' shadow' j h
    same_lock j h k = let far = other_node j h k in
        lock_over words'.versions shadow'.holder shadow'.stored j h (updated_other r.memory.shadow.holder n (Some id) h.node far) (subst (IsLockedAt h.version) (sym (updated_other (memory_of t s.words).nodes.versions n (seen + 1) h.node far)) k.locked) (sym (updated_other r.memory.shadow.stored n false h.node far)) k

    abbrev lock : Holding
    lock = record { node = n; version = seen; settled = r.memory.shadow.settled n; words = (memory_of t s.words).nodes.contents n; stored = false; mark = mark }

    new_lock : HoldsNode t words' shadow' id lock
    new_lock = record {
      within = inside;
      is_holder = updated_here r.memory.shadow.holder n (Some id) n refl;
      locked = subst (IsLockedAt seen) (sym (updated_here (memory_of t s.words).nodes.versions n (seen + 1) n refl)) (four, inl refl);
      as_now = refl;
      settled = refl;
      stored = sym (updated_here r.memory.shadow.stored n false n refl);
      clean = λ _. was_open.1;
      marked = marks;
      unmarked = λ _ _. was_open.1;
    }

    mine : HoldingsHold t words' shadow' id (after_marked_lock mark n seen (r.memory.shadow.settled n) ((memory_of t s.words).nodes.contents n) me.0).holdings
    mine = let h = r.memory.nodes.holdings id me.0 at in record {
      each = (new_lock, all_map (HoldsNode t (memory_of t s.words).nodes r.memory.shadow id) (HoldsNode t words' shadow' id) (same_lock id) me.0.holdings.held h.each);
      once = λ k. let c = sum_by-cons (λ (g : Holding). once (g.node == k)) lock me.0.holdings.held in once_with k (ℕ_discrete n k) c (h.once k);
      few_out = h.few_out;
    }
      where
        once_with : (k : ℕ) → Dec (n ≡ k) → count_by (λ g. g.node == k) (lock ∷ me.0.holdings.held) ≡ once (n == k) + count_by (λ g. g.node == k) me.0.holdings.held → count_by (λ g. g.node == k) me.0.holdings.held ≤ 1 → count_by (λ g. g.node == k) (lock ∷ me.0.holdings.held) ≤ 1
        once_with k (yes e) c few =
            let nobody : count_by (λ g. g.node == k) me.0.holdings.held ≡ 0 = subst (λ z. count_by (λ g. g.node == z) me.0.holdings.held ≡ 0) e (none_of n me.0.holdings.held (all_map (HoldsNode t (memory_of t s.words).nodes r.memory.shadow id) (λ g. g.node ≢ n) (other_node id) me.0.holdings.held (r.memory.nodes.holdings id me.0 at).each)) in
            let small : once (n == k) ≤ 1 = rw (eq-eqb n k e) (omega arith) in omega (arith, c, nobody, small)
        once_with k (no ne) c few = let nothing : once (n == k) ≡ 0 = rw (ne_eqb n k ne) refl in omega (arith, c, nothing, few)

    -- what is held stays held
    still_held : (k : ℕ) → IsSome (held_of k me.0.holdings.held) → IsSome (held_of k (lock ∷ me.0.holdings.held))
    still_held k h = go (ℕ_discrete n k)
      where
        go : Dec (n ≡ k) → IsSome (held_of k (lock ∷ me.0.holdings.held))
        go (yes e) = rw (eq-eqb n k e) refl
        go (no ne) = rw (ne_eqb n k ne) h

    nodes : NodesHold t words' (set s.views id w) r.memory.history shadow'
    nodes = record {
      lawful = r.memory.nodes.lawful;
      entries = r.memory.nodes.entries;
      unlocked = open_after;
      holdings = after_step (λ j z. HoldingsHold t words' shadow' j z.holdings) s.views id w mine
          (λ j u _ there. let h = r.memory.nodes.holdings j u there in record {
            each = all_map (HoldsNode t (memory_of t s.words).nodes r.memory.shadow j) (HoldsNode t words' shadow' j) (same_lock j) u.holdings.held h.each;
            once = h.once;
            few_out = h.few_out;
          });
      holders = holders_after;
      each_once = λ k. ap (λ z. once (r.memory.shadow.live k) + times k r.memory.shadow.free + z) (total_same (λ z. times k z.holdings.out) s.views id me.0 w at refl) ∙ r.memory.nodes.each_once k;
      chain = r.memory.nodes.chain;
    }
      where
        open_after : (k : ℕ) → k < t.nodes → IsOpen (updated (memory_of t s.words).nodes.versions n (seen + 1) k) ((memory_of t s.words).nodes.contents k) (r.memory.shadow.settled k) (updated r.memory.shadow.holder n (Some id) k)
        open_after k less = go (ℕ_discrete k n)
          where
            go : Dec (k ≡ n) → IsOpen (updated (memory_of t s.words).nodes.versions n (seen + 1) k) ((memory_of t s.words).nodes.contents k) (r.memory.shadow.settled k) (updated r.memory.shadow.holder n (Some id) k)
            go (yes e) = subst (IsOpen (updated (memory_of t s.words).nodes.versions n (seen + 1) k) ((memory_of t s.words).nodes.contents k) (r.memory.shadow.settled k)) (sym (updated_here r.memory.shadow.holder n (Some id) k e)) tt
            go (no ne) = subst (λ z. IsOpen z ((memory_of t s.words).nodes.contents k) (r.memory.shadow.settled k) (updated r.memory.shadow.holder n (Some id) k)) (sym (updated_other (memory_of t s.words).nodes.versions n (seen + 1) k ne))
                (subst (IsOpen ((memory_of t s.words).nodes.versions k) ((memory_of t s.words).nodes.contents k) (r.memory.shadow.settled k)) (sym (updated_other r.memory.shadow.holder n (Some id) k ne)) (r.memory.nodes.unlocked k less))

        holders_after : (k : ℕ) → HeldBy k (set s.views id w) (updated r.memory.shadow.holder n (Some id) k)
        holders_after k = go (ℕ_discrete k n)
          where
            go : Dec (k ≡ n) → HeldBy k (set s.views id w) (updated r.memory.shadow.holder n (Some id) k)
            go (yes e) = subst (HeldBy k (set s.views id w)) (sym (updated_here r.memory.shadow.holder n (Some id) k e)) (w, (set_here s.views id w (within s.views id me.0 at), rw (eq-eqb n k (sym e)) refl))
            go (no ne) = subst (HeldBy k (set s.views id w)) (sym (updated_other r.memory.shadow.holder n (Some id) k ne)) (holder_stays s.views id me.0 w at k (r.memory.shadow.holder k) (still_held k) (r.memory.nodes.holders k))

    -- a sight that stands stood before
    sights : (k : NodeSight) → SightHolds t (memory_of t s.words).nodes r.memory.history r.memory.shadow k → SightHolds t words' r.memory.history shadow' k
    sights k h = go (ℕ_discrete k.node n)
      where
        go : Dec (k.node ≡ n) → SightHolds t words' r.memory.history shadow' k
        go (yes e) =
            let word : updated (memory_of t s.words).nodes.versions n (seen + 1) k.node ≡ seen + 1 = updated_here (memory_of t s.words).nodes.versions n (seen + 1) k.node e in
            let before : (memory_of t s.words).nodes.versions k.node ≡ seen = ap (memory_of t s.words).nodes.versions e ∙ hit in
            let late = h.later in let ev = h.even in let fo = four in
            sight_over t (memory_of t s.words).nodes words' r.memory.history r.memory.history r.memory.shadow shadow' k (subst (λ z. k.version ≤ z) (sym word) (omega (arith, late, before)))
            (λ st. record {
              stands = ⊎_elim (λ (same : updated (memory_of t s.words).nodes.versions n (seen + 1) k.node ≡ k.version). absurd (omega (arith, same, word, ev, fo)))
                  (λ (locked : IsLockedAt k.version (updated (memory_of t s.words).nodes.versions n (seen + 1) k.node) × (updated r.memory.shadow.stored n false k.node ≡ false)).
                  inl (⊎_elim (λ (one : updated (memory_of t s.words).nodes.versions n (seen + 1) k.node ≡ k.version + 1). omega (arith, one, word, before)) (λ (three : updated (memory_of t s.words).nodes.versions n (seen + 1) k.node ≡ k.version + 3). absurd (omega (arith, three, word, ev, fo))) locked.0.1)) st;
              contents = refl;
              settled = refl;
              live = refl;
            }) ([], append-nil r.memory.history) h
        go (no ne) =
            let word : updated (memory_of t s.words).nodes.versions n (seen + 1) k.node ≡ (memory_of t s.words).nodes.versions k.node = updated_other (memory_of t s.words).nodes.versions n (seen + 1) k.node ne in
            let clean : updated r.memory.shadow.stored n false k.node ≡ r.memory.shadow.stored k.node = updated_other r.memory.shadow.stored n false k.node ne in
            sight_over t (memory_of t s.words).nodes words' r.memory.history r.memory.history r.memory.shadow shadow' k (subst (λ z. k.version ≤ z) (sym word) h.later)
            (λ st. record {
              stands = ⊎_elim (λ (same : updated (memory_of t s.words).nodes.versions n (seen + 1) k.node ≡ k.version). inl (sym word ∙ same))
                  (λ (locked : IsLockedAt k.version (updated (memory_of t s.words).nodes.versions n (seen + 1) k.node) × (updated r.memory.shadow.stored n false k.node ≡ false)). inr (subst (IsLockedAt k.version) word locked.0, sym clean ∙ locked.1)) st;
              contents = refl;
              settled = refl;
              live = refl;
            }) ([], append-nil r.memory.history) h

    pub locked : TableInvariant t (set s.words (4 + 36 * n) (seen + 1)) (set s.views id w)
    locked =
        let m : SharedWords = memory_of t s.words in
        let like : IsLike me.0 w = record { terms = refl; role = refl; past = refl; receipts = refl; allowance = refl; made = refl; lineage = refl } in
        let sum = node_counters_at m.nodes.versions n (seen + 1) t.nodes inside in let f = four in let before = hit in
        written t s.words s.views r id me.0 w at stands (set s.words (4 + 36 * n) (seen + 1)) (record m { nodes = words' }) r.memory.history shadow' (length-set s.words (4 + 36 * n) (seen + 1)) (set_version t s.words r.wide (seen + 1) n inside) ([], append-nil r.memory.history)
        (callers_over_nodes t s.words s.views r id me.0 w at stands words' like refl (omega (arith, sum, f, before)) (busy me.0 w caller)) nodes r.memory.active refl sights (λ k h. h) (record { own = refl; sights = refl; loads = refl; turn = omega arith })

    pub bounded : seen < 2 ^ 63
    bounded = let c = r.memory.callers.counted in let o = one_counter (memory_of t s.words).nodes.versions n t.nodes inside in let before = hit in omega (arith, c, o, before)
