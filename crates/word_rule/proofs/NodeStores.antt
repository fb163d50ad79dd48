-- A store in a node keeps the rule: no sight of it stands afterwards.
use Rattle.std.proofs.Common.{◌≡◌, ◌≢◌, ℕ, ◌+◌, ◌-◌, ◌*◌, ◌%◌, ◌<◌, ◌≤◌, ◌⊎◌, List, [], ◌∷◌, set, length-set, sym, refl, ap, ◌∙◌, subst, inl, inr, ⊎_elim, arith, ◌==◌, nat_lt, Bool, true, false, IsTrue, true≢false, Option, Some, None, IfSome, IsSome, is_some, eq-eqb, ne_eqb, append-nil, if◌then◌else◌}
use Rattle.std.proofs.lemmas.Option.{same_Some}
use mathlib.Core.Option.{none, some}
use native.Mathlib.Decide.{ℕ_discrete}
use lib.ListN.{get_elem?}
use Rattle.atomic_table.specs.Table.{step, keeps, Allows}
use Rattle.atomic_table.proofs.Lists.{set_here}
use Rattle.tree_shape.specs.declared.node.NodeBounds.{NodeBounds}
use Rattle.tree_laws.specs.Numbers.{times, once, is_among}
use Rattle.tree_laws.proofs.Times.{once_most}
use Rattle.word_rule.specs.declared.log.Role.TheVariants as role
use Rattle.word_rule.specs.declared.log.Terms.{Terms}
use Rattle.word_rule.specs.declared.log.Holding.{Holding}
use Rattle.word_rule.specs.declared.log.NodeSight.{NodeSight}
use Rattle.word_rule.specs.declared.log.Log.{Log}
use Rattle.word_rule.specs.SharedWords.{NodeWords, SharedWords, memory_of, updated}
use Rattle.word_rule.specs.Spelling.{node_word}
use Rattle.word_rule.specs.Held.{held_of}
use Rattle.word_rule.specs.Logs.{is_nameless}
use Rattle.word_rule.specs.Exchange.{ChangeLaws, settle}
use Rattle.word_rule.specs.Steps.{MayStore, after_node_store, frees, store_in, stored_log}
use Rattle.word_rule.specs.Callers.{IsLockedAt}
use Rattle.word_rule.specs.Nodes.{Shadow, NodesHold, HoldsNode, HoldingsHold, IsChain, IsOpen, IsPlaced}
use Rattle.word_rule.specs.Observations.{SightHolds}
use Rattle.word_rule.specs.TableInvariant.{TableInvariant}
use Rattle.word_rule.specs.Plays.{Seated, stores_node}
use Rattle.word_rule.proofs.Facts.{total_same, part_of_total, after_step, set_twice, within}
use Rattle.word_rule.proofs.Each.{all_both, all_map, some_with}
use Rattle.word_rule.proofs.Memories.{set_content}
use Rattle.word_rule.proofs.Standing.{locked_is_odd, held_by}
use Rattle.word_rule.proofs.CallersFrame.{busy}
use Rattle.word_rule.proofs.NodesFrame.{holder_stays}
use Rattle.word_rule.proofs.ObservationsFrame.{sight_over}
use Rattle.word_rule.proofs.Frames.{Sit}
use Rattle.word_rule.proofs.Writes.{callers_over_nodes, written}
use Rattle.word_rule.proofs.NodeLoads.{ltb_true}
use Rattle.word_rule.proofs.HeadPlays.{RootLaw}
use Rattle.word_rule.proofs.Holders.{out_tells}
use Rattle.word_rule.proofs.NodeLocks.{updated_here, updated_other}
use Rattle.word_rule.proofs.Exchanging.{all_found}
use Rattle.word_rule.proofs.Exchanges.{DecidedLaw}
use Rattle.word_rule.proofs.Settling.{AgreementLaw, mapped_all, mapped_once, mapped_kept}
use Rattle.word_rule.proofs.Settles.{settles}

-- a lock with the word stored, where it is the node's
abbrev pub storing : ℕ → ℕ → ℕ → Holding → Holding
storing n at value h = if h.node == n then store_in at value h else h

-- a store changes the words of a lock alone, and that they were stored
storing_keeps : {A : Type 0} (f : Holding → A) (n at value : ℕ) (h : Holding) → f (store_in at value h) ≡ f h → f (storing n at value h) ≡ f h
storing_keeps f n at value h same = go (h.node == n)
  where
    go : (b : Bool) → f (if b then store_in at value h else h) ≡ f h
    go true = same
    go false = refl

pub storing_node : (n at value : ℕ) (h : Holding) → (storing n at value h).node ≡ h.node
storing_node n at value h = storing_keeps (λ g. g.node) n at value h refl

pub storing_version : (n at value : ℕ) (h : Holding) → (storing n at value h).version ≡ h.version
storing_version n at value h = storing_keeps (λ g. g.version) n at value h refl

module _ (t : Terms) (id : ℕ) (v : Log) (caller : v.role ≡ role.Caller) (n at value : ℕ) (hn : Holding) (found : held_of n v.holdings.held ≡ Some hn) (may : IsSome hn.mark ⊎ IsTrue (is_among v.holdings.out n)) (low : 1 ≤ at) (high : at ≤ 35) (s : Sit) (r : TableInvariant t s.words s.views) (here : get_elem? s.views id ≡ some v) where
  abbrev w : Log
  w = stored_log n at value v

  abbrev words' : NodeWords
  words' = record (memory_of t s.words).nodes { contents = updated (memory_of t s.words).nodes.contents n (set ((memory_of t s.words).nodes.contents n) (at - 1) value) }

  abbrev shadow' : Shadow
  shadow' = record r.memory.shadow { stored = updated r.memory.shadow.stored n true }

  abbrev change : Holding → Holding
  change = storing n at value

  my_lock : HoldsNode t (memory_of t s.words).nodes r.memory.shadow id hn × (hn.node ≡ n)
  my_lock = held_by t (memory_of t s.words).nodes s.views r.memory.history r.memory.shadow r.memory.nodes id v n hn here found

  inside : n < t.nodes
  inside = subst (λ k. k < t.nodes) my_lock.1 my_lock.0.within

  holder_n : r.memory.shadow.holder n ≡ Some id
  holder_n = ap r.memory.shadow.holder (sym my_lock.1) ∙ my_lock.0.is_holder

  -- it is live, or it is out and not live
  place_is : IsTrue (r.memory.shadow.live n) ⊎ ((0 < times n v.holdings.out) × (r.memory.shadow.live n ≡ false))
  place_is = ⊎_elim (λ (m : IsSome hn.mark). inl (by_mark hn.mark m my_lock.0.marked)) (λ (o : IsTrue (is_among v.holdings.out n)). inr (ltb_true 0 (times n v.holdings.out) o, dead (r.memory.shadow.live n) refl (ltb_true 0 (times n v.holdings.out) o))) may
    where
      by_mark : (o : Option NodeBounds) → IsSome o → IfSome o (λ f. IsTrue (r.memory.shadow.live hn.node) × IsPlaced hn.settled f) → IsTrue (r.memory.shadow.live n)
      by_mark None m told = absurd (true≢false (sym m))
      by_mark (Some f) m told = ap r.memory.shadow.live (sym my_lock.1) ∙ told.0

      dead : (b : Bool) → r.memory.shadow.live n ≡ b → 0 < times n v.holdings.out → r.memory.shadow.live n ≡ false
      dead false e out = e
      dead true e out =
          let below = part_of_total (λ u. times n u.holdings.out) s.views id v here in let all = r.memory.nodes.each_once n in let most : once (nat_lt n t.nodes) ≤ 1 = once_most (nat_lt n t.nodes) in
          let one : once (r.memory.shadow.live n) ≡ 1 = ap once e in absurd (omega (arith, below, all, most, one, out))

  -- so it isn't free
  not_free : times n r.memory.shadow.free ≡ 0
  not_free =
      let below = part_of_total (λ u. times n u.holdings.out) s.views id v here in let all = r.memory.nodes.each_once n in let most : once (nat_lt n t.nodes) ≤ 1 = once_most (nat_lt n t.nodes) in
      ⊎_elim (λ (l : IsTrue (r.memory.shadow.live n)). (let one : once (r.memory.shadow.live n) ≡ 1 = ap once l in omega (arith, below, all, most, one)))
      (λ (o : (0 < times n v.holdings.out) × (r.memory.shadow.live n ≡ false)). (let out = o.0 in omega (arith, below, all, most, out))) place_is

  elsewhere : (k : ℕ) → k ≢ n → words'.contents k ≡ (memory_of t s.words).nodes.contents k
  elsewhere k far = updated_other (memory_of t s.words).nodes.contents n (set ((memory_of t s.words).nodes.contents n) (at - 1) value) k far

  chain : (free : List ℕ) (head : ℕ) → times n free ≡ 0 → IsChain (memory_of t s.words).nodes.contents head free → IsChain words'.contents head free
  chain [] head gone c = c
  chain (k ∷ free) head gone c =
      let far : k ≢ n = (λ e. (let one : once (n == k) ≡ 1 = rw (eq-eqb n k (sym e)) refl in omega (arith, gone, one))) in
      let same = elsewhere k far in
      (c.0, c.1, ap (λ ws. node_word ws 1) same ∙ c.2, chain free (node_word (words'.contents k) 6) (omega (arith, gone)) (subst (λ z. IsChain (memory_of t s.words).nodes.contents z free) (ap (λ ws. node_word ws 6) (sym same)) c.3))

  -- the lock of another node
  other_lock : (j : ℕ) (g : Holding) → g.node ≢ n → HoldsNode t (memory_of t s.words).nodes r.memory.shadow j g → HoldsNode t words' shadow' j g
  other_lock j g far k = record {
    within = k.within;
    is_holder = k.is_holder;
    locked = k.locked;
    as_now = k.as_now ∙ sym (elsewhere g.node far);
    settled = k.settled;
    stored = k.stored ∙ sym (updated_other r.memory.shadow.stored n true g.node far);
    clean = k.clean;
    marked = k.marked;
    unmarked = k.unmarked;
  }

  -- a lock afterwards
  new_lock : (h : Holding) → held_of h.node v.holdings.held ≡ Some h → HoldsNode t (memory_of t s.words).nodes r.memory.shadow id h → HoldsNode t words' shadow' id (change h)
  new_lock h is k = go (ℕ_discrete h.node n)
    where
      go : Dec (h.node ≡ n) → HoldsNode t words' shadow' id (change h)
      go (yes e) =
          let same : h ≡ hn = same_Some _ _ (sym is ∙ (ap (λ z. held_of z v.holdings.held) e ∙ found)) in
          let lock : HoldsNode t words' shadow' id (store_in at value h) = record {
            within = k.within;
            is_holder = k.is_holder;
            locked = k.locked;
            as_now = ap (λ ws. set ws (at - 1) value) (k.as_now ∙ ap (memory_of t s.words).nodes.contents e) ∙ sym (updated_here (memory_of t s.words).nodes.contents n (set ((memory_of t s.words).nodes.contents n) (at - 1) value) h.node e);
            settled = k.settled;
            stored = sym (updated_here r.memory.shadow.stored n true h.node e);
            clean = λ c. absurd (true≢false c);
            marked = k.marked;
            unmarked = λ gone alive. absurd (⊎_elim (λ (m : IsSome hn.mark). true≢false (sym m ∙ ap is_some (ap (λ z. z.mark) (sym same) ∙ gone)))
                (λ (o : IsTrue (is_among v.holdings.out n)). ⊎_elim (λ (l : IsTrue (r.memory.shadow.live n)). out_live l o) (λ (d : (0 < times n v.holdings.out) × (r.memory.shadow.live n ≡ false)). true≢false (sym alive ∙ (ap r.memory.shadow.live e ∙ d.1))) place_is) may);
          } in rw (eq-eqb h.node n e) lock
        where
          out_live : IsTrue (r.memory.shadow.live n) → IsTrue (is_among v.holdings.out n) → ⊥
          out_live l o =
              let some_times = ltb_true 0 (times n v.holdings.out) o in
              let below = part_of_total (λ u. times n u.holdings.out) s.views id v here in let all = r.memory.nodes.each_once n in let most : once (nat_lt n t.nodes) ≤ 1 = once_most (nat_lt n t.nodes) in
              let one : once (r.memory.shadow.live n) ≡ 1 = ap once l in omega (arith, some_times, below, all, most, one)
      go (no ne) = rw (ne_eqb h.node n ne) (other_lock id h ne k)

  others_lock : (j : ℕ) (g : Holding) → j ≢ id → HoldsNode t (memory_of t s.words).nodes r.memory.shadow j g → HoldsNode t words' shadow' j g
  others_lock j g other k = other_lock j g (λ e. other (same_Some _ _ (sym k.is_holder ∙ (ap r.memory.shadow.holder e ∙ holder_n)))) k

  nodes : NodesHold t words' (set s.views id w) r.memory.history shadow'
  nodes = record {
    lawful = r.memory.nodes.lawful;
    entries = r.memory.nodes.entries;
    unlocked = open_after;
    holdings = after_step (λ j z. HoldingsHold t words' shadow' j z.holdings) s.views id w
        (let h = r.memory.nodes.holdings id v here in record {
          each = mapped_all change (storing_node n at value) (HoldsNode t words' shadow' id) v.holdings.held
              (all_both (λ a. held_of a.node v.holdings.held ≡ Some a) (HoldsNode t (memory_of t s.words).nodes r.memory.shadow id) (λ a. HoldsNode t words' shadow' id (change a)) new_lock v.holdings.held (all_found v.holdings.held h.once) h.each);
          once = λ k. (let same = mapped_once change (storing_node n at value) k v.holdings.held in let b = h.once k in omega (arith, same, b));
          few_out = h.few_out;
        })
        (λ j u other there. let h = r.memory.nodes.holdings j u there in record {
          each = all_map (HoldsNode t (memory_of t s.words).nodes r.memory.shadow j) (HoldsNode t words' shadow' j) (λ g k. others_lock j g other k) u.holdings.held h.each;
          once = h.once;
          few_out = h.few_out;
        });
    holders = λ k. holder_stays s.views id v w here k (r.memory.shadow.holder k) (λ h. mapped_kept change (storing_node n at value) k v.holdings.held h) (r.memory.nodes.holders k);
    each_once = λ k. ap (λ z. once (r.memory.shadow.live k) + times k r.memory.shadow.free + z) (total_same (λ z. times k z.holdings.out) s.views id v w here refl) ∙ r.memory.nodes.each_once k;
    chain = chain r.memory.shadow.free (memory_of t s.words).nodes.head not_free r.memory.nodes.chain;
  }
    where
      open_after : (k : ℕ) → k < t.nodes → IsOpen ((memory_of t s.words).nodes.versions k) (words'.contents k) (r.memory.shadow.settled k) (r.memory.shadow.holder k)
      open_after k less = go (ℕ_discrete k n)
        where
          go : Dec (k ≡ n) → IsOpen ((memory_of t s.words).nodes.versions k) (words'.contents k) (r.memory.shadow.settled k) (r.memory.shadow.holder k)
          go (yes e) = subst (IsOpen ((memory_of t s.words).nodes.versions k) (words'.contents k) (r.memory.shadow.settled k)) (sym (ap r.memory.shadow.holder e ∙ holder_n)) tt
          go (no ne) = subst (λ ws. IsOpen ((memory_of t s.words).nodes.versions k) ws (r.memory.shadow.settled k) (r.memory.shadow.holder k)) (sym (elsewhere k ne)) (r.memory.nodes.unlocked k less)

  sights : (k : NodeSight) → SightHolds t (memory_of t s.words).nodes r.memory.history r.memory.shadow k → SightHolds t words' r.memory.history shadow' k
  sights k p = go (ℕ_discrete k.node n)
    where
      go : Dec (k.node ≡ n) → SightHolds t words' r.memory.history shadow' k
      go (yes e) =
          let odd = locked_is_odd hn.version ((memory_of t s.words).nodes.versions k.node) (subst (λ z. IsLockedAt hn.version ((memory_of t s.words).nodes.versions z)) (my_lock.1 ∙ sym e) my_lock.0.locked) in
          let ev = p.even in
          sight_over t (memory_of t s.words).nodes words' r.memory.history r.memory.history r.memory.shadow shadow' k p.later
          (λ st. absurd (⊎_elim (λ (same : (memory_of t s.words).nodes.versions k.node ≡ k.version). odd (ap (λ z. z % 4) same ∙ ev))
          (λ (l : IsLockedAt k.version ((memory_of t s.words).nodes.versions k.node) × (updated r.memory.shadow.stored n true k.node ≡ false)). true≢false (sym (updated_here r.memory.shadow.stored n true k.node e) ∙ l.1)) st)) ([], append-nil r.memory.history) p
      go (no ne) =
          let clean : updated r.memory.shadow.stored n true k.node ≡ r.memory.shadow.stored k.node = updated_other r.memory.shadow.stored n true k.node ne in
          sight_over t (memory_of t s.words).nodes words' r.memory.history r.memory.history r.memory.shadow shadow' k p.later
          (λ st. record {
            stands = subst (λ b. ((memory_of t s.words).nodes.versions k.node ≡ k.version) ⊎ (IsLockedAt k.version ((memory_of t s.words).nodes.versions k.node) × (b ≡ false))) clean st;
            contents = elsewhere k.node ne;
            settled = refl;
            live = refl;
          }) ([], append-nil r.memory.history) p

  pub stored_table : TableInvariant t (set s.words (4 + 36 * n + at) value) (set s.views id (stored_log n at value v))
  stored_table =
      let m : SharedWords = memory_of t s.words in
      written t s.words s.views r id v w here (ap is_nameless caller) (set s.words (4 + 36 * n + at) value) (record m { nodes = words' }) r.memory.history shadow' (length-set s.words (4 + 36 * n + at) value) (set_content t s.words r.wide value n at inside low high) ([], append-nil r.memory.history)
      (callers_over_nodes t s.words s.views r id v w here (ap is_nameless caller) words' (record { terms = refl; role = refl; past = refl; receipts = refl; allowance = refl; made = refl; lineage = refl }) refl (omega arith) (busy v w caller)) nodes r.memory.active refl sights (λ k p. p)
      (record { own = refl; sights = refl; loads = refl; turn = omega arith })

module _ (t : Terms) (slots id : ℕ) (me : Seated) (caller : me.0.role ≡ role.Caller) (laws : ChangeLaws) (agreement : AgreementLaw) (decided : DecidedLaw) (root : RootLaw) where
  abbrev Holds : Sit → Type 0
  Holds s = TableInvariant t s.words s.views

  pub stores_in_node : (n at value : ℕ) → MayStore n me.0 → 1 ≤ at → at ≤ 35 → Allows Holds slots id me (4 + 36 * n + at) (λ _. value) (stores_node n at (step slots (4 + 36 * n + at) value 0 none) me)
  stores_in_node n at value may low high s r deep here small =
      let h = some_with (held_of n me.0.holdings.held) (λ (h : Holding). IsSome h.mark ⊎ IsTrue (is_among me.0.holdings.out n)) may in
      let w : Log = stored_log n at value me.0 in
      let stored : TableInvariant t (set s.words (4 + 36 * n + at) value) (set s.views id w) = stored_table t id me.0 caller n at value h.0 h.1.0 h.1.1 low high s r here in
      (after_node_store n at value me.0, keeps, tt, go (frees n at value me.0) stored, (refl, out_tells t (memory_of t s.words).nodes s.views r.memory.history r.memory.shadow r.memory.nodes id me.0 here root n))
    where
      go : (b : Bool) → TableInvariant t (set s.words (4 + 36 * n + at) value) (set s.views id (stored_log n at value me.0))
          → TableInvariant t (set s.words (4 + 36 * n + at) value) (set s.views id (if b then settle None (stored_log n at value me.0) else stored_log n at value me.0))
      go false stored = stored
      go true stored =
          subst (TableInvariant t (set s.words (4 + 36 * n + at) value)) (set_twice s.views id (stored_log n at value me.0) (settle None (stored_log n at value me.0)))
          (settles t id (stored_log n at value me.0) caller (set s.words (4 + 36 * n + at) value) (set s.views id (stored_log n at value me.0)) stored (set_here s.views id (stored_log n at value me.0) (within s.views id me.0 here)) laws agreement decided)

  -- the same as the code has it
  pub stores_node_of : (n at k j place value : ℕ) → k ≡ n → j ≡ at → place ≡ 4 + 36 * n + at → MayStore n me.0 → 1 ≤ at → at ≤ 35 → Allows Holds slots id me place (λ _. value) (stores_node k j (step slots place value 0 none) me)
  stores_node_of n at k j place value node word is may low high =
      subst (λ p. Allows Holds slots id me p (λ _. value) (stores_node k j (step slots p value 0 none) me)) (sym is)
      (subst (λ i. Allows Holds slots id me (4 + 36 * n + at) (λ _. value) (stores_node i j (step slots (4 + 36 * n + at) value 0 none) me)) (sym node)
      (subst (λ i. Allows Holds slots id me (4 + 36 * n + at) (λ _. value) (stores_node n i (step slots (4 + 36 * n + at) value 0 none) me)) (sym word) (stores_in_node n at value may low high)))
