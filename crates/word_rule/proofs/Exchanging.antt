-- An exchange of settled contents keeps the tree, seen from one log, and what is said of nodes.
use Rattle.std.proofs.lemmas.Bool.{cases_Bool, and_parts, or_cases}
use Rattle.std.proofs.Common.{◌≡◌, ◌≢◌, ℕ, ◌+◌, ◌<◌, ◌≤◌, ◌⊎◌, List, [], ◌∷◌, map, sym, refl, ap, ◌∙◌, subst, inl, inr, ⊎_elim, arith, ◌==◌, ◌&&◌, ◌||◌, not, nat_lt, Bool, true, false, IsTrue, true≢false, Option, Some, None, IfSome, IsSome, is_some, eq-eqb, ne_eqb, if◌then◌else◌}
use Rattle.std.proofs.lemmas.Option.{none-some}
use Rattle.std.proofs.lemmas.List.Sums.{sum_by-cons}
use Rattle.std.specs.List.{AllByRecursion, filter, count_by}
use mathlib.Core.Option.{some}
use native.Mathlib.Decide.{ℕ_discrete}
use lib.ListN.{get_elem?}
use Rattle.reg_model.specs.declared.answer.Update.{Update}
use Rattle.tree_shape.specs.declared.node.NodeBounds.{NodeBounds}
use Rattle.tree_laws.specs.Trees.{Contents, HasEntry}
use Rattle.tree_laws.specs.Numbers.{times, once, is_among}
use Rattle.tree_laws.specs.Lawful.{IsLawfulTree}
use Rattle.tree_laws.specs.LocalChange.{either, reached_nodes, live_after, IsLawfulChange, IsSameChange, EntriesBecome}
use Rattle.tree_laws.proofs.Reach.{within_set}
use Rattle.tree_laws.proofs.Times.{times-append, once_most}
use Rattle.word_rule.specs.declared.log.Terms.{Terms}
use Rattle.word_rule.specs.declared.log.Holding.{Holding}
use Rattle.word_rule.specs.declared.log.Log.{Log}
use Rattle.word_rule.specs.SharedWords.{NodeWords}
use Rattle.word_rule.specs.Held.{held_of, settled_shape, settled_in, now_in, is_marked, marked_in}
use Rattle.word_rule.specs.Exchange.{ChangeLaws, is_fresh, exchanged_in, reached_in, is_reached, node_of, out_after, IsLawfulExchange}
use Rattle.word_rule.specs.Callers.{total}
use Rattle.word_rule.specs.Nodes.{Shadow, NodesHold, HoldsNode, IsPlaced}
use Rattle.word_rule.proofs.Facts.{part_of_total}
use Rattle.word_rule.proofs.Each.{held_is}
use Rattle.word_rule.proofs.NodeLoads.{ltb_true}

not_true : (b : Bool) → not b ≡ true → b ≡ false
not_true true h = absurd (true≢false (sym h))
not_true false h = refl

pub or_left : (a b : Bool) → a ≡ true → (a || b) ≡ true
or_left a b h = rw h refl

pub or_right : (a b : Bool) → b ≡ true → (a || b) ≡ true
or_right true b h = refl
or_right false b h = h

or_false : (a b : Bool) → (a || b) ≡ false → (a ≡ false) × (b ≡ false)
or_false true b h = absurd (true≢false h)
or_false false b h = (refl, h)

among : (xs : List ℕ) (n : ℕ) → is_among xs n ≡ true → 0 < times n xs
among xs n h = ltb_true 0 (times n xs) h

-- how often a number stands among those that a test passes
times_filter : (p : ℕ → Bool) (k : ℕ) (xs : List ℕ) → times k (filter p xs) ≡ (if p k then times k xs else 0)
times_filter p k [] = at (p k)
  where
    at : (b : Bool) → ◌≡◌ {A = ℕ} 0 (if b then 0 else 0)
    at true = refl
    at false = refl
times_filter p k (x ∷ xs) = go (ℕ_discrete k x) (p x) refl (times_filter p k xs)
  where
    go : Dec (k ≡ x) → (b : Bool) → p x ≡ b → times k (filter p xs) ≡ (if p k then times k xs else 0) → times k (if b then (x ∷ filter p xs) else filter p xs) ≡ (if p k then (once (k == x) + times k xs) else 0)
    go (yes e) true is rest =
        let here : p k ≡ true = ap p e ∙ is in let r : times k (filter p xs) ≡ times k xs = subst (λ z. times k (filter p xs) ≡ (if z then times k xs else 0)) here rest in
        subst (λ z. once (k == x) + times k (filter p xs) ≡ (if z then (once (k == x) + times k xs) else 0)) (sym here) (omega (arith, r))
    go (yes e) false is rest =
        let here : p k ≡ false = ap p e ∙ is in let r : times k (filter p xs) ≡ 0 = subst (λ z. times k (filter p xs) ≡ (if z then times k xs else 0)) here rest in
        subst (λ z. times k (filter p xs) ≡ (if z then (once (k == x) + times k xs) else 0)) (sym here) r
    go (no ne) true is rest =
        let other : once (k == x) ≡ 0 = rw (ne_eqb k x ne) refl in at (p k) other rest
      where
        at : (b : Bool) → once (k == x) ≡ 0 → times k (filter p xs) ≡ (if b then times k xs else 0) → once (k == x) + times k (filter p xs) ≡ (if b then (once (k == x) + times k xs) else 0)
        at true other r = omega (arith, r)
        at false other r = omega (arith, other, r)
    go (no ne) false is rest =
        let other : once (k == x) ≡ 0 = rw (ne_eqb k x ne) refl in at (p k) other rest
      where
        at : (b : Bool) → once (k == x) ≡ 0 → times k (filter p xs) ≡ (if b then times k xs else 0) → times k (filter p xs) ≡ (if b then (once (k == x) + times k xs) else 0)
        at true other r = omega (arith, other, r)
        at false other r = r

-- locks by their nodes
times_nodes : (k : ℕ) (held : List Holding) → times k (map node_of held) ≡ count_by (λ h. h.node == k) held
times_nodes k [] = refl
times_nodes k (h ∷ held) =
    let c = sum_by-cons (λ (g : Holding). once (g.node == k)) h held in let rest = times_nodes k held in
    let flip : once (k == h.node) ≡ once (h.node == k) = flipped (ℕ_discrete k h.node) in omega (arith, c, rest, flip)
  where
    flipped : Dec (k ≡ h.node) → once (k == h.node) ≡ once (h.node == k)
    flipped (yes e) = rw (eq-eqb k h.node e, eq-eqb h.node k (sym e)) refl
    flipped (no ne) = rw (ne_eqb k h.node ne, ne_eqb h.node k (λ z. ne (sym z))) refl

-- a lock that is found is counted, and where none is found none is
found_once : (n : ℕ) (held : List Holding) → IsSome (held_of n held) → 1 ≤ count_by (λ h. h.node == n) held
found_once n [] h = absurd (true≢false (sym h))
found_once n (g ∷ held) h = go (ℕ_discrete g.node n) (found_once n held) (sum_by-cons (λ (k : Holding). once (k.node == n)) g held)
  where
    go : Dec (g.node ≡ n) → (IsSome (held_of n held) → 1 ≤ count_by (λ h. h.node == n) held) → count_by (λ h. h.node == n) (g ∷ held) ≡ once (g.node == n) + count_by (λ h. h.node == n) held → 1 ≤ count_by (λ h. h.node == n) (g ∷ held)
    go (yes e) rest c = let one : once (g.node == n) ≡ 1 = rw (eq-eqb g.node n e) refl in omega (arith, c, one)
    go (no ne) rest c = let r = rest (rw (ne_eqb g.node n ne) at h) in omega (arith, c, r)

none_found : (n : ℕ) (held : List Holding) → held_of n held ≡ None → count_by (λ h. h.node == n) held ≡ 0
none_found n [] h = refl
none_found n (g ∷ held) h = go (ℕ_discrete g.node n) (none_found n held) (sum_by-cons (λ (k : Holding). once (k.node == n)) g held)
  where
    go : Dec (g.node ≡ n) → (held_of n held ≡ None → count_by (λ h. h.node == n) held ≡ 0) → count_by (λ h. h.node == n) (g ∷ held) ≡ once (g.node == n) + count_by (λ h. h.node == n) held → count_by (λ h. h.node == n) (g ∷ held) ≡ 0
    go (yes e) rest c = absurd (none-some g (sym (rw (eq-eqb g.node n e) at h)))
    go (no ne) rest c = let r = rest (rw (ne_eqb g.node n ne) at h) in let zero_here : once (g.node == n) ≡ 0 = rw (ne_eqb g.node n ne) refl in omega (arith, c, r, zero_here)

-- where each node is held at most once, a lock of the list is the one that is found by its node
pub all_found : (held : List Holding) → ((n : ℕ) → count_by (λ h. h.node == n) held ≤ 1) → AllByRecursion (λ h. held_of h.node held ≡ Some h) held
all_found [] few = tt
all_found (g ∷ held) few = (rw (eq-eqb g.node g.node refl) refl, later held (all_found held fewer) (none_of_node held one_left))
  where
    fewer : (n : ℕ) → count_by (λ h. h.node == n) held ≤ 1
    fewer n = let c = sum_by-cons (λ (k : Holding). once (k.node == n)) g held in let m = few n in omega (arith, c, m)

    one_left : count_by (λ h. h.node == g.node) held ≡ 0
    one_left = let c = sum_by-cons (λ (k : Holding). once (k.node == g.node)) g held in let m = few g.node in let one : once (g.node == g.node) ≡ 1 = rw (eq-eqb g.node g.node refl) refl in omega (arith, c, m, one)

    none_of_node : (hs : List Holding) → count_by (λ h. h.node == g.node) hs ≡ 0 → AllByRecursion (λ h. h.node ≢ g.node) hs
    none_of_node [] e = tt
    none_of_node (h ∷ hs) e = let c = sum_by-cons (λ (k : Holding). once (k.node == g.node)) h hs in
        ((λ same. let one : once (h.node == g.node) ≡ 1 = rw (eq-eqb h.node g.node same) refl in absurd (omega (arith, c, e, one))), none_of_node hs (omega (arith, c, e)))

    later : (hs : List Holding) → AllByRecursion (λ h. held_of h.node held ≡ Some h) hs → AllByRecursion (λ h. h.node ≢ g.node) hs → AllByRecursion (λ h. held_of h.node (g ∷ held) ≡ Some h) hs
    later [] a b = tt
    later (h ∷ hs) a b = (rw (ne_eqb g.node h.node (λ z. b.0 (sym z))) a.0, later hs a.1 b.1)

module _ (laws : ChangeLaws) (t : Terms) (words : NodeWords) (views : List Log) (history : List Update) (shadow : Shadow) (r : NodesHold t words views history shadow) (id : ℕ) (v : Log) (at : get_elem? views id ≡ some v)
    (update : Option Update) (top : ℕ) (group : ℕ → Bool) (ex : IsLawfulExchange v update top group) where
  abbrev fresh : ℕ → Bool
  fresh = is_fresh v.holdings.held v.holdings.out

  -- held and not live, but for what is out: these settle freely
  abbrev pub loose : ℕ → Bool
  loose k = is_some (held_of k v.holdings.held) && (not (marked_in v.holdings.held k) && not (shadow.live k))

  -- the settled contents afterwards, and what is live
  abbrev pub settled' : Contents
  settled' k = if either group loose k then now_in v.holdings.held k else shadow.settled k

  abbrev pub live' : ℕ → Bool
  live' = live_after shadow.live top group loose settled'

  -- a lock that is found
  lock_of : (k : ℕ) (h : Holding) → held_of k v.holdings.held ≡ Some h → HoldsNode t words shadow id h × (h.node ≡ k)
  lock_of k h found = held_is (HoldsNode t words shadow id) k v.holdings.held h (r.holdings id v at).each found

  -- a node that is marked is held and live, and has its settled content
  pub marked_lock : (k : ℕ) → marked_in v.holdings.held k ≡ true → (h : Holding) × ((held_of k v.holdings.held ≡ Some h) × (shadow.live k ≡ true) × (shadow.settled k ≡ h.settled))
  marked_lock k marked = go (held_of k v.holdings.held) refl marked
    where
      by_mark : (h : Holding) → held_of k v.holdings.held ≡ Some h → (o : Option NodeBounds) → h.mark ≡ o → is_some o ≡ true → (shadow.live k ≡ true) × (shadow.settled k ≡ h.settled)
      by_mark h is None e m = absurd (true≢false (sym m))
      by_mark h is (Some f) e m =
          let l = lock_of k h is in let told = subst (λ o. IfSome o (λ g. IsTrue (shadow.live h.node) × IsPlaced h.settled g)) e l.0.marked in
          (ap shadow.live (sym l.1) ∙ told.0, ap shadow.settled (sym l.1) ∙ sym l.0.settled)

      go : (o : Option Holding) → held_of k v.holdings.held ≡ o → is_marked o ≡ true → (h : Holding) × ((held_of k v.holdings.held ≡ Some h) × (shadow.live k ≡ true) × (shadow.settled k ≡ h.settled))
      go None is m = absurd (true≢false (sym m))
      go (Some h) is m = let b = by_mark h is h.mark refl m in (h, (is, b.0, b.1))

  pub group_lock : (k : ℕ) → group k ≡ true → (h : Holding) × ((held_of k v.holdings.held ≡ Some h) × (shadow.live k ≡ true) × (shadow.settled k ≡ h.settled))
  group_lock k g = marked_lock k (ex.grouped k g)

  -- a node that is out isn't live, and is out once
  pub fresh_out : (k : ℕ) → fresh k ≡ true → (shadow.live k ≡ false) × (times k v.holdings.out ≡ 1) × (times k shadow.free ≡ 0) × (total (λ z. times k z.holdings.out) views ≡ 1) × (once (nat_lt k t.nodes) ≡ 1)
  fresh_out k f =
      let parts = and_parts (is_some (held_of k v.holdings.held)) (is_among v.holdings.out k) f in
      let some_times = among v.holdings.out k parts.1 in
      let below = part_of_total (λ z. times k z.holdings.out) views id v at in
      let all = r.each_once k in
      let most = once_most (nat_lt k t.nodes) in
      (by_live (cases_Bool (shadow.live k)) some_times below all most, omega (arith, some_times, below, all, most), omega (arith, some_times, below, all, most), omega (arith, some_times, below, all, most), omega (arith, some_times, below, all, most))
    where
      by_live : (shadow.live k ≡ true) ⊎ (shadow.live k ≡ false) → 0 < times k v.holdings.out → times k v.holdings.out ≤ total (λ z. times k z.holdings.out) views → once (shadow.live k) + times k shadow.free + total (λ z. times k z.holdings.out) views ≡ once (nat_lt k t.nodes) → once (nat_lt k t.nodes) ≤ 1 → shadow.live k ≡ false
      by_live (inl l) a b c d = absurd (let one : once (shadow.live k) ≡ 1 = ap once l in omega (arith, a, b, c, d, one))
      by_live (inr l) a b c d = l

  pub fresh_loose : (k : ℕ) → fresh k ≡ true → loose k ≡ true
  fresh_loose k f =
      let parts = and_parts (is_some (held_of k v.holdings.held)) (is_among v.holdings.out k) f in
      let free = (fresh_out k f).0 in
      rw (parts.0, unmarked k free, free) refl
    where
      unmarked : (n : ℕ) → shadow.live n ≡ false → marked_in v.holdings.held n ≡ false
      unmarked n free = go (cases_Bool (marked_in v.holdings.held n))
        where
          go : (marked_in v.holdings.held n ≡ true) ⊎ (marked_in v.holdings.held n ≡ false) → marked_in v.holdings.held n ≡ false
          go (inl m) = absurd (true≢false (sym (marked_lock n m).1.1 ∙ free))
          go (inr m) = m

  pub loose_parts : (k : ℕ) → loose k ≡ true → (is_some (held_of k v.holdings.held) ≡ true) × (marked_in v.holdings.held k ≡ false) × (shadow.live k ≡ false)
  loose_parts k l =
      let a = and_parts (is_some (held_of k v.holdings.held)) (not (marked_in v.holdings.held k) && not (shadow.live k)) l in let b = and_parts (not (marked_in v.holdings.held k)) (not (shadow.live k)) a.1 in
      (a.0, not_true (marked_in v.holdings.held k) b.0, not_true (shadow.live k) b.1)

  top_group : group top ≡ true
  top_group = ex.change.change.top_grouped

  -- what is reached is of the group or out
  pub reached_inside : (k : ℕ) → is_reached v top group k ≡ true → either group fresh k ≡ true
  reached_inside k h = ⊎_elim (λ (e : k ≡ top). or_left (group k) (fresh k) (ap group e ∙ top_group)) (λ (e : IsTrue (either group fresh k)). e)
      (within_set (either group fresh) (exchanged_in v group) k (exchanged_in v group top).level top (among (reached_in v top group) k h))

  -- first over the tree's contents with the same fresh nodes
  abbrev mid : Contents
  mid k = if either group fresh k then now_in v.holdings.held k else shadow.settled k

  same_mid : IsSameChange top group fresh (settled_in v.holdings.held) (exchanged_in v group) shadow.settled shadow.live mid
  same_mid = record {
    before = λ k g. let l = group_lock k g in l.1.2 ∙ sym (ap settled_shape l.1.0);
    after = λ k h. let e = reached_inside k h in rw e refl;
    others_stay = λ k e. rw e refl;
    top_live = (group_lock top top_group).1.1;
    fresh_free = λ k f. (fresh_out k f).0;
  }

  change_mid : IsLawfulChange shadow.settled shadow.live top group fresh mid update
  change_mid = laws.transfer top group fresh (settled_in v.holdings.held) (marked_in v.holdings.held) (exchanged_in v group) shadow.settled shadow.live mid update ex.change same_mid

  reach_mid : reached_nodes top group fresh mid ≡ reached_in v top group
  reach_mid = laws.reached top group fresh (settled_in v.holdings.held) (marked_in v.holdings.held) (exchanged_in v group) shadow.settled shadow.live mid ex.change.change same_mid

  change_wide : IsLawfulChange shadow.settled shadow.live top group loose mid update
  change_wide = laws.widen shadow.settled shadow.live top group fresh loose mid update r.lawful.tree change_mid (λ k f. fresh_loose k f) (λ k l. (loose_parts k l).2)

  reach_wide : reached_nodes top group loose mid ≡ reached_in v top group
  reach_wide = laws.wider shadow.settled shadow.live top group fresh loose mid r.lawful.tree change_mid.change (λ k f. fresh_loose k f) (λ k l. (loose_parts k l).2) ∙ reach_mid

  pub loose_inside : (k : ℕ) → either group fresh k ≡ true → either group loose k ≡ true
  loose_inside k e = ⊎_elim (λ (g : group k ≡ true). or_left (group k) (loose k) g) (λ (f : fresh k ≡ true). or_right (group k) (loose k) (fresh_loose k f)) (or_cases (group k) (fresh k) e)

  same_last : IsSameChange top group loose shadow.settled mid shadow.settled shadow.live settled'
  same_last = record {
    before = λ k g. refl;
    after = λ k h. let e = reached_inside k (subst (λ xs. is_among xs k ≡ true) reach_wide h) in let l = loose_inside k e in rw (e, l) refl;
    others_stay = λ k e. rw e refl;
    top_live = (group_lock top top_group).1.1;
    fresh_free = λ k l. (loose_parts k l).2;
  }

  change_last : IsLawfulChange shadow.settled shadow.live top group loose settled' update
  change_last = laws.transfer top group loose shadow.settled shadow.live mid shadow.settled shadow.live settled' update change_wide same_last

  reaches : reached_nodes top group loose settled' ≡ reached_in v top group
  reaches = laws.reached top group loose shadow.settled shadow.live mid shadow.settled shadow.live settled' change_wide.change same_last ∙ reach_wide

  pub lawful_after : IsLawfulTree settled' live'
  lawful_after = laws.lawful shadow.settled shadow.live top group loose settled' r.lawful change_last.change change_last.filled

  pub entries_after : EntriesBecome update (HasEntry shadow.settled shadow.live) (HasEntry settled' live')
  entries_after = laws.update shadow.settled shadow.live top group loose settled' update r.lawful change_last

  pub live_new : (k : ℕ) → either group loose k ≡ true → live' k ≡ is_reached v top group k
  live_new k e = rw e (ap (λ xs. is_among xs k) reaches)

  pub live_kept : (k : ℕ) → either group loose k ≡ false → live' k ≡ shadow.live k
  live_kept k e = rw e refl

  pub settled_new : (k : ℕ) → either group loose k ≡ true → settled' k ≡ now_in v.holdings.held k
  settled_new k e = rw e refl

  pub settled_kept : (k : ℕ) → either group loose k ≡ false → settled' k ≡ shadow.settled k
  settled_kept k e = rw e refl

  -- a node that isn't held stays as it was
  pub unheld : (k : ℕ) → held_of k v.holdings.held ≡ None → either group loose k ≡ false
  unheld k none_held = go (cases_Bool (group k))
    where
      go : (group k ≡ true) ⊎ (group k ≡ false) → either group loose k ≡ false
      go (inl g) = absurd (none-some (group_lock k g).0 (sym none_held ∙ (group_lock k g).1.0))
      go (inr g) = rw (g, none_held) refl

  -- each node is still exactly one of live, free, or out
  module _ (once_held : (k : ℕ) → count_by (λ h. h.node == k) v.holdings.held ≤ 1) where
    out_now : (k : ℕ) → times k (out_after v top group) ≡ (if not (fresh k && is_reached v top group k) then times k v.holdings.out else 0) + (if group k && not (is_reached v top group k) then times k (map node_of v.holdings.held) else 0)
    out_now k =
        let a = times-append k (filter (λ n. not (fresh n && is_reached v top group n)) v.holdings.out) (filter (λ n. group n && not (is_reached v top group n)) (map node_of v.holdings.held)) in
        let b = times_filter (λ n. not (fresh n && is_reached v top group n)) k v.holdings.out in let c = times_filter (λ n. group n && not (is_reached v top group n)) k (map node_of v.holdings.held) in a ∙ (λ i. b i + c i)

    -- what becomes live is out no more, and what is live no more is out
    pub balance : (k : ℕ) → once (live' k) + times k (out_after v top group) ≡ once (shadow.live k) + times k v.holdings.out
    balance k = go (cases_Bool (group k)) (cases_Bool (fresh k)) (cases_Bool (is_reached v top group k)) (out_now k)
      where
        group_case : group k ≡ true → once (shadow.live k) ≡ 1 → times k v.holdings.out ≡ 0 → times k (map node_of v.holdings.held) ≡ 1 → (is_reached v top group k ≡ true) ⊎ (is_reached v top group k ≡ false)
            → times k (out_after v top group) ≡ (if not (fresh k && is_reached v top group k) then times k v.holdings.out else 0) + (if group k && not (is_reached v top group k) then times k (map node_of v.holdings.held) else 0)
            → fresh k ≡ false → once (live' k) + times k (out_after v top group) ≡ once (shadow.live k) + times k v.holdings.out
        group_case g live_one none_out node_one (inl reached) o f =
            let l : once (live' k) ≡ 1 = ap once (live_new k (or_left (group k) (loose k) g) ∙ reached) in
            let e : times k (out_after v top group) ≡ times k v.holdings.out + 0 = o ∙ rw (f, g, reached) refl in omega (arith, l, e, live_one, none_out)
        group_case g live_one none_out node_one (inr gone) o f =
            let l : once (live' k) ≡ 0 = ap once (live_new k (or_left (group k) (loose k) g) ∙ gone) in
            let e : times k (out_after v top group) ≡ times k v.holdings.out + times k (map node_of v.holdings.held) = o ∙ rw (f, g, gone) refl in omega (arith, l, e, live_one, none_out, node_one)

        go : (group k ≡ true) ⊎ (group k ≡ false) → (fresh k ≡ true) ⊎ (fresh k ≡ false) → (is_reached v top group k ≡ true) ⊎ (is_reached v top group k ≡ false)
            → times k (out_after v top group) ≡ (if not (fresh k && is_reached v top group k) then times k v.holdings.out else 0) + (if group k && not (is_reached v top group k) then times k (map node_of v.holdings.held) else 0)
            → once (live' k) + times k (out_after v top group) ≡ once (shadow.live k) + times k v.holdings.out
        go (inl g) (inl f) reach o = absurd (true≢false (sym (group_lock k g).1.1 ∙ (fresh_out k f).0))
        go (inl g) (inr f) reach o =
            let lock = group_lock k g in let live_one : once (shadow.live k) ≡ 1 = ap once lock.1.1 in
            let all = r.each_once k in let below = part_of_total (λ z. times k z.holdings.out) views id v at in let most = once_most (nat_lt k t.nodes) in
            let none_out : times k v.holdings.out ≡ 0 = omega (arith, all, below, most, live_one) in
            let few = once_held k in let found = found_once k v.holdings.held (subst (λ o. IsSome o) (sym lock.1.0) refl) in let nodes = times_nodes k v.holdings.held in
            group_case g live_one none_out (omega (arith, few, found, nodes)) reach o f
        go (inr g) (inl f) (inl reached) o =
            let l : once (live' k) ≡ 1 = ap once (live_new k (or_right (group k) (loose k) (fresh_loose k f)) ∙ reached) in
            let e : times k (out_after v top group) ≡ 0 + 0 = o ∙ rw (f, g, reached) refl in
            let told = fresh_out k f in let was : once (shadow.live k) ≡ 0 = ap once told.0 in let one = told.1 in omega (arith, l, e, was, one)
        go (inr g) (inl f) (inr gone) o =
            let l : once (live' k) ≡ 0 = ap once (live_new k (or_right (group k) (loose k) (fresh_loose k f)) ∙ gone) in
            let e : times k (out_after v top group) ≡ times k v.holdings.out + 0 = o ∙ rw (f, g, gone) refl in
            let was : once (shadow.live k) ≡ 0 = ap once (fresh_out k f).0 in omega (arith, l, e, was)
        go (inr g) (inr f) reach o =
            let e : times k (out_after v top group) ≡ times k v.holdings.out + 0 = o ∙ rw (f, g) refl in
            let l : once (live' k) ≡ once (shadow.live k) = ap once (stays (cases_Bool (loose k))) in omega (arith, e, l)
          where
            stays : (loose k ≡ true) ⊎ (loose k ≡ false) → live' k ≡ shadow.live k
            stays (inl loosely) = live_new k (or_right (group k) (loose k) loosely) ∙ (not_reached (cases_Bool (is_reached v top group k)) ∙ sym (loose_parts k loosely).2)
              where
                not_reached : (is_reached v top group k ≡ true) ⊎ (is_reached v top group k ≡ false) → is_reached v top group k ≡ false
                not_reached (inl reached) = absurd (true≢false (sym (reached_inside k reached) ∙ rw (g, f) refl))
                not_reached (inr gone) = gone
            stays (inr tight) = live_kept k (rw (g, tight) refl)
