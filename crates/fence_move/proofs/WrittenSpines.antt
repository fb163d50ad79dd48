-- Two spines are written for a higher fence between them, level by level.
use Rattle.std.proofs.Common.{◌≡◌, ℕ, refl, Bool, true, false, None, if◌then◌else◌, List, [], ◌∷◌, ◌∙◌, ◌++◌, ap, Option, Some, IsSomeAnd, ◌≢◌, sym, subst, zero, suc, ◌-◌, arith, ◌<◌, length, inl, inr, ◌⊎◌, true≢false, append_assoc, IsSome, IsTrue}
use Rattle.std.specs.List.{AllByRecursion}
use Rattle.tree_laws.specs.Numbers.{is_among}
use Rattle.tree_shape.specs.NodeData.{NodeData, pairs_of, Body, Pairs, Entries, Link, pairs_in}
use Rattle.tree_shape.specs.declared.pair.Pair.{Pair}
use Rattle.tree_laws.specs.Decisions.{is_entries}
use Rattle.tree_shape.specs.Changes.{ends_at_as, begins_after, ends_at_fence}
use Rattle.tree_laws.specs.Steps.{first_child, last_child}
use Rattle.word_rule.specs.declared.log.Log.{Log}
use Rattle.word_rule.specs.Exchange.{after_exchange, group_of, is_lawful, settle, settle_free, top_of}
use Rattle.word_rule.specs.Steps.{after_node_store, frees, stored_log, MayStore}
use Rattle.word_rule.specs.CallerData.{CallerData}
use Rattle.word_rule.specs.declared.log.Holding.{Holding}
use Rattle.word_rule.specs.Held.{held_of}
use Rattle.word_rule.specs.declared.log.Holdings.{Holdings}
use Rattle.word_rule.specs.declared.log.Terms.{Terms}
use Rattle.word_rule.specs.Spelling.{spelled}
use Rattle.node_store.specs.declared.writing.Store.{Store}
use Rattle.node_store.specs.Holding.{after_node_stores, MakesStores, StoresHeld, ReadsHeld, SpellsHeld}
use Rattle.node_store.specs.Writing.{stores, kind_of_body}
use Rattle.tree_descent.specs.Loads.{KeepsLoads}
use Rattle.tree_descent.specs.Paths.{AreApart, StepsOnNodes}
use Rattle.tree_descent.proofs.Storing.{found_at, IsRewritten, rewritten_so}
use Rattle.fence_move.proofs.FreshSpines.{apart_mid, all_parts}
use Rattle.fence_move.specs.Spines.{IsLockAt, IsSpine, AreRewritten, IsRewrittenAs, HoldsSpines, IsLeftToMove, IsRightToMove, IsToMove, WritesSpines}
use Rattle.fence_move.proofs.LockedSpines.{may_read_found, reads_spelled}

-- what stores leave of the loads: all
loads_of_store : (n at value : ℕ) (v : Log) → (after_node_store n at value v).trace.loads ≡ v.trace.loads
loads_of_store n at value v = go (frees n at value v)
  where
    settled : (b : Bool) → (if b then after_exchange (stored_log n at value v) (top_of (stored_log n at value v) None) (is_among (group_of (stored_log n at value v) None)) else settle_free (stored_log n at value v)).trace.loads ≡ v.trace.loads
    settled true = refl
    settled false = refl

    go : (b : Bool) → (if b then settle None (stored_log n at value v) else stored_log n at value v).trace.loads ≡ v.trace.loads
    go true = settled (is_lawful (stored_log n at value v) None)
    go false = refl

loads_of_stores : (n : ℕ) (xs : List Store) (v : Log) → (after_node_stores n xs v).trace.loads ≡ v.trace.loads
unfolding after_node_stores
loads_of_stores n [] v = refl
loads_of_stores n (x ∷ xs) v = loads_of_stores n xs (after_node_store n x.at x.value v) ∙ loads_of_store n x.at x.value v

pub loads_of_write : (n : ℕ) (s : NodeData) (k k' : CallerData) → StoresHeld n s k k' → KeepsLoads k k'
loads_of_write n s k k' writes = go (held_of n k.log.holdings.held) writes
  where
    go : (o : Option Holding) → IsSomeAnd o (λ h. MakesStores n (stores s h.words) k k') → KeepsLoads k k'
    go None r = absurd r
    go (Some h) (more, is) = (more, ap (λ (z : CallerData). z.log.trace.loads) is ∙ ap (λ loads. loads ++ more) (loads_of_stores n (stores s h.words) k.log))

-- another lock of the same node in its place
pub apart_swap : (xs : List Holding) (h z : Holding) (ys : List Holding) → z.node ≡ h.node → AreApart (xs ++ h ∷ ys) → AreApart (xs ++ z ∷ ys)
apart_swap [] h z ys same all = (subst (λ m. AllByRecursion (λ (a : Holding). a.node ≢ m) ys) (sym same) all.0, all.1)
apart_swap (x ∷ xs) h z ys same all = (others xs all.0, apart_swap xs h z ys same all.1)
  where
    others : (zs : List Holding) → AllByRecursion (λ (a : Holding). a.node ≢ x.node) (zs ++ h ∷ ys) → AllByRecursion (λ (a : Holding). a.node ≢ x.node) (zs ++ z ∷ ys)
    others [] far = ((λ e. far.0 (sym same ∙ e)), far.1)
    others (a ∷ zs) far = (far.0, others zs far.1)

pub in_mid : (xs : List Holding) (h : Holding) (ys : List Holding) → AreApart (xs ++ h ∷ ys) → held_of h.node (xs ++ h ∷ ys) ≡ Some h
in_mid xs h ys all = found_at h.node xs h ys refl (apart_mid xs h ys all).0

-- the topmost lock of a spine, on whichever level
pub top_at : (child : ℕ → List Pair → ℕ) (n level : ℕ) (locks : List Holding) → IsSpine child level n locks → (h : Holding) × (lower : List Holding) × (IsLockAt n level h × (locks ≡ lower ++ h ∷ []) × (level ≡ 0 → lower ≡ []) × (level ≢ 0 → IsSpine child (level - 1) (child 0 (pairs_of h.settled)) lower))
top_at child n zero locks (h, (at, is)) = (h, [], (at, is, (λ _. refl), λ some. absurd (some refl)))
top_at child n (suc level) locks (h, lower, (at, is, below)) =
    let e : suc level - 1 ≡ level = omega arith in
    (h, lower, (at, is, (λ z. absurd (omega (arith, z))), λ _. subst (λ k. IsSpine child k (child 0 (pairs_of h.settled)) lower) (sym e) below))

not_free : (body : Body) → (level : ℕ) → ((is_entries body ≡ true) × (level ≡ 0)) ⊎ (0 < length (pairs_in body)) → kind_of_body body ≢ 2
not_free (Pairs pairs) level some e = absurd (omega (arith, e))
not_free (Entries entries) level some e = absurd (omega (arith, e))
not_free (Link next) level (inl leaf) e = absurd (true≢false (sym leaf.0))
not_free (Link next) level (inr pairs) e = absurd (omega (arith, pairs))

raised_kind : (fence : ℕ) (body : Body) → kind_of_body (ends_at_as fence body) ≡ kind_of_body body
raised_kind fence (Pairs pairs) = refl
raised_kind fence (Entries entries) = refl
raised_kind fence (Link next) = refl

pub has_pairs : (s : NodeData) → ((is_entries s.body ≡ true) × (s.level ≡ 0)) ⊎ (0 < length (pairs_of s)) → s.level ≢ 0 → 0 < length (pairs_of s)
has_pairs s (inl leaf) some = absurd (some leaf.1)
has_pairs s (inr pairs) some = pairs

rewritten_more : (change : NodeData → NodeData) (xs ys : List Holding) (a b : Holding) → AreRewritten change xs ys → IsRewrittenAs change a b → AreRewritten change (xs ++ a ∷ []) (ys ++ b ∷ [])
rewritten_more change [] [] a b all one = (one, tt)
rewritten_more change [] (y ∷ ys) a b all one = absurd all
rewritten_more change (x ∷ xs) [] a b all one = absurd all
rewritten_more change (x ∷ xs) (y ∷ ys) a b all one = (all.0, rewritten_more change xs ys a b all.1 one)

module _ (t : Terms) (l r level fence : ℕ) (k : CallerData) (s : HoldsSpines t l r level fence k.log.holdings) where
  lt : (h : Holding) × (lower : List Holding) × (IsLockAt l level h × (s.lefts ≡ lower ++ h ∷ []) × (level ≡ 0 → lower ≡ []) × (level ≢ 0 → IsSpine last_child (level - 1) (last_child 0 (pairs_of h.settled)) lower))
  lt = top_at last_child l level s.lefts s.left

  rt : (h : Holding) × (lower : List Holding) × (IsLockAt r level h × (s.rights ≡ lower ++ h ∷ []) × (level ≡ 0 → lower ≡ []) × (level ≢ 0 → IsSpine first_child (level - 1) (first_child 0 (pairs_of h.settled)) lower))
  rt = top_at first_child r level s.rights s.right

  held_left : k.log.holdings.held ≡ ((s.rights ++ s.between) ++ lt.1) ++ (lt.0 ∷ s.behind)
  held_left = s.held ∙ (ap (λ xs. (s.rights ++ s.between) ++ (xs ++ s.behind)) lt.2.1 ∙ (ap (λ xs. (s.rights ++ s.between) ++ xs) (append_assoc lt.1 (lt.0 ∷ []) s.behind) ∙ sym (append_assoc (s.rights ++ s.between) lt.1 (lt.0 ∷ s.behind))))

  right_form : (z : Holding) → ((s.rights ++ s.between) ++ lt.1) ++ (z ∷ s.behind) ≡ rt.1 ++ (rt.0 ∷ (s.between ++ (lt.1 ++ z ∷ s.behind)))
  right_form z = append_assoc (s.rights ++ s.between) lt.1 (z ∷ s.behind) ∙ (append_assoc s.rights s.between (lt.1 ++ z ∷ s.behind) ∙ (ap (λ xs. xs ++ (s.between ++ (lt.1 ++ z ∷ s.behind))) rt.2.1 ∙ append_assoc rt.1 (rt.0 ∷ []) (s.between ++ (lt.1 ++ z ∷ s.behind))))

  each_l : AllByRecursion (IsLeftToMove t fence) lt.1 × AllByRecursion (IsLeftToMove t fence) (lt.0 ∷ [])
  each_l = all_parts (IsLeftToMove t fence) lt.1 (lt.0 ∷ []) (subst (AllByRecursion (IsLeftToMove t fence)) lt.2.1 s.each_left)

  each_r : AllByRecursion (IsRightToMove t fence) rt.1 × AllByRecursion (IsRightToMove t fence) (rt.0 ∷ [])
  each_r = all_parts (IsRightToMove t fence) rt.1 (rt.0 ∷ []) (subst (AllByRecursion (IsRightToMove t fence)) rt.2.1 s.each_right)

  move_l : IsToMove t lt.0
  move_l = each_l.1.0.0

  move_r : IsToMove t rt.0
  move_r = each_r.1.0.0

  apart_l : AreApart (((s.rights ++ s.between) ++ lt.1) ++ (lt.0 ∷ s.behind))
  apart_l = subst AreApart held_left s.apart

  apart_r : AreApart (rt.1 ++ (rt.0 ∷ (s.between ++ (lt.1 ++ lt.0 ∷ s.behind))))
  apart_r = subst AreApart (right_form lt.0) apart_l

  found_l : held_of l k.log.holdings.held ≡ Some lt.0
  found_l = ap (held_of l) held_left ∙ subst (λ m. held_of m (((s.rights ++ s.between) ++ lt.1) ++ (lt.0 ∷ s.behind)) ≡ Some lt.0) lt.2.0.0 (in_mid ((s.rights ++ s.between) ++ lt.1) lt.0 s.behind apart_l)

  found_r : held_of r k.log.holdings.held ≡ Some rt.0
  found_r = ap (held_of r) (held_left ∙ right_form lt.0) ∙ subst (λ m. held_of m (rt.1 ++ (rt.0 ∷ (s.between ++ (lt.1 ++ lt.0 ∷ s.behind)))) ≡ Some rt.0) rt.2.0.0 (in_mid rt.1 rt.0 (s.between ++ (lt.1 ++ lt.0 ∷ s.behind)) apart_r)

  pub within_l : l < t.nodes
  within_l = subst (λ m. m < t.nodes) lt.2.0.0 move_l.within

  pub within_r : r < t.nodes
  within_r = subst (λ m. m < t.nodes) rt.2.0.0 move_r.within

  pub may_read_l : IsSomeAnd (held_of l k.log.holdings.held) (λ z. IsSome (spelled z.words))
  may_read_l = may_read_found l lt.0.settled lt.0 k found_l move_l.spells

  module _ (k1 k2 : CallerData) (left right : NodeData) (reads_l : ReadsHeld l k k1 left) (same1 : k1.log.holdings ≡ k.log.holdings) where
    left_is : lt.0.settled ≡ left
    left_is = reads_spelled l lt.0.settled left lt.0 k k1 found_l move_l.spells reads_l

    found_r1 : held_of r k1.log.holdings.held ≡ Some rt.0
    found_r1 = ap (λ (z : Holdings). held_of r z.held) same1 ∙ found_r

    pub may_read_r : IsSomeAnd (held_of r k1.log.holdings.held) (λ z. IsSome (spelled z.words))
    may_read_r = may_read_found r rt.0.settled rt.0 k1 found_r1 move_r.spells

    pub left_pairs : level ≢ 0 → 0 < length (pairs_of left)
    left_pairs some = subst (λ (z : NodeData). 0 < length (pairs_of z)) left_is (has_pairs lt.0.settled move_l.ordered (λ z. some (sym lt.2.0.1 ∙ z)))

    module _ (reads_r : ReadsHeld r k1 k2 right) (same2 : k2.log.holdings ≡ k1.log.holdings) where
      right_is : rt.0.settled ≡ right
      right_is = reads_spelled r rt.0.settled right rt.0 k1 k2 found_r1 move_r.spells reads_r

      pub fence_inside : fence < right.high
      fence_inside = subst (λ (z : NodeData). fence < z.high) right_is each_r.1.0.2

      pub right_pairs : level ≢ 0 → 0 < length (pairs_of right)
      right_pairs some = subst (λ (z : NodeData). 0 < length (pairs_of z)) right_is (has_pairs rt.0.settled move_r.ordered (λ z. some (sym rt.2.0.1 ∙ z)))

      start : k2.log.holdings ≡ k.log.holdings
      start = same2 ∙ same1

      pub may_store_l : MayStore l k2.log
      may_store_l = subst (λ o. IsSomeAnd o (λ (h : Holding). IsSome h.mark ⊎ IsTrue (is_among k2.log.holdings.out l))) (sym (ap (λ (z : Holdings). held_of l z.held) start ∙ found_l)) (inl move_l.marked)

      module _ (k3 : CallerData) (raised : NodeData) (raised_is : raised ≡ ends_at_fence fence left) (writes_l : StoresHeld l raised k2 k3) (spells_l : SpellsHeld l raised k3.log) where
        now_l : raised ≡ ends_at_fence fence lt.0.settled
        now_l = raised_is ∙ ap (ends_at_fence fence) (sym left_is)

        w3 : IsRewritten (ends_at_fence fence lt.0.settled) lt.0 ((s.rights ++ s.between) ++ lt.1) s.behind k2 k3
        w3 = rewritten_so (ends_at_fence fence lt.0.settled) l lt.0 ((s.rights ++ s.between) ++ lt.1) s.behind k2 k3
            (λ e. not_free lt.0.settled.body lt.0.settled.level move_l.ordered (sym (raised_kind fence lt.0.settled.body) ∙ e)) lt.2.0.0
            (subst (λ m. AllByRecursion (λ (a : Holding). a.node ≢ m) ((s.rights ++ s.between) ++ lt.1)) lt.2.0.0 (apart_mid ((s.rights ++ s.between) ++ lt.1) lt.0 s.behind apart_l).0)
            (subst (λ m. AllByRecursion (λ (a : Holding). a.node ≢ m) s.behind) lt.2.0.0 (apart_mid ((s.rights ++ s.between) ++ lt.1) lt.0 s.behind apart_l).1)
            (ap (λ (z : Holdings). z.held) start ∙ held_left)
            (subst (λ z. StoresHeld l z k2 k3) now_l writes_l) (subst (λ z. SpellsHeld l z k3.log) now_l spells_l)

        one_l : IsRewrittenAs (ends_at_fence fence) lt.0 w3.lock
        one_l = record { node = w3.node; mark = w3.mark; settled = w3.settled; spells = w3.spells; stored = w3.stored lt.0.settled move_l.spells (λ e. (let d = ap (λ (z : NodeData). z.high) e in let b = each_l.1.0.1 in omega (arith, d, b))) }

        held3 : k3.log.holdings.held ≡ rt.1 ++ (rt.0 ∷ (s.between ++ (lt.1 ++ w3.lock ∷ s.behind)))
        held3 = w3.held ∙ right_form w3.lock

        apart3 : AreApart (rt.1 ++ (rt.0 ∷ (s.between ++ (lt.1 ++ w3.lock ∷ s.behind))))
        apart3 = subst AreApart (right_form w3.lock) (apart_swap ((s.rights ++ s.between) ++ lt.1) lt.0 w3.lock s.behind w3.node apart_l)

        found_r3 : held_of r k3.log.holdings.held ≡ Some rt.0
        found_r3 = ap (held_of r) held3 ∙ subst (λ m. held_of m (rt.1 ++ (rt.0 ∷ (s.between ++ (lt.1 ++ w3.lock ∷ s.behind)))) ≡ Some rt.0) rt.2.0.0 (in_mid rt.1 rt.0 (s.between ++ (lt.1 ++ w3.lock ∷ s.behind)) apart3)

        pub may_store_r : MayStore r k3.log
        may_store_r = subst (λ o. IsSomeAnd o (λ (h : Holding). IsSome h.mark ⊎ IsTrue (is_among k3.log.holdings.out r))) (sym found_r3) (inl move_r.marked)

        pub steps_l : StepsOnNodes k2 k3
        steps_l = w3.same

        module _ (k4 : CallerData) (shortened : NodeData) (shortened_is : shortened ≡ begins_after fence right) (writes_r : StoresHeld r shortened k3 k4) (spells_r : SpellsHeld r shortened k4.log) where
          now_r : shortened ≡ begins_after fence rt.0.settled
          now_r = shortened_is ∙ ap (begins_after fence) (sym right_is)

          w4 : IsRewritten (begins_after fence rt.0.settled) rt.0 rt.1 (s.between ++ (lt.1 ++ w3.lock ∷ s.behind)) k3 k4
          w4 = rewritten_so (begins_after fence rt.0.settled) r rt.0 rt.1 (s.between ++ (lt.1 ++ w3.lock ∷ s.behind)) k3 k4
              (not_free rt.0.settled.body rt.0.settled.level move_r.ordered) rt.2.0.0
              (subst (λ m. AllByRecursion (λ (a : Holding). a.node ≢ m) rt.1) rt.2.0.0 (apart_mid rt.1 rt.0 (s.between ++ (lt.1 ++ w3.lock ∷ s.behind)) apart3).0)
              (subst (λ m. AllByRecursion (λ (a : Holding). a.node ≢ m) (s.between ++ (lt.1 ++ w3.lock ∷ s.behind))) rt.2.0.0 (apart_mid rt.1 rt.0 (s.between ++ (lt.1 ++ w3.lock ∷ s.behind)) apart3).1)
              held3 (subst (λ z. StoresHeld r z k3 k4) now_r writes_r) (subst (λ z. SpellsHeld r z k4.log) now_r spells_r)

          one_r : IsRewrittenAs (begins_after fence) rt.0 w4.lock
          one_r = record { node = w4.node; mark = w4.mark; settled = w4.settled; spells = w4.spells; stored = w4.stored rt.0.settled move_r.spells (λ e. (let d = ap (λ (z : NodeData). z.low) e in let b = each_r.1.0.1 in omega (arith, d, b))) }

          held4 : k4.log.holdings.held ≡ (rt.1 ++ w4.lock ∷ s.between) ++ (lt.1 ++ w3.lock ∷ s.behind)
          held4 = w4.held ∙ sym (append_assoc rt.1 (w4.lock ∷ s.between) (lt.1 ++ w3.lock ∷ s.behind))

          apart4 : AreApart ((rt.1 ++ w4.lock ∷ s.between) ++ (lt.1 ++ w3.lock ∷ s.behind))
          apart4 = subst AreApart (sym (append_assoc rt.1 (w4.lock ∷ s.between) (lt.1 ++ w3.lock ∷ s.behind))) (apart_swap rt.1 rt.0 w4.lock (s.between ++ (lt.1 ++ w3.lock ∷ s.behind)) w4.node apart3)

          pub steps_r : StepsOnNodes k3 k4
          steps_r = w4.same

          pub spines_below : level ≢ 0 → (lc rc : ℕ) → lc ≡ last_child 0 (pairs_of left) → rc ≡ first_child 0 (pairs_of right) → HoldsSpines t lc rc (level - 1) fence k4.log.holdings
          spines_below some lc rc lc_is rc_is = record {
            lefts = lt.1;
            rights = rt.1;
            between = w4.lock ∷ s.between;
            behind = w3.lock ∷ s.behind;
            held = held4;
            left = subst (λ m. IsSpine last_child (level - 1) m lt.1) (ap (λ (z : NodeData). last_child 0 (pairs_of z)) left_is ∙ sym lc_is) (lt.2.3 some);
            right = subst (λ m. IsSpine first_child (level - 1) m rt.1) (ap (λ (z : NodeData). first_child 0 (pairs_of z)) right_is ∙ sym rc_is) (rt.2.3 some);
            each_left = each_l.0;
            each_right = each_r.0;
            apart = subst AreApart (sym held4) apart4;
          }

          finish : (kx : CallerData) → WritesSpines fence lt.1 rt.1 (w4.lock ∷ s.between) (w3.lock ∷ s.behind) k4 kx → WritesSpines fence s.lefts s.rights s.between s.behind k kx
          finish kx w = record {
            lefts' = w.lefts' ++ w3.lock ∷ [];
            rights' = w.rights' ++ w4.lock ∷ [];
            held = w.held ∙ (λ i. sym (append_assoc w.rights' (w4.lock ∷ []) s.between) i ++ sym (append_assoc w.lefts' (w3.lock ∷ []) s.behind) i);
            left = subst (λ xs. AreRewritten (ends_at_fence fence) xs (w.lefts' ++ w3.lock ∷ [])) (sym lt.2.1) (rewritten_more (ends_at_fence fence) lt.1 w.lefts' lt.0 w3.lock w.left one_l);
            right = subst (λ xs. AreRewritten (begins_after fence) xs (w.rights' ++ w4.lock ∷ [])) (sym rt.2.1) (rewritten_more (begins_after fence) rt.1 w.rights' rt.0 w4.lock w.right one_r);
            out = w.out ∙ (w4.out ∙ (w3.out ∙ ap (λ (z : Holdings). z.out) start));
          }

          pub wrote_leaves : level ≡ 0 → WritesSpines fence s.lefts s.rights s.between s.behind k k4
          wrote_leaves zero_level = finish k4 (record {
            lefts' = [];
            rights' = [];
            held = held4 ∙ (λ i. (rt.2.2 zero_level i ++ w4.lock ∷ s.between) ++ (lt.2.2 zero_level i ++ w3.lock ∷ s.behind));
            left = subst (λ xs. AreRewritten (ends_at_fence fence) xs []) (sym (lt.2.2 zero_level)) tt;
            right = subst (λ xs. AreRewritten (begins_after fence) xs []) (sym (rt.2.2 zero_level)) tt;
            out = refl;
          })

          pub wrote_more : (some : level ≢ 0) (lc rc : ℕ) (lc_is : lc ≡ last_child 0 (pairs_of left)) (rc_is : rc ≡ first_child 0 (pairs_of right)) (k5 : CallerData) → ((spines : HoldsSpines t lc rc (level - 1) fence k4.log.holdings) → WritesSpines fence spines.lefts spines.rights spines.between spines.behind k4 k5) → WritesSpines fence s.lefts s.rights s.between s.behind k k5
          unfolding spines_below
          wrote_more some lc rc lc_is rc_is k5 below = finish k5 (below (spines_below some lc rc lc_is rc_is))
