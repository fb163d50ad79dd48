-- An insertion whose span ends in the next leaf.
use Rattle.std.proofs.Common.{ℕ, ◌<◌, [], ◌∷◌, length, arith, List, sym, subst, ◌≡◌, ◌+◌, ap, ◌∙◌, ◌≢◌, ◌++◌, drop, map, refl, ◌≤◌, true, Some, IsSome, IsSomeAnd}
use Rattle.std.specs.List.{AllByRecursion}
use Rattle.std.proofs.lemmas.List.{length-map}
use Rattle.reg_model.specs.State.{IsFree}
use Rattle.reg_model.specs.declared.span.Member.{Member}
use Rattle.reg_model.specs.declared.answer.Inserted.{Inserted}
use Rattle.tree_shape.specs.NodeData.{NodeData, IsInFences, entries_of, Body, Pairs, Entries, Link, entries_in, IsLeaf}
use Rattle.tree_shape.specs.declared.node.NodeBounds.{NodeBounds}
use Rattle.tree_shape.specs.Changes.{ends_at_as, ends_at_fence}
use Rattle.tree_laws.specs.Steps.{LiesAbove}
use Rattle.word_rule.specs.CallerData.{CallerData, surplus, WordsData}
use Rattle.word_rule.specs.NodeTells.{IsLiveNode}
use Rattle.word_rule.specs.TreeRefusals.{HadNoRoom, ShowsFull}
use Rattle.word_rule.specs.declared.log.Terms.{Terms}
use Rattle.word_rule.specs.declared.log.Holdings.{Holdings}
use Rattle.word_rule.specs.declared.log.Holding.{Holding}
use Rattle.word_rule.specs.Held.{held_of}
use Rattle.word_rule.specs.Spelling.{spelled, SpellsNode}
use Rattle.node_store.proofs.Outlined.{loads_hold}
use Rattle.node_store.specs.Holding.{SpellsHeld}
use Rattle.node_store.specs.Outlines.{OnlyLoads}
use Rattle.version_locks.specs.declared.locking.Busy.{Busy}
use Rattle.tree_descent.specs.declared.descent.Held.{Held}
use Rattle.tree_descent.specs.Releases.{HaveSettled, Spends}
use Rattle.tree_descent.specs.Paths.{AreApart, HoldsNothing, StepsOnNodes, IsSettledLock, AreHigher}
use Rattle.tree_descent.specs.Stands.{StandsAt}
use Rattle.tree_descent.proofs.Spending.{spends_same, steps_after, surplus_steps}
use Rattle.tree_descent.proofs.Outlining.{spells_same, steps_of_loads, alone_spells, spells_held}
use Rattle.tree_descent.proofs.Settling.{found_first}
use Rattle.tree_descent.specs.Removing.{HoldsAlone}
use Rattle.tree_descent.specs.Loads.{KeepsLoads}
use Rattle.tree_descent.proofs.Lowering.{settled_live}
use Rattle.tree_descent.proofs.Putting.{leaf_at_zero}
use Rattle.tree_descent.specs.Insertion.{RefusesMember, taken_by}
use Rattle.tree_descent.proofs.HeldLists.{found_head}
use Rattle.tree_descent.proofs.Loading.{nothing_left}
use Rattle.leaf_change.specs.Insertion.{FitsLeaf, MayPut, EndsInsertion, SpendsCall}
use Rattle.leaf_change.proofs.Spending.{right_before, spends_before, surplus_after}
use Rattle.fence_move.specs.Spines.{HoldsLeafPair, AreMovedLocks, HoldsNext, HoldsWay, MovesFence}
use Rattle.fence_move.proofs.NextOverlaps.{both_free, both_leaves}
use Rattle.fence_move.proofs.LockedSpines.{may_read_found}
use Rattle.btree_change.specs.declared.path.KeptNode.{KeptNode}
use Rattle.btree_change.specs.Kept.{AreKept, HoldsPath, LeavesBelow, as_changed}
use Rattle.btree_change.specs.Stands.{kept_node, HasWayOn, LiesBeyond}
use Rattle.btree_change.proofs.Standing.{lowest_of, live_lock}
use Rattle.btree_change.specs.declared.beyond.Far.{Far}
use Rattle.btree_change.specs.Far.{HoldsFar, HoldsMoved, IsReadyFar, IsAtNext, StandsFar}
use Rattle.btree_change.proofs.Answering.{leaf_room}
use Rattle.btree_change.proofs.AtRoot.{ends_after}
use Rattle.btree_change.proofs.Spending.{may_still, refused_call}
use Rattle.btree_change.specs.declared.beyond.Next.{Next}
use Rattle.btree_change.specs.Roots.{GivesUpWhole}
use Rattle.btree_change.proofs.Going.{way_lowered}
use Rattle.btree_change.proofs.Stepping.{splits_on}
use Rattle.node_split.specs.declared.split.Room.TheVariants as room
use Rattle.reg_model.specs.declared.answer.Receipt.TheVariants as receipt

-- No member overlaps in two leaves, and there was no room.
module _ (t : Terms) (n : ℕ) (s : NodeData) (r : ℕ) (u : NodeData) (m : Member) (k : CallerData) (pair : HoldsLeafPair n s r u k.log.holdings) (live : (place : NodeBounds) × IsLiveNode t r u place) (here : IsInFences m.span.first s) (high : m.span.last < u.high) (free : IsFree m.span (entries_of s)) (free_right : IsFree m.span (entries_of u)) (cause : HadNoRoom m.span.first (length k.log.receipts.own) k.log.trace.loads) where
  pub shows_full_next : ShowsFull m k.log
  shows_full_next = record {
    leaves = n ∷ r ∷ [];
    held = both_leaves t n s r u m k pair live here m.span.last (omega (arith, high));
    free = both_free t n s r u m k pair live here free free_right;
    no_room = cause;
  }

-- All that is held is the leaf and what is kept above it.
pub all_kept : (t : Terms) (leaf : Held) (kept : List KeptNode) (holdings : Holdings) → (stands : StandsAt t leaf holdings) → AreKept t kept stands.above → HoldsPath t (kept_node leaf ∷ kept) [] holdings
all_kept t leaf kept holdings stands path = record {
  locks = stands.lock ∷ stands.above;
  held = stands.held;
  kept = (record { node = stands.here.node; within = stands.within; stored = stands.here.stored }, path);
  settled = subst HaveSettled (sym stands.held) (lowest_of t leaf holdings stands).settled;
  apart = subst AreApart (sym stands.held) stands.apart;
}

-- The right spine was let go of.
module _ (t : Terms) (far : Far) (k k1 : CallerData) (holds : HoldsFar t far k.log.holdings) (is : k1.log.holdings ≡ holds.next.base) (same : StepsOnNodes k k1) where
  pub far_kept : HoldsPath t (kept_node far.leaf ∷ far.beyond.kept) [] k1.log.holdings
  far_kept = subst (HoldsPath t (kept_node far.leaf ∷ far.beyond.kept) []) (sym is) (all_kept t far.leaf far.beyond.kept holds.next.base holds.leaf holds.kept)

  pub far_surplus : length far.beyond.kept < surplus k → length far.beyond.kept < surplus k1
  far_surplus enough = let s = surplus_steps 0 k k1 (length far.beyond.kept + 1) (spends_same k k1 same) (omega (arith, enough)) in omega (arith, s)

  -- and then all else
  module _ (k2 : CallerData) (leaves : LeavesBelow (length far.beyond.kept + 1) [] k1 k2) where
    pub far_steps : Spends (length far.beyond.kept + 1) k k2
    far_steps = steps_after 0 (length far.beyond.kept + 1) (length far.beyond.kept + 1) k k1 k2 (omega arith) (spends_same k k1 same) leaves.steps

    pub far_nothing : HoldsNothing k2.log.holdings
    far_nothing = (leaves.held, leaves.out ∙ (ap (λ (hs : Holdings). hs.out) is ∙ holds.leaf.out))

-- the first of a list
abbrev first_of : Holding → List Holding → Holding
first_of d [] = d
first_of d (h ∷ held) = h

same_first : (a b : Holding) (xs ys held : List Holding) → held ≡ a ∷ xs → held ≡ b ∷ ys → a ≡ b
same_first a b xs ys held p q = ap (first_of a) (sym p ∙ q)

-- where the last of some locks has a node's number, nothing stands behind another that has it
none_behind : (spine spine2 : List Holding) (top top2 : Holding) (rest : List Holding) → spine ++ top ∷ rest ≡ spine2 ++ top2 ∷ [] → AreApart (spine ++ top ∷ rest) → top.node ≡ top2.node → rest ≡ []
none_behind [] [] top top2 rest same apart node = ap (drop 1) same
none_behind [] (h ∷ spine2) top top2 rest same apart node = absurd (at spine2 (subst (AllByRecursion (λ (a : Holding). a.node ≢ top.node)) (ap (drop 1) same) apart.0))
  where
    at : (xs : List Holding) → AllByRecursion (λ (a : Holding). a.node ≢ top.node) (xs ++ top2 ∷ []) → ⊥
    at [] far = far.0 (sym node)
    at (x ∷ xs) far = at xs far.1
none_behind (h ∷ spine) [] top top2 rest same apart node = absurd (some spine (ap (drop 1) same))
  where
    some : (xs : List Holding) → xs ++ top ∷ rest ≢ []
    some [] e = absurd (omega (arith, ap length e))
    some (x ∷ xs) e = absurd (omega (arith, ap length e))
none_behind (h ∷ spine) (h2 ∷ spine2) top top2 rest same apart node = none_behind spine spine2 top top2 rest (ap (drop 1) same) apart.1 node

-- A spine whose fence was moved: each lock is of the node that it was of, was stored to, and has
-- settled.
moved_kept : (t : Terms) (path : List KeptNode) (before after : List Holding) → AreMovedLocks before after → AreKept t path before → AreKept t (map as_changed path) after
moved_kept t [] [] [] moved on = tt
moved_kept t [] [] (b ∷ after) moved on = absurd moved
moved_kept t [] (a ∷ before) after moved on = absurd on
moved_kept t (p ∷ path) [] after moved on = absurd on
moved_kept t (p ∷ path) (a ∷ before) [] moved on = absurd moved
moved_kept t (p ∷ path) (a ∷ before) (b ∷ after) moved on =
    (record { node = moved.0.node ∙ on.0.node; within = on.0.within; stored = moved.0.stored }, moved_kept t path before after moved.1 on.1)

moved_settled : (before after : List Holding) → AreMovedLocks before after → HaveSettled after
moved_settled [] [] moved = tt
moved_settled [] (b ∷ after) moved = absurd moved
moved_settled (a ∷ before) [] moved = absurd moved
moved_settled (a ∷ before) (b ∷ after) moved = (moved.0.spells, moved_settled before after moved.1)

moved_far : (n : ℕ) (before after : List Holding) → AreMovedLocks before after → AllByRecursion (λ (h : Holding). h.node ≢ n) before → AllByRecursion (λ (h : Holding). h.node ≢ n) after
moved_far n [] [] moved far = tt
moved_far n [] (b ∷ after) moved far = absurd moved
moved_far n (a ∷ before) [] moved far = absurd moved
moved_far n (a ∷ before) (b ∷ after) moved far = ((λ e. far.0 (sym moved.0.node ∙ e)), moved_far n before after moved.1 far.1)

moved_apart : (before after : List Holding) → AreMovedLocks before after → AreApart before → AreApart after
moved_apart [] [] moved apart = tt
moved_apart [] (b ∷ after) moved apart = absurd moved
moved_apart (a ∷ before) [] moved apart = absurd moved
moved_apart (a ∷ before) (b ∷ after) moved apart = (moved_far b.node before after moved.1 (subst (λ n. AllByRecursion (λ (h : Holding). h.node ≢ n) before) (sym moved.0.node) apart.0), moved_apart before after moved.1 apart.1)

entries_end : (fence : ℕ) (body : Body) → entries_in (ends_at_as fence body) ≡ entries_in body
entries_end fence (Pairs pairs) = refl
entries_end fence (Entries entries) = refl
entries_end fence (Link next) = refl

-- All above a leaf is let go of, and the leaf outlined.
module _ (t : Terms) (far : Far) (k : CallerData) (moved : HoldsMoved t far k.log.holdings) where
  pub moved_over : (path : List KeptNode) → path ≡ map as_changed far.beyond.kept → (below : List Holding) × HoldsPath t path below k.log.holdings
  moved_over path is = (moved.lock ∷ [], subst (λ xs. HoldsPath t xs (moved.lock ∷ []) k.log.holdings) (sym is) moved.path)

  pub moved_surplus : (path : List KeptNode) → path ≡ map as_changed far.beyond.kept → length far.beyond.kept ≤ surplus k → length path ≤ surplus k
  moved_surplus path is enough = let e = ap length is ∙ length-map far.beyond.kept as_changed in omega (arith, enough, e)

  pub left_path : (path : List KeptNode) → path ≡ map as_changed far.beyond.kept → (k1 : CallerData) → ((below : List Holding) → HoldsPath t path below k.log.holdings → LeavesBelow (length path) below k k1) → LeavesBelow (length far.beyond.kept) (moved.lock ∷ []) k k1
  unfolding moved_over
  left_path path is k1 leaves = subst (λ n. LeavesBelow n (moved.lock ∷ []) k k1) (ap length is ∙ length-map far.beyond.kept as_changed) (leaves (moved.lock ∷ []) (moved_over path is).1)

  module _ (k1 : CallerData) (leaves : LeavesBelow (length far.beyond.kept) (moved.lock ∷ []) k k1) where
    found : held_of far.leaf.node k1.log.holdings.held ≡ Some moved.lock
    found = ap (held_of far.leaf.node) leaves.held ∙ subst (λ n. held_of n (moved.lock ∷ []) ≡ Some moved.lock) moved.leaf.node (found_first moved.lock [])

    pub may_outline : IsSomeAnd (held_of far.leaf.node k1.log.holdings.held) (λ h. IsSome (spelled h.words))
    may_outline = may_read_found far.leaf.node moved.lock.settled moved.lock k1 found moved.leaf.spells

    module _ (k2 : CallerData) (content : NodeData) (spells : SpellsHeld far.leaf.node content k1.log) (loads : OnlyLoads k1 k2) where
      pub outline_is : content ≡ moved.lock.settled
      outline_is = sym (spells_same far.leaf.node moved.lock.settled content moved.lock k1.log found moved.leaf.spells spells)

      pub alone_so : HoldsAlone t (record { node = far.leaf.node; content = content; changed = true }) k2.log.holdings
      alone_so = record {
        within = moved.within;
        lock = moved.lock;
        held = ap (λ (hs : Holdings). hs.held) (loads_hold k1 k2 loads) ∙ leaves.held;
        here = subst (λ s. IsSettledLock t far.leaf.node s true moved.lock) (sym outline_is) moved.leaf;
        out = ap (λ (hs : Holdings). hs.out) (loads_hold k1 k2 loads) ∙ (leaves.out ∙ moved.out);
      }

      pub alone_spends : Spends (length far.beyond.kept) k k2
      alone_spends = steps_after (length far.beyond.kept) 0 (length far.beyond.kept) k k1 k2 (omega arith) leaves.steps (spends_same k1 k2 (steps_of_loads k1 k2 loads))

-- The fence was moved and all above the leaf let go of: the member fits there.
pub record LeavesLeaf (t : Terms) (m : Member) (far : Far) (leaf : Held) (k k' : CallerData) : Type 0 where
  pub fits : FitsLeaf t m leaf k'.log.holdings
  pub spends : Spends (length far.beyond.kept + 12) k k'

-- The fence is moved, all above the leaf is let go of, and the member is put into the leaf.
module _ (t : Terms) (m : Member) (far : Far) (k : CallerData) (ready : IsReadyFar t m far k.log.holdings) where
  abbrev way : HoldsWay t far.beyond.node far.beyond.slot ready.holds.next.base
  way = ready.holds.next.way

  abbrev leaf : StandsAt t far.leaf ready.holds.next.base
  leaf = ready.holds.leaf

  lock_is : way.lock ≡ leaf.lock
  lock_is = same_first way.lock leaf.lock (way.spine ++ way.top ∷ way.rest) leaf.above ready.holds.next.base.held way.held leaf.held

  above_is : leaf.above ≡ way.spine ++ way.top ∷ []
  above_is = ap (drop 1) (sym leaf.held ∙ way.held) ∙ ap (λ rest. way.spine ++ way.top ∷ rest) ready.holds.alone

  content_is : way.lock.settled ≡ far.leaf.content
  content_is = ap (λ (h : Holding). h.settled) lock_is ∙ leaf.here.settled

  node_is : way.lock.node ≡ far.leaf.node
  node_is = ap (λ (h : Holding). h.node) lock_is ∙ leaf.here.node

  way_high : way.lock.settled.high < m.span.last
  way_high = let a = ready.ends.high in let e = ap (λ (z : NodeData). z.high) content_is in omega (arith, a, e)

  -- by the span's last address, as the body has it
  pub may_move : (fence : ℕ) → fence ≡ m.span.last → (next : HoldsNext t far.beyond.node far.beyond.slot k.log.holdings) × (next.way.lock.settled.high < fence) × LiesAbove fence next.right.settled.body × (fence < next.right.settled.high)
  may_move fence e = subst (λ l. (next : HoldsNext t far.beyond.node far.beyond.slot k.log.holdings) × (next.way.lock.settled.high < l) × LiesAbove l next.right.settled.body × (l < next.right.settled.high)) (sym e) (ready.holds.next, way_high, ready.lies, ready.right_high)

  abbrev Moves : CallerData → Type 0
  Moves k1 = MovesFence t m.span.last way.lock way.spine way.top way.rest k k1

  pub moves_so : (k1 : CallerData) (fence : ℕ) → fence ≡ m.span.last → ((next : HoldsNext t far.beyond.node far.beyond.slot k.log.holdings) → next.way.lock.settled.high < fence → LiesAbove fence next.right.settled.body → fence < next.right.settled.high → MovesFence t fence next.way.lock next.way.spine next.way.top next.way.rest k k1) → Moves k1
  moves_so k1 fence e moves = subst (λ l. ((next : HoldsNext t far.beyond.node far.beyond.slot k.log.holdings) → next.way.lock.settled.high < l → LiesAbove l next.right.settled.body → l < next.right.settled.high → MovesFence t l next.way.lock next.way.spine next.way.top next.way.rest k k1)) e moves ready.holds.next way_high ready.lies ready.right_high

  module _ (k1 : CallerData) (moves : Moves k1) (told : KeepsLoads k k1) where
    abbrev now : NodeData
    now = ends_at_fence m.span.last far.leaf.content

    abbrev above1 : List Holding
    above1 = moves.spine' ++ moves.top' ∷ []

    leaf_here : IsSettledLock t far.leaf.node now true moves.lock'
    leaf_here = subst (λ s. IsSettledLock t far.leaf.node (ends_at_fence m.span.last s) true moves.lock') content_is (subst (λ n. IsSettledLock t n (ends_at_fence m.span.last way.lock.settled) true moves.lock') node_is moves.leaf)

    pub spent : Spends 12 k k1
    spent = record {
      calls = moves.calls;
      allowance = moves.allowance;
      credit = moves.credit;
      loads = told;
    }

    pub moved_enough : length far.beyond.kept + 13 ≤ surplus k → length far.beyond.kept ≤ surplus k1
    moved_enough enough = surplus_steps 12 k k1 (length far.beyond.kept) spent (omega (arith, enough))

    held_is : k1.log.holdings.held ≡ moves.lock' ∷ above1
    held_is = moves.held ∙ ap (λ rest. moves.lock' ∷ (moves.spine' ++ moves.top' ∷ rest)) ready.holds.alone

    moved_path : HoldsPath t (map as_changed far.beyond.kept) (moves.lock' ∷ []) k1.log.holdings
    moved_path = record {
      locks = above1;
      held = held_is;
      kept = moved_kept t far.beyond.kept (way.spine ++ way.top ∷ []) above1 moves.moved (subst (AreKept t far.beyond.kept) above_is ready.holds.kept);
      settled = subst HaveSettled (sym held_is) (subst (SpellsNode moves.lock'.words) (sym leaf_here.settled) leaf_here.spells, moved_settled (way.spine ++ way.top ∷ []) above1 moves.moved);
      apart = subst AreApart (sym held_is) (
        moved_far moves.lock'.node (way.spine ++ way.top ∷ []) above1 moves.moved (subst (AllByRecursion (λ (a : Holding). a.node ≢ moves.lock'.node)) above_is (subst (λ n. AllByRecursion (λ (a : Holding). a.node ≢ n) leaf.above) (leaf.here.node ∙ sym leaf_here.node) leaf.apart.0)),
        moved_apart (way.spine ++ way.top ∷ []) above1 moves.moved (subst AreApart above_is leaf.apart.1),
      );
    }

    pub moved_all : HoldsMoved t far k1.log.holdings
    moved_all = record {
      lock = moves.lock';
      path = moved_path;
      within = leaf.within;
      leaf = subst (λ s. IsSettledLock t far.leaf.node s true moves.lock') (sym leaf_here.settled) leaf_here;
      out = moves.out;
    }

    -- all above the leaf was let go of
    module _ (at : Held) (k2 : CallerData) (alone : HoldsAlone t at k2.log.holdings) (content : (moved : HoldsMoved t far k1.log.holdings) → at.content ≡ moved.lock.settled) (spends : Spends (length far.beyond.kept) k1 k2) where
      at_is : now ≡ at.content
      unfolding moved_all
      at_is = sym (content moved_all ∙ leaf_here.settled)

      entries_are : entries_of at.content ≡ entries_of far.leaf.content
      entries_are = ap entries_of (sym at_is) ∙ entries_end m.span.last far.leaf.content.body

      pub leaves_leaf : LeavesLeaf t m far at k k2
      leaves_leaf = record {
        fits = record {
          alone = alone;
          level = ap (λ (z : NodeData). z.level) (sym at_is) ∙ ready.ends.level;
          low = let a = ready.ends.here.0 in let e = ap (λ (z : NodeData). z.low) at_is in omega (arith, a, e);
          high = let e = ap (λ (z : NodeData). z.high) at_is in omega (arith, e);
          room = subst (λ xs. length xs < 10) (sym entries_are) (leaf_room t far.leaf ready.holds.next.base leaf ready.ends.level ready.room);
          free = subst (IsFree m.span) (sym entries_are) ready.ends.free;
        };
        spends = steps_after 12 (length far.beyond.kept) (length far.beyond.kept + 12) k k1 k2 (omega arith) spent spends;
      }

-- The leaf alone is held.
module _ (t : Terms) (m : Member) (far : Far) (at : Held) (k k1 : CallerData) (left : LeavesLeaf t m far at k k1) where
  pub left_spells : SpellsHeld at.node at.content k1.log
  left_spells = alone_spells t at k1.log left.fits.alone

  pub left_leaf : IsLeaf at.content
  left_leaf = leaf_at_zero at.content (settled_live t at.node at.content at.changed left.fits.alone.lock left.fits.alone.here).1.1.ordered left.fits.level

  pub left_still : (k2 : CallerData) → OnlyLoads k1 k2 → LeavesLeaf t m far at k k2
  left_still k2 loads = record {
    fits = subst (FitsLeaf t m at) (sym (loads_hold k1 k2 loads)) left.fits;
    spends = steps_after (length far.beyond.kept + 12) 0 (length far.beyond.kept + 12) k k1 k2 (omega arith) left.spends (spends_same k1 k2 (steps_of_loads k1 k2 loads));
  }

  pub may_put_far : (w : WordsData) → MayPut w m (length far.beyond.kept + 13) k → MayPut w m 1 k1
  may_put_far w may = may_still w m (length far.beyond.kept + 12) (length far.beyond.kept + 13) 1 k k1 (omega arith) left.spends may

  -- the member was put there, and the leaf let go of
  pub put_ends : (answer : Inserted) (k2 : CallerData) → EndsInsertion t m answer 1 k1 k2 → EndsInsertion t m answer (length far.beyond.kept + 13) k k2
  put_ends answer k2 ends = ends_after t m answer (length far.beyond.kept + 12) 1 (length far.beyond.kept + 13) k k1 k2 (omega arith) left.spends ends

-- The next leaf is held.
module _ (t : Terms) (m : Member) (n : Next) (k : CallerData) (at : IsAtNext t m n k.log) where
  -- it is there, and its words are its own
  pub next_within : n.right.node < t.nodes
  next_within = subst (λ r. r < t.nodes) at.node at.holds.next.fresh.0.within

  pub next_spelled : SpellsHeld n.right.node n.right.content k.log
  next_spelled =
      let next = at.holds.next in
      let found = ap (held_of n.right.node) next.held ∙ found_head n.right.node next.right (next.more ++ next.base.held) at.node in
      spells_held n.right.node n.right.content next.right k.log found (subst (SpellsNode next.right.words) at.content next.fresh.0.live.spells)

  -- the member was refused
  module _ (answer : Inserted) (k1 : CallerData) (refused : RefusesMember t m answer k k1) where
    call : SpendsCall (receipt.Register m answer ∷ []) (taken_by answer) 0 k k1
    call = refused_call (receipt.Register m answer) (taken_by answer) k k1 refused.none_taken refused.call

    pub refused_holds : HoldsFar t n.far k1.log.holdings
    refused_holds = subst (HoldsFar t n.far) (sym refused.call.holdings) at.holds

    pub refused_surplus : length n.far.beyond.kept + 13 ≤ surplus k → length n.far.beyond.kept < surplus k1
    refused_surplus enough = let s = surplus_after (receipt.Register m answer ∷ []) (taken_by answer) 0 k k1 (length n.far.beyond.kept + 1) call (omega (arith, enough)) in omega (arith, s)

    pub refused_ends : (k2 : CallerData) → Spends (length n.far.beyond.kept + 1) k1 k2 → HoldsNothing k2.log.holdings → EndsInsertion t m answer (length n.far.beyond.kept + 13) k k2
    refused_ends k2 steps nothing = record {
      right = right_before t m answer k k1 k2 steps.calls.past refused.right;
      call = spends_before 0 (length n.far.beyond.kept + 1) (length n.far.beyond.kept + 13) (receipt.Register m answer ∷ []) (taken_by answer) k k1 k2 (omega arith) call steps;
      nothing = nothing;
    }

  -- or the fence may be moved
  pub is_ready : (k1 : CallerData) → k1.log.holdings ≡ k.log.holdings → n.far.room ≡ room.Splitting → LiesAbove m.span.last n.right.content.body → m.span.last < n.right.content.high → IsReadyFar t m n.far k1.log.holdings
  is_ready k1 same splits lies high = subst (IsReadyFar t m n.far) (sym same) (record {
    holds = at.holds;
    ends = at.ends;
    lies = subst (λ (z : NodeData). LiesAbove m.span.last z.body) (sym at.content) lies;
    right_high = subst (λ (z : NodeData). m.span.last < z.high) (sym at.content) high;
    room = at.room splits;
  })

-- The insertion stands at the leaf.
module _ (t : Terms) (m : Member) (far : Far) (k : CallerData) (stands : StandsFar t m far k.log) (level : far.leaf.content.level ≡ 0) where
  abbrev at : StandsAt t far.leaf k.log.holdings
  at = stands.at

  abbrev beyond : LiesBeyond t far.beyond at.lock at.above
  beyond = stands.reach.1

  abbrev here_way : HoldsWay t far.beyond.node far.beyond.slot k.log.holdings
  here_way = record {
    lock = at.lock;
    spine = beyond.spine;
    top = beyond.top;
    rest = [];
    held = at.held ∙ ap (λ hs. at.lock ∷ hs) beyond.split;
    node = beyond.node;
    within = beyond.within;
    leaf = ap (λ (z : NodeData). z.level) at.here.settled ∙ level;
    here = live_lock t far.leaf.node far.leaf.content far.leaf.changed at.lock at.here;
    above = subst (λ l. AreHigher t l (beyond.spine ++ beyond.top ∷ [])) level (subst (AreHigher t far.leaf.content.level) beyond.split at.higher);
    climb = beyond.climb;
    out = at.out;
  }

  pub way_here : (way : HoldsWay t far.beyond.node far.beyond.slot k.log.holdings) × (way.lock.node ≡ far.leaf.node) × (way.lock.settled ≡ far.leaf.content)
  way_here = (here_way, at.here.node, at.here.settled)

  -- and the next leaf was locked
  pub at_next_so : (right : Held) (k1 : CallerData) (next : HoldsNext t far.beyond.node far.beyond.slot k1.log.holdings) → next.base ≡ k.log.holdings → next.right.node ≡ right.node → next.right.settled ≡ right.content → HoldsLeafPair far.leaf.node far.leaf.content right.node right.content k1.log.holdings → (place : NodeBounds) × IsLiveNode t right.node right.content place
      → StepsOnNodes k k1 → IsFree m.span (entries_of far.leaf.content) → IsAtNext t m (record { far = far; right = right }) k1.log
  at_next_so right k1 next is node content pair place same free = record {
    holds = record { next = next; leaf = under.0; kept = under.1; alone = subst (λ hs. (w : HoldsWay t far.beyond.node far.beyond.slot hs) → w.rest ≡ []) (sym is) alone_way next.way };
    ends = record { level = level; here = stands.here; high = stands.reach.0; free = free };
    node = node;
    content = content;
    pair = pair;
    place = place;
    cause = λ e. subst (λ w. HasWayOn w m.span.first far.leaf.content k1.log) e (way_lowered far.room m.span.first far.leaf.content k k1 same same.loads stands.way);
    room = λ e. splits_on far.room m.span.first far.leaf.content k.log e stands.way;
  }
    where
      under : (s : StandsAt t far.leaf next.base) × AreKept t far.beyond.kept s.above
      under = subst (λ hs. (s : StandsAt t far.leaf hs) × AreKept t far.beyond.kept s.above) (sym is) (at, beyond.kept)

      alone_way : (w : HoldsWay t far.beyond.node far.beyond.slot k.log.holdings) → w.rest ≡ []
      alone_way w =
          let same : w.spine ++ w.top ∷ w.rest ≡ beyond.spine ++ beyond.top ∷ [] = ap (drop 1) (sym w.held ∙ at.held) ∙ beyond.split in
          none_behind w.spine beyond.spine w.top beyond.top w.rest same (subst AreApart (ap (drop 1) (sym at.held ∙ w.held)) at.apart.1) (w.node ∙ sym beyond.node)

  -- or a lock was taken
  module _ (why : Busy) (k1 : CallerData) (is : k1.log.holdings ≡ k.log.holdings) (same : StepsOnNodes k k1) where
    pub busy_kept : HoldsPath t (kept_node far.leaf ∷ far.beyond.kept) [] k1.log.holdings
    busy_kept = subst (HoldsPath t (kept_node far.leaf ∷ far.beyond.kept) []) (sym is) (all_kept t far.leaf far.beyond.kept k.log.holdings at beyond.kept)

    pub gives_up : (k2 : CallerData) → LeavesBelow (length far.beyond.kept + 1) [] k1 k2 → GivesUpWhole (length far.beyond.kept + 13) why k k2
    gives_up k2 leaves = record {
      steps = steps_after 0 (length far.beyond.kept + 1) (length far.beyond.kept + 13) k k1 k2 (omega arith) (spends_same k k1 same) leaves.steps;
      nothing = nothing_left why k2.log.holdings (leaves.held, leaves.out ∙ (ap (λ (hs : Holdings). hs.out) is ∙ at.out));
    }
