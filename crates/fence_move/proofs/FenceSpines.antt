-- Both spines beside a fence, as the held locks and as the tree have them.
use Rattle.std.proofs.Common.{ℕ, ◌-◌, List, ◌≡◌, suc, [], ◌∷◌, ◌++◌, append_assoc, refl, ap, sym, subst, arith, zero, ◌∙◌, ◌<◌, ◌≤◌, ◌+◌, length, ◌≢◌, Bool, true, false, Option, Some, None, IfSome, IsSome, inl, inr, ◌⊎◌, true≢false}
use Rattle.std.specs.List.{AllByRecursion}
use Rattle.tree_laws.specs.Steps.{last_child, last_spine, first_child, first_spine, LiesAbove}
use Rattle.tree_shape.specs.declared.pair.Pair.{Pair}
use Rattle.tree_shape.specs.NodeData.{pairs_of, NodeData, Cut, Body, Pairs, Entries, Link, pairs_in}
use Rattle.tree_laws.specs.Trees.{Contents, Branch, branch, branches}
use Rattle.tree_laws.specs.Numbers.{times}
use Rattle.tree_laws.proofs.Times.{times_head, In, all_at}
use Rattle.tree_shape.specs.declared.node.NodeBounds.{NodeBounds}
use Rattle.tree_laws.specs.Decisions.{is_entries}
use Rattle.tree_laws.specs.Lawful.{IsFilledAs, IsLawfulTree, IsOrderedAs}
use Rattle.tree_laws.proofs.Halves.{fewest_pairs_some}
use Rattle.tree_laws.proofs.Leads.{branch_inside}
use Rattle.word_rule.specs.declared.log.Holding.{Holding}
use Rattle.word_rule.proofs.Each.{all_append}
use Rattle.word_rule.specs.declared.log.Terms.{Terms}
use Rattle.word_rule.specs.NodeTells.{IsLiveNode}
use Rattle.tree_descent.specs.Paths.{AreHigher, IsLiveLock}
use Rattle.fence_move.specs.Spines.{IsAtSlot, IsSpine, Climbs, IsFreshLock, IsLeftToMove, IsRightToMove, IsToMove}
use Rattle.fence_move.proofs.HeldTrees.{child, first_high, EndsAt, OnTree, at_in, first_in, inner, last_in}
use Rattle.fence_move.proofs.FreshSpines.{all_parts}

-- the left spine from X's slot down, out of the locks from the leaf up
pub record ClimbsSpine (slot : ℕ) (top : Holding) (locks : List Holding) : Type 0 where
  pub base : Holding
  pub at : IsAtSlot slot base top
  pub spine : IsSpine last_child (top.settled.level - 1) at.pair.child locks

pub climb_spine : (slot : ℕ) (lower : Holding) (spine : List Holding) (top : Holding) (locks : List Holding) → IsSpine last_child lower.settled.level lower.node locks → Climbs slot lower spine top → ClimbsSpine slot top (locks ++ spine)
climb_spine slot lower [] top locks s climb = record {
  base = lower;
  at = climb;
  spine =
      let l : lower.settled.level ≡ top.settled.level - 1 = (let e = climb.level in omega (arith, e)) in
      subst (λ xs. IsSpine last_child (top.settled.level - 1) climb.pair.child xs) (sym (nil locks)) (subst (λ m. IsSpine last_child (top.settled.level - 1) m locks) (sym climb.child) (subst (λ k. IsSpine last_child k lower.node locks) l s));
}
  where
    nil : (xs : List Holding) → xs ++ [] ≡ xs
    nil [] = refl
    nil (x ∷ xs) = ap (λ ys. x ∷ ys) (nil xs)
climb_spine slot lower (h ∷ spine) top locks s climb =
    let e : suc lower.settled.level ≡ h.settled.level = (let u = climb.0.1 in omega (arith, u)) in
    let here : IsSpine last_child h.settled.level h.node (locks ++ h ∷ []) =
    subst (λ k. IsSpine last_child k h.node (locks ++ h ∷ [])) e (h, locks, ((refl, sym e), refl, subst (λ m. IsSpine last_child lower.settled.level m locks) climb.0.0 s)) in
    subst (ClimbsSpine slot top) (append_assoc locks (h ∷ []) spine) (climb_spine slot h spine top (locks ++ h ∷ []) here climb.1)

-- a spine of the tree by the same child of each node
abbrev spine_by : (ℕ → List Pair → ℕ) → Contents → ℕ → ℕ → List ℕ
spine_by child f zero n = n ∷ []
spine_by child f (suc level) n = n ∷ spine_by child f level (child 0 (pairs_of (f n)))

last_by : (f : Contents) (level n : ℕ) → spine_by last_child f level n ≡ last_spine f level n
last_by f zero n = refl
last_by f (suc level) n = ap (λ ns. n ∷ ns) (last_by f level (last_child 0 (pairs_of (f n))))

first_by : (f : Contents) (level n : ℕ) → spine_by first_child f level n ≡ first_spine f level n
first_by f zero n = refl
first_by f (suc level) n = ap (λ ns. n ∷ ns) (first_by f level (first_child 0 (pairs_of (f n))))

-- what holds of each lock of a spine holds of each node of the tree's spine
nodes_by : (child : ℕ → List Pair → ℕ) (f : Contents) (P : ℕ → Type 0) (level n : ℕ) (locks : List Holding) → IsSpine child level n locks → AllByRecursion (λ (h : Holding). (f h.node ≡ h.settled) × P h.node) locks → AllByRecursion P (spine_by child f level n)
nodes_by child f P zero n locks (h, (at, is)) all = (subst P at.0 (subst (AllByRecursion (λ (a : Holding). (f a.node ≡ a.settled) × P a.node)) is all).0.1, tt)
nodes_by child f P (suc level) n locks (h, lower, (at, is, below)) all =
    let parts = all_parts (λ (a : Holding). (f a.node ≡ a.settled) × P a.node) lower (h ∷ []) (subst (AllByRecursion (λ (a : Holding). (f a.node ≡ a.settled) × P a.node)) is all) in
    let same : h.settled ≡ f n = sym parts.1.0.0 ∙ ap f at.0 in (
      subst P at.0 parts.1.0.1,
      subst (λ (z : NodeData). AllByRecursion P (spine_by child f level (child 0 (pairs_of z)))) same (nodes_by child f P level (child 0 (pairs_of h.settled)) lower below parts.0),
    )

pub last_nodes : (f : Contents) (P : ℕ → Type 0) (level n : ℕ) (locks : List Holding) → IsSpine last_child level n locks → AllByRecursion (λ (h : Holding). (f h.node ≡ h.settled) × P h.node) locks → AllByRecursion P (last_spine f level n)
last_nodes f P level n locks spine all = subst (AllByRecursion P) (last_by f level n) (nodes_by last_child f P level n locks spine all)

pub first_nodes : (f : Contents) (P : ℕ → Type 0) (level n : ℕ) (locks : List Holding) → IsSpine first_child level n locks → AllByRecursion (λ (h : Holding). (f h.node ≡ h.settled) × P h.node) locks → AllByRecursion P (first_spine f level n)
first_nodes f P level n locks spine all = subst (AllByRecursion P) (first_by f level n) (nodes_by first_child f P level n locks spine all)

later : (P : Holding → Type 0) (Q : Holding → Type 0) → ((h : Holding) → P h → Q h) → (xs : List Holding) → AllByRecursion P xs → AllByRecursion Q xs
later P Q each [] all = tt
later P Q each (x ∷ xs) all = (each x all.0, later P Q each xs all.1)

-- each lock of a spine is of one of the tree's
locks_by : (child : ℕ → List Pair → ℕ) (f : Contents) (level n : ℕ) (locks : List Holding) → IsSpine child level n locks → AllByRecursion (λ (h : Holding). f h.node ≡ h.settled) locks → AllByRecursion (λ (h : Holding). 0 < times h.node (spine_by child f level n)) locks
locks_by child f zero n locks (h, (at, is)) all = subst (AllByRecursion (λ (a : Holding). 0 < times a.node (n ∷ []))) (sym is) (subst (λ m. 0 < times m (n ∷ [])) (sym at.0) (times_head n []), tt)
locks_by child f (suc level) n locks (h, lower, (at, is, below)) all =
    let parts = all_parts (λ (a : Holding). f a.node ≡ a.settled) lower (h ∷ []) (subst (AllByRecursion (λ (a : Holding). f a.node ≡ a.settled)) is all) in
    let same : h.settled ≡ f n = sym parts.1.0 ∙ ap f at.0 in
    let rest = locks_by child f level (child 0 (pairs_of h.settled)) lower below parts.0 in
    let rest' = subst (λ (z : NodeData). AllByRecursion (λ (a : Holding). 0 < times a.node (spine_by child f level (child 0 (pairs_of z)))) lower) same rest in
    subst (AllByRecursion (λ (a : Holding). 0 < times a.node (spine_by child f (suc level) n))) (sym is)
    (all_append (λ (a : Holding). 0 < times a.node (spine_by child f (suc level) n)) lower (h ∷ [])
    (later (λ (a : Holding). 0 < times a.node (spine_by child f level (child 0 (pairs_of (f n))))) (λ (a : Holding). 0 < times a.node (spine_by child f (suc level) n)) (λ a some. omega (arith, some)) lower rest')
    (subst (λ m. 0 < times m (spine_by child f (suc level) n)) (sym at.0) (times_head n (spine_by child f level (child 0 (pairs_of (f n))))), tt))

pub last_locks : (f : Contents) (level n : ℕ) (locks : List Holding) → IsSpine last_child level n locks → AllByRecursion (λ (h : Holding). f h.node ≡ h.settled) locks → AllByRecursion (λ (h : Holding). 0 < times h.node (last_spine f level n)) locks
last_locks f level n locks spine all = subst (λ ns. AllByRecursion (λ (h : Holding). 0 < times h.node ns) locks) (last_by f level n) (locks_by last_child f level n locks spine all)

pub first_locks : (f : Contents) (level n : ℕ) (locks : List Holding) → IsSpine first_child level n locks → AllByRecursion (λ (h : Holding). f h.node ≡ h.settled) locks → AllByRecursion (λ (h : Holding). 0 < times h.node (first_spine f level n)) locks
first_locks f level n locks spine all = subst (λ ns. AllByRecursion (λ (h : Holding). 0 < times h.node ns) locks) (first_by f level n) (locks_by first_child f level n locks spine all)

-- a lock's level is at most that of its spine
pub spine_levels : (child : ℕ → List Pair → ℕ) (level n : ℕ) (locks : List Holding) → IsSpine child level n locks → AllByRecursion (λ (h : Holding). h.settled.level ≤ level) locks
spine_levels child zero n locks (h, (at, is)) = subst (AllByRecursion (λ (a : Holding). a.settled.level ≤ zero)) (sym is) ((let e = at.1 in omega (arith, e)), tt)
spine_levels child (suc level) n locks (h, lower, (at, is, below)) = subst (AllByRecursion (λ (a : Holding). a.settled.level ≤ suc level)) (sym is)
    (all_append (λ (a : Holding). a.settled.level ≤ suc level) lower (h ∷ []) (later (λ (a : Holding). a.settled.level ≤ level) (λ (a : Holding). a.settled.level ≤ suc level) (λ a low. omega (arith, low)) lower (spine_levels child level (child 0 (pairs_of h.settled)) lower below))
    ((let e = at.1 in omega (arith, e)), tt))

-- separators above the first one
seps_above : (fence low high : ℕ) (pairs : List Pair) → Cut low high pairs → fence < low → AllByRecursion (λ (p : Pair). fence < p.separator) pairs
seps_above fence low high [] cut above = tt
seps_above fence low high (p ∷ pairs) cut above = ((let c = cut.0 in omega (arith, c, above)), seps_above fence (p.separator + 1) high pairs cut.1 (let c = cut.0 in omega (arith, c, above)))

pairs_above : (fence low high : ℕ) (pairs : List Pair) → Cut low high pairs → 0 < length pairs → fence < first_high pairs → AllByRecursion (λ (p : Pair). fence < p.separator) pairs
pairs_above fence low high [] cut some above = tt
pairs_above fence low high (p ∷ pairs) cut some above = (above, seps_above fence (p.separator + 1) high pairs cut.1 (omega (arith, above)))

module _ (f : Contents) (live : ℕ → Bool) (lawful : IsLawfulTree f live) where
  -- what kind of node it is
  kinds : (n : ℕ) (s : NodeData) (body : Body) → IsOrderedAs s body → IsFilledAs n body → ((is_entries body ≡ true) × (s.level ≡ 0)) ⊎ (0 < length (pairs_in body))
  kinds n s (Entries entries) ordered filled = inl (refl, ordered.0)
  kinds n s (Pairs pairs) ordered filled = inr (let few = filled.0 in let two = fewest_pairs_some n in omega (arith, few, two))
  kinds n s (Link next) ordered filled = absurd ordered

  pub kind : (h : Holding) → OnTree f live h → ((is_entries h.settled.body ≡ true) × (h.settled.level ≡ 0)) ⊎ (0 < length (pairs_of h.settled))
  kind h on = kinds h.node h.settled h.settled.body (subst (λ s. IsOrderedAs s s.body) on.content (lawful.tree.ordered h.node on.alive)) (subst (λ s. IsFilledAs h.node s.body) on.content (lawful.filled h.node on.alive))

  pub inner_kind : (h : Holding) → OnTree f live h → 0 < h.settled.level → is_entries h.settled.body ≡ false
  inner_kind h on above = go h.settled.body (subst (λ s. IsOrderedAs s s.body) on.content (lawful.tree.ordered h.node on.alive))
    where
      go : (body : Body) → IsOrderedAs h.settled body → is_entries body ≡ false
      go (Entries entries) ordered = absurd (let z = ordered.0 in omega (arith, z, above))
      go (Pairs pairs) ordered = refl
      go (Link next) ordered = refl

  -- a child by a branch of a live lock is a node that there is
  child_inside : (t : Terms) (h : Holding) (b : Branch) → IsLiveLock t h → In b (branches (h.settled.level - 1) h.settled) → b.child < t.nodes
  child_inside t h b is there = go h.mark is.marked is.live
    where
      go : (o : Option NodeBounds) → IsSome o → IfSome o (IsLiveNode t h.node h.settled) → b.child < t.nodes
      go None some_mark live' = absurd (true≢false (sym some_mark))
      go (Some m) some_mark live' = (all_at (λ (z : Branch). (z.child < t.nodes) × (z.child ≢ 0) × (live'.places z.child ≡ z.frame)) (branches (h.settled.level - 1) h.settled) b live'.children there).0

  to_move : (t : Terms) (h : Holding) → IsLiveLock t h → OnTree f live h → h.node < t.nodes → IsToMove t h
  to_move t h is on within = record { spells = is.spells; marked = is.marked; within = within; ordered = kind h on }

  -- the left spine is to end at the fence
  pub lefts_move : (t : Terms) (level fence separator slot : ℕ) (lower : Holding) (spine : List Holding) (top : Holding) (rest : List Holding) → separator < fence → IsLiveLock t lower → AreHigher t level (spine ++ top ∷ rest) → OnTree f live lower → AllByRecursion (OnTree f live) spine → OnTree f live top → Climbs slot lower spine top
      → EndsAt f live lawful separator lower → AllByRecursion (EndsAt f live lawful separator) spine → AllByRecursion (IsLeftToMove t fence) (lower ∷ spine)
  lefts_move t level fence separator slot lower [] top rest below is higher on each above climb ends all = (
    (
      to_move t lower is on (
          let up = climb.level in
          let cut = inner f live lawful top above (omega (arith, up)) in
          let found = at_in (top.settled.level - 1) top.settled.low slot (pairs_of top.settled) climb.pair climb.at in
          subst (λ m. m < t.nodes) climb.child (child_inside t top (branch climb.pair.child (top.settled.level - 1) found.0 climb.pair.separator) higher.0 found.1)),
      (let e = ends.high in omega (arith, e, below)),
    ),
    tt,
  )
  lefts_move t level fence separator slot lower (h ∷ spine) top rest below is higher on each above climb ends all = (
    (
      to_move t lower is on (
          let up = climb.0.1 in
          let cut = inner f live lawful h each.0 (omega (arith, up)) in
          let found = last_in (h.settled.level - 1) h.settled.low h.settled.high 0 (pairs_of h.settled) cut.1 cut.0 in
          subst (λ m. m < t.nodes) (sym climb.0.0) (child_inside t h (branch (last_child 0 (pairs_of h.settled)) (h.settled.level - 1) found.0 h.settled.high) higher.0 found.1)),
      (let e = ends.high in omega (arith, e, below)),
    ),
    lefts_move t h.settled.level fence separator slot h spine top rest below higher.0 higher.2 each.0 each.1 above climb.1 all.0 all.1,
  )

  -- a node of the right spine: it begins at an address, and all that it holds lies above the fence
  pub record BeginsAt (low fence : ℕ) (h : Holding) : Type 0 where
    pub low_is : h.settled.low ≡ low
    pub high : fence < h.settled.high
    pub above : LiesAbove fence h.settled.body

  -- what is known of the leaf, which stands first
  abbrev pub LeafAbove : ℕ → List Holding → Type 0
  LeafAbove fence [] = Unit {0}
  LeafAbove fence (h ∷ locks) = (fence < h.settled.high) × LiesAbove fence h.settled.body

  lower_leaf : (fence : ℕ) (lower : List Holding) (h : Holding) → LeafAbove fence (lower ++ h ∷ []) → LeafAbove fence lower
  lower_leaf fence [] h leaf = tt
  lower_leaf fence (x ∷ lower) h leaf = leaf

  body_above : (fence : ℕ) (s : NodeData) (body : Body) → IsOrderedAs s body → 0 < s.level → AllByRecursion (λ (p : Pair). fence < p.separator) (pairs_in body) → LiesAbove fence body
  body_above fence s (Pairs pairs) ordered above all = all
  body_above fence s (Entries entries) ordered above all = absurd (let z = ordered.0 in omega (arith, z, above))
  body_above fence s (Link next) ordered above all = tt

  -- the topmost lock of the right spine, and all of it
  pub record RightFrom (low fence level n : ℕ) (locks : List Holding) : Type 0 where
    pub each : AllByRecursion (BeginsAt low fence) locks
    pub high : fence < (f n).high
    pub low_is : (f n).low ≡ low
    pub level_is : (f n).level ≡ level

  pub rights_begin : (fence level n : ℕ) (locks : List Holding) → IsSpine first_child level n locks → AllByRecursion (OnTree f live) locks → LeafAbove fence locks → RightFrom (f n).low fence level n locks
  rights_begin fence zero n locks (h, (at, is)) on leaf =
      let here = subst (AllByRecursion (OnTree f live)) is on in
      let told = subst (LeafAbove fence) is leaf in
      let same : f n ≡ h.settled = ap f (sym at.0) ∙ here.0.content in record {
        each = subst (AllByRecursion (BeginsAt (f n).low fence)) (sym is) (record { low_is = ap (λ (s : NodeData). s.low) (sym same); high = told.0; above = told.1 }, tt);
        high = subst (λ (s : NodeData). fence < s.high) (sym same) told.0;
        low_is = refl;
        level_is = ap (λ (s : NodeData). s.level) same ∙ at.1;
      }
  rights_begin fence (suc level) n locks (h, lower, (at, is, below)) on leaf =
      let parts = all_parts (OnTree f live) lower (h ∷ []) (subst (AllByRecursion (OnTree f live)) is on) in
      let here = parts.1.0 in
      let up : 0 < h.settled.level = (let e = at.1 in omega (arith, e)) in
      let same : f n ≡ h.settled = ap f (sym at.0) ∙ here.content in
      let rest = rights_begin fence level (first_child 0 (pairs_of h.settled)) lower below parts.0 (lower_leaf fence lower h (subst (LeafAbove fence) is leaf)) in
      let cut = inner f live lawful h here up in
      let b : Branch = branch (first_child 0 (pairs_of h.settled)) (h.settled.level - 1) h.settled.low (first_high (pairs_of h.settled)) in
      let there = first_in (h.settled.level - 1) h.settled.low (pairs_of h.settled) cut.0 in
      let inside = branch_inside (h.settled.level - 1) h.settled.low h.settled.high (pairs_of h.settled) b cut.1 there in
      let fits = (child f live lawful h b here there).fits in
      let first_above : fence < first_high (pairs_of h.settled) = (let a = rest.high in let c = fits.high in omega (arith, a, c)) in
      let low : (f (first_child 0 (pairs_of h.settled))).low ≡ (f n).low = fits.low ∙ ap (λ (s : NodeData). s.low) (sym same) in
      let high : fence < h.settled.high = (let i = inside.2 in omega (arith, first_above, i)) in record {
        each = subst (AllByRecursion (BeginsAt (f n).low fence)) (sym is) (all_append (BeginsAt (f n).low fence) lower (h ∷ []) (subst (λ l. AllByRecursion (BeginsAt l fence) lower) low rest.each) (
          record {
            low_is = ap (λ (s : NodeData). s.low) (sym same);
            high = high;
            above = body_above fence h.settled h.settled.body (subst (λ s. IsOrderedAs s s.body) here.content (lawful.tree.ordered h.node here.alive)) up (pairs_above fence h.settled.low h.settled.high (pairs_of h.settled) cut.1 cut.0 first_above);
          },
          tt,
        ));
        high = subst (λ (s : NodeData). fence < s.high) (sym same) high;
        low_is = refl;
        level_is = ap (λ (s : NodeData). s.level) same ∙ at.1;
      }

  pub rights_move : (t : Terms) (low fence : ℕ) (locks : List Holding) → low ≤ fence → AllByRecursion (IsFreshLock t) locks → AllByRecursion (OnTree f live) locks → AllByRecursion (BeginsAt low fence) locks → AllByRecursion (IsRightToMove t fence) locks
  rights_move t low fence [] least fresh on all = tt
  rights_move t low fence (h ∷ locks) least fresh on all = (
    (to_move t h fresh.0.live on.0 fresh.0.within, (let e = all.0.low_is in omega (arith, e, least)), all.0.high),
    rights_move t low fence locks least fresh.1 on.1 all.1,
  )
