-- A neighbour of a child is locked beside it, under their parent.
use Rattle.std.proofs.Common.{◌≡◌, ℕ, sym, [], ap, ◌∙◌, subst, true, ◌<◌, ◌≤◌, length, arith, Bool, Some, ◌≢◌, ◌+◌, ◌⊎◌, inl, inr, ◌-◌, ◌∷◌, refl, false, IsTrue, None, IsSome, Contains}
use Rattle.std.specs.List.{slice_get, AllByRecursion}
use Rattle.tree_shape.specs.NodeData.{NodeData, pairs_of}
use Rattle.tree_shape.specs.declared.pair.Pair.{Pair}
use Rattle.tree_laws.proofs.Halves.{fewest_pairs_some, pairs_filled}
use Rattle.tree_shape.specs.Changes.{pair}
use Rattle.tree_laws.specs.Lawful.{FitsParent}
use Rattle.tree_laws.specs.Trees.{Branch, branches}
use Rattle.tree_laws.proofs.Joins.{Neighbours, neighbours}
use Rattle.word_rule.specs.CallerData.{CallerData}
use Rattle.word_rule.specs.Held.{without_lock}
use Rattle.word_rule.specs.Spelling.{SpellsNode}
use Rattle.word_rule.specs.Steps.{after_node_release_same, first_mark, place_by, place_by_held, place_in}
use Rattle.word_rule.specs.declared.log.Terms.{Terms}
use Rattle.word_rule.specs.declared.log.Holding.{Holding}
use Rattle.word_rule.specs.NodeTells.{KnowsTree}
use Rattle.word_rule.specs.Sights.{after_node_load}
use Rattle.word_rule.specs.declared.log.Holdings.{Holdings}
use Rattle.word_rule.proofs.Each.{all_with}
use Rattle.node_store.specs.Holding.{SpellsHeld}
use Rattle.version_locks.specs.Locking.{Locks}
use Rattle.tree_descent.specs.declared.descent.Held.{Held}
use Rattle.tree_descent.specs.Removing.{HoldsLock}
use Rattle.tree_descent.specs.Stands.{HoldsChild}
use Rattle.tree_descent.specs.declared.descent.Child.{Child}
use Rattle.tree_descent.specs.Paths.{IsSettledLock}
use Rattle.tree_descent.proofs.Lowering.{settled_live, IsTakenAt, taken_at}
use Rattle.tree_descent.proofs.Locked.{branch_at, names, by_parent, none_named, read_first}
use Rattle.node_mend.specs.declared.sibling.Siblings.{Siblings}
use Rattle.node_mend.proofs.Mended.{without_low}
use Rattle.node_mend.proofs.Joining.{inside_of}
use Rattle.node_mend.specs.Siblings.{HoldsSiblings, IsInEither}
use Rattle.word_rule.specs.declared.log.LockId.TheVariants as lock

pub siblings_are : (x : Siblings) (above left right : Held) (slot : ℕ) → x.above ≡ above → x.left ≡ left → x.right ≡ right → x.slot ≡ slot → record { above = above; left = left; right = right; slot = slot } ≡ x
siblings_are x above left right slot a l r e = (λ i. record { above = sym a i; left = sym l i; right = sym r i; slot = sym e i })

-- the child is let go of, and the parent is left
pub child_left : (t : Terms) (child : Child) (pc : ℕ) (k k' : CallerData) → (h : HoldsChild t child pc k.log.holdings) → k' ≡ record k { log = after_node_release_same child.at.node k.log } → HoldsLock child.above.node child.above.changed k'.log.holdings
child_left t child pc k k' h is = subst (λ (z : CallerData). HoldsLock child.above.node child.above.changed z.log.holdings) (sym is) (record {
  lock = h.upper;
  held = ap (without_lock child.at.node) h.held ∙ without_low true h.lower h.upper [] child.at.node h.here.node (λ e. h.no_parent (sym (sym h.parent.node ∙ e))) tt;
  node = h.parent.node;
  spells = subst (SpellsNode h.upper.words) (sym h.parent.settled) h.parent.spells;
  stored = h.parent.stored;
})

-- how many pairs a parent has
pub some_pairs : (t : Terms) (n : ℕ) (s : NodeData) (changed : Bool) (h : Holding) (slot : ℕ) (p : Pair) → IsSettledLock t n s changed h → slice_get (pairs_of s) slot ≡ Some p → (1 < length (pairs_of s)) × (length (pairs_of s) ≤ 15)
some_pairs t n s changed h slot p lock at =
    let own = settled_live t n s changed h lock in
    let inside = inside_of (pairs_of s) slot p at in
    let filled = pairs_filled n s.body own.1.1.filled (omega (arith, inside)) in
    let two = fewest_pairs_some n in let few = filled.0 in let most = filled.1 in
    (omega (arith, two, few), omega (arith, most))

pub beside_inside : (first slot beside count : ℕ) → ((first ≡ slot) × (beside ≡ first + 1)) ⊎ ((first ≢ slot) × (beside ≡ first)) → first + 1 < count → beside < count
beside_inside first slot beside count (inl (same, is)) inside = omega (arith, is, inside)
beside_inside first slot beside count (inr (far, is)) inside = omega (arith, is, inside)

pub sibling_within : (t : Terms) (n : ℕ) (s : NodeData) (changed : Bool) (h : Holding) (slot : ℕ) (p : Pair) → IsSettledLock t n s changed h → slice_get (pairs_of s) slot ≡ Some p → p.child < t.nodes
sibling_within t n s changed h slot p lock at =
    let own = settled_live t n s changed h lock in
    let exact = branch_at (s.level - 1) s.low (pairs_of s) slot p at in
    (names t n s own.0 p.child exact.0 own.1.1 exact.1.0 exact.1.1).within

module _ (t : Terms) (child : Child) (pc first beside : ℕ) (q : Pair) (k k1 k2 k3 : CallerData) (found : ℕ) (shape : NodeData) (h : HoldsChild t child pc k.log.holdings) (tree : KnowsTree k.log.holdings) (terms : k.log.terms ≡ t) (loads : k1 ≡ record k { log = after_node_load child.at.node 2 found k.log })
    (near : (first ≡ child.slot) ⊎ (first + 1 ≡ child.slot)) (at : slice_get (pairs_of child.above.content) beside ≡ Some q) (locks : Locks (lock.Node q.child) k1 k2) (spells : SpellsHeld q.child shape k2.log) (same : k3.log.holdings ≡ k2.log.holdings) where
  abbrev s : NodeData
  s = child.above.content

  abbrev n : ℕ
  n = child.above.node

  told : (IsSome h.lower.mark → IsTrue (tree.live h.lower.node) × (tree.contents h.lower.node ≡ h.lower.settled)) × (IsSome h.upper.mark → IsTrue (tree.live h.upper.node) × (tree.contents h.upper.node ≡ h.upper.settled))
  told = let all = subst (AllByRecursion (λ (z : Holding). IsSome z.mark → IsTrue (tree.live z.node) × (tree.contents z.node ≡ z.settled))) h.held tree.marked in (all.0, all.1.0)

  child_told : IsTrue (tree.live child.at.node) × (tree.contents child.at.node ≡ child.at.content)
  child_told = let e = told.0 h.here.marked in (subst (λ m. IsTrue (tree.live m)) h.here.node e.0, subst (λ m. tree.contents m ≡ h.lower.settled) h.here.node e.1 ∙ h.here.settled)

  parent_told : IsTrue (tree.live child.above.node) × (tree.contents child.above.node ≡ child.above.content)
  parent_told = let e = told.1 h.parent.marked in (subst (λ m. IsTrue (tree.live m)) h.parent.node e.0, subst (λ m. tree.contents m ≡ h.upper.settled) h.parent.node e.1 ∙ h.parent.settled)

  slot_of : (slot : ℕ) (p : Pair) → slice_get (pairs_of child.above.content) slot ≡ Some p → slice_get (pairs_of (tree.contents n)) slot ≡ Some p
  slot_of slot p is = ap (λ (z : NodeData). slice_get (pairs_of z) slot) parent_told.1 ∙ is

  exact : (b : Branch) × (Contains (branches (child.above.content.level - 1) child.above.content) b × (b.child ≡ q.child) × (b.frame.high ≡ q.separator) × (b.frame.level ≡ child.above.content.level - 1))
  exact = branch_at (child.above.content.level - 1) child.above.content.low (pairs_of child.above.content) beside q at

  -- the tree has the neighbour at this place
  fits : FitsParent tree.contents exact.0
  fits = all_with (FitsParent tree.contents) (branches (child.above.content.level - 1) child.above.content) exact.0 (subst (λ (z : NodeData). AllByRecursion (FitsParent tree.contents) (branches (z.level - 1) z)) parent_told.1 (tree.lawful.tree.fitting n parent_told.0)) exact.1.0

  q_level : (tree.contents q.child).level ≡ exact.0.frame.level
  q_level = ap (λ m. (tree.contents m).level) (sym exact.1.1) ∙ fits.level

  q_low : (tree.contents q.child).low ≡ exact.0.frame.low
  q_low = ap (λ m. (tree.contents m).low) (sym exact.1.1) ∙ fits.low

  -- with the child as the left one or as the right one
  module _ (l r : Pair) (at_first : slice_get (pairs_of child.above.content) first ≡ Some l) (at_next : slice_get (pairs_of child.above.content) (first + 1) ≡ Some r) (which : ((l.child ≡ child.at.node) × (r.child ≡ q.child)) ⊎ ((l.child ≡ q.child) × (r.child ≡ child.at.node))) where
    fam : Neighbours tree.contents tree.live n first l r
    fam = neighbours tree.contents tree.live tree.lawful.tree n first l r parent_told.0 (slot_of first l at_first) (slot_of (first + 1) r at_next)

    level_same : (tree.contents q.child).level ≡ (tree.contents child.at.node).level
    level_same = go which
      where
        go : ((l.child ≡ child.at.node) × (r.child ≡ q.child)) ⊎ ((l.child ≡ q.child) × (r.child ≡ child.at.node)) → (tree.contents q.child).level ≡ (tree.contents child.at.node).level
        go (inl (a, b)) = ap (λ m. (tree.contents m).level) (sym b) ∙ (fam.fits.level ∙ (sym fam.left.fits.level ∙ ap (λ m. (tree.contents m).level) a))
        go (inr (a, b)) = ap (λ m. (tree.contents m).level) (sym a) ∙ (fam.left.fits.level ∙ (sym fam.fits.level ∙ ap (λ m. (tree.contents m).level) b))

    none_by_child : place_by q.child h.lower.mark h.lower ≡ None
    none_by_child =
        let mine = settled_live t child.at.node child.at.content child.at.changed h.lower h.here in
        rw mine.1.0 (ap (λ (z : NodeData). place_in q.child (branches (z.level - 1) z)) (h.here.settled ∙ sym child_told.1) ∙ none_named tree.contents tree.live tree.lawful.tree child.at.node q.child child_told.0 level_same)

    taken : IsTakenAt t q.child exact.0.frame (h.lower ∷ h.upper ∷ []) k2.log.holdings
    taken =
        let mine = settled_live t n child.above.content child.above.changed h.upper h.parent in
        let named = names t n child.above.content mine.0 q.child exact.0 mine.1.1 exact.1.0 exact.1.1 in
        taken_at t q.child exact.0.frame (h.lower ∷ h.upper ∷ []) k1 k2 (ap (λ (z : CallerData). z.log.terms) loads ∙ terms) (ap (λ (z : CallerData). z.log.holdings.held) loads ∙ h.held) (ap (λ (z : CallerData). z.log.holdings.out) loads ∙ h.out) named.no_root
        (ap (λ o. first_mark o (place_by_held q.child (h.upper ∷ []))) none_by_child ∙ ap (λ o. first_mark o None) (by_parent t n q.child child.above.content child.above.changed h.upper exact.0 h.parent named)) locks

    shape_is : taken.content ≡ shape
    shape_is = read_first q.child taken.content shape taken.new (h.lower ∷ h.upper ∷ []) k2.log taken.held taken.here.node taken.here.spells spells

    shape_high : shape.high ≡ q.separator
    shape_high = ap (λ (z : NodeData). z.high) (sym shape_is) ∙ (taken.high ∙ exact.1.2)

    shape_low : shape.low ≡ (tree.contents q.child).low
    shape_low = ap (λ (z : NodeData). z.low) (sym shape_is) ∙ (taken.low ∙ sym q_low)

    shape_level : shape.level ≡ child.at.content.level
    shape_level = ap (λ (z : NodeData). z.level) (sym shape_is) ∙ (taken.level ∙ (sym q_level ∙ (level_same ∙ ap (λ (z : NodeData). z.level) child_told.1)))

    held3 : k3.log.holdings.held ≡ taken.new ∷ h.lower ∷ h.upper ∷ []
    held3 = ap (λ (z : Holdings). z.held) same ∙ taken.held

    out3 : k3.log.holdings.out ≡ []
    out3 = ap (λ (z : Holdings). z.out) same ∙ taken.out

    here3 : IsSettledLock t q.child shape false taken.new
    here3 = subst (λ z. IsSettledLock t q.child z false taken.new) shape_is taken.here

    q_within : q.child < t.nodes
    q_within = sibling_within t n child.above.content child.above.changed h.upper beside q h.parent at

  abbrev other : Held
  other = record { node = q.child; content = shape; changed = false }

  pub right_so : first ≡ child.slot → beside ≡ first + 1 → HoldsSiblings t (record { above = child.above; left = child.at; right = record { node = q.child; content = shape; changed = false }; slot = first }) k3.log.holdings × IsInEither pc (record { above = child.above; left = child.at; right = record { node = q.child; content = shape; changed = false }; slot = first })
  right_so is next_is =
      let l : Pair = pair child.at.node child.at.content.high in
      let at_first : slice_get (pairs_of child.above.content) first ≡ Some (pair child.at.node child.at.content.high) = ap (slice_get (pairs_of child.above.content)) is ∙ h.at in
      let at_next : slice_get (pairs_of child.above.content) (first + 1) ≡ Some q = ap (slice_get (pairs_of child.above.content)) (sym next_is) ∙ at in
      let which : ((l.child ≡ child.at.node) × (q.child ≡ q.child)) ⊎ ((l.child ≡ q.child) × (q.child ≡ child.at.node)) = inl (refl, refl) in
      let tk = taken l q at_first at_next which in
      let high = shape_high l q at_first at_next which in
      let level = shape_level l q at_first at_next which in
      let fm = fam l q at_first at_next which in
      let low : shape.low ≡ child.at.content.high + 1 = shape_low l q at_first at_next which ∙ fm.fits.low in (
        record {
          parent_within = h.parent_within;
          left_within = h.within;
          right_within = q_within l q at_first at_next which;
          left_first = false;
          low = h.lower;
          high = tk.new;
          upper = h.upper;
          held = held3 l q at_first at_next which;
          left = h.here;
          right = here3 l q at_first at_next which;
          parent = h.parent;
          out = out3 l q at_first at_next which;
          at = at_first;
          next = at_next ∙ (λ i. Some (record { child = q.child; separator = sym high i }));
          neighbours = record { level = sym level; fence = sym low };
          level = h.level;
        },
        (h.fences.0, (let a = h.fences.1 in let b = fm.right_order in omega (arith, a, b, high))),
      )

  pub left_so : first + 1 ≡ child.slot → beside ≡ first → HoldsSiblings t (record { above = child.above; left = record { node = q.child; content = shape; changed = false }; right = child.at; slot = first }) k3.log.holdings × IsInEither pc (record { above = child.above; left = record { node = q.child; content = shape; changed = false }; right = child.at; slot = first })
  left_so is first_is =
      let r : Pair = pair child.at.node child.at.content.high in
      let at_first : slice_get (pairs_of child.above.content) first ≡ Some q = ap (slice_get (pairs_of child.above.content)) (sym first_is) ∙ at in
      let at_next : slice_get (pairs_of child.above.content) (first + 1) ≡ Some (pair child.at.node child.at.content.high) = ap (slice_get (pairs_of child.above.content)) is ∙ h.at in
      let which : ((q.child ≡ child.at.node) × (r.child ≡ q.child)) ⊎ ((q.child ≡ q.child) × (r.child ≡ child.at.node)) = inr (refl, refl) in
      let tk = taken q r at_first at_next which in
      let high = shape_high q r at_first at_next which in
      let level = shape_level q r at_first at_next which in
      let fm = fam q r at_first at_next which in
      let child_low : child.at.content.low ≡ q.separator + 1 = ap (λ (z : NodeData). z.low) (sym child_told.1) ∙ fm.fits.low in
      let low = shape_low q r at_first at_next which in
      let left_low = fm.left.fits.low in (
        record {
          parent_within = h.parent_within;
          left_within = q_within q r at_first at_next which;
          right_within = h.within;
          left_first = true;
          low = tk.new;
          high = h.lower;
          upper = h.upper;
          held = held3 q r at_first at_next which;
          left = here3 q r at_first at_next which;
          right = h.here;
          parent = h.parent;
          out = out3 q r at_first at_next which;
          at = at_first ∙ (λ i. Some (record { child = q.child; separator = sym high i }));
          next = at_next;
          neighbours = record { level = level; fence = (omega (arith, high, child_low)) };
          level = (let e = h.level in omega (arith, e, level));
        },
        ((let a = h.fences.0 in let b = fm.left_order in omega (arith, a, b, low, left_low, child_low)), h.fences.1),
      )

  pub siblings_so : (x : Siblings) → x.above ≡ child.above → x.slot ≡ first → ((first ≡ child.slot) × (x.left ≡ child.at) × (x.right ≡ record { node = q.child; content = shape; changed = false })) ⊎ ((first ≢ child.slot) × (x.left ≡ record { node = q.child; content = shape; changed = false }) × (x.right ≡ child.at))
      → ((first ≡ child.slot) × (beside ≡ first + 1)) ⊎ ((first ≢ child.slot) × (beside ≡ first))
      → HoldsSiblings t x k3.log.holdings × IsInEither pc x × (x.above ≡ child.above) × ((x.left ≡ child.at) ⊎ (x.right ≡ child.at))
  siblings_so x above slot (inl (e, left, right)) (inl (same', next_is)) =
      let made = right_so e next_is in
      let is = siblings_are x child.above child.at other first above left right slot in
      (subst (λ z. HoldsSiblings t z k3.log.holdings) is made.0, subst (IsInEither pc) is made.1, above, inl left)
  siblings_so x above slot (inl (e, left, right)) (inr (far, b)) = absurd (far e)
  siblings_so x above slot (inr (far, left, right)) (inl (same', next_is)) = absurd (far same')
  siblings_so x above slot (inr (far, left, right)) (inr (far', b)) = by_near near
    where
      by_near : (first ≡ child.slot) ⊎ (first + 1 ≡ child.slot) → HoldsSiblings t x k3.log.holdings × IsInEither pc x × (x.above ≡ child.above) × ((x.left ≡ child.at) ⊎ (x.right ≡ child.at))
      by_near (inl e) = absurd (far e)
      by_near (inr e) =
          let made = left_so e b in
          let is = siblings_are x child.above other child.at first above left right slot in
          (subst (λ z. HoldsSiblings t z k3.log.holdings) is made.0, subst (IsInEither pc) is made.1, above, inr right)
