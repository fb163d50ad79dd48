-- A spine in which nothing was stored is let go of, from its leaf up.
use Rattle.std.proofs.Common.{List, [], ◌∷◌, ◌++◌, ◌≢◌, sym, ◌≡◌, refl, ap, ◌∙◌, subst, Some, inl, inr, ne_eqb, cond, ℕ, zero, suc, ◌-◌, arith, append_assoc, ◌<◌, false, IsSomeAnd, length, IsSome}
use Rattle.std.specs.List.{AllByRecursion}
use Rattle.tree_laws.proofs.Times.{In, all_at}
use Rattle.tree_shape.specs.declared.pair.Pair.{Pair}
use Rattle.tree_shape.specs.NodeData.{pairs_of, NodeData}
use Rattle.tree_laws.specs.Steps.{first_child}
use Rattle.word_rule.specs.declared.log.Holding.{Holding}
use Rattle.word_rule.specs.Held.{held_of, without_lock}
use Rattle.word_rule.specs.CallerData.{CallerData}
use Rattle.word_rule.specs.Steps.{after_node_release_same}
use Rattle.word_rule.specs.declared.log.Terms.{Terms}
use Rattle.word_rule.specs.declared.log.Holdings.{Holdings}
use Rattle.word_rule.specs.Spelling.{spelled}
use Rattle.node_store.specs.Holding.{ReadsHeld}
use Rattle.tree_descent.specs.Paths.{AreApart}
use Rattle.tree_descent.proofs.HeldLists.{found_head}
use Rattle.fence_move.specs.Spines.{IsLockAt, IsSpine, HoldsFresh, IsFreshLock}
use Rattle.fence_move.proofs.LockedSpines.{without_head, may_read_found, reads_spelled}

-- what holds of all of two lists
pub all_parts : {A : Type 0} (P : A → Type 0) (xs ys : List A) → AllByRecursion P (xs ++ ys) → AllByRecursion P xs × AllByRecursion P ys
all_parts P [] ys all = (tt, all)
all_parts P (x ∷ xs) ys all = let rest = all_parts P xs ys all.1 in ((all.0, rest.0), rest.1)

-- where each node is held once, no other lock is of a lock's node
pub apart_mid : (xs : List Holding) (h : Holding) (ys : List Holding) → AreApart (xs ++ h ∷ ys) → AllByRecursion (λ (a : Holding). a.node ≢ h.node) xs × AllByRecursion (λ (a : Holding). a.node ≢ h.node) ys
apart_mid [] h ys all = (tt, all.0)
apart_mid (x ∷ xs) h ys all = let rest = apart_mid xs h ys all.1 in (((λ e. mid xs all.0 (sym e)), rest.0), rest.1)
  where
    mid : (zs : List Holding) → AllByRecursion (λ (a : Holding). a.node ≢ x.node) (zs ++ h ∷ ys) → h.node ≢ x.node
    mid [] far = far.0
    mid (z ∷ zs) far = mid zs far.1

pub found_in : (held : List Holding) (h : Holding) → AreApart held → In h held → held_of h.node held ≡ Some h
found_in [] h all there = absurd there
found_in (a ∷ held) h all there = elim there [
  | inl e ↦ subst (λ (z : Holding). held_of z.node (a ∷ held) ≡ Some z) e (found_head a.node a held refl)
  | inr later ↦ ap (λ b. cond b (Some a) (held_of h.node held)) (ne_eqb a.node h.node (λ e. all_at (λ (x : Holding). x.node ≢ a.node) held h all.0 later (sym e))) ∙ found_in held h all.1 later
]

-- the topmost lock of a spine
pub top_of : (child : ℕ → List Pair → ℕ) (n level : ℕ) (locks : List Holding) → level ≢ 0 → IsSpine child level n locks
    → (h : Holding) × (lower : List Holding) × (IsLockAt n level h × (locks ≡ lower ++ h ∷ []) × IsSpine child (level - 1) (child 0 (pairs_of h.settled)) lower)
top_of child n zero locks some s = absurd (some refl)
top_of child n (suc level) locks some (h, lower, (at, is, below)) =
    let e : suc level - 1 ≡ level = omega arith in (h, lower, (at, is, subst (λ k. IsSpine child k (child 0 (pairs_of h.settled)) lower) (sym e) below))

pub leaf_of : (child : ℕ → List Pair → ℕ) (n level : ℕ) (locks : List Holding) → level ≡ 0 → IsSpine child level n locks → (h : Holding) × (IsLockAt n zero h × (locks ≡ h ∷ []))
leaf_of child n level locks zero_level s = subst (λ k. IsSpine child k n locks) zero_level s

-- the lock at the head was let go of
pub let_go_head : (n : ℕ) (h : Holding) (base : List Holding) (k k' : CallerData) → k.log.holdings.held ≡ h ∷ base → h.node ≡ n → AllByRecursion (λ (a : Holding). a.node ≢ h.node) base → n ≢ 0 → k' ≡ record k { log = after_node_release_same n k.log } → k'.log.holdings ≡ record k.log.holdings { held = base }
let_go_head n h base k k' held node far never is =
    ap (λ (z : CallerData). z.log.holdings) is
    ∙ (λ i. record k.log.holdings { held = (ap (without_lock n) held ∙ without_head n h base node (subst (λ m. AllByRecursion (λ (a : Holding). a.node ≢ m) base) node far)) i })

-- The lock of a spine that is a leaf alone, and is held over others.
pub record HoldsSpineLeaf (P : Holding → Type 0) (n : ℕ) (held base : List Holding) : Type 0 where
  pub lock : Holding
  pub at : IsLockAt n zero lock
  pub parts : held ≡ lock ∷ base
  pub is : P lock

-- The topmost lock of a spine that is held over others, and what stands below it.
pub record HoldsSpineTop (P : Holding → Type 0) (n level : ℕ) (held base : List Holding) : Type 0 where
  pub lock : Holding
  pub lower : List Holding
  pub at : IsLockAt n level lock
  pub spine : IsSpine first_child (level - 1) (first_child 0 (pairs_of lock.settled)) lower
  pub parts : held ≡ lower ++ (lock ∷ base)
  pub is : P lock
  pub each : AllByRecursion P lower

module _ (P : Holding → Type 0) (n level : ℕ) (held locks base : List Holding) (split : held ≡ locks ++ base) (spine : IsSpine first_child level n locks) (each : AllByRecursion P locks) where
  pub spine_leaf : level ≡ 0 → HoldsSpineLeaf P n held base
  spine_leaf zero_level =
      let leaf = leaf_of first_child n level locks zero_level spine in record {
        lock = leaf.0;
        at = leaf.1.0;
        parts = split ∙ ap (λ xs. xs ++ base) leaf.1.1;
        is = (subst (AllByRecursion P) leaf.1.1 each).0;
      }

  pub spine_top : level ≢ 0 → HoldsSpineTop P n level held base
  spine_top some =
      let top = top_of first_child n level locks some spine in
      let all = all_parts P top.1 (top.0 ∷ []) (subst (AllByRecursion P) top.2.1 each) in record {
        lock = top.0;
        lower = top.1;
        at = top.2.0;
        spine = top.2.2;
        parts = split ∙ (ap (λ xs. xs ++ base) top.2.1 ∙ append_assoc top.1 (top.0 ∷ []) base);
        is = all.1.0;
        each = all.0;
      }

module _ (t : Terms) (n level : ℕ) (k : CallerData) (s : HoldsFresh t n level k.log.holdings) (zero_level : level ≡ 0) where
  leaf : HoldsSpineLeaf (IsFreshLock t) n k.log.holdings.held s.base
  leaf = spine_leaf (IsFreshLock t) n level k.log.holdings.held s.locks s.base s.held s.spine s.each zero_level

  leaf_apart : AreApart (leaf.lock ∷ s.base)
  leaf_apart = subst AreApart leaf.parts s.apart

  pub leaf_within : n < t.nodes
  leaf_within = subst (λ m. m < t.nodes) leaf.at.0 leaf.is.within

  pub leaf_clean : IsSomeAnd (held_of n k.log.holdings.held) (λ h. h.stored ≡ false)
  leaf_clean = subst (λ o. IsSomeAnd o (λ (h : Holding). h.stored ≡ false)) (sym (ap (held_of n) leaf.parts ∙ found_head n leaf.lock s.base leaf.at.0)) leaf.is.clean

  pub leaf_let_go_of : (k' : CallerData) → k' ≡ record k { log = after_node_release_same n k.log } → k'.log.holdings ≡ record k.log.holdings { held = s.base }
  leaf_let_go_of k' is = let_go_head n leaf.lock s.base k k' leaf.parts leaf.at.0 leaf_apart.0 (λ e. leaf.is.never_root (leaf.at.0 ∙ e)) is

module _ (t : Terms) (n level : ℕ) (k : CallerData) (s : HoldsFresh t n level k.log.holdings) (some : level ≢ 0) where
  top : HoldsSpineTop (IsFreshLock t) n level k.log.holdings.held s.base
  top = spine_top (IsFreshLock t) n level k.log.holdings.held s.locks s.base s.held s.spine s.each some

  apart : AreApart (top.lower ++ (top.lock ∷ s.base))
  apart = subst AreApart top.parts s.apart

  there : (xs : List Holding) → In top.lock (xs ++ (top.lock ∷ s.base))
  there [] = inl refl
  there (x ∷ xs) = inr (there xs)

  found : held_of n k.log.holdings.held ≡ Some top.lock
  found = ap (held_of n) top.parts ∙ subst (λ m. held_of m (top.lower ++ (top.lock ∷ s.base)) ≡ Some top.lock) top.at.0 (found_in (top.lower ++ (top.lock ∷ s.base)) top.lock apart (there top.lower))

  pub top_within : n < t.nodes
  top_within = subst (λ m. m < t.nodes) top.at.0 top.is.within

  pub may_read_top : IsSomeAnd (held_of n k.log.holdings.held) (λ z. IsSome (spelled z.words))
  may_read_top = may_read_found n top.lock.settled top.lock k found top.is.live.spells

  module _ (k1 : CallerData) (shape : NodeData) (reads : ReadsHeld n k k1 shape) (same : k1.log.holdings ≡ k.log.holdings) where
    is : top.lock.settled ≡ shape
    is = reads_spelled n top.lock.settled shape top.lock k k1 found top.is.live.spells reads

    pub top_pairs : 0 < length (pairs_of shape)
    top_pairs = subst (λ (z : NodeData). 0 < length (pairs_of z)) is (top.is.pairs (let e = top.at.1 in omega (arith, e, some)))

    pub fresh_below : (child : ℕ) → child ≡ first_child 0 (pairs_of shape) → HoldsFresh t child (level - 1) k1.log.holdings
    fresh_below child e = record {
      locks = top.lower;
      base = top.lock ∷ s.base;
      held = ap (λ (z : Holdings). z.held) same ∙ top.parts;
      spine = subst (λ c. IsSpine first_child (level - 1) c top.lower) (ap (λ (z : NodeData). first_child 0 (pairs_of z)) is ∙ sym e) top.spine;
      each = top.each;
      apart = subst AreApart (sym (ap (λ (z : Holdings). z.held) same)) s.apart;
    }

    module _ (child : ℕ) (e : child ≡ first_child 0 (pairs_of shape)) (k2 : CallerData) (below : (spine : HoldsFresh t child (level - 1) k1.log.holdings) → k2.log.holdings ≡ record k1.log.holdings { held = spine.base }) where
      left : k2.log.holdings ≡ record k.log.holdings { held = top.lock ∷ s.base }
      unfolding fresh_below
      left = below (fresh_below child e) ∙ ap (λ (z : Holdings). record z { held = top.lock ∷ s.base }) same

      left_apart : AreApart (top.lock ∷ s.base)
      left_apart = go top.lower apart
        where
          go : (xs : List Holding) → AreApart (xs ++ (top.lock ∷ s.base)) → AreApart (top.lock ∷ s.base)
          go [] all = all
          go (x ∷ xs) all = go xs all.1

      pub top_clean : IsSomeAnd (held_of n k2.log.holdings.held) (λ h. h.stored ≡ false)
      top_clean = subst (λ o. IsSomeAnd o (λ (h : Holding). h.stored ≡ false)) (sym (ap (λ (z : Holdings). held_of n z.held) left ∙ found_head n top.lock s.base top.at.0)) top.is.clean

      pub top_let_go_of : (k3 : CallerData) → k3 ≡ record k2 { log = after_node_release_same n k2.log } → k3.log.holdings ≡ record k.log.holdings { held = s.base }
      top_let_go_of k3 now =
          let_go_head n top.lock s.base k2 k3 (ap (λ (z : Holdings). z.held) left) top.at.0 left_apart.0 (λ z. top.is.never_root (top.at.0 ∙ z)) now
          ∙ ap (λ (z : Holdings). record z { held = s.base }) left
