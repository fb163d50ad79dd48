-- The next leaf: the right spine of a fence is named by X, and is locked below it.
use Rattle.std.proofs.Common.{ℕ, List, [], ◌∷◌, ◌++◌, IsSome, refl, inl, inr, ◌≡◌, ◌≢◌, suc, ◌+◌, ◌-◌, ◌<◌, ◌≤◌, length, ap, sym, ◌∙◌, subst, arith, Option, Some, None, IfSome, true≢false, IsSomeAnd}
use Rattle.std.specs.List.{AllByRecursion, slice_get}
use Rattle.std.proofs.lemmas.Option.{slice_get_within}
use Rattle.tree_laws.proofs.Times.{In, all_at, some_same}
use Rattle.tree_shape.specs.declared.node.NodeBounds.{NodeBounds}
use Rattle.tree_shape.specs.declared.pair.Pair.{Pair}
use Rattle.tree_shape.specs.NodeData.{NodeData, frame_of, pairs_of}
use Rattle.tree_laws.specs.Trees.{Branch, branch, branches}
use Rattle.tree_laws.specs.Steps.{first_child}
use Rattle.word_rule.specs.declared.log.Holding.{Holding}
use Rattle.word_rule.specs.declared.log.Terms.{Terms}
use Rattle.word_rule.specs.Spelling.{SpellsNode, spelled}
use Rattle.word_rule.specs.CallerData.{CallerData}
use Rattle.word_rule.specs.declared.log.Holdings.{Holdings}
use Rattle.word_rule.specs.Held.{held_of}
use Rattle.word_rule.specs.NodeTells.{IsLiveNode, KnowsTree}
use Rattle.word_rule.specs.Steps.{place_by_held}
use Rattle.node_store.specs.Holding.{ReadsHeld}
use Rattle.tree_descent.specs.Paths.{AreHigher, IsLiveLock, AreApart}
use Rattle.tree_descent.proofs.HeldLists.{found_head}
use Rattle.fence_move.specs.Spines.{HoldsLeafPair, HoldsNext, HoldsWay, LocksSpine, NamesChild, HoldsFresh, IsSpine}
use Rattle.fence_move.proofs.FreshSpines.{all_parts, found_in}
use Rattle.fence_move.proofs.HeldTrees.{EndsAt, Forks, IsChild, OnTree, after_in, apart_with, child, child_frame, forks, on_tree, placed_in_tree}
use Rattle.fence_move.proofs.LockedSpines.{reads_spelled, may_read_found}

-- what is above X, and X
pub higher_parts : (t : Terms) (level : ℕ) (spine : List Holding) (top : Holding) (rest : List Holding) → AreHigher t level (spine ++ top ∷ rest) → IsLiveLock t top × AreHigher t top.settled.level rest
higher_parts t level [] top rest all = (all.0, all.2)
higher_parts t level (h ∷ spine) top rest all = higher_parts t h.settled.level spine top rest all.2

pub higher_marked : (t : Terms) (level : ℕ) (held : List Holding) → AreHigher t level held → AllByRecursion (λ (h : Holding). IsSome h.mark) held
higher_marked t level [] all = tt
higher_marked t level (h ∷ held) all = (all.0.marked, higher_marked t h.settled.level held all.2)

pub higher_spelled : (t : Terms) (level : ℕ) (held : List Holding) → AreHigher t level held → AllByRecursion (λ (h : Holding). SpellsNode h.words h.settled) held
higher_spelled t level [] all = tt
higher_spelled t level (h ∷ held) all = (all.0.spells, higher_spelled t h.settled.level held all.2)

pub in_middle : (xs : List Holding) (h : Holding) (ys : List Holding) → In h (xs ++ h ∷ ys)
in_middle [] h ys = inl refl
in_middle (x ∷ xs) h ys = inr (in_middle xs h ys)

module _ (t : Terms) (x slot : ℕ) (holdings : Holdings) (way : HoldsWay t x slot holdings) (tree : KnowsTree holdings) where
  abbrev pub way_held : List Holding
  way_held = way.lock ∷ (way.spine ++ way.top ∷ way.rest)

  pub on : AllByRecursion (OnTree tree.contents tree.live) (way.lock ∷ (way.spine ++ way.top ∷ way.rest))
  on = on_tree holdings tree (way.lock ∷ (way.spine ++ way.top ∷ way.rest)) way.held (way.here.marked, higher_marked t 0 (way.spine ++ way.top ∷ way.rest) way.above)

  pub on_parts : AllByRecursion (OnTree tree.contents tree.live) way.spine × AllByRecursion (OnTree tree.contents tree.live) (way.top ∷ way.rest)
  on_parts = all_parts (OnTree tree.contents tree.live) way.spine (way.top ∷ way.rest) on.1

  pub top_live : IsLiveLock t way.top
  top_live = (higher_parts t 0 way.spine way.top way.rest way.above).0

  pub fork : Forks tree.contents tree.live tree.lawful slot way.lock way.spine way.top
  fork = forks tree.contents tree.live tree.lawful slot way.lock way.spine way.top on.0 on_parts.0 on_parts.1.0 way.climb

  pub way_apart : AreApart holdings.held
  way_apart = subst AreApart (sym way.held) (apart_with tree.contents tree.live tree.lawful t 0 way.lock (way.spine ++ way.top ∷ way.rest) on.0 on.1 (let z = way.leaf in omega (arith, z)) way.above)

  -- X is found
  pub found_x : held_of x holdings.held ≡ Some way.top
  found_x = subst (λ m. held_of m holdings.held ≡ Some way.top) way.node (found_in holdings.held way.top way_apart (subst (In way.top) (sym way.held) (inr (in_middle way.spine way.top way.rest))))

  abbrev pub b : Branch
  b = branch fork.at.next.child (way.top.settled.level - 1) (fork.at.pair.separator + 1) fork.at.next.separator

  after : slice_get (pairs_of way.top.settled) (suc slot) ≡ Some fork.at.next
  after = let e : suc slot ≡ slot + 1 = omega arith in subst (λ k. slice_get (pairs_of way.top.settled) k ≡ Some fork.at.next) (sym e) fork.at.after

  pub branch_in : In b (branches (way.top.settled.level - 1) way.top.settled)
  branch_in = after_in (way.top.settled.level - 1) way.top.settled.low slot (pairs_of way.top.settled) fork.at.pair fork.at.next fork.at.at after

  pub right_child : IsChild tree.contents tree.live tree.lawful b
  right_child = child tree.contents tree.live tree.lawful way.top b on_parts.1.0 branch_in

  abbrev place : NodeBounds
  place = frame_of (tree.contents fork.at.next.child)

  beside : AllByRecursion (λ (h : Holding). IsSome h.mark × (h.settled.low ≡ place.low → way.top.settled.level - 1 < h.settled.level)) (way.lock ∷ (way.spine ++ way.top ∷ way.rest))
  beside = ((on.0.marked, below way.lock fork.ends), go way.spine on_parts.0 fork.each)
    where
      low_is : place.low ≡ fork.at.pair.separator + 1
      low_is = right_child.fits.low

      below : (h : Holding) → EndsAt tree.contents tree.live tree.lawful fork.at.pair.separator h → h.settled.low ≡ place.low → way.top.settled.level - 1 < h.settled.level
      below h ends e = absurd (let l = ends.low in let z = low_is in omega (arith, l, e, z))

      up : way.top.settled.level - 1 < way.top.settled.level
      up = let u = fork.under in omega (arith, u)

      higher : (level : ℕ) (hs : List Holding) → way.top.settled.level ≤ level → AreHigher t level hs → AllByRecursion (λ (h : Holding). IsSome h.mark × (h.settled.low ≡ place.low → way.top.settled.level - 1 < h.settled.level)) hs
      higher level [] most all = tt
      higher level (h ∷ hs) most all = ((all.0.marked, λ _. (let a = all.1 in omega (arith, a, most))), higher h.settled.level hs (let a = all.1 in omega (arith, a, most)) all.2)

      go : (xs : List Holding) → AllByRecursion (OnTree tree.contents tree.live) xs → AllByRecursion (EndsAt tree.contents tree.live tree.lawful fork.at.pair.separator) xs → AllByRecursion (λ (h : Holding). IsSome h.mark × (h.settled.low ≡ place.low → way.top.settled.level - 1 < h.settled.level)) (xs ++ way.top ∷ way.rest)
      go [] all ends = ((on_parts.1.0.marked, λ _. up), higher way.top.settled.level way.rest (omega arith) (higher_parts t 0 way.spine way.top way.rest way.above).1)
      go (h ∷ xs) all ends = ((all.0.marked, below h ends.0), go xs all.1 ends.1)

  far : (hs : List Holding) → AllByRecursion (OnTree tree.contents tree.live) hs → AllByRecursion (λ (h : Holding). IsSome h.mark × (h.settled.low ≡ place.low → way.top.settled.level - 1 < h.settled.level)) hs → AllByRecursion (λ (h : Holding). h.node ≢ fork.at.next.child) hs
  far [] all near = tt
  far (h ∷ hs) all near = (
    (λ e. (
        let frame = child_frame tree.contents tree.live tree.lawful h b right_child all.0 e in
        let low : h.settled.low ≡ place.low = frame.1 ∙ sym right_child.fits.low in
        let higher = near.0.1 low in let level = frame.0 in omega (arith, higher, level))),
    far hs all.1 near.1,
  )

  child_within : fork.at.next.child < t.nodes
  child_within = go way.top.mark refl top_live.marked top_live.live
    where
      go : (o : Option NodeBounds) → way.top.mark ≡ o → IsSome o → IfSome o (IsLiveNode t way.top.node way.top.settled) → fork.at.next.child < t.nodes
      go None e some_mark live = absurd (true≢false (sym some_mark))
      go (Some m) e some_mark live = (all_at (λ (z : Branch). (z.child < t.nodes) × (z.child ≢ 0) × (live.places z.child ≡ z.frame)) (branches (way.top.settled.level - 1) way.top.settled) b live.children branch_in).0

  pub names_right : NamesChild t fork.at.next.child (way.top.settled.level - 1) holdings
  names_right = record {
    frame = place;
    placed = subst (λ hs. place_by_held fork.at.next.child hs ≡ Some place) (sym way.held) (placed_in_tree tree.contents tree.live tree.lawful fork.at.next.child way.top b (way.lock ∷ (way.spine ++ way.top ∷ way.rest)) on (inr (in_middle way.spine way.top way.rest)) branch_in refl);
    level_is = right_child.fits.level;
    never_root = right_child.no_root;
    within = child_within;
    apart = subst (AllByRecursion (λ (h : Holding). h.node ≢ fork.at.next.child)) (sym way.held) (far (way.lock ∷ (way.spine ++ way.top ∷ way.rest)) on beside);
    beside = subst (AllByRecursion (λ (h : Holding). IsSome h.mark × (h.settled.low ≡ place.low → way.top.settled.level - 1 < h.settled.level))) (sym way.held) beside;
  }

  -- X was read, and its pair after the slot
  module _ (k k1 : CallerData) (start : k.log.holdings ≡ holdings) (shape : NodeData) (reads : ReadsHeld x k k1 shape) where
    found_k : held_of x k.log.holdings.held ≡ Some way.top
    found_k = ap (λ (z : Holdings). held_of x z.held) start ∙ found_x

    pub shape_is : way.top.settled ≡ shape
    shape_is = reads_spelled x way.top.settled shape way.top k k1 found_k top_live.spells reads

    pub slot_inside : slot + 1 < length (pairs_of shape)
    slot_inside = subst (λ (z : NodeData). slot + 1 < length (pairs_of z)) shape_is (slice_get_within (pairs_of way.top.settled) (slot + 1) fork.at.next fork.at.after)

    pub level_some : 0 < shape.level
    level_some = subst (λ (z : NodeData). 0 < z.level) shape_is (let u = fork.under in omega (arith, u))

    pub pair_is : (p : Pair) → slice_get (pairs_of shape) (slot + 1) ≡ Some p → fork.at.next ≡ p
    pair_is p at = some_same fork.at.next p (sym fork.at.after ∙ (ap (λ (z : NodeData). slice_get (pairs_of z) (slot + 1)) shape_is ∙ at))

    pub names_read : (p : Pair) → slice_get (pairs_of shape) (slot + 1) ≡ Some p → k1.log.holdings ≡ k.log.holdings → NamesChild t p.child (shape.level - 1) k1.log.holdings
    names_read p at same =
        subst (NamesChild t p.child (shape.level - 1)) (sym (same ∙ start))
        (subst (λ (z : NodeData). NamesChild t p.child (z.level - 1) holdings) shape_is (subst (λ (z : Pair). NamesChild t z.child (way.top.settled.level - 1) holdings) (pair_is p at) names_right))

    -- and the right spine was locked
    module _ (p : Pair) (at : slice_get (pairs_of shape) (slot + 1) ≡ Some p) (same : k1.log.holdings ≡ k.log.holdings) (r : ℕ) (u : NodeData) (last : Holdings) (locked : LocksSpine t p.child (shape.level - 1) r u k1.log.holdings last) where
      s : LocksSpine t fork.at.next.child (way.top.settled.level - 1) r u holdings last
      s = subst (λ (z : Holdings). LocksSpine t fork.at.next.child (way.top.settled.level - 1) r u z last) (same ∙ start)
          (subst (λ (z : NodeData). LocksSpine t fork.at.next.child (z.level - 1) r u k1.log.holdings last) (sym shape_is) (subst (λ (z : Pair). LocksSpine t z.child (shape.level - 1) r u k1.log.holdings last) (sym (pair_is p at)) locked))

      pub holds_next : (next : HoldsNext t x slot last) × (next.base ≡ holdings) × (next.right.node ≡ r) × (next.right.settled ≡ u)
      holds_next = (
        record {
          base = holdings;
          way = way;
          next = fork.at.next;
          after = fork.at.after;
          level = way.top.settled.level - 1;
          top = (let u = fork.under in omega (arith, u));
          right = s.right;
          more = s.more;
          spine = s.spine;
          fresh = s.fresh;
          held = s.held;
          apart = s.apart way_apart;
          same = s.same;
        },
        refl,
        s.node,
        s.content,
      )

      right_live : (o : Option NodeBounds) → IsSome o → IfSome o (IsLiveNode t s.right.node s.right.settled) → (f : NodeBounds) × IsLiveNode t r u f
      right_live None some_mark live = absurd (true≢false (sym some_mark))
      right_live (Some f) some_mark live = (f, subst (λ m. IsLiveNode t m u f) s.node (subst (λ z. IsLiveNode t s.right.node z f) s.content live))

      pub holds_pair : (n : ℕ) (content : NodeData) → way.lock.node ≡ n → way.lock.settled ≡ content → HoldsLeafPair n content r u last × ((f : NodeBounds) × IsLiveNode t r u f)
      unfolding names_right
      holds_pair n content node is = (
        record {
          left = way.lock;
          found_left = subst (λ m. held_of m last.held ≡ Some way.lock) node (found_in last.held way.lock (s.apart way_apart) (subst (In way.lock) (sym (s.held ∙ ap (λ hs. (s.right ∷ s.more) ++ hs) way.held)) (in_middle (s.right ∷ s.more) way.lock (way.spine ++ way.top ∷ way.rest))));
          left_is = is;
          left_marked = way.here.marked;
          left_level = ap (λ (z : NodeData). z.level) (sym is) ∙ way.leaf;
          right = s.right;
          found_right = ap (held_of r) s.held ∙ found_head r s.right (s.more ++ holdings.held) s.node;
          right_is = s.content;
          right_marked = s.fresh.0.live.marked;
          right_level = s.leaf;
          beside = s.low place names_right.placed ∙ (right_child.fits.low ∙ ap (λ z. z + 1) (sym (ap (λ (z : NodeData). z.high) (sym is) ∙ fork.ends.high)));
        },
        right_live s.right.mark s.fresh.0.live.marked s.fresh.0.live.live,
      )

-- the right spine, which is to be let go of again
module _ (t : Terms) (x slot : ℕ) (k k1 : CallerData) (next : HoldsNext t x slot k.log.holdings) (shape : NodeData) (reads : ReadsHeld x k k1 shape) where
  there : In next.way.top k.log.holdings.held
  there = subst (In next.way.top) (sym (next.held ∙ ap (λ hs. (next.right ∷ next.more) ++ hs) next.way.held)) (behind (next.right ∷ next.more))
    where
      behind : (xs : List Holding) → In next.way.top (xs ++ (next.way.lock ∷ (next.way.spine ++ next.way.top ∷ next.way.rest)))
      behind [] = inr (in_middle next.way.spine next.way.top next.way.rest)
      behind (y ∷ xs) = inr (behind xs)

  pub found_top : held_of x k.log.holdings.held ≡ Some next.way.top
  found_top = subst (λ m. held_of m k.log.holdings.held ≡ Some next.way.top) next.way.node (found_in k.log.holdings.held next.way.top next.apart there)

  top_spells : SpellsNode next.way.top.words next.way.top.settled
  top_spells = (higher_parts t 0 next.way.spine next.way.top next.way.rest next.way.above).0.spells

  pub top_is : next.way.top.settled ≡ shape
  top_is = reads_spelled x next.way.top.settled shape next.way.top k k1 found_top top_spells reads

  pub after_inside : slot + 1 < length (pairs_of shape)
  after_inside = subst (λ (z : NodeData). slot + 1 < length (pairs_of z)) top_is (slice_get_within (pairs_of next.way.top.settled) (slot + 1) next.next next.after)

  pub top_above : 0 < shape.level
  top_above = subst (λ (z : NodeData). 0 < z.level) top_is (let u = next.top in omega (arith, u))

  pub fresh_next : (p : Pair) → slice_get (pairs_of shape) (slot + 1) ≡ Some p → k1.log.holdings ≡ k.log.holdings → HoldsFresh t p.child (shape.level - 1) k1.log.holdings
  fresh_next p at same =
      let e : next.next ≡ p = some_same next.next p (sym next.after ∙ (ap (λ (z : NodeData). slice_get (pairs_of z) (slot + 1)) top_is ∙ at)) in
      let l : next.level ≡ shape.level - 1 = (let u = next.top in let z = ap (λ (y : NodeData). y.level) top_is in omega (arith, u, z)) in record {
        locks = next.right ∷ next.more;
        base = next.base.held;
        held = ap (λ (z : Holdings). z.held) same ∙ next.held;
        spine = subst (λ m. IsSpine first_child m p.child (next.right ∷ next.more)) l (subst (λ (z : Pair). IsSpine first_child next.level z.child (next.right ∷ next.more)) e next.spine);
        each = next.fresh;
        apart = subst AreApart (sym (ap (λ (z : Holdings). z.held) same)) next.apart;
      }

  pub left_next : (p : Pair) (at : slice_get (pairs_of shape) (slot + 1) ≡ Some p) → k1.log.holdings ≡ k.log.holdings → (last : Holdings) → ((spine : HoldsFresh t p.child (shape.level - 1) k1.log.holdings) → last ≡ record k1.log.holdings { held = spine.base }) → last ≡ next.base
  unfolding fresh_next
  left_next p at same last base = base (fresh_next p at same) ∙ (ap (λ (z : Holdings). record z { held = next.base.held }) (same ∙ next.same))

pub may_read_next : (t : Terms) (x slot : ℕ) (k : CallerData) → HoldsNext t x slot k.log.holdings → IsSomeAnd (held_of x k.log.holdings.held) (λ z. IsSome (spelled z.words))
may_read_next t x slot k next = may_read_found x next.way.top.settled next.way.top k found ((higher_parts t 0 next.way.spine next.way.top next.way.rest next.way.above).0.spells)
  where
    behind : (xs : List Holding) → In next.way.top (xs ++ (next.way.lock ∷ (next.way.spine ++ next.way.top ∷ next.way.rest)))
    behind [] = inr (in_middle next.way.spine next.way.top next.way.rest)
    behind (y ∷ xs) = inr (behind xs)

    found : held_of x k.log.holdings.held ≡ Some next.way.top
    found = subst (λ m. held_of m k.log.holdings.held ≡ Some next.way.top) next.way.node (found_in k.log.holdings.held next.way.top next.apart (subst (In next.way.top) (sym (next.held ∙ ap (λ hs. (next.right ∷ next.more) ++ hs) next.way.held)) (behind (next.right ∷ next.more))))

pub may_read_way : (t : Terms) (x slot : ℕ) (k : CallerData) (holdings : Holdings) → k.log.holdings ≡ holdings → (way : HoldsWay t x slot holdings) → KnowsTree holdings → IsSomeAnd (held_of x k.log.holdings.held) (λ z. IsSome (spelled z.words))
may_read_way t x slot k holdings start way tree = may_read_found x way.top.settled way.top k (ap (λ (z : Holdings). held_of x z.held) start ∙ found_x t x slot holdings way tree) (top_live t x slot holdings way tree).spells
