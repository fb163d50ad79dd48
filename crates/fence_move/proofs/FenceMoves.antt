-- A fence that is moved on both held spines changes the tree lawfully, at the release of the next leaf.
use Rattle.std.proofs.Common.{ℕ, [], Bool, None, List, ◌∷◌, ◌≢◌, ◌++◌, sym, ◌≡◌, refl, arith, IsTrue, zero, suc, ap, Some, ◌+◌, ◌-◌, ◌<◌, ◌≤◌, length, map, ◌∙◌, subst, false, ◌==◌, IsSome, eq-eqb, ne_eqb, if◌then◌else◌, true≢false}
use Rattle.std.specs.List.{AllByRecursion, slice_get}
use Rattle.tree_shape.specs.declared.pair.Pair.{Pair}
use Rattle.tree_laws.specs.Lawful.{IsLawfulTree}
use Rattle.tree_laws.specs.LocalChange.{IsChangeOf}
use Rattle.tree_laws.specs.Steps.{IsFenceMove, fence_nodes, Keeps, LiesAbove, first_child, first_spine, last_child, last_spine}
use Rattle.tree_laws.specs.Trees.{Contents, branch, branches}
use Rattle.tree_laws.specs.Numbers.{times, is_among}
use Rattle.tree_laws.proofs.Times.{once_other, all_from, in_times, some_same, In, in_left, in_right, times-append, times_head}
use Rattle.tree_laws.proofs.Halves.{among, not_among}
use Rattle.tree_shape.specs.Changes.{at_slot, separate_at, begins_after, ends_at_fence}
use Rattle.tree_shape.specs.NodeData.{NodeData, Pairs, frame_of, pairs_of}
use Rattle.word_rule.specs.declared.log.Holding.{Holding}
use Rattle.word_rule.proofs.Each.{all_map, all_append}
use Rattle.word_rule.specs.declared.log.Holdings.{Holdings}
use Rattle.word_rule.specs.declared.log.Log.{Log}
use Rattle.word_rule.specs.declared.log.Terms.{Terms}
use Rattle.word_rule.specs.Exchange.{exchange, is_lawful, settle}
use Rattle.word_rule.specs.Held.{marked_in}
use Rattle.word_rule.specs.NodeTells.{KnowsTree}
use Rattle.word_rule.specs.Spelling.{SpellsNode}
use Rattle.tree_descent.specs.Paths.{AreApart}
use Rattle.tree_descent.proofs.HeldLists.{HeldOnce}
use Rattle.tree_descent.proofs.Settling.{FitsChange, IsHeldChange, SettlingLaws, lawful_release, left_out, marked_at, none_out, settled_after, settled_group, settled_still}
use Rattle.fence_move.proofs.FreshSpines.{all_parts, found_in}
use Rattle.fence_move.specs.Spines.{AreRewritten, IsRewrittenAs, HoldsNext, IsFreshLock, IsLeftToMove, IsRightToMove, IsSpine}
use Rattle.fence_move.proofs.FenceSpines.{BeginsAt, ClimbsSpine, RightFrom, climb_spine, first_locks, first_nodes, last_locks, last_nodes, lefts_move, rights_begin, rights_move, spine_levels}
use Rattle.fence_move.proofs.HeldTrees.{EndsAt, Forks, IsChild, OnTree, after_in, at_in, child, forks, on_tree}
use Rattle.fence_move.proofs.NextLeaves.{higher_marked, in_middle}

-- the laws of a moved fence
abbrev pub MoveLaw : Type 0
MoveLaw = (f : Contents) (live : ℕ → Bool) (parent slot : ℕ) (p q : Pair) (fence : ℕ) (g : Contents) → IsLawfulTree f live → IsFenceMove f live parent slot p q fence g → IsChangeOf f live parent (fence_nodes f parent p q) [] g None (fence_nodes f parent p q)

abbrev pub KeptLaw : Type 0
KeptLaw = (f : Contents) (live : ℕ → Bool) (parent slot : ℕ) (p q : Pair) (fence : ℕ) (g : Contents) → IsLawfulTree f live → IsFenceMove f live parent slot p q fence g → Keeps f live g live

-- lists
pub all_zip : {A : Type 0} (P Q : A → Type 0) (xs : List A) → AllByRecursion P xs → AllByRecursion Q xs → AllByRecursion (λ x. P x × Q x) xs
all_zip P Q [] p q = tt
all_zip P Q (x ∷ xs) p q = ((p.0, q.0), all_zip P Q xs p.1 q.1)

apart_split : (xs ys : List Holding) → AreApart (xs ++ ys) → AllByRecursion (λ (y : Holding). AllByRecursion (λ (a : Holding). a.node ≢ y.node) xs) ys
apart_split [] ys all = go ys
  where
    go : (zs : List Holding) → AllByRecursion (λ (y : Holding). AllByRecursion (λ (a : Holding). a.node ≢ y.node) []) zs
    go [] = tt
    go (z ∷ zs) = (tt, go zs)
apart_split (x ∷ xs) ys all =
    all_map (λ (y : Holding). (y.node ≢ x.node) × AllByRecursion (λ (a : Holding). a.node ≢ y.node) xs) (λ (y : Holding). AllByRecursion (λ (a : Holding). a.node ≢ y.node) (x ∷ xs)) (λ y both. ((λ e. both.0 (sym e)), both.1)) ys
    (all_zip (λ (y : Holding). y.node ≢ x.node) (λ (y : Holding). AllByRecursion (λ (a : Holding). a.node ≢ y.node) xs) ys (all_parts (λ (y : Holding). y.node ≢ x.node) xs ys all.0).1 (apart_split xs ys all.1))

apart_tail : (xs ys : List Holding) → AreApart (xs ++ ys) → AreApart ys
apart_tail [] ys all = all
apart_tail (x ∷ xs) ys all = apart_tail xs ys all.1

times_none : (n : ℕ) (xs : List ℕ) → AllByRecursion (λ m. m ≢ n) xs → times n xs ≡ 0
times_none n [] far = refl
times_none n (x ∷ xs) far = (let a = once_other n x (λ e. far.0 (sym e)) in let b = times_none n xs far.1 in omega (arith, a, b))

all_in : (xs : List ℕ) → AllByRecursion (λ n. IsTrue (is_among xs n)) xs
all_in xs = all_from (λ n. IsTrue (is_among xs n)) xs (λ n there. among xs n (in_times xs n there))

pub once_held : (held : List Holding) → AreApart held → HeldOnce held
once_held [] all = tt
once_held (h ∷ held) all = (all.0, once_held held all.1)

separated : (fence slot : ℕ) (pairs : List Pair) (p : Pair) → slice_get pairs slot ≡ Some p → slice_get (at_slot (separate_at fence) slot pairs) slot ≡ Some (record p { separator = fence })
separated fence slot [] p at = absurd (cc)
separated fence zero (q ∷ pairs) p at = ap (λ (z : Pair). Some (record z { separator = fence })) (some_same q p at)
separated fence (suc slot) (q ∷ pairs) p at = separated fence slot pairs p at

pub rewritten_all : (change : NodeData → NodeData) (Q R : Holding → Type 0) → ((a b : Holding) → Q a → IsRewrittenAs change a b → R b) → (xs ys : List Holding) → AreRewritten change xs ys → AllByRecursion Q xs → AllByRecursion R ys
rewritten_all change Q R each [] [] w all = tt
rewritten_all change Q R each [] (y ∷ ys) w all = absurd w
rewritten_all change Q R each (x ∷ xs) [] w all = absurd w
rewritten_all change Q R each (x ∷ xs) (y ∷ ys) w all = (each x y all.0 w.0, rewritten_all change Q R each xs ys w.1 all.1)

rewritten_back : (change : NodeData → NodeData) (S R : Holding → Type 0) → ((a b : Holding) → S b → IsRewrittenAs change a b → R a) → (xs ys : List Holding) → AreRewritten change xs ys → AllByRecursion S ys → AllByRecursion R xs
rewritten_back change S R each [] [] w all = tt
rewritten_back change S R each [] (y ∷ ys) w all = absurd w
rewritten_back change S R each (x ∷ xs) [] w all = absurd w
rewritten_back change S R each (x ∷ xs) (y ∷ ys) w all = (each x y all.0 w.0, rewritten_back change S R each xs ys w.1 all.1)

module _ (t : Terms) (x slot fence : ℕ) (holdings : Holdings) (next : HoldsNext t x slot holdings) (tree : KnowsTree holdings) (raised : next.way.lock.settled.high < fence) (lies : LiesAbove fence next.right.settled.body) (inside : fence < next.right.settled.high) where
  abbrev pub f : Contents
  f = tree.contents

  abbrev pub live : ℕ → Bool
  live = tree.live

  abbrev pub top : Holding
  top = next.way.top

  abbrev pub rest : List Holding
  rest = next.way.rest

  abbrev pub rights : List Holding
  rights = next.right ∷ next.more

  abbrev pub lefts : List Holding
  lefts = next.way.lock ∷ next.way.spine

  abbrev pub level : ℕ
  level = next.way.top.settled.level - 1

  pub held0 : holdings.held ≡ rights ++ (lefts ++ top ∷ rest)
  held0 = next.held ∙ ap (λ hs. (next.right ∷ next.more) ++ hs) next.way.held

  pub on_all : AllByRecursion (OnTree f live) (rights ++ (lefts ++ top ∷ rest))
  on_all = on_tree holdings tree (rights ++ (lefts ++ top ∷ rest)) held0 (all_append (λ (h : Holding). IsSome h.mark) rights (lefts ++ top ∷ rest) (all_map (IsFreshLock t) (λ (h : Holding). IsSome h.mark) (λ h z. z.live.marked) rights next.fresh) (next.way.here.marked, higher_marked t 0 (next.way.spine ++ top ∷ rest) next.way.above))

  pub on_rights : AllByRecursion (OnTree f live) rights
  on_rights = (all_parts (OnTree f live) rights (lefts ++ top ∷ rest) on_all).0

  pub on_lefts : AllByRecursion (OnTree f live) lefts
  on_lefts = (all_parts (OnTree f live) lefts (top ∷ rest) (all_parts (OnTree f live) rights (lefts ++ top ∷ rest) on_all).1).0

  pub on_more : AllByRecursion (OnTree f live) (top ∷ rest)
  on_more = (all_parts (OnTree f live) lefts (top ∷ rest) (all_parts (OnTree f live) rights (lefts ++ top ∷ rest) on_all).1).1

  pub apart0 : AreApart (rights ++ (lefts ++ top ∷ rest))
  apart0 = subst AreApart held0 next.apart

  -- the left spine, and X's pairs
  climb : ClimbsSpine slot top lefts
  climb = climb_spine slot next.way.lock next.way.spine top (next.way.lock ∷ []) (subst (λ l. IsSpine last_child l next.way.lock.node (next.way.lock ∷ [])) (sym next.way.leaf) (next.way.lock, ((refl, next.way.leaf), refl))) next.way.climb

  pub p : Pair
  p = climb.at.pair

  pub p_at : slice_get (pairs_of top.settled) slot ≡ Some p
  unfolding p
  p_at = climb.at.at

  pub left_spine : IsSpine last_child level p.child lefts
  unfolding p
  left_spine = climb.spine

  abbrev pub q : Pair
  q = next.next

  pub right_spine : IsSpine first_child level q.child rights
  right_spine = subst (λ l. IsSpine first_child l next.next.child rights) (let u = next.top in let e : next.level ≡ level = omega (arith, u) in e) next.spine

  up : 0 < top.settled.level
  up = let u = next.top in omega (arith, u)

  fork : Forks f live tree.lawful slot next.way.lock next.way.spine top
  fork = forks f live tree.lawful slot next.way.lock next.way.spine top on_lefts.0 on_lefts.1 on_more.0 next.way.climb

  p_same : fork.at.pair ≡ p
  p_same = some_same fork.at.pair p (sym fork.at.at ∙ p_at)

  ends : AllByRecursion (EndsAt f live tree.lawful p.separator) lefts
  ends = subst (λ (z : Pair). AllByRecursion (EndsAt f live tree.lawful z.separator) lefts) p_same (fork.ends, fork.each)

  below_fence : p.separator < fence
  below_fence = let e = ends.0.high in omega (arith, e, raised)

  pub left_moves : AllByRecursion (IsLeftToMove t fence) lefts
  left_moves = lefts_move f live tree.lawful t 0 fence p.separator slot next.way.lock next.way.spine top rest below_fence next.way.here next.way.above on_lefts.0 on_lefts.1 on_more.0 next.way.climb ends.0 ends.1

  p_found : (lowest : ℕ) × In (branch p.child level lowest p.separator) (branches (top.settled.level - 1) top.settled)
  p_found = at_in level top.settled.low slot (pairs_of top.settled) p p_at

  p_child : IsChild f live tree.lawful (branch p.child level p_found.0 p.separator)
  p_child = child f live tree.lawful top (branch p.child level p_found.0 p.separator) on_more.0 p_found.1

  q_found : In (branch q.child level (p.separator + 1) q.separator) (branches (top.settled.level - 1) top.settled)
  q_found = after_in level top.settled.low slot (pairs_of top.settled) p q p_at (let e : suc slot ≡ slot + 1 = omega arith in subst (λ k. slice_get (pairs_of top.settled) k ≡ Some q) (sym e) next.after)

  q_child : IsChild f live tree.lawful (branch q.child level (p.separator + 1) q.separator)
  q_child = child f live tree.lawful top (branch q.child level (p.separator + 1) q.separator) on_more.0 q_found

  right_from : RightFrom f live tree.lawful (f q.child).low fence level q.child rights
  right_from = rights_begin f live tree.lawful fence level q.child rights right_spine on_rights (inside, lies)

  low_fence : (f q.child).low ≤ fence
  low_fence = let e = q_child.fits.low in omega (arith, e, below_fence)

  pub right_moves : AllByRecursion (IsRightToMove t fence) rights
  right_moves = rights_move f live tree.lawful t (f q.child).low fence rights low_fence next.fresh on_rights right_from.each

  -- the tree's spines
  abbrev pub left_nodes : List ℕ
  left_nodes = last_spine f (f p.child).level p.child

  abbrev pub right_nodes : List ℕ
  right_nodes = first_spine f (f q.child).level q.child

  left_at : IsSpine last_child (f p.child).level p.child lefts
  left_at = subst (λ l. IsSpine last_child l p.child lefts) (sym p_child.fits.level) left_spine

  right_at : IsSpine first_child (f q.child).level q.child rights
  right_at = subst (λ l. IsSpine first_child l q.child rights) (sym q_child.fits.level) right_spine

  is_content : (h : Holding) → OnTree f live h → f h.node ≡ h.settled
  is_content h on = on.content

  far_right : (n : ℕ) → AllByRecursion (λ (a : Holding). a.node ≢ n) rights → times n right_nodes ≡ 0
  far_right n far = times_none n right_nodes (first_nodes f (λ m. m ≢ n) (f q.child).level q.child rights right_at (all_zip (λ (a : Holding). f a.node ≡ a.settled) (λ (a : Holding). a.node ≢ n) rights (all_map (OnTree f live) (λ (a : Holding). f a.node ≡ a.settled) is_content rights on_rights) far))

  far_left : (n : ℕ) → AllByRecursion (λ (a : Holding). a.node ≢ n) lefts → times n left_nodes ≡ 0
  far_left n far = times_none n left_nodes (last_nodes f (λ m. m ≢ n) (f p.child).level p.child lefts left_at (all_zip (λ (a : Holding). f a.node ≡ a.settled) (λ (a : Holding). a.node ≢ n) lefts (all_map (OnTree f live) (λ (a : Holding). f a.node ≡ a.settled) is_content lefts on_lefts) far))

  cross : AllByRecursion (λ (y : Holding). AllByRecursion (λ (a : Holding). a.node ≢ y.node) rights) (lefts ++ top ∷ rest)
  cross = apart_split rights (lefts ++ top ∷ rest) apart0

  cross_left : AllByRecursion (λ (y : Holding). AllByRecursion (λ (a : Holding). a.node ≢ y.node) lefts) (top ∷ rest)
  cross_left = apart_split lefts (top ∷ rest) (apart_tail rights (lefts ++ top ∷ rest) apart0)

  rights_of : AllByRecursion (λ (y : Holding). AllByRecursion (λ (a : Holding). a.node ≢ y.node) rights) lefts × AllByRecursion (λ (y : Holding). AllByRecursion (λ (a : Holding). a.node ≢ y.node) rights) (top ∷ rest)
  rights_of = all_parts (λ (y : Holding). AllByRecursion (λ (a : Holding). a.node ≢ y.node) rights) lefts (top ∷ rest) cross

  rest_far : AllByRecursion (λ (a : Holding). a.node ≢ top.node) rest
  rest_far = (apart_tail lefts (top ∷ rest) (apart_tail rights (lefts ++ top ∷ rest) apart0)).0

  -- the contents with the fence moved
  abbrev pub raised_top : NodeData
  raised_top = record (f x) { body = Pairs (at_slot (separate_at fence) slot (pairs_of (f x))) }

  abbrev pub g : Contents
  g n = if n == x then raised_top else (if is_among right_nodes n then begins_after fence (f n) else (if is_among left_nodes n then ends_at_fence fence (f n) else f n))

  pub g_top : g x ≡ raised_top
  g_top = ap (λ b. if b then raised_top else (if is_among right_nodes x then begins_after fence (f x) else (if is_among left_nodes x then ends_at_fence fence (f x) else f x))) (eq-eqb x x refl)

  not_top : (n : ℕ) → n ≢ x → g n ≡ (if is_among right_nodes n then begins_after fence (f n) else (if is_among left_nodes n then ends_at_fence fence (f n) else f n))
  not_top n far = ap (λ b. if b then raised_top else (if is_among right_nodes n then begins_after fence (f n) else (if is_among left_nodes n then ends_at_fence fence (f n) else f n))) (ne_eqb n x far)

  g_right : (n : ℕ) → n ≢ x → 0 < times n right_nodes → g n ≡ begins_after fence (f n)
  g_right n far there = not_top n far ∙ ap (λ b. if b then begins_after fence (f n) else (if is_among left_nodes n then ends_at_fence fence (f n) else f n)) (among right_nodes n there)

  g_left : (n : ℕ) → n ≢ x → times n right_nodes ≡ 0 → 0 < times n left_nodes → g n ≡ ends_at_fence fence (f n)
  g_left n far none there = not_top n far ∙ (ap (λ b. if b then begins_after fence (f n) else (if is_among left_nodes n then ends_at_fence fence (f n) else f n)) (not_among right_nodes n none) ∙ ap (λ b. if b then ends_at_fence fence (f n) else f n) (among left_nodes n there))

  g_else : (n : ℕ) → n ≢ x → times n left_nodes ≡ 0 → times n right_nodes ≡ 0 → g n ≡ f n
  g_else n far left right = not_top n far ∙ (ap (λ b. if b then begins_after fence (f n) else (if is_among left_nodes n then ends_at_fence fence (f n) else f n)) (not_among right_nodes n right) ∙ ap (λ b. if b then ends_at_fence fence (f n) else f n) (not_among left_nodes n left))

  -- what is known of each lock
  pub record IsLeft (h : Holding) : Type 0 where
    pub on : OnTree f live h
    pub far : h.node ≢ x
    pub there : 0 < times h.node left_nodes
    pub now : g h.node ≡ ends_at_fence fence h.settled
    pub ends_low : h.settled.high < fence
    pub lower : h.settled.level < top.settled.level

  pub record IsRight (h : Holding) : Type 0 where
    pub on : OnTree f live h
    pub far : h.node ≢ x
    pub there : 0 < times h.node right_nodes
    pub now : g h.node ≡ begins_after fence h.settled
    pub begins : h.settled.low ≤ fence
    pub lower : h.settled.level < top.settled.level

  pub record IsRest (h : Holding) : Type 0 where
    pub on : OnTree f live h
    pub far : h.node ≢ x
    pub left : times h.node left_nodes ≡ 0
    pub right : times h.node right_nodes ≡ 0
    pub now : g h.node ≡ h.settled

  pub are_left : AllByRecursion IsLeft lefts
  are_left = go lefts on_lefts (last_locks f (f p.child).level p.child lefts left_at (all_map (OnTree f live) (λ (a : Holding). f a.node ≡ a.settled) is_content lefts on_lefts)) rights_of.0 cross_left.0 left_moves (spine_levels last_child level p.child lefts left_spine)
    where
      go : (hs : List Holding) → AllByRecursion (OnTree f live) hs → AllByRecursion (λ (h : Holding). 0 < times h.node left_nodes) hs → AllByRecursion (λ (y : Holding). AllByRecursion (λ (a : Holding). a.node ≢ y.node) rights) hs → AllByRecursion (λ (a : Holding). a.node ≢ top.node) hs → AllByRecursion (IsLeftToMove t fence) hs → AllByRecursion (λ (h : Holding). h.settled.level ≤ level) hs → AllByRecursion IsLeft hs
      go [] on there out far moves low = tt
      go (h ∷ hs) on there out far moves low =
          let away : h.node ≢ x = (λ e. far.0 (e ∙ sym next.way.node)) in (
            record {
              on = on.0;
              far = away;
              there = there.0;
              now = g_left h.node away (far_right h.node out.0) there.0 ∙ ap (ends_at_fence fence) on.0.content;
              ends_low = moves.0.1;
              lower = (let l = low.0 in let u = up in omega (arith, l, u));
            },
            go hs on.1 there.1 out.1 far.1 moves.1 low.1,
          )

  pub are_right : AllByRecursion IsRight rights
  are_right = go rights on_rights (first_locks f (f q.child).level q.child rights right_at (all_map (OnTree f live) (λ (a : Holding). f a.node ≡ a.settled) is_content rights on_rights)) rights_of.1.0 right_moves (spine_levels first_child level q.child rights right_spine)
    where
      go : (hs : List Holding) → AllByRecursion (OnTree f live) hs → AllByRecursion (λ (h : Holding). 0 < times h.node right_nodes) hs → AllByRecursion (λ (a : Holding). a.node ≢ top.node) hs → AllByRecursion (IsRightToMove t fence) hs → AllByRecursion (λ (h : Holding). h.settled.level ≤ level) hs → AllByRecursion IsRight hs
      go [] on there far moves low = tt
      go (h ∷ hs) on there far moves low =
          let away : h.node ≢ x = (λ e. far.0 (e ∙ sym next.way.node)) in (
            record {
              on = on.0;
              far = away;
              there = there.0;
              now = g_right h.node away there.0 ∙ ap (begins_after fence) on.0.content;
              begins = moves.0.1;
              lower = (let l = low.0 in let u = up in omega (arith, l, u));
            },
            go hs on.1 there.1 far.1 moves.1 low.1,
          )

  pub are_rest : AllByRecursion IsRest rest
  are_rest = go rest on_more.1 cross_left.1 rights_of.1.1 rest_far
    where
      go : (hs : List Holding) → AllByRecursion (OnTree f live) hs → AllByRecursion (λ (y : Holding). AllByRecursion (λ (a : Holding). a.node ≢ y.node) lefts) hs → AllByRecursion (λ (y : Holding). AllByRecursion (λ (a : Holding). a.node ≢ y.node) rights) hs → AllByRecursion (λ (a : Holding). a.node ≢ top.node) hs → AllByRecursion IsRest hs
      go [] on left right far = tt
      go (h ∷ hs) on left right far =
          let away : h.node ≢ x = (λ e. far.0 (e ∙ sym next.way.node)) in
          let l = far_left h.node left.0 in
          let r = far_right h.node right.0 in (
            record { on = on.0; far = away; left = l; right = r; now = g_else h.node away l r ∙ on.0.content },
            go hs on.1 left.1 right.1 far.1,
          )

  pub top_content : f x ≡ top.settled
  top_content = ap f (sym next.way.node) ∙ on_more.0.content

  pub top_alive : IsTrue (live x)
  top_alive = subst (λ m. IsTrue (live m)) next.way.node on_more.0.alive

  -- for nodes of the spines
  pub left_nodes_so : (P : ℕ → Type 0) → ((h : Holding) → IsLeft h → P h.node) → AllByRecursion P left_nodes
  left_nodes_so P each = last_nodes f P (f p.child).level p.child lefts left_at (all_map IsLeft (λ (h : Holding). (f h.node ≡ h.settled) × P h.node) (λ h is. (is.on.content, each h is)) lefts are_left)

  pub right_nodes_so : (P : ℕ → Type 0) → ((h : Holding) → IsRight h → P h.node) → AllByRecursion P right_nodes
  right_nodes_so P each = first_nodes f P (f q.child).level q.child rights right_at (all_map IsRight (λ (h : Holding). (f h.node ≡ h.settled) × P h.node) (λ h is. (is.on.content, each h is)) rights are_right)

  pub moves : IsFenceMove f live x slot p q fence g
  moves = record {
    live_parent = top_alive;
    at = ap (λ (s : NodeData). slice_get (pairs_of s) slot) top_content ∙ p_at;
    next = ap (λ (s : NodeData). slice_get (pairs_of s) (slot + 1)) top_content ∙ next.after;
    raised = (let e = p_child.fits.high in omega (arith, e, below_fence));
    below = first_nodes f (λ n. (fence < (f n).high) × LiesAbove fence (f n).body) (f q.child).level q.child rights right_at
        (all_map (λ (h : Holding). OnTree f live h × BeginsAt f live tree.lawful (f q.child).low fence h) (λ (h : Holding). (f h.node ≡ h.settled) × ((fence < (f h.node).high) × LiesAbove fence (f h.node).body))
        (λ h both. (both.0.content, (subst (λ (s : NodeData). (fence < s.high) × LiesAbove fence s.body) (sym both.0.content) (both.1.high, both.1.above)))) rights (all_zip (OnTree f live) (BeginsAt f live tree.lawful (f q.child).low fence) rights on_rights right_from.each));
    above = g_top;
    left = left_nodes_so (λ n. g n ≡ ends_at_fence fence (f n)) (λ h is. is.now ∙ ap (ends_at_fence fence) (sym is.on.content));
    right = right_nodes_so (λ n. g n ≡ begins_after fence (f n)) (λ h is. is.now ∙ ap (begins_after fence) (sym is.on.content));
    others = λ n far left right. g_else n far left right;
  }

  abbrev pub group : List ℕ
  group = fence_nodes f x p q

  pub top_in : IsTrue (is_among group x)
  top_in = among group x (times_head x (left_nodes ++ right_nodes))

  pub left_in : (h : Holding) → IsLeft h → IsTrue (is_among group h.node)
  left_in h is = among group h.node (let a = times-append h.node left_nodes right_nodes in let b = is.there in omega (arith, a, b))

  pub right_in : (h : Holding) → IsRight h → IsTrue (is_among group h.node)
  right_in h is = among group h.node (let a = times-append h.node left_nodes right_nodes in let b = is.there in omega (arith, a, b))

  pub rest_out : (h : Holding) → IsRest h → is_among group h.node ≡ false
  rest_out h is = not_among group h.node (let a = times-append h.node left_nodes right_nodes in let b = is.left in let c = is.right in let d = once_other h.node x is.far in omega (arith, a, b, c, d))

  differ : AllByRecursion (λ n. g n ≢ f n) group
  differ = (
    (λ e. (
        let same : at_slot (separate_at fence) slot (pairs_of (f x)) ≡ pairs_of (f x) = ap pairs_of (sym g_top ∙ e) in
        let at : slice_get (pairs_of (f x)) slot ≡ Some p = ap (λ (s : NodeData). slice_get (pairs_of s) slot) top_content ∙ p_at in
        let one : record p { separator = fence } ≡ p = some_same (record p { separator = fence }) p (sym (separated fence slot (pairs_of (f x)) p at) ∙ (ap (λ ps. slice_get ps slot) same ∙ at)) in
        let sep = ap (λ (z : Pair). z.separator) one in let low = below_fence in omega (arith, sep, low))),
    all_append (λ n. g n ≢ f n) left_nodes right_nodes
        (left_nodes_so (λ n. g n ≢ f n) (λ h is e. (let d : fence ≡ h.settled.high = ap (λ (s : NodeData). s.high) (sym is.now ∙ (e ∙ is.on.content)) in let l = is.ends_low in omega (arith, d, l))))
        (right_nodes_so (λ n. g n ≢ f n) (λ h is e. (let d : fence + 1 ≡ h.settled.low = ap (λ (s : NodeData). s.low) (sym is.now ∙ (e ∙ is.on.content)) in let l = is.begins in omega (arith, d, l)))),
  )

  pub top_differs : top.settled ≢ raised_top
  top_differs e = differ.0 (g_top ∙ (sym e ∙ sym top_content))

  lower : AllByRecursion (λ n. n ≢ x → (f n).level < (f x).level) group
  lower = (
    (λ far. absurd (far refl)),
    all_append (λ n. n ≢ x → (f n).level < (f x).level) left_nodes right_nodes
        (left_nodes_so (λ n. n ≢ x → (f n).level < (f x).level) (λ h is _. (let a = ap (λ (s : NodeData). s.level) is.on.content in let b = ap (λ (s : NodeData). s.level) top_content in let l = is.lower in omega (arith, a, b, l))))
        (right_nodes_so (λ n. n ≢ x → (f n).level < (f x).level) (λ h is _. (let a = ap (λ (s : NodeData). s.level) is.on.content in let b = ap (λ (s : NodeData). s.level) top_content in let l = is.lower in omega (arith, a, b, l)))),
  )

  -- all was written
  module _ (law : MoveLaw) (after : Holdings) (lefts' rights' : List Holding) (top' : Holding) (held : after.held ≡ (rights' ++ []) ++ (lefts' ++ top' ∷ rest)) (wrote_left : AreRewritten (ends_at_fence fence) lefts lefts') (wrote_right : AreRewritten (begins_after fence) rights rights') (wrote_top : IsRewrittenAs (λ _. raised_top) top top') (out : after.out ≡ []) (apart : AreApart after.held) (kept : AllByRecursion (λ (h : Holding). SpellsNode h.words h.settled) rest) where
    fits : (change : NodeData → NodeData) (a b : Holding) → OnTree f live a → g a.node ≡ change a.settled → IsRewrittenAs change a b → FitsChange f live group [] g b
    fits change a b on now w = record {
      marked = λ _. (subst (λ m. IsTrue (live m)) (sym w.node) on.alive, ap f w.node ∙ (on.content ∙ sym w.settled), subst (SpellsNode b.words) (sym (ap g w.node ∙ now)) w.spells);
      leaves = λ _. w.stored;
      enters = λ z. absurd (true≢false (sym z));
    }

    fit_rest : (h : Holding) → IsRest h × SpellsNode h.words h.settled → FitsChange f live group [] g h
    fit_rest h both = record {
      marked = λ _. (both.0.on.alive, both.0.on.content, subst (SpellsNode h.words) (sym both.0.now) both.1);
      leaves = λ z. absurd (true≢false (sym z ∙ rest_out h both.0));
      enters = λ z. absurd (true≢false (sym z));
    }

    each : AllByRecursion (FitsChange f live group [] g) after.held
    each = subst (AllByRecursion (FitsChange f live group [] g)) (sym held)
        (all_append (FitsChange f live group [] g) (rights' ++ []) (lefts' ++ top' ∷ rest)
        (all_append (FitsChange f live group [] g) rights' [] (rewritten_all (begins_after fence) IsRight (FitsChange f live group [] g) (λ a b is w. fits (begins_after fence) a b is.on is.now w) rights rights' wrote_right are_right) tt)
        (all_append (FitsChange f live group [] g) lefts' (top' ∷ rest) (rewritten_all (ends_at_fence fence) IsLeft (FitsChange f live group [] g) (λ a b is w. fits (ends_at_fence fence) a b is.on is.now w) lefts lefts' wrote_left are_left)
        (fits (λ _. raised_top) top top' on_more.0 (ap g next.way.node ∙ g_top) wrote_top, all_map (λ (h : Holding). IsRest h × SpellsNode h.words h.settled) (FitsChange f live group [] g) fit_rest rest (all_zip IsRest (λ (h : Holding). SpellsNode h.words h.settled) rest are_rest kept))))

    -- each lock of these is held
    in_held : (b : Holding) → In b ((rights' ++ []) ++ (lefts' ++ top' ∷ rest)) → In b after.held
    in_held b there = subst (In b) (sym held) there

    marked_so : (change : NodeData → NodeData) (a b : Holding) → OnTree f live a → IsRewrittenAs change a b → In b after.held → IsTrue (marked_in after.held a.node)
    marked_so change a b on w there = subst (λ m. IsTrue (marked_in after.held m)) w.node (marked_at b.node b after.held (found_in after.held b apart there) (subst IsSome (sym w.mark) on.marked))

    marked_lefts : AllByRecursion (λ (a : Holding). OnTree f live a → IsTrue (marked_in after.held a.node)) lefts
    marked_lefts = rewritten_back (ends_at_fence fence) (λ (b : Holding). In b after.held) (λ (a : Holding). OnTree f live a → IsTrue (marked_in after.held a.node)) (λ a b there w on. marked_so (ends_at_fence fence) a b on w there) lefts lefts' wrote_left
        (all_from (λ (b : Holding). In b after.held) lefts' (λ b there. in_held b (in_right (rights' ++ []) (lefts' ++ top' ∷ rest) b (in_left lefts' (top' ∷ rest) b there))))

    marked_rights : AllByRecursion (λ (a : Holding). OnTree f live a → IsTrue (marked_in after.held a.node)) rights
    marked_rights = rewritten_back (begins_after fence) (λ (b : Holding). In b after.held) (λ (a : Holding). OnTree f live a → IsTrue (marked_in after.held a.node)) (λ a b there w on. marked_so (begins_after fence) a b on w there) rights rights' wrote_right
        (all_from (λ (b : Holding). In b after.held) rights' (λ b there. in_held b (in_left (rights' ++ []) (lefts' ++ top' ∷ rest) b (in_left rights' [] b there))))

    group_held : AllByRecursion (λ n. IsTrue (marked_in after.held n)) group
    group_held = (
      subst (λ m. IsTrue (marked_in after.held m)) next.way.node (marked_so (λ _. raised_top) top top' on_more.0 wrote_top (in_held top' (in_right (rights' ++ []) (lefts' ++ top' ∷ rest) top' (in_middle lefts' top' rest)))),
      all_append (λ n. IsTrue (marked_in after.held n)) left_nodes right_nodes
          (last_nodes f (λ n. IsTrue (marked_in after.held n)) (f p.child).level p.child lefts left_at (all_map (λ (a : Holding). (OnTree f live a → IsTrue (marked_in after.held a.node)) × OnTree f live a) (λ (a : Holding). (f a.node ≡ a.settled) × IsTrue (marked_in after.held a.node)) (λ a both. (both.1.content, both.0 both.1)) lefts (all_zip (λ (a : Holding). OnTree f live a → IsTrue (marked_in after.held a.node)) (OnTree f live) lefts marked_lefts on_lefts)))
          (first_nodes f (λ n. IsTrue (marked_in after.held n)) (f q.child).level q.child rights right_at (all_map (λ (a : Holding). (OnTree f live a → IsTrue (marked_in after.held a.node)) × OnTree f live a) (λ (a : Holding). (f a.node ≡ a.settled) × IsTrue (marked_in after.held a.node)) (λ a both. (both.1.content, both.0 both.1)) rights (all_zip (λ (a : Holding). OnTree f live a → IsTrue (marked_in after.held a.node)) (OnTree f live) rights marked_rights on_rights))),
    )

    nothing_out : left_out group group after ≡ []
    nothing_out = none_out group group after (all_in group) (subst (AllByRecursion (λ n. IsTrue (is_among group n))) (sym out) tt)

    pub held_change : IsHeldChange after f live x group [] g group
    held_change = record {
      lawful = tree.lawful;
      dead = λ n there. absurd (true≢false (sym (subst (λ (os : List ℕ). IsTrue (is_among os n)) out there)));
      change = law f live x slot p q fence g tree.lawful moves;
      each = each;
      once = once_held after.held apart;
      group_held = group_held;
      fresh_held = tt;
      differ = differ;
      lower = lower;
      room = subst (λ (os : List ℕ). length os ≤ 4) (sym nothing_out) (omega arith);
    }

    -- what each settles to
    abbrev pub settled : Holding → Holding
    settled = exchange (is_among group) (is_among group)

    pub settles : SettlingLaws → (v : Log) → v.holdings ≡ after → IsTrue (is_lawful v None) × (settle None v ≡ record v { holdings = record v.holdings { held = map settled v.holdings.held; out = [] } })
    settles laws v at =
        let c : IsHeldChange v.holdings f live x group [] g group = subst (λ z. IsHeldChange z f live x group [] g group) (sym at) held_change in (
          lawful_release laws v f live x group [] g group c,
          settled_after laws v f live x group [] g group c ∙ ap (λ (os : List ℕ). record v { holdings = record v.holdings { held = map settled v.holdings.held; out = os } }) (ap (left_out group group) at ∙ nothing_out),
        )

    pub settled_so : (change : NodeData → NodeData) (a b : Holding) → IsTrue (is_among group a.node) → IsRewrittenAs change a b → settled b ≡ record b { settled = change a.settled; mark = Some (frame_of (change a.settled)) }
    settled_so change a b there w = settled_group group group b (change a.settled) (subst (λ m. IsTrue (is_among group m)) (sym w.node) there) (subst (λ m. IsTrue (is_among group m)) (sym w.node) there) w.spells

    pub settled_rest : (h : Holding) → IsRest h → settled h ≡ h
    settled_rest h is = settled_still group group h is.on.marked (rest_out h is) (rest_out h is)

    pub settled_all : AllByRecursion (λ (h : Holding). SpellsNode (settled h).words (settled h).settled) after.held
    settled_all = subst (AllByRecursion Spelled) (sym held)
        (all_append Spelled (rights' ++ []) (lefts' ++ top' ∷ rest)
        (all_append Spelled rights' [] (rewritten_all (begins_after fence) IsRight Spelled (λ a b is w. spelled_so (begins_after fence) a b (right_in a is) w) rights rights' wrote_right are_right) tt)
        (all_append Spelled lefts' (top' ∷ rest) (rewritten_all (ends_at_fence fence) IsLeft Spelled (λ a b is w. spelled_so (ends_at_fence fence) a b (left_in a is) w) lefts lefts' wrote_left are_left)
        (spelled_so (λ _. raised_top) top top' (subst (λ m. IsTrue (is_among group m)) (sym next.way.node) top_in) wrote_top, all_map (λ (h : Holding). IsRest h × SpellsNode h.words h.settled) Spelled (λ h both. subst (λ (z : Holding). SpellsNode z.words z.settled) (sym (settled_rest h both.0)) both.1) rest (all_zip IsRest (λ (h : Holding). SpellsNode h.words h.settled) rest are_rest kept))))
      where
        Spelled : Holding → Type 0
        Spelled h = SpellsNode (settled h).words (settled h).settled

        spelled_so : (change : NodeData → NodeData) (a b : Holding) → IsTrue (is_among group a.node) → IsRewrittenAs change a b → SpellsNode (settled b).words (settled b).settled
        spelled_so change a b there w = subst (λ (z : Holding). SpellsNode z.words z.settled) (sym (settled_so change a b there w)) w.spells
