-- The fence is raised: X and both spines are written, and all settles when the next leaf is let go of.
use Rattle.std.proofs.Common.{ℕ, zero, suc, ◌<◌, ◌≤◌, [], ap, arith, inl, inr, refl, Bool, IsTrue, ◌≡◌, List, ◌∷◌, ◌++◌, ◌≢◌, sym, ◌∙◌, subst, map, false, ◌+◌, ◌-◌, length, append_assoc, append-nil, true, Some, IsSome, IsSomeAnd, ◌⊎◌}
use Rattle.std.specs.List.{flat_map, AllByRecursion, slice_get}
use Rattle.tree_laws.specs.Trees.{Branch, Contents, branches, nodes_under, branches_from}
use Rattle.tree_laws.specs.Numbers.{times, is_among}
use Rattle.tree_laws.proofs.Spines.{Stands, stands_live}
use Rattle.tree_laws.proofs.Times.{all_at, times_cases, times_flat_map, some_same}
use Rattle.tree_laws.specs.Lawful.{IsTree, IsFilledAs, IsLawfulTree, IsOrderedAs}
use Rattle.tree_laws.proofs.Living.{live_node, root_live, leaf_has_none}
use Rattle.tree_shape.specs.NodeData.{NodeData, pairs_of, Body, Pairs, Entries, Link, IsInner, frame_of}
use Rattle.tree_shape.specs.declared.pair.Pair.{Pair}
use Rattle.tree_shape.specs.Changes.{ends_at_as, at_slot, begins_after, ends_at_fence, separate_at}
use Rattle.tree_laws.specs.Decisions.{is_entries}
use Rattle.tree_laws.specs.Steps.{LiesAbove, fence_nodes, first_child, last_child}
use Rattle.word_rule.specs.declared.log.Holding.{Holding}
use Rattle.word_rule.specs.declared.log.Terms.{Terms}
use Rattle.word_rule.specs.CallerData.{CallerData}
use Rattle.word_rule.specs.declared.log.Budget.{Budget}
use Rattle.word_rule.specs.declared.log.Holdings.{Holdings}
use Rattle.word_rule.specs.Held.{held_of}
use Rattle.word_rule.specs.NodeTells.{IsLiveNode, KnowsTree}
use Rattle.word_rule.specs.Spelling.{SpellsNode}
use Rattle.word_rule.specs.Steps.{MayStore}
use Rattle.word_rule.proofs.CallersKept.{kept_calls_on}
use Rattle.node_store.specs.Holding.{ReadsHeld, SpellsHeld, StoresHeld}
use Rattle.tree_descent.specs.Paths.{AreApart, AreHigher, IsSettledLock, StepsOnNodes}
use Rattle.tree_descent.proofs.Descending.{is_inner}
use Rattle.tree_descent.proofs.LeafCommits.{all_stay}
use Rattle.tree_descent.proofs.Settling.{SettlingLaws}
use Rattle.tree_descent.proofs.Storing.{IsRewritten, rewritten_so}
use Rattle.fence_move.proofs.FenceMoves.{level, settled, IsLeft, IsRest, KeptLaw, MoveLaw, apart0, are_left, are_rest, g, held0, left_in, left_moves, left_spine, moves, on_more, p, p_at, raised_top, rewritten_all, right_moves, right_spine, settled_all, settled_rest, settled_so, settles, top_content, top_differs, top_in}
use Rattle.fence_move.specs.Spines.{AreRewritten, IsRewrittenAs, IsSpine, AreMovedLocks, HoldsNext, HoldsSpines, IsFreshLock, IsMovedLock, IsPending, IsReadable, LetsGoSettled, MovesFence, WritesSpines}
use Rattle.fence_move.proofs.FenceSpines.{inner_kind}
use Rattle.fence_move.proofs.FreshSpines.{apart_mid}
use Rattle.fence_move.proofs.HeldTrees.{OnTree}
use Rattle.fence_move.proofs.NextLeaves.{found_top, higher_parts, higher_spelled, top_is}

-- no live node stands higher than a tree may be
level_most : (h : Contents) (level n low high : ℕ) → Stands h level n low high → (x : ℕ) → 0 < times x (nodes_under h level n) → (h x).level ≤ level
unfolding Stands
level_most h zero n low high stands x there = elim (times_cases x n [] there) [
  | inl e ↦ (let a = stands.0 in let b = ap (λ m. (h m).level) e in omega (arith, a, b))
  | inr none ↦ absurd (omega (arith, none))
]
level_most h (suc level) n low high stands x there = elim (times_cases x n (flat_map (λ (b : Branch). nodes_under h level b.child) (branches level (h n))) there) [
  | inl e ↦ (let a = stands.0.0 in let b = ap (λ m. (h m).level) e in omega (arith, a, b))
  | inr later ↦
      let found = times_flat_map (λ (b : Branch). nodes_under h level b.child) (branches level (h n)) x later in
      let below = level_most h level found.0.child found.0.frame.low found.0.frame.high (all_at (λ b. Stands h level b.child b.frame.low b.frame.high) (branches level (h n)) found.0 stands.1 found.1.0) x found.1.1 in
      omega (arith, below)
]

pub highest : (f : Contents) (live : ℕ → Bool) → IsTree f live → (n : ℕ) → IsTrue (live n) → (f n).level ≤ 12
highest f live tree n alive =
    let order : (f 0).low ≤ (f 0).high = (let a = tree.root_low in omega (arith, a)) in
    let most = level_most f (f 0).level 0 (f 0).low (f 0).high (stands_live f live tree (f 0).level 0 (root_live f live tree) refl order) n (live_node f live tree n alive) in
    let height = tree.height in omega (arith, most, height)

-- lists of locks of the same nodes
abbrev AreSame : List Holding → List Holding → Type 0
AreSame [] [] = Unit {0}
AreSame (a ∷ xs) (b ∷ ys) = (b.node ≡ a.node) × AreSame xs ys
AreSame _ _ = ⊥

same_all : (xs : List Holding) → AreSame xs xs
same_all [] = tt
same_all (x ∷ xs) = (refl, same_all xs)

same_both : (xs ys zs ws : List Holding) → AreSame xs ys → AreSame zs ws → AreSame (xs ++ zs) (ys ++ ws)
same_both [] [] zs ws a b = b
same_both [] (y ∷ ys) zs ws a b = absurd a
same_both (x ∷ xs) [] zs ws a b = absurd a
same_both (x ∷ xs) (y ∷ ys) zs ws a b = (a.0, same_both xs ys zs ws a.1 b)

same_rewritten : (change : NodeData → NodeData) (xs ys : List Holding) → AreRewritten change xs ys → AreSame xs ys
same_rewritten change [] [] w = tt
same_rewritten change [] (y ∷ ys) w = absurd w
same_rewritten change (x ∷ xs) [] w = absurd w
same_rewritten change (x ∷ xs) (y ∷ ys) w = (w.0.node, same_rewritten change xs ys w.1)

far_same : (n : ℕ) (xs ys : List Holding) → AreSame xs ys → AllByRecursion (λ (a : Holding). a.node ≢ n) xs → AllByRecursion (λ (a : Holding). a.node ≢ n) ys
far_same n [] [] s far = tt
far_same n [] (y ∷ ys) s far = absurd s
far_same n (x ∷ xs) [] s far = absurd s
far_same n (x ∷ xs) (y ∷ ys) s far = ((λ e. far.0 (sym s.0 ∙ e)), far_same n xs ys s.1 far.1)

apart_same : (xs ys : List Holding) → AreSame xs ys → AreApart xs → AreApart ys
apart_same [] [] s all = tt
apart_same [] (y ∷ ys) s all = absurd s
apart_same (x ∷ xs) [] s all = absurd s
apart_same (x ∷ xs) (y ∷ ys) s all = (far_same y.node xs ys s.1 (subst (λ m. AllByRecursion (λ (a : Holding). a.node ≢ m) xs) (sym s.0) all.0), apart_same xs ys s.1 all.1)

-- a spine that was rewritten is one
record Snoc (change : NodeData → NodeData) (lower : List Holding) (h : Holding) (ys : List Holding) : Type 0 where
  lower' : List Holding
  last : Holding
  is : ys ≡ lower' ++ last ∷ []
  below : AreRewritten change lower lower'
  one : IsRewrittenAs change h last

rewritten_snoc : (change : NodeData → NodeData) (lower : List Holding) (h : Holding) (ys : List Holding) → AreRewritten change (lower ++ h ∷ []) ys → Snoc change lower h ys
rewritten_snoc change [] h [] w = absurd w
rewritten_snoc change [] h (y ∷ []) w = record { lower' = []; last = y; is = refl; below = tt; one = w.0 }
rewritten_snoc change [] h (y ∷ z ∷ ys) w = absurd w.1
rewritten_snoc change (x ∷ lower) h [] w = absurd w
rewritten_snoc change (x ∷ lower) h (y ∷ ys) w =
    let r = rewritten_snoc change lower h ys w.1 in record { lower' = y ∷ r.lower'; last = r.last; is = ap (λ zs. y ∷ zs) r.is; below = (w.0, r.below); one = r.one }

spine_rewritten : (change : NodeData → NodeData) (child : ℕ → List Pair → ℕ) (level n : ℕ) (xs ys : List Holding) → IsSpine child level n xs → AreRewritten change xs ys → IsSpine child level n ys
spine_rewritten change child zero n xs ys (h, (at, is)) w =
    let r = rewritten_snoc change [] h ys (subst (λ zs. AreRewritten change zs ys) is w) in
    (r.last, ((r.one.node ∙ at.0, ap (λ (s : NodeData). s.level) r.one.settled ∙ at.1), r.is ∙ ap (λ zs. zs ++ r.last ∷ []) (nothing r.lower' r.below)))
  where
    nothing : (zs : List Holding) → AreRewritten change [] zs → zs ≡ []
    nothing [] b = refl
    nothing (z ∷ zs) b = absurd b
spine_rewritten change child (suc level) n xs ys (h, lower, (at, is, below)) w =
    let r = rewritten_snoc change lower h ys (subst (λ zs. AreRewritten change zs ys) is w) in
    (r.last, r.lower', ((r.one.node ∙ at.0, ap (λ (s : NodeData). s.level) r.one.settled ∙ at.1), r.is, subst (λ (s : NodeData). IsSpine child level (child 0 (pairs_of s)) r.lower') (sym r.one.settled) (spine_rewritten change child level (child 0 (pairs_of h.settled)) lower r.lower' below r.below)))

map_parts : (s : Holding → Holding) (xs ys : List Holding) → map s (xs ++ ys) ≡ map s xs ++ map s ys
map_parts s [] ys = refl
map_parts s (x ∷ xs) ys = ap (λ zs. s x ∷ zs) (map_parts s xs ys)

higher_all : (t : Terms) (least level : ℕ) (hs : List Holding) → least ≤ level → AreHigher t level hs → AllByRecursion (λ (h : Holding). least < h.settled.level) hs
higher_all t least level [] low all = tt
higher_all t least level (h ∷ hs) low all = ((let u = all.1 in omega (arith, u, low)), higher_all t least h.settled.level hs (let u = all.1 in omega (arith, u, low)) all.2)

raised_inner : (fence : ℕ) (body : Body) → is_entries body ≡ false → is_entries (ends_at_as fence body) ≡ false
raised_inner fence (Pairs pairs) e = refl
raised_inner fence (Entries entries) e = e
raised_inner fence (Link next) e = refl

moved_both : (xs ys zs ws : List Holding) → AreMovedLocks xs ys → AreMovedLocks zs ws → AreMovedLocks (xs ++ zs) (ys ++ ws)
moved_both [] [] zs ws a b = b
moved_both [] (y ∷ ys) zs ws a b = absurd a
moved_both (x ∷ xs) [] zs ws a b = absurd a
moved_both (x ∷ xs) (y ∷ ys) zs ws a b = (a.0, moved_both xs ys zs ws a.1 b)

module _ (t : Terms) (x slot fence : ℕ) (k : CallerData) (next : HoldsNext t x slot k.log.holdings) (tree : KnowsTree k.log.holdings) (raised : next.way.lock.settled.high < fence) (lies : LiesAbove fence next.right.settled.body) (inside : fence < next.right.settled.high) where
  abbrev hs : Holdings
  hs = k.log.holdings

  abbrev RT : List Holding
  RT = next.right ∷ next.more

  abbrev LT : List Holding
  LT = next.way.lock ∷ next.way.spine

  abbrev T : Holding
  T = next.way.top

  abbrev RE : List Holding
  RE = next.way.rest

  abbrev now_top : NodeData
  now_top = raised_top t x slot fence hs next tree raised lies inside

  abbrev P : Pair
  P = p t x slot fence hs next tree raised lies inside

  top_on : OnTree tree.contents tree.live T
  top_on = (on_more t x slot fence hs next tree raised lies inside).0

  pub top_most : T.settled.level ≤ 12
  top_most = let a = highest tree.contents tree.live tree.lawful.tree T.node top_on.alive in let b = ap (λ (s : NodeData). s.level) top_on.content in omega (arith, a, b)

  top_inner : IsInner T.settled
  top_inner = (is_inner T.settled (subst (λ (s : NodeData). IsOrderedAs s s.body) top_on.content (tree.lawful.tree.ordered T.node top_on.alive)) (let u = next.top in omega (arith, u))).0

  -- X was read, and a word of it loaded
  module _ (k1 k2 : CallerData) (content : NodeData) (reads : ReadsHeld x k k1 content) (start : k2.log.holdings ≡ hs) where
    content_is : T.settled ≡ content
    content_is = top_is t x slot k k1 next content reads

    pub content_inner : IsInner content
    content_inner = subst IsInner content_is top_inner

    pub left_is : (left : Pair) → slice_get (pairs_of content) slot ≡ Some left → P ≡ left
    left_is left at = some_same P left (sym (p_at t x slot fence hs next tree raised lies inside) ∙ (ap (λ (s : NodeData). slice_get (pairs_of s) slot) content_is ∙ at))

    right_is : (right : Pair) → slice_get (pairs_of content) (slot + 1) ≡ Some right → next.next ≡ right
    right_is right at = some_same next.next right (sym next.after ∙ (ap (λ (s : NodeData). slice_get (pairs_of s) (slot + 1)) content_is ∙ at))

    level_is : (l : ℕ) → l ≡ content.level - 1 → T.settled.level - 1 ≡ l
    level_is l e = ap (λ (s : NodeData). s.level - 1) content_is ∙ sym e

    found_k2 : held_of x k2.log.holdings.held ≡ Some T
    found_k2 = ap (λ (z : Holdings). held_of x z.held) start ∙ found_top t x slot k k1 next content reads

    pub may_store_top : MayStore x k2.log
    may_store_top = subst (λ o. IsSomeAnd o (λ (h : Holding). IsSome h.mark ⊎ IsTrue (is_among k2.log.holdings.out x))) (sym found_k2) (inl top_on.marked)

    held2 : k2.log.holdings.held ≡ (RT ++ LT) ++ (T ∷ RE)
    held2 = ap (λ (z : Holdings). z.held) start ∙ (held0 t x slot fence hs next tree raised lies inside ∙ sym (append_assoc RT LT (T ∷ RE)))

    apart2 : AreApart ((RT ++ LT) ++ (T ∷ RE))
    apart2 = subst AreApart (sym (append_assoc RT LT (T ∷ RE))) (apart0 t x slot fence hs next tree raised lies inside)

    out2 : k2.log.holdings.out ≡ []
    out2 = ap (λ (z : Holdings). z.out) start ∙ (ap (λ (z : Holdings). z.out) next.same ∙ next.way.out)

    -- X was written
    module _ (k3 : CallerData) (written : NodeData) (written_is : written ≡ record content { body = Pairs (at_slot (separate_at fence) slot (pairs_of content)) }) (writes : StoresHeld x written k2 k3) (spells : SpellsHeld x written k3.log) where
      is_now : written ≡ now_top
      is_now = written_is ∙ ap (λ (s : NodeData). record s { body = Pairs (at_slot (separate_at fence) slot (pairs_of s)) }) (sym content_is ∙ sym (top_content t x slot fence hs next tree raised lies inside))

      pub w : IsRewritten now_top T (RT ++ LT) RE k2 k3
      w = rewritten_so now_top x T (RT ++ LT) RE k2 k3 (λ e. absurd (omega (arith, e))) next.way.node
          (subst (λ m. AllByRecursion (λ (a : Holding). a.node ≢ m) (RT ++ LT)) next.way.node (apart_mid (RT ++ LT) T RE apart2).0)
          (subst (λ m. AllByRecursion (λ (a : Holding). a.node ≢ m) RE) next.way.node (apart_mid (RT ++ LT) T RE apart2).1)
          held2 (subst (λ s. StoresHeld x s k2 k3) is_now writes) (subst (λ s. SpellsHeld x s k3.log) is_now spells)

      pub one_top : IsRewrittenAs (λ _. now_top) T w.lock
      one_top = record {
        node = w.node;
        mark = w.mark;
        settled = w.settled;
        spells = w.spells;
        stored = w.stored T.settled (higher_parts t 0 next.way.spine next.way.top next.way.rest next.way.above).0.spells (top_differs t x slot fence hs next tree raised lies inside);
      }

      pub steps_top : StepsOnNodes k2 k3
      steps_top = w.same

      held3 : k3.log.holdings.held ≡ (RT ++ []) ++ (LT ++ w.lock ∷ RE)
      held3 = w.held ∙ (append_assoc RT LT (w.lock ∷ RE) ∙ ap (λ xs. xs ++ (LT ++ w.lock ∷ RE)) (sym (append-nil RT)))

      same3 : AreSame (RT ++ (LT ++ T ∷ RE)) ((RT ++ []) ++ (LT ++ w.lock ∷ RE))
      same3 = subst (λ xs. AreSame (RT ++ (LT ++ T ∷ RE)) (xs ++ (LT ++ w.lock ∷ RE))) (sym (append-nil RT)) (same_both RT RT (LT ++ T ∷ RE) (LT ++ w.lock ∷ RE) (same_all RT) (same_both LT LT (T ∷ RE) (w.lock ∷ RE) (same_all LT) (w.node, same_all RE)))

      pub spines3 : (left right : Pair) → slice_get (pairs_of content) slot ≡ Some left → slice_get (pairs_of content) (slot + 1) ≡ Some right → (l : ℕ) → l ≡ content.level - 1 → HoldsSpines t left.child right.child l fence k3.log.holdings
      spines3 left right left_at right_at l l_is = record {
        lefts = LT;
        rights = RT;
        between = [];
        behind = w.lock ∷ RE;
        held = held3;
        left = subst (λ m. IsSpine last_child m left.child LT) (level_is l l_is) (subst (λ (z : Pair). IsSpine last_child (T.settled.level - 1) z.child LT) (left_is left left_at) (left_spine t x slot fence hs next tree raised lies inside));
        right = subst (λ m. IsSpine first_child m right.child RT) (level_is l l_is) (subst (λ (z : Pair). IsSpine first_child (T.settled.level - 1) z.child RT) (right_is right right_at) (right_spine t x slot fence hs next tree raised lies inside));
        each_left = left_moves t x slot fence hs next tree raised lies inside;
        each_right = right_moves t x slot fence hs next tree raised lies inside;
        apart = subst AreApart (sym held3) (apart_same (RT ++ (LT ++ T ∷ RE)) ((RT ++ []) ++ (LT ++ w.lock ∷ RE)) same3 (apart0 t x slot fence hs next tree raised lies inside));
      }

      pub wrote_so : (left right : Pair) (left_at : slice_get (pairs_of content) slot ≡ Some left) (right_at : slice_get (pairs_of content) (slot + 1) ≡ Some right) (l : ℕ) (l_is : l ≡ content.level - 1) (k4 : CallerData) → ((spines : HoldsSpines t left.child right.child l fence k3.log.holdings) → WritesSpines fence spines.lefts spines.rights spines.between spines.behind k3 k4) → WritesSpines fence LT RT [] (w.lock ∷ RE) k3 k4
      unfolding spines3
      wrote_so left right left_at right_at l l_is k4 writes' = writes' (spines3 left right left_at right_at l l_is)

      -- and both spines
      module _ (k4 : CallerData) (v : WritesSpines fence LT RT [] (w.lock ∷ RE) k3 k4) (law : MoveLaw) where
        same4 : AreSame (RT ++ (LT ++ T ∷ RE)) ((v.rights' ++ []) ++ (v.lefts' ++ w.lock ∷ RE))
        same4 = subst (λ xs. AreSame (RT ++ (LT ++ T ∷ RE)) (xs ++ (v.lefts' ++ w.lock ∷ RE))) (sym (append-nil v.rights'))
            (same_both RT v.rights' (LT ++ T ∷ RE) (v.lefts' ++ w.lock ∷ RE) (same_rewritten (begins_after fence) RT v.rights' v.right) (same_both LT v.lefts' (T ∷ RE) (w.lock ∷ RE) (same_rewritten (ends_at_fence fence) LT v.lefts' v.left) (w.node, same_all RE)))

        pub apart4 : AreApart k4.log.holdings.held
        apart4 = subst AreApart (sym v.held) (apart_same (RT ++ (LT ++ T ∷ RE)) ((v.rights' ++ []) ++ (v.lefts' ++ w.lock ∷ RE)) same4 (apart0 t x slot fence hs next tree raised lies inside))

        pub out4 : k4.log.holdings.out ≡ []
        out4 = v.out ∙ (w.out ∙ out2)

        pub kept : AllByRecursion (λ (h : Holding). SpellsNode h.words h.settled) RE
        kept = higher_spelled t T.settled.level RE (higher_parts t 0 next.way.spine next.way.top next.way.rest next.way.above).1

        abbrev pub S : Holding → Holding
        S = settled t x slot fence hs next tree raised lies inside law k4.log.holdings v.lefts' v.rights' w.lock v.held v.left v.right one_top out4 apart4 kept

        base4 : k4.log.holdings.held ≡ v.rights' ++ (v.lefts' ++ w.lock ∷ RE)
        base4 = v.held ∙ ap (λ xs. xs ++ (v.lefts' ++ w.lock ∷ RE)) (append-nil v.rights')

        readable : AllByRecursion (IsReadable t) v.rights'
        readable = rewritten_all (begins_after fence) (IsFreshLock t) (IsReadable t) (λ a b fresh one. record { content = begins_after fence a.settled; spells = one.spells; pairs = ap pairs_of (sym one.settled); some = subst (λ (s : NodeData). 0 < s.level → 0 < length (pairs_of s)) (sym one.settled) fresh.pairs; within = subst (λ m. m < t.nodes) (sym one.node) fresh.within }) RT v.rights' v.right next.fresh

        pub pending : SettlingLaws → (right : Pair) → slice_get (pairs_of content) (slot + 1) ≡ Some right → (l : ℕ) → l ≡ content.level - 1 → IsPending t right.child l k4.log.holdings
        pending laws right right_at l l_is = record {
          settled = S;
          settles = settles t x slot fence hs next tree raised lies inside law k4.log.holdings v.lefts' v.rights' w.lock v.held v.left v.right one_top out4 apart4 kept laws;
          keeps = λ h. refl;
          all = settled_all t x slot fence hs next tree raised lies inside law k4.log.holdings v.lefts' v.rights' w.lock v.held v.left v.right one_top out4 apart4 kept;
          spine = record {
            locks = v.rights';
            base = v.lefts' ++ w.lock ∷ RE;
            held = base4;
            spine = spine_rewritten (begins_after fence) first_child l right.child RT v.rights' (subst (λ m. IsSpine first_child m right.child RT) (level_is l l_is) (subst (λ (z : Pair). IsSpine first_child (T.settled.level - 1) z.child RT) (right_is right right_at) (right_spine t x slot fence hs next tree raised lies inside))) v.right;
            each = readable;
            apart = apart4;
          };
        }

        pub settled_by : (laws : SettlingLaws) (right : Pair) (right_at : slice_get (pairs_of content) (slot + 1) ≡ Some right) (l : ℕ) (l_is : l ≡ content.level - 1) (k5 : CallerData) → ((spine : IsPending t right.child l k4.log.holdings) → LetsGoSettled spine.settled spine.spine.base l k4 k5) → LetsGoSettled S (v.lefts' ++ w.lock ∷ RE) l k4 k5
        unfolding pending
        settled_by laws right right_at l l_is k5 gone = gone (pending laws right right_at l l_is)

        -- and all settled
        so : (change : NodeData → NodeData) (a b : Holding) → IsTrue (is_among (fence_nodes tree.contents x P next.next) a.node) → IsRewrittenAs change a b → S b ≡ record b { settled = change a.settled; mark = Some (frame_of (change a.settled)) }
        so = settled_so t x slot fence hs next tree raised lies inside law k4.log.holdings v.lefts' v.rights' w.lock v.held v.left v.right one_top out4 apart4 kept

        moved_so : (change : NodeData → NodeData) (a b : Holding) → IsTrue (is_among (fence_nodes tree.contents x P next.next) a.node) → IsRewrittenAs change a b → (change a.settled).level ≡ a.settled.level → is_entries (change a.settled).body ≡ false → IsMovedLock a (S b)
        moved_so change a b there one level' inner' = subst (IsMovedLock a) (sym (so change a b there one)) (record { node = one.node; spells = one.spells; level = level'; marked = refl; stored = one.stored; inner = inner' })

        moved_spine : (xs ys : List Holding) → AreRewritten (ends_at_fence fence) xs ys → AllByRecursion (IsLeft t x slot fence hs next tree raised lies inside) xs → AllByRecursion (λ (h : Holding). 0 < h.settled.level) xs → AreMovedLocks xs (map S ys)
        moved_spine [] [] one left up = tt
        moved_spine [] (y ∷ ys) one left up = absurd one
        moved_spine (a ∷ xs) [] one left up = absurd one
        moved_spine (a ∷ xs) (b ∷ ys) one left up = (
          moved_so (ends_at_fence fence) a b (left_in t x slot fence hs next tree raised lies inside a left.0) one.0 refl (raised_inner fence a.settled.body (inner_kind tree.contents tree.live tree.lawful a left.0.on up.0)),
          moved_spine xs ys one.1 left.1 up.1,
        )

        module _ (kept_law : KeptLaw) (laws : SettlingLaws) (k5 : CallerData) (l : ℕ) (l_is : l ≡ content.level - 1) (steps4 : StepsOnNodes k k4) (gone : LetsGoSettled S (v.lefts' ++ w.lock ∷ RE) l k4 k5) where
          lawful_now : IsLawfulTree (g t x slot fence hs next tree raised lies inside) tree.live
          lawful_now = (kept_law tree.contents tree.live x slot P next.next fence (g t x slot fence hs next tree raised lies inside) tree.lawful (moves t x slot fence hs next tree raised lies inside)).lawful

          first_left : IsLeft t x slot fence hs next tree raised lies inside next.way.lock
          first_left = (are_left t x slot fence hs next tree raised lies inside).0

          ended : NodeData
          ended = ends_at_fence fence next.way.lock.settled

          leaf_ordered : IsOrderedAs ended ended.body
          unfolding ended
          leaf_ordered = subst (λ (s : NodeData). IsOrderedAs s s.body) first_left.now (lawful_now.tree.ordered next.way.lock.node first_left.on.alive)

          leaf_live : IsLiveNode t next.way.lock.node ended (frame_of ended)
          unfolding ended
          leaf_live = record {
            placed = (refl, refl, refl);
            ordered = leaf_ordered;
            filled = subst (λ (s : NodeData). IsFilledAs next.way.lock.node s.body) first_left.now (lawful_now.filled next.way.lock.node first_left.on.alive);
            height = λ _. (let e = next.way.leaf in omega (arith, e));
            places = λ _. frame_of ended;
            own = refl;
            children = subst (λ (ps : List Pair). AllByRecursion (λ (b : Branch). (b.child < t.nodes) × (b.child ≢ 0) × (frame_of ended ≡ b.frame)) (branches_from (ended.level - 1) ended.low ps)) (sym (leaf_has_none ended ended.body leaf_ordered next.way.leaf)) tt;
          }

          rest_stays : map S RE ≡ RE
          rest_stays = all_stay S (IsRest t x slot fence hs next tree raised lies inside) (λ h is. settled_rest t x slot fence hs next tree raised lies inside law k4.log.holdings v.lefts' v.rights' w.lock v.held v.left v.right one_top out4 apart4 kept h is) RE (are_rest t x slot fence hs next tree raised lies inside)

          assemble : (ys : List Holding) → v.lefts' ≡ ys → AreRewritten (ends_at_fence fence) LT ys → MovesFence t fence next.way.lock next.way.spine next.way.top next.way.rest k k5
          unfolding ended
          assemble [] is one = absurd one
          assemble (b ∷ ys) is one = record {
            calls = kept_calls_on steps4.calls gone.calls;
            allowance = ap (λ (z : Budget). z.allowance) gone.budget ∙ ap (λ (z : Budget). z.allowance) steps4.budget;
            credit = (let a = ap (λ (z : Budget). z.credit) gone.budget in let c = ap (λ (z : Budget). z.credit) steps4.budget in let m = top_most in let e = level_is l l_is in let u = next.top in omega (arith, a, c, m, e, u));
            lock' = S b;
            spine' = map S ys;
            top' = S w.lock;
            held = gone.held ∙ (ap (λ zs. map S (zs ++ w.lock ∷ RE)) is ∙ (map_parts S (b ∷ ys) (w.lock ∷ RE) ∙ ap (λ zs. S b ∷ (map S ys ++ S w.lock ∷ zs)) rest_stays));
            leaf = subst (IsSettledLock t next.way.lock.node ended true) (sym (so (ends_at_fence fence) next.way.lock b (left_in t x slot fence hs next tree raised lies inside next.way.lock first_left) one.0)) (record { node = one.0.node; settled = refl; spells = one.0.spells; stored = one.0.stored; marked = refl; live = leaf_live });
            moved = moved_both next.way.spine (map S ys) (T ∷ []) (S w.lock ∷ []) (moved_spine next.way.spine ys one.1 (are_left t x slot fence hs next tree raised lies inside).1 (spine_up next.way.spine (higher_all t 0 0 (next.way.spine ++ T ∷ RE) (omega arith) next.way.above)))
                (moved_so (λ _. now_top) T w.lock (subst (λ m. IsTrue (is_among (fence_nodes tree.contents x P next.next) m)) (sym next.way.node) (top_in t x slot fence hs next tree raised lies inside)) one_top (ap (λ (s : NodeData). s.level) (top_content t x slot fence hs next tree raised lies inside)) refl, tt);
            out = gone.out;
          }
            where
              spine_up : (xs : List Holding) → AllByRecursion (λ (h : Holding). 0 < h.settled.level) (xs ++ T ∷ RE) → AllByRecursion (λ (h : Holding). 0 < h.settled.level) xs
              spine_up [] all = tt
              spine_up (y ∷ xs) all = (all.0, spine_up xs all.1)

          pub moves_fence : MovesFence t fence next.way.lock next.way.spine next.way.top next.way.rest k k5
          moves_fence = assemble v.lefts' refl v.left
