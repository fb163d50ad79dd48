-- A spine is locked, each node while its parent is held.
use Rattle.std.proofs.Common.{◌≡◌, ℕ, sym, ◌∙◌, subst, Some, IsSomeAnd, refl, IsSome, ◌∷◌, false, IfSome, ne_eqb, ap, ◌≢◌, suc, ◌-◌, ◌<◌, List, [], ◌++◌, append_assoc, arith, Option, None, true≢false, not, eq-eqb, cond}
use Rattle.std.proofs.lemmas.Option.{same_Some}
use Rattle.std.specs.List.{AllByRecursion}
use Rattle.tree_shape.specs.NodeData.{NodeData, pairs_of}
use Rattle.tree_shape.specs.declared.node.NodeBounds.{NodeBounds}
use Rattle.tree_laws.specs.Steps.{first_child}
use Rattle.tree_laws.specs.Trees.{Branch, branch, branches, branches_from}
use Rattle.tree_laws.proofs.Times.{In, all_at}
use Rattle.word_rule.specs.CallerData.{CallerData}
use Rattle.word_rule.specs.declared.log.Holding.{Holding}
use Rattle.word_rule.specs.Held.{held_of, without_lock}
use Rattle.word_rule.specs.Spelling.{SpellsNode, spelled}
use Rattle.word_rule.specs.declared.log.Holdings.{Holdings}
use Rattle.word_rule.specs.declared.log.Terms.{Terms}
use Rattle.word_rule.specs.NodeTells.{IsLiveNode, KnowsTree}
use Rattle.word_rule.specs.Steps.{mark_at_lock, first_mark, place_by, place_by_held, after_node_release_same}
use Rattle.node_store.specs.Holding.{ReadsHeld}
use Rattle.node_store.specs.Sights.{after_words}
use Rattle.version_locks.specs.Locking.{Locks}
use Rattle.tree_descent.proofs.HeldLists.{found_head, without_far}
use Rattle.tree_descent.specs.Paths.{AreApart}
use Rattle.fence_move.specs.Spines.{IsFreshLock, NamesChild, IsSpine, LocksSpine}
use Rattle.fence_move.proofs.HeldTrees.{some_pairs, OnTree, child, child_frame, first_high, first_in, on_tree, place_first}
use Rattle.word_rule.specs.declared.log.LockId.TheVariants as lock

-- what is read of a node that spells something
pub reads_spelled : (n : ℕ) (s shape : NodeData) (h : Holding) (k k' : CallerData) → held_of n k.log.holdings.held ≡ Some h → SpellsNode h.words s → ReadsHeld n k k' shape → s ≡ shape
reads_spelled n s shape h k k' found spells reads =
    same_Some _ _ (sym spells ∙ (subst (λ o. IsSomeAnd o (λ (z : Holding). SpellsNode z.words shape × (k' ≡ record k { log = after_words n z.words 35 k.log }))) found reads).0)

pub may_read_found : (n : ℕ) (s : NodeData) (h : Holding) (k : CallerData) → held_of n k.log.holdings.held ≡ Some h → SpellsNode h.words s → IsSomeAnd (held_of n k.log.holdings.held) (λ z. IsSome (spelled z.words))
may_read_found n s h k found spells = subst (λ o. IsSomeAnd o (λ (z : Holding). IsSome (spelled z.words))) (sym found) (subst IsSome (sym spells) refl)

-- The named child was locked.
pub record IsLocked (t : Terms) (n level : ℕ) (low : ℕ) (before after : Holdings) : Type 0 where
  pub new : Holding
  pub held : after.held ≡ new ∷ before.held
  pub node : new.node ≡ n
  pub level_is : new.settled.level ≡ level
  pub low_is : new.settled.low ≡ low
  pub fresh : IsFreshLock t new
  pub same : after ≡ record before { held = new ∷ before.held }

pub locked_so : (t : Terms) (n level : ℕ) (k k' : CallerData) → k.log.terms ≡ t → (c : NamesChild t n level k.log.holdings) → Locks (lock.Node n) k k' → IsLocked t n level c.frame.low k.log.holdings k'.log.holdings
locked_so t n level k k' terms c (more, marks, nodes, version, settled, words, (tries, taken, is)) =
    subst (λ (z : CallerData). IsLocked t n level c.frame.low k.log.holdings z.log.holdings) (sym is) (record {
      new = new;
      held = refl;
      node = refl;
      level_is = live.placed.0 ∙ c.level_is;
      low_is = live.placed.1;
      fresh = record {
        live = record { node = refl; settled = refl; spells = taken.spells; stored = refl; marked = subst IsSome (sym mark_is) refl; live = subst (λ o. IfSome o (IsLiveNode t n settled)) (sym mark_is) live };
        clean = refl;
        never_root = c.never_root;
        within = c.within;
        pairs = λ above. (some_pairs n settled live.ordered live.filled above).0;
      };
      same = refl;
    })
  where
    mark_is : mark_at_lock n settled k.log.holdings.held ≡ Some c.frame
    mark_is = rw (ne_eqb n 0 c.never_root) c.placed

    new : Holding
    new = record { node = n; version = version; settled = settled; words = words; stored = false; mark = mark_at_lock n settled k.log.holdings.held }

    live : IsLiveNode t n settled c.frame
    live = subst (λ z. IsLiveNode z n settled c.frame) terms (subst (λ o. IfSome o (IsLiveNode k.log.terms n settled)) mark_is taken.live)

-- loads leave it so
pub record Relocked (t : Terms) (n level low : ℕ) (before after : Holdings) (new : Holding) : Type 0 where
  pub now : IsLocked t n level low before after
  pub is : now.new ≡ new

pub relocked : (t : Terms) (n level low : ℕ) (before after later : Holdings) → (l : IsLocked t n level low before after) → later ≡ after → Relocked t n level low before later l.new
relocked t n level low before after later l e = record {
  now = record { new = l.new; held = ap (λ (z : Holdings). z.held) e ∙ l.held; node = l.node; level_is = l.level_is; low_is = l.low_is; fresh = l.fresh; same = e ∙ l.same };
  is = refl;
}

-- The child was read.
pub read_locked : (t : Terms) (n level low : ℕ) (shape : NodeData) (before : Holdings) (k k' : CallerData) → (l : IsLocked t n level low before k.log.holdings) → ReadsHeld n k k' shape → l.new.settled ≡ shape
read_locked t n level low shape before k k' l reads = reads_spelled n l.new.settled shape l.new k k' (ap (held_of n) l.held ∙ found_head n l.new before.held l.node) l.fresh.live.spells reads

-- its first child is named, and isn't held yet
module _ (t : Terms) (n level : ℕ) (before after : Holdings) (c : NamesChild t n level before) (l : IsLocked t n level c.frame.low before after) (tree : KnowsTree after) (above : 0 < level) where
  all_marked : AllByRecursion (λ (h : Holding). IsSome h.mark) (l.new ∷ before.held)
  all_marked = (l.fresh.live.marked, go before.held c.beside)
    where
      go : (hs : List Holding) → AllByRecursion (λ (h : Holding). IsSome h.mark × (h.settled.low ≡ c.frame.low → level < h.settled.level)) hs → AllByRecursion (λ (h : Holding). IsSome h.mark) hs
      go [] all = tt
      go (h ∷ hs) all = (all.0.0, go hs all.1)

  on : AllByRecursion (OnTree tree.contents tree.live) (l.new ∷ before.held)
  on = on_tree after tree (l.new ∷ before.held) l.held all_marked

  up : 0 < l.new.settled.level
  up = let e = l.level_is in omega (arith, e, above)

  found : In (branch (first_child 0 (pairs_of l.new.settled)) (l.new.settled.level - 1) l.new.settled.low (first_high (pairs_of l.new.settled))) (branches_from (l.new.settled.level - 1) l.new.settled.low (pairs_of l.new.settled))
  found = first_in (l.new.settled.level - 1) l.new.settled.low (pairs_of l.new.settled) (l.fresh.pairs up)

  abbrev b : Branch
  b = branch (first_child 0 (pairs_of l.new.settled)) (l.new.settled.level - 1) l.new.settled.low (first_high (pairs_of l.new.settled))

  far : (hs : List Holding) → AllByRecursion (OnTree tree.contents tree.live) hs → AllByRecursion (λ (h : Holding). IsSome h.mark × (h.settled.low ≡ c.frame.low → level < h.settled.level)) hs → AllByRecursion (λ (h : Holding). h.node ≢ first_child 0 (pairs_of l.new.settled)) hs
  far [] all beside = tt
  far (h ∷ hs) all beside = (
    (λ e. (
        let frame = child_frame tree.contents tree.live tree.lawful h b (child tree.contents tree.live tree.lawful l.new b on.0 found) all.0 e in
        let low : h.settled.low ≡ c.frame.low = frame.1 ∙ l.low_is in
        let higher = beside.0.1 low in let less = frame.0 in let is = l.level_is in omega (arith, higher, less, is))),
    far hs all.1 beside.1,
  )

  not_new : l.new.node ≢ first_child 0 (pairs_of l.new.settled)
  not_new e =
      let frame = child_frame tree.contents tree.live tree.lawful l.new b (child tree.contents tree.live tree.lawful l.new b on.0 found) on.0 e in
      let less = frame.0 in omega (arith, less, up)

  lower : (hs : List Holding) → AllByRecursion (λ (h : Holding). IsSome h.mark × (h.settled.low ≡ c.frame.low → level < h.settled.level)) hs → AllByRecursion (λ (h : Holding). IsSome h.mark × (h.settled.low ≡ l.new.settled.low → level - 1 < h.settled.level)) hs
  lower [] all = tt
  lower (h ∷ hs) all = ((all.0.0, (λ e. (let z = all.0.1 (e ∙ l.low_is) in omega (arith, z)))), lower hs all.1)

  placed : place_by_held (first_child 0 (pairs_of l.new.settled)) (l.new ∷ before.held) ≡ Some b.frame
  placed = go l.new.mark refl l.fresh.live.marked
    where
      go : (o : Option NodeBounds) → l.new.mark ≡ o → IsSome o → place_by_held (first_child 0 (pairs_of l.new.settled)) (l.new ∷ before.held) ≡ Some b.frame
      go None e some_mark = absurd (true≢false (sym some_mark))
      go (Some m) e some_mark =
          ap (λ o. first_mark (place_by (first_child 0 (pairs_of l.new.settled)) o l.new) (place_by_held (first_child 0 (pairs_of l.new.settled)) before.held)) e
          ∙ ap (λ o. first_mark o (place_by_held (first_child 0 (pairs_of l.new.settled)) before.held)) (place_first (l.new.settled.level - 1) l.new.settled.low (pairs_of l.new.settled) (l.fresh.pairs up))

  child_here : (first_child 0 (pairs_of l.new.settled) < t.nodes) × (first_child 0 (pairs_of l.new.settled) ≢ 0)
  child_here = go l.new.mark refl l.fresh.live.marked l.fresh.live.live
    where
      go : (o : Option NodeBounds) → l.new.mark ≡ o → IsSome o → IfSome o (IsLiveNode t l.new.node l.new.settled) → (first_child 0 (pairs_of l.new.settled) < t.nodes) × (first_child 0 (pairs_of l.new.settled) ≢ 0)
      go None e some_mark live = absurd (true≢false (sym some_mark))
      go (Some m) e some_mark live = (let told = all_at (λ (x : Branch). (x.child < t.nodes) × (x.child ≢ 0) × (live.places x.child ≡ x.frame)) (branches (l.new.settled.level - 1) l.new.settled) b live.children found in (told.0, told.1))

  pub names_first : NamesChild t (first_child 0 (pairs_of l.new.settled)) (level - 1) after
  names_first = record {
    frame = b.frame;
    placed = ap (place_by_held (first_child 0 (pairs_of l.new.settled))) l.held ∙ placed;
    level_is = ap (λ x. x - 1) l.level_is;
    never_root = child_here.1;
    within = child_here.0;
    apart = subst (AllByRecursion (λ (h : Holding). h.node ≢ first_child 0 (pairs_of l.new.settled))) (sym l.held) (not_new, far before.held on.1 c.beside);
    beside = subst (AllByRecursion (λ (h : Holding). IsSome h.mark × (h.settled.low ≡ l.new.settled.low → level - 1 < h.settled.level))) (sym l.held)
        ((l.fresh.live.marked, (λ _. (let e = l.level_is in omega (arith, e, above)))), lower before.held c.beside);
  }

  -- and below it a spine was locked
  pub locks_more : (r : ℕ) (u : NodeData) (last : Holdings) → LocksSpine t (first_child 0 (pairs_of l.new.settled)) (level - 1) r u after last → LocksSpine t n level r u before last
  locks_more r u last s =
      let is : level ≡ suc (level - 1) = omega (arith, above) in
      let held : last.held ≡ (s.right ∷ (s.more ++ l.new ∷ [])) ++ before.held = s.held ∙ (ap (λ hs. (s.right ∷ s.more) ++ hs) l.held ∙ sym (append_assoc (s.right ∷ s.more) (l.new ∷ []) before.held)) in
      let low' : u.low ≡ l.new.settled.low = s.low b.frame (ap (place_by_held (first_child 0 (pairs_of l.new.settled))) l.held ∙ placed) in
      record {
        right = s.right;
        more = s.more ++ l.new ∷ [];
        node = s.node;
        content = s.content;
        leaf = s.leaf;
        spine = subst (λ k. IsSpine first_child k n (s.right ∷ (s.more ++ l.new ∷ []))) (sym is) (l.new, s.right ∷ s.more, ((l.node, l.level_is ∙ is), refl, s.spine));
        fresh = (s.fresh.0, all_more s.more s.fresh.1);
        held = held;
        apart = λ all. s.apart (subst AreApart (sym l.held) (subst (λ m. AllByRecursion (λ (a : Holding). a.node ≢ m) before.held) (sym l.node) c.apart, all));
        same = s.same ∙ ap (λ (z : Holdings). record z { held = last.held }) l.same;
        low = λ place there. low' ∙ (l.low_is ∙ ap (λ (z : NodeBounds). z.low) (same_Some _ _ (sym c.placed ∙ there)));
      }
    where
      all_more : (xs : List Holding) → AllByRecursion (IsFreshLock t) xs → AllByRecursion (IsFreshLock t) (xs ++ l.new ∷ [])
      all_more [] all = (l.fresh, tt)
      all_more (x ∷ xs) all = (all.0, all_more xs all.1)

-- A leaf that was locked is a spine.
pub locks_leaf : (t : Terms) (n level : ℕ) (shape : NodeData) (before after : Holdings) → (c : NamesChild t n level before) → (l : IsLocked t n level c.frame.low before after) → l.new.settled ≡ shape → level ≡ 0 → LocksSpine t n level n shape before after
locks_leaf t n level shape before after c l content zero_level = record {
  right = l.new;
  more = [];
  node = l.node;
  content = content;
  leaf = ap (λ (s : NodeData). s.level) (sym content) ∙ (l.level_is ∙ zero_level);
  spine = subst (λ k. IsSpine first_child k n (l.new ∷ [])) (sym zero_level) (l.new, ((l.node, l.level_is ∙ zero_level), refl));
  fresh = (l.fresh, tt);
  held = l.held;
  apart = λ all. subst AreApart (sym l.held) (subst (λ m. AllByRecursion (λ (a : Holding). a.node ≢ m) before.held) (sym l.node) c.apart, all);
  same = l.same ∙ ap (λ hs. record before { held = hs }) (sym l.held);
  low = λ frame placed. ap (λ (s : NodeData). s.low) (sym content) ∙ (l.low_is ∙ ap (λ (z : NodeBounds). z.low) (same_Some _ _ (sym c.placed ∙ placed)));
}

pub without_head : (n : ℕ) (h : Holding) (held : List Holding) → h.node ≡ n → AllByRecursion (λ (a : Holding). a.node ≢ n) held → without_lock n (h ∷ held) ≡ held
without_head n h held is far = ap (λ b. cond (not b) (h ∷ without_lock n held) (without_lock n held)) (eq-eqb h.node n is) ∙ without_far n held far

-- The child was let go of again.
pub let_go_again : (t : Terms) (n level : ℕ) (before : Holdings) (k k' : CallerData) → (c : NamesChild t n level before) → IsLocked t n level c.frame.low before k.log.holdings → k' ≡ record k { log = after_node_release_same n k.log } → k'.log.holdings ≡ before
let_go_again t n level before k k' c l is =
    let start : k.log.holdings ≡ record before { held = l.new ∷ before.held } = l.same in
    ap (λ (z : CallerData). z.log.holdings) is
    ∙ (ap (λ (z : Holdings). record z { held = without_lock n z.held }) start
    ∙ (λ i. record before { held = without_head n l.new before.held l.node c.apart i }))

pub clean_again : (t : Terms) (n level low : ℕ) (before : Holdings) (k : CallerData) → IsLocked t n level low before k.log.holdings → IsSomeAnd (held_of n k.log.holdings.held) (λ h. h.stored ≡ false)
clean_again t n level low before k l = subst (λ o. IsSomeAnd o (λ (h : Holding). h.stored ≡ false)) (sym (ap (held_of n) l.held ∙ found_head n l.new before.held l.node)) l.fresh.clean
