-- The fence at which a span ends in the next leaf: the two spines beside it, by what is held.
--
-- `X` is the node above both leaves. From it the left spine goes down to the leaf that ends too
-- early, by last children below X's slot, and the right one to the next leaf, by first children
-- below the slot after it.
use Rattle.std.specs.Prelude.{◌≡◌, ◌+◌, ℕ, Some, slice_get, List, [], ◌∷◌, ◌<◌, ◌++◌, zero, suc}
use Rattle.std.specs.Prelude.{◌≢◌, false, length, IsSome, true, ◌⊎◌, ◌≤◌, IsTrue, None, map, ◌-◌}
use Rattle.std.specs.List.{AllByRecursion}
use Rattle.tree_shape.specs.NodeData.{pairs_of, NodeData}
use Rattle.tree_laws.specs.Steps.{last_child, first_child}
use Rattle.tree_shape.specs.declared.pair.Pair.{Pair}
use Rattle.tree_shape.specs.declared.node.NodeBounds.{NodeBounds}
use Rattle.tree_laws.specs.Decisions.{is_entries}
use Rattle.tree_shape.specs.Changes.{begins_after, ends_at_fence}
use Rattle.tree_shape.specs.declared.limits.TheConstants.{HIGHEST_LEVEL}
use Rattle.word_rule.specs.declared.log.Holding.{Holding}
use Rattle.word_rule.specs.declared.log.Holdings.{Holdings}
use Rattle.word_rule.specs.declared.log.Terms.{Terms}
use Rattle.word_rule.specs.Steps.{place_by_held}
use Rattle.word_rule.specs.Held.{held_of}
use Rattle.word_rule.specs.Spelling.{SpellsNode}
use Rattle.word_rule.specs.CallerData.{CallerData, KeepsCalls}
use Rattle.word_rule.specs.Exchange.{is_lawful, settle}
use Rattle.word_rule.specs.declared.log.Log.{Log}
use Rattle.tree_descent.specs.Paths.{AreHigher, IsLiveLock, AreApart, IsSettledLock}

-- a node is the last child of another
abbrev pub IsLastChild : Holding → Holding → Type 0
IsLastChild lower h = (lower.node ≡ last_child 0 (pairs_of h.settled))
    × (h.settled.level ≡ lower.settled.level + 1)

-- a node is the child at a slot of another, which has a slot after it
pub record IsAtSlot (slot : ℕ) (lower top : Holding) : Type 0 where
  pub pair : Pair
  pub next : Pair
  pub at : slice_get (pairs_of top.settled) slot ≡ Some pair
  pub after : slice_get (pairs_of top.settled) (slot + 1) ≡ Some next
  pub child : pair.child ≡ lower.node
  pub level : top.settled.level ≡ lower.settled.level + 1

-- from a node up by last children to the node below X's slot
abbrev pub Climbs : ℕ → Holding → List Holding → Holding → Type 0
Climbs slot lower [] top = IsAtSlot slot lower top
Climbs slot lower (h ∷ spine) top = IsLastChild lower h × Climbs slot h spine top

-- What a caller holds whose span ends in the next leaf: the leaf, the left spine above it up to the
-- node x, and more above that. All are live and have settled, and no node is out.
pub record HoldsWay (t : Terms) (x slot : ℕ) (holdings : Holdings) : Type 0 where
  pub lock : Holding
  pub spine : List Holding
  pub top : Holding
  pub rest : List Holding
  pub held : holdings.held ≡ lock ∷ (spine ++ top ∷ rest)
  pub node : top.node ≡ x
  pub within : x < t.nodes
  pub leaf : lock.settled.level ≡ 0
  pub here : IsLiveLock t lock
  pub above : AreHigher t 0 (spine ++ top ∷ rest)
  pub climb : Climbs slot lock spine top
  pub out : holdings.out ≡ []

-- the lock of the node n of this level
abbrev pub IsLockAt : ℕ → ℕ → Holding → Type 0
IsLockAt n level h = (h.node ≡ n) × (h.settled.level ≡ level)

-- locks from the node n of this level down by a child of each to a leaf, the leaf first
abbrev pub IsSpine : (ℕ → List Pair → ℕ) → ℕ → ℕ → List Holding → Type 0
IsSpine child zero n locks = (h : Holding) × (IsLockAt n zero h × (locks ≡ h ∷ []))
IsSpine child (suc level) n locks = (h : Holding) × (lower : List Holding)
    × (IsLockAt n (suc level) h × (locks ≡ lower ++ h ∷ [])
    × IsSpine child level (child 0 (pairs_of h.settled)) lower)

-- The lock of a live node that isn't the root, under which nothing was stored.
pub record IsFreshLock (t : Terms) (h : Holding) : Type 0 where
  pub live : IsLiveLock t h
  pub clean : h.stored ≡ false
  pub never_root : h.node ≢ 0
  pub within : h.node < t.nodes
  pub pairs : 0 < h.settled.level → 0 < length (pairs_of h.settled)

-- A held live node names a node as its child, of this level. It isn't held yet, and no held node of
-- that level or below begins where it does.
pub record NamesChild (t : Terms) (n level : ℕ) (holdings : Holdings) : Type 0 where
  pub frame : NodeBounds
  pub placed : place_by_held n holdings.held ≡ Some frame
  pub level_is : frame.level ≡ level
  pub never_root : n ≢ 0
  pub within : n < t.nodes
  pub apart : AllByRecursion (λ h. h.node ≢ n) holdings.held
  pub beside : AllByRecursion (λ h. IsSome h.mark
      × (h.settled.low ≡ frame.low → level < h.settled.level)) holdings.held

-- The node was locked, and the first child of each down to a leaf.
pub record LocksSpine (t : Terms) (n level r : ℕ) (u : NodeData) (before after : Holdings) : Type 0
  where
    pub right : Holding
    pub more : List Holding
    pub node : right.node ≡ r
    pub content : right.settled ≡ u
    pub leaf : u.level ≡ 0
    pub spine : IsSpine first_child level n (right ∷ more)
    pub fresh : AllByRecursion (IsFreshLock t) (right ∷ more)
    pub held : after.held ≡ (right ∷ more) ++ before.held
    pub apart : AreApart before.held → AreApart after.held
    pub same : after ≡ record before { held = after.held }
    pub low : (frame : NodeBounds) → place_by_held n before.held ≡ Some frame → u.low ≡ frame.low

-- A spine is held, of whose locks each is such a one, and below it more.
pub record HoldsSpine (P : Holding → Type 0) (n level : ℕ) (holdings : Holdings) : Type 0 where
  pub locks : List Holding
  pub base : List Holding
  pub held : holdings.held ≡ locks ++ base
  pub spine : IsSpine first_child level n locks
  pub each : AllByRecursion P locks
  pub apart : AreApart holdings.held

-- one in which nothing was stored
abbrev pub HoldsFresh : Terms → ℕ → ℕ → Holdings → Type 0
HoldsFresh t n level holdings = HoldsSpine (IsFreshLock t) n level holdings

-- What it holds then: the right spine too, in which nothing was stored.
pub record HoldsNext (t : Terms) (x slot : ℕ) (holdings : Holdings) : Type 0 where
  pub base : Holdings
  pub way : HoldsWay t x slot base
  pub next : Pair
  pub after : slice_get (pairs_of way.top.settled) (slot + 1) ≡ Some next
  pub level : ℕ
  pub top : way.top.settled.level ≡ level + 1
  pub right : Holding
  pub more : List Holding
  pub spine : IsSpine first_child level next.child (right ∷ more)
  pub fresh : AllByRecursion (IsFreshLock t) (right ∷ more)
  pub held : holdings.held ≡ (right ∷ more) ++ base.held
  pub apart : AreApart holdings.held
  pub same : holdings ≡ record base { held = holdings.held }

-- A leaf is held, and the one that begins after its high fence.
pub record HoldsLeafPair (n : ℕ) (s : NodeData) (r : ℕ) (u : NodeData) (holdings : Holdings)
    : Type 0 where
  pub left : Holding
  pub found_left : held_of n holdings.held ≡ Some left
  pub left_is : left.settled ≡ s
  pub left_marked : IsSome left.mark
  pub left_level : s.level ≡ 0
  pub right : Holding
  pub found_right : held_of r holdings.held ≡ Some right
  pub right_is : right.settled ≡ u
  pub right_marked : IsSome right.mark
  pub right_level : u.level ≡ 0
  pub beside : u.low ≡ s.high + 1

-- The lock of a node of a spine whose fence is to be moved: it spells what it settled, and is no
-- free node.
pub record IsToMove (t : Terms) (h : Holding) : Type 0 where
  pub spells : SpellsNode h.words h.settled
  pub marked : IsSome h.mark
  pub within : h.node < t.nodes
  pub ordered : (is_entries h.settled.body ≡ true × (h.settled.level ≡ 0))
      ⊎ (0 < length (pairs_of h.settled))

-- on the left one it ends below the new fence, on the right one the fence lies inside its own
abbrev pub IsLeftToMove : Terms → ℕ → Holding → Type 0
IsLeftToMove t fence h = IsToMove t h × (h.settled.high < fence)

abbrev pub IsRightToMove : Terms → ℕ → Holding → Type 0
IsRightToMove t fence h = IsToMove t h × (h.settled.low ≤ fence) × (fence < h.settled.high)

-- Two spines of one height are held, each in one piece, with others between and after them.
pub record HoldsSpines (t : Terms) (l r level fence : ℕ) (holdings : Holdings) : Type 0 where
  pub lefts : List Holding
  pub rights : List Holding
  pub between : List Holding
  pub behind : List Holding
  pub held : holdings.held ≡ (rights ++ between) ++ (lefts ++ behind)
  pub left : IsSpine last_child level l lefts
  pub right : IsSpine first_child level r rights
  pub each_left : AllByRecursion (IsLeftToMove t fence) lefts
  pub each_right : AllByRecursion (IsRightToMove t fence) rights
  pub apart : AreApart holdings.held

-- a lock whose words now spell another content than it settled
pub record IsRewrittenAs (change : NodeData → NodeData) (before after : Holding) : Type 0 where
  pub node : after.node ≡ before.node
  pub mark : after.mark ≡ before.mark
  pub settled : after.settled ≡ before.settled
  pub spells : SpellsNode after.words (change before.settled)
  pub stored : after.stored ≡ true

-- lock by lock
abbrev pub AreRewritten : (NodeData → NodeData) → List Holding → List Holding → Type 0
AreRewritten change [] [] = Unit {0}
AreRewritten change (a ∷ before) (b ∷ after) =
    IsRewrittenAs change a b × AreRewritten change before after
AreRewritten change _ _ = ⊥

-- Both spines were written, and haven't settled.
pub record WritesSpines (fence : ℕ) (lefts rights between behind : List Holding) (k k' : CallerData)
    : Type 0 where
  pub lefts' : List Holding
  pub rights' : List Holding
  pub held : k'.log.holdings.held ≡ (rights' ++ between) ++ (lefts' ++ behind)
  pub left : AreRewritten (ends_at_fence fence) lefts lefts'
  pub right : AreRewritten (begins_after fence) rights rights'
  pub out : k'.log.holdings.out ≡ k.log.holdings.out

-- the words of a lock spell a node with the pairs that it settled
pub record IsReadable (t : Terms) (h : Holding) : Type 0 where
  pub content : NodeData
  pub spells : SpellsNode h.words content
  pub pairs : pairs_of content ≡ pairs_of h.settled
  pub some : 0 < h.settled.level → 0 < length (pairs_of h.settled)
  pub within : h.node < t.nodes

-- A spine is held that is to be let go of, and below it more: as soon as one is let go of with the
-- next version, what is held settles.
pub record IsPending (t : Terms) (n level : ℕ) (holdings : Holdings) : Type 0 where
  pub settled : Holding → Holding
  pub settles : (v : Log) → v.holdings ≡ holdings → IsTrue (is_lawful v None) × (settle None v
      ≡ record v { holdings = record v.holdings { held = map settled v.holdings.held; out = [] } })
  pub keeps : (h : Holding) → (settled h).node ≡ h.node
  pub all : AllByRecursion (λ h. SpellsNode (settled h).words (settled h).settled) holdings.held
  pub spine : HoldsSpine (IsReadable t) n level holdings

-- So many locks were let go of with the next version, and all that is still held has settled.
pub record LetsGoSettled (settled : Holding → Holding) (base : List Holding) (level : ℕ)
    (k k' : CallerData) : Type 0 where
  pub calls : KeepsCalls k k'
  pub budget : k'.log.budget ≡ record k.log.budget { credit = k.log.budget.credit - (level + 1) }
  pub held : k'.log.holdings.held ≡ map settled base
  pub out : k'.log.holdings.out ≡ []

-- a node of the left spine, or X, after its fence was moved: it has settled, and it is no leaf
pub record IsMovedLock (before after : Holding) : Type 0 where
  pub node : after.node ≡ before.node
  pub spells : SpellsNode after.words after.settled
  pub level : after.settled.level ≡ before.settled.level
  pub marked : IsSome after.mark
  pub stored : after.stored ≡ true
  pub inner : is_entries after.settled.body ≡ false

-- lock by lock
abbrev pub AreMovedLocks : List Holding → List Holding → Type 0
AreMovedLocks [] [] = Unit {0}
AreMovedLocks (a ∷ before) (b ∷ after) = IsMovedLock a b × AreMovedLocks before after
AreMovedLocks _ _ = ⊥

-- The fence was moved and has settled, and the right spine was let go of. The leaf ends at the
-- fence; what is held above X is as it was.
pub record MovesFence (t : Terms) (fence : ℕ) (lock : Holding) (spine : List Holding)
    (top : Holding) (rest : List Holding) (k k' : CallerData) : Type 0 where
  pub calls : KeepsCalls k k'
  pub allowance : k'.log.budget.allowance ≡ k.log.budget.allowance
  pub credit : k.log.budget.credit ≤ k'.log.budget.credit + HIGHEST_LEVEL
  pub lock' : Holding
  pub spine' : List Holding
  pub top' : Holding
  pub held : k'.log.holdings.held ≡ lock' ∷ (spine' ++ top' ∷ rest)
  pub leaf : IsSettledLock t lock.node (ends_at_fence fence lock.settled) true lock'
  pub moved : AreMovedLocks (spine ++ top ∷ []) (spine' ++ top' ∷ [])
  pub out : k'.log.holdings.out ≡ []
