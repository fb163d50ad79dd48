-- What the split of a full node asks for, and what it makes of its caller.
use Rattle.std.specs.Prelude.{◌≡◌, ℕ, ◌<◌, List, [], ◌∷◌, length, true, nat_le, if◌then◌else◌, drop}
use Rattle.std.specs.Prelude.{◌⊎◌, Some, ◌≢◌, None, Bool, Option, Result, Ok, Err, IsSome}
use Rattle.tree_shape.specs.NodeData.{Link, IsInFences, IsInner, pairs_of, NodeData, Pairs}
use Rattle.tree_shape.specs.NodeData.{slot_for}
use Rattle.tree_laws.specs.Steps.{IsFull, middle, middle_fence, root_over}
use Rattle.tree_shape.specs.declared.limits.TheConstants.{PAIRS, HIGHEST_LEVEL}
use Rattle.tree_shape.specs.Changes.{first_half, last_half, at_slot, divide}
use Rattle.word_rule.specs.Spelling.{SpellsNode}
use Rattle.word_rule.specs.declared.log.Holding.{Holding}
use Rattle.word_rule.specs.declared.log.Holdings.{Holdings}
use Rattle.word_rule.specs.declared.log.Terms.{Terms}
use Rattle.word_rule.specs.CallerData.{CallerData}
use Rattle.word_rule.specs.Held.{held_of}
use Rattle.version_locks.specs.Locking.{FoundBusy}
use Rattle.version_locks.specs.declared.locking.Busy.{Busy}
use Rattle.tree_descent.specs.Paths.{AreHigher, HasChildFor, IsHeldAs, StepsOnNodes, IsLeftOut}
use Rattle.tree_descent.specs.declared.descent.Held.{Held}
use Rattle.tree_descent.specs.Releases.{with_release_less}
use Rattle.tree_descent.specs.Stands.{HasSpace}
use Rattle.tree_descent.specs.Loads.{FoundNoRoom}
use Rattle.node_split.specs.declared.split.FullChild.{FullChild}
use Rattle.node_split.specs.declared.split.SplitNodes.{SplitNodes}
use Rattle.node_split.specs.declared.split.Coupled.{Coupled}
use Rattle.node_split.specs.declared.root_split.FullRoot.{FullRoot}
use Rattle.node_split.specs.declared.root_split.TwoNodes.{TwoNodes}
use Rattle.node_split.specs.declared.split.Room.TheVariants as room
use Rattle.version_locks.specs.declared.locking.Busy.TheVariants as busy

-- The lock of a node that was taken off the free list: its words spell a free one.
pub record IsFreeLock (n : ℕ) (h : Holding) : Type 0 where
  pub node : h.node ≡ n
  pub spells : SpellsNode h.words h.settled
  pub next : ℕ
  pub free : h.settled.body ≡ Link next

-- A full child is held under its parent, which has room, and a free node is out. What is held above
-- has settled.
pub record HoldsFullChild (t : Terms) (full : FullChild) (pc : ℕ) (holdings : Holdings) : Type 0
  where
    pub parent_within : full.parent.node < t.nodes
    pub child_within : full.child.node < t.nodes
    pub fresh_within : full.fresh < t.nodes
    pub new : Holding
    pub lower : Holding
    pub upper : Holding
    pub rest : List Holding
    pub held : holdings.held ≡ new ∷ lower ∷ upper ∷ rest
    pub out : holdings.out ≡ full.fresh ∷ []
    pub free : IsFreeLock full.fresh new
    pub child : IsHeldAs t full.child lower
    pub parent : IsHeldAs t full.parent upper
    pub higher : AreHigher t full.parent.content.level rest
    pub leads : HasChildFor full.parent.content pc full.child.node
    pub here : IsInFences pc full.parent.content
    pub inner : IsInner full.parent.content
    pub room : length (pairs_of full.parent.content) < PAIRS
    pub is_full : IsFull full.child.content.body

-- the half of a split node to which an address leads: the node, and what it holds
abbrev pub half_for : ℕ → ℕ → ℕ → NodeData → Held
half_for left right pc s =
    if nat_le pc (middle_fence s)
    then record { node = left; content = first_half (middle s.body) s; changed = true }
    else record { node = right; content = last_half (middle s.body) s; changed = true }

-- the same of three nodes' contents, and the node of the half that isn't on the way
abbrev pub way_in : ℕ → ℕ → ℕ → SplitNodes → Held
way_in left right pc parts =
    if nat_le pc parts.left.high
    then record { node = left; content = parts.left; changed = true }
    else record { node = right; content = parts.right; changed = true }

abbrev pub other_in : ℕ → ℕ → ℕ → SplitNodes → ℕ
other_in left right pc parts = if nat_le pc parts.left.high then right else left

-- what a full child and its parent are to hold, and the new node
abbrev pub parts_for : FullChild → ℕ → SplitNodes
parts_for full pc =
    let s = full.parent.content in let c = full.child.content in record {
      left = first_half (middle c.body) c;
      right = last_half (middle c.body) c;
      above = record s {
        body = Pairs (at_slot (divide (middle_fence c) full.fresh) (slot_for pc (pairs_of s))
            (pairs_of s));
      };
    }

-- the parent of a split, and the half that isn't on the way
abbrev pub parent_for : FullChild → ℕ → Held
parent_for full pc = record {
  node = full.parent.node;
  content = (parts_for full pc).above;
  changed = true;
}

abbrev pub other_half : ℕ → ℕ → ℕ → NodeData → ℕ
other_half left right pc s = if nat_le pc (middle_fence s) then right else left

-- A full node was split under a node above. The half for the address is held, and the node above.
pub record SplitsUnder (t : Terms) (pc : ℕ) (half over : Held) (step : Coupled) (k k' : CallerData)
    : Type 0 where
  pub lower : Holding
  pub upper : Holding
  pub held : k'.log.holdings.held ≡ lower ∷ upper ∷ drop 3 k.log.holdings.held
  pub out : k'.log.holdings.out ≡ []
  pub way_held : IsHeldAs t step.child lower
  pub parent_held : IsHeldAs t step.parent upper
  pub way : step.child ≡ half
  pub parent : step.parent ≡ over
  pub splitting : step.room ≡ room.Splitting
  pub within : step.child.node < t.nodes
  pub here : IsInFences pc step.child.content
  pub leads : HasChildFor step.parent.content pc step.child.node
  pub lower_level : step.child.content.level < step.parent.content.level
  pub room : HasSpace step.child.content.body
  pub same : StepsOnNodes (with_release_less k) k'

-- a full child was split under its parent, which has a pair more
abbrev pub SplitsChild : Terms → FullChild → ℕ → Coupled → CallerData → CallerData → Type 0
SplitsChild t full pc =
    SplitsUnder t pc (half_for full.child.node full.fresh pc full.child.content)
    (parent_for full pc)

-- A full node on the way is held as the words spell it; no node is out, or one where it is the
-- root, which needs two.
pub record HoldsFull (t : Terms) (full : Held) (pc : ℕ) (holdings : Holdings) : Type 0 where
  pub lock : Holding
  pub found : held_of full.node holdings.held ≡ Some lock
  pub here : IsHeldAs t full lock
  pub is_full : IsFull full.content.body
  pub on_way : IsInFences pc full.content
  pub within : full.node < t.nodes
  pub out : (holdings.out ≡ []) ⊎ ((length holdings.out ≡ 1) × (full.node ≡ 0))

-- A free node was taken, and is held and out.
pub record TakesRoom (fresh : ℕ) (k k' : CallerData) : Type 0 where
  pub never_root : fresh ≢ 0
  pub within : fresh < k.log.terms.nodes
  pub unheld : held_of fresh k.log.holdings.held ≡ None
  pub new : Holding
  pub held : k'.log.holdings.held ≡ new ∷ k.log.holdings.held
  pub free : IsFreeLock fresh new
  pub out : k'.log.holdings.out ≡ fresh ∷ k.log.holdings.out
  pub same : StepsOnNodes k k'

-- What is held stays so.
pub record StaysHeld (k k' : CallerData) : Type 0 where
  pub held : k'.log.holdings.held ≡ k.log.holdings.held
  pub out : k'.log.holdings.out ≡ k.log.holdings.out
  pub same : StepsOnNodes k k'

-- What comes of the search for a free node: the node; or none, with the cause among the loads; or
-- why it was given up, by a caller that may give up.
abbrev pub IsRoomFor : Bool → ℕ → CallerData → CallerData → Result (Option ℕ) Busy → Type 0
IsRoomFor gives_up pc k k' (Ok (Some fresh)) = TakesRoom fresh k k'
IsRoomFor gives_up pc k k' (Ok None) = StaysHeld k k' × FoundNoRoom pc k k'
IsRoomFor gives_up pc k k' (Err why) =
    StaysHeld k k' × (gives_up ≡ true) × FoundBusy why k k'

-- The full root is held, and two free nodes that are out.
pub record HoldsFullRoot (t : Terms) (full : FullRoot) (pc : ℕ) (holdings : Holdings) : Type 0 where
  pub is_root : full.root.node ≡ 0
  pub root_within : full.root.node < t.nodes
  pub left_within : full.left < t.nodes
  pub right_within : full.right < t.nodes
  pub different : full.left ≢ full.right
  pub right : Holding
  pub left : Holding
  pub upper : Holding
  pub held : holdings.held ≡ right ∷ left ∷ upper ∷ []
  pub out : holdings.out ≡ full.right ∷ full.left ∷ []
  pub left_free : IsFreeLock full.left left
  pub right_free : IsFreeLock full.right right
  pub root : IsHeldAs t full.root upper
  pub here : IsInFences pc full.root.content
  pub height : full.root.content.level < HIGHEST_LEVEL
  pub is_full : IsFull full.root.content.body

-- what the full root and its two children are to hold
abbrev pub root_parts_for : FullRoot → SplitNodes
root_parts_for full =
    let s = full.root.content in record {
      left = first_half (middle s.body) s;
      right = last_half (middle s.body) s;
      above = root_over full.left full.right (middle_fence s) s;
    }

abbrev pub root_for : FullRoot → Held
root_for full = record {
  node = full.root.node;
  content = (root_parts_for full).above;
  changed = true;
}

-- the full root was lifted and split: it is a level higher, and has the halves as its children
abbrev pub LiftsRoot : Terms → FullRoot → ℕ → Coupled → CallerData → CallerData → Type 0
LiftsRoot t full pc =
    SplitsUnder t pc (half_for full.left full.right pc full.root.content) (root_for full)

-- The full root alone is held, and no node is out.
pub record HoldsFullAlone (t : Terms) (root : Held) (pc : ℕ) (holdings : Holdings) : Type 0 where
  pub is_root : root.node ≡ 0
  pub within : root.node < t.nodes
  pub lock : Holding
  pub held : holdings.held ≡ lock ∷ []
  pub here : IsHeldAs t root lock
  pub is_full : IsFull root.content.body
  pub on_way : IsInFences pc root.content
  pub out : holdings.out ≡ []

-- A free node is held over the root, and is the only one that is out.
pub record HoldsOneFree (n : ℕ) (holdings : Holdings) : Type 0 where
  pub never_root : n ≢ 0
  pub lock : Holding
  pub root : Holding
  pub held : holdings.held ≡ lock ∷ root ∷ []
  pub node : lock.node ≡ n
  pub is_root : root.node ≡ 0
  pub marked : IsSome root.mark
  pub spells : SpellsNode root.words root.settled
  pub out : holdings.out ≡ n ∷ []

-- A node was given back, by a release: what was held below it is held still, and no node is out.
pub record GivesBack (k k' : CallerData) : Type 0 where
  pub held : k'.log.holdings.held ≡ drop 1 k.log.holdings.held
  pub out : k'.log.holdings.out ≡ []
  pub same : StepsOnNodes (with_release_less k) k'

-- It couldn't be given back, and stays out: what was held below it is held still.
pub record LosesFree (why : Busy) (k k' : CallerData) : Type 0 where
  pub lost : why ≡ busy.Lost
  pub cause : FoundBusy why k k'
  pub held : k'.log.holdings.held ≡ drop 1 k.log.holdings.held
  pub out : k'.log.holdings.out ≡ k.log.holdings.out
  pub same : StepsOnNodes (with_release_less k) k'

-- What is held stays so, for at most a release.
pub record KeepsHeld (k k' : CallerData) : Type 0 where
  pub held : k'.log.holdings.held ≡ k.log.holdings.held
  pub same : StepsOnNodes k k' ⊎ StepsOnNodes (with_release_less k) k'

-- Two free nodes were taken, and are held and out.
pub record TakesTwo (two : TwoNodes) (k k' : CallerData) : Type 0 where
  pub right : Holding
  pub left : Holding
  pub held : k'.log.holdings.held ≡ right ∷ left ∷ k.log.holdings.held
  pub out : k'.log.holdings.out ≡ two.right ∷ two.left ∷ k.log.holdings.out
  pub left_free : IsFreeLock two.left left
  pub right_free : IsFreeLock two.right right
  pub left_within : two.left < k.log.terms.nodes
  pub right_within : two.right < k.log.terms.nodes
  pub different : two.left ≢ two.right
  pub same : StepsOnNodes k k'

-- What comes of the search for two free nodes for the full root: both, where it may rise; or none,
-- with the cause among the loads; or why it was given up, by a caller that may give up. No node is
-- out then, but where the first one was lost.
abbrev pub IsRoomForRoot
    : Bool → Held → ℕ → CallerData → CallerData → Result (Option TwoNodes) Busy → Type 0
IsRoomForRoot gives_up root pc k k' (Ok (Some two)) =
    (root.content.level < HIGHEST_LEVEL) × TakesTwo two k k'
IsRoomForRoot gives_up root pc k k' (Ok None) = KeepsHeld k k' × FoundNoRoom pc k k'
    × (k'.log.holdings.out ≡ k.log.holdings.out)
IsRoomForRoot gives_up root pc k k' (Err why) = KeepsHeld k k' × (gives_up ≡ true)
    × FoundBusy why k k' × IsLeftOut why k'.log.holdings.out
