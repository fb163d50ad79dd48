-- The way of an update down the tree, by what its caller holds.
use Rattle.std.specs.Prelude.{◌≡◌, ℕ, Bool, IfSome, IsSome, ◌<◌, List, [], ◌∷◌, ◌≤◌, length, ◌-◌}
use Rattle.std.specs.Prelude.{Contains, ◌≢◌}
use Rattle.std.specs.List.{AllByRecursion}
use Rattle.tree_shape.specs.NodeData.{NodeData}
use Rattle.tree_laws.specs.Trees.{Branch, branches}
use Rattle.word_rule.specs.declared.log.Holding.{Holding}
use Rattle.word_rule.specs.declared.log.Terms.{Terms}
use Rattle.word_rule.specs.NodeTells.{IsLiveNode}
use Rattle.word_rule.specs.Spelling.{SpellsNode}
use Rattle.word_rule.specs.declared.log.Holdings.{Holdings}
use Rattle.word_rule.specs.CallerData.{CallerData, KeepsCalls}
use Rattle.version_locks.specs.declared.locking.Busy.{Busy}
use Rattle.tree_descent.specs.Loads.{KeepsLoads}
use Rattle.tree_descent.specs.declared.descent.Held.{Held}
use Rattle.version_locks.specs.declared.locking.Busy.TheVariants as busy

-- The lock of a live node that has settled: the node is this one, and a word was stored under the
-- lock or none was.
pub record IsSettledLock (t : Terms) (n : ℕ) (s : NodeData) (changed : Bool) (h : Holding) : Type 0
  where
    pub node : h.node ≡ n
    pub settled : h.settled ≡ s
    pub spells : SpellsNode h.words s
    pub stored : h.stored ≡ changed
    pub marked : IsSome h.mark
    pub live : IfSome h.mark (IsLiveNode t n s)

-- the lock of a live node that has settled
abbrev pub IsLiveLock : Terms → Holding → Type 0
IsLiveLock t h = IsSettledLock t h.node h.settled h.stored h

-- locks of live nodes that have settled, each of a level above the one before
abbrev pub AreHigher : Terms → ℕ → List Holding → Type 0
AreHigher t level [] = Unit {0}
AreHigher t level (h ∷ held) =
    IsLiveLock t h × (level < h.settled.level) × AreHigher t h.settled.level held

-- no node is held, and none is out
abbrev pub HoldsNothing : Holdings → Type 0
HoldsNothing holdings = (holdings.held ≡ []) × (holdings.out ≡ [])

-- what is out where an update gave up: none, but for at most two nodes that it couldn't put back
abbrev pub IsLeftOut : Busy → List ℕ → Type 0
IsLeftOut (busy.Taken id) out = out ≡ []
IsLeftOut busy.Raced out = out ≡ []
IsLeftOut busy.Lost out = length out ≤ 2

-- no node is held then
abbrev pub HoldsLeftOver : Busy → Holdings → Type 0
HoldsLeftOver why holdings = (holdings.held ≡ []) × IsLeftOut why holdings.out

-- an address leads from a node to this child: it is one of the node's, and its fences hold it
abbrev pub HasChildFor : NodeData → ℕ → ℕ → Type 0
HasChildFor s pc child = (b : Branch) × (Contains (branches (s.level - 1) s) b × (b.child ≡ child)
    × (b.frame.low ≤ pc) × (pc ≤ b.frame.high))

-- What steps on nodes leave of their caller: its calls, its receipts and its names are as they
-- were, and what it had loaded stays told.
pub record StepsOnNodes (k k' : CallerData) : Type 0 where
  pub calls : KeepsCalls k k'
  pub budget : k'.log.budget ≡ k.log.budget
  pub loads : KeepsLoads k k'

-- each node is held once
abbrev pub AreApart : List Holding → Type 0
AreApart [] = Unit {0}
AreApart (h ∷ held) = AllByRecursion (λ a. a.node ≢ h.node) held × AreApart held

-- the lock of a node on the way, as it is held
abbrev pub IsHeldAs : Terms → Held → Holding → Type 0
IsHeldAs t at h = IsSettledLock t at.node at.content at.changed h
