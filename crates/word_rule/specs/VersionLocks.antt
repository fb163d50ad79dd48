-- Steps on version locks, by whose lock it is: a node's, or the loader's.
use Rattle.std.specs.Prelude.{◌≡◌, ℕ, ◌<◌, List, IfSome, IsSomeAnd, false}
use Rattle.tree_shape.specs.NodeData.{NodeData}
use Rattle.word_rule.specs.declared.log.Ask.{Ask}
use Rattle.word_rule.specs.declared.log.LockId.{LockId}
use Rattle.word_rule.specs.declared.log.LockId.TheVariants as lock
use Rattle.word_rule.specs.declared.log.LoaderHolding.{LoaderHolding}
use Rattle.word_rule.specs.declared.log.Log.{Log}
use Rattle.word_rule.specs.declared.log.Terms.{Terms}
use Rattle.word_rule.specs.Places.{LOADER, node_place}
use Rattle.word_rule.specs.CallerData.{CallerData}
use Rattle.word_rule.specs.Callers.{IsLockedAt}
use Rattle.word_rule.specs.Held.{held_of}
use Rattle.word_rule.specs.Logs.{IsTaken, after_load, after_loader_lock}
use Rattle.word_rule.specs.Logs.{after_loader_release, after_loader_release_same}
use Rattle.word_rule.specs.Steps.{MayRelease, after_node_lock, after_node_release}
use Rattle.word_rule.specs.Steps.{after_node_release_same, after_seen_lock}
use Rattle.word_rule.specs.Sights.{after_node_version}
use Rattle.word_rule.specs.NodeTells.{AloneTells, IsSeenNode, IsTakenNode, SightTells}

-- a lock that there is: the loader's, or that of a node
abbrev pub IsLock : Terms → LockId → Type 0
IsLock t lock.Loader = Unit {0}
IsLock t (lock.Node n) = n < t.nodes

-- where its version word stands
abbrev pub lock_place : LockId → ℕ
lock_place lock.Loader = LOADER
lock_place (lock.Node n) = node_place n

-- Its version was loaded: of a node's a sight begins, goes on, or falls.
abbrev pub after_version : Ask → LockId → ℕ → Log → Log
after_version a lock.Loader found v = after_load LOADER found v
after_version a (lock.Node n) found v = after_node_version a n found v

-- what a found version of a node tells: the terms, and what the sight of the node is of
abbrev pub VersionTells : Terms → LockId → ℕ → Log → Type 0
VersionTells t lock.Loader found v = Unit {0}
VersionTells t (lock.Node n) found v = (v.terms ≡ t) × SightTells n found v

-- what it tells one that is alone
abbrev pub LockAloneTells : LockId → ℕ → Log → Type 0
LockAloneTells lock.Loader found v = Unit {0}
LockAloneTells (lock.Node n) found v = AloneTells n found v

-- the loader's lock was taken at a version
abbrev pub LoaderTaken : ℕ → CallerData → CallerData → Type 0
LoaderTaken version k k' = (h : LoaderHolding)
    × (IsTaken k.log.terms version h × (k' ≡ record k { log = after_loader_lock h k.log }))

-- a node was locked at a version
abbrev pub NodeTaken : ℕ → ℕ → CallerData → CallerData → Type 0
NodeTaken n version k k' = (settled : NodeData) × (words : List ℕ)
    × (IsTakenNode n k.log words settled
    × (k' ≡ record k { log = after_node_lock n version settled words k.log }))

-- a node was locked by sight, at the version seen
abbrev pub NodeSeen : ℕ → ℕ → CallerData → CallerData → Type 0
NodeSeen n version k k' = (settled : NodeData) × (words : List ℕ)
    × (IsSeenNode n version k.log words settled
    × (k' ≡ record k { log = after_seen_lock n version settled words k.log }))

-- a lock was taken at a version
abbrev pub IsLockTaken : LockId → ℕ → CallerData → CallerData → Type 0
IsLockTaken lock.Loader version k k' = LoaderTaken version k k'
IsLockTaken (lock.Node n) version k k' = NodeTaken n version k k'

-- no word was stored under a lock that is held; under the loader's, since it last published
abbrev pub IsHeldClean : LockId → Log → Type 0
IsHeldClean lock.Loader v = IsSomeAnd v.loader (λ h. h.stored ≡ false)
IsHeldClean (lock.Node n) v = IsSomeAnd (held_of n v.holdings.held) (λ h. h.stored ≡ false)

-- the word is the version at which a lock is held, with its low bits
abbrev pub WasLockedAs : LockId → ℕ → Log → Type 0
WasLockedAs lock.Loader found v = IfSome v.loader (λ h. IsLockedAt h.version found)
WasLockedAs (lock.Node n) found v =
    IfSome (held_of n v.holdings.held) (λ h. IsLockedAt h.version found)

-- a lock was let go with the version at which it was taken
abbrev pub after_release_same : LockId → Log → Log
after_release_same lock.Loader v = after_loader_release_same v
after_release_same (lock.Node n) v = after_node_release_same n v

-- A lock is let go with the next version by one that holds it: the loader's, where no word was
-- stored since it last published; a node, as its words allow it.
abbrev pub MayLetGo : LockId → Log → Type 0
MayLetGo lock.Loader v = IsSomeAnd v.loader (λ h. h.stored ≡ false)
MayLetGo (lock.Node n) v = MayRelease n v

-- a lock was let go with the next version
abbrev pub after_release : LockId → Log → Log
after_release lock.Loader v = after_loader_release v
after_release (lock.Node n) v = after_node_release n v
