-- What taking a lock makes of a caller, and what a caller loads that gives up.
use Rattle.std.specs.Prelude.{◌≡◌, ◌≢◌, ℕ, ◌+◌, ◌%◌, ◌⊎◌, List, ◌∷◌, ◌++◌, Contains}
use Rattle.std.specs.List.{AllByRecursion}
use Rattle.tree_shape.specs.NodeData.{NodeData}
use Rattle.word_rule.specs.CallerData.{CallerData}
use Rattle.word_rule.specs.Logs.{IsTaken, after_load, after_loader_lock}
use Rattle.word_rule.specs.NodeTells.{IsTakenNode}
use Rattle.word_rule.specs.Places.{HEAD, node_place}
use Rattle.word_rule.specs.Sights.{without_sight}
use Rattle.word_rule.specs.Steps.{after_node_lock}
use Rattle.word_rule.specs.VersionLocks.{lock_place}
use Rattle.word_rule.specs.declared.log.LockId.{LockId}
use Rattle.word_rule.specs.declared.log.LockId.TheVariants as lock
use Rattle.word_rule.specs.declared.log.LoaderHolding.{LoaderHolding}
use Rattle.word_rule.specs.declared.log.Log.{Log}
use Rattle.word_rule.specs.declared.log.LoadEvent.{LoadEvent}
use Rattle.word_rule.specs.declared.log.NodeSight.{NodeSight}
use Rattle.version_locks.specs.declared.locking.Busy.{Busy}
use Rattle.version_locks.specs.declared.locking.Busy.TheVariants as busy

-- a load of a lock's version word, or a refused exchange there
abbrev pub IsOfLock : LockId → LoadEvent → Type 0
IsOfLock id l = l.word ≡ lock_place id

-- a log with more loads
abbrev pub loaded : List LoadEvent → Log → Log
loaded more v = record v { trace = record v.trace { loads = v.trace.loads ++ more } }

-- a log after so many loads and marks
abbrev pub tried : List LoadEvent → ℕ → Log → Log
tried more marks v = record v {
  trace = record v.trace { loads = v.trace.loads ++ more; writes = v.trace.writes + marks };
}

-- a log with these sights of nodes
abbrev pub sighted : List NodeSight → Log → Log
sighted nodes v = record v { sights = record v.sights { nodes = nodes } }

-- What loads of a version leave of the sights of nodes: all, where it is the loader's; those of the
-- other nodes, where it is a node's.
abbrev pub SightsAfter : LockId → List NodeSight → List NodeSight → Type 0
SightsAfter lock.Loader before after = after ≡ before
SightsAfter (lock.Node n) before after = without_sight n after ≡ without_sight n before

-- Only a lock's version word was loaded and marked.
abbrev pub Tries : LockId → CallerData → CallerData → Type 0
Tries id k k' = (more : List LoadEvent) × (marks : ℕ) × (nodes : List NodeSight) ×
    (AllByRecursion (IsOfLock id) more × SightsAfter id k.log.sights.nodes nodes
    × (k' ≡ record k { log = sighted nodes (tried more marks k.log) }))

-- A lock was taken; all else was such loads and marks.
abbrev pub Locks : LockId → CallerData → CallerData → Type 0
Locks lock.Loader k k' = (more : List LoadEvent) × (marks : ℕ) × (h : LoaderHolding) ×
    (AllByRecursion (IsOfLock lock.Loader) more × IsTaken k.log.terms h.version h
    × (k' ≡ record k { log = after_loader_lock h (tried more marks k.log) }))
Locks (lock.Node n) k k' =
    (more : List LoadEvent) × (marks : ℕ) × (nodes : List NodeSight) × (version : ℕ)
    × (settled : NodeData) × (words : List ℕ)
    × ((AllByRecursion (IsOfLock (lock.Node n)) more
    × SightsAfter (lock.Node n) k.log.sights.nodes nodes) × IsTakenNode n k.log words settled
    × (k' ≡ record k {
      log = after_node_lock n version settled words (sighted nodes (tried more marks k.log));
    }))

-- The lock was found taken: its word was loaded, with bit 0 set, and nothing else was done.
abbrev pub IsBusy : LockId → CallerData → CallerData → Type 0
IsBusy id k k' = (found : ℕ) × ((found % 2 ≡ 1)
    × (k' ≡ record k { log = after_load (lock_place id) found k.log }))

-- an update gave up at this lock, which was found taken
abbrev pub IsBusyAt : LockId → Busy → CallerData → CallerData → Type 0
IsBusyAt id why k k' = (why ≡ busy.Taken id) × IsBusy id k k'

-- what holds of an update that gave up, unless it lost a node
abbrev pub UnlessLost : Busy → Type 0 → Type 0
UnlessLost (busy.Taken id) P = P
UnlessLost busy.Raced P = P
UnlessLost busy.Lost P = Unit {0}

-- The free list's head had moved since one of these loads of it: another was found, or the node
-- that was the first one isn't free any more.
abbrev pub HasMoved : List LoadEvent → LoadEvent → Type 0
HasMoved before l = (head : LoadEvent) × (Contains before head × (head.word ≡ HEAD)
    × (((l.word ≡ HEAD) × (l.found ≢ head.found))
    ⊎ ((l.word ≡ node_place head.found + 1) × (l.found ≢ 2))))

-- what a load shows of why its caller gave up, after these loads
abbrev pub ShowsBusy : Busy → List LoadEvent → LoadEvent → Type 0
ShowsBusy (busy.Taken id) before l = IsOfLock id l × (l.found % 2 ≡ 1)
ShowsBusy busy.Raced before l = HasMoved before l
ShowsBusy busy.Lost before l = HasMoved before l

-- Among the loads of these steps is the one that shows why their caller gave up.
pub record FoundBusy (why : Busy) (k k' : CallerData) : Type 0 where
  pub before : List LoadEvent
  pub load : LoadEvent
  pub behind : List LoadEvent
  pub loads : k'.log.trace.loads ≡ k.log.trace.loads ++ (before ++ load ∷ behind)
  pub shows : ShowsBusy why before load
