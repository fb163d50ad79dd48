-- Loads, refused exchanges and marks one after another.
use Rattle.std.proofs.Common.{◌≡◌, ℕ, ◌+◌, List, [], ◌∷◌, ◌++◌, Some, Ok, Err, Result, IfOk, IfErr, ◌≢◌, sym, refl, ap, subst, ◌∙◌, append-nil, append_assoc, add_assoc, add-zero, arith, Bool, true, false, not, ◌==◌, ◌%◌, eq-eqb, if◌then◌else◌}
use Rattle.std.specs.List.{AllByRecursion}
use Rattle.word_rule.specs.CallerData.{CallerData}
use Rattle.word_rule.specs.Logs.{IsTaken, load_of, after_load, after_loader_lock, after_write}
use Rattle.word_rule.specs.NodeTells.{IsTakenNode}
use Rattle.word_rule.specs.Sights.{after_node_begin, sight_begun, sights_after_begin, without_sight}
use Rattle.word_rule.specs.Steps.{after_node_lock}
use Rattle.word_rule.specs.VersionLocks.{IsLockTaken, lock_place}
use Rattle.word_rule.specs.declared.log.LoadEvent.{LoadEvent}
use Rattle.word_rule.specs.declared.log.LockId.{LockId}
use Rattle.word_rule.specs.declared.log.LockId.TheVariants as lock
use Rattle.word_rule.specs.declared.log.LoaderHolding.{LoaderHolding}
use Rattle.word_rule.specs.declared.log.Log.{Log}
use Rattle.word_rule.specs.declared.log.NodeSight.{NodeSight}
use Rattle.version_locks.specs.Locking.{IsOfLock, SightsAfter, tried, sighted, Tries, Locks}

all_append : (id : LockId) (xs ys : List LoadEvent) → AllByRecursion (IsOfLock id) xs → AllByRecursion (IsOfLock id) ys → AllByRecursion (IsOfLock id) (xs ++ ys)
all_append id [] ys h i = i
all_append id (x ∷ xs) ys h i = (h.0, all_append id xs ys h.1 i)

-- a log with these loads, so many writes and these sights of nodes
abbrev counted : List LoadEvent → ℕ → List NodeSight → Log → Log
counted loads writes nodes v = record v { trace = record v.trace { loads = loads; writes = writes }; sights = record v.sights { nodes = nodes } }

-- a caller after loads and marks
abbrev pub tried_by : CallerData → List LoadEvent → ℕ → List NodeSight → CallerData
tried_by k more marks nodes = record k { log = sighted nodes (tried more marks k.log) }

-- the sights of nodes as they were
same_sights : (id : LockId) (nodes : List NodeSight) → SightsAfter id nodes nodes
same_sights lock.Loader nodes = refl
same_sights (lock.Node n) nodes = refl

both_sights : (id : LockId) (a b c : List NodeSight) → SightsAfter id a b → SightsAfter id b c → SightsAfter id a c
both_sights lock.Loader a b c p q = q ∙ p
both_sights (lock.Node n) a b c p q = q ∙ p

pub tries_none : (id : LockId) (k : CallerData) → Tries id k k
tries_none id k = ([], 0, k.log.sights.nodes, (tt, same_sights id k.log.sights.nodes, (λ i. record k { log = counted (sym (append-nil k.log.trace.loads) i) (sym (add-zero k.log.trace.writes) i) k.log.sights.nodes k.log })))

pub tries_both : (id : LockId) (a b c : CallerData) → Tries id a b → Tries id b c → Tries id a c
tries_both id a b c p q =
    let loads : tried_by (tried_by a p.0 p.1 p.2) q.0 q.1 q.2 ≡ tried_by a (p.0 ++ q.0) (p.1 + q.1) q.2 = (λ i. record a { log = counted (append_assoc a.log.trace.loads p.0 q.0 i) (add_assoc a.log.trace.writes p.1 q.1 i) q.2 a.log }) in
    (p.0 ++ q.0, p.1 + q.1, q.2, (all_append id p.0 q.0 p.3.0 q.3.0, both_sights id a.log.sights.nodes p.2 q.2 p.3.1 (subst (λ (k : CallerData). SightsAfter id k.log.sights.nodes q.2) p.3.2 q.3.1), q.3.2 ∙ (ap (λ k. tried_by k q.0 q.1 q.2) p.3.2 ∙ loads)))

pub tries_load : (id : LockId) (a b c : CallerData) (found : ℕ) → Tries id a b → c ≡ record b { log = after_load (lock_place id) found b.log } → Tries id a c
tries_load id a b c found p e = tries_both id a b c p
    (load_of b.log (lock_place id) found ∷ [], 0, b.log.sights.nodes, ((refl, tt), same_sights id b.log.sights.nodes, e ∙ (λ i. record b { log = counted (b.log.trace.loads ++ load_of b.log (lock_place id) found ∷ []) (sym (add-zero b.log.trace.writes) i) b.log.sights.nodes b.log })))

without_twice : (n : ℕ) (sights : List NodeSight) → without_sight n (without_sight n sights) ≡ without_sight n sights
without_twice n [] = refl
without_twice n (s ∷ sights) = go (without_twice n sights) (not (s.node == n)) refl
  where
    go : without_sight n (without_sight n sights) ≡ without_sight n sights → (b : Bool) → not (s.node == n) ≡ b → without_sight n (if b then s ∷ without_sight n sights else without_sight n sights) ≡ (if b then s ∷ without_sight n sights else without_sight n sights)
    go rest true e = rw e (ap (λ after. s ∷ after) rest)
    go rest false e = rest

-- a sight of a node that begins lets those of the others be
others_stay : (n found : ℕ) (sights : List NodeSight) → without_sight n (sights_after_begin n found sights) ≡ without_sight n sights
others_stay n found sights = go (found % 2 == 0)
  where
    go : (b : Bool) → without_sight n (if b then (sight_begun n found ∷ without_sight n sights) else sights) ≡ without_sight n sights
    go true = rw (eq-eqb n n refl) (without_twice n sights)
    go false = refl

-- the version of a node was loaded
pub tries_begin : (n : ℕ) (a b : CallerData) (found : ℕ) → b ≡ record a { log = after_node_begin n found a.log } → Tries (lock.Node n) a b
tries_begin n a b found e =
    let v : Log = a.log in
    let l : LoadEvent = load_of v (lock_place (lock.Node n)) found in
    let nodes : List NodeSight = sights_after_begin n found v.sights.nodes in
    (l ∷ [], 0, nodes, ((refl, tt), others_stay n found v.sights.nodes, e ∙ (λ i. record a { log = counted (v.trace.loads ++ l ∷ []) (sym (add-zero v.trace.writes) i) nodes v })))

pub tries_table : (id : LockId) (a b : CallerData) → Tries id a b → b.table ≡ a.table
tries_table id a b p = ap (λ k. k.table) p.3.2

pub takes : (id : LockId) (a b c : CallerData) (version : ℕ) → Tries id a b → IsLockTaken id version b c → Locks id a c
takes lock.Loader a b c version p taken =
    let h : LoaderHolding = taken.0 in
    let step : CallerData → CallerData = λ k. record k { log = after_loader_lock h k.log } in
    let mine : IsTaken a.log.terms version h = subst (λ (k : CallerData). IsTaken k.log.terms version h) p.3.2 taken.1.0 in
    let stay : tried_by a p.0 p.1 p.2 ≡ record a { log = tried p.0 p.1 a.log } = (λ i. tried_by a p.0 p.1 (p.3.1 i)) in
    (p.0, p.1, h, (p.3.0, record { taken = refl; active = mine.active; spare = mine.spare; clean = mine.clean }, taken.1.1 ∙ ap step (p.3.2 ∙ stay)))
takes (lock.Node n) a b c version p taken =
    let step : CallerData → CallerData = λ k. record k { log = after_node_lock n version taken.0 taken.1 k.log } in
    let mine : IsTakenNode n (sighted p.2 (tried p.0 p.1 a.log)) taken.1 taken.0 = subst (λ (k : CallerData). IsTakenNode n k.log taken.1 taken.0) p.3.2 taken.2.0 in
    (p.0, p.1, p.2, version, taken.0, taken.1, ((p.3.0, p.3.1), record { within = mine.within; new = mine.new; wide = mine.wide; spells = mine.spells; live = mine.live }, taken.2.1 ∙ ap step p.3.2))

pub takes_then : (id : LockId) (a b c : CallerData) → Locks id a b → Tries id b c → Locks id a c
takes_then lock.Loader a b c p q =
    let stay : q.2 ≡ a.log.sights.nodes = q.3.1 ∙ ap (λ (k : CallerData). k.log.sights.nodes) p.3.2 in
    let both : tried_by (record a { log = after_loader_lock p.2 (tried p.0 p.1 a.log) }) q.0 q.1 q.2 ≡ record a { log = after_loader_lock p.2 (tried (p.0 ++ q.0) (p.1 + q.1) a.log) } =
    (let w : a.log.trace.writes + p.1 + 1 + q.1 ≡ a.log.trace.writes + (p.1 + q.1) + 1 = omega arith in
    (λ i. record a { log = record (counted (append_assoc a.log.trace.loads p.0 q.0 i) (w i) (stay i) a.log) { loader = Some p.2 } })) in
    (p.0 ++ q.0, p.1 + q.1, p.2, (all_append lock.Loader p.0 q.0 p.3.0 q.3.0, p.3.1, q.3.2 ∙ (ap (λ k. tried_by k q.0 q.1 q.2) p.3.2 ∙ both)))
takes_then (lock.Node n) a b c p q =
    let both : tried_by (record a { log = after_node_lock n p.3 p.4 p.5 (sighted p.2 (tried p.0 p.1 a.log)) }) q.0 q.1 q.2 ≡ record a { log = after_node_lock n p.3 p.4 p.5 (sighted q.2 (tried (p.0 ++ q.0) (p.1 + q.1) a.log)) } =
    (let w : a.log.trace.writes + p.1 + 1 + q.1 ≡ a.log.trace.writes + (p.1 + q.1) + 1 = omega arith in
    (λ i. record a { log = record (counted (append_assoc a.log.trace.loads p.0 q.0 i) (w i) q.2 a.log) { holdings = (after_node_lock n p.3 p.4 p.5 a.log).holdings } })) in
    let others = both_sights (lock.Node n) a.log.sights.nodes p.2 q.2 p.6.0.1 (subst (λ (k : CallerData). SightsAfter (lock.Node n) k.log.sights.nodes q.2) p.6.2 q.3.1) in
    (p.0 ++ q.0, p.1 + q.1, q.2, p.3, p.4, p.5, ((all_append (lock.Node n) p.0 q.0 p.6.0.0 q.3.0, others), p.6.1, q.3.2 ∙ (ap (λ k. tried_by k q.0 q.1 q.2) p.6.2 ∙ both)))

tries_mark : (id : LockId) (a b : CallerData) → b ≡ record a { log = after_write a.log } → Tries id a b
tries_mark id a b e = ([], 1, a.log.sights.nodes, (tt, same_sights id a.log.sights.nodes, e ∙ (λ i. record a { log = counted (sym (append-nil a.log.trace.loads) i) (a.log.trace.writes + 1) a.log.sights.nodes a.log })))

-- an exchange that marks, or is refused
pub tries_marked : (id : LockId) (a b : CallerData) (seen : ℕ) (r : Result (Unit {0}) ℕ) → IfOk r (λ _. b ≡ record a { log = after_write a.log })
    → IfErr r (λ found. (found ≢ seen) × (b ≡ record a { log = after_load (lock_place id) found a.log })) → Tries id a b
tries_marked id a b seen (Ok _) ok err = tries_mark id a b ok
tries_marked id a b seen (Err found) ok err = tries_load id a a b found (tries_none id a) err.1
