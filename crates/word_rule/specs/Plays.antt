-- What each step tells its caller.
use Rattle.std.specs.Prelude.{◌≡◌, ℕ, ◌%◌, ◌<◌, ◌^◌, ◌==◌, ◌≤◌, ◌+◌, List, length, MatchBool}
use Rattle.std.specs.Prelude.{IfSome, false}
use mathlib.Core.List.{IsPrefix}
use Rattle.atomic_table.specs.Table.{Me, Step}
use Rattle.reg_model.specs.declared.answer.Update.{Update}
use Rattle.tree_shape.specs.NodeData.{NodeData}
use Rattle.word_rule.specs.declared.log.Log.{Log}
use Rattle.word_rule.specs.declared.log.LoaderHolding.{LoaderHolding}
use Rattle.word_rule.specs.declared.log.Ask.{Ask}
use Rattle.word_rule.specs.Places.{ALLOWANCE, CREDIT, lower, node_place}
use Rattle.word_rule.specs.Shares.{WHOLE}
use Rattle.word_rule.specs.Sights.{after_node_begin, after_node_version, after_node_load}
use Rattle.word_rule.specs.Sights.{after_copy_load}
use Rattle.word_rule.specs.Steps.{after_node_lock, after_head_load, after_copy_store, AfterPublish}
use Rattle.word_rule.specs.Steps.{IsHeldWord, after_pop, after_push, after_seen_lock}
use Rattle.word_rule.specs.Commits.{AfterCommit}
use Rattle.word_rule.specs.Steps.{after_node_release, after_node_release_same, after_node_store}
use Rattle.word_rule.specs.declared.log.Terms.{Terms}
use Rattle.word_rule.specs.Clock.{AfterClock}
use Rattle.word_rule.specs.TreeRefusals.{AppendsRefusal}
use Rattle.word_rule.specs.Held.{held_of}
use Rattle.word_rule.specs.NodeTells.{AloneTells, HeldTells, HolderTells, IsSeenNode}
use Rattle.word_rule.specs.NodeTells.{IsTakenNode, KnowsTree, OutTells, SightTells}
use Rattle.word_rule.specs.Logs.{is_nameless, reader_log, IsTaken, after_load, after_loader_lock}
use Rattle.word_rule.specs.Logs.{after_loader_release, after_loader_release_same, after_write}
use Rattle.word_rule.specs.Callers.{IsLockedAt, IsAlone, IsWhole}

abbrev pub Seated : Type 0
Seated = Me (Unit {0}) Log

abbrev pub TableStep : Type 0
TableStep = Step (Unit {0})

-- the word found is the loader's lock's, locked, where the caller holds it
abbrev pub WasLocked : Seated → ℕ → Type 0
WasLocked me found = IfSome me.0.loader (λ h. IsLockedAt h.version found)

-- A load of the loader's version of which the log says nothing.
abbrev pub peeks : TableStep → Seated → ℕ → Seated → Type 0
peeks st me found me' = (me' ≡ me) × WasLocked me found × (found < 2 ^ 63)

-- a load of the loader's version
abbrev pub looks : TableStep → Seated → ℕ → Seated → Type 0
looks st me found me' = (me' ≡ (after_load st.word found me.0, me.1)) × WasLocked me found

-- an exchange at the loader's lock for one with bit 0: the lock is taken, or another word was found
abbrev pub locks : TableStep → Seated → ℕ → Seated → Type 0
locks st me found me' = MatchBool (found == st.first)
    ((st.first % 4 ≡ 0) × (st.first < 2 ^ 63)
    × ((h : LoaderHolding)
    × (IsTaken me.0.terms st.first h × (me' ≡ (after_loader_lock h me.0, me.1)))))
    (me' ≡ (after_load st.word found me.0, me.1))

-- bit 0 of the loader's lock was set: the lock is taken at the version found, or was taken before
abbrev pub grabs : TableStep → Seated → ℕ → Seated → Type 0
grabs st me found me' = MatchBool (found % 2 == 0)
    ((found % 4 ≡ 0) × (found < 2 ^ 63)
    × ((h : LoaderHolding)
    × (IsTaken me.0.terms found h × (me' ≡ (after_loader_lock h me.0, me.1)))))
    (me' ≡ (after_load st.word found me.0, me.1))

-- an exchange at the loader's lock for one with bit 1
abbrev pub marks : TableStep → Seated → ℕ → Seated → Type 0
marks st me found me' =
    MatchBool (found == st.first) (me' ≡ (after_write me.0, me.1)) (me'
    ≡ (after_load st.word found me.0, me.1))

abbrev pub releases : TableStep → Seated → ℕ → Seated → Type 0
releases st me found me' = (me' ≡ (after_loader_release me.0, me.1)) × WasLocked me found

abbrev pub releases_same : TableStep → Seated → ℕ → Seated → Type 0
releases_same st me found me' = (me' ≡ (after_loader_release_same me.0, me.1)) × WasLocked me found

-- What a caller into which another was joined is told by a load of the clock: how many updates it
-- may still make beside those that it has seen, how many releases, and how large its share may be;
-- where it is alone, that its log has all that was ever done; and that what it has seen begins with
-- what it heard.
abbrev pub confirms : TableStep → Seated → ℕ → Seated → Type 0
confirms st me found me' =
    (me' ≡ me) × (length me.0.past + me.0.budget.allowance ≤ ALLOWANCE)
    × (me.0.budget.credit ≤ CREDIT) × (me.0.lineage.share ≤ WHOLE)
    × (is_nameless me.0.role ≡ false → IsAlone me.0.lineage → IsWhole me.0)
    × IsPrefix me.0.receipts.heard me.0.past

-- a word of a copy was loaded
abbrev pub loads_copy : TableStep → Seated → ℕ → Seated → Type 0
loads_copy st me found me' =
    (me' ≡ (after_copy_load st.word found me.0, me.1))
    × IfSome me.0.loader (IsHeldWord me.0.terms st.word found)

-- the clock was loaded
abbrev pub loads_clock : Terms → Ask → TableStep → Seated → ℕ → Seated → Type 0
loads_clock t ask st me found me' =
    AfterClock t ask found me.0 me'.0 × (me'.1 ≡ me.1) × AppendsRefusal ask found me.0 me'.0

-- a word of a node was loaded
abbrev pub loads_node : ℕ → ℕ → TableStep → Seated → ℕ → Seated → Type 0
loads_node n at st me found me' =
    (me' ≡ (after_node_load n at found me.0, me.1)) × HeldTells n at found me.0
    × HolderTells n me.0 × OutTells n me.0 × KnowsTree me.0.holdings

-- the word found is a node's version, locked, where the caller holds it
abbrev pub NodeWasLocked : ℕ → Seated → ℕ → Type 0
NodeWasLocked n me found =
    IfSome (held_of n me.0.holdings.held) (λ h. IsLockedAt h.version found)

-- a load of a node's version of which the log says nothing
abbrev pub peeks_node : ℕ → TableStep → Seated → ℕ → Seated → Type 0
peeks_node n st me found me' = (me' ≡ me) × NodeWasLocked n me found × (found < 2 ^ 63)

-- a node's version was loaded
abbrev pub loads_version : Terms → Ask → ℕ → TableStep → Seated → ℕ → Seated → Type 0
loads_version t ask n st me found me' =
    (me' ≡ (after_node_version ask n found me.0, me.1)) × (me.0.terms ≡ t)
    × SightTells n found me.0 × NodeWasLocked n me found × AloneTells n found me.0

-- a sight of a node was begun anew
abbrev pub begins_sight : ℕ → TableStep → Seated → ℕ → Seated → Type 0
begins_sight n st me found me' =
    (me' ≡ (after_node_begin n found me.0, me.1)) × NodeWasLocked n me found
    × AloneTells n found me.0

-- a node was taken at a version
abbrev pub TakesNode : ℕ → ℕ → Seated → Seated → Type 0
TakesNode n version me me' =
    (version % 4 ≡ 0) × (version < 2 ^ 63)
    × ((settled : NodeData) × (words : List ℕ)
    × (IsTakenNode n me.0 words settled
    × (me' ≡ (after_node_lock n version settled words me.0, me.1))))

-- an exchange at a node's version word for one with bit 0: the node is held, or another word was
-- found
abbrev pub locks_node : ℕ → TableStep → Seated → ℕ → Seated → Type 0
locks_node n st me found me' =
    MatchBool (found == st.first) (TakesNode n st.first me me') (me'
    ≡ (after_load (node_place n) found me.0, me.1))

-- a node was taken by sight, at the version seen
abbrev pub TakesSeen : ℕ → ℕ → Seated → Seated → Type 0
TakesSeen n version me me' =
    (version % 4 ≡ 0) × (version < 2 ^ 63)
    × ((settled : NodeData) × (words : List ℕ)
    × (IsSeenNode n version me.0 words settled
    × (me' ≡ (after_seen_lock n version settled words me.0, me.1))))

-- the same exchange, by which a sight may mark the node
abbrev pub locks_seen : ℕ → TableStep → Seated → ℕ → Seated → Type 0
locks_seen n st me found me' =
    MatchBool (found == st.first) (TakesSeen n st.first me me') (me'
    ≡ (after_load (node_place n) found me.0, me.1))

-- bit 0 of a node's version word was set: the node is held at the version found, or was taken
-- before
abbrev pub grabs_node : ℕ → TableStep → Seated → ℕ → Seated → Type 0
grabs_node n st me found me' =
    MatchBool (found % 2 == 0) (TakesNode n found me me') (me'
    ≡ (after_load (node_place n) found me.0, me.1))

-- a node was let go with the version at which it was locked
abbrev pub releases_same_node : ℕ → TableStep → Seated → ℕ → Seated → Type 0
releases_same_node n st me found me' =
    (me' ≡ (after_node_release_same n me.0, me.1)) × NodeWasLocked n me found

-- a word of a held node was stored
abbrev pub stores_node : ℕ → ℕ → TableStep → Seated → ℕ → Seated → Type 0
stores_node n at st me found me' =
    (me' ≡ (after_node_store n at st.first me.0, me.1)) × OutTells n me.0

-- the head was loaded: it is a node
abbrev pub loads_head : Terms → TableStep → Seated → ℕ → Seated → Type 0
loads_head t st me found me' =
    (me' ≡ (after_head_load found me.0, me.1)) × (me.0.terms ≡ t) × (found < t.nodes)
    × (t.nodes ≤ 16384)

-- an exchange at the head was refused, which loads it
abbrev pub FindsHead : Seated → ℕ → Seated → Type 0
FindsHead me found me' = (me' ≡ (after_head_load found me.0, me.1)) × (found < me.0.terms.nodes)
    × (me.0.terms.nodes ≤ 16384)

-- an exchange at the head for the next node: the first one is taken off, or another head was found
abbrev pub pops : TableStep → Seated → ℕ → Seated → Type 0
pops st me found me' =
    MatchBool (found == st.first) (me' ≡ (after_pop st.first me.0, me.1)) (FindsHead me found me')

-- an exchange at the head for a node that is linked to it: the node is put there, or another head
-- was found
abbrev pub pushes : TableStep → Seated → ℕ → Seated → Type 0
pushes st me found me' =
    MatchBool (found == st.first) (me' ≡ (after_push st.second me.0, me.1)) (FindsHead me found me')

-- a word of the copy that is not active was stored
abbrev pub stores_copy : TableStep → Seated → ℕ → Seated → Type 0
stores_copy st me found me' = me' ≡ (after_copy_store st.word st.first me.0, me.1)

-- an update of the loader was published
abbrev pub publishes : Update → TableStep → Seated → ℕ → Seated → Type 0
publishes u st me found me' = AfterPublish u found me.0 me'.0 × (me'.1 ≡ me.1)

-- an update of the tree was committed
abbrev pub commits : Update → TableStep → Seated → ℕ → Seated → Type 0
commits u st me found me' = AfterCommit u found me.0 me'.0 × (me'.1 ≡ me.1)

-- a node was let go with the next version, and contents settled
abbrev pub releases_node : ℕ → TableStep → Seated → ℕ → Seated → Type 0
releases_node n st me found me' =
    (me' ≡ (after_node_release n me.0, me.1)) × NodeWasLocked n me found

-- a reader came by a load of the clock: it has seen all that was accepted
abbrev pub enters : TableStep → Seated → ℕ → Seated → Type 0
enters st me found me' =
    (past : List Update) × ((lower found ≡ length past) × (me'.0 ≡ reader_log me.0.terms past))
