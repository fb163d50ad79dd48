-- Loads of a held node's words: what they leave of a caller, and what they tell of the node.
use Rattle.std.proofs.Common.{refl, ◌≡◌, ℕ, ap, ◌∙◌, ◌++◌, append_assoc, Option, Some, IsSomeAnd, sym, subst, IsSome, None, get_or, arith, []}
use Rattle.std.proofs.lemmas.Option.{same_Some, slice_get-get_or}
use Rattle.std.specs.List.{slice_get}
use Rattle.tree_shape.specs.NodeData.{NodeData, InOrder, IsInFences, IsInner, pairs_of, slot_for}
use Rattle.tree_shape.specs.declared.pair.Pair.{Pair}
use Rattle.tree_shape.proofs.Orders.{inner_order}
use Rattle.tree_shape.proofs.Slots.{slot_inside}
use Rattle.word_rule.specs.CallerData.{CallerData}
use Rattle.word_rule.specs.Sights.{after_node_load}
use Rattle.word_rule.specs.Held.{held_of}
use Rattle.word_rule.specs.Spelling.{SpellsNode, spelled}
use Rattle.word_rule.specs.declared.log.Holding.{Holding}
use Rattle.word_rule.specs.declared.log.Log.{Log}
use Rattle.word_rule.specs.declared.log.Holdings.{Holdings}
use Rattle.word_rule.specs.declared.log.Terms.{Terms}
use Rattle.node_store.specs.Outlines.{OnlyLoads}
use Rattle.version_locks.specs.Locking.{loaded}
use Rattle.node_store.proofs.Outlined.{loads_hold, known}
use Rattle.node_store.specs.Holding.{SpellsHeld, ReadsHeld}
use Rattle.node_store.specs.Sights.{after_words}
use Rattle.tree_descent.specs.Paths.{StepsOnNodes}
use Rattle.tree_descent.proofs.NodeSteps.{steps_so, steps_then}
use Rattle.tree_descent.proofs.Descents.{steps_of_load}
use Rattle.tree_descent.specs.declared.descent.Held.{Held}
use Rattle.tree_descent.specs.Stands.{StandsAt}
use Rattle.tree_descent.proofs.HeldLists.{found_head}
use Rattle.tree_descent.specs.Removing.{HoldsAlone}

-- loads are steps on nodes
pub steps_of_loads : (k k' : CallerData) → OnlyLoads k k' → StepsOnNodes k k'
steps_of_loads k k' (more, is) =
    steps_so k is refl (more, refl)

-- a load of a word, and more loads
pub steps_read : (n at found : ℕ) (k k1 k2 : CallerData) → k1 ≡ record k { log = after_node_load n at found k.log } → OnlyLoads k1 k2 → StepsOnNodes k k2 × (k2.log.holdings ≡ k.log.holdings)
steps_read n at found k k1 k2 load more = (steps_then k k1 k2 (steps_of_load n at found k k1 load) (steps_of_loads k1 k2 more), loads_hold k1 k2 more ∙ ap (λ (z : CallerData). z.log.holdings) load)

pub loads_then : (k k1 k2 : CallerData) → OnlyLoads k k1 → OnlyLoads k1 k2 → OnlyLoads k k2
loads_then k k1 k2 (first, a) (more, b) =
    (first ++ more, b ∙ ap (λ (x : CallerData). record x { log = loaded more x.log }) a ∙ ap (λ loads. record k { log = record k.log { trace = record k.log.trace { loads = loads } } }) (append_assoc k.log.trace.loads first more))

-- the words of a lock that is found
pub spells_held : (n : ℕ) (s : NodeData) (h : Holding) (v : Log) → held_of n v.holdings.held ≡ Some h → SpellsNode h.words s → SpellsHeld n s v
spells_held n s h v found spells = subst (λ (o : Option Holding). IsSomeAnd o (λ x. SpellsNode x.words s)) (sym found) spells

pub spells_same : (n : ℕ) (s shape : NodeData) (h : Holding) (v : Log) → held_of n v.holdings.held ≡ Some h → SpellsNode h.words s → SpellsHeld n shape v → s ≡ shape
spells_same n s shape h v found spells held =
    same_Some _ _ (sym spells ∙ subst (λ (o : Option Holding). IsSomeAnd o (λ x. SpellsNode x.words shape)) found held)

-- two that the words spell are one
pub spell_one : (n : ℕ) (s shape : NodeData) (v : Log) → SpellsHeld n s v → SpellsHeld n shape v → s ≡ shape
spell_one n s shape v a b = let x = known n s v a in spells_same n s shape x.lock v x.found x.spells b

pub spells_later : (n : ℕ) (s : NodeData) (v w : Log) → w.holdings ≡ v.holdings → SpellsHeld n s v → SpellsHeld n s w
spells_later n s v w same spells = subst (λ (hs : Holdings). IsSomeAnd (held_of n hs.held) (λ h. SpellsNode h.words s)) (sym same) spells

pub may_read : (n : ℕ) (s : NodeData) (v : Log) → SpellsHeld n s v → IsSomeAnd (held_of n v.holdings.held) (λ h. IsSome (spelled h.words))
may_read n s v spells =
    let x = known n s v spells in
    subst (λ (o : Option Holding). IsSomeAnd o (λ h. IsSome (spelled h.words))) (sym x.found) (subst IsSome (sym x.spells) refl)

-- a node that was read is what its words spell
pub spells_read : (n : ℕ) (k k' : CallerData) (s : NodeData) → ReadsHeld n k k' s → SpellsHeld n s k.log
spells_read n k k' s reads = go (held_of n k.log.holdings.held) reads
  where
    go : (o : Option Holding) → IsSomeAnd o (λ h. SpellsNode h.words s × (k' ≡ record k { log = after_words n h.words 35 k.log })) → IsSomeAnd o (λ h. SpellsNode h.words s)
    go None r = absurd r
    go (Some h) r = r.0

-- the lock of the node at which an insertion stands is the first
pub stands_spelled : (t : Terms) (at : Held) (v : Log) → StandsAt t at v.holdings → SpellsHeld at.node at.content v
stands_spelled t at v s = spells_held at.node at.content s.lock v (ap (held_of at.node) s.held ∙ found_head at.node s.lock s.above s.here.node) s.here.spells

-- an inner node has a pair at the slot of an address inside its fences
pub slot_pair : (s : NodeData) (pc : ℕ) → IsInner s → InOrder s → IsInFences pc s → (p : Pair) × (slice_get (pairs_of s) (slot_for pc (pairs_of s)) ≡ Some p)
slot_pair s pc inner order here =
    let inside = slot_inside pc 0 s.high (pairs_of s) (inner_order s inner order) (omega arith) here.1 in
    let d : Pair = record { child = 0; separator = 0 } in
    (get_or (pairs_of s) (slot_for pc (pairs_of s)) d, slice_get-get_or (pairs_of s) (slot_for pc (pairs_of s)) d inside)

-- a node that is held alone
pub alone_spells : (t : Terms) (at : Held) (v : Log) → HoldsAlone t at v.holdings → SpellsHeld at.node at.content v
alone_spells t at v h = spells_held at.node at.content h.lock v (ap (held_of at.node) h.held ∙ found_head at.node h.lock [] h.here.node) h.here.spells
