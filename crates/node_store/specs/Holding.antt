-- The words of a node that a caller holds, read and written.
use Rattle.std.specs.Prelude.{◌≡◌, ℕ, ◌≤◌, false, List, [], ◌∷◌, IfSome, IsSomeAnd}
use Rattle.tree_shape.specs.NodeData.{NodeData}
use Rattle.word_rule.specs.declared.log.LoadEvent.{LoadEvent}
use Rattle.word_rule.specs.declared.log.Log.{Log}
use Rattle.word_rule.specs.CallerData.{CallerData}
use Rattle.word_rule.specs.Held.{held_of}
use Rattle.word_rule.specs.NodeTells.{IsLiveNode}
use Rattle.word_rule.specs.Places.{CONTENT_WORDS}
use Rattle.word_rule.specs.Spelling.{node_word, SpellsNode}
use Rattle.word_rule.specs.Steps.{after_node_store}
use Rattle.node_store.specs.declared.writing.Store.{Store}
use Rattle.version_locks.specs.Locking.{loaded}
use Rattle.node_store.specs.Sights.{after_words}
use Rattle.node_store.specs.Writing.{Write, stores}

-- two lists have the same words up to this number
abbrev pub AgreeUpto : List ℕ → List ℕ → ℕ → Type 0
AgreeUpto words others count =
    (at : ℕ) → 1 ≤ at → at ≤ count → node_word words at ≡ node_word others at

-- so many words are those that the log has of a held node
abbrev pub AreHeld : ℕ → List ℕ → ℕ → Log → Type 0
AreHeld n words count v =
    IfSome (held_of n v.holdings.held) (λ h. AgreeUpto words h.words count)

-- A held node was read: all its words were loaded, and they spell it.
abbrev pub ReadsHeld : ℕ → CallerData → CallerData → NodeData → Type 0
ReadsHeld n k k' shape = IsSomeAnd (held_of n k.log.holdings.held)
    (λ h. SpellsNode h.words shape
    × (k' ≡ record k { log = after_words n h.words CONTENT_WORDS k.log }))

-- A held node that is marked live and in which no word was stored is this one, at its place in the
-- tree.
abbrev pub IsLiveHeld : ℕ → Log → NodeData → Type 0
IsLiveHeld n v shape = IfSome (held_of n v.holdings.held)
    (λ h. h.stored ≡ false → IfSome h.mark (IsLiveNode v.terms n shape))

-- a log after stores of words of a held node, one after another
unfoldable pub after_node_stores : ℕ → List Store → Log → Log
after_node_stores n [] v = v
after_node_stores n (store ∷ more) v =
    after_node_stores n more (after_node_store n store.at store.value v)

-- the words that a log has of a held node spell this one
abbrev pub SpellsHeld : ℕ → NodeData → Log → Type 0
SpellsHeld n s v = IsSomeAnd (held_of n v.holdings.held) (λ h. SpellsNode h.words s)

-- words were loaded, and these stores were made in a held node, one after another
abbrev pub MakesStores : ℕ → List Store → CallerData → CallerData → Type 0
MakesStores n made k k' = (more : List LoadEvent)
    × (k' ≡ record k { log = loaded more (after_node_stores n made k.log) })

-- A held node was written: those of its words that differ were stored, and words were loaded.
abbrev pub StoresHeld : ℕ → NodeData → CallerData → CallerData → Type 0
StoresHeld n s k k' = IsSomeAnd (held_of n k.log.holdings.held)
    (λ h. MakesStores n (stores s h.words) k k')

-- these stores are the fewest that write it, in their order
abbrev pub WritesInOrder : ℕ → NodeData → Log → Type 0
WritesInOrder n s v =
    IsSomeAnd (held_of n v.holdings.held) (λ h. Write s h.words (stores s h.words))
