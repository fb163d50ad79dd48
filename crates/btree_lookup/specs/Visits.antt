-- A lookup on its way: what its log keeps of the node that it visits, and what the words that it
-- loaded of the node say, where they are the node's.
use Rattle.std.specs.Prelude.{◌≡◌, ◌≢◌, ℕ, ◌+◌, ◌*◌, ◌-◌, ◌^◌, ◌<◌, ◌≤◌, ◌⊎◌, List, [], length}
use Rattle.std.specs.Prelude.{Contains, IfSome, IsSome, Option, Some, None, option_map, false}
use Rattle.reg_model.specs.Query.{member_at}
use Rattle.reg_model.specs.declared.span.Member.{Member}
use Rattle.tree_shape.specs.NodeData.{NodeData, IsInFences, entries_of}
use Rattle.tree_shape.specs.declared.node.NodeBounds.{NodeBounds}
use Rattle.word_rule.specs.declared.log.Holding.{Holding}
use Rattle.word_rule.specs.declared.log.LoadedWord.{LoadedWord}
use Rattle.word_rule.specs.declared.log.NodeSight.{NodeSight}
use Rattle.word_rule.specs.declared.log.Sights.{Sights}
use Rattle.word_rule.specs.declared.log.Terms.{Terms}
use Rattle.word_rule.specs.CallerData.{CallerData}
use Rattle.word_rule.specs.Held.{held_of}
use Rattle.word_rule.specs.NodeTells.{IsLiveNode}
use Rattle.word_rule.specs.Observations.{AreOfNode}
use Rattle.word_rule.specs.Places.{CONTENT_WORDS, TOP, node_place}
use Rattle.word_rule.specs.Spelling.{SpellsNode, node_word}
use Rattle.word_rule.specs.Sights.{loaded_word, place_of, place_under, sight_of}
use Rattle.btree_lookup.specs.Loads.{after_looks, loaded_at, loaded_of}
use Rattle.btree_lookup.specs.Ways.{AreLed, IsLed}
use Rattle.btree_lookup.specs.declared.entry.Begun.{Begun}
use Rattle.btree_lookup.specs.declared.entry.SeenEntry.{SeenEntry}
use Rattle.btree_lookup.specs.declared.visit.Visit.{Visit}

-- the address is inside a place's fences
abbrev pub HoldsAddress : NodeBounds → ℕ → Type 0
HoldsAddress place pc = (place.low ≤ pc) × (pc ≤ place.high)

-- A caller k that began a try is now k'. It made these loads alone, which lead to the node that it
-- visits; its sight of the node has the visit's version and level, and a place for the address.
-- While levels fall by one with each node, so many loads of the node leave enough for the rest.
pub record Sees (t : Terms) (pc : ℕ) (k : CallerData) (visit : Visit) (used : ℕ)
    (k' : CallerData) : Type 0 where
  pub loaded : List LoadedWord
  pub sights : Sights
  pub log : k' ≡ record k { log = after_looks loaded sights k.log }
  pub led : AreLed pc [] loaded
  pub few : length loaded + 19 * visit.level ≤ 230 + used
  pub way : IsLed pc loaded visit.node
  pub within : visit.node < t.nodes
  pub free : held_of visit.node k.log.holdings.held ≡ None
  pub version : Contains loaded (loaded_at (node_place visit.node) visit.version)
  pub sight : NodeSight
  pub found : sight_of visit.node sights.nodes ≡ Some sight
  pub same : sight.version ≡ visit.version
  pub place : NodeBounds
  pub placed : place_of sight ≡ Some place
  pub level : place.level ≡ visit.level
  pub inside : HoldsAddress place pc

-- the same where no child was loaded yet
pub record Way (t : Terms) (pc : ℕ) (k : CallerData) (visit : Visit) (k' : CallerData)
    : Type 0 where
  pub sees : Sees t pc k visit 0 k'
  pub fresh : (i : ℕ) → loaded_word (6 + 2 * i) sees.sight.words ≡ None

-- Its count was loaded, and so many separators. Those before a slot are below the address, and that
-- of the slot, if it is one of them, isn't.
pub record SeesBelow (t : Terms) (pc : ℕ) (k : CallerData) (visit : Visit)
    (count turns slot : ℕ) (k' : CallerData) : Type 0 where
  pub sees : Sees t pc k visit (1 + turns) k'
  pub counted : loaded_word 5 sees.sight.words ≡ Some count
  pub below : (i : ℕ) → i < slot → (s : ℕ) × ((loaded_word (7 + 2 * i) sees.sight.words ≡ Some s)
      × Contains sees.loaded (loaded_of visit.node (7 + 2 * i) s) × (s < pc))
  pub next : (slot ≡ turns) ⊎ ((s : ℕ) × ((loaded_word (7 + 2 * slot) sees.sight.words ≡ Some s)
      × Contains sees.loaded (loaded_of visit.node (7 + 2 * slot) s) × (pc ≤ s)))
  pub fresh : (i : ℕ) → loaded_word (6 + 2 * i) sees.sight.words ≡ None

-- its count was loaded, and no separator
abbrev pub SeesCount : Terms → ℕ → CallerData → Visit → ℕ → CallerData → Type 0
SeesCount t pc k visit count k' = SeesBelow t pc k visit count 0 0 k'

-- A node is in a caller's sight, which has the visit's version and level, this count, and a place
-- for the address: so it is held where it is locked at that version.
pub record IsInSight (pc : ℕ) (visit : Visit) (count : ℕ) (k : CallerData) : Type 0 where
  pub sight : NodeSight
  pub found : sight_of visit.node k.log.sights.nodes ≡ Some sight
  pub same : sight.version ≡ visit.version
  pub place : NodeBounds
  pub placed : place_of sight ≡ Some place
  pub level : place.level ≡ visit.level
  pub inside : HoldsAddress place pc
  pub counted : loaded_word 5 sight.words ≡ Some count

-- What is known of the lock of a node that was in sight when it was taken: the node is live with
-- its settled content, which its words spell; that has the visit's level, and its fences hold the
-- address; and the words have the count.
pub record IsLockSeen (t : Terms) (pc : ℕ) (visit : Visit) (count : ℕ) (h : Holding)
    : Type 0 where
  pub node : h.node ≡ visit.node
  pub version : h.version ≡ visit.version
  pub wide : length h.words ≡ CONTENT_WORDS
  pub spells : SpellsNode h.words h.settled
  pub clean : h.stored ≡ false
  pub marked : IsSome h.mark
  pub live : IfSome h.mark (IsLiveNode t visit.node h.settled)
  pub level : h.settled.level ≡ visit.level
  pub fences : IsInFences pc h.settled
  pub counted : node_word h.words 5 ≡ count

-- Words of the node that a sight is of: they have each word that was loaded, spell this content,
-- and where the sight has a place, the node is live there.
pub record Agrees (t : Terms) (s : NodeSight) (shape : NodeData) : Type 0 where
  pub words : List ℕ
  pub spells : SpellsNode words shape
  pub loaded_so : AreOfNode words s.words
  pub live : IfSome (place_of s) (IsLiveNode t s.node shape)

-- the child that the address leads to: where the node's version is found now, the child gets a
-- place one level down that holds the address
pub record SeesChild (t : Terms) (pc : ℕ) (k : CallerData) (visit : Visit) (count child : ℕ)
    (k' : CallerData) : Type 0 where
  pub sees : Sees t pc k visit 17 k'
  pub counted : loaded_word 5 sees.sight.words ≡ Some count
  pub other : child ≢ visit.node
  pub below : child ≢ 0
  pub way : IsLed pc sees.loaded child
  pub next : NodeBounds
  pub placed : place_under child sees.sight (place_of sees.sight) ≡ Some next
  pub level : next.level + 1 ≡ visit.level
  pub inside : HoldsAddress next pc

-- what was loaded is of no node, so that the version isn't found again
pub record SeesNone (t : Terms) (pc : ℕ) (k : CallerData) (visit : Visit)
    (k' : CallerData) : Type 0 where
  pub sees : Sees t pc k visit 17 k'
  pub never : (shape : NodeData) → Agrees t sees.sight shape → ⊥

-- Words of a leaf with this count: the entries after the first begin at or below the address, up to
-- one; and the next one doesn't, if it is among the first so many of them.
abbrev pub BeginLater : ℕ → ℕ → ℕ → ℕ → List ℕ → Type 0
BeginLater pc count turns later words =
    (node_word words 5 ≡ count)
    × ((i : ℕ) → i < later → node_word words (9 + 3 * i) ≤ pc)
    × ((later ≡ turns) ⊎ (pc < node_word words (9 + 3 * later)))

-- the count was loaded, and the bases of so many entries after the first
pub record SeesLater (t : Terms) (pc : ℕ) (k : CallerData) (visit : Visit)
    (count turns later : ℕ) (k' : CallerData) : Type 0 where
  pub sees : Sees t pc k visit (1 + turns) k'
  pub told : (words : List ℕ) → AreOfNode words sees.sight.words
      → BeginLater pc count turns later words

-- So many entries of the words of a leaf begin at or below the address, the last one at this base:
-- of its count none is left, or the next one begins above the address.
pub record AreBegun (pc : ℕ) (begun : Begun) (words : List ℕ) : Type 0 where
  pub few : begun.count ≤ node_word words 5
  pub below : (i : ℕ) → 0 < i → i < begun.count → node_word words (6 + 3 * i) ≤ pc
  pub last : (i : ℕ) → i + 1 ≡ begun.count
      → (node_word words (6 + 3 * i) ≡ begun.base) × (begun.base ≤ pc)
  pub past : (node_word words 5 ≡ begun.count) ⊎ (pc < node_word words (6 + 3 * begun.count))

-- whatever leaf has the words that were loaded: these entries begin at or below the address
pub record SeesBegun (t : Terms) (pc : ℕ) (k : CallerData) (visit : Visit) (begun : Begun)
    (k' : CallerData) : Type 0 where
  pub sees : Sees t pc k visit 11 k'
  pub told : (words : List ℕ) → AreOfNode words sees.sight.words → node_word words 5 ≤ 10
      → AreBegun pc begun words

-- the member that an entry is, where it has a span and a payload of 32 bits
abbrev pub entry_member : SeenEntry → Member
entry_member e = record {
  span = record { first = e.base; last = e.base + e.size - 1 };
  payload = e.payload;
}

abbrev pub IsEntry : SeenEntry → Type 0
IsEntry e = (1 ≤ e.size) × (e.base + e.size ≤ TOP) × (e.payload < 2 ^ 32)

-- Whatever node has the words that were loaded: it is a leaf whose fences hold the address, and
-- this is its entry that contains the address.
pub record SeesEntry (t : Terms) (pc : ℕ) (k : CallerData) (visit : Visit)
    (entry : Option SeenEntry) (k' : CallerData) : Type 0 where
  pub sees : Sees t pc k visit 13 k'
  pub found : (shape : NodeData) → Agrees t sees.sight shape
      → (member_at pc (entries_of shape) ≡ option_map entry_member entry)
      × IfSome entry IsEntry × (shape.level ≡ 0) × IsInFences pc shape
