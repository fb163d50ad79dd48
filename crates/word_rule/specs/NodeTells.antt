-- What steps on nodes tell.
use Rattle.std.specs.Prelude.{◌≡◌, ◌≢◌, ℕ, ◌-◌, ◌<◌, ◌≤◌, ◌%◌, false, IsTrue, List, [], length}
use Rattle.std.specs.Prelude.{IfSome, Bool, IsSome, None}
use Rattle.std.specs.List.{AllByRecursion}
use Rattle.reg_model.specs.History.{state_after}
use Rattle.reg_model.specs.declared.answer.Update.{Update}
use Rattle.tree_shape.specs.NodeData.{NodeData, frame_of}
use Rattle.tree_laws.specs.Trees.{Contents, branches}
use Rattle.tree_laws.specs.Lawful.{IsFilled, IsLawfulTree, IsOrdered}
use Rattle.tree_laws.specs.Numbers.{is_among}
use Rattle.tree_shape.specs.declared.limits.TheConstants.{HIGHEST_LEVEL}
use Rattle.tree_shape.specs.declared.node.NodeBounds.{NodeBounds}
use Rattle.word_rule.specs.declared.log.Terms.{Terms}
use Rattle.word_rule.specs.declared.log.Holding.{Holding}
use Rattle.word_rule.specs.declared.log.Holdings.{Holdings}
use Rattle.word_rule.specs.declared.log.NodeSight.{NodeSight}
use Rattle.word_rule.specs.declared.log.Log.{Log}
use Rattle.word_rule.specs.Places.{CONTENT_WORDS, node_place}
use Rattle.word_rule.specs.Spelling.{node_word, SpellsNode}
use Rattle.word_rule.specs.Held.{held_of}
use Rattle.word_rule.specs.Logs.{turns}
use Rattle.word_rule.specs.Callers.{IsAlone, start}
use Rattle.word_rule.specs.Sights.{place_at, place_of, sight_of}
use Rattle.word_rule.specs.Steps.{mark_at_lock}
use Rattle.word_rule.specs.Nodes.{IsPlaced}
use Rattle.word_rule.specs.Observations.{AreInside, AreOfNode}

-- A live node at its place: in order, filled, and its children are nodes that there are, none of
-- them the root. Each node has one place: this one, and its children those that it gives them.
pub record IsLiveNode (t : Terms) (n : ℕ) (s : NodeData) (f : NodeBounds) : Type 0 where
  pub placed : IsPlaced s f
  pub ordered : IsOrdered s
  pub filled : IsFilled n s
  pub height : n ≡ 0 → s.level ≤ HIGHEST_LEVEL
  pub places : ℕ → NodeBounds
  pub own : places n ≡ frame_of s
  pub children : AllByRecursion
      (λ b. (b.child < t.nodes) × (b.child ≢ 0) × (places b.child ≡ b.frame))
      (branches (s.level - 1) s)

-- What a sight is of: words that spell a node, and have each loaded word. Where it is marked live,
-- the node has that place in the tree; and where it is a leaf, and the clock was loaded with all
-- that is seen, its entries are the registered members of then inside its fences.
pub record IsOfNode (t : Terms) (past : List Update) (s : NodeSight) : Type 0 where
  pub words : List ℕ
  pub shape : NodeData
  pub wide : length words ≡ CONTENT_WORDS
  pub spells : SpellsNode words shape
  pub loaded_so : AreOfNode words s.words
  pub live : IfSome (place_of s) (IsLiveNode t s.node shape)
  pub entries : IfSome s.clock (λ k. k ≡ length past → IsSome (place_of s) → shape.level ≡ 0
      → AreInside (state_after (start t) past).registered shape)

-- what a version tells where the sight of its node has the same
abbrev pub SightTells : ℕ → ℕ → Log → Type 0
SightTells n found v =
    IfSome (sight_of n v.sights.nodes) (λ s. s.version ≡ found → IsOfNode v.terms v.past s)

-- What a node's version tells one that is alone. It isn't locked where the caller holds no node,
-- and it is as each load of it found it since the caller last changed anything.
abbrev pub AloneTells : ℕ → ℕ → Log → Type 0
AloneTells n found v = IsAlone v.lineage
    → (v.holdings.held ≡ [] → found % 2 ≡ 0) × AllByRecursion
    (λ l. l.word ≡ node_place n → l.turns ≡ turns v.trace → l.found ≡ found) v.trace.loads

-- a load of a word of a node that the caller holds finds the word that it knows
abbrev pub HeldTells : ℕ → ℕ → ℕ → Log → Type 0
HeldTells n at found v = IfSome (held_of n v.holdings.held) (λ h. node_word h.words at ≡ found)

-- What the log has of a held node: all its words, which spell its settled content where none was
-- stored. Where it is marked live, that content has its place in the tree.
pub record IsHeldNode (t : Terms) (h : Holding) : Type 0 where
  pub wide : length h.words ≡ CONTENT_WORDS
  pub clean : h.stored ≡ false → SpellsNode h.words h.settled
  pub live : IfSome h.mark (IsLiveNode t h.node h.settled)

-- what a load of a word of a node tells of the log where the caller holds the node
abbrev pub HolderTells : ℕ → Log → Type 0
HolderTells n v = IfSome (held_of n v.holdings.held) (IsHeldNode v.terms)

-- a node that is out isn't the root, and no lock of it is marked live
abbrev pub OutTells : ℕ → Log → Type 0
OutTells n v = IsTrue (is_among v.holdings.out n)
    → (n ≢ 0) × AllByRecursion (λ h. h.node ≡ n → h.mark ≡ None) v.holdings.held

-- What a caller knows of the tree by what it holds: there is a lawful one in which each node that
-- it holds marked live is live with its settled content, and none that it has out is.
pub record KnowsTree (holdings : Holdings) : Type 0 where
  pub contents : Contents
  pub live : ℕ → Bool
  pub lawful : IsLawfulTree contents live
  pub marked : AllByRecursion (λ h. IsSome h.mark → IsTrue (live h.node)
      × (contents h.node ≡ h.settled)) holdings.held
  pub dead : (n : ℕ) → IsTrue (is_among holdings.out n) → live n ≡ false

-- What the lock of a node tells: it wasn't held before, and its words spell its settled content.
-- Where it is marked live, it has that place in the tree.
pub record IsTakenNode (n : ℕ) (v : Log) (words : List ℕ) (settled : NodeData) : Type 0 where
  pub within : n < v.terms.nodes
  pub new : held_of n v.holdings.held ≡ None
  pub wide : length words ≡ CONTENT_WORDS
  pub spells : SpellsNode words settled
  pub live : IfSome (mark_at_lock n settled v.holdings.held) (IsLiveNode v.terms n settled)

-- What the lock of a node by sight tells beside. Where its sight has the version seen, its words
-- are those that were loaded in it; and where that sight is live, so is the node, at that place.
pub record IsSeenNode (n seen : ℕ) (v : Log) (words : List ℕ) (settled : NodeData) : Type 0 where
  pub taken : IsTakenNode n v words settled
  pub loaded : IfSome (sight_of n v.sights.nodes) (λ s. s.version ≡ seen
      → AreOfNode words s.words)
  pub live : IfSome (place_at seen (sight_of n v.sights.nodes)) (IsLiveNode v.terms n settled)
