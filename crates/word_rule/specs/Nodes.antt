-- What holds of the nodes between any two steps: locks, settled contents, the tree and the free
-- list.
use Rattle.std.specs.Prelude.{◌≡◌, ◌≢◌, ℕ, ◌+◌, ◌<◌, ◌≤◌, ◌%◌, ◌↔◌, Bool, false, ◌==◌, IsTrue}
use Rattle.std.specs.Prelude.{nat_lt, List, [], ◌∷◌, length, Option, Some, None, IfSome, IsSome}
use Rattle.std.specs.Prelude.{Contains}
use Rattle.std.specs.List.{AllByRecursion, count_by}
use mathlib.Core.Option.{some}
use lib.ListN.{get_elem?}
use Rattle.reg_model.specs.History.{state_after}
use Rattle.reg_model.specs.declared.answer.Update.{Update}
use Rattle.reg_model.specs.declared.span.Member.{Member}
use Rattle.tree_shape.specs.declared.node.NodeBounds.{NodeBounds}
use Rattle.tree_shape.specs.NodeData.{NodeData}
use Rattle.tree_laws.specs.Trees.{Contents, HasEntry}
use Rattle.tree_laws.specs.Numbers.{times, once}
use Rattle.tree_laws.specs.Lawful.{IsLawfulTree}
use Rattle.word_rule.specs.declared.log.Terms.{Terms}
use Rattle.word_rule.specs.declared.log.Holding.{Holding}
use Rattle.word_rule.specs.declared.log.Holdings.{Holdings}
use Rattle.word_rule.specs.declared.log.Log.{Log}
use Rattle.word_rule.specs.SharedWords.{NodeWords}
use Rattle.word_rule.specs.Spelling.{node_word, SpellsNode}
use Rattle.word_rule.specs.Held.{held_of}
use Rattle.word_rule.specs.Callers.{total, IsLockedAt, start}

-- What exists in the proofs alone, beside the history: of each node its settled content, who holds
-- its lock, whether a word was stored under it, and whether it is live; and the free list.
pub record Shadow : Type 0 where
  pub settled : Contents
  pub holder : ℕ → Option ℕ
  pub stored : ℕ → Bool
  pub live : ℕ → Bool
  pub free : List ℕ

-- the content has this place in the tree
abbrev pub IsPlaced : NodeData → NodeBounds → Type 0
IsPlaced s f = (s.level ≡ f.level) × (s.low ≡ f.low) × (s.high ≡ f.high)

-- One log's lock of a node: it is the holder, the version word is its version, locked, and it has
-- the node's words, its settled content, and whether a word was stored.
pub record HoldsNode (t : Terms) (words : NodeWords) (shadow : Shadow) (id : ℕ)
    (h : Holding) : Type 0 where
  pub within : h.node < t.nodes
  pub is_holder : shadow.holder h.node ≡ Some id
  pub locked : IsLockedAt h.version (words.versions h.node)
  pub as_now : h.words ≡ words.contents h.node
  pub settled : h.settled ≡ shadow.settled h.node
  pub stored : h.stored ≡ shadow.stored h.node
  -- where nothing was stored, the words spell the settled content
  pub clean : h.stored ≡ false → SpellsNode h.words h.settled
  -- A node that is marked is live, at that place. One that is live without a mark, since its holder
  -- didn't hold its parent, spells its settled content.
  pub marked : IfSome h.mark (λ f. IsTrue (shadow.live h.node) × IsPlaced h.settled f)
  pub unmarked : h.mark ≡ None → IsTrue (shadow.live h.node) → SpellsNode h.words h.settled

-- What holds of one log's locks of nodes, and of what it has out.
pub record HoldingsHold (t : Terms) (words : NodeWords) (shadow : Shadow) (id : ℕ)
    (holdings : Holdings) : Type 0 where
  pub each : AllByRecursion (HoldsNode t words shadow id) holdings.held
  -- each node is held at most once
  pub once : (n : ℕ) → count_by (λ h. h.node == n) holdings.held ≤ 1
  pub few_out : length holdings.out ≤ 4

-- who holds a node's lock has it in its log
abbrev pub HeldBy : ℕ → List Log → Option ℕ → Type 0
HeldBy n views None = Unit {0}
HeldBy n views (Some id) =
    (v : Log) × ((get_elem? views id ≡ some v) × IsSome (held_of n v.holdings.held))

-- an unlocked node's version is a multiple of 4, and its words spell its settled content
abbrev pub IsOpen : ℕ → List ℕ → NodeData → Option ℕ → Type 0
IsOpen version words settled None = (version % 4 ≡ 0) × SpellsNode words settled
IsOpen version words settled (Some id) = Unit {0}

-- The free list by its words, from its head on: each node in it is of the kind of free nodes and
-- linked to the next one, the last one to 0.
abbrev pub IsChain : (ℕ → List ℕ) → ℕ → List ℕ → Type 0
IsChain contents head [] = head ≡ 0
IsChain contents head (n ∷ free) =
    (head ≡ n) × (n ≢ 0) × (node_word (contents n) 1 ≡ 2)
    × IsChain contents (node_word (contents n) 6) free

-- What holds of the nodes: the settled contents are a lawful tree whose entries are the registered
-- members, and each node is live, or free, or out with one caller.
pub record NodesHold (t : Terms) (words : NodeWords) (views : List Log) (history : List Update)
    (shadow : Shadow) : Type 0 where
  pub lawful : IsLawfulTree shadow.settled shadow.live
  pub entries : (x : Member)
      → HasEntry shadow.settled shadow.live x ↔ Contains (state_after (start t) history).registered
      x
  pub unlocked : (n : ℕ) → n < t.nodes
      → IsOpen (words.versions n) (words.contents n) (shadow.settled n) (shadow.holder n)
  pub holdings : (id : ℕ) (v : Log) → get_elem? views id ≡ some v
      → HoldingsHold t words shadow id v.holdings
  pub holders : (n : ℕ) → HeldBy n views (shadow.holder n)
  -- every node is exactly one of live, in the free list once, or out of one log; no number from the
  -- count of nodes on is any of them
  pub each_once : (n : ℕ)
      → once (shadow.live n) + times n shadow.free + total
      (λ v. times n v.holdings.out) views ≡ once (nat_lt n t.nodes)
  pub chain : IsChain words.contents words.head shadow.free
