-- What holds of what a log has loaded: its sights of nodes, and the counts that it found full.
use Rattle.std.specs.Prelude.{◌≡◌, ℕ, ◌+◌, ◌-◌, ◌*◌, ◌<◌, ◌≤◌, ◌%◌, ◌⊎◌, ◌↔◌, false, IsTrue, List}
use Rattle.std.specs.Prelude.{[], ◌∷◌, length, max, IfSome, IsSome, Contains}
use Rattle.std.specs.List.{AllByRecursion}
use Rattle.reg_model.specs.History.{state_at}
use Rattle.reg_model.specs.Query.{member_at}
use Rattle.reg_model.specs.Receipt.{moment}
use Rattle.reg_model.specs.declared.answer.Update.{Update}
use Rattle.reg_model.specs.declared.answer.Receipt.{Receipt}
use Rattle.reg_model.specs.declared.span.Member.{Member}
use Rattle.tree_shape.specs.NodeData.{NodeData, Body, Link, Pairs, Entries, entries_of}
use Rattle.tree_shape.specs.NodeData.{IsInFences}
use Rattle.tree_shape.specs.declared.limits.TheConstants.{PAIRS, ENTRIES, HIGHEST_LEVEL}
use Rattle.word_rule.specs.declared.log.Terms.{Terms}
use Rattle.word_rule.specs.declared.log.Holding.{Holding}
use Rattle.word_rule.specs.declared.log.LoadEvent.{LoadEvent}
use Rattle.word_rule.specs.declared.log.LoadedWord.{LoadedWord}
use Rattle.word_rule.specs.declared.log.NodeSight.{NodeSight}
use Rattle.word_rule.specs.declared.log.Log.{Log}
use Rattle.word_rule.specs.declared.log.ReceiptList.{ReceiptList}
use Rattle.word_rule.specs.Places.{HEAD, node_place}
use Rattle.word_rule.specs.SharedWords.{NodeWords, SharedWords}
use Rattle.word_rule.specs.Spelling.{node_word, SpellsNode}
use Rattle.word_rule.specs.Sights.{place_of}
use Rattle.word_rule.specs.Logs.{own_list, turns}
use Rattle.word_rule.specs.Callers.{IsLockedAt, start}
use Rattle.word_rule.specs.Nodes.{Shadow, IsPlaced}
use Rattle.word_rule.specs.Copies.{CopySightHolds}

-- A sight stands: the version is the one that was loaded, or is it with low bits set by one that
-- has stored nothing since.
abbrev pub Stands : (ℕ → ℕ) → Shadow → NodeSight → Type 0
Stands versions shadow s =
    (versions s.node ≡ s.version)
    ⊎ (IsLockedAt s.version (versions s.node) × (shadow.stored s.node ≡ false))

-- the words of a sight are among these of its node
abbrev pub AreOfNode : List ℕ → List LoadedWord → Type 0
AreOfNode words loaded = AllByRecursion (λ w. node_word words w.at ≡ w.value) loaded

-- The entries are the members inside the fences of the content, and an address inside the fences is
-- found among the entries as it is among the members.
abbrev pub AreInside : List Member → NodeData → Type 0
AreInside members s =
    ((x : Member) → Contains (entries_of s) x ↔ (Contains members x × (s.low ≤ x.span.first)
    × (x.span.last ≤ s.high)))
    × ((pc : ℕ) → IsInFences pc s → member_at pc (entries_of s) ≡ member_at pc members)

-- A version that is gone never comes back. While a sight stands its words are as they were loaded;
-- where it is marked, its node is live, at that place; and where the clock was loaded and the node
-- is a live leaf, its entries are the registered members of then inside its fences.
pub record SightHolds (t : Terms) (words : NodeWords) (history : List Update) (shadow : Shadow)
    (s : NodeSight) : Type 0 where
  pub within : s.node < t.nodes
  pub even : s.version % 4 ≡ 0
  pub later : s.version ≤ words.versions s.node
  pub places : AllByRecursion (λ w. (1 ≤ w.at) × (w.at ≤ 35)) s.words
  pub loaded : Stands words.versions shadow s → AreOfNode (words.contents s.node) s.words
  pub marked : Stands words.versions shadow s
      → IfSome (place_of s) (λ f. IsTrue (shadow.live s.node) × IsPlaced (shadow.settled s.node) f)
  pub clock : Stands words.versions shadow s → IfSome s.clock (λ k. (k ≤ length history)
      × (IsTrue (shadow.live s.node) → (shadow.settled s.node).level ≡ 0
      → AreInside (state_at (start t) history k).registered (shadow.settled s.node)))

-- the last stamp or number of a list, or where it begins
abbrev pub last_moment : ℕ → List Receipt → ℕ
last_moment since [] = since
last_moment since (r ∷ receipts) = last_moment (max since (moment r)) receipts

-- at some moment of the history, not before the last of these receipts and not before their list
-- begins, so many members were registered
abbrev pub HadMembers : Terms → List Update → ReceiptList → ℕ → Type 0
HadMembers t history receipts least =
    (j : ℕ) × ((last_moment receipts.since receipts.list ≤ j) × (j ≤ length history)
    × (least ≤ length (state_at (start t) history j).registered))

-- the count of a full node
abbrev pub IsFullBody : ℕ → Body → Type 0
IsFullBody found (Pairs pairs) = found ≡ PAIRS
IsFullBody found (Entries entries) = found ≡ ENTRIES
IsFullBody found (Link next) = ⊥

-- A load of a full node's count by one that held it live, whose words spelled its settled content.
abbrev pub IsFullCount : LoadEvent → Holding → Type 0
IsFullCount l h = (l.word ≡ node_place h.node + 5) × IsSome h.mark × SpellsNode h.words h.settled
    × IsFullBody l.found h.settled.body

-- a load of the root's level, settled and the greatest that it may have
abbrev pub FoundHighest : LoadEvent → Type 0
FoundHighest l = (l.word ≡ node_place 0 + 2) × (l.found ≡ HIGHEST_LEVEL)
    × ((root : Holding) × (Contains l.held root × (root.node ≡ 0)
    × SpellsNode root.words root.settled × (root.settled.level ≡ HIGHEST_LEVEL)))

-- What a load tells of fullness while the receipts are those with which it was made. After a full
-- node's count ten members were registered; after a free head of 0, twice as many as nodes that no
-- caller can have out. No root is that high: its tree would have more nodes than there may be.
pub record WasFull (t : Terms) (history : List Update) (callers : ℕ) (receipts : ReceiptList)
    (l : LoadEvent) : Type 0 where
  pub count : l.receipts ≡ length receipts.list
      → AllByRecursion (λ h. IsFullCount l h → HadMembers t history receipts 10) l.held
  pub head : l.receipts ≡ length receipts.list → l.word ≡ HEAD → l.found ≡ 0
      → 2 ≤ t.nodes - 4 * callers → HadMembers t history receipts (2 * (t.nodes - 4 * callers))
  pub highest : ¬ FoundHighest l

-- What holds of one log's sights and loads, where so many callers were ever made.
pub record ObservationsHold (t : Terms) (m : SharedWords) (history : List Update) (callers : ℕ)
    (shadow : Shadow) (v : Log) : Type 0 where
  pub sights : AllByRecursion (SightHolds t m.nodes history shadow) v.sights.nodes
  pub copies : IfSome v.sights.copies (CopySightHolds t m.clock m.copies)
  pub full : AllByRecursion (WasFull t history callers (own_list v.receipts)) v.trace.loads
  -- no load was made after more turns or receipts than there are
  pub earlier : AllByRecursion
      (λ l. (l.turns ≤ turns v.trace) × (l.receipts ≤ length v.receipts.own)) v.trace.loads
