-- What a caller shows, by the leaves that it holds, when it asks for the refusal of an update of
-- the tree.
use Rattle.std.specs.Prelude.{◌≡◌, ℕ, ◌+◌, ◌≤◌, ◌⊎◌, false, IsTrue, IsSome, IsNone, List, [], ◌∷◌}
use Rattle.std.specs.Prelude.{◌++◌, length, flat_map, max, Contains}
use Rattle.std.specs.List.{AllByRecursion}
use Rattle.reg_model.specs.History.{state_after}
use Rattle.reg_model.specs.Receipt.{WasFilled, IsRight}
use Rattle.reg_model.specs.State.{IsFree, IsLowestOverlap, at_base, at_span}
use Rattle.reg_model.specs.declared.span.Member.{Member}
use Rattle.reg_model.specs.declared.answer.Inserted.TheVariants as inserted
use Rattle.reg_model.specs.declared.answer.Removed.TheVariants as removed
use Rattle.reg_model.specs.declared.answer.Replaced.TheVariants as replaced
use Rattle.reg_model.specs.declared.answer.Receipt.{Receipt}
use Rattle.reg_model.specs.declared.answer.Receipt.TheVariants as receipt
use Rattle.reg_model.specs.declared.answer.Update.{Update}
use Rattle.reg_model.specs.declared.answer.Update.TheVariants as update
use Rattle.tree_shape.specs.NodeData.{IsInFences, entries_of}
use Rattle.tree_laws.specs.Numbers.{is_among}
use Rattle.tree_laws.specs.Trees.{Contents}
use Rattle.word_rule.specs.declared.log.Ask.{Ask}
use Rattle.word_rule.specs.declared.log.Ask.TheVariants as ask
use Rattle.word_rule.specs.declared.log.Holding.{Holding}
use Rattle.word_rule.specs.declared.log.LoadEvent.{LoadEvent}
use Rattle.word_rule.specs.declared.log.Log.{Log}
use Rattle.word_rule.specs.declared.log.Terms.{Terms}
use Rattle.word_rule.specs.Places.{HEAD, lower, node_place}
use Rattle.word_rule.specs.Held.{marked_in, settled_in}
use Rattle.word_rule.specs.Callers.{IsAlone, start}
use Rattle.word_rule.specs.Observations.{FoundHighest, IsFullCount, last_moment}

-- the address lies in the fences of one of the leaves
abbrev pub IsInOne : Contents → List ℕ → ℕ → Type 0
IsInOne f [] pc = ⊥
IsInOne f (leaf ∷ leaves) pc = IsInFences pc (f leaf) ⊎ IsInOne f leaves pc

-- Leaves that are held and marked live, whose fences together contain the addresses from the first
-- to the last one: a leaf alone, or one with the leaf on its right.
pub record HoldsLeaves (held : List Holding) (leaves : List ℕ) (first last : ℕ) : Type 0 where
  pub live : AllByRecursion
      (λ leaf. IsTrue (marked_in held leaf) × ((settled_in held leaf).level ≡ 0)) leaves
  pub contain : (pc : ℕ) → first ≤ pc → pc ≤ last → IsInOne (settled_in held) leaves pc

-- what leaves have settled: nobody else changes it while they are held
abbrev pub entries_in_leaves : Contents → List ℕ → List Member
entries_in_leaves f leaves = flat_map (λ leaf. entries_of (f leaf)) leaves

-- The other member is the least that overlaps, as held leaves show that contain the span up to it.
pub record ShowsOverlap (m other : Member) (v : Log) : Type 0 where
  pub leaves : List ℕ
  pub held : HoldsLeaves v.holdings.held leaves m.span.first (max m.span.first other.span.first)
  pub lowest : IsLowestOverlap m.span (entries_in_leaves (settled_in v.holdings.held) leaves) other

-- No member begins at the base, as a held leaf shows whose fences contain it.
pub record ShowsNone (base : ℕ) (v : Log) : Type 0 where
  pub leaves : List ℕ
  pub held : HoldsLeaves v.holdings.held leaves base base
  pub none : IsNone (at_base base (entries_in_leaves (settled_in v.holdings.held) leaves))

-- No member has the whole span of this one, as a held leaf shows whose fences contain its base.
pub record ShowsNoSpan (m : Member) (v : Log) : Type 0 where
  pub leaves : List ℕ
  pub held : HoldsLeaves v.holdings.held leaves m.span.first m.span.first
  pub none : IsNone (at_span m.span (entries_in_leaves (settled_in v.holdings.held) leaves))

-- a load of the count of a node that was held live, and whose fences contain the address
abbrev pub IsCountAt : ℕ → LoadEvent → Type 0
IsCountAt pc l = (h : Holding) × (Contains l.held h
    × (l.word ≡ node_place h.node + 5) × IsSome h.mark × IsInFences pc h.settled)

-- A load of 0 from the free head, with no node out. It may be one where the full node is the root,
-- which needs two.
abbrev pub FoundNoneFree : ℕ → LoadEvent → Type 0
FoundNoneFree full l =
    (l.word ≡ HEAD) × (l.found ≡ 0) × ((l.out ≡ []) ⊎ ((length l.out ≡ 1) × (full ≡ 0)))

-- The loads by which there is no room for a member that begins at the base, with no receipt since:
-- a full count of a held live node on the way there, which is the last count of such a node and in
-- which nothing was stored afterwards; and then that no node is free, or that the root can't rise.
pub record HadNoRoom (base receipts : ℕ) (loads : List LoadEvent) : Type 0 where
  pub before : List LoadEvent
  pub count : LoadEvent
  pub between : List LoadEvent
  pub cause : LoadEvent
  pub behind : List LoadEvent
  pub in_order : loads ≡ before ++ (count ∷ (between ++ (cause ∷ behind)))
  pub since : count.receipts ≡ receipts
  pub node : Holding
  pub held : Contains count.held node
  pub full : IsFullCount count node
  pub on_way : IsInFences base node.settled
  pub last : AllByRecursion (λ l. ¬ IsCountAt base l) between
  pub stores : List ℕ
  pub stored : cause.stores ≡ count.stores ++ stores
  pub unstored : is_among stores node.node ≡ false
  pub still : cause.receipts ≡ receipts
  pub shut : FoundNoneFree node.node cause ⊎ FoundHighest cause

-- No member overlaps, as held leaves show that contain the span, and there was no room.
pub record ShowsFull (m : Member) (v : Log) : Type 0 where
  pub leaves : List ℕ
  pub held : HoldsLeaves v.holdings.held leaves m.span.first m.span.last
  pub free : IsFree m.span (entries_in_leaves (settled_in v.holdings.held) leaves)
  pub no_room : HadNoRoom m.span.first (length v.receipts.own) v.trace.loads

-- So many callers were ever made, the first one included, as far as a log knows: no fewer than
-- itself and those that it made, directly or through others; and where it is alone, no more.
pub record WereMade (v : Log) (callers : ℕ) : Type 0 where
  pub least : v.made + 1 ≤ callers
  pub alone : IsAlone v.lineage → callers ≡ v.made + 1

-- Where the receipt is a Full, as many members were registered as the nodes and the callers that
-- were ever made tell, in what is seen now: at some moment since the last receipt of its caller's
-- log, and since that was split off.
abbrev pub WasFilledSince : Log → Terms → List Update → Receipt → Type 0
WasFilledSince v t past r = (callers : ℕ) × (WereMade v callers
    × WasFilled (start t) past t.nodes callers (last_moment v.receipts.since v.receipts.own) r)

-- One receipt more, which is right in the state after all that is now seen.
pub record Appends (r : Receipt) (v w : Log) : Type 0 where
  pub own : w.receipts.own ≡ v.receipts.own ++ r ∷ []
  pub right : IsRight (state_after (start w.terms) w.past) r
  pub filled : WasFilledSince v w.terms w.past r

-- Which receipt a load of the clock appends that is asked for the refusal of an update of the tree:
-- the one that the held leaves show, with the clock's number of updates as its stamp.
abbrev pub AppendsRefusal : Ask → ℕ → Log → Log → Type 0
AppendsRefusal (ask.Refused (update.Register m)) found v w =
    ((other : Member) → ShowsOverlap m other v
    → Appends (receipt.Register m (inserted.Overlap other (lower found))) v w)
    × (ShowsFull m v → Appends (receipt.Register m (inserted.Full (lower found))) v w)
AppendsRefusal (ask.Refused (update.Deregister base)) found v w =
    ShowsNone base v → Appends (receipt.Deregister base (removed.NotFound (lower found))) v w
AppendsRefusal (ask.Refused (update.Replace m)) found v w =
    ShowsNoSpan m v → Appends (receipt.Replace m (replaced.NotFound (lower found))) v w
AppendsRefusal _ found v w = Unit {0}
