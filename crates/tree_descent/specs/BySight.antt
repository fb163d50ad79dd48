-- The beginning of an update by sight: at which node it may begin, and what it holds then.
use Rattle.std.specs.Prelude.{ℕ, ◌==◌, if◌then◌else◌, ◌≢◌, ◌≤◌, ◌≡◌, ◌<◌}
use Rattle.tree_shape.specs.declared.limits.TheConstants.{PAIRS, ENTRIES}
use Rattle.tree_shape.specs.NodeData.{NodeData, IsInFences}
use Rattle.word_rule.specs.CallerData.{CallerData}
use Rattle.word_rule.specs.declared.log.Terms.{Terms}
use Rattle.word_rule.specs.declared.log.Holdings.{Holdings}
use Rattle.btree_lookup.specs.Visits.{IsInSight}
use Rattle.tree_descent.specs.declared.by_sight.Request.{Request}
use Rattle.tree_descent.specs.declared.by_sight.Seen.{Seen}
use Rattle.tree_descent.specs.Removing.{IsSpareAs, HoldsAlone}
use Rattle.tree_descent.specs.Stands.{HasSpace}
use Rattle.tree_descent.specs.Paths.{StepsOnNodes, HoldsNothing}
use Rattle.tree_descent.specs.declared.descent.Held.{Held}
use Rattle.tree_descent.specs.declared.by_sight.SightOutcome.{SightOutcome}
use Rattle.tree_descent.specs.declared.by_sight.Request.TheVariants as request
use Rattle.tree_descent.specs.declared.by_sight.SightOutcome.TheVariants as attempt

-- the greatest number of entries of a leaf, or of pairs of a node above the leaves
abbrev pub most_at : ℕ → ℕ
most_at level = if level == 0 then ENTRIES else PAIRS

-- with so many entries, or above the leaves so many pairs, a node can lose one
abbrev pub spare_at : ℕ → ℕ
spare_at level = if level == 0 then 5 else 7

-- the address that leads to the leaf
abbrev pub asked_address : Request → ℕ
asked_address (request.Insertion first last) = first
asked_address (request.Removal base) = base
asked_address (request.Replacement base) = base

-- By its count a node isn't full, for an insertion; for a removal it has one to spare, or it is the
-- root. For a replacement any will do.
abbrev pub CountFits : Request → Seen → Type 0
CountFits (request.Insertion first last) seen = seen.count ≢ most_at seen.visit.level
CountFits (request.Removal base) seen =
    seen.visit.node ≢ 0 → spare_at seen.visit.level ≤ seen.count
CountFits (request.Replacement base) seen = Unit {0}

-- the same of its content
abbrev pub HasFit : Request → NodeData → Type 0
HasFit (request.Insertion first last) s = HasSpace s.body
HasFit (request.Removal base) s = IsSpareAs s.body
HasFit (request.Replacement base) s = Unit {0}

-- what is asked for ends inside a node's fences
abbrev pub EndsInside : Request → NodeData → Type 0
EndsInside (request.Insertion first last) s = last ≤ s.high
EndsInside (request.Removal base) s = Unit {0}
EndsInside (request.Replacement base) s = Unit {0}

-- words and versions were loaded, or versions found changed, and all that is held stays so
abbrev pub OnlySees : CallerData → CallerData → Type 0
OnlySees k k' = StepsOnNodes k k' × (k'.log.holdings ≡ k.log.holdings)

-- A node that isn't the root is in a caller's sight, on the way of a request, which fits it by its
-- count.
pub record IsSeenFor (t : Terms) (r : Request) (seen : Seen) (k : CallerData) : Type 0 where
  pub within : seen.visit.node < t.nodes
  pub below : seen.visit.node ≢ 0
  pub low : seen.visit.level ≤ 12
  pub sight : IsInSight (asked_address r) seen.visit seen.count k
  pub fits : CountFits r seen

-- A caller holds alone a live node that takes the change without a split or a join, and whose
-- fences hold all of what is asked for.
pub record HoldsFor (t : Terms) (r : Request) (at : Held) (holdings : Holdings) : Type 0 where
  pub alone : HoldsAlone t at holdings
  pub low : at.content.level ≤ 12
  pub here : IsInFences (asked_address r) at.content
  pub inside : EndsInside r at.content
  pub fit : HasFit r at.content

-- what an attempt leaves held: the node, or nothing
abbrev pub EndsAttempt : Terms → Request → SightOutcome → Holdings → Type 0
EndsAttempt t r (attempt.Holds at) holdings = HoldsFor t r at holdings
EndsAttempt t r _ holdings = HoldsNothing holdings
