-- The nodes that an insertion keeps locked above the one at which it stands.
use Rattle.std.specs.Prelude.{◌≡◌, ◌<◌, List, [], ◌∷◌, Option, Some, None, length, true, ◌++◌, ℕ}
use Rattle.word_rule.specs.declared.log.Holding.{Holding}
use Rattle.word_rule.specs.declared.log.Terms.{Terms}
use Rattle.word_rule.specs.declared.log.Holdings.{Holdings}
use Rattle.word_rule.specs.CallerData.{CallerData}
use Rattle.tree_descent.specs.Releases.{HaveSettled, Spends}
use Rattle.tree_descent.specs.Paths.{AreApart}
use Rattle.btree_change.specs.declared.path.KeptNode.{KeptNode}

-- the lowest node is taken out, where there is one
abbrev pub PopsLowest : List KeptNode → List KeptNode → Option KeptNode → Type 0
PopsLowest old new None = (old ≡ []) × (new ≡ [])
PopsLowest old new (Some kept) = (old ≡ kept ∷ new) × (length new < 12)

-- a node in which a word was stored
abbrev pub as_changed : KeptNode → KeptNode
as_changed kept = record kept { changed = true }

-- the lock of a node that is kept
pub record IsKeptLock (t : Terms) (kept : KeptNode) (h : Holding) : Type 0 where
  pub node : h.node ≡ kept.node
  pub within : kept.node < t.nodes
  pub stored : h.stored ≡ kept.changed

-- node by node
abbrev pub AreKept : Terms → List KeptNode → List Holding → Type 0
AreKept t [] [] = Unit {0}
AreKept t (k ∷ kept) (h ∷ locks) = IsKeptLock t k h × AreKept t kept locks
AreKept t _ _ = ⊥

-- These nodes are held, behind the locks of others. All that is held has settled.
pub record HoldsPath (t : Terms) (path : List KeptNode) (below : List Holding) (holdings : Holdings)
    : Type 0 where
  pub locks : List Holding
  pub held : holdings.held ≡ below ++ locks
  pub kept : AreKept t path locks
  pub settled : HaveSettled holdings.held
  pub apart : AreApart holdings.held

-- So many nodes were let go of, and these locks are left.
pub record LeavesBelow (count : ℕ) (below : List Holding) (k k' : CallerData) : Type 0 where
  pub steps : Spends count k k'
  pub held : k'.log.holdings.held ≡ below
  pub out : k'.log.holdings.out ≡ k.log.holdings.out
