-- What it makes of a caller to give back a node that is out.
use Rattle.std.specs.Prelude.{◌≡◌, ◌≢◌, ℕ, None}
use Rattle.word_rule.specs.Spelling.{SpellsNode}
use Rattle.word_rule.specs.declared.log.Holding.{Holding}
use Rattle.word_rule.specs.CallerData.{CallerData}
use Rattle.word_rule.specs.Held.{without_lock, all_but}
use Rattle.version_locks.specs.Locking.{FoundBusy}
use Rattle.version_locks.specs.declared.locking.Busy.{Busy}
use Rattle.tree_descent.specs.Releases.{Spends}
use Rattle.version_locks.specs.declared.locking.Busy.TheVariants as busy

-- what giving back asks of each lock: that of the node is unmarked, and the others have settled
abbrev pub IsGoneOrSettled : ℕ → Holding → Type 0
IsGoneOrSettled n h =
    (h.node ≡ n → h.mark ≡ None) × (h.node ≢ n → SpellsNode h.words h.settled)

-- A node couldn't be put back: it was let go of and stays out, and all else that is held is as it
-- was.
pub record KeepsOut (n : ℕ) (why : Busy) (k k' : CallerData) : Type 0 where
  pub lost : why ≡ busy.Lost
  pub cause : FoundBusy why k k'
  pub spends : Spends 1 k k'
  pub held : k'.log.holdings.held ≡ without_lock n k.log.holdings.held
  pub out : k'.log.holdings.out ≡ k.log.holdings.out

-- A node was given back, and all else that is held is as it was.
pub record ReturnsNode (n : ℕ) (k k' : CallerData) : Type 0 where
  pub spends : Spends 1 k k'
  pub held : k'.log.holdings.held ≡ without_lock n k.log.holdings.held
  pub out : k'.log.holdings.out ≡ all_but n k.log.holdings.out
