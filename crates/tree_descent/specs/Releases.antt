-- Which held nodes may be let go of, and what that makes of their caller.
use Rattle.std.specs.Prelude.{◌≡◌, ℕ, ◌+◌, ◌≤◌, List, Bool, false, Some}
use Rattle.std.specs.List.{AllByRecursion}
use Rattle.word_rule.specs.CallerData.{CallerData, KeepsCalls}
use Rattle.word_rule.specs.Spelling.{SpellsNode}
use Rattle.word_rule.specs.declared.log.Holding.{Holding}
use Rattle.word_rule.specs.Held.{held_of, without_lock}
use Rattle.word_rule.specs.declared.log.Holdings.{Holdings}
use Rattle.word_rule.specs.Logs.{after_spending}
use Rattle.tree_descent.specs.Loads.{KeepsLoads}

-- What steps on nodes leave of their caller that lets go of at most so many nodes with the next
-- version: its calls, its receipts and its names are as they were, and what it had loaded stays
-- told.
pub record Spends (releases : ℕ) (k k' : CallerData) : Type 0 where
  pub calls : KeepsCalls k k'
  pub allowance : k'.log.budget.allowance ≡ k.log.budget.allowance
  pub credit : k.log.budget.credit ≤ k'.log.budget.credit + releases
  pub loads : KeepsLoads k k'

-- all that is held has settled as its words spell it
abbrev pub HaveSettled : List Holding → Type 0
HaveSettled held = AllByRecursion (λ h. SpellsNode h.words h.settled) held

-- A node that is held may be let go of, as one that was changed or as one that wasn't: all that is
-- held has settled.
pub record MayGo (n : ℕ) (changed : Bool) (holdings : Holdings) : Type 0 where
  pub lock : Holding
  pub found : held_of n holdings.held ≡ Some lock
  pub stored : changed ≡ false → lock.stored ≡ false
  pub settled : HaveSettled holdings.held

-- It was let go of, with the next version or with the same.
pub record LetsGo (n : ℕ) (k k' : CallerData) : Type 0 where
  pub steps : Spends 1 k k'
  pub held : k'.log.holdings.held ≡ without_lock n k.log.holdings.held
  pub out : k'.log.holdings.out ≡ k.log.holdings.out

-- a caller with a release less
abbrev pub with_release_less : CallerData → CallerData
with_release_less k = record k {
  log = record k.log { budget = after_spending k.log.budget };
}
