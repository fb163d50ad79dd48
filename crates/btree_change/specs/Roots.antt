-- What an insertion makes of its caller from the root on.
use Rattle.std.specs.Prelude.{ℕ, ◌≡◌, Bool, true, Result, Ok, Err}
use Rattle.reg_model.specs.declared.answer.Inserted.{Inserted}
use Rattle.reg_model.specs.declared.span.Member.{Member}
use Rattle.word_rule.specs.CallerData.{CallerData}
use Rattle.word_rule.specs.declared.log.Terms.{Terms}
use Rattle.version_locks.specs.declared.locking.Busy.{Busy}
use Rattle.version_locks.specs.Locking.{FoundBusy}
use Rattle.tree_descent.specs.Paths.{HoldsLeftOver}
use Rattle.tree_descent.specs.Releases.{Spends}
use Rattle.tree_descent.specs.Insertion.{IfFull}
use Rattle.leaf_change.specs.Insertion.{EndsInsertion}
use Rattle.node_split.specs.declared.split.Room.{Room}
use Rattle.btree_change.specs.Stands.{HasCause}

-- It gave up, and nothing is held; no node is out but one that was lost.
pub record GivesUpWhole (most : ℕ) (why : Busy) (k k' : CallerData) : Type 0 where
  pub steps : Spends most k k'
  pub nothing : HoldsLeftOver why k'.log.holdings

-- How a part of an insertion ends, by at most so many releases: it was answered, and a Full has its
-- cause; or it gave up, which a way of locking that waits never does.
abbrev pub EndsPart : Terms → Member → ℕ → Room → Bool → CallerData → CallerData
    → Result Inserted Busy → Type 0
EndsPart t m most way gives_up k k' (Ok answer) = EndsInsertion t m answer most k k'
    × IfFull answer (HasCause way m.span.first k k')
EndsPart t m most way gives_up k k' (Err why) = GivesUpWhole most why k k'
    × (gives_up ≡ true) × FoundBusy why k k'
