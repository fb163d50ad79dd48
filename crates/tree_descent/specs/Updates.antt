-- What an update of the tree makes of its caller, whichever it is.
use Rattle.std.specs.Prelude.{◌≡◌, ℕ, ◌+◌, ◌-◌, ◌≤◌, [], ◌∷◌, ◌++◌, Bool}
use Rattle.reg_model.specs.declared.answer.Receipt.{Receipt}
use Rattle.word_rule.specs.CallerData.{CallerData, KeepsCaller, KeepsCalls}
use Rattle.word_rule.specs.Places.{CALL_CREDIT}
use Rattle.version_locks.specs.declared.locking.Busy.{Busy}
use Rattle.version_locks.specs.Locking.{FoundBusy}
use Rattle.tree_descent.specs.Paths.{HoldsNothing, HoldsLeftOver}
use Rattle.tree_descent.specs.Removing.{HoldsLock}

-- An update call that was begun was answered with this receipt, and took so many of the allowance:
-- one where it was accepted. No lock is held and no node is out. Nothing else of the caller changed
-- but what it has seen, loaded and stored, and its releases, of which a call has enough.
pub record AnswersUpdate (r : Receipt) (taken : ℕ) (k k' : CallerData) : Type 0 where
  pub caller : KeepsCaller k k'
  pub receipts : k'.log.receipts ≡ record k.log.receipts {
    own = k.log.receipts.own ++ r ∷ [];
  }
  pub allowance : k'.log.budget.allowance ≡ k.log.budget.allowance - taken
  pub credit : k.log.budget.credit ≤ k'.log.budget.credit + CALL_CREDIT
  pub nothing : HoldsNothing k'.log.holdings

-- An update was refused under the lock of a leaf, with this receipt. Nothing else of its caller
-- changed but what it has seen and loaded.
pub record RefusesUpdate (r : Receipt) (k k' : CallerData) : Type 0 where
  pub caller : KeepsCaller k k'
  pub budget : k'.log.budget ≡ k.log.budget
  pub holdings : k'.log.holdings ≡ k.log.holdings
  pub receipts : k'.log.receipts ≡ record k.log.receipts {
    own = k.log.receipts.own ++ r ∷ [];
  }

-- An update was accepted in a held leaf by one commit, with this receipt: it took one of the
-- allowance. The leaf is still held, and nothing else.
pub record AcceptsUpdate (r : Receipt) (leaf : ℕ) (changed : Bool) (k k' : CallerData) : Type 0
  where
    pub caller : KeepsCaller k k'
    pub receipts : k'.log.receipts ≡ record k.log.receipts {
      own = k.log.receipts.own ++ r ∷ [];
    }
    pub budget : k'.log.budget ≡ record k.log.budget {
      allowance = k.log.budget.allowance - 1;
    }
    pub holds : HoldsLock leaf changed k'.log.holdings
    pub out : k'.log.holdings.out ≡ []

-- The update gave up, and its loads show why: the call is still begun, and no receipt was taken.
-- Nodes that were split or joined on the way stay so, which changes no entry. No lock is held, and
-- no node is out but one that was lost.
pub record GivesUp (why : Busy) (k k' : CallerData) : Type 0 where
  pub cause : FoundBusy why k k'
  pub calls : KeepsCalls k k'
  pub allowance : k'.log.budget.allowance ≡ k.log.budget.allowance
  pub credit : k.log.budget.credit ≤ k'.log.budget.credit + CALL_CREDIT
  pub nothing : HoldsLeftOver why k'.log.holdings
