-- What contracts see of a registry for one thread, and one call of it.
use Rattle.std.specs.Prelude.{◌≡◌, ℕ, ◌+◌, List, length, MatchOption}
use Rattle.reg_model.specs.State.{State}
use Rattle.reg_model.specs.History.{Fits, after, IsHistory, state_after}
use Rattle.reg_model.specs.Receipt.{moment, accepted, IsRight}
use Rattle.reg_model.specs.declared.answer.Update.{Update}
use Rattle.reg_model.specs.declared.answer.Inserted.{Inserted}
use Rattle.reg_model.specs.declared.answer.Inserted.TheVariants as inserted
use Rattle.reg_model.specs.declared.answer.Receipt.{Receipt}

-- the state, and the number of updates that led to it
pub record PlainRegistryData : Type 0 where
  pub state : State
  pub updates : ℕ

-- The registry is where this history leads to.
pub record LeadsTo (start : State) (history : List Update) (now : PlainRegistryData) : Type 0 where
  pub lawful : IsHistory start history
  pub state : state_after start history ≡ now.state
  pub updates : length history ≡ now.updates

-- A call answered with this receipt. An accepted update fits, has the next number and changes the
-- state; any other answer has the number of updates as its stamp and changes nothing.
pub record Step (old : PlainRegistryData) (r : Receipt) (new : PlainRegistryData) : Type 0 where
  pub right : IsRight old.state r
  pub changes : MatchOption (accepted r)
      ((moment r ≡ old.updates) × (new ≡ old))
      (λ u. Fits u old.state × (moment r ≡ old.updates + 1)
      × (new ≡ record { state = after u old.state; updates = old.updates + 1 }))

-- lists have room: a registration is done or overlaps
abbrev pub IsDoneOrOverlap : Inserted → Type 0
IsDoneOrOverlap (inserted.Done number) = Unit {0}
IsDoneOrOverlap (inserted.Overlap m stamp) = Unit {0}
IsDoneOrOverlap _ = ⊥
