-- What a caller loads, and that there was no room.
use Rattle.std.specs.Prelude.{◌≡◌, List, ◌++◌, ℕ, length}
use Rattle.word_rule.specs.CallerData.{CallerData}
use Rattle.word_rule.specs.declared.log.LoadEvent.{LoadEvent}
use Rattle.word_rule.specs.TreeRefusals.{HadNoRoom}

-- what a caller had loaded stands among its loads as it was
abbrev pub KeepsLoads : CallerData → CallerData → Type 0
KeepsLoads k k' = (more : List LoadEvent) × (k'.log.trace.loads ≡ k.log.trace.loads ++ more)

-- There was no room for a member that begins at the base: the loads that say so are among those of
-- these steps.
pub record FoundNoRoom (base : ℕ) (k k' : CallerData) : Type 0 where
  pub more : List LoadEvent
  pub loads : k'.log.trace.loads ≡ k.log.trace.loads ++ more
  pub no_room : HadNoRoom base (length k.log.receipts.own) more
