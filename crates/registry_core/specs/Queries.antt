-- Queries of both halves, and what they make of their caller.
use Rattle.std.specs.Prelude.{◌≡◌, List, Contains, IfSome, length}
use Rattle.std.specs.List.{AllByRecursion}
use mathlib.Core.List.{IsPrefix}
use Rattle.array_publish.specs.Lookup.{after_lookup}
use Rattle.reg_model.specs.Chain.{HoldsAlways}
use Rattle.reg_model.specs.Receipt.{AreInOrder, member_of, moment}
use Rattle.reg_model.specs.declared.answer.Found.{Found}
use Rattle.reg_model.specs.declared.answer.Place.{Place}
use Rattle.reg_model.specs.declared.answer.Receipt.{Receipt}
use Rattle.reg_model.specs.declared.answer.Update.{Update}
use Rattle.word_rule.specs.CallerData.{CallerData}
use Rattle.word_rule.specs.Callers.{IsMemberOf, start}
use Rattle.word_rule.specs.Places.{CLOCK, lower}
use Rattle.word_rule.specs.declared.log.LoadEvent.{LoadEvent}
use Rattle.word_rule.specs.declared.log.Sights.{Sights}
use Rattle.word_rule.specs.declared.log.Terms.{Terms}

-- the stamp is the lower half of a clock that was loaded
abbrev pub IsStamped : List LoadEvent → Receipt → Type 0
IsStamped loads r = (l : LoadEvent)
    × (Contains loads l × (l.word ≡ CLOCK) × (lower l.found ≡ moment r))

-- Queries were answered with these receipts, one after another, and nothing else was done: each is
-- right of the state at its own stamp, which is that of a load of the clock among these; stamps
-- don't fall, and none is below what was seen before.
pub record Queries (t : Terms) (receipts : List Receipt) (k k' : CallerData) : Type 0 where
  pub past : List Update
  pub loads : List LoadEvent
  pub sights : Sights
  pub begins : IsPrefix k.log.past past
  pub hold : AllByRecursion (HoldsAlways (start t) past) receipts
  pub stamped : AllByRecursion (IsStamped loads) receipts
  pub order : AreInOrder (length k.log.past) receipts
  pub log : k' ≡ record k { log = after_lookup loads past sights receipts k.log }

-- the member that was found may be made known: it has a span, and a payload that there is
abbrev pub IsKnown : Terms → Found → Type 0
IsKnown t found = IfSome (member_of found) (IsMemberOf t)

-- the same of each half that was asked
pub record IsKnownPlace (t : Terms) (place : Place) : Type 0 where
  pub registered : IsKnown t place.registered
  pub loaded : IfSome place.loaded (IsKnown t)
