-- What finders answer, and how they go through a list of queries.
use Rattle.std.specs.Prelude.{◌≡◌, ◌<◌, ℕ, List, [], ◌∷◌, All, IfSome}
use Rattle.reg_model.specs.declared.answer.Half.TheVariants.{Registered, Loaded}
use Rattle.reg_model.specs.declared.answer.Place.{Place}
use Rattle.reg_model.specs.declared.answer.Receipt.{Receipt}
use Rattle.reg_model.specs.declared.answer.Receipt.TheVariants.{Register, Deregister, Replace}
use Rattle.reg_model.specs.declared.answer.Receipt.TheVariants.{Load, Unload, Query}
use Rattle.reg_model.specs.PlainRegistryData.{PlainRegistryData, Step}
use Rattle.reg_model.specs.Receipt.{IsPlace}
use Rattle.reg_model.specs.State.{State}
use Rattle.unwind_step.specs.declared.backtrace.FrameLine.{FrameLine}

-- The finder was asked for the lines' addresses, one after another, and answered with their places:
-- from each state to the next by one query.
abbrev pub GoesThrough : {A : Type 0} → (A → ℕ → Place → A → Type 0) → A → List FrameLine → A
    → Type 0
GoesThrough answers before [] end = before ≡ end
GoesThrough {A} answers before (line ∷ lines) end =
    (next : A) × answers before line.look line.place next × GoesThrough answers next lines end

-- ---- a registry over plain lists

-- what a contract sees of a finder in such a registry
pub record PlainFinderData : Type 0 where
  pub registry : PlainRegistryData
  pub bound : ℕ

-- each member has a payload below the bound
pub record HasPayloadsBelow (bound : ℕ) (s : State) : Type 0 where
  pub registered : All (λ m. m.payload < bound) s.registered
  pub loaded : All (λ m. m.payload < bound) s.loaded
  pub fixed : All (λ m. m.payload < bound) s.fixed

-- a call that adds a member, or exchanges its payload, has one that is below the bound
abbrev pub AddsBelow : ℕ → Receipt → Type 0
AddsBelow bound (Register m answer) = m.payload < bound
AddsBelow bound (Deregister base answer) = Unit {0}
AddsBelow bound (Replace m answer) = m.payload < bound
AddsBelow bound (Load m answer) = m.payload < bound
AddsBelow bound (Unload base answer) = Unit {0}
AddsBelow bound (Query half pc found) = Unit {0}

-- each half that was asked answered right of the registry
pub record IsPlainPlace (registry : PlainRegistryData) (pc : ℕ) (place : Place) : Type 0 where
  pub registered : Step registry (Query Registered pc place.registered) registry
  pub loaded : IfSome place.loaded (λ found. Step registry (Query Loaded pc found) registry)
  pub halves : IsPlace place

-- a query changes nothing
abbrev pub AnswersPlainly : PlainFinderData → ℕ → Place → PlainFinderData → Type 0
AnswersPlainly before pc place after = (after ≡ before) × IsPlainPlace before.registry pc place
