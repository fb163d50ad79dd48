-- What calls of a writer's caller, one after another, do.
use Rattle.std.specs.Prelude.{◌≡◌, ◌≤◌, ◌+◌, ℕ, List, ◌++◌, All, Contains, ◌==◌}
use Rattle.std.specs.Prelude.{if◌then◌else◌}
use Rattle.version_locks.specs.declared.locking.Busy.{Busy}
use Rattle.reg_model.specs.declared.answer.Inserted.TheVariants as inserted
use Rattle.reg_model.specs.declared.answer.Loading.{Loading}
use Rattle.reg_model.specs.declared.answer.Loading.TheVariants as loading
use Rattle.reg_model.specs.declared.answer.Receipt.{Receipt}
use Rattle.reg_model.specs.declared.answer.Receipt.TheVariants as receipt
use Rattle.reg_model.specs.declared.answer.Update.{Update}
use Rattle.reg_model.specs.declared.answer.Update.TheVariants.{Register, Deregister, Replace}
use Rattle.reg_model.specs.declared.answer.Update.TheVariants.{Load, Unload}
use Rattle.reg_model.specs.declared.span.Member.{Member}
use Rattle.sole_writer.specs.Writers.{WriterData, WriterStops}
use Rattle.fde_writer.specs.declared.outcome.Numbers.{Numbers}

-- the update adds no member but one of these
abbrev pub AddsAmong : List Member → Update → Type 0
AddsAmong members (Register m) = Contains members m
AddsAmong members (Replace m) = Contains members m
AddsAmong members (Load m) = Contains members m
AddsAmong members (Deregister base) = Unit {0}
AddsAmong members (Unload base) = Unit {0}

-- Calls were made, at most so many, which added no members but some of these.
pub record Runs (members : List Member) (calls : ℕ) (w w' : WriterData) : Type 0 where
  pub words : w'.words ≡ w.words
  pub left : w.me.left ≤ w'.me.left + calls
  pub updates : List Update
  pub past : w'.me.log.past ≡ w.me.log.past ++ updates
  pub adds : All (AddsAmong members) updates
  pub receipts : List Receipt
  pub own : w'.me.log.receipts.own ≡ w.me.log.receipts.own ++ receipts

-- the receipt is one of those of these calls
abbrev pub Received : Receipt → WriterData → WriterData → Type 0
Received r w w' = (receipts : List Receipt)
    × (w'.me.log.receipts.own ≡ w.me.log.receipts.own ++ receipts) × Contains receipts r

-- a load that was refused for want of room: its member overlaps another, or no more may be loaded
abbrev pub IsNoRoom : Loading → Type 0
IsNoRoom (loading.Overlap other stamp) = Unit {0}
IsNoRoom (loading.LoadFull stamp) = Unit {0}
IsNoRoom _ = ⊥

-- one of these members was refused by both halves
pub record FoundOverlap (members : List Member) (w w' : WriterData) : Type 0 where
  pub member : Member
  pub among : Contains members member
  pub other : Member
  pub stamp : ℕ
  pub registered : Received (receipt.Register member (inserted.Overlap other stamp)) w w'
  pub answer : Loading
  pub no_room : IsNoRoom answer
  pub loaded : Received (receipt.Load member answer) w w'

-- for one of these members the registered half was full
pub record FoundFull (members : List Member) (w w' : WriterData) : Type 0 where
  pub member : Member
  pub among : Contains members member
  pub stamp : ℕ
  pub registered : Received (receipt.Register member (inserted.Full stamp)) w w'

-- the last of the calls found a lock taken
abbrev pub FoundTaken : List Member → ℕ → WriterData → WriterData → Type 0
FoundTaken members calls w w' =
    (mid : WriterData) × (why : Busy) × Runs members calls w mid × WriterStops why mid w'

-- the numbers of the updates that led from one number of updates to another
abbrev pub numbers_told : ℕ → ℕ → Numbers
numbers_told old new =
    if (old == new) then (record { first = 0; last = 0 })
    else (record { first = old + 1; last = new })
