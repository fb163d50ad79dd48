-- Numbers and stamps of 32 bits, addresses of 64: the sizes that the numbers of a journal have.
use Rattle.std.specs.Prelude.{◌^◌, ◌<◌, IfSome}
use Rattle.std.specs.List.{AllByRecursion}
use Rattle.reg_model.specs.declared.answer.Found.{Found}
use Rattle.reg_model.specs.declared.answer.Found.TheVariants.{Hit, Miss}
use Rattle.reg_model.specs.declared.answer.Place.{Place}
use Rattle.reg_model.specs.declared.answer.Inserted.{Inserted}
use Rattle.reg_model.specs.declared.answer.Inserted.TheVariants as inserted
use Rattle.reg_model.specs.declared.answer.Loading.{Loading}
use Rattle.reg_model.specs.declared.answer.Loading.TheVariants as loading
use Rattle.reg_model.specs.declared.answer.Removed.{Removed}
use Rattle.reg_model.specs.declared.answer.Removed.TheVariants as removed
use Rattle.reg_model.specs.declared.answer.Replaced.{Replaced}
use Rattle.reg_model.specs.declared.answer.Replaced.TheVariants as replaced
use Rattle.unwind_step.specs.declared.backtrace.FrameLine.{FrameLine}
use Rattle.script_text.specs.JournalData.{JournalData}
use Rattle.script_text.specs.declared.journal.Answer.{Answer}
use Rattle.script_text.specs.declared.journal.Answer.TheVariants.{Register, Deregister, Replace}
use Rattle.script_text.specs.declared.journal.Answer.TheVariants.{Load, Unload, Find, Unwind}
use Rattle.journal_reader.specs.Told.{IsToldEnd}

abbrev pub IsSizedFound : Found → Type 0
IsSizedFound (Hit m stamp) = stamp < 2 ^ 32
IsSizedFound (Miss stamp) = stamp < 2 ^ 32

pub record IsSizedPlace (place : Place) : Type 0 where
  pub registered : IsSizedFound place.registered
  pub loaded : IfSome place.loaded IsSizedFound

abbrev pub IsSizedInserted : Inserted → Type 0
IsSizedInserted (inserted.Done number) = number < 2 ^ 32
IsSizedInserted (inserted.Overlap m stamp) = stamp < 2 ^ 32
IsSizedInserted (inserted.Full stamp) = stamp < 2 ^ 32
IsSizedInserted inserted.Spent = Unit {0}

abbrev pub IsSizedLoading : Loading → Type 0
IsSizedLoading (loading.Done number) = number < 2 ^ 32
IsSizedLoading (loading.Overlap m stamp) = stamp < 2 ^ 32
IsSizedLoading (loading.LoadFull stamp) = stamp < 2 ^ 32
IsSizedLoading loading.Spent = Unit {0}

abbrev pub IsSizedRemoved : Removed → Type 0
IsSizedRemoved (removed.Done number m) = number < 2 ^ 32
IsSizedRemoved (removed.NotFound stamp) = stamp < 2 ^ 32
IsSizedRemoved removed.Spent = Unit {0}

abbrev pub IsSizedReplaced : Replaced → Type 0
IsSizedReplaced (replaced.Done number payload) = number < 2 ^ 32
IsSizedReplaced (replaced.NotFound stamp) = stamp < 2 ^ 32
IsSizedReplaced replaced.Spent = Unit {0}

pub record IsSizedFrame (line : FrameLine) : Type 0 where
  pub pc : line.pc < 2 ^ 64
  pub sp : line.sp < 2 ^ 64
  pub look : line.look < 2 ^ 64
  pub place : IsSizedPlace line.place

abbrev pub IsSizedAnswer : Answer → Type 0
IsSizedAnswer (Register image answer) = IsSizedInserted answer
IsSizedAnswer (Deregister base answer) = IsSizedRemoved answer
IsSizedAnswer (Replace image answer) = IsSizedReplaced answer
IsSizedAnswer (Load image answer) = IsSizedLoading answer
IsSizedAnswer (Unload base answer) = IsSizedRemoved answer
IsSizedAnswer (Find pc place) = IsSizedPlace place
IsSizedAnswer (Unwind snapshot trace) =
    AllByRecursion IsSizedFrame trace.frames × IsToldEnd trace.end

pub record IsSized (journal : JournalData) : Type 0 where
  pub answers : AllByRecursion (AllByRecursion (AllByRecursion IsSizedAnswer)) journal.rounds
  pub updates : journal.updates < 2 ^ 32
