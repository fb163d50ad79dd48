-- Which journal a text means. A text prints a member's number alone, and of an overlap its first
-- address too, which may be wrong.
use Rattle.std.specs.Prelude.{◌≡◌, ℕ, ◌-◌, ◌^◌, ◌<◌, List, length, ◌==◌, IfSome, if◌then◌else◌}
use Rattle.std.specs.List.{AllByRecursion, AllZip}
use Rattle.reg_model.specs.SpanData.{SpanData}
use Rattle.reg_model.specs.Receipt.{IsPlace}
use Rattle.reg_model.specs.declared.span.Member.{Member}
use Rattle.reg_model.specs.declared.answer.Found.{Found}
use Rattle.reg_model.specs.declared.answer.Found.TheVariants.{Hit, Miss}
use Rattle.reg_model.specs.declared.answer.Place.{Place}
use Rattle.reg_model.specs.declared.answer.Inserted.{Inserted}
use Rattle.reg_model.specs.declared.answer.Inserted.TheVariants as inserted
use Rattle.reg_model.specs.declared.answer.Loading.{Loading}
use Rattle.reg_model.specs.declared.answer.Loading.TheVariants as loading
use Rattle.reg_model.specs.declared.answer.Removed.{Removed}
use Rattle.reg_model.specs.declared.answer.Removed.TheVariants as removed
use Rattle.reg_model.specs.declared.answer.Replaced.{Replaced}
use Rattle.reg_model.specs.declared.answer.Replaced.TheVariants as replaced
use Rattle.unwind_step.specs.Backtrace.{TraceData}
use Rattle.unwind_step.specs.declared.backtrace.End.{End}
use Rattle.unwind_step.specs.declared.backtrace.End.TheVariants.{NoBytes}
use Rattle.unwind_step.specs.declared.backtrace.FrameLine.{FrameLine}
use Rattle.script_text.specs.ScriptData.{ScriptData, span_of}
use Rattle.script_text.specs.JournalData.{JournalData}
use Rattle.script_text.specs.Lawful.{image_member}
use Rattle.script_text.specs.declared.script.Event.{Event}
use Rattle.script_text.specs.declared.script.Event.TheVariants as event
use Rattle.script_text.specs.declared.journal.Answer.{Answer}
use Rattle.script_text.specs.declared.journal.Answer.TheVariants.{Register, Deregister, Replace}
use Rattle.script_text.specs.declared.journal.Answer.TheVariants.{Load, Unload, Find, Unwind}

-- the member is that of an image
pub record IsImage (images : List SpanData) (m : Member) : Type 0 where
  pub named : m.payload < length images
  pub is : m ≡ image_member images m.payload

-- the member that an overlap tells by a first address and an image: the image's where the address
-- is the image's, and else the one of that address alone
abbrev pub told_member : List SpanData → ℕ → ℕ → Member
told_member images base image =
    if (span_of images image).first == base then image_member images image
    else record { span = record { first = base; last = base }; payload = image }

-- an overlap may tell the member: it names an image, and a span begins at its first address
pub record IsToldOverlap (images : List SpanData) (m : Member) : Type 0 where
  pub named : m.payload < length images
  pub base : m.span.first < 2 ^ 64 - 1
  pub is : m ≡ told_member images m.span.first m.payload

-- numbers and stamps have 32 bits, addresses 64

abbrev pub IsToldFound : List SpanData → Found → Type 0
IsToldFound images (Hit m stamp) = IsImage images m × (stamp < 2 ^ 32)
IsToldFound images (Miss stamp) = stamp < 2 ^ 32

-- a place has its halves, and both are told
pub record IsToldPlace (images : List SpanData) (place : Place) : Type 0 where
  pub whole : IsPlace place
  pub registered : IsToldFound images place.registered
  pub loaded : IfSome place.loaded (IsToldFound images)

abbrev pub IsToldInserted : List SpanData → Inserted → Type 0
IsToldInserted images (inserted.Done number) = number < 2 ^ 32
IsToldInserted images (inserted.Overlap m stamp) = IsToldOverlap images m × (stamp < 2 ^ 32)
IsToldInserted images (inserted.Full stamp) = stamp < 2 ^ 32
IsToldInserted images inserted.Spent = ⊥

abbrev pub IsToldLoading : List SpanData → Loading → Type 0
IsToldLoading images (loading.Done number) = number < 2 ^ 32
IsToldLoading images (loading.Overlap m stamp) = IsToldOverlap images m × (stamp < 2 ^ 32)
IsToldLoading images (loading.LoadFull stamp) = stamp < 2 ^ 32
IsToldLoading images loading.Spent = ⊥

abbrev pub IsToldRemoved : List SpanData → Removed → Type 0
IsToldRemoved images (removed.Done number m) = (number < 2 ^ 32) × IsImage images m
IsToldRemoved images (removed.NotFound stamp) = stamp < 2 ^ 32
IsToldRemoved images removed.Spent = ⊥

-- of a replacement the number of the image is told that was there before
abbrev pub IsToldReplaced : List SpanData → Replaced → Type 0
IsToldReplaced images (replaced.Done number payload) =
    (number < 2 ^ 32) × (payload < length images)
IsToldReplaced images (replaced.NotFound stamp) = stamp < 2 ^ 32
IsToldReplaced images replaced.Spent = ⊥

pub record IsToldFrame (images : List SpanData) (line : FrameLine) : Type 0 where
  pub pc : line.pc < 2 ^ 64
  pub sp : line.sp < 2 ^ 64
  pub look : line.look < 2 ^ 64
  pub place : IsToldPlace images line.place

abbrev pub IsToldEnd : End → Type 0
IsToldEnd (NoBytes address) = address < 2 ^ 64
IsToldEnd _ = Unit {0}

-- a backtrace may have any number of lines
pub record IsToldTrace (images : List SpanData) (trace : TraceData) : Type 0 where
  pub frames : AllByRecursion (IsToldFrame images) trace.frames
  pub end : IsToldEnd trace.end

-- the answer is of the event's kind, with its image, base, address or snapshot, and is told
abbrev pub IsToldAnswer : List SpanData → Event → Answer → Type 0
IsToldAnswer images (event.Register image) (Register asked answer) =
    (asked ≡ image) × IsToldInserted images answer
IsToldAnswer images (event.Deregister base) (Deregister asked answer) =
    (asked ≡ base) × IsToldRemoved images answer
IsToldAnswer images (event.Replace image) (Replace asked answer) =
    (asked ≡ image) × IsToldReplaced images answer
IsToldAnswer images (event.Load image) (Load asked answer) =
    (asked ≡ image) × IsToldLoading images answer
IsToldAnswer images (event.Unload base) (Unload asked answer) =
    (asked ≡ base) × IsToldRemoved images answer
IsToldAnswer images (event.Find pc) (Find asked place) = (asked ≡ pc) × IsToldPlace images place
IsToldAnswer images (event.Unwind snapshot) (Unwind asked trace) =
    (asked ≡ snapshot) × IsToldTrace images trace
IsToldAnswer images _ _ = ⊥

-- the journal is one that a text of the script's journals tells
pub record IsToldJournal (script : ScriptData) (journal : JournalData) : Type 0 where
  pub answered : AllZip (AllZip (AllZip (IsToldAnswer script.images))) script.rounds journal.rounds
  pub updates : journal.updates < 2 ^ 32
