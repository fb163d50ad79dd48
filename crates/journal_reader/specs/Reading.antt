-- How a line is read after its head. That this reads what is told, and nothing else, is proved.
use Rattle.std.specs.Prelude.{ℕ, ◌-◌, ◌^◌, List, [], ◌∷◌, ◌++◌, length, ◌&&◌, nat_lt, Option, Some}
use Rattle.std.specs.Prelude.{None, codes, decimal, if◌then◌else◌}
use Rattle.std.specs.Str.{bytes_eq}
use Rattle.reg_model.specs.SpanData.{SpanData}
use Rattle.reg_model.specs.declared.span.Member.{Member}
use Rattle.reg_model.specs.declared.answer.Found.{Found}
use Rattle.reg_model.specs.declared.answer.Found.TheVariants.{Hit, Miss}
use Rattle.reg_model.specs.declared.answer.Place.{Place}
use Rattle.reg_model.specs.declared.answer.Inserted.{Inserted}
use Rattle.reg_model.specs.declared.answer.Inserted.TheVariants as inserted
use Rattle.reg_model.specs.declared.answer.Loading.{Loading}
use Rattle.reg_model.specs.declared.answer.Loading.TheVariants as loading
use Rattle.reg_model.specs.declared.answer.Removed.{Removed}
use Rattle.reg_model.specs.declared.answer.Removed.TheVariants as removed
use Rattle.reg_model.specs.declared.answer.Replaced.{Replaced}
use Rattle.reg_model.specs.declared.answer.Replaced.TheVariants as replaced
use Rattle.unwind_step.specs.declared.backtrace.End.{End}
use Rattle.unwind_step.specs.declared.backtrace.End.TheVariants as end
use Rattle.unwind_step.specs.declared.backtrace.FrameLine.{FrameLine}
use Rattle.script_text.specs.Fields.{decimal_in, hex_in}
use Rattle.script_text.specs.EventLines.{event_spelling}
use Rattle.script_text.specs.Lawful.{image_member}
use Rattle.script_text.specs.Text.{event_number}
use Rattle.script_text.specs.declared.script.Event.{Event}
use Rattle.script_text.specs.declared.script.Event.TheVariants as event
use Rattle.script_text.specs.declared.journal.Answer.{Answer}
use Rattle.script_text.specs.declared.journal.Answer.TheVariants.{Register, Deregister, Replace}
use Rattle.script_text.specs.declared.journal.Answer.TheVariants.{Load, Unload, Find}
use Rattle.journal_reader.specs.FirstNumbers.{decimal_first, hex_first, past_word}
use Rattle.journal_reader.specs.Told.{told_member}

-- goes on with what there is, if anything
infixl 10 ◌>?>◌
abbrev pub ◌>?>◌ : {A B : Type 0} → Option A → (A → Option B) → Option B
None >?> next = None
(Some x) >?> next = next x

-- goes on with what there is, or else gives the other
abbrev pub going_on : {A B : Type 0} → Option A → (A → Option B) → Option B → Option B
going_on None next other = other
going_on (Some x) next other = next x

-- the member that the number of an image means
unfoldable pub image_in : List SpanData → ℕ → Option Member
image_in images image =
    if nat_lt image (length images) then Some (image_member images image) else None

-- the member that an overlap tells
unfoldable pub overlapping_in : List SpanData → ℕ → ℕ → Option Member
overlapping_in images base image =
    if nat_lt image (length images) && nat_lt base (2 ^ 64 - 1)
    then Some (told_member images base image) else None

-- and with its stamp
unfoldable pub overlap_in : List SpanData → List ℕ → Option (Member × ℕ)
overlap_in images text =
    hex_first text >?> λ base.
    past_word (codes " ") base.1 >?> λ rest.
    decimal_first rest >?> λ image.
    overlapping_in images base.0 image.0 >?> λ m.
    past_word (codes " at ") image.1 >?> λ rest.
    decimal_in rest >?> λ stamp.
    Some (m, stamp)

unfoldable pub inserted_in : List SpanData → List ℕ → Option Inserted
inserted_in images text =
    going_on (past_word (codes "done ") text)
    (λ rest. decimal_in rest >?> λ number. Some (inserted.Done number))
    (going_on (past_word (codes "full at ") text)
    (λ rest. decimal_in rest >?> λ stamp. Some (inserted.Full stamp))
    (past_word (codes "overlap ") text >?> λ rest.
    overlap_in images rest >?> λ found. Some (inserted.Overlap found.0 found.1)))

-- an answer to a load reads as one to a registration
abbrev pub as_loading : Inserted → Option Loading
as_loading (inserted.Done number) = Some (loading.Done number)
as_loading (inserted.Overlap m stamp) = Some (loading.Overlap m stamp)
as_loading (inserted.Full stamp) = Some (loading.LoadFull stamp)
as_loading inserted.Spent = None

unfoldable pub loading_in : List SpanData → List ℕ → Option Loading
loading_in images text = inserted_in images text >?> as_loading

unfoldable pub removed_in : List SpanData → List ℕ → Option Removed
removed_in images text =
    going_on (past_word (codes "done ") text)
    (λ rest. decimal_first rest >?> λ number.
    past_word (codes " image ") number.1 >?> λ rest.
    decimal_in rest >?> λ image.
    image_in images image >?> λ m. Some (removed.Done number.0 m))
    (past_word (codes "absent at ") text >?> λ rest.
    decimal_in rest >?> λ stamp. Some (removed.NotFound stamp))

-- an answer to a replacement reads as one to a removal
abbrev pub as_replaced : Removed → Option Replaced
as_replaced (removed.Done number m) = Some (replaced.Done number m.payload)
as_replaced (removed.NotFound stamp) = Some (replaced.NotFound stamp)
as_replaced removed.Spent = None

unfoldable pub replaced_in : List SpanData → List ℕ → Option Replaced
replaced_in images text = removed_in images text >?> as_replaced

-- an image, or none, and the stamp, and what follows them
unfoldable pub found_first : List SpanData → List ℕ → Option (Found × List ℕ)
found_first images text =
    going_on (decimal_first text)
    (λ image. image_in images image.0 >?> λ m.
    past_word (codes " at ") image.1 >?> λ rest.
    decimal_first rest >?> λ stamp. Some (Hit m stamp.0, stamp.1))
    (past_word (codes "none at ") text >?> λ rest.
    decimal_first rest >?> λ stamp. Some (Miss stamp.0, stamp.1))

-- what was found, where nothing follows it
abbrev pub if_last : Found → List ℕ → Option Found
if_last found [] = Some found
if_last found (b ∷ rest) = None

-- the loader's half
unfoldable pub loaded_in : List SpanData → List ℕ → Option Found
loaded_in images text =
    past_word (codes " loaded ") text >?> λ rest.
    found_first images rest >?> λ found. if_last found.0 found.1

abbrev pub place_from : List SpanData → Found → List ℕ → Option Place
place_from images (Hit m stamp) rest =
    if_last (Hit m stamp) rest >?> λ found. Some (record { registered = found; loaded = None })
place_from images (Miss stamp) rest =
    loaded_in images rest >?>
    λ found. Some (record { registered = Miss stamp; loaded = Some found })

unfoldable pub told_place : List SpanData → List ℕ → Option Place
told_place images text =
    past_word (codes "registered ") text >?> λ rest.
    found_first images rest >?> λ found. place_from images found.0 found.1

unfoldable pub frame_in : List SpanData → List ℕ → Option FrameLine
frame_in images text =
    hex_first text >?> λ pc.
    past_word (codes " sp ") pc.1 >?> λ rest.
    hex_first rest >?> λ sp.
    past_word (codes " look ") sp.1 >?> λ rest.
    hex_first rest >?> λ look.
    past_word (codes " ") look.1 >?> λ rest.
    told_place images rest >?> λ place.
    Some (record { pc = pc.0; sp = sp.0; look = look.0; place = place })

-- a word that tells why there are no more frames
abbrev pub plain_end : List ℕ → Option End
plain_end text =
    if bytes_eq text (codes "noobject") then Some end.NoObject
    else if bytes_eq text (codes "nofde") then Some end.NoFde
    else if bytes_eq text (codes "norow") then Some end.NoRow
    else if bytes_eq text (codes "undefined") then Some end.Undefined
    else if bytes_eq text (codes "long") then Some end.Long
    else None

unfoldable pub end_in : List ℕ → Option End
end_in text =
    going_on (past_word (codes "nobytes ") text)
    (λ rest. hex_in rest >?> λ address. Some (end.NoBytes address)) (plain_end text)

-- an event that isn't a backtrace
abbrev pub IsOneLine : Event → Type 0
IsOneLine (event.Unwind snapshot) = ⊥
IsOneLine _ = Unit {0}

-- its answer
unfoldable pub told_answer : List SpanData → Event → List ℕ → Option Answer
told_answer images (event.Register image) text =
    inserted_in images text >?> λ answer. Some (Register image answer)
told_answer images (event.Deregister base) text =
    removed_in images text >?> λ answer. Some (Deregister base answer)
told_answer images (event.Replace image) text =
    replaced_in images text >?> λ answer. Some (Replace image answer)
told_answer images (event.Load image) text =
    loading_in images text >?> λ answer. Some (Load image answer)
told_answer images (event.Unload base) text =
    removed_in images text >?> λ answer. Some (Unload base answer)
told_answer images (event.Find pc) text = told_place images text >?> λ place. Some (Find pc place)
told_answer images (event.Unwind snapshot) text = None

-- and after the space before it
unfoldable pub answer_in : List SpanData → Event → List ℕ → Option Answer
answer_in images asked text = past_word (codes " ") text >?> λ rest. told_answer images asked rest

-- ---- whole lines, after what they begin with

-- what an event's first line says up to its answer: its number and the event
abbrev pub head_of : ℕ → ℕ → ℕ → Event → List ℕ
head_of round thread place asked =
    event_number round thread place ++ codes " " ++ event_spelling asked

-- what the line of a frame says up to its first address
abbrev pub frame_head : ℕ → ℕ → ℕ → ℕ → List ℕ
frame_head round thread place number =
    event_number round thread place ++ codes " "
    ++ (codes "frame " ++ decimal number ++ codes " pc ")

-- what the last line of a backtrace says up to why it ends
abbrev pub end_head : ℕ → ℕ → ℕ → List ℕ
end_head round thread place = event_number round thread place ++ codes " " ++ codes "end "

unfoldable pub first_line : List SpanData → List ℕ → Event → List ℕ → Option Answer
first_line images head asked line = past_word head line >?> answer_in images asked

unfoldable pub told_frame : List SpanData → List ℕ → List ℕ → Option FrameLine
told_frame images head line = past_word head line >?> frame_in images

unfoldable pub told_end : List ℕ → List ℕ → Option End
told_end head line = past_word head line >?> end_in

-- the number of updates in the last line
unfoldable pub told_updates : List ℕ → Option ℕ
told_updates line = past_word (codes "updates ") line >?> decimal_in
