-- The text of a journal.
use Rattle.std.specs.Prelude.{ℕ, ◌+◌, List, [], ◌∷◌, ◌++◌, Option, Some, None, All, codes}
use Rattle.std.specs.List.{flat_map}
use Rattle.std.specs.Fmt.{decimal}
use Rattle.reg_model.specs.Receipt.{IsPlace}
use Rattle.reg_model.specs.declared.span.Member.{Member}
use Rattle.reg_model.specs.declared.answer.Found.{Found}
use Rattle.reg_model.specs.declared.answer.Found.TheVariants.{Hit, Miss}
use Rattle.reg_model.specs.declared.answer.Place.{Place}
use Rattle.reg_model.specs.declared.answer.Inserted.{Inserted}
use Rattle.reg_model.specs.declared.answer.Inserted.TheVariants as inserted
use Rattle.reg_model.specs.declared.answer.Loading.{Loading}
use Rattle.reg_model.specs.declared.answer.Loading.TheVariants as loading
use Rattle.reg_model.specs.declared.answer.Removed.{Removed}
use Rattle.reg_model.specs.declared.answer.Removed.TheVariants as removed
use Rattle.reg_model.specs.declared.answer.Replaced.{Replaced}
use Rattle.reg_model.specs.declared.answer.Replaced.TheVariants as replaced
use Rattle.unwind_step.specs.Backtrace.{TraceData}
use Rattle.unwind_step.specs.declared.backtrace.End.{End}
use Rattle.unwind_step.specs.declared.backtrace.End.TheVariants as end
use Rattle.unwind_step.specs.declared.backtrace.FrameLine.{FrameLine}
use Rattle.script_text.specs.Digits.{hex}
use Rattle.script_text.specs.JournalData.{JournalData}
use Rattle.script_text.specs.declared.journal.Answer.{Answer}
use Rattle.script_text.specs.declared.journal.Answer.TheVariants.{Register, Deregister, Replace}
use Rattle.script_text.specs.declared.journal.Answer.TheVariants.{Load, Unload, Find, Unwind}

-- which member overlaps: its first address and its image
abbrev pub overlap_text : Member → ℕ → List ℕ
overlap_text member stamp =
    codes "overlap " ++ hex member.span.first ++ codes " " ++ decimal member.payload ++ codes " at "
    ++ decimal stamp

abbrev pub inserted_text : Inserted → List ℕ
inserted_text (inserted.Done number) = codes "done " ++ decimal number
inserted_text (inserted.Overlap member stamp) = overlap_text member stamp
inserted_text (inserted.Full stamp) = codes "full at " ++ decimal stamp
inserted_text inserted.Spent = []

abbrev pub loading_text : Loading → List ℕ
loading_text (loading.Done number) = codes "done " ++ decimal number
loading_text (loading.Overlap member stamp) = overlap_text member stamp
loading_text (loading.LoadFull stamp) = codes "full at " ++ decimal stamp
loading_text loading.Spent = []

abbrev pub removed_text : Removed → List ℕ
removed_text (removed.Done number member) =
    codes "done " ++ decimal number ++ codes " image " ++ decimal member.payload
removed_text (removed.NotFound stamp) = codes "absent at " ++ decimal stamp
removed_text removed.Spent = []

-- the image is the one that was there before
abbrev pub replaced_text : Replaced → List ℕ
replaced_text (replaced.Done number payload) =
    codes "done " ++ decimal number ++ codes " image " ++ decimal payload
replaced_text (replaced.NotFound stamp) = codes "absent at " ++ decimal stamp
replaced_text replaced.Spent = []

-- an image, or none, and the stamp
abbrev pub found_text : Found → List ℕ
found_text (Hit member stamp) = decimal member.payload ++ codes " at " ++ decimal stamp
found_text (Miss stamp) = codes "none at " ++ decimal stamp

abbrev pub loaded_text : Option Found → List ℕ
loaded_text None = []
loaded_text (Some found) = codes " loaded " ++ found_text found

-- where an address was found; the loader's half stands only where the registered one has none
abbrev pub place_text : Place → List ℕ
place_text place = codes "registered " ++ found_text place.registered ++ loaded_text place.loaded

abbrev pub addresses_text : FrameLine → List ℕ
addresses_text line =
    codes " pc " ++ hex line.pc ++ codes " sp " ++ hex line.sp ++ codes " look " ++ hex line.look
    ++ codes " "

-- what is told of a frame under a word
abbrev pub frame_text : List ℕ → ℕ → FrameLine → List ℕ
frame_text word number line =
    word ++ codes " " ++ decimal number ++ addresses_text line ++ place_text line.place

-- what the line of a frame says, which are numbered from 0
abbrev pub frame_line : ℕ → FrameLine → List ℕ
frame_line number line = frame_text (codes "frame") number line

abbrev pub frame_lines : ℕ → List FrameLine → List (List ℕ)
frame_lines number [] = []
frame_lines number (line ∷ lines) = frame_line number line ∷ frame_lines (number + 1) lines

-- why there are no more
abbrev pub end_text : End → List ℕ
end_text end.NoObject = codes "noobject"
end_text end.NoFde = codes "nofde"
end_text end.NoRow = codes "norow"
end_text end.Undefined = codes "undefined"
end_text (end.NoBytes address) = codes "nobytes " ++ hex address
end_text end.Long = codes "long"

abbrev pub end_line : End → List ℕ
end_line e = codes "end " ++ end_text e

abbrev pub trace_lines : TraceData → List (List ℕ)
trace_lines trace = frame_lines 0 trace.frames ++ end_line trace.end ∷ []

-- what the first line of an event says after its number
abbrev pub answer_line : Answer → List ℕ
answer_line (Register image answer) =
    codes "register " ++ decimal image ++ codes " " ++ inserted_text answer
answer_line (Deregister base answer) =
    codes "deregister " ++ hex base ++ codes " " ++ removed_text answer
answer_line (Replace image answer) =
    codes "replace " ++ decimal image ++ codes " " ++ replaced_text answer
answer_line (Load image answer) = codes "load " ++ decimal image ++ codes " " ++ loading_text answer
answer_line (Unload base answer) = codes "unload " ++ hex base ++ codes " " ++ removed_text answer
answer_line (Find pc place) = codes "find " ++ hex pc ++ codes " " ++ place_text place
answer_line (Unwind snapshot trace) = codes "unwind " ++ decimal snapshot

-- and the lines after it
abbrev pub further_lines : Answer → List (List ℕ)
further_lines (Unwind snapshot trace) = trace_lines trace
further_lines _ = []

-- the lines of an event
abbrev pub answer_lines : Answer → List (List ℕ)
answer_lines answer = answer_line answer ∷ further_lines answer

-- an event's number: round, thread and event, each from 1
abbrev pub event_number : ℕ → ℕ → ℕ → List ℕ
event_number round thread event =
    decimal round ++ codes "." ++ decimal thread ++ codes "." ++ decimal event

-- a line of an event, after its number
abbrev pub event_line : ℕ → ℕ → ℕ → List ℕ → List ℕ
event_line round thread event line =
    event_number round thread event ++ codes " " ++ line ++ codes "\n"

-- the lines of an event, each after its number
abbrev pub answer_text : ℕ → ℕ → ℕ → Answer → List ℕ
answer_text round thread event answer =
    flat_map (event_line round thread event) (answer_lines answer)

-- a text for each item, which are numbered upwards, one after another
abbrev pub numbered : {X : Type 0} → (ℕ → X → List ℕ) → ℕ → List X → List ℕ
numbered text number [] = []
numbered text number (x ∷ xs) = text number x ++ numbered text (number + 1) xs

abbrev pub thread_text : ℕ → ℕ → List Answer → List ℕ
thread_text round thread answers = numbered (answer_text round thread) 1 answers

abbrev pub round_text : ℕ → List (List Answer) → List ℕ
round_text round threads = numbered (thread_text round) 1 threads

-- the last line has the number of updates
abbrev pub updates_text : ℕ → List ℕ
updates_text updates = codes "updates " ++ decimal updates ++ codes "\n"

abbrev pub journal_text : JournalData → List ℕ
journal_text journal = numbered round_text 1 journal.rounds ++ updates_text journal.updates

-- an update was answered with more than that the allowance is spent, and a place has its halves
abbrev pub IsPrintable : Answer → Type 0
IsPrintable (Register image inserted.Spent) = ⊥
IsPrintable (Deregister base removed.Spent) = ⊥
IsPrintable (Replace image replaced.Spent) = ⊥
IsPrintable (Load image loading.Spent) = ⊥
IsPrintable (Unload base removed.Spent) = ⊥
IsPrintable (Find pc place) = IsPlace place
IsPrintable (Unwind snapshot trace) = All (λ line. IsPlace line.place) trace.frames
IsPrintable _ = Unit {0}
