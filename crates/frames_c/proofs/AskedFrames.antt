-- Steps by what was told of a memory, and by the memory itself.
use Rattle.std.proofs.Common.{◌≡◌, ℕ, List, Bool, Option, Some, None, ap, subst, sym, arith}
use Rattle.frame_expr.specs.Regions.{RegionData, word_at}
use Rattle.frame_parse.specs.Sections.{FdeData}
use Rattle.sound_records.specs.declared.refused.RefusedRecord.{RefusedRecord}
use Rattle.told_memory.specs.Telling.{IsToldOf, LacksAsMemory}
use Rattle.unwind_step.specs.NextFrame.{IsNextFrame}
use Rattle.unwind_step.specs.declared.next.Stepped.{Stepped}
use Rattle.unwind_step.specs.declared.next.Stepped.TheVariants.{Frame, NoRow, Undefined, NoBytes}
use Rattle.frames_c.specs.FrameSteps.{AnswersOutcome, AnswersUnless, frame_after, frame_look, outcome_told}
use Rattle.frames_c.specs.declared.step.FramesFrame.{FramesFrame}

abbrev pub WordsServe : Type 0
WordsServe = (told memory : List RegionData) (f : FdeData) (look : ℕ) (old : List ℕ) (outcome : Stepped) → IsToldOf told memory → LacksAsMemory memory outcome
    → IsNextFrame f look old told outcome → IsNextFrame f look old memory outcome

abbrev pub AsksAnew : Type 0
AsksAnew = (told : List RegionData) (f : FdeData) (look a : ℕ) (old : List ℕ) → IsNextFrame f look old told (NoBytes a) → word_at a told ≡ None

-- the address at which a frame wants a word
missing_there : (a : ℕ) (signal : Bool) (old new : FramesFrame) → new ≡ frame_after signal (NoBytes a) old → new.missing ≡ a
missing_there a signal old new after = ap (λ (f : FramesFrame). f.missing) after

lacks_as : (memory : List RegionData) (outcome : Stepped) (signal : Bool) (old new : FramesFrame) (result : ℕ) → result ≡ outcome_told outcome → new ≡ frame_after signal outcome old
    → (result ≡ 4 → word_at new.missing memory ≡ None) → LacksAsMemory memory outcome
lacks_as memory (Frame regs) signal old new result is after none = tt
lacks_as memory NoRow signal old new result is after none = tt
lacks_as memory Undefined signal old new result is after none = tt
lacks_as memory (NoBytes a) signal old new result is after none = subst (λ (k : ℕ). word_at k memory ≡ None) (missing_there a signal old new after) (none is)

served : WordsServe → (told memory : List RegionData) (found : Option FdeData) (old new : FramesFrame) (result : ℕ) → AnswersOutcome found told old result new → IsToldOf told memory
    → (result ≡ 4 → word_at new.missing memory ≡ None) → AnswersOutcome found memory old result new
served law told memory None old new result is agrees none = is
served law told memory (Some f) old new result is agrees none =
    let lacks = lacks_as memory is.0 f.entry.cie.augmentation.signal old new result is.2 is.3 none in
    (is.0, law told memory f (frame_look old) old.columns is.0 agrees lacks is.1, is.2, is.3)

-- also where a refused record answers
pub serves : WordsServe → (told memory : List RegionData) (claim : Option RefusedRecord) (found : Option FdeData) (old new : FramesFrame) (result : ℕ) → AnswersUnless claim found told old result new → IsToldOf told memory
    → (result ≡ 4 → word_at new.missing memory ≡ None) → AnswersUnless claim found memory old result new
serves law told memory (Some x) found old new result is agrees none = is
serves law told memory None found old new result is agrees none = served law told memory found old new result is agrees none

asked_anew : AsksAnew → (told : List RegionData) (f : FdeData) (outcome : Stepped) (signal : Bool) (old new : FramesFrame) (result : ℕ) → IsNextFrame f (frame_look old) old.columns told outcome
    → result ≡ outcome_told outcome → new ≡ frame_after signal outcome old → result ≡ 4 → word_at new.missing told ≡ None
asked_anew law told f (Frame regs) signal old new result is_next is after four = absurd (omega (arith, is, four))
asked_anew law told f NoRow signal old new result is_next is after four = absurd (omega (arith, is, four))
asked_anew law told f Undefined signal old new result is_next is after four = absurd (omega (arith, is, four))
asked_anew law told f (NoBytes a) signal old new result is_next is after four =
    subst (λ (k : ℕ). word_at k told ≡ None) (sym (missing_there a signal old new after)) (law told f (frame_look old) a old.columns is_next)

asked : AsksAnew → (told : List RegionData) (found : Option FdeData) (old new : FramesFrame) (result : ℕ) → AnswersOutcome found told old result new → result ≡ 4 → word_at new.missing told ≡ None
asked law told None old new result is four = absurd (omega (arith, is.0, four))
asked law told (Some f) old new result is four = asked_anew law told f is.0 f.entry.cie.augmentation.signal old new result is.1 is.2 is.3 four

pub asks : AsksAnew → (told : List RegionData) (claim : Option RefusedRecord) (found : Option FdeData) (old new : FramesFrame) (result : ℕ) → AnswersUnless claim found told old result new → result ≡ 4 → word_at new.missing told ≡ None
asks law told (Some x) found old new result is four = absurd (omega (arith, is.0, four))
asks law told None found old new result is four = asked law told found old new result is four
