-- A journal's receipts as one list, each with its line.
use Rattle.std.specs.Prelude.{ℕ, ◌+◌, List, [], ◌∷◌, ◌++◌, Bool, true, false, length, map, max}
use Rattle.std.specs.Prelude.{sum_by, count_by}
use Rattle.reg_model.specs.SpanData.{SpanData}
use Rattle.reg_model.specs.Receipt.{moment, receipts_of_place}
use Rattle.reg_model.specs.declared.answer.Receipt.{Receipt}
use Rattle.reg_model.specs.declared.answer.Receipt.TheVariants as receipt
use Rattle.reg_model.specs.declared.answer.Inserted.TheVariants as inserted
use Rattle.reg_model.specs.declared.answer.Loading.TheVariants as loading
use Rattle.reg_model.specs.declared.answer.Removed.TheVariants as removed
use Rattle.reg_model.specs.declared.answer.Replaced.TheVariants as replaced
use Rattle.script_text.specs.ScriptData.{ScriptData}
use Rattle.script_text.specs.JournalData.{JournalData}
use Rattle.script_text.specs.Lawful.{image_member, start_of}
use Rattle.script_text.specs.declared.journal.Answer.{Answer}
use Rattle.script_text.specs.declared.journal.Answer.TheVariants.{Register, Deregister, Replace}
use Rattle.script_text.specs.declared.journal.Answer.TheVariants.{Load, Unload, Find, Unwind}
use Rattle.receipt_check.specs.declared.account.Told.{Told}
use Rattle.receipt_check.specs.Flaws.{AccountData}
use Rattle.journal_check.specs.declared.teller.Bounds.{Bounds}

-- the receipts that stand on each line of an event
abbrev pub receipt_lines : List SpanData → Answer → List (List Receipt)
receipt_lines images (Register image answer) =
    (receipt.Register (image_member images image) answer ∷ []) ∷ []
receipt_lines images (Deregister base answer) = (receipt.Deregister base answer ∷ []) ∷ []
receipt_lines images (Replace image answer) =
    (receipt.Replace (image_member images image) answer ∷ []) ∷ []
receipt_lines images (Load image answer) =
    (receipt.Load (image_member images image) answer ∷ []) ∷ []
receipt_lines images (Unload base answer) = (receipt.Unload base answer ∷ []) ∷ []
receipt_lines images (Find pc place) = receipts_of_place pc place ∷ []
receipt_lines images (Unwind snapshot trace) =
    [] ∷ (map (λ line. receipts_of_place line.look line.place) trace.frames ++ [] ∷ [])

-- what was told so far, the line that comes next, and the greatest stamp or number so far on its
-- thread
pub record TellingData : Type 0 where
  pub told : List Told
  pub line : ℕ
  pub seen : ℕ

-- a receipt is told on the line that comes next
abbrev pub tell_receipt : Bounds → TellingData → Receipt → TellingData
tell_receipt bounds t r = record {
  told = t.told ++ (record {
    line = t.line;
    before = bounds.before;
    after = bounds.after;
    callers = bounds.callers;
    seen = t.seen;
    receipt = r;
  }) ∷ [];
  line = t.line;
  seen = max t.seen (moment r);
}

-- a line ends
abbrev pub next_line : TellingData → TellingData
next_line t = record { told = t.told; line = t.line + 1; seen = t.seen }

-- what is told after each item of a list, one after another
abbrev pub told_after : {X : Type 0} → (TellingData → X → TellingData) → TellingData → List X
    → TellingData
told_after tell t [] = t
told_after tell t (x ∷ xs) = told_after tell (tell t x) xs

-- the receipts of a line
abbrev pub tell_line : Bounds → TellingData → List Receipt → TellingData
tell_line bounds t receipts = next_line (told_after (tell_receipt bounds) t receipts)

-- the lines of an event
abbrev pub tell_answer : List SpanData → Bounds → TellingData → Answer → TellingData
tell_answer images bounds t answer =
    told_after (tell_line bounds) t (receipt_lines images answer)

-- the lines of a thread, on which no stamp or number was seen yet
abbrev pub tell_thread : List SpanData → Bounds → TellingData → List Answer → TellingData
tell_thread images bounds t answers =
    told_after (tell_answer images bounds)
    (record { told = t.told; line = t.line; seen = 0 }) answers

-- whether an answer accepts an update
abbrev pub is_update : Answer → Bool
is_update (Register image (inserted.Done number)) = true
is_update (Deregister base (removed.Done number member)) = true
is_update (Replace image (replaced.Done number payload)) = true
is_update (Load image (loading.Done number)) = true
is_update (Unload base (removed.Done number member)) = true
is_update _ = false

-- the lines of all rounds, before which there were so many callers and so many updates
abbrev pub tell_rounds : List SpanData → ℕ → ℕ → TellingData → List (List (List Answer))
    → TellingData
tell_rounds images callers done t [] = t
tell_rounds images callers done t (round ∷ rounds) =
    let after = done + sum_by (count_by is_update) round in
    tell_rounds images (callers + length round) after
    (told_after (tell_thread images
    (record { before = done; after = after; callers = callers + length round })) t round) rounds

-- what a journal tells: its lines are counted from 1, and the last one has the number of updates
abbrev pub account_of : ScriptData → JournalData → AccountData
account_of script journal =
    let t = tell_rounds script.images 1 0 (record { told = []; line = 1; seen = 0 })
    journal.rounds in
    record {
      told = t.told;
      updates = journal.updates;
      last = t.line;
      start = start_of script;
      nodes = script.nodes;
    }
