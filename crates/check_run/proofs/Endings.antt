-- How the program ends.
use Rattle.std.proofs.Common.{◌≡◌, ◌≢◌, ◌⊎◌, ◌↔◌, ℕ, ◌≤◌, List, [], ◌∷◌, length, map, true, false, eqb, eqb-true, Option, Some, None, IfSome, refl, sym, ap, ◌∙◌, subst, inl, inr, arith}
use Rattle.script_text.specs.ScriptData.{ScriptData, IsRunnable}
use Rattle.script_text.specs.Spelling.{IsScript}
use Rattle.event_script.specs.Refusal.{HasOneReading}
use Rattle.run_ports.specs.Endings.{Change, WritesPart}
use Rattle.run_ports.specs.Ports.{Rose}
use Rattle.run_ports.specs.declared.status.Ending.TheVariants as ending
use Rattle.journal_check.specs.TextFlaws.{IsFirstFlaw, IsLawfulText, IsVerdictOn}
use Rattle.journal_check.specs.declared.verdict.Flaw.{Flaw}
use Rattle.journal_check.specs.declared.verdict.Verdict.{Verdict}
use Rattle.journal_check.specs.declared.verdict.Verdict.TheVariants as verdict
use Rattle.check_run.specs.Parts.{script_part, journal_part}
use Rattle.check_run.specs.CheckOutcome.{IsCheckAnswer, IsDueFor, IsCheckDue, CheckEnds, CheckEndsFor}
use Rattle.check_run.specs.CheckStatuses.{check_ending_of, verdict_status}
use Rattle.check_run.specs.declared.running.TheConstants.{CHECK_LIMIT}
use Rattle.check_run.specs.declared.status.CheckStatus.{CheckStatus}
use Rattle.check_run.specs.declared.status.CheckStatus.TheVariants.{Lawful, Unlawful, Usage, Script, ReadFault, WriteFault, NoMemory, TooLong}

-- only WriteFault says that a write failed
pub check_write_told : (status : CheckStatus) → check_ending_of status ≡ ending.WriteFault → status ≡ WriteFault
check_write_told status is = grind arith

-- a verdict's line is written with its status
pub verdict_written : (v : Verdict) → check_ending_of (verdict_status v) ≡ ending.Written
verdict_written (verdict.Lawful updates) = refl
verdict_written (verdict.Line line flaw) = refl

pub verdict_due : (input : Option (List ℕ)) (v : Verdict) (text : List ℕ) → IsCheckAnswer input v text → IsDueFor input (verdict_status v) text
verdict_due input (verdict.Lawful updates) text answer = (verdict.Lawful updates, refl, answer)
verdict_due input (verdict.Line line flaw) text answer = (verdict.Line line flaw, refl, answer)

-- ---- there are no words

module _ (words : List (List ℕ)) (input : Option (List ℕ)) (none : words ≡ []) where
  due_for : (status : CheckStatus) (text : List ℕ) → IsDueFor input status text → IsCheckDue words input status text
  due_for Lawful text due = (none, due)
  due_for Unlawful text due = (none, due)
  due_for Script text due = (none, due)
  due_for TooLong text due = (none, due)
  due_for Usage text due = absurd due
  due_for ReadFault text due = absurd due
  due_for WriteFault text due = absurd due
  due_for NoMemory text due = absurd due

  part_for : (old new : Option (List ℕ)) → WritesPart (IsDueFor input) old new → WritesPart (IsCheckDue words input) old new
  part_for old new (inl same) = inl same
  part_for old new (inr (status, text, due, gains)) = inr (status, text, due_for status text due, gains)

  pub ends_for : (change : Change) (end : CheckStatus) → CheckEndsFor input change end → CheckEnds words input change end
  ends_for change Lawful (text, due, gains) = (text, (none, due), gains)
  ends_for change Unlawful (text, due, gains) = (text, (none, due), gains)
  ends_for change Script (text, due, gains) = (text, (none, due), gains)
  ends_for change TooLong (text, due, gains) = (text, (none, due), gains)
  ends_for change Usage (text, due, gains) = absurd due
  ends_for change ReadFault (asked, rose, same) = (none, rose, same)
  ends_for change WriteFault (rose, part) = (rose, part_for change.held change.held_after part)
  ends_for change NoMemory part = part_for change.held change.held_after part

-- ---- what can be read is judged

module _ (one_answer : (bytes : List ℕ) → HasOneReading bytes) (words : List (List ℕ)) (none : words ≡ []) (change : Change) where
  abbrev Judged : CheckStatus → Type 0
  Judged end = (end ≡ Lawful) ⊎ ((end ≡ Unlawful) ⊎ (end ≡ NoMemory))

  judged_with : (bytes : List ℕ) (end : CheckStatus) → CheckEnds words (Some bytes) change end → length bytes ≤ CHECK_LIMIT → (script : ScriptData) → IsScript (script_part bytes) script → ¬ Rose change.reads change.reads_after → ¬ Rose change.writes change.writes_after → Judged end
  judged_with bytes Lawful ends short script spelled reads writes = inl refl
  judged_with bytes Unlawful ends short script spelled reads writes = inr (inl refl)
  judged_with bytes NoMemory ends short script spelled reads writes = inr (inr refl)
  judged_with bytes Usage (text, due, gains) short script spelled reads writes = absurd (due.0 none)
  judged_with bytes TooLong (text, (none', due), gains) short script spelled reads writes = absurd (let long = due.0 in omega arith)
  judged_with bytes Script (text, (none', due), gains) short script spelled reads writes = absurd ((one_answer (script_part bytes)).never_both script due.line due.reason spelled due.first.1)
  judged_with bytes ReadFault ends short script spelled reads writes = absurd (reads ends.1)
  judged_with bytes WriteFault ends short script spelled reads writes = absurd (writes ends.0)

  pub check_complete : (input : Option (List ℕ)) (end : CheckStatus) → CheckEnds words input change end → IfSome input (λ bytes. length bytes ≤ CHECK_LIMIT → (script : ScriptData) → IsScript (script_part bytes) script → ¬ Rose change.reads change.reads_after → ¬ Rose change.writes change.writes_after → Judged end)
  check_complete None end ends = tt
  check_complete (Some bytes) end ends = judged_with bytes end ends

  module _ (one_verdict : (script : ScriptData) (text : List ℕ) (one other : Verdict) → IsRunnable script → IsVerdictOn script text one → IsVerdictOn script text other → one ≡ other) where
    -- the verdict that was written is the one that is right
    same_verdict_written : (bytes text : List ℕ) (script : ScriptData) (v w : Verdict) → IsScript (script_part bytes) script → IsVerdictOn script (journal_part bytes) v → IsCheckAnswer (Some bytes) w text → w ≡ v
    same_verdict_written bytes text script v w spelled right answer =
        let same : answer.script ≡ script = (one_answer (script_part bytes)).one_script answer.script script answer.spelled.1 spelled in
        let run = spelled.runnable in
        one_verdict script (journal_part bytes) w v run (subst (λ (s : ScriptData). IsVerdictOn s (journal_part bytes) w) same answer.right) right

    exact_with : (bytes : List ℕ) (end : CheckStatus) → CheckEnds words (Some bytes) change end → length bytes ≤ CHECK_LIMIT → (script : ScriptData) → IsScript (script_part bytes) script → ¬ Rose change.reads change.reads_after → ¬ Rose change.writes change.writes_after → (v : Verdict) → IsVerdictOn script (journal_part bytes) v → (end ≡ verdict_status v) ⊎ (end ≡ NoMemory)
    exact_with bytes Lawful (text, (none', (w, is, answer)), gains) short script spelled reads writes v right = inl (sym is ∙ ap verdict_status (same_verdict_written bytes text script v w spelled right answer))
    exact_with bytes Unlawful (text, (none', (w, is, answer)), gains) short script spelled reads writes v right = inl (sym is ∙ ap verdict_status (same_verdict_written bytes text script v w spelled right answer))
    exact_with bytes NoMemory ends short script spelled reads writes v right = inr refl
    exact_with bytes Usage (text, due, gains) short script spelled reads writes v right = absurd (due.0 none)
    exact_with bytes TooLong (text, (none', due), gains) short script spelled reads writes v right = absurd (let long = due.0 in omega arith)
    exact_with bytes Script (text, (none', due), gains) short script spelled reads writes v right = absurd ((one_answer (script_part bytes)).never_both script due.line due.reason spelled due.first.1)
    exact_with bytes ReadFault ends short script spelled reads writes v right = absurd (reads ends.1)
    exact_with bytes WriteFault ends short script spelled reads writes v right = absurd (writes ends.0)

    pub check_exact : (input : Option (List ℕ)) (end : CheckStatus) → CheckEnds words input change end → IfSome input (λ bytes. length bytes ≤ CHECK_LIMIT → (script : ScriptData) → IsScript (script_part bytes) script → ¬ Rose change.reads change.reads_after → ¬ Rose change.writes change.writes_after → (v : Verdict) → IsVerdictOn script (journal_part bytes) v → (end ≡ verdict_status v) ⊎ (end ≡ NoMemory))
    check_exact None end ends = tt
    check_exact (Some bytes) end ends = exact_with bytes end ends

-- ---- the parts of what was taken

-- what is known of a verdict that was given says that it is right
pub verdict_right : (script : ScriptData) (text : List ℕ) (v : Verdict) → ((updates : ℕ) → (v ≡ verdict.Lawful updates) ↔ IsLawfulText script text updates) → ((line : ℕ) (which : Flaw) → (v ≡ verdict.Line line which) ↔ IsFirstFlaw script text line which) → IsVerdictOn script text v
verdict_right script text (verdict.Lawful updates) lawful flaw = (lawful updates).0 refl
verdict_right script text (verdict.Line line which) lawful flaw = (flaw line which).0 refl

pub verdict_on_part : (input : Option (List ℕ)) (script : ScriptData) (text : List ℕ) (v : Verdict) → IfSome input (λ bytes. journal_part bytes ≡ text) → IsVerdictOn script text v → IfSome input (λ bytes. IsVerdictOn script (journal_part bytes) v)
verdict_on_part None script text v same right = tt
verdict_on_part (Some bytes) script text v same right = subst (λ t. IsVerdictOn script t v) (sym same) right

-- words that there are, and none
pub no_words : {X : Type 0} (f : X → List ℕ) (xs : List X) → eqb (length xs) 0 ≡ true → map f xs ≡ []
no_words f [] none = refl
no_words f (x ∷ xs) none = absurd (omega (arith, eqb-true (length (x ∷ xs)) 0 none))

pub some_words : {X : Type 0} (f : X → List ℕ) (xs : List X) → eqb (length xs) 0 ≡ false → map f xs ≢ []
some_words f [] some is = absurd cc
some_words f (x ∷ xs) some is = absurd cc
