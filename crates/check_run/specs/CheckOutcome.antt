-- What the program writes, and when it ends how.
use Rattle.std.specs.Prelude.{◌≡◌, ◌≢◌, ℕ, ◌<◌, ◌≤◌, List, [], length, Option, IfSome, codes}
use Rattle.script_text.specs.ScriptData.{ScriptData}
use Rattle.script_text.specs.Spelling.{IsScript}
use Rattle.script_text.specs.FaultText.{fault_text}
use Rattle.event_script.specs.Refusal.{IsFirstBad}
use Rattle.script_text.specs.declared.reason.Reason.{Reason}
use Rattle.journal_check.specs.TextFlaws.{IsVerdictOn}
use Rattle.journal_check.specs.declared.verdict.Verdict.{Verdict}
use Rattle.run_ports.specs.Endings.{Change, EndsWith}
use Rattle.check_run.specs.Parts.{script_part, journal_part}
use Rattle.check_run.specs.CheckText.{verdict_line}
use Rattle.check_run.specs.CheckStatuses.{check_ending_of, verdict_status}
use Rattle.check_run.specs.declared.running.TheConstants.{CHECK_LIMIT}
use Rattle.check_run.specs.declared.status.CheckStatus.{CheckStatus}
use Rattle.check_run.specs.declared.status.CheckStatus.TheVariants.{Lawful, Unlawful, Usage, Script}
use Rattle.check_run.specs.declared.status.CheckStatus.TheVariants.{TooLong}

abbrev pub check_usage_line : List ℕ
check_usage_line = codes "usage: check_main\n"

abbrev pub input_too_long_line : List ℕ
input_too_long_line = codes "input too long\n"

-- The text is a verdict's line, and the verdict is right: of the script that the source's bytes
-- begin with, where it tells them, and the text that follows it. They are no more than are taken.
pub record IsCheckAnswer (input : Option (List ℕ)) (verdict : Verdict)
    (text : List ℕ) : Type 0 where
  pub script : ScriptData
  pub spelled : IfSome input (λ bytes.
      (length bytes ≤ CHECK_LIMIT) × IsScript (script_part bytes) script)
  pub right : IfSome input (λ bytes. IsVerdictOn script (journal_part bytes) verdict)
  pub text_is : text ≡ verdict_line verdict

-- The text tells of the first bad line of the script's part, and of the first reason that holds.
pub record IsRefusedPart (input : Option (List ℕ)) (text : List ℕ) : Type 0 where
  pub line : ℕ
  pub reason : Reason
  pub first : IfSome input (λ bytes.
      (length bytes ≤ CHECK_LIMIT) × IsFirstBad (script_part bytes) line reason)
  pub text_is : text ≡ fault_text line reason

-- What is due to be written with a status, from the bytes of the source.
abbrev pub IsDueFor : Option (List ℕ) → CheckStatus → List ℕ → Type 0
IsDueFor input Lawful text =
    (verdict : Verdict) × (verdict_status verdict ≡ Lawful) × IsCheckAnswer input verdict text
IsDueFor input Unlawful text =
    (verdict : Verdict) × (verdict_status verdict ≡ Unlawful) × IsCheckAnswer input verdict text
IsDueFor input TooLong text =
    IfSome input (λ bytes. CHECK_LIMIT < length bytes) × (text ≡ input_too_long_line)
IsDueFor input Script text = IsRefusedPart input text
IsDueFor input _ text = ⊥

-- What is due to be written with a status, from these words and the bytes of the source.
abbrev pub IsCheckDue : List (List ℕ) → Option (List ℕ) → CheckStatus → List ℕ → Type 0
IsCheckDue words input Usage text = (words ≢ []) × (text ≡ check_usage_line)
IsCheckDue words input status text = (words ≡ []) × IsDueFor input status text

-- how the program may end with these words and this input
abbrev pub CheckEnds : List (List ℕ) → Option (List ℕ) → Change → CheckStatus → Type 0
CheckEnds words input change status =
    EndsWith (IsCheckDue words input) (words ≡ []) change status (check_ending_of status)

-- how it may end where there are no words
abbrev pub CheckEndsFor : Option (List ℕ) → Change → CheckStatus → Type 0
CheckEndsFor input change status =
    EndsWith (IsDueFor input) (Unit {0}) change status (check_ending_of status)
