-- A text has one verdict at the most.
use Rattle.std.proofs.Common.{◌≡◌, ◌↔◌, ℕ, List, Result, Ok, Err, IfOk, All, inl, inr, refl, sym, ◌∙◌, ap, ap₂, subst}
use Rattle.script_text.specs.ScriptData.{ScriptData, IsRunnable}
use Rattle.script_text.specs.JournalData.{JournalData}
use Rattle.script_text.specs.Lawful.{IsLawfulJournal, IsUnfolded}
use Rattle.journal_reader.specs.FormFlaw.{TellsJournal}
use Rattle.journal_reader.proofs.OneAnswer.{one_journal, one_line, never_told_and_bad}
use Rattle.journal_reader.proofs.LawfulSizes.{lawful_is_told}
use Rattle.journal_reader.proofs.ToldAnswers.{told_answered}
use Rattle.reg_model.specs.declared.answer.NoMemory.{NoMemory}
use Rattle.receipt_check.specs.Flaws.{IsFlawless}
use Rattle.journal_check.specs.Telling.{account_of}
use Rattle.journal_check.specs.TextFlaws.{IsLawfulText, IsFirstFlaw, IsVerdictOn, CountsOfTold, answers_of, text_flaw}
use Rattle.journal_check.specs.declared.verdict.Flaw.{Flaw}
use Rattle.journal_check.specs.declared.verdict.Verdict.{Verdict}
use Rattle.journal_check.specs.declared.verdict.Verdict.TheVariants.{Lawful, Line}
use Rattle.journal_check.proofs.Flawless.{flawless}
use Rattle.journal_check.proofs.Strict.{lawful_from}
use Rattle.journal_check.proofs.Verdicts.{no_verdict, same_verdict}
use Rattle.journal_check.proofs.Passing.{first_once, none_departs, all_answers, all_by_round}

module _ (script : ScriptData) where
  nothing_counts : (journal : JournalData) (line : ℕ) (which : Flaw) → IsLawfulJournal script journal → CountsOfTold script journal line which → ⊥
  nothing_counts journal line which lawful (inl (found, is, first)) = no_verdict (account_of script journal) line found (flawless script journal lawful) first
  nothing_counts journal line which lawful (inr (is, free, departs)) =
      none_departs script (answers_of journal.rounds) 1 line (all_answers (IsUnfolded script.sections script.snapshots) journal.rounds lawful.unfolded) departs

  one_counts : (journal : JournalData) (line other : ℕ) (which another : Flaw) → CountsOfTold script journal line which → CountsOfTold script journal other another → (line ≡ other) × (which ≡ another)
  one_counts journal line other which another (inl (found, is, first)) (inl (also, as_well, second)) =
      let same = same_verdict (account_of script journal) line other found also first second in
      (same.0, is ∙ ap text_flaw same.1 ∙ sym as_well)
  one_counts journal line other which another (inl (found, is, first)) (inr (as_well, free, departs)) = absurd (no_verdict (account_of script journal) line found free first)
  one_counts journal line other which another (inr (is, free, departs)) (inl (also, as_well, second)) = absurd (no_verdict (account_of script journal) other also free second)
  one_counts journal line other which another (inr (is, free, departs)) (inr (as_well, free', departs')) =
      (first_once script (answers_of journal.rounds) 1 line other departs departs', is ∙ sym as_well)

  module _ (text : List ℕ) (run : IsRunnable script) where
    tells : (updates : ℕ) (is : IsLawfulText script text updates) → TellsJournal script text is.journal
    tells updates is = subst (λ t. TellsJournal script t is.journal) is.spelled (lawful_is_told script is.journal run is.lawful)

    same_count : (updates others : ℕ) → IsLawfulText script text updates → IsLawfulText script text others → updates ≡ others
    same_count updates others one two =
        let same = one_journal script text one.journal two.journal run (tells updates one) (tells others two) in
        sym one.counted ∙ ap (λ (j : JournalData). j.updates) same ∙ two.counted

    never_both : (updates line : ℕ) (which : Flaw) → IsLawfulText script text updates → IsFirstFlaw script text line which → ⊥
    never_both updates line which lawful (inl (is, form)) = never_told_and_bad script text lawful.journal line (tells updates lawful) form
    never_both updates line which lawful (inr (journal, told, counts)) =
        let same = one_journal script text journal lawful.journal run told (tells updates lawful) in
        nothing_counts lawful.journal line which lawful.lawful (subst (λ (j : JournalData). CountsOfTold script j line which) same counts)

    one_flaw : (line other : ℕ) (which another : Flaw) → IsFirstFlaw script text line which → IsFirstFlaw script text other another → (line ≡ other) × (which ≡ another)
    one_flaw line other which another (inl (is, form)) (inl (as_well, form')) = (one_line script text line other form form', is ∙ sym as_well)
    one_flaw line other which another (inl (is, form)) (inr (journal, told, counts)) = absurd (never_told_and_bad script text journal line told form)
    one_flaw line other which another (inr (journal, told, counts)) (inl (is, form)) = absurd (never_told_and_bad script text journal other told form)
    one_flaw line other which another (inr (journal, told, counts)) (inr (journal', told', counts')) =
        let same = one_journal script text journal' journal run told' told in
        one_counts journal line other which another counts (subst (λ (j : JournalData). CountsOfTold script j other another) same counts')

    pub one_verdict_on : (one other : Verdict) → IsVerdictOn script text one → IsVerdictOn script text other → one ≡ other
    one_verdict_on (Lawful updates) (Lawful others) is as_well = ap Lawful (same_count updates others is as_well)
    one_verdict_on (Lawful updates) (Line line which) is as_well = absurd (never_both updates line which is as_well)
    one_verdict_on (Line line which) (Lawful updates) is as_well = absurd (never_both updates line which as_well is)
    one_verdict_on (Line line which) (Line other another) is as_well = (let same = one_flaw line other which another is as_well in ap₂ Line same.0 same.1)

  -- ---- which

  abbrev Once : List ℕ → Type 0
  Once text = (one other : Verdict) → IsVerdictOn script text one → IsVerdictOn script text other → one ≡ other

  pub exactly_lawful : (text : List ℕ) (r : Result Verdict NoMemory) → Once text → IfOk r (IsVerdictOn script text) → IfOk r (λ v. (updates : ℕ) → (v ≡ Lawful updates) ↔ IsLawfulText script text updates)
  exactly_lawful text (Ok v) once is = λ updates. (λ same. subst (IsVerdictOn script text) same is, λ lawful. once v (Lawful updates) is lawful)
  exactly_lawful text (Err e) once is = tt

  pub exactly_flawed : (text : List ℕ) (r : Result Verdict NoMemory) → Once text → IfOk r (IsVerdictOn script text) → IfOk r (λ v. (line : ℕ) (which : Flaw) → (v ≡ Line line which) ↔ IsFirstFlaw script text line which)
  exactly_flawed text (Ok v) once is = λ line which. (λ same. subst (IsVerdictOn script text) same is, λ flaw. once v (Line line which) is flaw)
  exactly_flawed text (Err e) once is = tt

  -- nothing is wrong with a journal that is told
  pub found_lawful : (journal : JournalData) (text : List ℕ) → IsFlawless (account_of script journal) → All (IsUnfolded script.sections script.snapshots) (answers_of journal.rounds) → TellsJournal script text journal → IsLawfulText script text journal.updates
  found_lawful journal text free unfolded tells = record {
    journal = journal;
    lawful = lawful_from script journal free (told_answered script journal tells.told) (all_by_round (IsUnfolded script.sections script.snapshots) journal.rounds unfolded);
    spelled = tells.spelled;
    counted = refl;
  }
