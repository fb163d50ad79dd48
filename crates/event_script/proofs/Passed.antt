-- Reasons of the table that were passed by, in order.
use Rattle.std.proofs.Common.{◌≡◌, ℕ, ◌+◌, ◌<◌, [], ◌∷◌, get_or, Bool, true, false, ltb, Result, Ok, Err, refl, sym, ap, ◌∙◌, subst, ltb-true, arith}
use Rattle.std.proofs.lemmas.Bool.{ltb-false}
use Rattle.frame_parse.specs.declared.fault.FrameFault.{FrameFault}
use Rattle.frame_parse.specs.declared.fault.FrameFault.TheVariants as frame_fault
use Rattle.event_script.specs.Draft.{DraftData}
use Rattle.event_script.specs.Reasons.{LineText, number_in_table, SpeaksAgainst, IsReason, IsGood}
use Rattle.script_text.specs.declared.reason.Reason.{Reason}
use Rattle.script_text.specs.declared.reason.Reason.TheVariants as reason

-- the reasons by their numbers, sections with this fault; nothing has the numbers 0 and 6
abbrev pub numbered : FrameFault → ℕ → Reason
numbered fault number =
    get_or
    (reason.Missing ∷ reason.Missing ∷ reason.After ∷ reason.Unended ∷ reason.Byte ∷ reason.Word ∷ reason.Word ∷ reason.Fields
    ∷ reason.Spelling ∷ reason.Order ∷ reason.Limit ∷ reason.Span ∷ reason.Section fault ∷ reason.Name ∷ reason.Fixed ∷ [])
    number reason.Region

-- each reason has a number of the table, which stands for it
record IsNumbered (r : Reason) : Type 0 where
  from : 0 < number_in_table r
  to : number_in_table r < 16
  fault : FrameFault
  back : r ≡ numbered fault (number_in_table r)

is_numbered : (r : Reason) → IsNumbered r
is_numbered (reason.Section fault) = record { from = omega arith; to = omega arith; fault = fault; back = refl }
is_numbered reason.Missing = record { from = omega arith; to = omega arith; fault = frame_fault.NoMemory; back = refl }
is_numbered _ = record { from = omega arith; to = omega arith; fault = frame_fault.NoMemory; back = refl }

module _ (known : DraftData) (text : LineText) where
  abbrev pub Not : Reason → Type 0
  Not why = SpeaksAgainst why known text → ⊥

  -- no reason with a smaller number holds
  abbrev pub Passed : ℕ → Type 0
  Passed n = (other : Reason) → number_in_table other < n → Not other

  pub pass_none : Passed 1
  pass_none other lt = absurd (omega (arith, (is_numbered other).from))

  -- the reason with the next number
  pass_number : (n : ℕ) → Passed n → ((fault : FrameFault) → Not (numbered fault n)) → Passed (n + 1)
  pass_number n before refute other lt = by (ltb (number_in_table other) n) refl
    where
      by : (t : Bool) → ltb (number_in_table other) n ≡ t → Not other
      by true e = before other (ltb-true _ _ e)
      by false e =
          let le = ltb-false (number_in_table other) n e in
          let here : number_in_table other ≡ n = omega arith in
          let row = is_numbered other in
          subst Not (sym (row.back ∙ ap (numbered row.fault) here)) (refute row.fault)

  -- one reason more
  pub pass : (why : Reason) → Passed (number_in_table why) → ((fault : FrameFault) → Not (numbered fault (number_in_table why))) → Passed (number_in_table why + 1)
  pass why = pass_number (number_in_table why)

  pub pass_section : Passed 12 → ((fault : FrameFault) → Not (reason.Section fault)) → Passed 13
  pass_section = pass_number 12

  -- no reason has the number 6
  pub pass_word : Passed 5 → Not reason.Word → Passed 7
  pass_word before refute other lt = pass_number 5 before (λ _. refute) other (skipped other lt)
    where
      skipped : (other : Reason) → number_in_table other < 7 → number_in_table other < 6
      skipped reason.Missing lt = omega arith
      skipped _ lt = omega arith

  pub pass_region : Passed 15 → Not reason.Region → IsGood known text
  pass_region before refute other = pass_number 15 before (λ _. refute) other (is_numbered other).to

  pub refused : (why : Reason) → Passed (number_in_table why) → SpeaksAgainst why known text → IsReason known text why
  refused why before holds = record { holds = holds; first = before }

  -- what the reader gives is the table's answer
  abbrev pub Judged : Result DraftData Reason → Type 0
  Judged (Ok next) = IsGood known text
  Judged (Err why) = IsReason known text why
