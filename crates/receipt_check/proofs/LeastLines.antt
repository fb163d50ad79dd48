-- The least line of the updates with a number.
use Rattle.std.proofs.Common.{◌≡◌, ℕ, ◌+◌, ◌<◌, List, length, get_or, take, Option, Bool, true, false, not, IsTrue, ◌↔◌, refl, sym, subst}
use Rattle.std.proofs.lemmas.Bool.{false≢true}
use Rattle.reg_model.specs.Numbers.{has_number}
use Rattle.receipt_check.specs.declared.account.Told.{Told}
use Rattle.receipt_check.specs.declared.least_lines.LeastLines.{LeastLines}
use Rattle.receipt_check.specs.Maps.{line_of}
use Rattle.receipt_check.specs.Search.{IsSought, lower_line, HasOtherNumber}
use Rattle.receipt_check.specs.Sweep.{AreLines}
use Rattle.receipt_check.proofs.Sought.{sought_more}

not_other : (b : Bool) → (IsTrue (not b) ↔ (b ≡ false))
not_other true = (λ never. absurd (false≢true never), λ never. absurd (false≢true (sym never)))
not_other false = (λ _. refl, λ _. refl)

-- one receipt more
pub lines_more : (told : List Told) (i : ℕ) (t : Told) (old new : LeastLines) → i < length told → t ≡ get_or told i t → ((number : ℕ) → line_of new number ≡ lower_line (line_of old number) t.line (not (has_number number t.receipt))) → AreLines (take i told) old → AreLines (take (i + 1) told) new
lines_more told i t old new within is put lines = λ number.
    subst (λ (first : Option ℕ). IsSought (HasOtherNumber number) (take (i + 1) told) first) (sym (put number)) (sought_more (HasOtherNumber number) told i t (line_of old number) (not (has_number number t.receipt)) within is (not_other (has_number number t.receipt)) (lines number))
