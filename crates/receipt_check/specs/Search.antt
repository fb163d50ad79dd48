-- A search for the first line with a receipt that isn't so.
use Rattle.std.specs.Prelude.{◌≡◌, ℕ, List, Option, Some, None, Bool, true, false, min}
use Rattle.std.specs.Prelude.{MatchOption, All}
use Rattle.reg_model.specs.Numbers.{has_number}
use Rattle.receipt_check.specs.Flaws.{IsFirstLine}
use Rattle.receipt_check.specs.declared.account.Told.{Told}

-- no receipt was wrong so far, or this is the first line with one that was
abbrev pub IsSought : (Told → Type 0) → List Told → Option ℕ → Type 0
IsSought IsSo told first = MatchOption first (All IsSo told) (IsFirstLine IsSo told)

-- the lower of the first line so far and this one, unless this one's receipt is so
abbrev pub lower_line : Option ℕ → ℕ → Bool → Option ℕ
lower_line first line true = first
lower_line None line false = Some line
lower_line (Some best) line false = Some (min best line)

-- it isn't the receipt of the accepted update with this number
abbrev pub HasOtherNumber : ℕ → Told → Type 0
HasOtherNumber number t = has_number number t.receipt ≡ false
