-- The numbers of accepted updates, and the history that is read off them.
use Rattle.std.specs.Prelude.{◌≡◌, ℕ, zero, suc, List, [], ◌++◌, Bool, ◌&&◌, ◌==◌, nat_le, is_some}
use Rattle.std.specs.Prelude.{count_by, if◌then◌else◌}
use Rattle.std.specs.List.{find}
use Rattle.std.specs.Option.{option_and_then, option_to_list}
use Rattle.reg_model.specs.Receipt.{moment, accepted}
use Rattle.reg_model.specs.declared.answer.Update.{Update}
use Rattle.reg_model.specs.declared.answer.Receipt.{Receipt}

-- whether it is the receipt of the accepted update with this number
abbrev pub has_number : ℕ → Receipt → Bool
has_number number r = is_some (accepted r) && (moment r == number)

-- the numbers from 1 to n stand on one receipt each, and no other number stands on one
abbrev pub AreNumbered : ℕ → List Receipt → Type 0
AreNumbered n receipts =
    (number : ℕ) → count_by (has_number number) receipts
    ≡ (if (nat_le 1 number && nat_le number n) then 1 else 0)

-- the first n updates by their numbers
abbrev pub history_of : List Receipt → ℕ → List Update
history_of receipts zero = []
history_of receipts (suc n) =
    history_of receipts n
    ++ option_to_list (option_and_then accepted (find (has_number (suc n)) receipts))
