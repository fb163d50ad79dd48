-- Results of reads: one after another, and with their faults seen in another way.
use Rattle.std.specs.Prelude.{◌≡◌, Result, Ok, Err}

-- where one read goes well, the next goes on after it
infixl 10 ◌and_then◌
abbrev pub ◌and_then◌ : {A B F : Type 0} → Result A F → (A → Result B F) → Result B F
(Ok x) and_then f = f x
(Err e) and_then f = Err e

-- the same value, or the fault as the one around it sees it
abbrev pub with_fault : {A F G : Type 0} → (F → G) → Result A F → Result A G
with_fault place (Ok x) = Ok x
with_fault place (Err e) = Err (place e)

-- The call left the value that is due, or gave the fault in its place.
abbrev pub Leaves : {S F : Type 0} → Result S F → Result (Unit {0}) F → S → Type 0
Leaves due (Ok x) new = due ≡ Ok new
Leaves due (Err e) new = due ≡ Err e
