-- Receipts are gone through in the order of the states in which their answers were given.
use Rattle.std.specs.Prelude.{◌≡◌, ℕ, ◌+◌, ◌-◌, ◌*◌, ◌<◌, ◌≤◌, List, length, map, Option, None}
use Rattle.std.specs.Prelude.{All, IfSome, if◌then◌else◌, nat_le, slice_index_or}
use Rattle.std.specs.List.{find}
use Rattle.std.specs.List.Sorted.{IsPermutation, IsNonDecreasingBy}
use Rattle.std.specs.Option.{option_and_then}
use Rattle.reg_model.specs.State.{State}
use Rattle.reg_model.specs.History.{Fits, state_at}
use Rattle.reg_model.specs.Receipt.{moment, accepted, made_before, IsAtNumber, IsRight}
use Rattle.reg_model.specs.Numbers.{has_number}
use Rattle.reg_model.specs.declared.answer.Update.{Update}
use Rattle.reg_model.specs.declared.answer.Inserted.TheVariants as inserted
use Rattle.reg_model.specs.declared.answer.Receipt.{Receipt}
use Rattle.reg_model.specs.declared.answer.Receipt.TheVariants.{Register}
use Rattle.receipt_check.specs.Flaws.{since_of}
use Rattle.receipt_check.specs.Search.{IsSought, HasOtherNumber}
use Rattle.receipt_check.specs.declared.account.Told.{Told}
use Rattle.receipt_check.specs.declared.last_moments.LastMoments.{LastMoments}
use Rattle.receipt_check.specs.declared.least_lines.LeastLines.{LeastLines}
use Rattle.receipt_check.specs.declared.present.Present.{Present}
use Rattle.receipt_check.specs.declared.turns.Turn.{Turn}
use Rattle.receipt_check.specs.Maps.{ShowsState, line_of}

-- ---- numbers

-- of each number the least line of the updates that have it
abbrev pub AreLines : List Told → LeastLines → Type 0
AreLines told lines = (number : ℕ) → IsSought (HasOtherNumber number) told (line_of lines number)

-- the update that was accepted first, in the order of the list, under a number
abbrev pub first_numbered : ℕ → List Receipt → Option Update
first_numbered number receipts = option_and_then accepted (find (has_number number) receipts)

-- the update that was accepted, where it has this number
abbrev pub update_at : ℕ → Receipt → Option Update
update_at number r = if (has_number number r) then (accepted r) else None

-- for each number up to n the first update that has it
pub record AreByNumber (receipts : List Receipt) (n : ℕ) (places : List (Option Update)) : Type 0
  where
    pub many : length places ≡ n
    pub each : (k : ℕ) → k < n → slice_index_or places k None ≡ first_numbered (k + 1) receipts

-- ---- turns

-- the receipts, in the order of the turns
abbrev pub rows_of : List Turn → List Told
rows_of turns = map (λ turn. turn.row.now) turns

-- each turn has the number of updates before its receipt's answer
abbrev pub AreTimed : List Turn → Type 0
AreTimed turns = All (λ turn. turn.before ≡ made_before turn.row.now.receipt) turns

-- the receipts, each with how many updates were made before its answer
pub record AreTurns (told : List Told) (turns : List Turn) : Type 0 where
  pub rows : rows_of turns ≡ told
  pub timed : AreTimed turns

-- the same in the order of these numbers
pub record AreInTurn (told : List Told) (turns : List Turn) : Type 0 where
  pub rows : IsPermutation told (rows_of turns)
  pub timed : AreTimed turns
  pub rising : IsNonDecreasingBy (λ turn. turn.before) turns

-- ---- the present state

-- so many were registered last at the moment before this one, or where it is 0 they never were
pub record IsLastWith (least : ℕ) (start : State) (history : List Update) (made last : ℕ) : Type 0
  where
    pub past : last ≤ made + 1
    pub there : 0 < last → least ≤ length (state_at start history (last - 1)).registered
    pub since : (k : ℕ) → last ≤ k → k ≤ made → length (state_at start history k).registered < least

-- what is kept of it, where this moment is the present one
abbrev pub last_with : LastMoments → ℕ → ℕ → ℕ
last_with moments made least =
    if (nat_le least moments.count) then (made + 1)
    else slice_index_or moments.ends.items (least - 1) 0

-- this is the registry after so many updates of the history
pub record IsPresent (start : State) (history : List Update) (p : Present) : Type 0 where
  pub within : p.made ≤ length history
  pub state : ShowsState p.lists (state_at start history p.made)
  pub last : (least : ℕ)
      → IsLastWith least start history p.made (last_with p.moments p.made least)

-- of a tree that was full, the last moment with so many isn't before this one
abbrev pub HadLast : ℕ → ℕ → Receipt → Type 0
HadLast last since (Register m (inserted.Full stamp)) = since < last
HadLast last since _ = Unit {0}

-- a tree that was full had ten at some moment since, and two for each node that was in it
pub record IsFilledNow (nodes : ℕ) (p : Present) (t : Told) : Type 0 where
  pub ten : HadLast (last_with p.moments p.made 10) (since_of t) t.receipt
  pub most : 2 ≤ nodes - 4 * t.callers
      → HadLast (last_with p.moments p.made (2 * (nodes - 4 * t.callers))) (since_of t) t.receipt

-- the receipt holds, where this is the state in which its answer was given
abbrev pub HoldsNow : List Update → State → ℕ → Present → Told → Type 0
HoldsNow history s nodes p t =
    (moment t.receipt ≤ length history) × IsAtNumber history t.receipt × IsRight s t.receipt
    × IsFilledNow nodes p t

-- the update that was accepted can be made in this state, and removes the member that it names, or
-- replaces its payload
abbrev pub FitsNow : State → Receipt → Type 0
FitsNow s r = IfSome (accepted r) (λ u. (Fits u s) × (IsRight s r))
