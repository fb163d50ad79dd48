-- What may be wrong with receipts that were told of a registry.
use Rattle.std.specs.Prelude.{◌≡◌, ◌≢◌, ℕ, ◌+◌, ◌<◌, ◌≤◌, List, map, max, false, true}
use Rattle.std.specs.Prelude.{count_by, is_some, IfSome, MatchOption, All, Contains}
use Rattle.reg_model.specs.State.{State}
use Rattle.reg_model.specs.History.{Fits, state_at}
use Rattle.reg_model.specs.Receipt.{moment, accepted, IsRight, Holds}
use Rattle.reg_model.specs.Numbers.{has_number, history_of}
use Rattle.reg_model.specs.declared.answer.Update.{Update}
use Rattle.reg_model.specs.declared.answer.Receipt.{Receipt}
use Rattle.receipt_check.specs.declared.account.Told.{Told}
use Rattle.receipt_check.specs.declared.account.ReceiptFlaw.{ReceiptFlaw}
use Rattle.receipt_check.specs.declared.account.ReceiptFlaw.TheVariants as flaw

-- what a contract sees of all that is told: receipts in the order of their lines, how many updates
-- were made as the last line says, that line, the registry's first state, and its nodes
pub record AccountData : Type 0 where
  pub told : List Told
  pub updates : ℕ
  pub last : ℕ
  pub start : State
  pub nodes : ℕ

-- the receipts alone
abbrev pub told_receipts : List Told → List Receipt
told_receipts told = map (λ t. t.receipt) told

-- the updates by the numbers that were told
abbrev pub told_history : AccountData → List Update
told_history a = history_of (told_receipts a.told) a.updates

-- This is the first line that tells a receipt which isn't so: whatever the order of the list.
pub record IsFirstLine (IsSo : Told → Type 0) (told : List Told) (line : ℕ) : Type 0 where
  pub wrong : Told
  pub listed : Contains told wrong
  pub here : wrong.line ≡ line
  pub is_wrong : ¬ IsSo wrong
  pub above : All (λ t. t.line < line → IsSo t) told

-- an accepted update has a number from 1 to n, which no line above it has
abbrev pub HasOwnNumber : List Told → ℕ → Told → Type 0
HasOwnNumber told n t =
    IfSome (accepted t.receipt) (λ u. (0 < moment t.receipt) × (moment t.receipt ≤ n)
    × All (λ other. other.line < t.line → has_number (moment t.receipt) other.receipt ≡ false) told)

-- where it is the accepted update with this number: the update fits the state before it, and a
-- removal names the member that goes, a replacement the payload that was there
abbrev pub FitsInTurn : State → ℕ → Told → Type 0
FitsInTurn s number t =
    has_number number t.receipt ≡ true
    → IfSome (accepted t.receipt) (λ u. Fits u s) × IsRight s t.receipt

-- each update with this number, counted from 0, is one that fits
abbrev pub UpdateFits : AccountData → ℕ → Type 0
UpdateFits a k = All (FitsInTurn (state_at a.start (told_history a) k) (k + 1)) a.told

-- an answer looks back to the updates of the rounds before it, and to what came before it on its
-- thread
abbrev pub since_of : Told → ℕ
since_of t = max t.before t.seen

-- the receipt holds in the history that was told
abbrev pub HoldsAsTold : AccountData → Told → Type 0
HoldsAsTold a t = Holds a.start (told_history a) a.nodes t.callers (since_of t) t.receipt

-- a stamp isn't below those before it on its thread, and a number is above them
abbrev pub ComesInOrder : Told → Type 0
ComesInOrder t =
    MatchOption (accepted t.receipt) (t.seen ≤ moment t.receipt) (λ u. t.seen < moment t.receipt)

-- a stamp or number lies between the updates before its round and those with it
abbrev pub ComesInRound : Told → Type 0
ComesInRound t = (t.before ≤ moment t.receipt) × (moment t.receipt ≤ t.after)

-- how many updates were accepted
abbrev pub accepted_count : List Told → ℕ
accepted_count told = count_by (λ t. is_some (accepted t.receipt)) told

-- nothing is wrong in this way
abbrev pub IsFreeOf : AccountData → ReceiptFlaw → Type 0
IsFreeOf a flaw.Number = All (HasOwnNumber a.told a.updates) a.told
IsFreeOf a flaw.Count = accepted_count a.told ≡ a.updates
IsFreeOf a flaw.History = (k : ℕ) → k < a.updates → UpdateFits a k
IsFreeOf a flaw.Answer = All (HoldsAsTold a) a.told
IsFreeOf a flaw.Order = All ComesInOrder a.told
IsFreeOf a flaw.Round = All ComesInRound a.told

-- the first update that doesn't fit is told on this line
abbrev pub IsFirstMisfit : AccountData → ℕ → Type 0
IsFirstMisfit a line =
    (k : ℕ) × (k < a.updates) × ((j : ℕ) → j < k → UpdateFits a j)
    × IsFirstLine (FitsInTurn (state_at a.start (told_history a) k) (k + 1)) a.told line

-- something is wrong in this way, and this is its line
abbrev pub IsFlawAt : AccountData → ReceiptFlaw → ℕ → Type 0
IsFlawAt a flaw.Number line = IsFirstLine (HasOwnNumber a.told a.updates) a.told line
IsFlawAt a flaw.Count line = (accepted_count a.told ≢ a.updates) × (line ≡ a.last)
IsFlawAt a flaw.History line = IsFirstMisfit a line
IsFlawAt a flaw.Answer line = IsFirstLine (HoldsAsTold a) a.told line
IsFlawAt a flaw.Order line = IsFirstLine ComesInOrder a.told line
IsFlawAt a flaw.Round line = IsFirstLine ComesInRound a.told line

-- flaws with a lower rank count first
abbrev pub rank : ReceiptFlaw → ℕ
rank flaw.Number = 2
rank flaw.Count = 3
rank flaw.History = 4
rank flaw.Answer = 5
rank flaw.Order = 6
rank flaw.Round = 7

-- nothing is wrong in a way that counts before this one
abbrev pub IsFreeBefore : AccountData → ℕ → Type 0
IsFreeBefore a r = (other : ReceiptFlaw) → rank other < r → IsFreeOf a other

-- this flaw counts, and this is its line
pub record CountsFirst (a : AccountData) (line : ℕ) (which : ReceiptFlaw) : Type 0 where
  pub at : IsFlawAt a which line
  pub before : IsFreeBefore a (rank which)

-- nothing is wrong
abbrev pub IsFlawless : AccountData → Type 0
IsFlawless a = (which : ReceiptFlaw) → IsFreeOf a which
