-- Rounds: a caller splits off one for each thread, and joins them in order.
use Rattle.std.specs.Prelude.{◌≡◌, ℕ, ◌+◌, ◌-◌, List, [], ◌∷◌, ◌++◌, length, map}
use Rattle.std.specs.List.{flat_map, AllByRecursion}
use mathlib.Core.List.{IsPrefix}
use Rattle.reg_model.specs.Chain.{IsBetween, made_count}
use Rattle.reg_model.specs.declared.answer.Receipt.{Receipt}
use Rattle.word_rule.specs.CallerData.{CallerData}
use Rattle.word_rule.specs.Callers.{IsAlone, IsIdle, IsRecord, IsWhole}
use Rattle.word_rule.specs.Logs.{after_join, after_split, reader_of, split_off}
use Rattle.word_rule.specs.declared.log.Log.{Log}
use Rattle.word_rule.specs.declared.log.ReceiptList.{ReceiptList}
use Rattle.word_rule.specs.declared.log.Receipts.{Receipts}
use Rattle.registry_core.specs.Calls.{Answered}

-- a caller after it split off one with so many update calls, and the one that was split off
abbrev pub after_one_split : ℕ → CallerData → CallerData
after_one_split give k =
    record k { left = k.left - give; log = after_split k.left give k.log }

abbrev pub one_split_off : ℕ → CallerData → CallerData
one_split_off give k =
    record { table = k.table; left = give; log = split_off k.left give k.log }

-- the same for each of these numbers, in order
abbrev pub after_splits : List ℕ → CallerData → CallerData
after_splits [] k = k
after_splits (give ∷ gives) k = after_splits gives (after_one_split give k)

abbrev pub all_split_off : List ℕ → CallerData → List CallerData
all_split_off [] k = []
all_split_off (give ∷ gives) k =
    one_split_off give k ∷ all_split_off gives (after_one_split give k)

-- a caller after another was joined into it
abbrev pub after_one_join : CallerData → CallerData → CallerData
after_one_join other k =
    record k { left = k.left + other.left; log = after_join k.log other.log }

-- after all of these, in order
abbrev pub after_joins : List CallerData → CallerData → CallerData
after_joins [] k = k
after_joins (other ∷ others) k = after_joins others (after_one_join other k)

-- whoever is alone has a whole log
abbrev pub IsWholeWhereAlone : Log → Type 0
IsWholeWhereAlone v = IsAlone v.lineage → IsWhole v

-- the receipts of each caller that was joined into a log
abbrev pub joined_lists : Receipts → List (List Receipt)
joined_lists r = map (λ receipts. receipts.list) r.joined

-- all receipts of a log: its own, and those of each caller that was joined into it
abbrev pub all_receipts : Receipts → List Receipt
all_receipts r = r.own ++ flat_map (λ receipts. receipts) (joined_lists r)

-- the receipts of callers that had seen so many updates when they were split off
abbrev pub lists_since : ℕ → List (List Receipt) → List ReceiptList
lists_since since lists = map (λ receipts. record { since = since; list = receipts }) lists

-- A caller between two rounds: it is alone, did nothing itself, holds nothing, and has a whole log.
pub record IsBetweenRounds (k : CallerData) : Type 0 where
  pub alone : IsAlone k.log.lineage
  pub own : k.log.receipts.own ≡ []
  pub idle : IsIdle k.log
  pub whole : IsWhole k.log

-- One that was split off another for so many update calls has seen what that one had seen, and has
-- done nothing.
pub record IsSplitOff (k : CallerData) (give : ℕ) (c : CallerData) : Type 0 where
  pub table : c.table ≡ k.table
  pub left : c.left ≡ give
  pub terms : c.log.terms ≡ k.log.terms
  pub past : c.log.past ≡ k.log.past
  pub receipts : c.log.receipts
      ≡ record { since = length k.log.past; own = []; joined = []; heard = [] }
  pub idle : IsIdle c.log
  pub made : c.log.made ≡ 0

-- A reader that has seen what a caller or a reader has was split off it, which stays as it was.
pub record SplitsReader (k k' reader : CallerData) : Type 0 where
  pub seen : reader ≡ record { table = k.table; left = 0; log = reader_of k.log }
  pub same : k' ≡ k

-- Each caller's calls were answered with the receipts of its place.
abbrev pub AreAnswered : List (List Receipt) → List CallerData → List CallerData → Type 0
AreAnswered [] [] [] = Unit {0}
AreAnswered (receipts ∷ lists) (k ∷ before) (k' ∷ after) =
    Answered receipts k k' × AreAnswered lists before after
AreAnswered _ _ _ = ⊥

-- What a round makes of a caller that stood between two: the receipts of the threads, in order,
-- come after those of earlier rounds. They hold in the history that is seen now, and look back no
-- further than the updates before the round. Their stamps and numbers are from those updates to the
-- ones after the round, of which they accepted as many as there are more.
pub record IsAfterRound (lists : List (List Receipt)) (k k' : CallerData) : Type 0 where
  pub table : k'.table ≡ k.table
  pub terms : k'.log.terms ≡ k.log.terms
  pub between : IsBetweenRounds k'
  pub begins : IsPrefix k.log.past k'.log.past
  pub joined : k'.log.receipts.joined
      ≡ k.log.receipts.joined ++ lists_since (length k.log.past) lists
  pub made : k'.log.made ≡ k.log.made + length lists
  pub hold : AllByRecursion (IsRecord k.log.terms k'.log.past (k'.log.made + 1))
      (lists_since (length k.log.past) lists)
  pub bounds : AllByRecursion (IsBetween (length k.log.past) (length k'.log.past))
      (flat_map (λ receipts. receipts) lists)
  pub count : length k'.log.past
      ≡ length k.log.past + made_count (flat_map (λ receipts. receipts) lists)
