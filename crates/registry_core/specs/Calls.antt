-- What calls make of their caller, by their receipts alone.
use Rattle.std.specs.Prelude.{◌≡◌, ◌+◌, ◌<◌, List, [], ◌∷◌, ◌++◌, length, Bool, true, false}
use Rattle.std.specs.Prelude.{count_by}
use Rattle.std.specs.List.{AllByRecursion}
use mathlib.Core.List.{IsPrefix}
use Rattle.reg_model.specs.Chain.{IsBetween}
use Rattle.reg_model.specs.declared.answer.Inserted.TheVariants as inserted
use Rattle.reg_model.specs.declared.answer.Loading.TheVariants as loading
use Rattle.reg_model.specs.declared.answer.Receipt.{Receipt}
use Rattle.reg_model.specs.declared.answer.Receipt.TheVariants as receipt
use Rattle.reg_model.specs.declared.answer.Removed.TheVariants as removed
use Rattle.reg_model.specs.declared.answer.Replaced.TheVariants as replaced
use Rattle.word_rule.specs.CallerData.{CallerData, WordsData}
use Rattle.word_rule.specs.Callers.{IsIdle}

-- whether a receipt is an update's
abbrev pub is_of_update : Receipt → Bool
is_of_update (receipt.Query half pc found) = false
is_of_update _ = true

-- The caller's calls were answered with these receipts, which are all that its own gained. Their
-- stamps and numbers are from what was seen before to what is seen now; each update took one of the
-- update calls. The caller holds the locks and has the nodes out that it held and had, and nobody
-- was split off or joined.
pub record Answered (receipts : List Receipt) (k k' : CallerData) : Type 0 where
  pub table : k'.table ≡ k.table
  pub terms : k'.log.terms ≡ k.log.terms
  pub begins : IsPrefix k.log.past k'.log.past
  pub between : AllByRecursion (IsBetween (length k.log.past) (length k'.log.past)) receipts
  pub left : k.left ≡ k'.left + count_by is_of_update receipts
  pub own : k'.log.receipts ≡ record k.log.receipts { own = k.log.receipts.own ++ receipts }
  pub loader : k'.log.loader ≡ k.log.loader
  pub held : k'.log.holdings.held ≡ k.log.holdings.held
  pub out : k'.log.holdings.out ≡ k.log.holdings.out
  pub lineage : k'.log.lineage ≡ k.log.lineage
  pub made : k'.log.made ≡ k.log.made

-- a call that was answered with one receipt
abbrev pub Receives : CallerData → Receipt → CallerData → Type 0
Receives k r k' = Answered (r ∷ []) k k'

-- the receipts of an update call with this answer: none where no call was left
abbrev pub receipts_of_call : Receipt → List Receipt
receipts_of_call (receipt.Register m inserted.Spent) = []
receipts_of_call (receipt.Deregister base removed.Spent) = []
receipts_of_call (receipt.Replace m replaced.Spent) = []
receipts_of_call (receipt.Load m loading.Spent) = []
receipts_of_call (receipt.Unload base removed.Spent) = []
receipts_of_call r = r ∷ []

-- What an update of the tree asks of its caller: it is one of these words, and holds nothing.
pub record MayUpdate (w : WordsData) (k : CallerData) : Type 0 where
  pub table : k.table ≡ w.table
  pub idle : IsIdle k.log

-- An update call that waits was answered so, with its receipt. The caller's terms are those of the
-- words, where an update call was left.
pub record EndsCall (w : WordsData) (r : Receipt) (k k' : CallerData) : Type 0 where
  pub terms : 0 < k.left → k.log.terms ≡ w.terms
  pub answered : Answered (receipts_of_call r) k k'
