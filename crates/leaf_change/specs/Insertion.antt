-- What the insertion of a member at its leaf asks of its caller, and what it makes of it.
use Rattle.std.specs.Prelude.{◌≡◌, ℕ, ◌<◌, ◌≤◌, None, length, true, ◌+◌, ◌-◌, List, ◌++◌, [], ◌∷◌}
use Rattle.reg_model.specs.declared.span.Member.{Member}
use Rattle.reg_model.specs.State.{IsFree}
use Rattle.reg_model.specs.declared.answer.Receipt.{Receipt}
use Rattle.reg_model.specs.declared.answer.Inserted.{Inserted}
use Rattle.tree_shape.specs.NodeData.{entries_of}
use Rattle.tree_shape.specs.declared.limits.TheConstants.{ENTRIES}
use Rattle.word_rule.specs.CallerData.{CallerData, WordsData, due, surplus, KeepsCaller}
use Rattle.word_rule.specs.declared.log.Holdings.{Holdings}
use Rattle.word_rule.specs.declared.log.Terms.{Terms}
use Rattle.tree_descent.specs.declared.descent.Held.{Held}
use Rattle.tree_descent.specs.Removing.{HoldsAlone}
use Rattle.tree_descent.specs.Updates.{AcceptsUpdate}
use Rattle.tree_descent.specs.Insertion.{IsRightInsertion, taken_by}
use Rattle.tree_descent.specs.Paths.{HoldsNothing}
use Rattle.reg_model.specs.declared.answer.Inserted.TheVariants as inserted
use Rattle.reg_model.specs.declared.answer.Receipt.TheVariants as receipt

-- What a part of a call that was begun asks of its caller, to put this member into a leaf: it is
-- one of the words and not the loader, the payload is one of theirs, and so many releases are to
-- spare.
pub record MayPut (words : WordsData) (m : Member) (releases : ℕ) (k : CallerData) : Type 0 where
  pub table : k.table ≡ words.table
  pub terms : k.log.terms ≡ words.terms
  pub loader : k.log.loader ≡ None
  pub payload : m.payload < words.terms.payloads
  pub begun : 0 < due k
  pub spare : releases ≤ surplus k

-- A member's span lies inside the fences of a leaf that is held alone, overlaps nothing there, and
-- the leaf has room.
pub record FitsLeaf (t : Terms) (m : Member) (leaf : Held) (holdings : Holdings) : Type 0 where
  pub alone : HoldsAlone t leaf holdings
  pub level : leaf.content.level ≡ 0
  pub low : leaf.content.low ≤ m.span.first
  pub high : m.span.last ≤ leaf.content.high
  pub room : length (entries_of leaf.content) < ENTRIES
  pub free : IsFree m.span (entries_of leaf.content)

-- A member was put into a held leaf and committed, with this number.
pub record PutsMember (t : Terms) (m : Member) (leaf number : ℕ) (k k' : CallerData) : Type 0 where
  pub right : IsRightInsertion t m k k' (inserted.Done number)
  pub call : AcceptsUpdate (receipt.Register m (inserted.Done number)) leaf true k k'

-- What a part of an update call takes of its caller: so many of the allowance, and at most so many
-- releases. These receipts are appended. All else is as it was but what is held, seen and loaded.
pub record SpendsCall (more : List Receipt) (taken most : ℕ) (k k' : CallerData) : Type 0 where
  pub caller : KeepsCaller k k'
  pub receipts : k'.log.receipts ≡ record k.log.receipts { own = k.log.receipts.own ++ more }
  pub allowance : k'.log.budget.allowance ≡ k.log.budget.allowance - taken
  pub credit : k.log.budget.credit ≤ k'.log.budget.credit + most

-- It was answered, by at most so many releases, and nothing is held.
pub record EndsInsertion (t : Terms) (m : Member) (answer : Inserted) (most : ℕ)
    (k k' : CallerData) : Type 0 where
  pub right : IsRightInsertion t m k k' answer
  pub call : SpendsCall (receipt.Register m answer ∷ []) (taken_by answer) most k k'
  pub nothing : HoldsNothing k'.log.holdings
