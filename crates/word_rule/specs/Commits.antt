-- The commit of an update of the tree: what it asks for, what it tells, and what it makes of a log.
use Rattle.std.specs.Prelude.{◌≡◌, ℕ, ◌+◌, ◌<◌, ◌⊎◌, Contains, List, length, None, Some, IsSome}
use Rattle.std.specs.Prelude.{IsTrue}
use Rattle.std.specs.List.{AllByRecursion}
use mathlib.Core.List.{IsPrefix}
use Rattle.reg_model.specs.History.{state_after}
use Rattle.reg_model.specs.State.{at_base}
use Rattle.reg_model.specs.declared.span.Member.{Member}
use Rattle.reg_model.specs.declared.answer.Update.{Update}
use Rattle.reg_model.specs.declared.answer.Receipt.{Receipt}
use Rattle.tree_shape.specs.NodeData.{entries_of}
use Rattle.word_rule.specs.declared.log.Holding.{Holding}
use Rattle.word_rule.specs.declared.log.Log.{Log}
use Rattle.word_rule.specs.declared.log.Terms.{Terms}
use Rattle.word_rule.specs.Places.{ALLOWANCE, lower}
use Rattle.word_rule.specs.Exchange.{is_lawful, is_updated, settle}
use Rattle.word_rule.specs.Callers.{IsMemberOf, IsOfTerms, start}
use Rattle.word_rule.specs.Steps.{IsDone, after_update, place_by}

-- No node is held but the leaf that the update changes and, it may be, its parent; the loader isn't
-- held either.
pub record HoldsLeafAndParent (u : Update) (v : Log) : Type 0 where
  pub leaf : Holding
  pub held : Contains v.holdings.held leaf
  pub changed : IsTrue (is_updated (Some u) leaf)
  pub others : AllByRecursion (λ h. (h ≡ leaf) ⊎ IsSome (place_by leaf.node h.mark h))
      v.holdings.held
  pub loader : v.loader ≡ None

-- A commit asks for one of the update calls that were begun, for a member that may be made known,
-- that few locks are held, and that the exchange of what the caller changed is lawful, with the
-- entries changed by the update. So it is one of the tree, made in a live leaf that the caller
-- holds.
pub record MayCommit (t : Terms) (u : Update) (v : Log) : Type 0 where
  pub due : 0 < v.budget.allowance
  pub member : IsOfTerms t u
  pub few : HoldsLeafAndParent u v
  pub lawful : IsTrue (is_lawful v (Some u))

-- What a commit tells of the history before it, of which it found this clock.
pub record CommitTells (found : ℕ) (v : Log) (before : List Update) : Type 0 where
  pub begins : IsPrefix v.past before
  pub number : lower found ≡ length before
  pub room : length before < ALLOWANCE
  pub members : AllByRecursion (IsMemberOf v.terms) (state_after (start v.terms) before).registered
  -- each entry of a leaf that is held live is the member registered at its base
  pub entries : AllByRecursion (λ h. IsSome h.mark → (m : Member)
      → Contains (entries_of h.settled) m
      → at_base m.span.first (state_after (start v.terms) before).registered ≡ Some m)
      v.holdings.held

-- The update of the tree was accepted, and what the caller changed settled.
abbrev pub after_commit : Update → List Update → Receipt → Log → Log
after_commit u before r v = after_update u before r (settle (Some u) v)

abbrev pub AfterCommit : Update → ℕ → Log → Log → Type 0
AfterCommit u found v w = (before : List Update) × (r : Receipt) ×
    (CommitTells found v before
    × IsDone u (length before + 1) (state_after (start v.terms) before) r
    × (w ≡ after_commit u before r v))
