-- What is left when a leaf was let go of behind an answer.
use Rattle.std.proofs.Common.{◌≡◌, ℕ, [], ◌∷◌, Bool, false, true, true≢false, ◌≤◌, drop, ap, ◌∙◌, arith}
use Rattle.reg_model.specs.declared.answer.Inserted.{Inserted}
use Rattle.reg_model.specs.declared.span.Member.{Member}
use Rattle.word_rule.specs.CallerData.{CallerData, surplus}
use Rattle.word_rule.specs.Spelling.{SpellsNode}
use Rattle.word_rule.specs.declared.log.Holding.{Holding}
use Rattle.word_rule.specs.declared.log.Terms.{Terms}
use Rattle.tree_descent.specs.Insertion.{IsRightInsertion, taken_by}
use Rattle.tree_descent.specs.Releases.{LetsGo}
use Rattle.leaf_change.specs.Insertion.{SpendsCall, PutsMember, EndsInsertion}
use Rattle.leaf_change.proofs.Spending.{accepted_call, right_before, spends_before, surplus_after}
use Rattle.leaf_change.proofs.Releasing.{IsLowest, left_above}
use Rattle.reg_model.specs.declared.answer.Receipt.TheVariants as receipt
use Rattle.reg_model.specs.declared.answer.Inserted.TheVariants as inserted

-- The insertion was answered at its leaf, which is held alone: it has settled.
pub record AnswersHere (t : Terms) (m : Member) (n : ℕ) (answer : Inserted) (changed : Bool) (k k' : CallerData) : Type 0 where
  pub right : IsRightInsertion t m k k' answer
  pub call : SpendsCall (receipt.Register m answer ∷ []) (taken_by answer) 0 k k'
  pub lock : Holding
  pub held : k'.log.holdings.held ≡ lock ∷ []
  pub node : lock.node ≡ n
  pub spells : SpellsNode lock.words lock.settled
  pub stored : changed ≡ false → lock.stored ≡ false
  pub out : k'.log.holdings.out ≡ []

-- it was put there
pub put_here : (t : Terms) (m : Member) (n : ℕ) (number : ℕ) (k k1 : CallerData) → PutsMember t m n number k k1 → AnswersHere t m n (inserted.Done number) true k k1
put_here t m n number k k1 p = record {
  right = p.right;
  call = accepted_call (receipt.Register m (inserted.Done number)) n true k k1 p.call;
  lock = p.call.holds.lock;
  held = p.call.holds.held;
  node = p.call.holds.node;
  spells = p.call.holds.spells;
  stored = λ e. absurd (true≢false e);
  out = p.call.out;
}

-- and the leaf was let go of
module _ (t : Terms) (m : Member) (n : ℕ) (answer : Inserted) (changed : Bool) (k k1 : CallerData) (here : AnswersHere t m n answer changed k k1) where
  pub here_lowest : IsLowest n changed k1.log.holdings
  here_lowest = record { lock = here.lock; above = []; held = here.held; is_node = here.node; stored = here.stored; settled = (here.spells, tt); apart = (tt, tt) }

  pub here_surplus : (need : ℕ) → need ≤ surplus k → need ≤ surplus k1
  here_surplus need enough = surplus_after (receipt.Register m answer ∷ []) (taken_by answer) 0 k k1 need here.call (omega (arith, enough))

  pub here_ends : (k2 : CallerData) → LetsGo n k1 k2 → EndsInsertion t m answer 1 k k2
  here_ends k2 gone = record {
    right = right_before t m answer k k1 k2 gone.steps.calls.past here.right;
    call = spends_before 0 1 1 (receipt.Register m answer ∷ []) (taken_by answer) k k1 k2 (omega arith) here.call gone.steps;
    nothing = (left_above n changed k1 k2 here_lowest gone ∙ ap (λ hs. drop 1 hs) here.held, gone.out ∙ here.out);
  }
