-- Updates of the tree, by their receipts alone.
use Rattle.std.proofs.Common.{◌≡◌, ℕ, ◌<◌, ◌↔◌, List, [], ◌∷◌, ◌++◌, length, sym, refl, subst, ◌∙◌, arith, true}
use mathlib.Core.List.{IsPrefix}
use Rattle.reg_model.specs.Receipt.{moment}
use Rattle.reg_model.specs.declared.answer.Inserted.{Inserted}
use Rattle.reg_model.specs.declared.answer.Inserted.TheVariants as inserted
use Rattle.reg_model.specs.declared.answer.Receipt.{Receipt}
use Rattle.reg_model.specs.declared.answer.Receipt.TheVariants as receipt
use Rattle.reg_model.specs.declared.answer.Removed.{Removed}
use Rattle.reg_model.specs.declared.answer.Removed.TheVariants as removed
use Rattle.reg_model.specs.declared.answer.Replaced.{Replaced}
use Rattle.reg_model.specs.declared.answer.Replaced.TheVariants as replaced
use Rattle.reg_model.specs.declared.answer.Update.{Update}
use Rattle.reg_model.specs.declared.span.Member.{Member}
use Rattle.word_rule.specs.CallerData.{CallerData}
use Rattle.word_rule.specs.Callers.{IsIdle}
use Rattle.word_rule.specs.declared.log.Terms.{Terms}
use Rattle.btree_change.specs.Insertion.{Inserts, call_begun}
use Rattle.btree_change.specs.Removal.{Removes}
use Rattle.btree_change.specs.Replacement.{MakesReplacement}
use Rattle.tree_descent.specs.Updates.{AnswersUpdate}
use Rattle.word_rule.proofs.ObservationsFrame.{longer_length}
use Rattle.registry_core.specs.Calls.{Answered, is_of_update, receipts_of_call}
use Rattle.word_rule.proofs.Joins.{prefix_both}
use Rattle.registry_core.proofs.Following.{answered_none}

-- an update that was begun and answered now
answered_update : (r : Receipt) (taken : ℕ) (k k' : CallerData) → is_of_update r ≡ true → 0 < k.left → IsIdle k.log → IsPrefix k.log.past k'.log.past → moment r ≡ length k'.log.past → AnswersUpdate r taken (call_begun k) k' → Answered (r ∷ []) k k'
answered_update r taken k k' update some idle begins at call =
    let low = longer_length k.log.past k'.log.past begins in
    let left = call.caller.left in
    record {
      table = call.caller.table;
      terms = call.caller.terms;
      begins = begins;
      between = ((omega (arith, low, at), omega (arith, at)), tt);
      left = rw update (omega (arith, some, left));
      own = call.receipts;
      loader = call.caller.loader;
      held = call.nothing.0 ∙ sym idle.held;
      out = call.nothing.1 ∙ sym idle.out;
      lineage = call.caller.lineage;
      made = call.caller.made;
    }

one_more : (before past : List Update) (u : Update) → past ≡ before ++ u ∷ [] → IsPrefix before past
one_more before past u is = (u ∷ [], sym is)

-- the same of one that was accepted: the history is longer by its update
accepted_update : (r : Receipt) (u : Update) (before : List Update) (k k' : CallerData) → is_of_update r ≡ true → 0 < k.left → IsIdle k.log → IsPrefix k.log.past before → k'.log.past ≡ before ++ u ∷ [] → moment r ≡ length k'.log.past → AnswersUpdate r 1 (call_begun k) k' → Answered (r ∷ []) k k'
accepted_update r u before k k' update some idle begins is at call = answered_update r 1 k k' update some idle (prefix_both k.log.past before k'.log.past begins (one_more before k'.log.past u is)) at call

pub inserted_answered : (t : Terms) (m : Member) (k k' : CallerData) (answer : Inserted) → IsIdle k.log → Inserts t m k k' answer → Answered (receipts_of_call (receipt.Register m answer)) k k'
inserted_answered t m k k' inserted.Spent idle i = subst (λ z. Answered [] k z) (sym i.1) (answered_none k)
inserted_answered t m k k' (inserted.Done number) idle i = let right = i.1.right in accepted_update (receipt.Register m (inserted.Done number)) _ right.0 k k' refl i.0 idle right.1.0 right.1.1 right.1.2 i.1.call
inserted_answered t m k k' (inserted.Overlap other stamp) idle i = answered_update (receipt.Register m (inserted.Overlap other stamp)) 0 k k' refl i.0 idle i.1.right.0 i.1.right.1 i.1.call
inserted_answered t m k k' (inserted.Full stamp) idle i = answered_update (receipt.Register m (inserted.Full stamp)) 0 k k' refl i.0 idle i.1.right.0 i.1.right.1 i.1.call

pub removed_answered : (t : Terms) (base : ℕ) (k k' : CallerData) (answer : Removed) → IsIdle k.log → Removes t base k k' answer → Answered (receipts_of_call (receipt.Deregister base answer)) k k'
removed_answered t base k k' removed.Spent idle i = subst (λ z. Answered [] k z) (sym i.1) (answered_none k)
removed_answered t base k k' (removed.Done number m) idle i = let right = i.1.right in accepted_update (receipt.Deregister base (removed.Done number m)) _ right.0 k k' refl i.0 idle right.1.0 right.1.1 right.1.2 i.1.call
removed_answered t base k k' (removed.NotFound stamp) idle i = answered_update (receipt.Deregister base (removed.NotFound stamp)) 0 k k' refl i.0 idle i.1.right.0 i.1.right.1 i.1.call

pub replaced_answered : (t : Terms) (m : Member) (k k' : CallerData) (answer : Replaced) → IsIdle k.log → MakesReplacement t m k k' answer → Answered (receipts_of_call (receipt.Replace m answer)) k k'
replaced_answered t m k k' replaced.Spent idle i = subst (λ z. Answered [] k z) (sym i.1) (answered_none k)
replaced_answered t m k k' (replaced.Done number payload) idle i = let right = i.1.right in accepted_update (receipt.Replace m (replaced.Done number payload)) _ right.0 k k' refl i.0 idle right.1.0 right.1.1 right.1.2 i.1.call
replaced_answered t m k k' (replaced.NotFound stamp) idle i = answered_update (receipt.Replace m (replaced.NotFound stamp)) 0 k k' refl i.0 idle i.1.right.0 i.1.right.1 i.1.call

-- Spent exactly where no update call is left
pub inserted_spent : (t : Terms) (m : Member) (k k' : CallerData) (answer : Inserted) → Inserts t m k k' answer → (answer ≡ inserted.Spent) ↔ (k.left ≡ 0)
inserted_spent t m k k' inserted.Spent i = (λ e. i.0, λ e. refl)
inserted_spent t m k k' (inserted.Done number) i = (λ e. absurd cc, λ e. absurd (let some = i.0 in omega (arith, some, e)))
inserted_spent t m k k' (inserted.Overlap other stamp) i = (λ e. absurd cc, λ e. absurd (let some = i.0 in omega (arith, some, e)))
inserted_spent t m k k' (inserted.Full stamp) i = (λ e. absurd cc, λ e. absurd (let some = i.0 in omega (arith, some, e)))

pub removed_spent : (t : Terms) (base : ℕ) (k k' : CallerData) (answer : Removed) → Removes t base k k' answer → (answer ≡ removed.Spent) ↔ (k.left ≡ 0)
removed_spent t base k k' removed.Spent i = (λ e. i.0, λ e. refl)
removed_spent t base k k' (removed.Done number m) i = (λ e. absurd cc, λ e. absurd (let some = i.0 in omega (arith, some, e)))
removed_spent t base k k' (removed.NotFound stamp) i = (λ e. absurd cc, λ e. absurd (let some = i.0 in omega (arith, some, e)))

pub replaced_spent : (t : Terms) (m : Member) (k k' : CallerData) (answer : Replaced) → MakesReplacement t m k k' answer → (answer ≡ replaced.Spent) ↔ (k.left ≡ 0)
replaced_spent t m k k' replaced.Spent i = (λ e. i.0, λ e. refl)
replaced_spent t m k k' (replaced.Done number payload) i = (λ e. absurd cc, λ e. absurd (let some = i.0 in omega (arith, some, e)))
replaced_spent t m k k' (replaced.NotFound stamp) i = (λ e. absurd cc, λ e. absurd (let some = i.0 in omega (arith, some, e)))
