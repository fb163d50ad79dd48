-- What a removal answers, from the steps of its way.
use Rattle.std.proofs.Common.{◌≡◌, length, arith, false, ℕ, sym, subst, zero, suc, ap, ◌∙◌, IsNone, [], ◌∷◌, true, ◌*◌, ◌<◌, ◌≤◌, Bool}
use Rattle.std.proofs.lemmas.Bool.{ltb-false}
use mathlib.Core.List.{IsPrefix}
use Rattle.reg_model.specs.History.{state_after}
use Rattle.reg_model.specs.State.{at_base}
use Rattle.reg_model.specs.declared.answer.Removed.{Removed}
use Rattle.reg_model.specs.declared.answer.Receipt.{Receipt}
use Rattle.reg_model.specs.declared.span.Member.{Member}
use Rattle.tree_shape.specs.NodeData.{Body, Pairs, Entries, Link, NodeData}
use Rattle.word_rule.specs.Spelling.{SpellsNode}
use Rattle.word_rule.specs.declared.log.Holdings.{Holdings}
use Rattle.word_rule.specs.declared.log.Terms.{Terms}
use Rattle.word_rule.specs.CallerData.{CallerData, surplus}
use Rattle.word_rule.specs.Callers.{start}
use Rattle.word_rule.specs.Places.{CALL_CREDIT}
use Rattle.word_rule.specs.Held.{held_of, without_lock}
use Rattle.version_locks.specs.declared.locking.Busy.{Busy}
use Rattle.version_locks.specs.Locking.{FoundBusy}
use Rattle.tree_descent.specs.Removing.{IsSpareAs, IsSpare, HoldsAlone}
use Rattle.tree_descent.specs.Stands.{HoldsChild}
use Rattle.tree_descent.specs.declared.descent.Child.{Child}
use Rattle.tree_descent.specs.Paths.{HoldsNothing, StepsOnNodes}
use Rattle.tree_descent.specs.Releases.{Spends, LetsGo, HaveSettled, MayGo}
use Rattle.tree_descent.specs.Updates.{AnswersUpdate}
use Rattle.tree_descent.proofs.Spending.{spends_same, steps_after}
use Rattle.tree_descent.proofs.Loading.{found_still}
use Rattle.tree_descent.specs.declared.descent.Held.{Held}
use Rattle.tree_descent.proofs.Storing.{found_at}
use Rattle.leaf_change.specs.Removal.{AnswersRightly, taken_by_removal}
use Rattle.leaf_change.specs.Insertion.{SpendsCall}
use Rattle.leaf_change.proofs.Spending.{spends_before, accepted_call}
use Rattle.leaf_change.specs.Takings.{RefusesBase, TakesMember}
use Rattle.node_mend.specs.Siblings.{is_small_body, HoldsUnder, LeavesParent}
use Rattle.node_mend.proofs.Joining.{spare_of}
use Rattle.node_mend.specs.declared.sibling.Siblings.{Siblings}
use Rattle.node_mend.proofs.Mended.{without_high}
use Rattle.btree_change.proofs.Spending.{answers_so, spends_after, refused_call}
use Rattle.btree_change.specs.Removal.{AnswersRemoval}
use Rattle.btree_change.proofs.Rooted.{surplus_left}
use Rattle.reg_model.specs.declared.answer.Removed.TheVariants as removed
use Rattle.reg_model.specs.declared.answer.Receipt.TheVariants as receipt

not_small : (b : Body) → is_small_body b ≡ false → IsSpareAs b
not_small (Pairs pairs) e = let l = ltb-false (length pairs) 7 e in omega (arith, l)
not_small (Entries entries) e = let l = ltb-false (length entries) 5 e in omega (arith, l)
not_small (Link next) e = tt

-- a child that isn't small has one to spare
pub child_spare : (n : ℕ) (s : NodeData) → is_small_body s.body ≡ false → IsSpare n s
child_spare n s large = spare_of n s (not_small s.body large)

-- a child is held under its parent
pub child_under : (t : Terms) (child : Child) (pc : ℕ) (holdings : Holdings) → HoldsChild t child pc holdings → HoldsUnder t child.above.node child.above.changed child.at holdings
child_under t child pc holdings h = record {
  within = h.within;
  no_parent = h.no_parent;
  lower = h.lower;
  upper = h.upper;
  held = h.held;
  here = h.here;
  node = h.parent.node;
  spells = subst (SpellsNode h.upper.words) (sym h.parent.settled) h.parent.spells;
  stored = h.parent.stored;
  out = h.out;
}

-- the root is no child, so it needs nothing to spare
pub root_spare : (n : ℕ) (s : NodeData) → n ≡ 0 → IsSpare n s
root_spare zero s e = tt
root_spare (suc n) s e = absurd (omega (arith, e))

-- only what a caller has seen counts for what is right
rightly_seen : (t : Terms) (base : ℕ) (answer : Removed) (k l k' l' : CallerData) → k.log.past ≡ l.log.past → k'.log.past ≡ l'.log.past → AnswersRightly t base k k' answer → AnswersRightly t base l l' answer
rightly_seen t base (removed.Done number m) k l k' l' same same' (before, (begins, past, counted, member, known)) = (before, (subst (λ p. IsPrefix p before) same begins, sym same' ∙ past, counted ∙ ap length same', member, known))
rightly_seen t base (removed.NotFound stamp) k l k' l' same same' (begins, counted, none) = (
  subst (λ p. IsPrefix p l'.log.past) same (subst (IsPrefix k.log.past) same' begins),
  counted ∙ ap length same',
  subst (λ p. IsNone (at_base base (state_after (start t) p).registered)) same' none,
)
rightly_seen t base removed.Spent k l k' l' same same' wrong = absurd wrong

-- a removal was answered between its way down and the last of it that is let go of
around : (r : Receipt) (taken : ℕ) (k k1 k2 k3 : CallerData) → Spends 24 k k1 → SpendsCall (r ∷ []) taken 0 k1 k2 → Spends 1 k2 k3 → HoldsNothing k3.log.holdings → AnswersUpdate r taken k k3
around r taken k k1 k2 k3 down call up = answers_so r taken 25 k k3 (omega arith)
    (spends_after 24 1 25 (r ∷ []) taken k k1 k3 (omega arith) down (spends_before 0 1 1 (r ∷ []) taken k1 k2 k3 (omega arith) call up))

pub refusal_so : (t : Terms) (base : ℕ) (answer : Removed) (k k1 k2 k3 : CallerData) → Spends 24 k k1 → RefusesBase t base answer k1 k2 → Spends 1 k2 k3 → HoldsNothing k3.log.holdings → AnswersRemoval t base answer k k3
refusal_so t base answer k k1 k2 k3 down refuses up nothing =
    let r = receipt.Deregister base answer in let taken = taken_by_removal answer in record {
      right = rightly_seen t base answer k1 k k2 k3 down.calls.past (sym up.calls.past) refuses.right;
      call = around r taken k k1 k2 k3 down (refused_call r taken k1 k2 refuses.none_taken refuses.call) up nothing;
    }

-- the same of one that was done
pub done_so : (t : Terms) (base n number : ℕ) (m : Member) (k k1 k2 k3 : CallerData) → Spends 24 k k1 → TakesMember t base n number m k1 k2 → Spends 1 k2 k3 → HoldsNothing k3.log.holdings → AnswersRemoval t base (removed.Done number m) k k3
done_so t base n number m k k1 k2 k3 down takes up nothing = record {
  right = rightly_seen t base (removed.Done number m) k1 k k2 k3 down.calls.past (sym up.calls.past) takes.right;
  call = around (receipt.Deregister base (removed.Done number m)) 1 k k1 k2 k3 down (accepted_call (receipt.Deregister base (removed.Done number m)) n true k1 k2 takes.call) up nothing;
}

-- the way down, and the leaf read
pub read_spends : (k k1 k2 : CallerData) → Spends 24 k k1 → StepsOnNodes k1 k2 → Spends 24 k k2
read_spends k k1 k2 down steps = steps_after 24 0 24 k k1 k2 (omega arith) down (spends_same k1 k2 steps)

-- releases are left to let go of the way
pub surplus_refused : (t : Terms) (base : ℕ) (answer : Removed) (k k1 k2 : CallerData) → Spends 24 k k1 → CALL_CREDIT ≤ surplus k → RefusesBase t base answer k1 k2 → 0 < surplus k2
surplus_refused t base answer k k1 k2 down most refuses = let left = surplus_left 24 k k1 down most (omega arith) in let a = ap (λ z. z.credit) refuses.call.budget in let b : CALL_CREDIT * k2.left ≡ CALL_CREDIT * k1.left = ap (λ z. CALL_CREDIT * z) refuses.call.caller.left in omega (arith, left, a, b)

pub surplus_taken : (t : Terms) (base n number : ℕ) (m : Member) (k k1 k2 : CallerData) → Spends 24 k k1 → CALL_CREDIT ≤ surplus k → TakesMember t base n number m k1 k2 → 0 < surplus k2
surplus_taken t base n number m k k1 k2 down most takes = let left = surplus_left 24 k k1 down most (omega arith) in let a = ap (λ z. z.credit) takes.call.budget in let b : CALL_CREDIT * k2.left ≡ CALL_CREDIT * k1.left = ap (λ z. CALL_CREDIT * z) takes.call.caller.left in omega (arith, left, a, b)

pub left_spends : (x : Siblings) (why : Busy) (k k2 k3 : CallerData) → LeavesParent x why k k2 → LetsGo x.above.node k2 k3 → Spends 3 k k3
left_spends x why k k2 k3 lost goes = steps_after 2 1 3 k k2 k3 (omega arith) lost.spends goes.steps

pub left_cause : (x : Siblings) (why : Busy) (k k2 k3 : CallerData) → LeavesParent x why k k2 → LetsGo x.above.node k2 k3 → FoundBusy why k k3
left_cause x why k k2 k3 lost goes = found_still why k k2 k3 lost.cause goes.steps.loads

pub under_may : (t : Terms) (n : ℕ) (changed : Bool) (at : Held) (holdings : Holdings) → HoldsUnder t n changed at holdings → MayGo n changed holdings
under_may t n changed at holdings h = record {
  lock = h.upper;
  found = ap (held_of n) h.held ∙ found_at n (h.lower ∷ []) h.upper [] h.node ((λ e. h.no_parent (sym h.here.node ∙ e)), tt);
  stored = λ e. h.stored ∙ e;
  settled = subst HaveSettled (sym h.held) (subst (SpellsNode h.lower.words) (sym h.here.settled) h.here.spells, (h.spells, tt));
}

pub under_left : (t : Terms) (n : ℕ) (changed : Bool) (at : Held) (k k' : CallerData) → HoldsUnder t n changed at k.log.holdings → LetsGo n k k' → HoldsAlone t at k'.log.holdings
under_left t n changed at k k' h goes = record {
  within = h.within;
  lock = h.lower;
  held = goes.held ∙ (ap (without_lock n) h.held ∙ without_high true h.lower h.upper [] n h.node (λ e. h.no_parent (sym h.here.node ∙ e)) tt);
  here = h.here;
  out = goes.out ∙ h.out;
}
