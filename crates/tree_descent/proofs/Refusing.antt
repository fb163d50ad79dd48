-- What a refusal under the lock of a leaf leaves; and that of a member, by the lowest one that
-- overlaps it, or for want of room.
use Rattle.std.proofs.Common.{ℕ, [], ◌∷◌, ap, ◌≡◌, ◌%◌, length, sym, ◌∙◌, subst, refl, ◌≤◌, List, Bool, arith, Some, inl, append-nil, max, ◌++◌}
use Rattle.std.specs.List.{AllByRecursion}
use mathlib.Core.List.{IsPrefix}
use Rattle.reg_model.specs.declared.span.Member.{Member}
use Rattle.reg_model.specs.History.{state_after}
use Rattle.reg_model.specs.declared.answer.Update.{Update}
use Rattle.reg_model.specs.declared.answer.Receipt.{Receipt}
use Rattle.reg_model.specs.State.{IsFree, IsLowestOverlap}
use Rattle.reg_model.specs.declared.answer.Inserted.{Inserted}
use Rattle.tree_shape.specs.NodeData.{NodeData, IsInFences, entries_of, EntriesWithin}
use Rattle.tree_laws.specs.Lawful.{IsOrderedAs}
use Rattle.tree_laws.proofs.Leads.{contains_in, entry_ordered}
use Rattle.word_rule.specs.CallerData.{CallerData}
use Rattle.word_rule.specs.Clock.{AfterClock}
use Rattle.word_rule.specs.Logs.{load_of}
use Rattle.word_rule.specs.declared.log.Terms.{Terms}
use Rattle.word_rule.specs.Callers.{IsMemberOf, start}
use Rattle.word_rule.specs.declared.log.Log.{Log}
use Rattle.word_rule.specs.TreeRefusals.{Appends, HoldsLeaves, entries_in_leaves, AppendsRefusal, WasFilledSince, ShowsOverlap, HadNoRoom, ShowsFull}
use Rattle.word_rule.specs.Held.{held_of, is_marked, settled_in, settled_shape}
use Rattle.word_rule.specs.declared.log.Holding.{Holding}
use Rattle.word_rule.proofs.Each.{all_with}
use Rattle.word_rule.specs.declared.log.Receipts.{Receipts}
use Rattle.word_rule.proofs.CallersKept.{kept_caller_on}
use Rattle.tree_descent.specs.Loads.{KeepsLoads}
use Rattle.tree_descent.specs.Updates.{RefusesUpdate}
use Rattle.tree_descent.proofs.NodeSteps.{caller_so}
use Rattle.tree_descent.specs.Paths.{IsSettledLock, StepsOnNodes}
use Rattle.tree_descent.proofs.Storing.{found_at}
use Rattle.tree_descent.specs.Insertion.{RefusesMember}
use Rattle.tree_descent.specs.Stands.{StandsAt}
use Rattle.tree_descent.proofs.Lowering.{settled_live}
use Rattle.tree_descent.proofs.Putting.{leaf_at_zero}
use Rattle.tree_descent.proofs.Spending.{right_after}
use Rattle.reg_model.specs.declared.answer.Update.TheVariants as update
use Rattle.word_rule.specs.declared.log.Ask.TheVariants as ask
use Rattle.reg_model.specs.declared.answer.Receipt.TheVariants as receipt
use Rattle.reg_model.specs.declared.answer.Inserted.TheVariants as inserted

-- a load of the clock is one load more
pub clock_load : (t : Terms) (m : Member) (k k' : CallerData) (clock : ℕ) → AfterClock t (ask.Refused (update.Register m)) clock k.log k'.log → KeepsLoads k k'
clock_load t m k k' clock (past, receipts, (tells, asked, is)) = (load_of k.log 0 clock ∷ [], ap (λ z. z.trace.loads) is)

-- what was seen before begins what is seen then, which is as long as the clock says, and registers
-- members
pub seen_so : (t : Terms) (u : Update) (clock : ℕ) (v w : Log) → AfterClock t (ask.Refused u) clock v w → IsPrefix v.past w.past × (clock % 4294967296 ≡ length w.past) × (w.terms ≡ t) × AllByRecursion (IsMemberOf t) (state_after (start t) w.past).registered
seen_so t u clock v w (past, receipts, (tells, asked, is)) =
    let now : w.past ≡ past = ap (λ z. z.past) is in
    (subst (IsPrefix v.past) (sym now) tells.begins, tells.updates ∙ ap length (sym now), ap (λ z. z.terms) is ∙ tells.terms, subst (λ p. AllByRecursion (IsMemberOf t) (state_after (start t) p).registered) (sym now) tells.entries)

-- a load of the clock that appends a refusal leaves all else as it was
pub refuses_so : (t : Terms) (u : Update) (r : Receipt) (clock : ℕ) (k k' : CallerData) → AfterClock t (ask.Refused u) clock k.log k'.log → Appends r k.log k'.log → k' ≡ record k { log = k'.log } → RefusesUpdate r k k'
refuses_so t u r clock k k' (past, receipts, (tells, asked, is)) appended rest = record {
  caller = caller_so k (rest ∙ ap (λ (z : Log). record k { log = z }) is) refl;
  budget = ap (λ z. z.budget) is;
  holdings = ap (λ z. z.holdings) is;
  receipts = own ∙ ap (λ o. record k.log.receipts { own = o }) appended.own;
}
  where
    own : k'.log.receipts ≡ record k.log.receipts { own = k'.log.receipts.own }
    own = ap (λ z. z.receipts) is ∙ ap (λ o. record k.log.receipts { own = o }) (sym (ap (λ z. z.receipts.own) is))

-- a leaf at the head of what is held shows its entries, and that they are all in its fences
pub leaf_alone : (t : Terms) (n : ℕ) (s : NodeData) (changed : Bool) (lock : Holding) (above held : List Holding) → held ≡ lock ∷ above → IsSettledLock t n s changed lock → s.level ≡ 0
    → ((first last : ℕ) → s.low ≤ first → last ≤ s.high → HoldsLeaves held (n ∷ []) first last) × (entries_in_leaves (settled_in held) (n ∷ []) ≡ entries_of s)
leaf_alone t n s changed lock above held is here level = (
  λ first last low high. record {
    live = ((ap is_marked found ∙ here.marked, ap (λ (z : NodeData). z.level) settled ∙ level), tt);
    contain = λ pc from to. inl (subst (IsInFences pc) (sym settled) (omega (arith, low, from), omega (arith, to, high)));
  },
  append-nil (entries_of (settled_in held n)) ∙ ap entries_of settled,
)
  where
    found : held_of n held ≡ Some lock
    found = ap (held_of n) is ∙ found_at n [] lock above here.node tt

    settled : settled_in held n ≡ s
    settled = ap settled_shape found ∙ here.settled

module _ (t : Terms) (m : Member) (k k' : CallerData) (clock : ℕ) where
  -- for want of room
  pub refused_full : AfterClock t (ask.Refused (update.Register m)) clock k.log k'.log → Appends (receipt.Register m (inserted.Full (clock % 4294967296))) k.log k'.log → k' ≡ record k { log = k'.log } → RefusesMember t m (inserted.Full (clock % 4294967296)) k k'
  refused_full after appended rest =
      let seen = seen_so t (update.Register m) clock k.log k'.log after in record {
        right = (seen.0, seen.1, subst (λ z. IsFree m.span (state_after (start z) k'.log.past).registered) seen.2 appended.right, subst (λ z. WasFilledSince k.log z k'.log.past (receipt.Register m (inserted.Full (clock % 4294967296)))) seen.2 appended.filled);
        none_taken = refl;
        call = refuses_so t (update.Register m) (receipt.Register m (inserted.Full (clock % 4294967296))) clock k k' after appended rest;
      }

  -- for the lowest member that overlaps
  pub refused_overlap : (other : Member) → ShowsOverlap m other k.log → AfterClock t (ask.Refused (update.Register m)) clock k.log k'.log → AppendsRefusal (ask.Refused (update.Register m)) clock k.log k'.log → k' ≡ record k { log = k'.log } → RefusesMember t m (inserted.Overlap other (clock % 4294967296)) k k'
  refused_overlap other shown after refusal rest =
      let appended = refusal.0 other shown in
      let seen = seen_so t (update.Register m) clock k.log k'.log after in
      let lowest : IsLowestOverlap m.span (state_after (start t) k'.log.past).registered other = subst (λ z. IsLowestOverlap m.span (state_after (start z) k'.log.past).registered other) seen.2 appended.right in record {
        right = (seen.0, seen.1, lowest, all_with (IsMemberOf t) (state_after (start t) k'.log.past).registered other seen.3 lowest.listed);
        none_taken = refl;
        call = refuses_so t (update.Register m) (receipt.Register m (inserted.Overlap other (clock % 4294967296))) clock k k' after appended rest;
      }

module _ (t : Terms) (n : ℕ) (s : NodeData) (changed : Bool) (m other : Member) (k : CallerData) (path : StandsAt t (record { node = n; content = s; changed = changed }) k.log.holdings) (level : s.level ≡ 0) (here : IsInFences m.span.first s) (lowest : IsLowestOverlap m.span (entries_of s) other) where
  within : EntriesWithin s.low s.high (entries_of s)
  within = (subst (IsOrderedAs s) (leaf_at_zero s (settled_live t n s changed path.lock path.here).1.1.ordered level) (settled_live t n s changed path.lock path.here).1.1.ordered).1

  ends : other.span.last ≤ s.high
  ends = all_with (λ (x : Member). x.span.last ≤ s.high) (entries_of s) other within.1 lowest.listed

  begins : other.span.first ≤ other.span.last
  begins = entry_ordered s.low s.high (entries_of s) other within (contains_in (entries_of s) other lowest.listed)

  pub shows_overlap : ShowsOverlap m other k.log
  shows_overlap =
      let leaf = leaf_alone t n s changed path.lock path.above k.log.holdings.held path.held path.here level in record {
        leaves = n ∷ [];
        held = leaf.0 m.span.first (max m.span.first other.span.first) here.0 (let b = here.1 in let c = ends in let d = begins in omega (arith, b, c, d));
        lowest = subst (λ xs. IsLowestOverlap m.span xs other) (sym leaf.1) lowest;
      }

  pub refused_so : (k' : CallerData) (clock : ℕ) → AfterClock t (ask.Refused (update.Register m)) clock k.log k'.log → AppendsRefusal (ask.Refused (update.Register m)) clock k.log k'.log → k' ≡ record k { log = k'.log } → RefusesMember t m (inserted.Overlap other (clock % 4294967296)) k k'
  refused_so k' clock = refused_overlap t m k k' clock other shows_overlap

-- No member overlaps, as the leaf shows, and there was no room.
module _ (t : Terms) (n : ℕ) (s : NodeData) (changed : Bool) (m : Member) (k : CallerData) (path : StandsAt t (record { node = n; content = s; changed = changed }) k.log.holdings) (level : s.level ≡ 0) (here : IsInFences m.span.first s) (high : m.span.last ≤ s.high) (free : IsFree m.span (entries_of s))
    (cause : HadNoRoom m.span.first (length k.log.receipts.own) k.log.trace.loads) where
  pub shows_full : ShowsFull m k.log
  shows_full =
      let leaf = leaf_alone t n s changed path.lock path.above k.log.holdings.held path.held path.here level in record {
        leaves = n ∷ [];
        held = leaf.0 m.span.first m.span.last here.0 high;
        free = subst (IsFree m.span) (sym leaf.1) free;
        no_room = cause;
      }

pub refused_after : (t : Terms) (m : Member) (answer : Inserted) (k k1 k2 : CallerData) → k1.log.holdings ≡ k.log.holdings → StepsOnNodes k k1 → RefusesMember t m answer k1 k2 → RefusesMember t m answer k k2
refused_after t m answer k k1 k2 same steps r = record {
  right = right_after t m answer k k1 k2 steps.calls r.right;
  none_taken = r.none_taken;
  call = record {
    caller = kept_caller_on steps.calls.caller r.call.caller;
    budget = r.call.budget ∙ steps.budget;
    holdings = r.call.holdings ∙ same;
    receipts = subst (λ (x : Receipts). k2.log.receipts ≡ record x { own = x.own ++ receipt.Register m answer ∷ [] }) steps.calls.receipts r.call.receipts;
  };
}
