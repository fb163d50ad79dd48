-- A removal is refused under the lock of a leaf that has no entry that begins at the base.
use Rattle.std.proofs.Common.{◌≡◌, ℕ, ◌==◌, List, [], ◌∷◌, sym, refl, ap, ◌∙◌, Bool, true, false, if◌then◌else◌, Some, ◌≢◌, zero, suc, subst, None, arith, Option, is_some, IsSome, ◌-◌, eq-eqb, ne_eqb, true≢false, ◌%◌, IsNone}
use Rattle.std.proofs.lemmas.Bool.{eqb-true, eqb-false}
use Rattle.std.proofs.lemmas.Option.{none-some, same_Some}
use Rattle.std.specs.List.{slice_get}
use Rattle.reg_model.specs.State.{at_base}
use Rattle.reg_model.specs.declared.span.Member.{Member}
use Rattle.reg_model.specs.History.{state_after}
use Rattle.tree_shape.proofs.Orders.{leaf_order}
use Rattle.tree_shape.proofs.Slots.{at_place}
use Rattle.tree_shape.specs.NodeData.{NodeData, InOrder, IsLeaf, entries_of, place_for, IsInFences}
use Rattle.word_rule.specs.CallerData.{CallerData}
use Rattle.word_rule.specs.declared.log.Terms.{Terms}
use Rattle.word_rule.proofs.CallersKept.{kept_caller_on}
use Rattle.word_rule.specs.Callers.{start}
use Rattle.word_rule.specs.Clock.{AfterClock}
use Rattle.word_rule.specs.TreeRefusals.{AppendsRefusal, ShowsNone}
use Rattle.node_store.specs.Outlines.{OnlyLoads}
use Rattle.version_locks.specs.Locking.{loaded}
use Rattle.tree_descent.proofs.NodeSteps.{caller_so}
use Rattle.tree_descent.specs.Removing.{HoldsAlone}
use Rattle.tree_descent.specs.declared.descent.Held.{Held}
use Rattle.tree_descent.proofs.Refusing.{leaf_alone, refuses_so, seen_so}
use Rattle.leaf_change.proofs.TakingThere.{taken_there}
use Rattle.leaf_change.specs.Takings.{RefusesBase}
use Rattle.reg_model.specs.declared.answer.Removed.TheVariants as removed
use Rattle.reg_model.specs.declared.answer.Receipt.TheVariants as receipt
use Rattle.reg_model.specs.declared.answer.Update.TheVariants as update
use Rattle.word_rule.specs.declared.log.Ask.TheVariants as ask

-- an entry at a place, by a base at which an entry begins or none does
begins_so : (base : ℕ) (es : List Member) (m : Member) → at_base base es ≡ Some m → m.span.first ≡ base
begins_so base [] m is = absurd (none-some m is)
begins_so base (e ∷ es) m is = go (begins_so base es m) (e.span.first == base) refl
  where
    go : (at_base base es ≡ Some m → m.span.first ≡ base) → (b : Bool) → (e.span.first == base) ≡ b → m.span.first ≡ base
    go rest true here = ap (λ (z : Member). z.span.first) (same_Some _ _ (sym is ∙ ap (λ b. if b then Some e else at_base base es) here)) ∙ eqb-true e.span.first base here
    go rest false other = rest (sym (ap (λ b. if b then Some e else at_base base es) other) ∙ is)

none_begins : (base : ℕ) (es : List Member) (k : ℕ) (m : Member) → at_base base es ≡ None → slice_get es k ≡ Some m → m.span.first ≢ base
none_begins base [] k m none is = absurd (none-some m is)
none_begins base (e ∷ es) k m none is = go (λ j. none_begins base es j m) (e.span.first == base) refl
  where
    there : ((j : ℕ) → at_base base es ≡ None → slice_get es j ≡ Some m → m.span.first ≢ base) → (j : ℕ) → slice_get (e ∷ es) j ≡ Some m → (e.span.first == base) ≡ false → m.span.first ≢ base
    there rest zero is other = subst (λ (z : Member). z.span.first ≢ base) (same_Some _ _ is) (eqb-false e.span.first base other)
    there rest (suc j) is other = rest j (sym (ap (λ b. if b then Some e else at_base base es) other) ∙ none) is

    go : ((j : ℕ) → at_base base es ≡ None → slice_get es j ≡ Some m → m.span.first ≢ base) → (b : Bool) → (e.span.first == base) ≡ b → m.span.first ≢ base
    go rest true here = absurd (none-some e (sym none ∙ ap (λ b. if b then Some e else at_base base es) here))
    go rest false other = there rest k is other

-- one begins at a base where the last of those that begin at or below it does
pub none_begun : (base : ℕ) (s : NodeData) → IsLeaf s → InOrder s → 0 ≡ place_for base (entries_of s) → is_some (at_base base (entries_of s)) ≡ false
none_begun base s leaf order is = go (at_base base (entries_of s)) refl
  where
    go : (o : Option Member) → at_base base (entries_of s) ≡ o → is_some o ≡ false
    go None none = refl
    go (Some m) some =
        let found = at_place base s.low s.high (entries_of s) (leaf_order s leaf order) (subst IsSome (sym some) refl) in
        let place = found.1.place in absurd (omega (arith, is, place))

pub one_begun : (base begun : ℕ) (s : NodeData) (m : Member) → IsLeaf s → InOrder s → begun ≢ 0 → begun ≡ place_for base (entries_of s) → slice_get (entries_of s) (begun - 1) ≡ Some m → (m.span.first == base) ≡ is_some (at_base base (entries_of s))
one_begun base begun s m leaf order some is stands = go (at_base base (entries_of s)) refl
  where
    go : (o : Option Member) → at_base base (entries_of s) ≡ o → (m.span.first == base) ≡ is_some o
    go None none = ne_eqb m.span.first base (none_begins base (entries_of s) (begun - 1) m none stands)
    go (Some x) held = eq-eqb m.span.first base (begins_so base (entries_of s) m (taken_there base begun s m leaf order (subst IsSome (sym held) refl) is stands))

pub none_of : (o : Option Member) → is_some o ≡ false → o ≡ None
none_of None e = refl
none_of (Some m) e = absurd (true≢false e)

-- loads before a refusal
pub absent_after : (t : Terms) (base stamp : ℕ) (k k1 k2 : CallerData) → OnlyLoads k k1 → RefusesBase t base (removed.NotFound stamp) k1 k2 → RefusesBase t base (removed.NotFound stamp) k k2
absent_after t base stamp k k1 k2 (more, is) refuses = again (subst (λ z. RefusesBase t base (removed.NotFound stamp) z k2) is refuses)
  where
    again : RefusesBase t base (removed.NotFound stamp) (record k { log = loaded more k.log }) k2 → RefusesBase t base (removed.NotFound stamp) k k2
    again r = let call = r.call in record {
      right = r.right;
      none_taken = r.none_taken;
      call = record {
        caller = kept_caller_on (caller_so k refl refl) call.caller;
        budget = call.budget;
        holdings = call.holdings;
        receipts = call.receipts;
      };
    }

module _ (t : Terms) (at : Held) (base : ℕ) (k : CallerData) (alone : HoldsAlone t at k.log.holdings) (level : at.content.level ≡ 0) (here : IsInFences base at.content) (none : at_base base (entries_of at.content) ≡ None) where
  pub shows_none : ShowsNone base k.log
  shows_none =
      let leaf = leaf_alone t at.node at.content at.changed alone.lock [] k.log.holdings.held alone.held alone.here level in record {
        leaves = at.node ∷ [];
        held = leaf.0 base base here.0 here.1;
        none = subst (λ xs. IsNone (at_base base xs)) (sym leaf.1) (subst IsNone (sym none) refl);
      }

  pub absent_so : (k' : CallerData) (clock : ℕ) → AfterClock t (ask.Refused (update.Deregister base)) clock k.log k'.log → AppendsRefusal (ask.Refused (update.Deregister base)) clock k.log k'.log → k' ≡ record k { log = k'.log } → RefusesBase t base (removed.NotFound (clock % 4294967296)) k k'
  absent_so k' clock after refusal rest =
      let appended = refusal shows_none in
      let seen = seen_so t (update.Deregister base) clock k.log k'.log after in record {
        right = (seen.0, seen.1, subst (λ z. IsNone (at_base base (state_after (start z) k'.log.past).registered)) seen.2 appended.right);
        none_taken = refl;
        call = refuses_so t (update.Deregister base) (receipt.Deregister base (removed.NotFound (clock % 4294967296))) clock k k' after appended rest;
      }
