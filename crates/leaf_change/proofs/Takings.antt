-- A member is taken out of a held leaf and committed.
use Rattle.std.proofs.Common.{ℕ, ◌<◌, [], ◌∷◌, length, Bool, Some, ◌≡◌, List, arith, refl, ap, ◌∙◌, not, None, eq-eqb, ne_eqb, cond, zero, suc, subst, IsSome, Contains, ◌≢◌, ◌+◌, length-append, sym, true, IsSomeAnd, le-leb}
use Rattle.std.proofs.lemmas.Option.{none-some}
use Rattle.std.specs.List.{AllByRecursion}
use native.Mathlib.Decide.{ℕ_discrete}
use mathlib.Core.List.{IsPrefix}
use Rattle.reg_model.specs.declared.span.Member.{Member}
use Rattle.reg_model.specs.State.{at_base}
use Rattle.reg_model.specs.History.{without, state_after}
use Rattle.reg_model.specs.declared.answer.Receipt.{Receipt}
use Rattle.tree_laws.specs.Lawful.{IsLawfulTree, fewest_entries}
use Rattle.tree_laws.specs.LocalChange.{IsChangeOf, IsLawfulChange}
use Rattle.tree_shape.specs.NodeData.{entries_of, NodeData, IsLeaf, Entries, IsInFences}
use Rattle.tree_laws.specs.Steps.{IsTake}
use Rattle.tree_laws.specs.Trees.{Contents}
use Rattle.tree_laws.specs.Numbers.{is_among}
use Rattle.word_rule.specs.declared.log.Holding.{Holding}
use Rattle.word_rule.specs.CallerData.{CallerData}
use Rattle.word_rule.specs.Callers.{IsMemberOf, start}
use Rattle.word_rule.specs.Commits.{AfterCommit, MayCommit}
use Rattle.word_rule.specs.Exchange.{is_leaf_at}
use Rattle.word_rule.specs.SharedWords.{updated}
use Rattle.word_rule.specs.NodeTells.{KnowsTree}
use Rattle.word_rule.specs.declared.log.Terms.{Terms}
use Rattle.word_rule.proofs.Each.{all_with}
use Rattle.word_rule.proofs.Listings.{there_at}
use Rattle.tree_descent.specs.Removing.{IsSpare, IsSpareAs, HoldsAlone}
use Rattle.tree_descent.specs.Paths.{StepsOnNodes}
use Rattle.tree_descent.specs.Updates.{AcceptsUpdate}
use Rattle.tree_descent.specs.declared.descent.Held.{Held}
use Rattle.tree_descent.proofs.Storing.{IsRewritten}
use Rattle.leaf_change.specs.Takings.{TakesMember}
use Rattle.leaf_change.proofs.LeafCommits.{LeafLaws}
use Rattle.leaf_change.proofs.LeafUpdates.{accepts_so, after_else, after_here, contents_here, live_here, marked, may_update, past_is, same_node}
use Rattle.reg_model.specs.declared.answer.Update.TheVariants as update
use Rattle.reg_model.specs.declared.answer.Receipt.TheVariants as receipt
use Rattle.reg_model.specs.declared.answer.Removed.TheVariants as removed

-- the law of a removal, as a change of the leaf alone
abbrev pub TakeLaw : Type 0
TakeLaw = (f : Contents) (live : ℕ → Bool) (leaf base : ℕ) (member : Member) (g : Contents) → IsLawfulTree f live → IsTake f live leaf base member g → fewest_entries leaf < length (entries_of (f leaf)) → IsChangeOf f live leaf (leaf ∷ []) [] g (Some (update.Deregister base)) (leaf ∷ [])

pub some_there : (base : ℕ) (es : List Member) (m : Member) → at_base base es ≡ Some m → 0 < length es
some_there base [] m e = absurd (none-some m e)
some_there base (x ∷ es) m e = omega arith

-- without it none begins there
pub none_without : (base : ℕ) (es : List Member) → at_base base (without base es) ≡ None
none_without base [] = refl
none_without base (x ∷ es) = go (ℕ_discrete x.span.first base) (none_without base es)
  where
    go : Dec (x.span.first ≡ base) → at_base base (without base es) ≡ None → at_base base (without base (x ∷ es)) ≡ None
    go (yes is) rest = ap (λ b. at_base base (cond (not b) (x ∷ without base es) (without base es))) (eq-eqb x.span.first base is) ∙ rest
    go (no ne) rest = ap (λ b. at_base base (cond (not b) (x ∷ without base es) (without base es))) (ne_eqb x.span.first base ne) ∙ (ap (λ b. cond b (Some x) (at_base base (without base es))) (ne_eqb x.span.first base ne) ∙ rest)

-- a leaf on the way has an entry to spare
enough : (n base : ℕ) (s : NodeData) (m : Member) → IsLeaf s → IsSpare n s → at_base base (entries_of s) ≡ Some m → fewest_entries n < length (entries_of s)
enough zero base s m leaf spare e = some_there base (entries_of s) m e
enough (suc n) base s m leaf spare e = rw (ne_eqb (suc n) 0 (λ z. omega (arith, z))) (subst IsSpareAs leaf spare)

-- the entries of the live nodes that are held are registered
abbrev pub EntriesAre : List Member → List Holding → Type 0
EntriesAre registered held = AllByRecursion (λ h. IsSome h.mark → (m : Member) → Contains (entries_of h.settled) m → at_base m.span.first registered ≡ Some m) held

module _ (law : TakeLaw) (laws : LeafLaws) (t : Terms) (at : Held) (base : ℕ) (m : Member) (k k1 k2 : CallerData) (alone : HoldsAlone t at k1.log.holdings) (tree : KnowsTree k1.log.holdings) (leaf : IsLeaf at.content) (level : at.content.level ≡ 0)
    (fences : IsInFences base at.content) (spare : IsSpare at.node at.content) (has : at_base base (entries_of at.content) ≡ Some m) (written : IsRewritten (record at.content { body = Entries (without base (entries_of at.content)) }) alone.lock [] [] k1 k2) where
  abbrev n : ℕ
  n = at.node

  abbrev s : NodeData
  s = at.content

  abbrev now : NodeData
  now = record s { body = Entries (without base (entries_of s)) }

  in_leaf : is_leaf_at base (Some now) ≡ true
  in_leaf = let a = le-leb s.low base fences.0 in let b = le-leb base s.high fences.1 in rw (a, b) refl

  -- the tree with the leaf changed
  abbrev after : Contents
  after = updated tree.contents written.lock.node (record s { body = Entries (without base (entries_of s)) })

  here : tree.contents written.lock.node ≡ s
  here = contents_here laws t (update.Deregister base) at now k1 k2 alone tree level in_leaf written

  take : IsTake tree.contents tree.live written.lock.node base m after
  take = record {
    live_leaf = live_here laws t (update.Deregister base) at now k1 k2 alone tree level in_leaf written;
    is_leaf = subst IsLeaf (sym here) leaf;
    held = subst (λ (z : NodeData). at_base base (entries_of z) ≡ Some m) (sym here) has;
    above = after_here laws t (update.Deregister base) at now k1 k2 alone tree level in_leaf written ∙ ap (λ (z : NodeData). record z { body = Entries (without base (entries_of z)) }) (sym here);
    others = after_else laws t (update.Deregister base) at now k1 k2 alone tree level in_leaf written;
  }

  change : IsLawfulChange tree.contents tree.live written.lock.node (is_among (written.lock.node ∷ [])) (is_among []) after (Some (update.Deregister base))
  change =
      let node = same_node laws t (update.Deregister base) at now k1 k2 alone tree level in_leaf written in
      (law tree.contents tree.live written.lock.node base m after tree.lawful take (subst (λ (z : NodeData). fewest_entries written.lock.node < length (entries_of z)) (sym here) (subst (λ k. fewest_entries k < length (entries_of s)) (sym node) (enough n base s m leaf spare has)))).lawful

  pub may_take : 0 < k2.log.budget.allowance → k2.log.loader ≡ None → MayCommit t (update.Deregister base) k2.log
  may_take due = may_update laws t (update.Deregister base) at now k1 k2 alone tree level in_leaf written change due tt

  differs : s ≢ now
  differs e = none-some m (sym (none_without base (entries_of s)) ∙ (ap (λ (z : NodeData). at_base base (entries_of z)) (sym e) ∙ has))

  -- the leaf's entry is the registered member
  registered : (members : List Member) → EntriesAre members k2.log.holdings.held → at_base base members ≡ Some m
  registered members entries =
      let there = there_at base (entries_of s) m has in
      let told = (subst (EntriesAre members) written.held entries).0 (marked laws t (update.Deregister base) at now k1 k2 alone tree level in_leaf written) m (subst (λ (z : NodeData). Contains (entries_of z) m) (sym (written.settled ∙ alone.here.settled)) there.0) in
      subst (λ b. at_base b members ≡ Some m) there.1 told

  done_is : (number : ℕ) (members : List Member) (r : Receipt) → at_base base members ≡ Some m → IsSomeAnd (at_base base members) (λ x. r ≡ receipt.Deregister base (removed.Done number x)) → r ≡ receipt.Deregister base (removed.Done number m)
  done_is number members r e done = subst (λ o. IsSomeAnd o (λ x. r ≡ receipt.Deregister base (removed.Done number x))) e done

  pub take_so : (k3 : CallerData) (found number : ℕ) → StepsOnNodes k k2 → k.log.terms ≡ t → AfterCommit (update.Deregister base) found k2.log k3.log → number ≡ length k3.log.past → k3 ≡ record k2 { log = k3.log } → TakesMember t base at.node number m k k3
  take_so k3 found number steps terms (before, r, (tells, done, is)) counted rest =
      let past = past_is laws t (update.Deregister base) at now k1 k2 alone tree level in_leaf written change k k3 before r steps is rest in
      let member = registered (state_after (start k2.log.terms) before).registered tells.entries in
      let answer : r ≡ receipt.Deregister base (removed.Done number m) = done_is (length before + 1) (state_after (start k2.log.terms) before).registered r member done ∙ ap (λ j. receipt.Deregister base (removed.Done j m)) (sym (counted ∙ (ap length past ∙ length-append before (update.Deregister base ∷ [])))) in
      let call = subst (λ x. AcceptsUpdate x at.node true k k3) answer (accepts_so laws t (update.Deregister base) at now k1 k2 alone tree level in_leaf written change k k3 before r steps is rest true (written.stored s alone.here.spells differs)) in record {
        right = (before, (subst (λ p. IsPrefix p before) steps.calls.past tells.begins, past, counted, subst (λ z. at_base base (state_after (start z) before).registered ≡ Some m) (steps.calls.caller.terms ∙ terms) member, subst (λ z. IsMemberOf z m) (steps.calls.caller.terms ∙ terms) (all_with (IsMemberOf k2.log.terms) (state_after (start k2.log.terms) before).registered m tells.members (there_at base (state_after (start k2.log.terms) before).registered m member).0)));
        call = call;
      }
