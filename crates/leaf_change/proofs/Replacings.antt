-- A member takes the place of the one with its whole span in a held leaf, and is committed; or it is
-- refused, where none has that span.
use Rattle.std.proofs.Common.{ℕ, [], ◌∷◌, Bool, Some, ◌≡◌, sym, refl, ap, ◌∙◌, ◌≢◌, ◌+◌, ◌<◌, List, length, length-append, subst, true, None, IsSome, IsSomeAnd, le-leb, Contains, ◌%◌, IsNone, IsTrue, ◌⊎◌, inl, arith}
use Rattle.std.proofs.lemmas.Option.{same_Some}
use mathlib.Core.List.{IsPrefix}
use Rattle.reg_model.specs.declared.span.Member.{Member}
use Rattle.reg_model.specs.History.{with_payload, state_after}
use Rattle.reg_model.specs.State.{at_base, at_span}
use Rattle.tree_laws.specs.Lawful.{IsLawfulTree}
use Rattle.tree_laws.specs.LocalChange.{IsChangeOf, IsLawfulChange}
use Rattle.tree_laws.specs.Steps.{IsReplace}
use Rattle.tree_laws.specs.Trees.{Contents}
use Rattle.tree_shape.specs.NodeData.{NodeData, Entries, entries_of, IsInFences, IsLeaf, InOrder}
use Rattle.tree_laws.specs.Numbers.{is_among}
use Rattle.tree_shape.proofs.Orders.{leaf_order}
use Rattle.word_rule.specs.CallerData.{CallerData}
use Rattle.word_rule.specs.declared.log.Terms.{Terms}
use Rattle.word_rule.specs.Callers.{IsMemberOf, start}
use Rattle.word_rule.specs.Commits.{AfterCommit, MayCommit}
use Rattle.word_rule.specs.Exchange.{is_leaf_at}
use Rattle.word_rule.specs.SharedWords.{updated}
use Rattle.word_rule.specs.NodeTells.{KnowsTree}
use Rattle.word_rule.proofs.Each.{all_with}
use Rattle.word_rule.specs.Clock.{AfterClock}
use Rattle.word_rule.specs.TreeRefusals.{AppendsRefusal, ShowsNoSpan}
use Rattle.word_rule.specs.Held.{held_of}
use Rattle.word_rule.specs.Steps.{MayStore}
use Rattle.word_rule.specs.declared.log.Holding.{Holding}
use Rattle.word_rule.specs.declared.log.Log.{Log}
use Rattle.word_rule.specs.Sights.{after_node_load}
use Rattle.node_store.specs.Holding.{ReadsHeld, SpellsHeld, StoresHeld}
use Rattle.tree_descent.specs.Removing.{HoldsAlone}
use Rattle.tree_descent.specs.declared.descent.Held.{Held}
use Rattle.tree_descent.proofs.Storing.{IsRewritten, rewritten_so}
use Rattle.tree_descent.proofs.NodeSteps.{steps_none, steps_then}
use Rattle.tree_descent.specs.Paths.{StepsOnNodes}
use Rattle.tree_descent.specs.Updates.{AcceptsUpdate}
use Rattle.tree_descent.proofs.Refusing.{leaf_alone, refuses_so, seen_so}
use Rattle.tree_descent.proofs.HeldLists.{found_head}
use Rattle.tree_descent.proofs.Descending.{steps_of_read}
use Rattle.tree_descent.proofs.Outlining.{spell_one, spells_read}
use Rattle.tree_descent.proofs.Lowering.{settled_order}
use Rattle.leaf_change.specs.Replacement.{ReplacesMember, RefusesReplacement}
use Rattle.leaf_change.proofs.LeafCommits.{LeafLaws}
use Rattle.leaf_change.proofs.LeafUpdates.{accepts_so, after_else, after_here, contents_here, live_here, marked, may_update, past_is}
use Rattle.leaf_change.proofs.Spanned.{span_of_base, span_paid, span_there, paid_same}
use Rattle.leaf_change.proofs.Takings.{EntriesAre}
use Rattle.leaf_change.proofs.TakingThere.{cut_alone, cut_leaf, cut_spells, cut_steps, cut_tree}
use Rattle.reg_model.specs.declared.answer.Update.TheVariants as update
use Rattle.reg_model.specs.declared.answer.Receipt.TheVariants as receipt
use Rattle.reg_model.specs.declared.answer.Replaced.TheVariants as replaced
use Rattle.word_rule.specs.declared.log.Ask.TheVariants as ask

-- the law of a replacement, as a change of the leaf alone
abbrev pub ReplaceLaw : Type 0
ReplaceLaw = (f : Contents) (live : ℕ → Bool) (leaf : ℕ) (member : Member) (g : Contents) → IsLawfulTree f live → IsReplace f live leaf member g → IsChangeOf f live leaf (leaf ∷ []) [] g (Some (update.Replace member)) (leaf ∷ [])

-- a leaf in which a member has the place of the one with its span
abbrev pub paid_leaf : Member → NodeData → NodeData
paid_leaf m s = record s { body = Entries (with_payload m (entries_of s)) }

-- nothing was written where it spells that already
pub unwritten : (t : Terms) (at : Held) (now : NodeData) (k : CallerData) (alone : HoldsAlone t at k.log.holdings) → now ≡ at.content → IsRewritten now alone.lock [] [] k k
unwritten t at now k alone same = record {
  lock = alone.lock;
  held = alone.held;
  node = refl;
  mark = refl;
  settled = refl;
  spells = alone.here.spells ∙ ap Some (sym same);
  stored = λ old was differs. absurd (differs (same_Some _ _ (sym was ∙ (alone.here.spells ∙ ap Some (sym same)))));
  out = refl;
  same = steps_none k;
}

pub unwritten_stored : (t : Terms) (at : Held) (now : NodeData) (k : CallerData) (alone : HoldsAlone t at k.log.holdings) (same : now ≡ at.content) → (unwritten t at now k alone same).lock.stored ≡ at.changed
unfolding unwritten
unwritten_stored t at now k alone same = alone.here.stored

module _ (law : ReplaceLaw) (laws : LeafLaws) (t : Terms) (at : Held) (m old : Member) (k k1 k2 : CallerData) (alone : HoldsAlone t at k1.log.holdings) (tree : KnowsTree k1.log.holdings) (leaf : IsLeaf at.content) (level : at.content.level ≡ 0)
    (fences : IsInFences m.span.first at.content) (has : at_span m.span (entries_of at.content) ≡ Some old) (written : IsRewritten (paid_leaf m at.content) alone.lock [] [] k1 k2) where
  abbrev s : NodeData
  s = at.content

  abbrev now : NodeData
  now = paid_leaf m s

  in_leaf : is_leaf_at m.span.first (Some now) ≡ true
  in_leaf = let a = le-leb s.low m.span.first fences.0 in let b = le-leb m.span.first s.high fences.1 in rw (a, b) refl

  -- the tree with the leaf changed
  abbrev after : Contents
  after = updated tree.contents written.lock.node (paid_leaf m s)

  here : tree.contents written.lock.node ≡ s
  here = contents_here laws t (update.Replace m) at now k1 k2 alone tree level in_leaf written

  replaces : IsReplace tree.contents tree.live written.lock.node m after
  replaces = record {
    live_leaf = live_here laws t (update.Replace m) at now k1 k2 alone tree level in_leaf written;
    is_leaf = subst IsLeaf (sym here) leaf;
    held = subst (λ (z : NodeData). IsSome (at_span m.span (entries_of z))) (sym here) (subst IsSome (sym has) refl);
    above = after_here laws t (update.Replace m) at now k1 k2 alone tree level in_leaf written ∙ ap (paid_leaf m) (sym here);
    others = after_else laws t (update.Replace m) at now k1 k2 alone tree level in_leaf written;
  }

  change : IsLawfulChange tree.contents tree.live written.lock.node (is_among (written.lock.node ∷ [])) (is_among []) after (Some (update.Replace m))
  change = (law tree.contents tree.live written.lock.node m after tree.lawful replaces).lawful

  pub may_replace : 0 < k2.log.budget.allowance → IsMemberOf t m → k2.log.loader ≡ None → MayCommit t (update.Replace m) k2.log
  may_replace = may_update laws t (update.Replace m) at now k1 k2 alone tree level in_leaf written change

  -- another payload is another node
  pub differs : old.payload ≢ m.payload → s ≢ now
  differs other e =
      let is : old ≡ m = same_Some _ _ (sym has ∙ (ap (λ (z : NodeData). at_span m.span (entries_of z)) e ∙ span_paid m (entries_of s) (subst IsSome (sym has) refl))) in
      other (ap (λ (z : Member). z.payload) is)

  -- the leaf's entry is the registered member
  registered : (members : List Member) → EntriesAre members k2.log.holdings.held → at_base m.span.first members ≡ Some old
  registered members entries =
      let there = span_there m.span (entries_of s) old has in
      let told = (subst (EntriesAre members) written.held entries).0 (marked laws t (update.Replace m) at now k1 k2 alone tree level in_leaf written) old (subst (λ (z : NodeData). Contains (entries_of z) old) (sym (written.settled ∙ alone.here.settled)) there.0) in
      subst (λ b. at_base b members ≡ Some old) (ap (λ z. z.first) there.1) told

  spanned_old : (members : List Member) → EntriesAre members k2.log.holdings.held → at_span m.span members ≡ Some old
  spanned_old members entries = span_of_base m.span members old (registered members entries) (span_there m.span (entries_of s) old has).1

  pub replace_so : (k3 : CallerData) (found number : ℕ) (changed : Bool) → written.lock.stored ≡ changed → StepsOnNodes k k2 → k.log.terms ≡ t → AfterCommit (update.Replace m) found k2.log k3.log → number ≡ length k3.log.past → k3 ≡ record k2 { log = k3.log } → ReplacesMember t m at.node old.payload number changed k k3
  replace_so k3 found number changed stored steps terms (before, r, (tells, done, is)) counted rest =
      let past = past_is laws t (update.Replace m) at now k1 k2 alone tree level in_leaf written change k k3 before r steps is rest in
      let members = (state_after (start k2.log.terms) before).registered in
      let member = spanned_old members tells.entries in
      let numbered : number ≡ length before + 1 = counted ∙ (ap length past ∙ length-append before (update.Replace m ∷ [])) in
      let answer : r ≡ receipt.Replace m (replaced.Done number old.payload) = subst (λ o. IsSomeAnd o (λ x. r ≡ receipt.Replace m (replaced.Done (length before + 1) x.payload))) member done ∙ ap (λ j. receipt.Replace m (replaced.Done j old.payload)) (sym numbered) in
      let known = all_with (IsMemberOf k2.log.terms) members old tells.members (span_there m.span members old member).0 in
      let same = steps.calls.caller.terms ∙ terms in record {
        right = (
          before,
          (
            subst (λ p. IsPrefix p before) steps.calls.past tells.begins,
            past,
            counted,
            subst (λ z. IsSomeAnd (at_span m.span (state_after (start z) before).registered) (λ x. x.payload ≡ old.payload)) same (subst (λ o. IsSomeAnd o (λ x. x.payload ≡ old.payload)) (sym member) refl),
            subst (λ (z : Terms). old.payload < z.payloads) same known.1,
          ),
        );
        call = subst (λ x. AcceptsUpdate x at.node changed k k3) answer (accepts_so laws t (update.Replace m) at now k1 k2 alone tree level in_leaf written change k k3 before r steps is rest changed stored);
      }

-- a refusal
module _ (t : Terms) (at : Held) (m : Member) (k : CallerData) (alone : HoldsAlone t at k.log.holdings) (level : at.content.level ≡ 0) (here : IsInFences m.span.first at.content) (none : at_span m.span (entries_of at.content) ≡ None) where
  pub shows_no_span : ShowsNoSpan m k.log
  shows_no_span =
      let leaf = leaf_alone t at.node at.content at.changed alone.lock [] k.log.holdings.held alone.held alone.here level in record {
        leaves = at.node ∷ [];
        held = leaf.0 m.span.first m.span.first here.0 here.1;
        none = subst (λ xs. IsNone (at_span m.span xs)) (sym leaf.1) (subst IsNone (sym none) refl);
      }

  pub unspanned_so : (k' : CallerData) (clock : ℕ) → AfterClock t (ask.Refused (update.Replace m)) clock k.log k'.log → AppendsRefusal (ask.Refused (update.Replace m)) clock k.log k'.log → k' ≡ record k { log = k'.log } → RefusesReplacement t m (replaced.NotFound (clock % 4294967296)) k k'
  unspanned_so k' clock after refusal rest =
      let appended = refusal shows_no_span in
      let seen = seen_so t (update.Replace m) clock k.log k'.log after in record {
        right = (seen.0, seen.1, subst (λ z. IsNone (at_span m.span (state_after (start z) k'.log.past).registered)) seen.2 appended.right);
        none_taken = refl;
        call = refuses_so t (update.Replace m) (receipt.Replace m (replaced.NotFound (clock % 4294967296))) clock k k' after appended rest;
      }

pub alone_may_store : (t : Terms) (at : Held) (v : Log) → HoldsAlone t at v.holdings → MayStore at.node v
alone_may_store t at v alone = subst (λ o. IsSomeAnd o (λ (h : Holding). IsSome h.mark ⊎ IsTrue (is_among v.holdings.out at.node))) (sym (ap (held_of at.node) alone.held ∙ found_head at.node alone.lock [] alone.here.node)) (inl alone.here.marked)

-- the leaf was read whole, after a load of its count
module _ (t : Terms) (at : Held) (m : Member) (k k1 k2 : CallerData) (found : ℕ) (content : NodeData) (alone : HoldsAlone t at k.log.holdings) (load : k1 ≡ record k { log = after_node_load at.node 5 found k.log }) (reads : ReadsHeld at.node k1 k2 content) (same : k2.log.holdings ≡ k1.log.holdings) where
  pub read_alone : HoldsAlone t at k2.log.holdings
  read_alone = subst (HoldsAlone t at) (sym same) (cut_alone t at k k1 found alone load)

  pub read_tree : KnowsTree k.log.holdings → KnowsTree k2.log.holdings
  read_tree tree = subst KnowsTree (sym same) (cut_tree t at k k1 found alone load tree)

  pub read_steps : StepsOnNodes k k2
  read_steps = steps_then k k1 k2 (cut_steps t at k k1 found alone load) (steps_of_read at.node k1 k2 content reads)

  pub read_is : content ≡ at.content
  read_is = spell_one at.node content at.content k1.log (spells_read at.node k1 k2 content reads) (cut_spells t at k k1 found alone load)

  pub read_leaf : at.content.level ≡ 0 → IsLeaf content
  read_leaf level = subst IsLeaf (sym read_is) (cut_leaf t at k k1 found alone load level)

  pub read_ordered : InOrder content
  read_ordered = subst InOrder (sym read_is) (settled_order t at.node at.content at.changed alone.lock alone.here)

  pub read_has : (old : Member) → at_span m.span (entries_of at.content) ≡ Some old → IsSome (at_span m.span (entries_of content))
  read_has old has = subst (λ (z : NodeData). IsSome (at_span m.span (entries_of z))) (sym read_is) (subst IsSome (sym has) refl)

  pub read_written : (k3 : CallerData) (now : NodeData) → now ≡ paid_leaf m content → StoresHeld at.node now k2 k3 → SpellsHeld at.node now k3.log → IsRewritten (paid_leaf m at.content) read_alone.lock [] [] k2 k3
  read_written k3 now is stores spells =
      let e : now ≡ paid_leaf m at.content = is ∙ ap (paid_leaf m) read_is in
      rewritten_so (paid_leaf m at.content) at.node read_alone.lock [] [] k2 k3 (λ z. omega (arith, z)) read_alone.here.node tt tt read_alone.held
      (subst (λ z. StoresHeld at.node z k2 k3) e stores) (subst (λ z. SpellsHeld at.node z k3.log) e spells)

  pub written_steps : (k3 : CallerData) (now : NodeData) → now ≡ paid_leaf m content → StoresHeld at.node now k2 k3 → SpellsHeld at.node now k3.log → StepsOnNodes k k3
  written_steps k3 now is stores spells = steps_then k k2 k3 read_steps (read_written k3 now is stores spells).same

-- the payload that the member has already leaves the leaf as it is
paid_leaf_same : (m : Member) (s : NodeData) → IsLeaf s → InOrder s → at_span m.span (entries_of s) ≡ Some m → paid_leaf m s ≡ s
paid_leaf_same m s leaf order has = ap (λ es. record s { body = Entries es }) (paid_same m s.low s.high (entries_of s) (leaf_order s leaf order) has) ∙ ap (λ b. record s { body = b }) (sym leaf)

pub kept_leaf : (t : Terms) (at : Held) (k k1 : CallerData) (found : ℕ) (alone : HoldsAlone t at k.log.holdings) (load : k1 ≡ record k { log = after_node_load at.node 5 found k.log }) (m : Member) → at.content.level ≡ 0 → at_span m.span (entries_of at.content) ≡ Some m → paid_leaf m at.content ≡ at.content
kept_leaf t at k k1 found alone load m level has = paid_leaf_same m at.content (cut_leaf t at k k1 found alone load level) (settled_order t at.node at.content at.changed alone.lock alone.here) has

-- a member with this payload and this span is this one
pub is_member : (m old : Member) (es : List Member) → at_span m.span es ≡ Some old → old.payload ≡ m.payload → at_span m.span es ≡ Some m
is_member m old es has payload =
    let span = (span_there m.span es old has).1 in
    has ∙ ap Some (λ i. record { span = span i; payload = payload i })
