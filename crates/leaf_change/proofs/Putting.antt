-- A member is put into a held leaf and committed.
use Rattle.std.proofs.Common.{ℕ, [], ◌∷◌, Bool, Some, ◌≡◌, ◌≢◌, ◌<◌, ◌≤◌, length, length-append, sym, refl, ap, ◌∙◌, subst, arith, true, None, le-leb}
use mathlib.Core.List.{IsPrefix}
use Rattle.reg_model.specs.declared.span.Member.{Member}
use Rattle.reg_model.specs.SpanData.{IsSpan}
use Rattle.reg_model.specs.State.{IsFree}
use Rattle.tree_laws.specs.Lawful.{IsLawfulTree}
use Rattle.tree_laws.specs.LocalChange.{IsChangeOf, IsLawfulChange}
use Rattle.tree_laws.specs.Steps.{IsPut}
use Rattle.tree_laws.specs.Trees.{Contents}
use Rattle.tree_shape.specs.Changes.{with_entry}
use Rattle.tree_shape.specs.NodeData.{NodeData, Entries, IsLeaf, entries_of}
use Rattle.tree_laws.specs.Numbers.{is_among}
use Rattle.tree_shape.proofs.Slots.{put_length}
use Rattle.word_rule.specs.CallerData.{CallerData}
use Rattle.word_rule.specs.NodeTells.{KnowsTree}
use Rattle.word_rule.specs.declared.log.Terms.{Terms}
use Rattle.word_rule.specs.SharedWords.{updated}
use Rattle.word_rule.specs.Commits.{AfterCommit, MayCommit}
use Rattle.word_rule.specs.Exchange.{is_leaf_at}
use Rattle.tree_descent.specs.Paths.{StepsOnNodes}
use Rattle.tree_descent.proofs.Lowering.{settled_live}
use Rattle.tree_descent.specs.Removing.{HoldsAlone}
use Rattle.tree_descent.specs.Updates.{AcceptsUpdate}
use Rattle.tree_descent.specs.declared.descent.Held.{Held}
use Rattle.tree_descent.proofs.Storing.{IsRewritten}
use Rattle.tree_descent.proofs.Putting.{leaf_at_zero}
use Rattle.leaf_change.specs.Insertion.{PutsMember}
use Rattle.leaf_change.proofs.LeafCommits.{LeafLaws}
use Rattle.leaf_change.proofs.LeafUpdates.{accepts_so, after_else, after_here, contents_here, live_here, may_update, past_is}
use Rattle.reg_model.specs.declared.answer.Update.TheVariants as update
use Rattle.reg_model.specs.declared.answer.Inserted.TheVariants as inserted
use Rattle.reg_model.specs.declared.answer.Receipt.TheVariants as receipt

-- the law of a put, as a change of the leaf alone
abbrev pub PutLaw : Type 0
PutLaw = (f : Contents) (live : ℕ → Bool) (leaf : ℕ) (member : Member) (g : Contents) → IsLawfulTree f live → IsPut f live leaf member g → IsChangeOf f live leaf (leaf ∷ []) [] g (Some (update.Register member)) (leaf ∷ [])

module _ (law : PutLaw) (laws : LeafLaws) (t : Terms) (at : Held) (m : Member) (k k1 k2 : CallerData) (alone : HoldsAlone t at k1.log.holdings) (tree : KnowsTree k1.log.holdings) (level : at.content.level ≡ 0) (low : at.content.low ≤ m.span.first) (high : m.span.last ≤ at.content.high) (span : IsSpan m.span) (room : length (entries_of at.content) < 10)
    (free : IsFree m.span (entries_of at.content)) (written : IsRewritten (record at.content { body = Entries (with_entry m (entries_of at.content)) }) alone.lock [] [] k1 k2) where
  abbrev s : NodeData
  s = at.content

  abbrev now : NodeData
  now = record s { body = Entries (with_entry m (entries_of s)) }

  in_leaf : is_leaf_at m.span.first (Some now) ≡ true
  in_leaf = let a = le-leb s.low m.span.first low in let o = span.ordered in let b = le-leb m.span.first s.high (omega (arith, o, high)) in rw (a, b) refl

  -- the tree with the leaf changed
  abbrev after : Contents
  after = updated tree.contents written.lock.node (record s { body = Entries (with_entry m (entries_of s)) })

  here : tree.contents written.lock.node ≡ s
  here = contents_here laws t (update.Register m) at now k1 k2 alone tree level in_leaf written

  put : IsPut tree.contents tree.live written.lock.node m after
  put = record {
    live_leaf = live_here laws t (update.Register m) at now k1 k2 alone tree level in_leaf written;
    is_leaf = subst IsLeaf (sym here) (leaf_at_zero s (settled_live t at.node s at.changed alone.lock alone.here).1.1.ordered level);
    room = subst (λ (z : NodeData). length (entries_of z) < 10) (sym here) room;
    span = span;
    low = subst (λ (z : NodeData). z.low ≤ m.span.first) (sym here) low;
    high = subst (λ (z : NodeData). m.span.last ≤ z.high) (sym here) high;
    free = subst (λ (z : NodeData). IsFree m.span (entries_of z)) (sym here) free;
    above = after_here laws t (update.Register m) at now k1 k2 alone tree level in_leaf written ∙ ap (λ (z : NodeData). record z { body = Entries (with_entry m (entries_of z)) }) (sym here);
    others = after_else laws t (update.Register m) at now k1 k2 alone tree level in_leaf written;
  }

  change : IsLawfulChange tree.contents tree.live written.lock.node (is_among (written.lock.node ∷ [])) (is_among []) after (Some (update.Register m))
  change = (law tree.contents tree.live written.lock.node m after tree.lawful put).lawful

  pub may_put : 0 < k2.log.budget.allowance → m.payload < t.payloads → k2.log.loader ≡ None → MayCommit t (update.Register m) k2.log
  may_put due payload = may_update laws t (update.Register m) at now k1 k2 alone tree level in_leaf written change due (span, payload)

  differs : s ≢ now
  differs e = let longer = ap (λ (z : NodeData). length (entries_of z)) e in let one = put_length (entries_of s) m in omega (arith, longer, one)

  pub put_so : (k3 : CallerData) (found number : ℕ) → StepsOnNodes k k2 → AfterCommit (update.Register m) found k2.log k3.log → number ≡ length k3.log.past → k3 ≡ record k2 { log = k3.log } → PutsMember t m at.node number k k3
  put_so k3 found number steps (before, r, (tells, done, is)) counted rest =
      let past = past_is laws t (update.Register m) at now k1 k2 alone tree level in_leaf written change k k3 before r steps is rest in
      let answer : r ≡ receipt.Register m (inserted.Done number) = done ∙ ap (λ j. receipt.Register m (inserted.Done j)) (sym (counted ∙ (ap length past ∙ length-append before (update.Register m ∷ [])))) in record {
        right = (before, (subst (λ p. IsPrefix p before) steps.calls.past tells.begins, past, counted));
        call = subst (λ x. AcceptsUpdate x at.node true k k3) answer (accepts_so laws t (update.Register m) at now k1 k2 alone tree level in_leaf written change k k3 before r steps is rest true (written.stored s alone.here.spells differs));
      }
