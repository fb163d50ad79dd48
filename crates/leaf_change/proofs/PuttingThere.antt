-- A member is put into a held leaf in its place, after loads of the leaf's words.
use Rattle.std.proofs.Common.{◌≡◌, ℕ, ◌∙◌, sym, ap, ◌<◌, [], length, true, None, subst, arith}
use Rattle.reg_model.specs.declared.span.Member.{Member}
use Rattle.reg_model.specs.SpanData.{IsSpan}
use Rattle.tree_shape.proofs.Slots.{with_entry-parts}
use Rattle.tree_shape.specs.Changes.{with_entry}
use Rattle.tree_shape.specs.NodeData.{NodeData, Entries, entries_of, place_for}
use Rattle.word_rule.specs.CallerData.{CallerData, due}
use Rattle.word_rule.specs.declared.log.Terms.{Terms}
use Rattle.word_rule.specs.Commits.{AfterCommit, MayCommit}
use Rattle.word_rule.specs.NodeTells.{KnowsTree}
use Rattle.word_rule.specs.Sights.{after_node_load}
use Rattle.node_store.specs.Entries.{leaf_with, with_entries, with_entry_at}
use Rattle.node_store.specs.Holding.{SpellsHeld, StoresHeld}
use Rattle.tree_descent.specs.declared.descent.Held.{Held}
use Rattle.tree_descent.specs.Paths.{StepsOnNodes}
use Rattle.tree_descent.proofs.NodeSteps.{steps_then}
use Rattle.tree_descent.proofs.Spending.{spends_same}
use Rattle.tree_descent.proofs.Storing.{IsRewritten, rewritten_so}
use Rattle.tree_descent.specs.Removing.{HoldsAlone}
use Rattle.leaf_change.specs.Insertion.{FitsLeaf}
use Rattle.leaf_change.proofs.Answering.{AnswersHere, put_here}
use Rattle.leaf_change.proofs.LeafCommits.{LeafLaws}
use Rattle.leaf_change.proofs.Putting.{PutLaw, may_put, put_so}
use Rattle.leaf_change.proofs.Spending.{due_after}
use Rattle.leaf_change.proofs.TakingThere.{cut_alone, cut_steps, cut_tree}
use Rattle.reg_model.specs.declared.answer.Inserted.TheVariants as inserted
use Rattle.reg_model.specs.declared.answer.Update.TheVariants as update

-- a held leaf with one entry more where the address leads is the leaf with that entry
pub put_there : (place : ℕ) (m : Member) (s : NodeData) → place ≡ place_for m.span.first (entries_of s) → leaf_with place m s ≡ record s { body = Entries (with_entry m (entries_of s)) }
put_there place m s is = ap (λ es. with_entries es s) (ap (λ k. with_entry_at k m (entries_of s)) is ∙ sym (with_entry-parts m (entries_of s)))

module _ (t : Terms) (at : Held) (m : Member) (place : ℕ) (k k1 k2 : CallerData) (found : ℕ) (fits : FitsLeaf t m at k.log.holdings) (load : k1 ≡ record k { log = after_node_load at.node 5 found k.log }) (is : place ≡ place_for m.span.first (entries_of at.content)) (stores : StoresHeld at.node (leaf_with place m at.content) k1 k2) (spells : SpellsHeld at.node (leaf_with place m at.content) k2.log) where
  alone : HoldsAlone t at k1.log.holdings
  alone = cut_alone t at k k1 found fits.alone load

  written : IsRewritten (record at.content { body = Entries (with_entry m (entries_of at.content)) }) alone.lock [] [] k1 k2
  written =
      let put = put_there place m at.content is in
      rewritten_so (record at.content { body = Entries (with_entry m (entries_of at.content)) }) at.node alone.lock [] [] k1 k2 (λ e. omega (arith, e)) alone.here.node tt tt alone.held
      (subst (λ z. StoresHeld at.node z k1 k2) put stores) (subst (λ z. SpellsHeld at.node z k2.log) put spells)

  steps : StepsOnNodes k k2
  steps = steps_then k k1 k2 (cut_steps t at k k1 found fits.alone load) written.same

  pub put_due : 0 < due k → 0 < due k2
  put_due = due_after 0 k k2 (spends_same k k2 steps)

  module _ (law : PutLaw) (laws : LeafLaws) (span : IsSpan m.span) (tree : KnowsTree k.log.holdings) where
    pub may_commit_put : 0 < due k → m.payload < t.payloads → k.log.loader ≡ None → MayCommit t (update.Register m) k2.log
    may_commit_put begun payload loader =
        let some = put_due begun in
        may_put law laws t at m k k1 k2 alone (cut_tree t at k k1 found fits.alone load tree) fits.level fits.low fits.high span fits.room fits.free written (omega (arith, some)) payload (steps.calls.caller.loader ∙ loader)

    pub put_answers : (k3 : CallerData) (number : ℕ) (clock : ℕ) → AfterCommit (update.Register m) clock k2.log k3.log → number ≡ length k3.log.past → k3 ≡ record k2 { log = k3.log } → AnswersHere t m at.node (inserted.Done number) true k k3
    put_answers k3 number clock after counted rest =
        put_here t m at.node number k k3 (put_so law laws t at m k k1 k2 alone (cut_tree t at k k1 found fits.alone load tree) fits.level fits.low fits.high span fits.room fits.free written k3 clock number steps after counted rest)
