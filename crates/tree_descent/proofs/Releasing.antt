-- A held node is let go of, where all that is held has settled.
use Rattle.std.proofs.Common.{◌≡◌, ℕ, sym, refl, ap, ◌∙◌, subst, arith, Bool, false, IsTrue, None, IsSome, IsSomeAnd}
use Rattle.word_rule.specs.CallerData.{CallerData}
use Rattle.word_rule.specs.Exchange.{Differs, is_lawful}
use Rattle.word_rule.specs.Held.{held_of}
use Rattle.word_rule.specs.Logs.{after_spending}
use Rattle.word_rule.specs.Spelling.{spelled, SpellsNode}
use Rattle.word_rule.specs.Steps.{MayRelease, after_node_release, after_node_release_same}
use Rattle.word_rule.specs.declared.log.Holding.{Holding}
use Rattle.word_rule.specs.declared.log.Log.{Log}
use Rattle.word_rule.proofs.Each.{held_is}
use Rattle.free_list.proofs.Settled.{ExchangeLaw}
use Rattle.tree_descent.specs.Releases.{LetsGo, MayGo, with_release_less}
use Rattle.tree_descent.proofs.LettingGo.{settles_nothing}
use Rattle.tree_descent.proofs.Loading.{none_more}
use Rattle.tree_descent.proofs.NodeSteps.{steps_so}
use Rattle.tree_descent.proofs.Spending.{more_spent, spends_one, spends_same}

module _ (n : ℕ) (changed : Bool) (k : CallerData) (may : MayGo n changed k.log.holdings) where
  pub may_raise : MayRelease n k.log
  may_raise =
      let spells = (held_is (λ h. SpellsNode h.words h.settled) n k.log.holdings.held may.lock may.settled may.found).0 in
      subst (λ o. IsSomeAnd o (λ a. IsSome (spelled a.words) × (IsSome a.mark → Differs a → IsTrue (is_lawful k.log None)))) (sym may.found)
      (subst IsSome (sym spells) refl, (λ marked differs. absurd (differs spells)))

  pub is_clean : changed ≡ false → IsSomeAnd (held_of n k.log.holdings.held) (λ h. h.stored ≡ false)
  is_clean e = subst (λ o. IsSomeAnd o (λ (h : Holding). h.stored ≡ false)) (sym may.found) (may.stored e)

  pub raised : ExchangeLaw → (k' : CallerData) → k' ≡ record k { log = after_node_release n k.log } → LetsGo n k k'
  raised law k' is =
      let equal : k' ≡ record k { log = record (after_node_release_same n k.log) { budget = after_spending k.log.budget } } = is ∙ ap (λ (z : Log). record k { log = record (after_node_release_same n z) { budget = after_spending z.budget } }) (settles_nothing law k.log may.settled) in
      record {
        steps = spends_one k k' (steps_so (with_release_less k) equal refl (none_more k.log.trace.loads));
        held = ap (λ (z : CallerData). z.log.holdings.held) equal;
        out = ap (λ (z : CallerData). z.log.holdings.out) equal;
      }

  pub kept : (k' : CallerData) → k' ≡ record k { log = after_node_release_same n k.log } → LetsGo n k k'
  kept k' is = record {
    steps = more_spent 0 1 k k' (omega arith) (spends_same k k' (steps_so k is refl (none_more k.log.trace.loads)));
    held = ap (λ (z : CallerData). z.log.holdings.held) is;
    out = ap (λ (z : CallerData). z.log.holdings.out) is;
  }
