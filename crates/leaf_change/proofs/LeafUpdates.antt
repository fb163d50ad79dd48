-- A held leaf, changed by an update and committed, whichever update it is.
use Rattle.std.proofs.Common.{◌≡◌, ◌≢◌, ℕ, ◌-◌, ◌<◌, ◌++◌, List, [], ◌∷◌, sym, refl, ap, ◌∙◌, subst, arith, Bool, true, IsTrue, Some, None, IsSome, Contains, ◌⊎◌, inl, is_some, eq-eqb, ne_eqb}
use Rattle.std.specs.List.{AllByRecursion}
use Rattle.reg_model.specs.declared.answer.Receipt.{Receipt}
use Rattle.reg_model.specs.declared.answer.Update.{Update}
use Rattle.tree_laws.specs.LocalChange.{IsLawfulChange}
use Rattle.tree_shape.specs.NodeData.{NodeData, frame_of}
use Rattle.tree_laws.specs.Numbers.{is_among}
use Rattle.tree_laws.specs.Trees.{Contents}
use Rattle.word_rule.specs.CallerData.{CallerData}
use Rattle.word_rule.specs.Callers.{IsOfTerms}
use Rattle.word_rule.specs.Commits.{MayCommit, after_commit}
use Rattle.word_rule.specs.Exchange.{address_of, is_lawful, is_leaf_at, settle}
use Rattle.word_rule.specs.SharedWords.{updated}
use Rattle.word_rule.specs.NodeTells.{KnowsTree}
use Rattle.word_rule.specs.Steps.{after_update, place_by}
use Rattle.word_rule.specs.declared.log.Budget.{Budget}
use Rattle.word_rule.specs.declared.log.Holding.{Holding}
use Rattle.word_rule.specs.declared.log.Log.{Log}
use Rattle.word_rule.specs.declared.log.Receipts.{Receipts}
use Rattle.word_rule.specs.declared.log.Terms.{Terms}
use Rattle.word_rule.proofs.CallersKept.{kept_caller_on}
use Rattle.tree_descent.specs.Paths.{StepsOnNodes}
use Rattle.tree_descent.specs.Removing.{HoldsAlone}
use Rattle.tree_descent.specs.Updates.{AcceptsUpdate}
use Rattle.tree_descent.specs.declared.descent.Held.{Held}
use Rattle.tree_descent.proofs.Storing.{IsRewritten}
use Rattle.tree_descent.proofs.NodeSteps.{caller_so}
use Rattle.leaf_change.proofs.LeafCommits.{LeafLaws, lawful_commit, settled_after}

module _ (laws : LeafLaws) (t : Terms) (u : Update) (at : Held) (now : NodeData) (k1 k2 : CallerData) (alone : HoldsAlone t at k1.log.holdings) (tree : KnowsTree k1.log.holdings) (level : now.level ≡ 0)
    (in_leaf : is_leaf_at (address_of u) (Some now) ≡ true) (written : IsRewritten now alone.lock [] [] k1 k2) where
  told : IsTrue (tree.live alone.lock.node) × (tree.contents alone.lock.node ≡ alone.lock.settled)
  told = (subst (AllByRecursion (λ (h : Holding). IsSome h.mark → IsTrue (tree.live h.node) × (tree.contents h.node ≡ h.settled))) alone.held tree.marked).0 alone.here.marked

  -- the tree with the leaf changed
  abbrev pub after : Contents
  after = updated tree.contents written.lock.node now

  pub live_here : IsTrue (tree.live written.lock.node)
  live_here = ap tree.live written.node ∙ told.0

  pub contents_here : tree.contents written.lock.node ≡ at.content
  contents_here = ap tree.contents written.node ∙ (told.1 ∙ alone.here.settled)

  pub after_here : after written.lock.node ≡ now
  after_here = rw (eq-eqb written.lock.node written.lock.node refl) refl

  pub after_else : (x : ℕ) → x ≢ written.lock.node → after x ≡ tree.contents x
  after_else x far = rw (ne_eqb x written.lock.node far) refl

  pub same_node : written.lock.node ≡ at.node
  same_node = written.node ∙ alone.here.node

  pub marked : is_some written.lock.mark ≡ true
  marked = ap is_some written.mark ∙ alone.here.marked

  here : tree.contents written.lock.node ≡ written.lock.settled
  here = contents_here ∙ (sym alone.here.settled ∙ sym written.settled)

  abbrev exact : Log
  exact = record k2.log { holdings = record { held = written.lock ∷ []; out = [] } }

  exact_is : exact ≡ k2.log
  exact_is = (λ i. record k2.log { holdings = record { held = sym written.held i; out = sym (written.out ∙ alone.out) i } })

  module _ (change : IsLawfulChange tree.contents tree.live written.lock.node (is_among (written.lock.node ∷ [])) (is_among []) after (Some u)) where
    pub may_update : 0 < k2.log.budget.allowance → IsOfTerms t u → k2.log.loader ≡ None → MayCommit t u k2.log
    may_update due member unloaded = record {
      due = due;
      member = member;
      few = record {
        leaf = written.lock;
        held = subst (λ hs. Contains hs written.lock) (sym written.held) (0, omega arith, refl);
        changed = ap (is_leaf_at (address_of u)) written.spells ∙ in_leaf;
        others = subst (AllByRecursion (λ (h : Holding). (h ≡ written.lock) ⊎ IsSome (place_by written.lock.node h.mark h))) (sym written.held) (inl refl, tt);
        loader = unloaded;
      };
      lawful = subst (λ z. IsTrue (is_lawful z (Some u))) exact_is
          (lawful_commit laws k2.log u written.lock [] now marked written.spells tt in_leaf level tree.contents tree.live after here after_here change);
    }

    pub updates_leaf : settle (Some u) k2.log ≡ record k2.log { holdings = record { held = record written.lock { settled = now; mark = Some (frame_of now) } ∷ []; out = [] } }
    updates_leaf = ap (settle (Some u)) (sym exact_is)
        ∙ settled_after laws k2.log u written.lock [] now marked written.spells tt in_leaf level tree.contents tree.live after here after_here change

    -- what the commit leaves of the caller
    module _ (k k3 : CallerData) (before : List Update) (r : Receipt) (steps : StepsOnNodes k k2) (is : k3.log ≡ after_commit u before r k2.log) (rest : k3 ≡ record k2 { log = k3.log }) where
      log_is : k3.log ≡ after_update u before r (record k2.log { holdings = record { held = record written.lock { settled = now; mark = Some (frame_of now) } ∷ []; out = [] } })
      log_is = is ∙ ap (after_update u before r) updates_leaf

      pub past_is : k3.log.past ≡ before ++ u ∷ []
      past_is = ap (λ z. z.past) log_is

      pub accepts_so : (changed : Bool) → written.lock.stored ≡ changed → AcceptsUpdate r at.node changed k k3
      accepts_so changed stored = record {
        caller = kept_caller_on steps.calls.caller (caller_so k2 (rest ∙ ap (λ (z : Log). record k2 { log = z }) log_is) refl);
        receipts = ap (λ z. z.receipts) log_is ∙ ap (λ (rs : Receipts). record rs { own = rs.own ++ r ∷ [] }) steps.calls.receipts;
        budget = ap (λ z. z.budget) log_is ∙ ap (λ (b : Budget). record b { allowance = b.allowance - 1 }) steps.budget;
        holds = record {
          lock = record written.lock { settled = now; mark = Some (frame_of now) };
          held = ap (λ z. z.holdings.held) log_is;
          node = same_node;
          spells = written.spells;
          stored = stored;
        };
        out = ap (λ z. z.holdings.out) log_is;
      }
