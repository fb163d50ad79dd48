-- The root has taken the place of its only two children, which are given back.
use Rattle.std.proofs.Common.{◌≡◌, ◌≢◌, ℕ, [], ◌∷◌, sym, refl, ap, ◌∙◌, subst, arith, true, IsTrue, IfSome, IsSome, ◌<◌, length, true≢false}
use Rattle.std.specs.List.{AllByRecursion}
use Rattle.tree_shape.specs.NodeData.{NodeData}
use Rattle.tree_laws.specs.Numbers.{is_among}
use Rattle.word_rule.specs.CallerData.{CallerData, surplus}
use Rattle.word_rule.specs.Held.{all_but, held_of, without_lock}
use Rattle.word_rule.specs.NodeTells.{HolderTells, IsHeldNode}
use Rattle.word_rule.specs.Sights.{after_node_load}
use Rattle.word_rule.specs.declared.log.Holdings.{Holdings}
use Rattle.word_rule.specs.declared.log.Terms.{Terms}
use Rattle.word_rule.proofs.HeadPlays.{all_but_shorter}
use Rattle.version_locks.specs.declared.locking.Busy.{Busy}
use Rattle.tree_descent.specs.Paths.{StepsOnNodes}
use Rattle.tree_descent.specs.Returns.{ReturnsNode, IsGoneOrSettled, KeepsOut}
use Rattle.tree_descent.proofs.Spending.{spends_same, steps_after, surplus_steps}
use Rattle.tree_descent.proofs.HeldLists.{found_head}
use Rattle.tree_descent.specs.Releases.{HaveSettled, LetsGo, MayGo}
use Rattle.tree_descent.proofs.Loading.{found_after, found_between, keeps_then}
use Rattle.node_mend.specs.Siblings.{HoldsSiblings, HoldsSunk, SinksRoot, sunk_root, LeavesParent}
use Rattle.node_mend.specs.declared.sibling.Siblings.{Siblings}
use Rattle.node_mend.proofs.Mended.{live_lock, loaded_none, without_low, as_given, as_returned}
use Rattle.node_mend.proofs.Pairings.{both_all, both_low}

module _ (x : Siblings) (k : CallerData) (gone : HoldsSunk x k.log.holdings) where
  upper_far : (m : ℕ) → m ≢ 0 → gone.upper.node ≢ m
  upper_far m some e = some (sym e ∙ gone.root)

  high_far : gone.high.node ≢ x.left.node
  high_far e = gone.different (sym (sym gone.right ∙ e))

  pub left_held : IsSome (held_of x.left.node k.log.holdings.held)
  left_held = subst IsSome (sym (ap (held_of x.left.node) gone.held ∙ both_low gone.left_first gone.low gone.high (gone.upper ∷ []) x.left.node gone.left high_far)) refl

  pub left_ready : AllByRecursion (IsGoneOrSettled x.left.node) k.log.holdings.held
  left_ready = subst (AllByRecursion (IsGoneOrSettled x.left.node)) (sym gone.held) (both_all (IsGoneOrSettled x.left.node) gone.left_first gone.low gone.high (gone.upper ∷ [])
      ((λ _. gone.left_gone), (λ ne. absurd (ne gone.left)))
      ((λ e. absurd (high_far e)), (λ _. gone.right_spells))
      (((λ e. absurd (upper_far x.left.node gone.no_root.0 e)), (λ _. gone.spells)), tt))

  module _ (k1 : CallerData) (back : ReturnsNode x.left.node k k1) where
    pub held1 : k1.log.holdings.held ≡ gone.high ∷ gone.upper ∷ []
    held1 = back.held ∙ (ap (without_lock x.left.node) gone.held ∙ without_low gone.left_first gone.low gone.high (gone.upper ∷ []) x.left.node gone.left high_far (upper_far x.left.node gone.no_root.0, tt))

    pub right_held : IsSome (held_of x.right.node k1.log.holdings.held)
    right_held = subst IsSome (sym (ap (held_of x.right.node) held1 ∙ found_head x.right.node gone.high (gone.upper ∷ []) gone.right)) refl

    pub right_ready : AllByRecursion (IsGoneOrSettled x.right.node) k1.log.holdings.held
    right_ready = subst (AllByRecursion (IsGoneOrSettled x.right.node)) (sym held1) (((λ _. gone.right_gone), (λ ne. absurd (ne gone.right))), (((λ e. absurd (upper_far x.right.node gone.no_root.1 e)), (λ _. gone.spells)), tt))

    pub right_is_out : IsTrue (is_among k1.log.holdings.out x.right.node)
    right_is_out = subst (λ os. IsTrue (is_among os x.right.node)) (sym back.out) gone.right_out

    module _ (k2 : CallerData) (again : ReturnsNode x.right.node k1 k2) where
      pub held2 : k2.log.holdings.held ≡ gone.upper ∷ []
      held2 = again.held ∙ (ap (without_lock x.right.node) held1 ∙ without_low true gone.high gone.upper [] x.right.node gone.right (upper_far x.right.node gone.no_root.1) tt)

      out2 : k2.log.holdings.out ≡ []
      out2 = again.out ∙ (ap (all_but x.right.node) back.out ∙ gone.no_other)

      pub sinks_so : (t : Terms) (k0 k3 : CallerData) (found : ℕ) (content : NodeData) → k0.log.terms ≡ t → HoldsSiblings t x k0.log.holdings → StepsOnNodes k0 k → HolderTells 0 k2.log → k3 ≡ record k2 { log = after_node_load 0 2 found k2.log } → content ≡ sunk_root x → SinksRoot t x (record { node = 0; content = content; changed = true }) k0 k3
      sinks_so t k0 k3 found content terms hs steps tells loads is =
          let own : IsHeldNode k2.log.terms gone.upper = subst (λ o. IfSome o (IsHeldNode k2.log.terms)) (ap (held_of 0) held2 ∙ found_head 0 gone.upper [] gone.root) tells in
          let terms2 : k2.log.terms ≡ t = again.spends.calls.caller.terms ∙ (back.spends.calls.caller.terms ∙ (steps.calls.caller.terms ∙ terms)) in
          let within = hs.left_within in
          let kept : k3.log.holdings ≡ k2.log.holdings = ap (λ (z : CallerData). z.log.holdings) loads in
          subst (λ z. SinksRoot t x (record { node = 0; content = z; changed = true }) k0 k3) (sym is) (record {
            node = refl;
            holds = record {
              within = (omega (arith, within));
              lock = gone.upper;
              held = ap (λ (z : Holdings). z.held) kept ∙ held2;
              here = live_lock t k2.log.terms 0 (sunk_root x) gone.upper terms2 gone.root gone.content gone.spells gone.stored gone.marked own;
              out = ap (λ (z : Holdings). z.out) kept ∙ out2;
            };
            level = hs.level;
            spends = steps_after 2 0 2 k0 k2 k3 (omega arith) (steps_after 1 1 2 k0 k1 k2 (omega arith) (steps_after 0 1 1 k0 k k1 (omega arith) (spends_same k0 k steps) back.spends) again.spends) (loaded_none 0 2 found k2 k3 loads);
          })

-- a child was lost, and the other one let go of
module _ (x : Siblings) (why : Busy) (k k1 : CallerData) (gone : HoldsSunk x k1.log.holdings) (steps : StepsOnNodes k k1) (root : x.above.node ≡ 0) where
  module _ (k2 : CallerData) (keeps : KeepsOut x.left.node why k1 k2) where
    held_lost : k2.log.holdings.held ≡ gone.high ∷ gone.upper ∷ []
    held_lost = held1 x k1 gone (as_given x.left.node k1 k2) (as_returned x.left.node why k1 k2 keeps)

    pub left_lost_may : MayGo x.right.node true k2.log.holdings
    left_lost_may = record {
      lock = gone.high;
      found = ap (held_of x.right.node) held_lost ∙ found_head x.right.node gone.high (gone.upper ∷ []) gone.right;
      stored = λ e. absurd (true≢false e);
      settled = subst HaveSettled (sym held_lost) (gone.right_spells, (gone.spells, tt));
    }

    pub left_lost_surplus : 1 < surplus k → 0 < surplus k2
    left_lost_surplus some = surplus_steps 1 k k2 1 (steps_after 0 1 1 k k1 k2 (omega arith) (spends_same k k1 steps) keeps.spends) (omega (arith, some))

    pub left_lost : (k3 : CallerData) → LetsGo x.right.node k2 k3 → LeavesParent x why k k3
    left_lost k3 goes = record {
      lost = keeps.lost;
      cause = found_between why k k1 k2 k3 steps.loads keeps.cause goes.steps.loads;
      spends = steps_after 1 1 2 k k2 k3 (omega arith) (steps_after 0 1 1 k k1 k2 (omega arith) (spends_same k k1 steps) keeps.spends) goes.steps;
      above = record {
        lock = gone.upper;
        held = goes.held ∙ (ap (without_lock x.right.node) held_lost ∙ without_low true gone.high gone.upper [] x.right.node gone.right (upper_far x k1 gone x.right.node gone.no_root.1) tt);
        node = gone.root ∙ sym root;
        spells = gone.spells;
        stored = gone.stored;
      };
      out = (let two = gone.two_out in let e = ap length (goes.out ∙ keeps.out) in omega (arith, two, e));
    }

  -- the left one was given back, and the right one lost
  pub right_lost : (k2 k3 : CallerData) → ReturnsNode x.left.node k1 k2 → KeepsOut x.right.node why k2 k3 → LeavesParent x why k k3
  right_lost k2 k3 back keeps = record {
    lost = keeps.lost;
    cause = found_after why k k2 k3 (keeps_then k k1 k2 steps.loads back.spends.loads) keeps.cause;
    spends = steps_after 1 1 2 k k2 k3 (omega arith) (steps_after 0 1 1 k k1 k2 (omega arith) (spends_same k k1 steps) back.spends) keeps.spends;
    above = record {
      lock = gone.upper;
      held = held2 x k1 gone k2 back (as_given x.right.node k2 k3) (as_returned x.right.node why k2 k3 keeps);
      node = gone.root ∙ sym root;
      spells = gone.spells;
      stored = gone.stored;
    };
    out = (let two = gone.two_out in let e = ap length (keeps.out ∙ back.out) in let fewer = all_but_shorter x.left.node k1.log.holdings.out in omega (arith, two, e, fewer));
  }
