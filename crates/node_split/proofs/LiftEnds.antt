-- A lifted root settles when the half that isn't on the way is let go of: what is held then.
use Rattle.std.proofs.Common.{◌≡◌, ◌≢◌, ℕ, ◌+◌, ◌-◌, ◌≤◌, List, [], ◌∷◌, drop, map, sym, refl, ap, ◌∙◌, subst, arith, Bool, true, false, nat_le, Some, IsSome, if◌then◌else◌}
use Rattle.std.proofs.lemmas.Bool.{leb-true, leb-false}
use Rattle.tree_shape.specs.NodeData.{NodeData}
use Rattle.tree_laws.specs.Numbers.{is_among}
use Rattle.tree_laws.specs.Steps.{middle_fence}
use Rattle.tree_laws.specs.Trees.{Contents, branch}
use Rattle.word_rule.specs.CallerData.{CallerData}
use Rattle.word_rule.specs.declared.log.Holding.{Holding}
use Rattle.word_rule.specs.declared.log.Log.{Log}
use Rattle.word_rule.specs.declared.log.Terms.{Terms}
use Rattle.word_rule.specs.Exchange.{exchange}
use Rattle.word_rule.specs.Held.{held_of, without_lock}
use Rattle.word_rule.specs.Spelling.{SpellsNode}
use Rattle.word_rule.specs.Steps.{MayRelease, after_node_release}
use Rattle.tree_descent.specs.declared.descent.Held.{Held}
use Rattle.tree_descent.specs.Releases.{with_release_less}
use Rattle.tree_descent.proofs.HeldLists.{is_first}
use Rattle.tree_descent.proofs.Loading.{none_more}
use Rattle.tree_descent.proofs.Settling.{SettlingLaws, may_release, released, settled_group}
use Rattle.tree_descent.proofs.Storing.{found_at}
use Rattle.tree_descent.proofs.NodeSteps.{steps_so}
use Rattle.node_split.specs.declared.root_split.FullRoot.{FullRoot}
use Rattle.node_split.specs.Halves.{WritesRootParts}
use Rattle.node_split.specs.Splits.{HoldsFullRoot, half_for, other_half, root_for, root_parts_for}
use Rattle.node_split.proofs.HeldParts.{dropped, is_second, is_third}
use Rattle.node_split.proofs.Lifting.{LiftLaw, g, left_zero, lift_change, nothing_out, right_zero, root_now}
use Rattle.node_split.proofs.Settling.{settled_new}
use Rattle.node_split.proofs.Halved.{Ends, IsHalf, IsHalved, IsReleased, new_settled, settled_lock, written_settled}
use Rattle.node_split.proofs.SplitParts.{are_halves}

module _ (laws : SettlingLaws) (law : LiftLaw) (t : Terms) (full : FullRoot) (pc : ℕ) (k k' : CallerData) (h : HoldsFullRoot t full pc k.log.holdings) (w : WritesRootParts full k k') where
  abbrev become : Contents
  become = g t full pc k h w.tree

  left_far : full.left ≢ 0
  left_far = left_zero t full pc k h w.tree

  right_far : full.right ≢ 0
  right_far = right_zero t full pc k h w.tree

  upper_is : w.upper.node ≡ 0
  upper_is = root_now t full pc k h w.tree law k' w

  abbrev reached : List ℕ
  reached = 0 ∷ full.left ∷ full.right ∷ []

  abbrev v : Log
  v = record k'.log { holdings = record { held = w.right ∷ w.left ∷ w.upper ∷ []; out = full.right ∷ full.left ∷ [] } }

  v_is : v ≡ k'.log
  v_is = (λ i. record k'.log { holdings = record { held = sym w.held i; out = sym w.out i } })

  abbrev right' : Holding
  right' = settled_lock w.right (root_parts_for full).right

  abbrev left' : Holding
  left' = settled_lock w.left (root_parts_for full).left

  abbrev upper' : Holding
  upper' = settled_lock w.upper (root_parts_for full).above

  settles : map (exchange (is_among (0 ∷ [])) (is_among reached)) (w.right ∷ w.left ∷ w.upper ∷ []) ≡ right' ∷ left' ∷ upper' ∷ []
  settles = (λ i.
      settled_new (0 ∷ []) reached w.right (root_parts_for full).right w.right_new.mark (ap (is_among reached) w.right_new.node ∙ is_third 0 full.left full.right []) w.right_new.spells i
      ∷ settled_new (0 ∷ []) reached w.left (root_parts_for full).left w.left_new.mark (ap (is_among reached) w.left_new.node ∙ is_second 0 full.left (full.right ∷ [])) w.left_new.spells i
      ∷ settled_group (0 ∷ []) reached w.upper (root_parts_for full).above (ap (is_among (0 ∷ [])) upper_is ∙ is_first 0 []) (ap (is_among reached) upper_is ∙ is_first 0 (full.left ∷ full.right ∷ [])) w.root_written.spells i
      ∷ [])

  may_go : (n : ℕ) (a : Holding) (s : NodeData) → held_of n (w.right ∷ w.left ∷ w.upper ∷ []) ≡ Some a → SpellsNode a.words s → MayRelease n k'.log
  may_go n a s found spells = subst (MayRelease n) v_is (may_release laws v w.tree.contents w.tree.live 0 (0 ∷ []) (full.left ∷ full.right ∷ []) become reached (lift_change t full pc k h w.tree law k' w) n a found (subst IsSome (sym spells) refl))

  right_left : w.right.node ≢ full.left
  right_left e = h.different (sym e ∙ w.right_new.node)

  upper_left : w.upper.node ≢ full.left
  upper_left e = left_far (sym e ∙ upper_is)

  upper_right : w.upper.node ≢ full.right
  upper_right e = right_far (sym e ∙ upper_is)

  root_zero : full.root.node ≡ 0
  root_zero = h.is_root

  abbrev left_half : Held
  left_half = record { node = full.left; content = (root_parts_for full).left; changed = true }

  abbrev right_half : Held
  right_half = record { node = full.right; content = (root_parts_for full).right; changed = true }

  abbrev EndsOn : Held → ℕ → Type 0
  EndsOn way other = Ends t (root_for full) (right' ∷ left' ∷ upper' ∷ []) upper' [] way other k'

  left_end : EndsOn left_half full.right
  left_end = record {
    lock = left';
    left = dropped full.right [] right' (left' ∷ upper' ∷ []) w.right_new.node tt ((λ z. h.different (sym w.left_new.node ∙ z)), (upper_right, tt));
    is = new_settled full.left (root_parts_for full).left w.left w.left_new;
    far = λ z. left_far (z ∙ root_zero);
    within = h.left_within;
    may = may_go full.right w.right (root_parts_for full).right (found_at full.right [] w.right (w.left ∷ w.upper ∷ []) w.right_new.node tt) w.right_new.spells;
  }

  right_end : EndsOn right_half full.left
  right_end = record {
    lock = right';
    left = dropped full.left (right' ∷ []) left' (upper' ∷ []) w.left_new.node (right_left, tt) (upper_left, tt);
    is = new_settled full.right (root_parts_for full).right w.right w.right_new;
    far = λ z. right_far (z ∙ root_zero);
    within = h.right_within;
    may = may_go full.left w.left (root_parts_for full).left (found_at full.left (w.right ∷ []) w.left (w.upper ∷ []) w.left_new.node (right_left, tt)) w.left_new.spells;
  }

  left_is : nat_le pc (middle_fence full.root.content) ≡ true → IsHalf pc (root_for full) left_half
  left_is e = record {
    here = (h.here.0, leb-true pc (middle_fence full.root.content) e);
    leads = (branch full.left ((root_parts_for full).above.level - 1) full.root.content.low (middle_fence full.root.content), ((0, omega arith, refl), refl, h.here.0, leb-true pc (middle_fence full.root.content) e));
    level = omega arith;
    room = (are_halves full.root.content.body h.is_full).left_room;
  }

  right_is : nat_le pc (middle_fence full.root.content) ≡ false → IsHalf pc (root_for full) right_half
  right_is e =
      let above : middle_fence full.root.content + 1 ≤ pc = (let z = leb-false pc (middle_fence full.root.content) e in omega (arith, z)) in record {
        here = (above, h.here.1);
        leads = (branch full.right ((root_parts_for full).above.level - 1) (middle_fence full.root.content + 1) full.root.content.high, ((1, omega arith, refl), refl, above, h.here.1));
        level = omega arith;
        room = (are_halves full.root.content.body h.is_full).right_room;
      }

  ends : EndsOn (half_for full.left full.right pc full.root.content) (other_half full.left full.right pc full.root.content) × IsHalf pc (root_for full) (half_for full.left full.right pc full.root.content)
  ends = go (nat_le pc (middle_fence full.root.content)) refl
    where
      go : (b : Bool) → nat_le pc (middle_fence full.root.content) ≡ b → EndsOn (if b then left_half else right_half) (if b then full.right else full.left) × IsHalf pc (root_for full) (if b then left_half else right_half)
      go true e = (left_end, left_is e)
      go false e = (right_end, right_is e)

  is_released : (k5 : CallerData) → k5 ≡ record k' { log = after_node_release (other_half full.left full.right pc full.root.content) k'.log } → IsReleased ends.0.lock upper' [] k' k5
  is_released k5 is =
      let other = other_half full.left full.right pc full.root.content in
      let log = ap (after_node_release other) (sym v_is) ∙ released laws v w.tree.contents w.tree.live 0 (0 ∷ []) (full.left ∷ full.right ∷ []) become reached (lift_change t full pc k h w.tree law k' w) other in
      let whole = is ∙ ap (λ (z : Log). record k' { log = z }) log in record {
        held = ap (λ (z : CallerData). z.log.holdings.held) whole ∙ (ap (without_lock other) settles ∙ ends.0.left);
        out = ap (λ (z : CallerData). z.log.holdings.out) whole ∙ nothing_out t full pc k h w.tree law k' w;
        same = steps_so (with_release_less k') whole refl (none_more k'.log.trace.loads);
      }

  pub lifted_halves : IsHalved t full.left full.right pc full.root.content (root_for full) k k'
  lifted_halves = record {
    held = right' ∷ left' ∷ upper' ∷ [];
    upper = upper';
    rest = [];
    rest_is = sym (ap (drop 3) h.held);
    ends = ends.0;
    half = ends.1;
    above = written_settled full.root (root_parts_for full).above w.upper w.root_written;
    same = w.same;
    released = is_released;
  }
