-- A split settles when the half that isn't on the way is let go of: what is held then.
use Rattle.std.proofs.Common.{ℕ, ◌≡◌, ◌-◌, refl, ◌∙◌, Bool, true, false, nat_le, if◌then◌else◌, ◌<◌, arith, ◌≢◌, List, [], ◌∷◌, map, sym, ap, subst, Some, IsSome}
use Rattle.std.proofs.lemmas.Bool.{leb-true, leb-false}
use Rattle.tree_shape.specs.NodeData.{pairs_of, IsInFences, NodeData}
use Rattle.tree_laws.specs.Steps.{middle_fence}
use Rattle.tree_laws.specs.Numbers.{is_among}
use Rattle.tree_laws.specs.Trees.{Contents}
use Rattle.word_rule.specs.CallerData.{CallerData}
use Rattle.word_rule.specs.declared.log.Terms.{Terms}
use Rattle.word_rule.specs.NodeTells.{KnowsTree}
use Rattle.word_rule.specs.declared.log.Holding.{Holding}
use Rattle.word_rule.specs.declared.log.Log.{Log}
use Rattle.word_rule.specs.Exchange.{exchange}
use Rattle.word_rule.specs.Held.{held_of, without_lock}
use Rattle.word_rule.specs.Spelling.{SpellsNode}
use Rattle.word_rule.specs.Steps.{MayRelease, after_node_release}
use Rattle.tree_descent.specs.declared.descent.Held.{Held}
use Rattle.tree_descent.specs.Paths.{HasChildFor}
use Rattle.tree_descent.specs.Stands.{HasSpace}
use Rattle.tree_descent.specs.Releases.{with_release_less}
use Rattle.tree_descent.proofs.HeldLists.{is_first}
use Rattle.tree_descent.proofs.Loading.{none_more}
use Rattle.tree_descent.proofs.Settling.{SettlingLaws, may_release, released, settled_group}
use Rattle.tree_descent.proofs.Storing.{found_at}
use Rattle.tree_descent.proofs.NodeSteps.{steps_so}
use Rattle.node_split.specs.declared.split.FullChild.{FullChild}
use Rattle.node_split.specs.Splits.{HoldsFullChild, half_for, parts_for, parent_for, other_half}
use Rattle.node_split.proofs.Splitting.{found_child, level, inside, SplitLaw, down_up, g, new_down, new_up, nothing_out, rest_down, rest_is, rest_new, split_change, stays}
use Rattle.node_split.proofs.SplitParts.{divided, are_halves}
use Rattle.node_split.proofs.Halved.{IsHalf, Ends, IsHalved, IsReleased, new_settled, settled_lock, written_settled}
use Rattle.node_split.specs.Halves.{WritesParts}
use Rattle.node_split.proofs.HeldParts.{dropped, is_second, is_third}
use Rattle.node_split.proofs.Settling.{settled_new, stay_settled}

abbrev node_in : Held → ℕ
node_in at = at.node

-- the parent leads to the half for the address
leads_on : (t : Terms) (full : FullChild) (pc : ℕ) (k : CallerData) (h : HoldsFullChild t full pc k.log.holdings) (tree : KnowsTree k.log.holdings) → HasChildFor (parts_for full pc).above pc (half_for full.child.node full.fresh pc full.child.content).node
leads_on t full pc k h tree =
    let p = found_child t full pc k h tree in
    let r = divided (full.parent.content.level - 1) full.parent.content.low pc (middle_fence full.child.content) full.fresh (pairs_of full.parent.content) p.0 h.here.0 p.1.0 in
    (r.0, (r.1.0, r.1.1 ∙ pick (nat_le pc (middle_fence full.child.content)), r.1.2, r.1.3))
  where
    pick : (b : Bool) → (if b then (found_child t full pc k h tree).0.child else full.fresh) ≡ node_in (if b then record { node = full.child.node; content = (parts_for full pc).left; changed = true } else record { node = full.fresh; content = (parts_for full pc).right; changed = true })
    pick true = (found_child t full pc k h tree).1.1
    pick false = refl

-- the half has the address, stands lower than the parent, and has room
abbrev Fits : FullChild → ℕ → Held → Type 0
Fits full pc way = IsInFences pc way.content × (way.content.level < full.parent.content.level) × HasSpace way.content.body

half_is : (t : Terms) (full : FullChild) (pc : ℕ) (k : CallerData) (h : HoldsFullChild t full pc k.log.holdings) (tree : KnowsTree k.log.holdings) → IsHalf pc (parent_for full pc) (half_for full.child.node full.fresh pc full.child.content)
half_is t full pc k h tree =
    let is = go (nat_le pc (middle_fence full.child.content)) refl in record {
      here = is.0;
      leads = leads_on t full pc k h tree;
      level = is.1;
      room = is.2;
    }
  where
    go : (b : Bool) → nat_le pc (middle_fence full.child.content) ≡ b → Fits full pc (if b then record { node = full.child.node; content = (parts_for full pc).left; changed = true } else record { node = full.fresh; content = (parts_for full pc).right; changed = true })
    go true e = (((inside t full pc k h tree).0, leb-true pc (middle_fence full.child.content) e), level t full pc k h tree, (are_halves full.child.content.body h.is_full).left_room)
    go false e = (((let z = leb-false pc (middle_fence full.child.content) e in omega (arith, z)), (inside t full pc k h tree).1), level t full pc k h tree, (are_halves full.child.content.body h.is_full).right_room)

module _ (laws : SettlingLaws) (law : SplitLaw) (t : Terms) (full : FullChild) (pc : ℕ) (k k' : CallerData) (h : HoldsFullChild t full pc k.log.holdings) (w : WritesParts full pc k k') where
  abbrev become : Contents
  become = g t full pc k h w.tree

  abbrev rest : List Holding
  rest = h.rest

  fresh_parent : full.fresh ≢ full.parent.node
  fresh_parent = new_up t full pc k h w.tree

  fresh_child : full.fresh ≢ full.child.node
  fresh_child = new_down t full pc k h w.tree

  child_parent : full.child.node ≢ full.parent.node
  child_parent = down_up t full pc k h w.tree

  abbrev group : List ℕ
  group = full.parent.node ∷ full.child.node ∷ []

  abbrev reached : List ℕ
  reached = full.parent.node ∷ full.child.node ∷ full.fresh ∷ []

  abbrev v : Log
  v = record k'.log { holdings = record { held = w.new ∷ w.lower ∷ w.upper ∷ rest; out = full.fresh ∷ [] } }

  v_is : v ≡ k'.log
  v_is = (λ i. record k'.log { holdings = record { held = sym (w.held ∙ ap (λ xs. w.new ∷ w.lower ∷ w.upper ∷ xs) (rest_is t full pc k h w.tree)) i; out = sym w.out i } })

  abbrev new' : Holding
  new' = settled_lock w.new (parts_for full pc).right

  abbrev lower' : Holding
  lower' = settled_lock w.lower (parts_for full pc).left

  abbrev upper' : Holding
  upper' = settled_lock w.upper (parts_for full pc).above

  settles : map (exchange (is_among group) (is_among reached)) (w.new ∷ w.lower ∷ w.upper ∷ rest) ≡ new' ∷ lower' ∷ upper' ∷ rest
  settles = (λ i.
      settled_new group reached w.new (parts_for full pc).right w.right_new.mark (ap (is_among reached) w.right_new.node ∙ is_third full.parent.node full.child.node full.fresh []) w.right_new.spells i
      ∷ settled_group group reached w.lower (parts_for full pc).left (ap (is_among group) w.child_written.node ∙ is_second full.parent.node full.child.node []) (ap (is_among reached) w.child_written.node ∙ is_second full.parent.node full.child.node (full.fresh ∷ [])) w.child_written.spells i
      ∷ settled_group group reached w.upper (parts_for full pc).above (ap (is_among group) w.parent_written.node ∙ is_first full.parent.node (full.child.node ∷ [])) (ap (is_among reached) w.parent_written.node ∙ is_first full.parent.node (full.child.node ∷ full.fresh ∷ [])) w.parent_written.spells i
      ∷ stay_settled w.tree.contents w.tree.live group reached rest (stays t full pc k h w.tree law k' w) i)

  may_go : (n : ℕ) (a : Holding) (s : NodeData) → held_of n (w.new ∷ w.lower ∷ w.upper ∷ rest) ≡ Some a → SpellsNode a.words s → MayRelease n k'.log
  may_go n a s found spells = subst (MayRelease n) v_is (may_release laws v w.tree.contents w.tree.live full.parent.node group (full.fresh ∷ []) become reached (split_change t full pc k h w.tree law k' w) n a found (subst IsSome (sym spells) refl))

  lower_new : w.new.node ≢ full.child.node
  lower_new e = fresh_child (sym w.right_new.node ∙ e)

  abbrev EndsOn : Held → ℕ → Type 0
  EndsOn way other = Ends t (parent_for full pc) (new' ∷ lower' ∷ upper' ∷ rest) upper' rest way other k'

  left_end : EndsOn (record { node = full.child.node; content = (parts_for full pc).left; changed = true }) full.fresh
  left_end = record {
    lock = lower';
    left = dropped full.fresh [] new' (lower' ∷ upper' ∷ rest) w.right_new.node tt ((λ e. fresh_child (sym e ∙ w.child_written.node)), ((λ e. fresh_parent (sym e ∙ w.parent_written.node)), rest_new t full pc k h w.tree));
    is = written_settled full.child (parts_for full pc).left w.lower w.child_written;
    far = child_parent;
    within = h.child_within;
    may = may_go full.fresh w.new (parts_for full pc).right (found_at full.fresh [] w.new (w.lower ∷ w.upper ∷ rest) w.right_new.node tt) w.right_new.spells;
  }

  right_end : EndsOn (record { node = full.fresh; content = (parts_for full pc).right; changed = true }) full.child.node
  right_end = record {
    lock = new';
    left = dropped full.child.node (new' ∷ []) lower' (upper' ∷ rest) w.child_written.node (lower_new, tt) ((λ e. child_parent (sym e ∙ w.parent_written.node)), rest_down t full pc k h w.tree);
    is = new_settled full.fresh (parts_for full pc).right w.new w.right_new;
    far = fresh_parent;
    within = h.fresh_within;
    may = may_go full.child.node w.lower (parts_for full pc).left (found_at full.child.node (w.new ∷ []) w.lower (w.upper ∷ rest) w.child_written.node (lower_new, tt)) w.child_written.spells;
  }

  ends : EndsOn (half_for full.child.node full.fresh pc full.child.content) (other_half full.child.node full.fresh pc full.child.content)
  ends = go (nat_le pc (middle_fence full.child.content))
    where
      go : (b : Bool) → EndsOn (if b then record { node = full.child.node; content = (parts_for full pc).left; changed = true } else record { node = full.fresh; content = (parts_for full pc).right; changed = true }) (if b then full.fresh else full.child.node)
      go true = left_end
      go false = right_end

  is_released : (k5 : CallerData) → k5 ≡ record k' { log = after_node_release (other_half full.child.node full.fresh pc full.child.content) k'.log } → IsReleased ends.lock upper' rest k' k5
  is_released k5 is =
      let other = other_half full.child.node full.fresh pc full.child.content in
      let log = ap (after_node_release other) (sym v_is) ∙ released laws v w.tree.contents w.tree.live full.parent.node group (full.fresh ∷ []) become reached (split_change t full pc k h w.tree law k' w) other in
      let whole = is ∙ ap (λ (z : Log). record k' { log = z }) log in record {
        held = ap (λ (z : CallerData). z.log.holdings.held) whole ∙ (ap (without_lock other) settles ∙ ends.left);
        out = ap (λ (z : CallerData). z.log.holdings.out) whole ∙ nothing_out t full pc k h w.tree law k' w;
        same = steps_so (with_release_less k') whole refl (none_more k'.log.trace.loads);
      }

  pub split_halves : IsHalved t full.child.node full.fresh pc full.child.content (parent_for full pc) k k'
  split_halves = record {
    held = new' ∷ lower' ∷ upper' ∷ rest;
    upper = upper';
    rest = rest;
    rest_is = sym (rest_is t full pc k h w.tree);
    ends = ends;
    half = half_is t full pc k h w.tree;
    above = written_settled full.parent (parts_for full pc).above w.upper w.parent_written;
    same = w.same;
    released = is_released;
  }
