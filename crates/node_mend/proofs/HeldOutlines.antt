-- Held nodes on a removal's way, by their outlines: what their locks spell, and what loads of their
-- words leave as it was.
use Rattle.std.proofs.Common.{ℕ, [], ◌∷◌, sym, ap, ◌∙◌, Some, ne_eqb, cond, ◌≡◌, ◌≢◌, Bool, arith, ◌==◌, eq-eqb, true, subst}
use Rattle.tree_laws.specs.Lawful.{IsOrdered, IsOrderedAs}
use Rattle.tree_shape.specs.NodeData.{NodeData, Body, Pairs, Entries, Link}
use Rattle.tree_laws.specs.Decisions.{is_entries}
use Rattle.word_rule.specs.Held.{held_of}
use Rattle.word_rule.specs.declared.log.Log.{Log}
use Rattle.word_rule.specs.declared.log.Terms.{Terms}
use Rattle.word_rule.specs.CallerData.{CallerData}
use Rattle.word_rule.specs.NodeTells.{KnowsTree}
use Rattle.word_rule.specs.declared.log.Holdings.{Holdings}
use Rattle.word_rule.specs.declared.log.Holding.{Holding}
use Rattle.node_store.specs.Holding.{SpellsHeld}
use Rattle.node_store.specs.Outlines.{OnlyLoads}
use Rattle.tree_descent.specs.Stands.{HoldsChild}
use Rattle.tree_descent.specs.declared.descent.Child.{Child}
use Rattle.tree_descent.proofs.Outlining.{spells_held, spell_one, steps_of_loads, alone_spells}
use Rattle.tree_descent.proofs.HeldLists.{found_head}
use Rattle.tree_descent.specs.Paths.{IsSettledLock, StepsOnNodes}
use Rattle.tree_descent.proofs.Lowering.{settled_live}
use Rattle.tree_descent.proofs.Spending.{spends_same, steps_after}
use Rattle.tree_descent.specs.Removing.{HoldsAlone}
use Rattle.tree_descent.specs.declared.descent.Held.{Held}
use Rattle.node_mend.specs.Siblings.{HoldsSiblings, MendsSiblings, HoldsUnder, SinksRoot}
use Rattle.node_mend.specs.declared.sibling.Siblings.{Siblings}
use Rattle.node_mend.proofs.Pairings.{both_high, both_low, both_more, family}

-- the parent of a child
pub parent_spells : (t : Terms) (child : Child) (pc : ℕ) (v : Log) → HoldsChild t child pc v.holdings → SpellsHeld child.above.node child.above.content v
parent_spells t child pc v h =
    let n = child.above.node in
    spells_held n child.above.content h.upper v
    (ap (held_of n) h.held ∙ (ap (λ b. cond b (Some h.lower) (held_of n (h.upper ∷ []))) (ne_eqb h.lower.node n (λ e. h.no_parent (sym h.here.node ∙ e))) ∙ found_head n h.upper [] h.parent.node)) h.parent.spells

-- two neighbouring children, and their parent
module _ (t : Terms) (x : Siblings) (k : CallerData) (hs : HoldsSiblings t x k.log.holdings) (tree : KnowsTree k.log.holdings) (v : Log) (same : v.holdings ≡ k.log.holdings) where
  abbrev n : ℕ
  n = x.above.node

  high_far : hs.high.node ≢ x.left.node
  high_far e = (family t x k hs tree).different (sym (sym hs.right.node ∙ e))

  low_far : hs.low.node ≢ x.right.node
  low_far e = (family t x k hs tree).different (sym hs.left.node ∙ e)

  held_now : (m : ℕ) → held_of m v.holdings.held ≡ held_of m k.log.holdings.held
  held_now m = ap (λ (z : Holdings). held_of m z.held) same

  pub left_spells : SpellsHeld x.left.node x.left.content v
  left_spells = spells_held x.left.node x.left.content hs.low v (held_now x.left.node ∙ (ap (held_of x.left.node) hs.held ∙ both_low hs.left_first hs.low hs.high (hs.upper ∷ []) x.left.node hs.left.node high_far)) hs.left.spells

  pub right_spells : SpellsHeld x.right.node x.right.content v
  right_spells = spells_held x.right.node x.right.content hs.high v (held_now x.right.node ∙ (ap (held_of x.right.node) hs.held ∙ both_high hs.left_first hs.low hs.high (hs.upper ∷ []) x.right.node hs.right.node low_far)) hs.right.spells

  pub upper_spells : SpellsHeld x.above.node x.above.content v
  upper_spells = spells_held n x.above.content hs.upper v
      (held_now n ∙ (ap (held_of n) hs.held ∙ (both_more hs.left_first hs.low hs.high (hs.upper ∷ []) n (λ e. (family t x k hs tree).left.no_parent (sym hs.left.node ∙ e)) (λ e. (family t x k hs tree).no_parent (sym hs.right.node ∙ e)) ∙ found_head n hs.upper [] hs.parent.node)))
      hs.parent.spells

-- what settled is a node of a tree
pub ordered_of : (t : Terms) (n : ℕ) (s : NodeData) (changed : Bool) (h : Holding) → IsSettledLock t n s changed h → IsOrdered s
ordered_of t n s changed h lock = (settled_live t n s changed h lock).1.1.ordered

-- what its level says
pub leaf_is : (s : NodeData) (b : Body) → IsOrderedAs s b → (s.level == 0) ≡ is_entries b
leaf_is s (Entries entries) o = eq-eqb s.level 0 o.0
leaf_is s (Pairs pairs) o = ne_eqb s.level 0 (λ e. (let z = o.0 in omega (arith, z, e)))
leaf_is s (Link next) o = absurd o

-- a mended child is outlined
pub mended_spells : (t : Terms) (x : Siblings) (node : ℕ) (s : NodeData) (k k3 : CallerData) → MendsSiblings t x (record { node = node; content = s; changed = true }) k k3 → SpellsHeld node s k3.log
mended_spells t x node s k k3 m = let h = m.holds in spells_held node s h.lower k3.log (ap (held_of node) h.held ∙ found_head node h.lower (h.upper ∷ []) h.here.node) h.here.spells

pub outlined_mends : (t : Terms) (x : Siblings) (node : ℕ) (s shape : NodeData) (k k3 k4 : CallerData) → MendsSiblings t x (record { node = node; content = s; changed = true }) k k3 → SpellsHeld node shape k3.log → OnlyLoads k3 k4 → k4.log.holdings ≡ k3.log.holdings → MendsSiblings t x (record { node = node; content = shape; changed = true }) k k4 × (shape ≡ s)
outlined_mends t x node s shape k k3 k4 m spells loads same =
    let is : shape ≡ s = spell_one node shape s k3.log spells (mended_spells t x node s k k3 m) in (
      subst (λ z. MendsSiblings t x (record { node = node; content = z; changed = true }) k k4) (sym is) (record {
        holds = subst (HoldsUnder t x.above.node true (record { node = node; content = s; changed = true })) (sym same) m.holds;
        level = m.level;
        spare = m.spare;
        spends = steps_after 1 0 1 k k3 k4 (omega arith) m.spends (spends_same k3 k4 (steps_of_loads k3 k4 loads));
      }),
      is,
    )

-- and so is the root, once it has sunk
pub sunk_spells : (t : Terms) (x : Siblings) (s : NodeData) (k k3 : CallerData) → SinksRoot t x (record { node = 0; content = s; changed = true }) k k3 → SpellsHeld 0 s k3.log
sunk_spells t x s k k3 m = alone_spells t (record { node = 0; content = s; changed = true }) k3.log m.holds

pub outlined_sinks : (t : Terms) (x : Siblings) (s shape : NodeData) (k k3 k4 : CallerData) → SinksRoot t x (record { node = 0; content = s; changed = true }) k k3 → SpellsHeld 0 shape k3.log → OnlyLoads k3 k4 → k4.log.holdings ≡ k3.log.holdings → SinksRoot t x (record { node = 0; content = shape; changed = true }) k k4 × (shape ≡ s)
outlined_sinks t x s shape k k3 k4 m spells loads same =
    let is : shape ≡ s = spell_one 0 shape s k3.log spells (sunk_spells t x s k k3 m) in (
      subst (λ z. SinksRoot t x (record { node = 0; content = z; changed = true }) k k4) (sym is) (record {
        node = m.node;
        holds = subst (HoldsAlone t (record { node = 0; content = s; changed = true })) (sym same) m.holds;
        level = m.level;
        spends = steps_after 2 0 2 k k3 k4 (omega arith) m.spends (spends_same k3 k4 (steps_of_loads k3 k4 loads));
      }),
      is,
    )

-- steps before it
pub mends_after : (t : Terms) (x : Siblings) (way : Held) (k k1 k2 : CallerData) → StepsOnNodes k k1 → MendsSiblings t x way k1 k2 → MendsSiblings t x way k k2
mends_after t x way k k1 k2 steps m = record {
  holds = m.holds;
  level = m.level;
  spare = m.spare;
  spends = steps_after 0 1 1 k k1 k2 (omega arith) (spends_same k k1 steps) m.spends;
}
