-- What is held once a change of two children has settled, and all but one of them was let go of or
-- given back.
use Rattle.std.proofs.Common.{◌≡◌, ◌≢◌, ℕ, List, [], ◌∷◌, refl, not, ne_eqb, cond, Bool, true, false, eq-eqb, IsSome, Some, subst, IfSome, ◌<◌, sym, ap, ◌∙◌, ◌-◌, ◌*◌, IsTrue, arith, ◌≤◌, true≢false, length}
use Rattle.std.specs.List.{AllByRecursion}
use Rattle.tree_shape.specs.NodeData.{NodeData, frame_of}
use Rattle.tree_laws.specs.Trees.{Contents}
use Rattle.tree_shape.specs.Changes.{joined}
use Rattle.tree_laws.specs.Numbers.{is_among}
use Rattle.word_rule.specs.Held.{without_lock, held_of, all_but}
use Rattle.word_rule.specs.declared.log.Holding.{Holding}
use Rattle.word_rule.specs.Spelling.{SpellsNode}
use Rattle.word_rule.specs.declared.log.Holdings.{Holdings}
use Rattle.word_rule.specs.NodeTells.{IsHeldNode, IsLiveNode, HolderTells}
use Rattle.word_rule.specs.declared.log.Terms.{Terms}
use Rattle.word_rule.specs.CallerData.{CallerData, surplus}
use Rattle.word_rule.specs.Sights.{after_node_load}
use Rattle.word_rule.specs.Places.{CALL_CREDIT}
use Rattle.version_locks.specs.declared.locking.Busy.{Busy}
use Rattle.tree_descent.specs.Paths.{IsSettledLock, StepsOnNodes}
use Rattle.tree_descent.proofs.HeldLists.{found_head, is_first}
use Rattle.tree_descent.specs.Releases.{Spends, HaveSettled, LetsGo, MayGo}
use Rattle.tree_descent.proofs.Spending.{spends_same, steps_after, surplus_steps}
use Rattle.tree_descent.proofs.Descents.{steps_of_load}
use Rattle.tree_descent.specs.Returns.{ReturnsNode, IsGoneOrSettled, KeepsOut}
use Rattle.tree_descent.proofs.Loading.{none_more, found_between}
use Rattle.tree_descent.proofs.NodeSteps.{steps_so}
use Rattle.node_mend.specs.Siblings.{both_of, HoldsUnder, HoldsGone, HoldsSiblings, MendsSiblings, LeavesParent}
use Rattle.node_mend.proofs.Pairings.{IsNow, both_all, both_high}
use Rattle.node_mend.specs.declared.sibling.Siblings.{Siblings}

-- a lock that isn't there is no loss
pub without_none : (n : ℕ) (more : List Holding) → AllByRecursion (λ a. a.node ≢ n) more → without_lock n more ≡ more
without_none n [] all = refl
without_none n (h ∷ more) all = (λ i. cond (not (ne_eqb h.node n all.0 i)) (h ∷ without_none n more all.1 i) (without_none n more all.1 i))

pub without_high : (o : Bool) (low high : Holding) (more : List Holding) (n : ℕ) → high.node ≡ n → low.node ≢ n → AllByRecursion (λ a. a.node ≢ n) more → without_lock n (both_of o low high more) ≡ low ∷ more
without_high true low high more n is far rest = (λ i. cond (not (ne_eqb low.node n far i)) (low ∷ cond (not (eq-eqb high.node n is i)) (high ∷ without_none n more rest i) (without_none n more rest i)) (cond (not (eq-eqb high.node n is i)) (high ∷ without_none n more rest i) (without_none n more rest i)))
without_high false low high more n is far rest = (λ i. cond (not (eq-eqb high.node n is i)) (high ∷ cond (not (ne_eqb low.node n far i)) (low ∷ without_none n more rest i) (without_none n more rest i)) (cond (not (ne_eqb low.node n far i)) (low ∷ without_none n more rest i) (without_none n more rest i)))

pub without_low : (o : Bool) (low high : Holding) (more : List Holding) (n : ℕ) → low.node ≡ n → high.node ≢ n → AllByRecursion (λ a. a.node ≢ n) more → without_lock n (both_of o low high more) ≡ high ∷ more
without_low true low high more n is far rest = without_high false high low more n is far rest
without_low false low high more n is far rest = without_high true high low more n is far rest

-- A node was changed and settled, and so was the one above it.
pub record AreSettled (n l : ℕ) (s : NodeData) (holdings : Holdings) : Type 0 where
  pub lower : Holding
  pub upper : Holding
  pub held : holdings.held ≡ lower ∷ upper ∷ []
  pub node : lower.node ≡ l
  pub settled : lower.settled ≡ s
  pub spells : SpellsNode lower.words lower.settled
  pub stored : lower.stored ≡ true
  pub marked : IsSome lower.mark
  pub parent : upper.node ≡ n
  pub parent_spells : SpellsNode upper.words upper.settled
  pub parent_stored : upper.stored ≡ true
  pub out : holdings.out ≡ []

pub settled_as : (n l : ℕ) (s : NodeData) (g : Contents) (h u low upper : Holding) (holdings : Holdings) → IsNow h (g l) low → IsNow u (g n) upper → low.node ≡ l → upper.node ≡ n → g l ≡ s → holdings.held ≡ record low { settled = g l; mark = Some (frame_of (g l)) } ∷ record upper { settled = g n; mark = Some (frame_of (g n)) } ∷ [] → holdings.out ≡ [] → AreSettled n l s holdings
settled_as n l s g h u low upper holdings now above node parent is held out = record {
  lower = record low { settled = g l; mark = Some (frame_of (g l)) };
  upper = record upper { settled = g n; mark = Some (frame_of (g n)) };
  held = held;
  node = node;
  settled = is;
  spells = now.spells;
  stored = now.stored;
  marked = refl;
  parent = parent;
  parent_spells = above.spells;
  parent_stored = above.stored;
  out = out;
}

-- by what is told of it a lock that has settled is a live node's
pub live_lock : (t told : Terms) (n : ℕ) (s : NodeData) (h : Holding) → told ≡ t → h.node ≡ n → h.settled ≡ s → SpellsNode h.words h.settled → h.stored ≡ true → IsSome h.mark → IsHeldNode told h → IsSettledLock t n s true h
live_lock t told n s h terms node settled spells stored marked tells = record {
  node = node;
  settled = settled;
  spells = subst (SpellsNode h.words) settled spells;
  stored = stored;
  marked = marked;
  live = subst (λ m. IfSome h.mark (IsLiveNode t m s)) node (subst (λ z. IfSome h.mark (IsLiveNode t h.node z)) settled (subst (λ z. IfSome h.mark (IsLiveNode z h.node h.settled)) terms tells.live));
}

-- by a load it is known that it has its place
pub under_so : (t : Terms) (n l : ℕ) (s : NodeData) (k k' : CallerData) (found : ℕ) → l < t.nodes → l ≢ n → k.log.terms ≡ t → AreSettled n l s k.log.holdings → HolderTells l k.log → k' ≡ record k { log = after_node_load l 2 found k.log } → HoldsUnder t n true (record { node = l; content = s; changed = true }) k'.log.holdings
under_so t n l s k k' found within no_parent terms a tells loads =
    subst (λ (z : CallerData). HoldsUnder t n true (record { node = l; content = s; changed = true }) z.log.holdings) (sym loads) (record {
      within = within;
      no_parent = no_parent;
      lower = a.lower;
      upper = a.upper;
      held = a.held;
      here = live_lock t k.log.terms l s a.lower terms a.node a.settled a.spells a.stored a.marked own;
      node = a.parent;
      spells = a.parent_spells;
      stored = a.parent_stored;
      out = a.out;
    })
  where
    own : IsHeldNode k.log.terms a.lower
    own = subst (λ o. IfSome o (IsHeldNode k.log.terms)) (ap (held_of l) a.held ∙ found_head l a.lower (a.upper ∷ []) a.node) tells

pub loaded_none : (n at found : ℕ) (k k' : CallerData) → k' ≡ record k { log = after_node_load n at found k.log } → Spends 0 k k'
loaded_none n at found k k' is = spends_same k k' (steps_of_load n at found k k' is)

pub surplus_kept : (k k' : CallerData) → StepsOnNodes k k' → surplus k' ≡ surplus k
surplus_kept k k' s = (λ i. (s.budget i).credit - CALL_CREDIT * s.calls.caller.left i)

-- the right one of two joined children is given back
module _ (t : Terms) (x : Siblings) (k : CallerData) (gone : HoldsGone t x k.log.holdings) where
  pub gone_ready : AllByRecursion (IsGoneOrSettled x.right.node) k.log.holdings.held
  gone_ready = subst (AllByRecursion (IsGoneOrSettled x.right.node)) (sym gone.held) (both_all (IsGoneOrSettled x.right.node) gone.left_first gone.low gone.high (gone.upper ∷ [])
      ((λ e. absurd (gone.different (sym gone.left ∙ e))), (λ _. gone.spells))
      ((λ _. gone.gone), (λ ne. absurd (ne gone.right)))
      (((λ e. absurd (gone.no_parent.1 (sym (sym gone.parent ∙ e)))), (λ _. gone.parent_spells)), tt))

  pub gone_held : IsSome (held_of x.right.node k.log.holdings.held)
  gone_held = subst IsSome (sym (ap (held_of x.right.node) gone.held ∙ both_high gone.left_first gone.low gone.high (gone.upper ∷ []) x.right.node gone.right (λ e. gone.different (sym gone.left ∙ e)))) refl

  pub gone_out : IsTrue (is_among k.log.holdings.out x.right.node)
  gone_out = subst (λ os. IsTrue (is_among os x.right.node)) (sym gone.out) (is_first x.right.node [])

  pub settled_back : (k' : CallerData) → ReturnsNode x.right.node k k' → AreSettled x.above.node x.left.node (joined x.left.content x.right.content) k'.log.holdings
  settled_back k' back = record {
    lower = gone.low;
    upper = gone.upper;
    held = back.held ∙ (ap (without_lock x.right.node) gone.held ∙ without_high gone.left_first gone.low gone.high (gone.upper ∷ []) x.right.node gone.right (λ e. gone.different (sym gone.left ∙ e)) ((λ e. gone.no_parent.1 (sym (sym gone.parent ∙ e))), tt));
    node = gone.left;
    settled = gone.content;
    spells = gone.spells;
    stored = gone.stored;
    marked = gone.marked;
    parent = gone.parent;
    parent_spells = gone.parent_spells;
    parent_stored = gone.parent_stored;
    out = back.out ∙ (ap (all_but x.right.node) gone.out ∙ ap (λ b. cond (not b) (x.right.node ∷ []) []) (eq-eqb x.right.node x.right.node refl));
  }

pub joins_so : (t : Terms) (x : Siblings) (k k1 k2 k3 : CallerData) (found : ℕ) (way : NodeData) → k.log.terms ≡ t → HoldsSiblings t x k.log.holdings → HoldsGone t x k1.log.holdings → StepsOnNodes k k1 → ReturnsNode x.right.node k1 k2 → HolderTells x.left.node k2.log → k3 ≡ record k2 { log = after_node_load x.left.node 2 found k2.log } → way ≡ joined x.left.content x.right.content → MendsSiblings t x (record { node = x.left.node; content = way; changed = true }) k k3
joins_so t x k k1 k2 k3 found way terms hs gone steps back tells loads is =
    subst (λ z. MendsSiblings t x (record { node = x.left.node; content = z; changed = true }) k k3) (sym is) (record {
      holds = under_so t x.above.node x.left.node (joined x.left.content x.right.content) k2 k3 found hs.left_within gone.no_parent.0 (back.spends.calls.caller.terms ∙ (steps.calls.caller.terms ∙ terms)) (settled_back t x k1 gone k2 back) tells loads;
      level = hs.level;
      spare = gone.spare;
      spends = steps_after 1 0 1 k k2 k3 (omega arith) (steps_after 0 1 1 k k1 k2 (omega arith) (spends_same k k1 steps) back.spends) (loaded_none x.left.node 2 found k2 k3 loads);
    })

-- a caller as if it had given back the node that it lost
abbrev pub as_given : ℕ → CallerData → CallerData → CallerData
as_given n k k' = record k' { log = record k'.log { holdings = record k'.log.holdings { out = all_but n k.log.holdings.out } } }

pub as_returned : (n : ℕ) (why : Busy) (k k' : CallerData) → KeepsOut n why k k' → ReturnsNode n k (as_given n k k')
as_returned n why k k' keeps = let s = keeps.spends in record {
  spends = steps_after 1 0 1 k k' (as_given n k k') (omega arith) s (spends_same k' (as_given n k k') (steps_so k' refl refl (none_more k'.log.trace.loads)));
  held = keeps.held;
  out = refl;
}

-- the right one of two joined children was lost
module _ (t : Terms) (x : Siblings) (why : Busy) (k k1 k2 : CallerData) (gone : HoldsGone t x k1.log.holdings) (steps : StepsOnNodes k k1) (keeps : KeepsOut x.right.node why k1 k2) where
  settled_lost : AreSettled x.above.node x.left.node (joined x.left.content x.right.content) (as_given x.right.node k1 k2).log.holdings
  settled_lost = settled_back t x k1 gone (as_given x.right.node k1 k2) (as_returned x.right.node why k1 k2 keeps)

  pub lost_may : MayGo x.left.node true k2.log.holdings
  lost_may = let a = settled_lost in record {
    lock = a.lower;
    found = ap (held_of x.left.node) a.held ∙ found_head x.left.node a.lower (a.upper ∷ []) a.node;
    stored = λ e. absurd (true≢false e);
    settled = subst HaveSettled (sym a.held) (a.spells, (a.parent_spells, tt));
  }

  pub lost_surplus : 1 < surplus k → 0 < surplus k2
  lost_surplus some = surplus_steps 1 k k2 1 (steps_after 0 1 1 k k1 k2 (omega arith) (spends_same k k1 steps) keeps.spends) (omega (arith, some))

  pub join_lost : (k3 : CallerData) → LetsGo x.left.node k2 k3 → LeavesParent x why k k3
  join_lost k3 goes = let a = settled_lost in record {
    lost = keeps.lost;
    cause = found_between why k k1 k2 k3 steps.loads keeps.cause goes.steps.loads;
    spends = steps_after 1 1 2 k k2 k3 (omega arith) (steps_after 0 1 1 k k1 k2 (omega arith) (spends_same k k1 steps) keeps.spends) goes.steps;
    above = record {
      lock = a.upper;
      held = goes.held ∙ (ap (without_lock x.left.node) a.held ∙ without_low true a.lower a.upper [] x.left.node a.node (λ e. gone.no_parent.0 (sym (sym a.parent ∙ e))) tt);
      node = a.parent;
      spells = a.parent_spells;
      stored = a.parent_stored;
    };
    out = subst (λ ns. length ns ≤ 2) (sym (goes.out ∙ (keeps.out ∙ gone.out))) (omega arith);
  }
