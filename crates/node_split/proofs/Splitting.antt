-- A full child is split under its parent: what is held before, and the change that is written.
use Rattle.std.proofs.Common.{ℕ, [], ◌∷◌, Bool, None, ◌≡◌, List, false, ◌≢◌, ◌-◌, ◌<◌, ◌≤◌, drop, length, slice_get, sym, refl, ap, ◌∙◌, subst, arith, true, IsTrue, Some, IsSome, IsSomeAnd, inl, inr, ◌⊎◌, eq-eqb, ne_eqb, Contains}
use Rattle.std.specs.List.{AllByRecursion}
use Rattle.tree_shape.specs.declared.pair.Pair.{Pair}
use Rattle.tree_laws.specs.Lawful.{IsLawfulTree, FitsParent, IsOrderedAs}
use Rattle.tree_laws.specs.LocalChange.{IsChangeOf}
use Rattle.tree_laws.specs.Steps.{IsSplit, IsFull, middle, middle_fence}
use Rattle.tree_laws.specs.Trees.{Contents, branches}
use Rattle.tree_laws.specs.Numbers.{is_among}
use Rattle.tree_shape.specs.Changes.{at_slot, divide, first_half, last_half}
use Rattle.tree_shape.specs.NodeData.{NodeData, Pairs, IsInFences, pairs_of, slot_for}
use Rattle.tree_laws.proofs.Halves.{only}
use Rattle.word_rule.specs.declared.log.Holding.{Holding}
use Rattle.word_rule.specs.CallerData.{CallerData}
use Rattle.word_rule.specs.declared.log.Holdings.{Holdings}
use Rattle.word_rule.specs.declared.log.Terms.{Terms}
use Rattle.word_rule.specs.Held.{held_of}
use Rattle.word_rule.specs.SharedWords.{updated}
use Rattle.word_rule.specs.NodeTells.{KnowsTree}
use Rattle.word_rule.specs.Steps.{MayStore}
use Rattle.word_rule.specs.declared.log.Log.{Log}
use Rattle.word_rule.proofs.Each.{all_with}
use Rattle.node_store.specs.Holding.{SpellsHeld, StoresHeld}
use Rattle.node_store.specs.Writing.{kind_of_body}
use Rattle.tree_descent.specs.Paths.{StepsOnNodes}
use Rattle.tree_descent.proofs.Descending.{level_of}
use Rattle.tree_descent.proofs.HeldLists.{is_first, HeldOnce}
use Rattle.tree_descent.proofs.Settling.{FitsChange, IsHeldChange, left_out, marked_at, none_out}
use Rattle.tree_descent.proofs.Outlining.{spells_held}
use Rattle.tree_descent.proofs.Storing.{IsRewritten, found_at, rewritten_so}
use Rattle.tree_descent.proofs.NodeSteps.{steps_then}
use Rattle.node_split.proofs.HeldParts.{AreFar, is_none, IsTold, higher_dead, higher_far, higher_once, higher_stay, is_second, is_third, lives_apart, place_of_lock, told_unmarked}
use Rattle.node_split.specs.declared.split.FullChild.{FullChild}
use Rattle.node_split.specs.declared.split.SplitNodes.{SplitNodes}
use Rattle.node_split.specs.Halves.{WritesParts}
use Rattle.node_split.specs.Splits.{HoldsFullChild, parts_for}
use Rattle.node_split.proofs.Halving.{fits_new, fits_written, new_lock, written_lock}
use Rattle.node_split.proofs.Settling.{StaysSettled, stays_fit}
use Rattle.node_split.proofs.SplitParts.{above_differs, are_halves, left_differs, slot_of}

-- the law of a split, as a change of the three nodes alone
abbrev pub SplitLaw : Type 0
SplitLaw = (f : Contents) (live : ℕ → Bool) (parent slot : ℕ) (p : Pair) (fresh : ℕ) (g : Contents) → IsLawfulTree f live → IsSplit f live parent slot p fresh g → IsChangeOf f live parent (parent ∷ p.child ∷ []) (fresh ∷ []) g None (parent ∷ p.child ∷ fresh ∷ [])

outside_of : (up down new : ℕ) (rest : List Holding) → AreFar up rest → AreFar down rest → AreFar new rest → AllByRecursion (λ (a : Holding). (is_among (up ∷ down ∷ []) a.node ≡ false) × (is_among (up ∷ down ∷ new ∷ []) a.node ≡ false)) rest
outside_of up down new [] x y z = tt
outside_of up down new (a ∷ rest) x y z = ((is_none a.node (up ∷ down ∷ []) (x.0, (y.0, tt)), is_none a.node (up ∷ down ∷ new ∷ []) (x.0, (y.0, (z.0, tt)))), outside_of up down new rest x.1 y.1 z.1)

module _ (t : Terms) (full : FullChild) (pc : ℕ) (k0 : CallerData) (h : HoldsFullChild t full pc k0.log.holdings) (tree : KnowsTree k0.log.holdings) where
  told : AllByRecursion (IsTold tree.contents tree.live) (h.new ∷ h.lower ∷ h.upper ∷ h.rest)
  told = subst (AllByRecursion (IsTold tree.contents tree.live)) h.held tree.marked

  pub up_live : tree.live full.parent.node ≡ true
  up_live = ap tree.live (sym h.parent.node) ∙ (told.1.1.0 h.parent.marked).0

  pub up_is : tree.contents full.parent.node ≡ full.parent.content
  up_is = ap tree.contents (sym h.parent.node) ∙ ((told.1.1.0 h.parent.marked).1 ∙ h.parent.settled)

  pub down_live : tree.live full.child.node ≡ true
  down_live = ap tree.live (sym h.child.node) ∙ (told.1.0 h.child.marked).0

  pub down_is : tree.contents full.child.node ≡ full.child.content
  down_is = ap tree.contents (sym h.child.node) ∙ ((told.1.0 h.child.marked).1 ∙ h.child.settled)

  pub new_dead : tree.live full.fresh ≡ false
  new_dead = tree.dead full.fresh (subst (λ ns. IsTrue (is_among ns full.fresh)) (sym h.out) (is_first full.fresh []))

  pub unmarked : h.new.mark ≡ None
  unmarked = told_unmarked tree.contents tree.live h.new told.0 (ap tree.live h.free.node ∙ new_dead)

  -- the three nodes are told apart, and from those above
  pub new_up : full.fresh ≢ full.parent.node
  new_up e = lives_apart tree.live full.parent.node full.fresh up_live new_dead (sym e)

  pub new_down : full.fresh ≢ full.child.node
  new_down e = lives_apart tree.live full.child.node full.fresh down_live new_dead (sym e)

  ordered : IsOrderedAs full.parent.content (Pairs (pairs_of full.parent.content))
  ordered = subst (IsOrderedAs full.parent.content) h.inner (place_of_lock t full.parent.node full.parent.content full.parent.changed h.upper h.parent).1.ordered

  fits : FitsParent tree.contents h.leads.0
  fits = all_with (FitsParent tree.contents) (branches ((tree.contents full.parent.node).level - 1) (tree.contents full.parent.node)) h.leads.0 (tree.lawful.tree.fitting full.parent.node up_live)
      (subst (λ (z : NodeData). Contains (branches (z.level - 1) z) h.leads.0) (sym up_is) h.leads.1.0)

  child_is : tree.contents h.leads.0.child ≡ full.child.content
  child_is = ap tree.contents h.leads.1.1 ∙ down_is

  pub level : full.child.content.level < full.parent.content.level
  level =
      let a : full.child.content.level ≡ h.leads.0.frame.level = ap (λ (z : NodeData). z.level) (sym child_is) ∙ fits.level in
      let e : h.leads.0.frame.level ≡ full.parent.content.level - 1 = level_of (full.parent.content.level - 1) full.parent.content.low (pairs_of full.parent.content) h.leads.0 h.leads.1.0 in
      let some = ordered.0 in omega (arith, a, e, some)

  pub inside : IsInFences pc full.child.content
  inside =
      let a : full.child.content.low ≡ h.leads.0.frame.low = ap (λ (z : NodeData). z.low) (sym child_is) ∙ fits.low in
      let e : full.child.content.high ≡ h.leads.0.frame.high = ap (λ (z : NodeData). z.high) (sym child_is) ∙ fits.high in
      let l = h.leads.1.2 in let m = h.leads.1.3 in (omega (arith, a, l), omega (arith, e, m))

  pub down_up : full.child.node ≢ full.parent.node
  down_up e = let same : full.child.content.level ≡ full.parent.content.level = ap (λ (z : NodeData). z.level) (sym down_is ∙ (ap tree.contents e ∙ up_is)) in let l = level in omega (arith, same, l)

  pub rest_new : AreFar full.fresh h.rest
  rest_new = higher_dead t tree.contents tree.live full.parent.content.level full.fresh h.rest h.higher told.1.1.1 new_dead

  rest_up : AreFar full.parent.node h.rest
  rest_up = let same : (tree.contents full.parent.node).level ≡ full.parent.content.level = ap (λ (z : NodeData). z.level) up_is in higher_far t tree.contents tree.live full.parent.content.level full.parent.node h.rest h.higher told.1.1.1 (omega (arith, same))

  pub rest_down : AreFar full.child.node h.rest
  rest_down =
      let same : (tree.contents full.child.node).level ≡ full.child.content.level = ap (λ (z : NodeData). z.level) down_is in let l = level in
      higher_far t tree.contents tree.live full.parent.content.level full.child.node h.rest h.higher told.1.1.1 (omega (arith, same, l))

  -- a lock of this node, of which another is none
  moved : (n m : ℕ) (a : Holding) → a.node ≡ m → m ≢ n → a.node ≢ n
  moved n m a is far e = far (sym is ∙ e)

  pub before_new : AreFar full.fresh (h.lower ∷ h.upper ∷ h.rest)
  before_new = (moved full.fresh full.child.node h.lower h.child.node (λ e. new_down (sym e)), (moved full.fresh full.parent.node h.upper h.parent.node (λ e. new_up (sym e)), rest_new))

  -- the words of the child and of its parent are theirs
  pub parent_spelled : (v : Log) → v.holdings ≡ k0.log.holdings → SpellsHeld full.parent.node full.parent.content v
  parent_spelled v same =
      let far : AreFar full.parent.node (h.new ∷ h.lower ∷ []) = (moved full.parent.node full.fresh h.new h.free.node new_up, (moved full.parent.node full.child.node h.lower h.child.node down_up, tt)) in
      spells_held full.parent.node full.parent.content h.upper v (ap (λ (z : Holdings). held_of full.parent.node z.held) same ∙ (ap (held_of full.parent.node) h.held ∙ found_at full.parent.node (h.new ∷ h.lower ∷ []) h.upper h.rest h.parent.node far)) h.parent.spells

  pub child_spelled : (v : Log) → v.holdings ≡ k0.log.holdings → SpellsHeld full.child.node full.child.content v
  child_spelled v same =
      let far : AreFar full.child.node (h.new ∷ []) = (moved full.child.node full.fresh h.new h.free.node new_down, tt) in
      spells_held full.child.node full.child.content h.lower v (ap (λ (z : Holdings). held_of full.child.node z.held) same ∙ (ap (held_of full.child.node) h.held ∙ found_at full.child.node (h.new ∷ []) h.lower (h.upper ∷ h.rest) h.child.node far)) h.child.spells

  pub found_child : (p : Pair) × ((slice_get (pairs_of full.parent.content) (slot_for pc (pairs_of full.parent.content)) ≡ Some p) × (p.child ≡ full.child.node))
  found_child =
      let r = slot_of (full.parent.content.level - 1) full.parent.content.low full.parent.content.high pc (pairs_of full.parent.content) h.leads.0 ordered.1 h.leads.1.0 h.leads.1.2 h.leads.1.3 in
      (r.0, (r.1.0, r.1.1 ∙ h.leads.1.1))

  -- the tree with the three nodes changed
  pub g : Contents
  g = updated (updated (updated tree.contents full.parent.node (parts_for full pc).above) full.child.node (parts_for full pc).left) full.fresh (parts_for full pc).right

  pub g_up : g full.parent.node ≡ (parts_for full pc).above
  unfolding g
  g_up = rw (ne_eqb full.parent.node full.fresh (λ e. new_up (sym e)), ne_eqb full.parent.node full.child.node (λ e. down_up (sym e)), eq-eqb full.parent.node full.parent.node refl) refl

  pub g_down : g full.child.node ≡ (parts_for full pc).left
  unfolding g
  g_down = rw (ne_eqb full.child.node full.fresh (λ e. new_down (sym e)), eq-eqb full.child.node full.child.node refl) refl

  pub g_new : g full.fresh ≡ (parts_for full pc).right
  unfolding g
  g_new = rw (eq-eqb full.fresh full.fresh refl) refl

  g_else : (n : ℕ) → n ≢ full.parent.node → n ≢ full.child.node → n ≢ full.fresh → g n ≡ tree.contents n
  unfolding g
  g_else n a e d = rw (ne_eqb n full.fresh d, ne_eqb n full.child.node e, ne_eqb n full.parent.node a) refl

  splits : IsSplit tree.contents tree.live full.parent.node (slot_for pc (pairs_of full.parent.content)) found_child.0 full.fresh g
  splits =
      let p = found_child.0 in let same : p.child ≡ full.child.node = found_child.1.1 in
      let here : tree.contents p.child ≡ full.child.content = ap tree.contents same ∙ down_is in record {
        live_parent = up_live;
        at = subst (λ (z : NodeData). slice_get (pairs_of z) (slot_for pc (pairs_of full.parent.content)) ≡ Some p) (sym up_is) found_child.1.0;
        room = subst (λ (z : NodeData). length (pairs_of z) < 15) (sym up_is) h.room;
        full = subst (λ (z : NodeData). IsFull z.body) (sym here) h.is_full;
        free = new_dead;
        above = g_up ∙ (λ i. let z = sym up_is i in record z { body = Pairs (at_slot (divide (middle_fence (sym here i)) full.fresh) (slot_for pc (pairs_of full.parent.content)) (pairs_of z)) });
        left = ap g same ∙ (g_down ∙ ap (λ (z : NodeData). first_half (middle z.body) z) (sym here));
        right = g_new ∙ ap (λ (z : NodeData). last_half (middle z.body) z) (sym here);
        others = λ n a e d. g_else n a (λ q. e (q ∙ sym same)) d;
      }

  module _ (law : SplitLaw) where
    pub change : IsChangeOf tree.contents tree.live full.parent.node (full.parent.node ∷ full.child.node ∷ []) (full.fresh ∷ []) g None (full.parent.node ∷ full.child.node ∷ full.fresh ∷ [])
    change = subst (λ n. IsChangeOf tree.contents tree.live full.parent.node (full.parent.node ∷ n ∷ []) (full.fresh ∷ []) g None (full.parent.node ∷ n ∷ full.fresh ∷ [])) found_child.1.1
        (law tree.contents tree.live full.parent.node (slot_for pc (pairs_of full.parent.content)) found_child.0 full.fresh g tree.lawful splits)

  pub right_kind : kind_of_body (parts_for full pc).right.body ≢ 2
  right_kind = (are_halves full.child.content.body h.is_full).right_kind

  pub left_kind : kind_of_body (parts_for full pc).left.body ≢ 2
  left_kind = (are_halves full.child.content.body h.is_full).left_kind

  above_new : (parts_for full pc).above ≢ full.parent.content
  above_new = above_differs full.parent.content (middle_fence full.child.content) full.fresh (slot_for pc (pairs_of full.parent.content)) found_child.0 found_child.1.0

  pub may_first : (k : CallerData) → k.log.holdings ≡ k0.log.holdings → MayStore full.fresh k.log
  may_first k start = subst (λ o. IsSomeAnd o (λ (z : Holding). IsSome z.mark ⊎ IsTrue (is_among k.log.holdings.out full.fresh))) (sym (ap (λ (z : Holdings). held_of full.fresh z.held) start ∙ (ap (held_of full.fresh) h.held ∙ found_at full.fresh [] h.new (h.lower ∷ h.upper ∷ h.rest) h.free.node tt)))
      (inr (ap (λ (z : Holdings). is_among z.out full.fresh) start ∙ (ap (λ ns. is_among ns full.fresh) h.out ∙ is_first full.fresh [])))

  -- those above the three
  pub rest_is : drop 3 k0.log.holdings.held ≡ h.rest
  rest_is = ap (drop 3) h.held

  -- The three nodes are written, the new one first and the child last.
  module _ (parts : SplitNodes) (are : parts ≡ parts_for full pc) (k k1 : CallerData) (start : k.log.holdings ≡ k0.log.holdings) (write1 : StoresHeld full.fresh parts.right k k1) (spell1 : SpellsHeld full.fresh parts.right k1.log) where
    first : IsRewritten (parts_for full pc).right h.new [] (h.lower ∷ h.upper ∷ h.rest) k k1
    first = rewritten_so (parts_for full pc).right full.fresh h.new [] (h.lower ∷ h.upper ∷ h.rest) k k1 right_kind h.free.node tt before_new (ap (λ (z : Holdings). z.held) start ∙ h.held)
        (subst (λ (z : SplitNodes). StoresHeld full.fresh z.right k k1) are write1) (subst (λ (z : SplitNodes). SpellsHeld full.fresh z.right k1.log) are spell1)

    new_is : first.lock.node ≡ full.fresh
    new_is = first.node ∙ h.free.node

    far_up : AreFar full.parent.node (first.lock ∷ h.lower ∷ [])
    far_up = (moved full.parent.node full.fresh first.lock new_is new_up, (moved full.parent.node full.child.node h.lower h.child.node down_up, tt))

    pub may_second : MayStore full.parent.node k1.log
    may_second = subst (λ o. IsSomeAnd o (λ (z : Holding). IsSome z.mark ⊎ IsTrue (is_among k1.log.holdings.out full.parent.node))) (sym (ap (held_of full.parent.node) first.held ∙ found_at full.parent.node (first.lock ∷ h.lower ∷ []) h.upper h.rest h.parent.node far_up))
        (inl h.parent.marked)

    module _ (k2 : CallerData) (write2 : StoresHeld full.parent.node parts.above k1 k2) (spell2 : SpellsHeld full.parent.node parts.above k2.log) where
      second : IsRewritten (parts_for full pc).above h.upper (first.lock ∷ h.lower ∷ []) h.rest k1 k2
      second = rewritten_so (parts_for full pc).above full.parent.node h.upper (first.lock ∷ h.lower ∷ []) h.rest k1 k2 (λ e. omega (arith, e)) h.parent.node far_up rest_up first.held
          (subst (λ (z : SplitNodes). StoresHeld full.parent.node z.above k1 k2) are write2) (subst (λ (z : SplitNodes). SpellsHeld full.parent.node z.above k2.log) are spell2)

      pub table_then : k2.table ≡ k.table
      table_then = second.same.calls.caller.table ∙ first.same.calls.caller.table

      up_now : second.lock.node ≡ full.parent.node
      up_now = second.node ∙ h.parent.node

      far_down : AreFar full.child.node (second.lock ∷ h.rest)
      far_down = (moved full.child.node full.parent.node second.lock up_now (λ e. down_up (sym e)), rest_down)

      far_down' : AreFar full.child.node (first.lock ∷ [])
      far_down' = (moved full.child.node full.fresh first.lock new_is new_down, tt)

      pub may_third : MayStore full.child.node k2.log
      may_third = subst (λ o. IsSomeAnd o (λ (z : Holding). IsSome z.mark ⊎ IsTrue (is_among k2.log.holdings.out full.child.node))) (sym (ap (held_of full.child.node) second.held ∙ found_at full.child.node (first.lock ∷ []) h.lower (second.lock ∷ h.rest) h.child.node far_down'))
          (inl h.child.marked)

      module _ (k3 : CallerData) (write3 : StoresHeld full.child.node parts.left k2 k3) (spell3 : SpellsHeld full.child.node parts.left k3.log) where
        third : IsRewritten (parts_for full pc).left h.lower (first.lock ∷ []) (second.lock ∷ h.rest) k2 k3
        third = rewritten_so (parts_for full pc).left full.child.node h.lower (first.lock ∷ []) (second.lock ∷ h.rest) k2 k3 left_kind h.child.node far_down' far_down second.held
            (subst (λ (z : SplitNodes). StoresHeld full.child.node z.left k2 k3) are write3) (subst (λ (z : SplitNodes). SpellsHeld full.child.node z.left k3.log) are spell3)

        pub split_written : StepsOnNodes k0 k → WritesParts full pc k0 k3
        split_written steps = record {
          tree = tree;
          new = first.lock;
          lower = third.lock;
          upper = second.lock;
          held = third.held ∙ ap (λ xs. first.lock ∷ third.lock ∷ second.lock ∷ xs) (sym rest_is);
          out = third.out ∙ (second.out ∙ (first.out ∙ (ap (λ (z : Holdings). z.out) start ∙ h.out)));
          right_new = new_lock full.fresh (parts_for full pc).right h.new [] (h.lower ∷ h.upper ∷ h.rest) k k1 h.free unmarked right_kind first;
          child_written = written_lock t full.child (parts_for full pc).left h.lower (first.lock ∷ []) (second.lock ∷ h.rest) k2 k3 h.child (λ e. left_differs full.child.content h.is_full (sym e)) third;
          parent_written = written_lock t full.parent (parts_for full pc).above h.upper (first.lock ∷ h.lower ∷ []) h.rest k1 k2 h.parent (λ e. above_new (sym e)) second;
          same = steps_then k0 k k3 steps (steps_then k k2 k3 (steps_then k k1 k2 first.same second.same) third.same);
        }

  -- What was written changes the tree lawfully.
  module _ (law : SplitLaw) (k' : CallerData) (w : WritesParts full pc k0 k') where
    abbrev group : List ℕ
    group = full.parent.node ∷ full.child.node ∷ []

    abbrev reached : List ℕ
    reached = full.parent.node ∷ full.child.node ∷ full.fresh ∷ []

    abbrev holding : Holdings
    holding = record { held = w.new ∷ w.lower ∷ w.upper ∷ h.rest; out = full.fresh ∷ [] }

    far_child : AreFar full.child.node (w.upper ∷ h.rest)
    far_child = (moved full.child.node full.parent.node w.upper w.parent_written.node (λ e. down_up (sym e)), rest_down)

    pub stays : AllByRecursion (StaysSettled tree.contents tree.live group reached) h.rest
    stays = higher_stay t tree.contents tree.live group reached full.parent.content.level h.rest h.higher told.1.1.1 (outside_of full.parent.node full.child.node full.fresh h.rest rest_up rest_down rest_new)

    each : AllByRecursion (FitsChange tree.contents tree.live group (full.fresh ∷ []) g) (w.new ∷ w.lower ∷ w.upper ∷ h.rest)
    each = (
      fits_new tree.contents tree.live group (full.fresh ∷ []) g full.fresh (parts_for full pc).right w.new w.right_new g_new,
      (
        fits_written tree.contents tree.live group (full.fresh ∷ []) g full.child (parts_for full pc).left w.lower w.child_written down_live down_is g_down,
        (
          fits_written tree.contents tree.live group (full.fresh ∷ []) g full.parent (parts_for full pc).above w.upper w.parent_written up_live up_is g_up,
          stays_fit tree.contents tree.live full.parent.node group (full.fresh ∷ []) g reached (change law) h.rest stays,
        ),
      ),
    )

    once_each : HeldOnce (w.new ∷ w.lower ∷ w.upper ∷ h.rest)
    once_each = (
      subst (λ n. AreFar n (w.lower ∷ w.upper ∷ h.rest)) (sym w.right_new.node) (moved full.fresh full.child.node w.lower w.child_written.node (λ e. new_down (sym e)), (moved full.fresh full.parent.node w.upper w.parent_written.node (λ e. new_up (sym e)), rest_new)),
      (subst (λ n. AreFar n (w.upper ∷ h.rest)) (sym w.child_written.node) far_child, (subst (λ n. AreFar n h.rest) (sym w.parent_written.node) rest_up, higher_once t tree.contents tree.live full.parent.content.level h.rest h.higher told.1.1.1)),
    )

    pub nothing_out : left_out group reached holding ≡ []
    nothing_out = none_out group reached holding (is_first full.parent.node (full.child.node ∷ full.fresh ∷ []), (is_second full.parent.node full.child.node (full.fresh ∷ []), tt)) (is_third full.parent.node full.child.node full.fresh [], tt)

    less : (tree.contents full.child.node).level < (tree.contents full.parent.node).level
    less =
        let a : (tree.contents full.child.node).level ≡ full.child.content.level = ap (λ (z : NodeData). z.level) down_is in
        let e : (tree.contents full.parent.node).level ≡ full.parent.content.level = ap (λ (z : NodeData). z.level) up_is in
        let l = level in omega (arith, a, e, l)

    pub split_change : IsHeldChange holding tree.contents tree.live full.parent.node group (full.fresh ∷ []) g reached
    split_change = record {
      lawful = tree.lawful;
      dead = λ n e. ap tree.live (only full.fresh n e) ∙ new_dead;
      change = change law;
      each = each;
      once = once_each;
      group_held = (
        marked_at full.parent.node w.upper (w.new ∷ w.lower ∷ w.upper ∷ h.rest)
            (found_at full.parent.node (w.new ∷ w.lower ∷ []) w.upper h.rest w.parent_written.node (moved full.parent.node full.fresh w.new w.right_new.node new_up, (moved full.parent.node full.child.node w.lower w.child_written.node down_up, tt)))
            w.parent_written.marked,
        (marked_at full.child.node w.lower (w.new ∷ w.lower ∷ w.upper ∷ h.rest) (found_at full.child.node (w.new ∷ []) w.lower (w.upper ∷ h.rest) w.child_written.node (moved full.child.node full.fresh w.new w.right_new.node new_down, tt)) w.child_written.marked, tt),
      );
      fresh_held = ((subst IsSome (sym (found_at full.fresh [] w.new (w.lower ∷ w.upper ∷ h.rest) w.right_new.node tt)) refl, is_first full.fresh []), tt);
      differ = ((λ e. above_new (sym g_up ∙ (e ∙ up_is))), ((λ e. left_differs full.child.content h.is_full (sym g_down ∙ (e ∙ down_is))), tt));
      lower = ((λ far. absurd (far refl)), ((λ far. less), tt));
      room = subst (λ (xs : List ℕ). length xs ≤ 4) (sym nothing_out) (omega arith);
    }
