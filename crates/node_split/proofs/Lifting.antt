-- The full root is lifted and split in one step: what is held before, and the change that is written.
use Rattle.std.proofs.Common.{ℕ, [], ◌∷◌, Bool, None, ◌≡◌, ◌≢◌, sym, ◌∙◌, IsTrue, inl, inr, ◌⊎◌, ◌+◌, ◌<◌, ◌≤◌, List, length, refl, ap, subst, arith, true, false, IsSome, IsSomeAnd, eq-eqb, ne_eqb}
use Rattle.std.proofs.lemmas.Bool.{ltb-true}
use Rattle.std.specs.List.{AllByRecursion}
use Rattle.tree_laws.specs.Lawful.{IsLawfulTree}
use Rattle.tree_laws.specs.LocalChange.{IsChangeOf}
use Rattle.tree_laws.specs.Steps.{IsRootSplit, IsFull, middle, middle_fence, root_over}
use Rattle.tree_laws.specs.Trees.{Contents}
use Rattle.tree_laws.specs.Numbers.{is_among, times}
use Rattle.tree_laws.proofs.Times.{In, times_in}
use Rattle.tree_shape.specs.Changes.{first_half, last_half}
use Rattle.tree_shape.specs.NodeData.{NodeData}
use Rattle.word_rule.specs.declared.log.Holding.{Holding}
use Rattle.word_rule.specs.CallerData.{CallerData}
use Rattle.word_rule.specs.declared.log.Holdings.{Holdings}
use Rattle.word_rule.specs.declared.log.Terms.{Terms}
use Rattle.word_rule.specs.Held.{held_of}
use Rattle.word_rule.specs.SharedWords.{updated}
use Rattle.word_rule.specs.NodeTells.{KnowsTree}
use Rattle.word_rule.specs.Steps.{MayStore}
use Rattle.word_rule.specs.declared.log.Log.{Log}
use Rattle.node_store.specs.Holding.{SpellsHeld, StoresHeld}
use Rattle.node_store.specs.Writing.{kind_of_body}
use Rattle.tree_descent.specs.Paths.{StepsOnNodes}
use Rattle.tree_descent.proofs.HeldLists.{is_first, HeldOnce}
use Rattle.tree_descent.proofs.Settling.{FitsChange, IsHeldChange, left_out, marked_at, none_out}
use Rattle.tree_descent.proofs.Outlining.{spells_held}
use Rattle.tree_descent.proofs.Storing.{IsRewritten, found_at, rewritten_so}
use Rattle.tree_descent.proofs.NodeSteps.{steps_then}
use Rattle.node_split.specs.declared.root_split.FullRoot.{FullRoot}
use Rattle.node_split.specs.declared.split.SplitNodes.{SplitNodes}
use Rattle.node_split.specs.Halves.{WritesRootParts}
use Rattle.node_split.specs.Splits.{HoldsFullRoot, root_parts_for}
use Rattle.node_split.proofs.HeldParts.{AreFar, IsTold, is_second, is_third, lives_apart, told_unmarked}
use Rattle.node_split.proofs.SplitParts.{are_halves}
use Rattle.node_split.proofs.Halving.{fits_new, fits_written, new_lock, written_lock}

-- the law of a lifted root, as a change of the three nodes alone
abbrev pub LiftLaw : Type 0
LiftLaw = (f : Contents) (live : ℕ → Bool) (left right : ℕ) (g : Contents) → IsLawfulTree f live → IsRootSplit f live left right g → IsChangeOf f live 0 (0 ∷ []) (left ∷ right ∷ []) g None (0 ∷ left ∷ right ∷ [])

-- a lock of this node, of which another is none
moved : (n m : ℕ) (a : Holding) → a.node ≡ m → m ≢ n → a.node ≢ n
moved n m a is far e = far (sym is ∙ e)

one_of_two : (x y n : ℕ) → IsTrue (is_among (x ∷ y ∷ []) n) → (n ≡ x) ⊎ (n ≡ y)
one_of_two x y n is = go (times_in (x ∷ y ∷ []) n (ltb-true 0 (times n (x ∷ y ∷ [])) is))
  where
    go : In n (x ∷ y ∷ []) → (n ≡ x) ⊎ (n ≡ y)
    go (inl e) = inl (sym e)
    go (inr (inl e)) = inr (sym e)
    go (inr (inr none)) = absurd none

module _ (t : Terms) (full : FullRoot) (pc : ℕ) (k0 : CallerData) (h : HoldsFullRoot t full pc k0.log.holdings) (tree : KnowsTree k0.log.holdings) where
  told : AllByRecursion (IsTold tree.contents tree.live) (h.right ∷ h.left ∷ h.upper ∷ [])
  told = subst (AllByRecursion (IsTold tree.contents tree.live)) h.held tree.marked

  upper_zero : h.upper.node ≡ 0
  upper_zero = h.root.node ∙ h.is_root

  pub root_live : tree.live 0 ≡ true
  root_live = ap tree.live (sym upper_zero) ∙ (told.1.1.0 h.root.marked).0

  pub root_is : tree.contents 0 ≡ full.root.content
  root_is = ap tree.contents (sym upper_zero) ∙ ((told.1.1.0 h.root.marked).1 ∙ h.root.settled)

  left_dead : tree.live full.left ≡ false
  left_dead = tree.dead full.left (subst (λ ns. IsTrue (is_among ns full.left)) (sym h.out) (is_second full.right full.left []))

  right_dead : tree.live full.right ≡ false
  right_dead = tree.dead full.right (subst (λ ns. IsTrue (is_among ns full.right)) (sym h.out) (is_first full.right (full.left ∷ [])))

  left_unmarked : h.left.mark ≡ None
  left_unmarked = told_unmarked tree.contents tree.live h.left told.1.0 (ap tree.live h.left_free.node ∙ left_dead)

  right_unmarked : h.right.mark ≡ None
  right_unmarked = told_unmarked tree.contents tree.live h.right told.0 (ap tree.live h.right_free.node ∙ right_dead)

  pub left_zero : full.left ≢ 0
  left_zero e = lives_apart tree.live 0 full.left root_live left_dead (sym e)

  pub right_zero : full.right ≢ 0
  right_zero e = lives_apart tree.live 0 full.right root_live right_dead (sym e)

  -- the words of the root are its own
  pub root_spelled : (v : Log) → v.holdings ≡ k0.log.holdings → SpellsHeld full.root.node full.root.content v
  root_spelled v same =
      let far : AreFar full.root.node (h.right ∷ h.left ∷ []) = ((λ e. right_zero (sym h.right_free.node ∙ (e ∙ h.is_root))), ((λ e. left_zero (sym h.left_free.node ∙ (e ∙ h.is_root))), tt)) in
      spells_held full.root.node full.root.content h.upper v (ap (λ (z : Holdings). held_of full.root.node z.held) same ∙ (ap (held_of full.root.node) h.held ∙ found_at full.root.node (h.right ∷ h.left ∷ []) h.upper [] h.root.node far)) h.root.spells

  -- the tree with the three nodes changed
  pub g : Contents
  g = updated (updated (updated tree.contents 0 (root_parts_for full).above) full.left (root_parts_for full).left) full.right (root_parts_for full).right

  g_root : g 0 ≡ (root_parts_for full).above
  unfolding g
  g_root = rw (ne_eqb 0 full.right (λ e. right_zero (sym e)), ne_eqb 0 full.left (λ e. left_zero (sym e))) refl

  g_left : g full.left ≡ (root_parts_for full).left
  unfolding g
  g_left = rw (ne_eqb full.left full.right h.different, eq-eqb full.left full.left refl) refl

  g_right : g full.right ≡ (root_parts_for full).right
  unfolding g
  g_right = rw (eq-eqb full.right full.right refl) refl

  g_else : (n : ℕ) → n ≢ 0 → n ≢ full.left → n ≢ full.right → g n ≡ tree.contents n
  unfolding g
  g_else n a e d = rw (ne_eqb n full.right d, ne_eqb n full.left e, ne_eqb n 0 a) refl

  splits : IsRootSplit tree.contents tree.live full.left full.right g
  splits = record {
    height = subst (λ (z : NodeData). z.level < 12) (sym root_is) h.height;
    full = subst (λ (z : NodeData). IsFull z.body) (sym root_is) h.is_full;
    free_left = left_dead;
    free_right = right_dead;
    different = h.different;
    root = g_root ∙ ap (λ (z : NodeData). root_over full.left full.right (middle_fence z) z) (sym root_is);
    first = g_left ∙ ap (λ (z : NodeData). first_half (middle z.body) z) (sym root_is);
    last = g_right ∙ ap (λ (z : NodeData). last_half (middle z.body) z) (sym root_is);
    others = g_else;
  }

  right_kind : kind_of_body (root_parts_for full).right.body ≢ 2
  right_kind = (are_halves full.root.content.body h.is_full).right_kind

  left_kind : kind_of_body (root_parts_for full).left.body ≢ 2
  left_kind = (are_halves full.root.content.body h.is_full).left_kind

  above_new : (root_parts_for full).above ≢ full.root.content
  above_new e = let z : full.root.content.level + 1 ≡ full.root.content.level = ap (λ (x : NodeData). x.level) e in omega (arith, z)

  far_left : AreFar full.left (h.right ∷ [])
  far_left = (moved full.left full.right h.right h.right_free.node (λ e. h.different (sym e)), tt)

  far_left' : AreFar full.left (h.upper ∷ [])
  far_left' = (moved full.left 0 h.upper upper_zero (λ e. left_zero (sym e)), tt)

  pub may_first : (k : CallerData) → k.log.holdings ≡ k0.log.holdings → MayStore full.left k.log
  may_first k start = subst (λ o. IsSomeAnd o (λ (z : Holding). IsSome z.mark ⊎ IsTrue (is_among k.log.holdings.out full.left)))
      (sym (ap (λ (z : Holdings). held_of full.left z.held) start ∙ (ap (held_of full.left) h.held ∙ found_at full.left (h.right ∷ []) h.left (h.upper ∷ []) h.left_free.node far_left)))
      (inr (ap (λ (z : Holdings). is_among z.out full.left) start ∙ (ap (λ ns. is_among ns full.left) h.out ∙ is_second full.right full.left [])))

  -- The three nodes are written, the root last.
  module _ (parts : SplitNodes) (are : parts ≡ root_parts_for full) (k k1 : CallerData) (start : k.log.holdings ≡ k0.log.holdings) (write1 : StoresHeld full.left parts.left k k1) (spell1 : SpellsHeld full.left parts.left k1.log) where
    first : IsRewritten (root_parts_for full).left h.left (h.right ∷ []) (h.upper ∷ []) k k1
    first = rewritten_so (root_parts_for full).left full.left h.left (h.right ∷ []) (h.upper ∷ []) k k1 left_kind h.left_free.node far_left far_left' (ap (λ (z : Holdings). z.held) start ∙ h.held)
        (subst (λ (z : SplitNodes). StoresHeld full.left z.left k k1) are write1) (subst (λ (z : SplitNodes). SpellsHeld full.left z.left k1.log) are spell1)

    left_is : first.lock.node ≡ full.left
    left_is = first.node ∙ h.left_free.node

    far_right : AreFar full.right (first.lock ∷ h.upper ∷ [])
    far_right = (moved full.right full.left first.lock left_is h.different, (moved full.right 0 h.upper upper_zero (λ e. right_zero (sym e)), tt))

    out1 : k1.log.holdings.out ≡ full.right ∷ full.left ∷ []
    out1 = first.out ∙ (ap (λ (z : Holdings). z.out) start ∙ h.out)

    pub may_second : MayStore full.right k1.log
    may_second = subst (λ o. IsSomeAnd o (λ (z : Holding). IsSome z.mark ⊎ IsTrue (is_among k1.log.holdings.out full.right)))
        (sym (ap (held_of full.right) first.held ∙ found_at full.right [] h.right (first.lock ∷ h.upper ∷ []) h.right_free.node tt))
        (inr (ap (λ ns. is_among ns full.right) out1 ∙ is_first full.right (full.left ∷ [])))

    module _ (k2 : CallerData) (write2 : StoresHeld full.right parts.right k1 k2) (spell2 : SpellsHeld full.right parts.right k2.log) where
      second : IsRewritten (root_parts_for full).right h.right [] (first.lock ∷ h.upper ∷ []) k1 k2
      second = rewritten_so (root_parts_for full).right full.right h.right [] (first.lock ∷ h.upper ∷ []) k1 k2 right_kind h.right_free.node tt far_right first.held
          (subst (λ (z : SplitNodes). StoresHeld full.right z.right k1 k2) are write2) (subst (λ (z : SplitNodes). SpellsHeld full.right z.right k2.log) are spell2)

      pub table_then : k2.table ≡ k.table
      table_then = second.same.calls.caller.table ∙ first.same.calls.caller.table

      right_is : second.lock.node ≡ full.right
      right_is = second.node ∙ h.right_free.node

      far_root : AreFar full.root.node (second.lock ∷ first.lock ∷ [])
      far_root = (moved full.root.node full.right second.lock right_is (λ e. right_zero (e ∙ h.is_root)), (moved full.root.node full.left first.lock left_is (λ e. left_zero (e ∙ h.is_root)), tt))

      pub may_third : MayStore full.root.node k2.log
      may_third = subst (λ o. IsSomeAnd o (λ (z : Holding). IsSome z.mark ⊎ IsTrue (is_among k2.log.holdings.out full.root.node)))
          (sym (ap (held_of full.root.node) second.held ∙ found_at full.root.node (second.lock ∷ first.lock ∷ []) h.upper [] h.root.node far_root)) (inl h.root.marked)

      module _ (k3 : CallerData) (write3 : StoresHeld full.root.node parts.above k2 k3) (spell3 : SpellsHeld full.root.node parts.above k3.log) where
        third : IsRewritten (root_parts_for full).above h.upper (second.lock ∷ first.lock ∷ []) [] k2 k3
        third = rewritten_so (root_parts_for full).above full.root.node h.upper (second.lock ∷ first.lock ∷ []) [] k2 k3 (λ e. omega (arith, e)) h.root.node far_root tt second.held
            (subst (λ (z : SplitNodes). StoresHeld full.root.node z.above k2 k3) are write3) (subst (λ (z : SplitNodes). SpellsHeld full.root.node z.above k3.log) are spell3)

        pub lift_written : StepsOnNodes k0 k → WritesRootParts full k0 k3
        lift_written steps = record {
          tree = tree;
          right = second.lock;
          left = first.lock;
          upper = third.lock;
          held = third.held;
          out = third.out ∙ (second.out ∙ out1);
          right_new = new_lock full.right (root_parts_for full).right h.right [] (first.lock ∷ h.upper ∷ []) k1 k2 h.right_free right_unmarked right_kind second;
          left_new = new_lock full.left (root_parts_for full).left h.left (h.right ∷ []) (h.upper ∷ []) k k1 h.left_free left_unmarked left_kind first;
          root_written = written_lock t full.root (root_parts_for full).above h.upper (second.lock ∷ first.lock ∷ []) [] k2 k3 h.root (λ e. above_new (sym e)) third;
          same = steps_then k0 k k3 steps (steps_then k k2 k3 (steps_then k k1 k2 first.same second.same) third.same);
        }

  -- What was written changes the tree lawfully.
  module _ (law : LiftLaw) (k' : CallerData) (w : WritesRootParts full k0 k') where
    abbrev holding : Holdings
    holding = record { held = w.right ∷ w.left ∷ w.upper ∷ []; out = full.right ∷ full.left ∷ [] }

    pub root_now : w.upper.node ≡ 0
    root_now = w.root_written.node ∙ h.is_root

    root_far_right : w.upper.node ≢ full.right
    root_far_right e = right_zero (sym e ∙ root_now)

    root_far_left : w.upper.node ≢ full.left
    root_far_left e = left_zero (sym e ∙ root_now)

    each : AllByRecursion (FitsChange tree.contents tree.live (0 ∷ []) (full.left ∷ full.right ∷ []) g) (w.right ∷ w.left ∷ w.upper ∷ [])
    each = (
      fits_new tree.contents tree.live (0 ∷ []) (full.left ∷ full.right ∷ []) g full.right (root_parts_for full).right w.right w.right_new g_right,
      (
        fits_new tree.contents tree.live (0 ∷ []) (full.left ∷ full.right ∷ []) g full.left (root_parts_for full).left w.left w.left_new g_left,
        (fits_written tree.contents tree.live (0 ∷ []) (full.left ∷ full.right ∷ []) g full.root (root_parts_for full).above w.upper w.root_written (ap tree.live h.is_root ∙ root_live) (ap tree.contents h.is_root ∙ root_is) (ap g h.is_root ∙ g_root), tt),
      ),
    )

    once_each : HeldOnce (w.right ∷ w.left ∷ w.upper ∷ [])
    once_each = (
      subst (λ n. AreFar n (w.left ∷ w.upper ∷ [])) (sym w.right_new.node) (moved full.right full.left w.left w.left_new.node h.different, (root_far_right, tt)),
      (subst (λ n. AreFar n (w.upper ∷ [])) (sym w.left_new.node) (root_far_left, tt), (tt, tt)),
    )

    pub nothing_out : left_out (0 ∷ []) (0 ∷ full.left ∷ full.right ∷ []) holding ≡ []
    nothing_out = none_out (0 ∷ []) (0 ∷ full.left ∷ full.right ∷ []) holding (is_first 0 (full.left ∷ full.right ∷ []), tt) (is_third 0 full.left full.right [], (is_second 0 full.left (full.right ∷ []), tt))

    dead_out : (n : ℕ) → (n ≡ full.right) ⊎ (n ≡ full.left) → tree.live n ≡ false
    dead_out n (inl e) = ap tree.live e ∙ right_dead
    dead_out n (inr e) = ap tree.live e ∙ left_dead

    pub lift_change : IsHeldChange holding tree.contents tree.live 0 (0 ∷ []) (full.left ∷ full.right ∷ []) g (0 ∷ full.left ∷ full.right ∷ [])
    lift_change = record {
      lawful = tree.lawful;
      dead = λ n e. dead_out n (one_of_two full.right full.left n e);
      change = law tree.contents tree.live full.left full.right g tree.lawful splits;
      each = each;
      once = once_each;
      group_held = (marked_at 0 w.upper (w.right ∷ w.left ∷ w.upper ∷ []) (found_at 0 (w.right ∷ w.left ∷ []) w.upper [] root_now (moved 0 full.right w.right w.right_new.node right_zero, (moved 0 full.left w.left w.left_new.node left_zero, tt))) w.root_written.marked, tt);
      fresh_held = (
        (subst IsSome (sym (found_at full.left (w.right ∷ []) w.left (w.upper ∷ []) w.left_new.node (moved full.left full.right w.right w.right_new.node (λ e. h.different (sym e)), tt))) refl, is_second full.right full.left []),
        ((subst IsSome (sym (found_at full.right [] w.right (w.left ∷ w.upper ∷ []) w.right_new.node tt)) refl, is_first full.right (full.left ∷ [])), tt),
      );
      differ = ((λ e. above_new (sym g_root ∙ (e ∙ root_is))), tt);
      lower = ((λ far. absurd (far refl)), tt);
      room = subst (λ (xs : List ℕ). length xs ≤ 4) (sym nothing_out) (omega arith);
    }
