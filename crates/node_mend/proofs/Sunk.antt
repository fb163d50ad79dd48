-- The root takes the place of its only two children, which leave the tree.
use Rattle.std.proofs.Common.{ℕ, [], ◌∷◌, Bool, None, ◌≡◌, suc, ◌+◌, List, ◌++◌, length, arith, refl, ap, not, eq-eqb, cond, ◌≢◌, sym, ne_eqb, true, false, ◌∙◌, subst, IsTrue, ◌<◌, Some, if◌then◌else◌}
use Rattle.tree_laws.specs.Lawful.{IsLawfulTree}
use Rattle.tree_laws.specs.LocalChange.{IsChangeOf}
use Rattle.tree_laws.specs.Steps.{IsSink}
use Rattle.tree_laws.specs.Trees.{Contents}
use Rattle.tree_shape.specs.declared.pair.Pair.{Pair}
use Rattle.tree_laws.specs.Numbers.{is_among}
use Rattle.tree_shape.specs.Changes.{Fit, joined, pair}
use Rattle.tree_shape.specs.NodeData.{NodeData, Link, frame_of, pairs_of}
use Rattle.word_rule.specs.Held.{all_but, edited, held_of, is_marked}
use Rattle.word_rule.specs.CallerData.{CallerData}
use Rattle.word_rule.specs.Exchange.{exchange, settle}
use Rattle.word_rule.specs.SharedWords.{updated}
use Rattle.word_rule.specs.NodeTells.{HolderTells, KnowsTree}
use Rattle.word_rule.specs.Sights.{after_node_load}
use Rattle.word_rule.specs.Steps.{MayStore, after_node_store, store_in, stored_log}
use Rattle.word_rule.specs.declared.log.Holding.{Holding}
use Rattle.word_rule.specs.declared.log.Log.{Log}
use Rattle.word_rule.specs.declared.log.Terms.{Terms}
use Rattle.node_store.specs.Holding.{SpellsHeld, StoresHeld}
use Rattle.tree_descent.proofs.HeldLists.{is_first}
use Rattle.tree_descent.specs.Paths.{StepsOnNodes}
use Rattle.tree_descent.proofs.Descents.{steps_of_load}
use Rattle.tree_descent.proofs.Loading.{none_more}
use Rattle.tree_descent.proofs.Settling.{SettlingLaws, settled_gone}
use Rattle.tree_descent.proofs.Storing.{IsWrittenAs}
use Rattle.tree_descent.proofs.Lowering.{settled_live}
use Rattle.tree_descent.proofs.NodeSteps.{steps_so, steps_then}
use Rattle.node_mend.proofs.Pairings.{both_left, later, AreThree, IsNow, both_high, both_low, family, group_of, in_l, in_r, left_told, not_in, parent_told, right_told, settles, three}
use Rattle.node_mend.specs.Siblings.{HoldsSiblings, HoldsSunk, both_of, sunk_root}
use Rattle.node_mend.specs.declared.sibling.Siblings.{Siblings}
use Rattle.node_mend.proofs.Written.{edit_high, edit_low, spells_freed, write_upper}
use Rattle.node_mend.proofs.Joining.{fits_no_free, may_store, never_free, wide_of}
use Rattle.node_mend.proofs.Raised.{spells_raised}

abbrev pub SinkLaw : Type 0
SinkLaw = (f : Contents) (live : ℕ → Bool) (p q : Pair) (g : Contents) → IsLawfulTree f live → IsSink f live p q g → IsChangeOf f live 0 (0 ∷ p.child ∷ q.child ∷ []) [] g None (0 ∷ [])

no_more : (front back : List Pair) (p q : Pair) (all : List Pair) → all ≡ front ++ p ∷ q ∷ back → length all ≡ length front + suc (suc (length back)) → length all ≡ 2 → all ≡ p ∷ q ∷ []
no_more [] [] p q all is count two = is
no_more [] (b ∷ back) p q all is count two = absurd (omega (arith, count, two))
no_more (a ∷ front) back p q all is count two = absurd (omega (arith, count, two))

but_one : (a : ℕ) → all_but a (a ∷ []) ≡ []
but_one a = ap (λ b. cond (not b) (a ∷ []) []) (eq-eqb a a refl)

but_first : (a b : ℕ) → a ≢ b → all_but a (a ∷ b ∷ []) ≡ b ∷ []
but_first a b far = (λ i. cond (not (eq-eqb a a refl i)) (a ∷ cond (not (ne_eqb b a (λ e. far (sym e)) i)) (b ∷ []) []) (cond (not (ne_eqb b a (λ e. far (sym e)) i)) (b ∷ []) []))

but_second : (a b : ℕ) → a ≢ b → all_but b (a ∷ b ∷ []) ≡ a ∷ []
but_second a b far = (λ i. cond (not (ne_eqb a b far i)) (a ∷ cond (not (eq-eqb b b refl i)) (b ∷ []) []) (cond (not (eq-eqb b b refl i)) (b ∷ []) []))

-- both of them are two
two_left : (l r : ℕ) (o : Bool) → length (both_left o true true l r) ≡ 2
two_left l r true = refl
two_left l r false = refl

pub without_two : (l r : ℕ) (o : Bool) → l ≢ r → IsTrue (is_among (both_left o true true l r) l) × IsTrue (is_among (all_but l (both_left o true true l r)) r) × (all_but r (all_but l (both_left o true true l r)) ≡ [])
without_two l r true far = (is_first l (r ∷ []), subst (λ os. IsTrue (is_among os r)) (sym (but_first l r far)) (is_first r []), ap (all_but r) (but_first l r far) ∙ but_one r)
without_two l r false far = (later l r (l ∷ []) (is_first l []), subst (λ os. IsTrue (is_among os r)) (sym (but_second r l (λ e. far (sym e)))) (is_first r []), ap (all_but r) (but_second r l (λ e. far (sym e))) ∙ but_one r)

module _ (t : Terms) (x : Siblings) (k k1 k2 : CallerData) (seen seen' : ℕ) (hs : HoldsSiblings t x k.log.holdings) (tree : KnowsTree k.log.holdings) (holder : HolderTells x.left.node k.log) (loads : k1 ≡ record k { log = after_node_load x.left.node 2 seen k.log })
    (holder' : HolderTells x.right.node k1.log) (loads' : k2 ≡ record k1 { log = after_node_load x.right.node 2 seen' k1.log }) (root : x.above.node ≡ 0) (two : length (pairs_of x.above.content) ≡ 2) (fit : Fit x.left.content x.right.content) where
  held1 : k1.log.holdings.held ≡ both_of hs.left_first hs.low hs.high (hs.upper ∷ [])
  held1 = ap (λ (z : CallerData). z.log.holdings.held) loads ∙ hs.held

  held2 : k2.log.holdings.held ≡ both_of hs.left_first hs.low hs.high (hs.upper ∷ [])
  held2 = ap (λ (z : CallerData). z.log.holdings.held) loads' ∙ held1

  out2 : k2.log.holdings.out ≡ []
  out2 = ap (λ (z : CallerData). z.log.holdings.out) loads' ∙ (ap (λ (z : CallerData). z.log.holdings.out) loads ∙ hs.out)

  apart : AreThree x.left.node x.right.node x.above.node
  apart = three t x k hs tree

  low_far_r : hs.low.node ≢ x.right.node
  low_far_r e = apart.left_right (sym hs.left.node ∙ e)

  high_far_l : hs.high.node ≢ x.left.node
  high_far_l e = apart.left_right (sym (sym hs.right.node ∙ e))

  wide_low : length hs.low.words ≡ 35
  wide_low = wide_of t x.left.node hs.low k.log (ap (held_of x.left.node) hs.held ∙ both_low hs.left_first hs.low hs.high (hs.upper ∷ []) x.left.node hs.left.node high_far_l) holder

  wide_high : length hs.high.words ≡ 35
  wide_high = wide_of t x.right.node hs.high k1.log (ap (held_of x.right.node) held1 ∙ both_high hs.left_first hs.low hs.high (hs.upper ∷ []) x.right.node hs.right.node low_far_r) holder'

  module _ (k3 : CallerData) (writes : StoresHeld x.above.node (sunk_root x) k2 k3) (spells : SpellsHeld x.above.node (sunk_root x) k3.log) where
    w : IsWrittenAs (sunk_root x) hs.upper (λ z. both_of hs.left_first hs.low hs.high (z ∷ [])) k2 k3
    w = write_upper hs.left_first (sunk_root x) x.above.node hs.low hs.high hs.upper k2 k3 (fits_no_free x.left.content.body x.right.content.body fit) hs.parent.node (λ e. apart.left_above (sym hs.left.node ∙ e)) (λ e. apart.right_above (sym hs.right.node ∙ e)) held2 writes spells

    upper_node : w.lock.node ≡ x.above.node
    upper_node = w.node ∙ hs.parent.node

    upper_far_l : w.lock.node ≢ x.left.node
    upper_far_l e = apart.left_above (sym (sym upper_node ∙ e))

    upper_far_r : w.lock.node ≢ x.right.node
    upper_far_r e = apart.right_above (sym (sym upper_node ∙ e))

    pub may_raise : MayStore x.right.node k3.log
    may_raise = may_store x.right.node hs.high k3.log (ap (held_of x.right.node) w.held ∙ both_high hs.left_first hs.low hs.high (w.lock ∷ []) x.right.node hs.right.node low_far_r) hs.right.marked

    module _ (k4 : CallerData) (stores4 : k4 ≡ record k3 { log = after_node_store x.right.node 2 (x.right.content.level + 1) k3.log }) where
      abbrev high4 : Holding
      high4 = store_in 2 (x.right.content.level + 1) hs.high

      held4 : k4.log.holdings.held ≡ both_of hs.left_first hs.low (store_in 2 (x.right.content.level + 1) hs.high) (w.lock ∷ [])
      held4 = ap (λ (z : CallerData). z.log.holdings.held) stores4 ∙ (ap (edited x.right.node (store_in 2 (x.right.content.level + 1))) w.held ∙ edit_high hs.left_first x.right.node (store_in 2 (x.right.content.level + 1)) hs.low hs.high (w.lock ∷ []) hs.right.node low_far_r (upper_far_r, tt))

      pub may_link : MayStore x.left.node k4.log
      may_link = may_store x.left.node hs.low k4.log (ap (held_of x.left.node) held4 ∙ both_low hs.left_first hs.low high4 (w.lock ∷ []) x.left.node hs.left.node high_far_l) hs.left.marked

      module _ (k5 : CallerData) (stores5 : k5 ≡ record k4 { log = after_node_store x.left.node 6 0 k4.log }) where
        held5 : k5.log.holdings.held ≡ both_of hs.left_first (store_in 6 0 hs.low) (store_in 2 (x.right.content.level + 1) hs.high) (w.lock ∷ [])
        held5 = ap (λ (z : CallerData). z.log.holdings.held) stores5 ∙ (ap (edited x.left.node (store_in 6 0)) held4 ∙ edit_low hs.left_first x.left.node (store_in 6 0) hs.low high4 (w.lock ∷ []) hs.left.node high_far_l (upper_far_l, tt))

        found_low : held_of x.left.node k5.log.holdings.held ≡ Some (store_in 6 0 hs.low)
        found_low = ap (held_of x.left.node) held5 ∙ both_low hs.left_first (store_in 6 0 hs.low) high4 (w.lock ∷ []) x.left.node hs.left.node high_far_l

        pub may_free : MayStore x.left.node k5.log
        may_free = may_store x.left.node (store_in 6 0 hs.low) k5.log found_low hs.left.marked

        module _ (laws : SettlingLaws) (law : SinkLaw) (k6 : CallerData) (stores6 : k6 ≡ record k5 { log = after_node_store x.left.node 1 2 k5.log }) where
          abbrev g : Contents
          g = updated (updated (updated tree.contents x.right.node (record x.right.content { level = x.right.content.level + 1 })) x.left.node (record x.left.content { body = Link 0 })) x.above.node (sunk_root x)

          g_n : g x.above.node ≡ sunk_root x
          g_n = rw (eq-eqb x.above.node x.above.node refl) refl

          g_l : g x.left.node ≡ record x.left.content { body = Link 0 }
          g_l = rw (ne_eqb x.left.node x.above.node apart.left_above, eq-eqb x.left.node x.left.node refl) refl

          g_r : g x.right.node ≡ record x.right.content { level = x.right.content.level + 1 }
          g_r = rw (ne_eqb x.right.node x.above.node apart.right_above, ne_eqb x.right.node x.left.node (λ e. apart.left_right (sym e)), eq-eqb x.right.node x.right.node refl) refl

          f_n : tree.contents x.above.node ≡ x.above.content
          f_n = (parent_told t x k hs tree).1

          pairs_are : pairs_of (tree.contents x.above.node) ≡ pair x.left.node x.left.content.high ∷ pair x.right.node x.right.content.high ∷ []
          pairs_are = let fam = family t x k hs tree in no_more fam.front fam.back (pair x.left.node x.left.content.high) (pair x.right.node x.right.content.high) (pairs_of (tree.contents x.above.node)) fam.is fam.count (ap (λ (z : NodeData). length (pairs_of z)) f_n ∙ two)

          is_sink : IsSink tree.contents tree.live (pair x.left.node x.left.content.high) (pair x.right.node x.right.content.high) g
          is_sink =
              let fl = (left_told t x k hs tree).1 in let fr = (right_told t x k hs tree).1 in record {
                pairs = subst (λ m. pairs_of (tree.contents m) ≡ pair x.left.node x.left.content.high ∷ pair x.right.node x.right.content.high ∷ []) root pairs_are;
                fit = subst (λ (z : NodeData). Fit z (tree.contents x.right.node)) (sym fl) (subst (λ (z : NodeData). Fit x.left.content z) (sym fr) fit);
                root = subst (λ m. g m ≡ record (joined (tree.contents x.left.node) (tree.contents x.right.node)) { low = (tree.contents m).low; high = (tree.contents m).high }) root (g_n ∙ (λ i. record (joined (sym fl i) (sym fr i)) { low = (sym f_n i).low; high = (sym f_n i).high }));
                others = λ m a b c. rw (ne_eqb m x.above.node (λ e. a (e ∙ root)), ne_eqb m x.left.node b, ne_eqb m x.right.node c) refl;
              }

          change : IsChangeOf tree.contents tree.live x.above.node (group_of x) [] g None (x.above.node ∷ [])
          change = subst (λ m. IsChangeOf tree.contents tree.live m (m ∷ x.left.node ∷ x.right.node ∷ []) [] g None (m ∷ [])) (sym root) (law tree.contents tree.live (pair x.left.node x.left.content.high) (pair x.right.node x.right.content.high) g tree.lawful is_sink)

          parent_differs : g x.above.node ≢ tree.contents x.above.node
          parent_differs e = let same : x.left.content.level ≡ x.above.content.level = ap (λ (z : NodeData). z.level) (sym g_n ∙ (e ∙ f_n)) in let level = hs.level in omega (arith, same, level)

          left_differs : g x.left.node ≢ tree.contents x.left.node
          left_differs e =
              let own = settled_live t x.left.node x.left.content x.left.changed hs.low hs.left in
              never_free t x.left.node x.left.content own.0 0 own.1.1 (ap (λ (z : NodeData). z.body) (sym (left_told t x k hs tree).1 ∙ (sym e ∙ g_l)))

          right_differs : g x.right.node ≢ tree.contents x.right.node
          right_differs e = let same : x.right.content.level + 1 ≡ x.right.content.level = ap (λ (z : NodeData). z.level) (sym g_r ∙ (e ∙ (right_told t x k hs tree).1)) in omega (arith, same)

          low_level : x.right.content.level + 1 < 4294967296
          low_level = let own = settled_live t x.above.node x.above.content x.above.changed hs.upper hs.parent in let h = own.1.1.height root in let a = hs.level in let b = hs.neighbours.level in omega (arith, h, a, b)

          now_low : IsNow hs.low (g x.left.node) (store_in 1 2 (store_in 6 0 hs.low))
          now_low = record { node = refl; mark = refl; settled = refl; spells = spells_freed hs.low.words x.left.content wide_low hs.left.spells ∙ ap Some (sym g_l); stored = refl }

          now_high : IsNow hs.high (g x.right.node) (store_in 2 (x.right.content.level + 1) hs.high)
          now_high = record { node = refl; mark = refl; settled = refl; spells = spells_raised hs.high.words x.right.content (x.right.content.level + 1) wide_high hs.right.spells low_level ∙ ap Some (sym g_r); stored = refl }

          now_upper : IsNow hs.upper (g x.above.node) w.lock
          now_upper = record { node = w.node; mark = w.mark; settled = w.settled; spells = w.spells ∙ ap Some (sym g_n); stored = w.stored x.above.content hs.parent.spells (λ e. parent_differs (g_n ∙ (sym e ∙ sym f_n))) }

          abbrev v6 : Log
          v6 = stored_log x.left.node 1 2 k5.log

          held6 : (stored_log x.left.node 1 2 k5.log).holdings.held ≡ both_of hs.left_first (store_in 1 2 (store_in 6 0 hs.low)) (store_in 2 (x.right.content.level + 1) hs.high) (w.lock ∷ [])
          held6 = ap (edited x.left.node (store_in 1 2)) held5 ∙ edit_low hs.left_first x.left.node (store_in 1 2) (store_in 6 0 hs.low) high4 (w.lock ∷ []) hs.left.node high_far_l (upper_far_l, tt)

          out6 : (stored_log x.left.node 1 2 k5.log).holdings.out ≡ []
          out6 = ap (λ (z : CallerData). z.log.holdings.out) stores5 ∙ (ap (λ (z : CallerData). z.log.holdings.out) stores4 ∙ (w.out ∙ out2))

          on_n : is_among (x.above.node ∷ []) x.above.node ≡ true
          on_n = is_first x.above.node []

          off_l : is_among (x.above.node ∷ []) x.left.node ≡ false
          off_l = not_in x.left.node x.above.node [] apart.left_above refl

          off_r : is_among (x.above.node ∷ []) x.right.node ≡ false
          off_r = not_in x.right.node x.above.node [] apart.right_above refl

          settled6 : settle None (stored_log x.left.node 1 2 k5.log) ≡ record (stored_log x.left.node 1 2 k5.log) {
            holdings = record (stored_log x.left.node 1 2 k5.log).holdings {
              held = both_of hs.left_first (exchange (is_among (group_of x)) (is_among (x.above.node ∷ [])) (store_in 1 2 (store_in 6 0 hs.low))) (exchange (is_among (group_of x)) (is_among (x.above.node ∷ [])) (store_in 2 (x.right.content.level + 1) hs.high)) (record w.lock { settled = g x.above.node; mark = Some (frame_of (g x.above.node)) } ∷ []);
              out = both_left hs.left_first (not (is_among (x.above.node ∷ []) x.left.node)) (not (is_among (x.above.node ∷ []) x.right.node)) x.left.node x.right.node;
            };
          }
          settled6 = settles t x k hs tree laws g (x.above.node ∷ []) change (parent_differs, left_differs, right_differs) (stored_log x.left.node 1 2 k5.log) (store_in 1 2 (store_in 6 0 hs.low)) (store_in 2 (x.right.content.level + 1) hs.high) w.lock held6 out6 now_low now_high now_upper on_n

          frees_it : after_node_store x.left.node 1 2 k5.log ≡ settle None (stored_log x.left.node 1 2 k5.log)
          frees_it = ap (λ b. if b then settle None (stored_log x.left.node 1 2 k5.log) else stored_log x.left.node 1 2 k5.log) (ap is_marked found_low ∙ hs.left.marked)

          log6 : k6.log ≡ settle None (stored_log x.left.node 1 2 k5.log)
          log6 = ap (λ (z : CallerData). z.log) stores6 ∙ frees_it

          out_is : k6.log.holdings.out ≡ both_left hs.left_first true true x.left.node x.right.node
          out_is = ap (λ (z : Log). z.holdings.out) (log6 ∙ settled6) ∙ (λ i. both_left hs.left_first (not (off_l i)) (not (off_r i)) x.left.node x.right.node)

          pub sunk_so : HoldsSunk x k6.log.holdings
          sunk_so =
              let fam = family t x k hs tree in
              let outs = without_two x.left.node x.right.node hs.left_first apart.left_right in record {
                left_first = hs.left_first;
                low = record (store_in 1 2 (store_in 6 0 hs.low)) { settled = g x.left.node; mark = None };
                high = record (store_in 2 (x.right.content.level + 1) hs.high) { settled = g x.right.node; mark = None };
                upper = record w.lock { settled = g x.above.node; mark = Some (frame_of (g x.above.node)) };
                held = ap (λ (z : Log). z.holdings.held) (log6 ∙ settled6)
                    ∙ (λ i. both_of hs.left_first
                    (settled_gone (group_of x) (x.above.node ∷ []) (store_in 1 2 (store_in 6 0 hs.low)) (g x.left.node) (subst (λ m. is_among (group_of x) m ≡ true) (sym hs.left.node) (in_l t x k hs tree)) (subst (λ m. is_among (x.above.node ∷ []) m ≡ false) (sym hs.left.node) off_l) now_low.spells i)
                    (settled_gone (group_of x) (x.above.node ∷ []) (store_in 2 (x.right.content.level + 1) hs.high) (g x.right.node) (subst (λ m. is_among (group_of x) m ≡ true) (sym hs.right.node) (in_r t x k hs tree)) (subst (λ m. is_among (x.above.node ∷ []) m ≡ false) (sym hs.right.node) off_r) now_high.spells i)
                    (record w.lock { settled = g x.above.node; mark = Some (frame_of (g x.above.node)) } ∷ []));
                left = hs.left.node;
                left_gone = refl;
                right = hs.right.node;
                right_gone = refl;
                right_spells = now_high.spells;
                root = upper_node ∙ root;
                content = g_n;
                spells = now_upper.spells;
                stored = now_upper.stored;
                marked = refl;
                no_root = (fam.left.no_root, fam.no_root);
                different = apart.left_right;
                left_out = subst (λ os. IsTrue (is_among os x.left.node)) (sym out_is) outs.0;
                right_out = subst (λ os. IsTrue (is_among (all_but x.left.node os) x.right.node)) (sym out_is) outs.1;
                no_other = ap (λ os. all_but x.right.node (all_but x.left.node os)) out_is ∙ outs.2;
                two_out = ap length out_is ∙ two_left x.left.node x.right.node hs.left_first;
              }

          pub sunk_steps : StepsOnNodes k k6
          sunk_steps =
              let plain4 : StepsOnNodes k3 k4 = steps_so k3 stores4 refl (none_more k3.log.trace.loads) in
              let plain5 : StepsOnNodes k4 k5 = steps_so k4 stores5 refl (none_more k4.log.trace.loads) in
              let plain6 : StepsOnNodes k5 k6 = steps_so k5 (stores6 ∙ ap (λ (z : Log). record k5 { log = z }) (frees_it ∙ settled6)) refl (none_more k5.log.trace.loads) in
              steps_then k k1 k6 (steps_of_load x.left.node 2 seen k k1 loads) (steps_then k1 k2 k6 (steps_of_load x.right.node 2 seen' k1 k2 loads') (steps_then k2 k3 k6 w.same (steps_then k3 k4 k6 plain4 (steps_then k4 k5 k6 plain5 plain6))))
