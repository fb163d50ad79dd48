-- Two children are written as one, and the right one leaves the tree.
use Rattle.std.proofs.Common.{◌≡◌, ℕ, zero, suc, ◌<◌, List, [], ◌∷◌, length, arith, Some, Bool, None, ◌≢◌, length-append, subst, IfSome, ◌⊎◌, inl, sym, IsTrue, IsSome, IsSomeAnd, ◌+◌, refl, ap, ◌∙◌, true, false, not, if◌then◌else◌, cond}
use Rattle.std.proofs.lemmas.Option.{none-some}
use Rattle.std.specs.List.{slice_get}
use Rattle.tree_shape.specs.declared.pair.Pair.{Pair}
use Rattle.tree_laws.specs.Lawful.{IsLawfulTree, IsFilledAs, IsOrderedAs, fewest_pairs}
use Rattle.tree_laws.specs.LocalChange.{IsChangeOf}
use Rattle.tree_laws.specs.Steps.{IsJoin}
use Rattle.tree_laws.specs.Trees.{Contents}
use Rattle.tree_shape.specs.Changes.{FitAs, both, Fit, at_slot, joined, pair, swallow_next}
use Rattle.tree_shape.specs.NodeData.{Body, Pairs, Entries, Link, NodeData, frame_of, pairs_of}
use Rattle.tree_laws.proofs.Halves.{fewest_below}
use Rattle.tree_shape.specs.declared.node.NodeBounds.{NodeBounds}
use Rattle.tree_laws.specs.Numbers.{is_among}
use Rattle.word_rule.specs.NodeTells.{IsLiveNode, HolderTells, IsHeldNode, KnowsTree}
use Rattle.word_rule.specs.declared.log.Terms.{Terms}
use Rattle.word_rule.specs.Held.{held_of, edited, is_marked}
use Rattle.word_rule.specs.declared.log.Holding.{Holding}
use Rattle.word_rule.specs.declared.log.Log.{Log}
use Rattle.word_rule.specs.Steps.{MayStore, after_node_store, store_in, stored_log}
use Rattle.word_rule.specs.CallerData.{CallerData}
use Rattle.word_rule.specs.Exchange.{exchange, settle}
use Rattle.word_rule.specs.SharedWords.{updated}
use Rattle.word_rule.specs.Sights.{after_node_load}
use Rattle.node_store.specs.Writing.{kind_of_body}
use Rattle.node_store.specs.Holding.{SpellsHeld, StoresHeld}
use Rattle.tree_descent.specs.Removing.{IsSpareAs, IsSpare}
use Rattle.tree_descent.specs.Paths.{StepsOnNodes}
use Rattle.tree_descent.proofs.Descents.{steps_of_load}
use Rattle.tree_descent.proofs.Loading.{none_more}
use Rattle.tree_descent.proofs.Settling.{SettlingLaws, settled_gone, settled_group}
use Rattle.tree_descent.proofs.Storing.{IsWrittenAs}
use Rattle.tree_descent.proofs.Lowering.{settled_live}
use Rattle.tree_descent.proofs.HeldLists.{found_head, is_first}
use Rattle.tree_descent.proofs.NodeSteps.{steps_so, steps_then}
use Rattle.node_mend.specs.Siblings.{HoldsGone, HoldsSiblings, both_of}
use Rattle.node_mend.specs.declared.sibling.Siblings.{Siblings}
use Rattle.node_mend.proofs.Pairings.{AreThree, AreWritten, IsNow, are_written, at_slot_is, both_high, both_left, both_low, both_more, family, group_of, in_l, in_r, later, next_slot_is, not_in, parent_told, settles, three}
use Rattle.node_mend.proofs.Written.{edit_high, spells_freed, write_low, write_upper}

-- what is found in a list has a place there
pub inside_of : (xs : List Pair) (i : ℕ) (p : Pair) → slice_get xs i ≡ Some p → i < length xs
inside_of [] zero p e = absurd (none-some p e)
inside_of [] (suc i) p e = absurd (none-some p e)
inside_of (x ∷ xs) zero p e = omega arith
inside_of (x ∷ xs) (suc i) p e = let l = inside_of xs i p e in omega (arith, l)

abbrev pub JoinLaw : Type 0
JoinLaw = (f : Contents) (live : ℕ → Bool) (parent slot : ℕ) (p q : Pair) (g : Contents) → IsLawfulTree f live → IsJoin f live parent slot p q g → IsChangeOf f live parent (parent ∷ p.child ∷ q.child ∷ []) [] g None (parent ∷ p.child ∷ [])

pub fits_no_free : (b c : Body) → FitAs b c → kind_of_body (both b c) ≢ 2
fits_no_free (Pairs left) (Pairs right) fit e = omega (arith, e)
fits_no_free (Pairs left) (Entries right) fit e = absurd fit
fits_no_free (Pairs left) (Link next) fit e = absurd fit
fits_no_free (Entries left) (Pairs right) fit e = absurd fit
fits_no_free (Entries left) (Entries right) fit e = omega (arith, e)
fits_no_free (Entries left) (Link next) fit e = absurd fit
fits_no_free (Link next) c fit e = absurd fit

-- what two nodes below the root hold together is more than the fewest
join_spare : (l r : ℕ) (b c : Body) → l ≢ 0 → r ≢ 0 → FitAs b c → IsFilledAs l b → IsFilledAs r c → IsSpareAs (both b c)
join_spare l r (Pairs left) (Pairs right) nl nr fit fl fr = let a = (fewest_below l nl).1 in let z = (fewest_below r nr).1 in let p = fl.0 in let q = fr.0 in let len = length-append left right in omega (arith, a, z, p, q, len)
join_spare l r (Pairs left) (Entries right) nl nr fit fl fr = absurd fit
join_spare l r (Pairs left) (Link next) nl nr fit fl fr = absurd fit
join_spare l r (Entries left) (Pairs right) nl nr fit fl fr = absurd fit
join_spare l r (Entries left) (Entries right) nl nr fit fl fr = let a = (fewest_below l nl).0 in let z = (fewest_below r nr).0 in let p = fl.0 in let q = fr.0 in let len = length-append left right in omega (arith, a, z, p, q, len)
join_spare l r (Entries left) (Link next) nl nr fit fl fr = absurd fit
join_spare l r (Link next) c nl nr fit fl fr = absurd fit

pub spare_of : (n : ℕ) (s : NodeData) → IsSpareAs s.body → IsSpare n s
spare_of zero s spare = tt
spare_of (suc n) s spare = spare

-- a node of a tree is no free one
pub never_free : (t : Terms) (n : ℕ) (s : NodeData) (f : NodeBounds) (next : ℕ) → IsLiveNode t n s f → s.body ≢ Link next
never_free t n s f next live e = subst (IsOrderedAs s) e live.ordered

pub wide_of : (t : Terms) (n : ℕ) (h : Holding) (v : Log) → held_of n v.holdings.held ≡ Some h → HolderTells n v → length h.words ≡ 35
wide_of t n h v found tells = (subst (λ o. IfSome o (IsHeldNode v.terms)) found tells).wide

pub may_store : (n : ℕ) (h : Holding) (v : Log) → held_of n v.holdings.held ≡ Some h → IsSome h.mark → MayStore n v
may_store n h v found marked = subst (λ o. IsSomeAnd o (λ (a : Holding). IsSome a.mark ⊎ IsTrue (is_among v.holdings.out n))) (sym found) (inl marked)

module _ (t : Terms) (x : Siblings) (k k1 : CallerData) (found : ℕ) (hs : HoldsSiblings t x k.log.holdings) (tree : KnowsTree k.log.holdings) (holder : HolderTells x.right.node k.log) (loads : k1 ≡ record k { log = after_node_load x.right.node 2 found k.log })
    (fit : Fit x.left.content x.right.content) where
  abbrev one : NodeData
  one = joined x.left.content x.right.content

  abbrev less : NodeData
  less = record x.above.content { body = Pairs (at_slot swallow_next x.slot (pairs_of x.above.content)) }

  abbrev gone : NodeData
  gone = record x.right.content { body = Link 0 }

  held1 : k1.log.holdings.held ≡ both_of hs.left_first hs.low hs.high (hs.upper ∷ [])
  held1 = ap (λ (z : CallerData). z.log.holdings.held) loads ∙ hs.held

  out1 : k1.log.holdings.out ≡ []
  out1 = ap (λ (z : CallerData). z.log.holdings.out) loads ∙ hs.out

  apart : AreThree x.left.node x.right.node x.above.node
  apart = three t x k hs tree

  pub may_low : MayStore x.left.node k1.log
  may_low = may_store x.left.node hs.low k1.log (ap (held_of x.left.node) held1 ∙ both_low hs.left_first hs.low hs.high (hs.upper ∷ []) x.left.node hs.left.node (λ e. apart.left_right (sym (sym hs.right.node ∙ e)))) hs.left.marked

  module _ (k2 : CallerData) (writes1 : StoresHeld x.left.node (joined x.left.content x.right.content) k1 k2) (spells1 : SpellsHeld x.left.node (joined x.left.content x.right.content) k2.log) where
    w1 : IsWrittenAs (joined x.left.content x.right.content) hs.low (λ z. both_of hs.left_first z hs.high (hs.upper ∷ [])) k1 k2
    w1 = write_low hs.left_first one x.left.node hs.low hs.high (hs.upper ∷ []) k1 k2 (fits_no_free x.left.content.body x.right.content.body fit) hs.left.node (λ e. apart.left_right (sym (sym hs.right.node ∙ e))) ((λ e. apart.left_above (sym (sym hs.parent.node ∙ e))), tt) held1 writes1 spells1

    low_node : w1.lock.node ≡ x.left.node
    low_node = w1.node ∙ hs.left.node

    pub may_upper : MayStore x.above.node k2.log
    may_upper = may_store x.above.node hs.upper k2.log (ap (held_of x.above.node) w1.held ∙ (both_more hs.left_first w1.lock hs.high (hs.upper ∷ []) x.above.node (λ e. apart.left_above (sym low_node ∙ e)) (λ e. apart.right_above (sym hs.right.node ∙ e)) ∙ found_head x.above.node hs.upper [] hs.parent.node)) hs.parent.marked

    module _ (k3 : CallerData) (writes2 : StoresHeld x.above.node (record x.above.content { body = Pairs (at_slot swallow_next x.slot (pairs_of x.above.content)) }) k2 k3) (spells2 : SpellsHeld x.above.node (record x.above.content { body = Pairs (at_slot swallow_next x.slot (pairs_of x.above.content)) }) k3.log) where
      w2 : IsWrittenAs (record x.above.content { body = Pairs (at_slot swallow_next x.slot (pairs_of x.above.content)) }) hs.upper (λ z. both_of hs.left_first w1.lock hs.high (z ∷ [])) k2 k3
      w2 = write_upper hs.left_first less x.above.node w1.lock hs.high hs.upper k2 k3 (λ e. omega (arith, e)) hs.parent.node (λ e. apart.left_above (sym low_node ∙ e)) (λ e. apart.right_above (sym hs.right.node ∙ e)) w1.held writes2 spells2

      upper_node : w2.lock.node ≡ x.above.node
      upper_node = w2.node ∙ hs.parent.node

      pub table3 : k3.table ≡ k.table
      table3 = w2.same.calls.caller.table ∙ (w1.same.calls.caller.table ∙ ap (λ (z : CallerData). z.table) loads)

      found_right : (high : Holding) (hs' : List Holding) → high.node ≡ x.right.node → hs' ≡ both_of hs.left_first w1.lock high (w2.lock ∷ []) → held_of x.right.node hs' ≡ Some high
      found_right high hs' is held = ap (held_of x.right.node) held ∙ both_high hs.left_first w1.lock high (w2.lock ∷ []) x.right.node is (λ e. apart.left_right (sym low_node ∙ e))

      pub may_link : MayStore x.right.node k3.log
      may_link = may_store x.right.node hs.high k3.log (found_right hs.high k3.log.holdings.held hs.right.node w2.held) hs.right.marked

      module _ (k4 : CallerData) (stores4 : k4 ≡ record k3 { log = after_node_store x.right.node 6 0 k3.log }) where
        held4 : k4.log.holdings.held ≡ both_of hs.left_first w1.lock (store_in 6 0 hs.high) (w2.lock ∷ [])
        held4 = ap (λ (z : CallerData). z.log.holdings.held) stores4 ∙ (ap (edited x.right.node (store_in 6 0)) w2.held ∙ edit_high hs.left_first x.right.node (store_in 6 0) w1.lock hs.high (w2.lock ∷ []) hs.right.node (λ e. apart.left_right (sym low_node ∙ e)) ((λ e. apart.right_above (sym (sym upper_node ∙ e))), tt))

        pub table4 : k4.table ≡ k.table
        table4 = ap (λ (z : CallerData). z.table) stores4 ∙ table3

        pub may_free : MayStore x.right.node k4.log
        may_free = may_store x.right.node (store_in 6 0 hs.high) k4.log (found_right (store_in 6 0 hs.high) k4.log.holdings.held hs.right.node held4) hs.right.marked

        module _ (laws : SettlingLaws) (law : JoinLaw) (spare : fewest_pairs x.above.node < length (pairs_of x.above.content)) (k5 : CallerData) (stores5 : k5 ≡ record k4 { log = after_node_store x.right.node 1 2 k4.log }) where
          abbrev f : Contents
          f = tree.contents

          abbrev g : Contents
          g = updated (updated (updated tree.contents x.right.node (record x.right.content { body = Link 0 })) x.above.node (record x.above.content { body = Pairs (at_slot swallow_next x.slot (pairs_of x.above.content)) })) x.left.node (joined x.left.content x.right.content)

          written : AreWritten x tree.contents g one less gone
          written = are_written t x k hs tree one less gone

          is_join : IsJoin f tree.live x.above.node x.slot (pair x.left.node x.left.content.high) (pair x.right.node x.right.content.high) g
          is_join = record {
            live_parent = (parent_told t x k hs tree).0;
            at = at_slot_is t x k hs tree;
            next = next_slot_is t x k hs tree;
            spare = subst (λ (z : NodeData). fewest_pairs x.above.node < length (pairs_of z)) (sym written.was_above) spare;
            fit = subst (λ (z : NodeData). Fit z (f x.right.node)) (sym written.was_left) (subst (λ (z : NodeData). Fit x.left.content z) (sym written.was_right) fit);
            above = written.above ∙ ap (λ (z : NodeData). record z { body = Pairs (at_slot swallow_next x.slot (pairs_of z)) }) (sym written.was_above);
            left = written.left ∙ (λ i. joined (sym written.was_left i) (sym written.was_right i));
            others = written.others;
          }

          change : IsChangeOf f tree.live x.above.node (group_of x) [] g None (x.above.node ∷ x.left.node ∷ [])
          change = law f tree.live x.above.node x.slot (pair x.left.node x.left.content.high) (pair x.right.node x.right.content.high) g tree.lawful is_join

          parent_differs : g x.above.node ≢ f x.above.node
          parent_differs e =
              let fam = family t x k hs tree in
              let shorter : length (pairs_of (g x.above.node)) ≡ length fam.front + suc (length fam.back) = ap (λ (z : NodeData). length (pairs_of z)) written.above ∙ (ap (λ (z : NodeData). length (at_slot swallow_next x.slot (pairs_of z))) (sym written.was_above) ∙ (ap length (fam.changed swallow_next) ∙ length-append fam.front (pair x.left.node x.right.content.high ∷ fam.back))) in
              let same = ap (λ (z : NodeData). length (pairs_of z)) e in
              let count = fam.count in
              omega (arith, shorter, same, count)

          left_differs : g x.left.node ≢ f x.left.node
          left_differs e =
              let same : x.right.content.high ≡ x.left.content.high = ap (λ (z : NodeData). z.high) (sym written.left ∙ (e ∙ written.was_left)) in
              let less_high = (family t x k hs tree).right_order in
              omega (arith, same, less_high)

          right_differs : g x.right.node ≢ f x.right.node
          right_differs e =
              let own = settled_live t x.right.node x.right.content x.right.changed hs.high hs.right in
              never_free t x.right.node x.right.content own.0 0 own.1.1 (ap (λ (z : NodeData). z.body) (sym written.was_right ∙ (sym e ∙ written.right)))

          abbrev freed : Holding
          freed = store_in 1 2 (store_in 6 0 hs.high)

          held5 : (stored_log x.right.node 1 2 k4.log).holdings.held ≡ both_of hs.left_first w1.lock (store_in 1 2 (store_in 6 0 hs.high)) (w2.lock ∷ [])
          held5 = ap (edited x.right.node (store_in 1 2)) held4 ∙ edit_high hs.left_first x.right.node (store_in 1 2) w1.lock (store_in 6 0 hs.high) (w2.lock ∷ []) hs.right.node (λ e. apart.left_right (sym low_node ∙ e)) ((λ e. apart.right_above (sym (sym upper_node ∙ e))), tt)

          out5 : (stored_log x.right.node 1 2 k4.log).holdings.out ≡ []
          out5 = ap (λ (z : CallerData). z.log.holdings.out) stores4 ∙ (w2.out ∙ (w1.out ∙ out1))

          wide : length hs.high.words ≡ 35
          wide = wide_of t x.right.node hs.high k.log (ap (held_of x.right.node) hs.held ∙ both_high hs.left_first hs.low hs.high (hs.upper ∷ []) x.right.node hs.right.node (λ e. apart.left_right (sym hs.left.node ∙ e))) holder

          now_low : IsNow hs.low (g x.left.node) w1.lock
          now_low = record { node = w1.node; mark = w1.mark; settled = w1.settled; spells = w1.spells ∙ ap Some (sym written.left); stored = w1.stored x.left.content hs.left.spells (λ e. left_differs (written.left ∙ (sym e ∙ sym written.was_left))) }

          now_upper : IsNow hs.upper (g x.above.node) w2.lock
          now_upper = record { node = w2.node; mark = w2.mark; settled = w2.settled; spells = w2.spells ∙ ap Some (sym written.above); stored = w2.stored x.above.content hs.parent.spells (λ e. parent_differs (written.above ∙ (sym e ∙ sym written.was_above))) }

          now_high : IsNow hs.high (g x.right.node) (store_in 1 2 (store_in 6 0 hs.high))
          now_high = record { node = refl; mark = refl; settled = refl; spells = spells_freed hs.high.words x.right.content wide hs.right.spells ∙ ap Some (sym written.right); stored = refl }

          on_n : is_among (x.above.node ∷ x.left.node ∷ []) x.above.node ≡ true
          on_n = is_first x.above.node (x.left.node ∷ [])

          on_l : is_among (x.above.node ∷ x.left.node ∷ []) x.left.node ≡ true
          on_l = later x.left.node x.above.node (x.left.node ∷ []) (is_first x.left.node [])

          off_r : is_among (x.above.node ∷ x.left.node ∷ []) x.right.node ≡ false
          off_r = not_in x.right.node x.above.node (x.left.node ∷ []) apart.right_above (not_in x.right.node x.left.node [] (λ e. apart.left_right (sym e)) refl)

          settled5 : settle None (stored_log x.right.node 1 2 k4.log) ≡ record (stored_log x.right.node 1 2 k4.log) {
            holdings = record k4.log.holdings {
              held = both_of hs.left_first (exchange (is_among (group_of x)) (is_among (x.above.node ∷ x.left.node ∷ [])) w1.lock) (exchange (is_among (group_of x)) (is_among (x.above.node ∷ x.left.node ∷ [])) (store_in 1 2 (store_in 6 0 hs.high))) (record w2.lock { settled = g x.above.node; mark = Some (frame_of (g x.above.node)) } ∷ []);
              out = both_left hs.left_first (not (is_among (x.above.node ∷ x.left.node ∷ []) x.left.node)) (not (is_among (x.above.node ∷ x.left.node ∷ []) x.right.node)) x.left.node x.right.node;
            };
          }
          settled5 = settles t x k hs tree laws g (x.above.node ∷ x.left.node ∷ []) change (parent_differs, left_differs, right_differs) (stored_log x.right.node 1 2 k4.log) w1.lock (store_in 1 2 (store_in 6 0 hs.high)) w2.lock held5 out5 now_low now_high now_upper on_n

          frees_it : after_node_store x.right.node 1 2 k4.log ≡ settle None (stored_log x.right.node 1 2 k4.log)
          frees_it = ap (λ b. if b then settle None (stored_log x.right.node 1 2 k4.log) else stored_log x.right.node 1 2 k4.log) (ap is_marked (found_right (store_in 6 0 hs.high) k4.log.holdings.held hs.right.node held4) ∙ hs.right.marked)

          log5 : k5.log ≡ settle None (stored_log x.right.node 1 2 k4.log)
          log5 = ap (λ (z : CallerData). z.log) stores5 ∙ frees_it

          one_out : (b : Bool) (c d : Bool) → c ≡ false → d ≡ true → both_left b c d x.left.node x.right.node ≡ x.right.node ∷ []
          one_out true c d e h = (λ i. cond (e i) (x.left.node ∷ cond (h i) (x.right.node ∷ []) []) (cond (h i) (x.right.node ∷ []) []))
          one_out false c d e h = (λ i. cond (h i) (x.right.node ∷ cond (e i) (x.left.node ∷ []) []) (cond (e i) (x.left.node ∷ []) []))

          pub joined_so : HoldsGone t x k5.log.holdings
          joined_so =
              let fam = family t x k hs tree in
              let own = settled_live t x.left.node x.left.content x.left.changed hs.low hs.left in
              let other = settled_live t x.right.node x.right.content x.right.changed hs.high hs.right in record {
                left_first = hs.left_first;
                low = record w1.lock { settled = g x.left.node; mark = Some (frame_of (g x.left.node)) };
                high = record freed { settled = g x.right.node; mark = None };
                upper = record w2.lock { settled = g x.above.node; mark = Some (frame_of (g x.above.node)) };
                held = ap (λ (z : Log). z.holdings.held) (log5 ∙ settled5)
                    ∙ (λ i. both_of hs.left_first
                    (settled_group (group_of x) (x.above.node ∷ x.left.node ∷ []) w1.lock (g x.left.node) (subst (λ m. is_among (group_of x) m ≡ true) (sym low_node) (in_l t x k hs tree)) (subst (λ m. is_among (x.above.node ∷ x.left.node ∷ []) m ≡ true) (sym low_node) on_l) now_low.spells i)
                    (settled_gone (group_of x) (x.above.node ∷ x.left.node ∷ []) freed (g x.right.node) (subst (λ m. is_among (group_of x) m ≡ true) (sym hs.right.node) (in_r t x k hs tree)) (subst (λ m. is_among (x.above.node ∷ x.left.node ∷ []) m ≡ false) (sym hs.right.node) off_r) now_high.spells i)
                    (record w2.lock { settled = g x.above.node; mark = Some (frame_of (g x.above.node)) } ∷ []));
                out = ap (λ (z : Log). z.holdings.out) (log5 ∙ settled5) ∙ one_out hs.left_first (not (is_among (x.above.node ∷ x.left.node ∷ []) x.left.node)) (not (is_among (x.above.node ∷ x.left.node ∷ []) x.right.node)) (ap not on_l) (ap not off_r);
                left = low_node;
                content = written.left;
                spells = now_low.spells;
                stored = now_low.stored;
                marked = refl;
                right = hs.right.node;
                gone = refl;
                parent = upper_node;
                parent_spells = now_upper.spells;
                parent_stored = now_upper.stored;
                no_parent = (apart.left_above, apart.right_above);
                different = apart.left_right;
                spare = spare_of x.left.node one (join_spare x.left.node x.right.node x.left.content.body x.right.content.body fam.left.no_root fam.no_root fit own.1.1.filled other.1.1.filled);
              }

          pub joined_steps : StepsOnNodes k k5
          joined_steps =
              let plain4 : StepsOnNodes k3 k4 = steps_so k3 stores4 refl (none_more k3.log.trace.loads) in
              let plain5 : StepsOnNodes k4 k5 = steps_so k4 (stores5 ∙ ap (λ (z : Log). record k4 { log = z }) (frees_it ∙ settled5)) refl (none_more k4.log.trace.loads) in
              steps_then k k1 k5 (steps_of_load x.right.node 2 found k k1 loads) (steps_then k1 k2 k5 w1.same (steps_then k2 k3 k5 w2.same (steps_then k3 k4 k5 plain4 plain5)))
