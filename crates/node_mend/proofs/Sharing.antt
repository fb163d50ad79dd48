-- Two children are given even shares, and the one that hasn't the address is let go of.
use Rattle.std.proofs.Common.{ℕ, [], ◌∷◌, Bool, None, ◌≡◌, ◌⊎◌, inl, inr, ◌≢◌, ◌+◌, ◌<◌, ◌||◌, List, ◌++◌, sym, refl, ap, ◌∙◌, subst, arith, true, false, not, IsTrue, Some, IsSome, cond}
use Rattle.std.proofs.lemmas.List.{append_cancel_left}
use Rattle.std.proofs.lemmas.Option.{same_Some}
use Rattle.std.specs.List.{slice_get}
use Rattle.tree_laws.specs.Lawful.{IsLawfulTree}
use Rattle.tree_laws.specs.LocalChange.{IsChangeOf}
use Rattle.tree_laws.specs.Steps.{IsShare}
use Rattle.tree_laws.specs.Trees.{Contents}
use Rattle.tree_shape.specs.declared.pair.Pair.{Pair}
use Rattle.tree_shape.specs.Changes.{Overfill, at_slot, first_half, joined, last_half, pair, separate_at, share_of, size}
use Rattle.tree_shape.specs.NodeData.{NodeData, Pairs, IsInFences, frame_of, pairs_of}
use Rattle.tree_laws.specs.Numbers.{is_among}
use Rattle.word_rule.specs.CallerData.{CallerData}
use Rattle.word_rule.specs.Exchange.{settle}
use Rattle.word_rule.specs.Held.{held_of}
use Rattle.word_rule.specs.Logs.{after_spending}
use Rattle.word_rule.specs.SharedWords.{updated}
use Rattle.word_rule.specs.NodeTells.{HolderTells, KnowsTree}
use Rattle.word_rule.specs.Sights.{after_node_load}
use Rattle.word_rule.specs.Steps.{MayRelease, MayStore, after_node_release, after_node_release_same}
use Rattle.word_rule.specs.declared.log.Holding.{Holding}
use Rattle.word_rule.specs.declared.log.Log.{Log}
use Rattle.word_rule.specs.declared.log.Terms.{Terms}
use Rattle.node_store.specs.Holding.{SpellsHeld, StoresHeld}
use Rattle.tree_descent.specs.Paths.{StepsOnNodes}
use Rattle.tree_descent.specs.Releases.{Spends, with_release_less}
use Rattle.tree_descent.specs.Removing.{IsSpareAs}
use Rattle.tree_descent.proofs.Descents.{steps_of_load}
use Rattle.tree_descent.proofs.Loading.{none_more}
use Rattle.tree_descent.proofs.Settling.{SettlingLaws, may_release, settled_group}
use Rattle.tree_descent.proofs.Spending.{spends_one, spends_same, steps_after}
use Rattle.tree_descent.proofs.Storing.{IsWrittenAs}
use Rattle.tree_descent.proofs.Lowering.{settled_live}
use Rattle.tree_descent.proofs.HeldLists.{found_head}
use Rattle.tree_descent.proofs.NodeSteps.{steps_so, steps_then}
use Rattle.node_mend.specs.Shares.{IsChosen, shares_for}
use Rattle.node_mend.specs.declared.mending.Chosen.{Chosen}
use Rattle.node_mend.specs.declared.sibling.Siblings.{Siblings}
use Rattle.node_mend.specs.Siblings.{HoldsSiblings, IsInEither, MendsSiblings, both_of, is_small_body}
use Rattle.node_mend.proofs.Joining.{may_store, spare_of}
use Rattle.node_mend.proofs.Mended.{AreSettled, loaded_none, settled_as, under_so, without_high, without_low}
use Rattle.node_mend.proofs.Pairings.{AreThree, AreWritten, IsNow, are_written, at_slot_is, both_high, both_left, both_low, both_more, family, group_of, held_change, in_l, in_n, in_r, next_slot_is, parent_told, settles, three}
use Rattle.node_mend.proofs.ShareEnds.{fence_moves, share_kinds, share_moves, share_sizes, share_spares}
use Rattle.node_mend.proofs.Written.{write_high, write_low, write_upper}

abbrev pub ShareLaw : Type 0
ShareLaw = (f : Contents) (live : ℕ → Bool) (parent slot : ℕ) (p q : Pair) (g : Contents) → IsLawfulTree f live → IsShare f live parent slot p q g → IsChangeOf f live parent (parent ∷ p.child ∷ q.child ∷ []) [] g None (parent ∷ p.child ∷ q.child ∷ [])

-- the other one is one of the two
pub others_of : (x : Siblings) (pc : ℕ) (c : Chosen) → IsChosen x pc c → (c.other ≡ x.left.node) ⊎ (c.other ≡ x.right.node)
others_of x pc c (inl (node, other, below)) = inr other
others_of x pc c (inr (node, other, above)) = inl other

module _ (t : Terms) (x : Siblings) (k k1 : CallerData) (found : ℕ) (hs : HoldsSiblings t x k.log.holdings) (tree : KnowsTree k.log.holdings) (loads : k1 ≡ record k { log = after_node_load x.above.node 2 found k.log })
    (over : Overfill x.left.content x.right.content) where
  held1 : k1.log.holdings.held ≡ both_of hs.left_first hs.low hs.high (hs.upper ∷ [])
  held1 = ap (λ (z : CallerData). z.log.holdings.held) loads ∙ hs.held

  apart : AreThree x.left.node x.right.node x.above.node
  apart = three t x k hs tree

  high_far_l : hs.high.node ≢ x.left.node
  high_far_l e = apart.left_right (sym (sym hs.right.node ∙ e))

  pub may_left : MayStore x.left.node k1.log
  may_left = may_store x.left.node hs.low k1.log (ap (held_of x.left.node) held1 ∙ both_low hs.left_first hs.low hs.high (hs.upper ∷ []) x.left.node hs.left.node high_far_l) hs.left.marked

  module _ (k2 : CallerData) (writes1 : StoresHeld x.left.node (shares_for x).left k1 k2) (spells1 : SpellsHeld x.left.node (shares_for x).left k2.log) where
    w1 : IsWrittenAs (shares_for x).left hs.low (λ z. both_of hs.left_first z hs.high (hs.upper ∷ [])) k1 k2
    w1 = write_low hs.left_first (shares_for x).left x.left.node hs.low hs.high (hs.upper ∷ []) k1 k2 (share_kinds x.left.content.body x.right.content.body over).0 hs.left.node high_far_l ((λ e. apart.left_above (sym (sym hs.parent.node ∙ e))), tt) held1 writes1 spells1

    low_node : w1.lock.node ≡ x.left.node
    low_node = w1.node ∙ hs.left.node

    low_far_r : w1.lock.node ≢ x.right.node
    low_far_r e = apart.left_right (sym low_node ∙ e)

    pub may_right : MayStore x.right.node k2.log
    may_right = may_store x.right.node hs.high k2.log (ap (held_of x.right.node) w1.held ∙ both_high hs.left_first w1.lock hs.high (hs.upper ∷ []) x.right.node hs.right.node low_far_r) hs.right.marked

    module _ (k3 : CallerData) (writes2 : StoresHeld x.right.node (shares_for x).right k2 k3) (spells2 : SpellsHeld x.right.node (shares_for x).right k3.log) where
      w2 : IsWrittenAs (shares_for x).right hs.high (λ z. both_of hs.left_first w1.lock z (hs.upper ∷ [])) k2 k3
      w2 = write_high hs.left_first (shares_for x).right x.right.node w1.lock hs.high (hs.upper ∷ []) k2 k3 (share_kinds x.left.content.body x.right.content.body over).1 hs.right.node low_far_r ((λ e. apart.right_above (sym (sym hs.parent.node ∙ e))), tt) w1.held writes2 spells2

      high_node : w2.lock.node ≡ x.right.node
      high_node = w2.node ∙ hs.right.node

      pub table3 : k3.table ≡ k.table
      table3 = w2.same.calls.caller.table ∙ (w1.same.calls.caller.table ∙ ap (λ (z : CallerData). z.table) loads)

      pub may_above : MayStore x.above.node k3.log
      may_above = may_store x.above.node hs.upper k3.log (ap (held_of x.above.node) w2.held ∙ (both_more hs.left_first w1.lock w2.lock (hs.upper ∷ []) x.above.node (λ e. apart.left_above (sym low_node ∙ e)) (λ e. apart.right_above (sym high_node ∙ e)) ∙ found_head x.above.node hs.upper [] hs.parent.node)) hs.parent.marked

      module _ (k4 : CallerData) (writes3 : StoresHeld x.above.node (shares_for x).above k3 k4) (spells3 : SpellsHeld x.above.node (shares_for x).above k4.log)
          (laws : SettlingLaws) (law : ShareLaw) (small : IsTrue (is_small_body x.left.content.body || is_small_body x.right.content.body)) where
        w3 : IsWrittenAs (shares_for x).above hs.upper (λ z. both_of hs.left_first w1.lock w2.lock (z ∷ [])) k3 k4
        w3 = write_upper hs.left_first (shares_for x).above x.above.node w1.lock w2.lock hs.upper k3 k4 (λ e. omega (arith, e)) hs.parent.node (λ e. apart.left_above (sym low_node ∙ e)) (λ e. apart.right_above (sym high_node ∙ e)) w2.held writes3 spells3

        upper_node : w3.lock.node ≡ x.above.node
        upper_node = w3.node ∙ hs.parent.node

        pub steps4 : StepsOnNodes k k4
        steps4 = steps_then k k1 k4 (steps_of_load x.above.node 2 found k k1 loads) (steps_then k1 k2 k4 w1.same (steps_then k2 k3 k4 w2.same w3.same))

        abbrev f : Contents
        f = tree.contents

        abbrev g : Contents
        g = updated (updated (updated tree.contents x.right.node (shares_for x).right) x.above.node (shares_for x).above) x.left.node (shares_for x).left

        written : AreWritten x tree.contents g (shares_for x).left (shares_for x).above (shares_for x).right
        written = are_written t x k hs tree (shares_for x).left (shares_for x).above (shares_for x).right

        is_share : IsShare f tree.live x.above.node x.slot (pair x.left.node x.left.content.high) (pair x.right.node x.right.content.high) g
        is_share = record {
          live_parent = (parent_told t x k hs tree).0;
          at = at_slot_is t x k hs tree;
          next = next_slot_is t x k hs tree;
          overfill = subst (λ (z : NodeData). Overfill z (f x.right.node)) (sym written.was_left) (subst (λ (z : NodeData). Overfill x.left.content z) (sym written.was_right) over);
          above = written.above ∙ (λ i. record (sym written.was_above i) { body = Pairs (at_slot (separate_at (first_half (share_of (sym written.was_left i) (sym written.was_right i)) (joined (sym written.was_left i) (sym written.was_right i))).high) x.slot (pairs_of (sym written.was_above i))) });
          left = written.left ∙ (λ i. first_half (share_of (sym written.was_left i) (sym written.was_right i)) (joined (sym written.was_left i) (sym written.was_right i)));
          right = written.right ∙ (λ i. last_half (share_of (sym written.was_left i) (sym written.was_right i)) (joined (sym written.was_left i) (sym written.was_right i)));
          others = written.others;
        }

        change : IsChangeOf f tree.live x.above.node (group_of x) [] g None (group_of x)
        change = law f tree.live x.above.node x.slot (pair x.left.node x.left.content.high) (pair x.right.node x.right.content.high) g tree.lawful is_share

        moved : ((share_of x.left.content x.right.content) < size x.left.content.body) ⊎ (size x.left.content.body < (share_of x.left.content x.right.content))
        moved = share_moves x.left.content.body x.right.content.body over small

        not_same : (a b : ℕ) → (a < b) ⊎ (b < a) → a ≢ b
        not_same a b (inl less) e = omega (arith, less, e)
        not_same a b (inr more) e = omega (arith, more, e)

        left_differs : g x.left.node ≢ f x.left.node
        left_differs e =
            let same : size (shares_for x).left.body ≡ size x.left.content.body = ap (λ (z : NodeData). size z.body) (sym written.left ∙ (e ∙ written.was_left)) in
            not_same (share_of x.left.content x.right.content) (size x.left.content.body) moved (sym (share_sizes x.left.content.body x.right.content.body over).0 ∙ same)

        right_differs : g x.right.node ≢ f x.right.node
        right_differs e =
            let same : size (shares_for x).right.body ≡ size x.right.content.body = ap (λ (z : NodeData). size z.body) (sym written.right ∙ (e ∙ written.was_right)) in
            let sum = (share_sizes x.left.content.body x.right.content.body over).1 in
            not_same (share_of x.left.content x.right.content) (size x.left.content.body) moved (omega (arith, same, sum))

        parent_differs : g x.above.node ≢ f x.above.node
        parent_differs e =
            let fam = family t x k hs tree in
            let own = settled_live t x.left.node x.left.content x.left.changed hs.low hs.left in
            let other = settled_live t x.right.node x.right.content x.right.changed hs.high hs.right in
            let before : pairs_of (f x.above.node) ≡ fam.front ++ pair x.left.node (shares_for x).left.high ∷ pair x.right.node x.right.content.high ∷ fam.back = ap pairs_of (sym e ∙ written.above) ∙ (ap (λ (z : NodeData). at_slot (separate_at (shares_for x).left.high) x.slot (pairs_of z)) (sym written.was_above) ∙ fam.changed (separate_at (shares_for x).left.high)) in
            let tail = append_cancel_left fam.front _ _ (sym before ∙ fam.is) in
            let first : pair x.left.node (shares_for x).left.high ≡ pair x.left.node x.left.content.high = same_Some _ _ (ap (λ (ps : List Pair). slice_get ps 0) tail) in
            fence_moves x.left.content x.right.content x.left.content.body x.right.content.body own.1.1.ordered other.1.1.ordered hs.neighbours.fence over moved (ap (λ (z : Pair). z.separator) first)

        now_low : IsNow hs.low (g x.left.node) w1.lock
        now_low = record { node = w1.node; mark = w1.mark; settled = w1.settled; spells = w1.spells ∙ ap Some (sym written.left); stored = w1.stored x.left.content hs.left.spells (λ e. left_differs (written.left ∙ (sym e ∙ sym written.was_left))) }

        now_high : IsNow hs.high (g x.right.node) w2.lock
        now_high = record { node = w2.node; mark = w2.mark; settled = w2.settled; spells = w2.spells ∙ ap Some (sym written.right); stored = w2.stored x.right.content hs.right.spells (λ e. right_differs (written.right ∙ (sym e ∙ sym written.was_right))) }

        now_upper : IsNow hs.upper (g x.above.node) w3.lock
        now_upper = record { node = w3.node; mark = w3.mark; settled = w3.settled; spells = w3.spells ∙ ap Some (sym written.above); stored = w3.stored x.above.content hs.parent.spells (λ e. parent_differs (written.above ∙ (sym e ∙ sym written.was_above))) }

        out4 : k4.log.holdings.out ≡ []
        out4 = w3.out ∙ (w2.out ∙ (w1.out ∙ (ap (λ (z : CallerData). z.log.holdings.out) loads ∙ hs.out)))

        on_n : is_among (group_of x) x.above.node ≡ true
        on_n = in_n t x k hs tree

        pub may_leave : (m : ℕ) → (m ≡ x.left.node) ⊎ (m ≡ x.right.node) → MayRelease m k4.log
        may_leave m (inl e) = may_release laws k4.log f tree.live x.above.node (group_of x) [] g (group_of x) (held_change t x k hs tree laws g (group_of x) change (parent_differs, left_differs, right_differs) k4.log w1.lock w2.lock w3.lock w3.held out4 now_low now_high now_upper on_n) m w1.lock
            (ap (held_of m) w3.held ∙ both_low hs.left_first w1.lock w2.lock (w3.lock ∷ []) m (low_node ∙ sym e) (λ z. apart.left_right (sym (sym high_node ∙ (z ∙ e))))) (subst IsSome (sym now_low.spells) refl)
        may_leave m (inr e) = may_release laws k4.log f tree.live x.above.node (group_of x) [] g (group_of x) (held_change t x k hs tree laws g (group_of x) change (parent_differs, left_differs, right_differs) k4.log w1.lock w2.lock w3.lock w3.held out4 now_low now_high now_upper on_n) m w2.lock
            (ap (held_of m) w3.held ∙ both_high hs.left_first w1.lock w2.lock (w3.lock ∷ []) m (high_node ∙ sym e) (λ z. apart.left_right (sym low_node ∙ (z ∙ e)))) (subst IsSome (sym now_high.spells) refl)

        abbrev low5 : Holding
        low5 = record w1.lock { settled = g x.left.node; mark = Some (frame_of (g x.left.node)) }

        abbrev high5 : Holding
        high5 = record w2.lock { settled = g x.right.node; mark = Some (frame_of (g x.right.node)) }

        abbrev upper5 : Holding
        upper5 = record w3.lock { settled = g x.above.node; mark = Some (frame_of (g x.above.node)) }

        none_out : (b c d : Bool) → c ≡ false → d ≡ false → both_left b c d x.left.node x.right.node ≡ []
        none_out true c d e h = (λ i. cond (e i) (x.left.node ∷ cond (h i) (x.right.node ∷ []) []) (cond (h i) (x.right.node ∷ []) []))
        none_out false c d e h = (λ i. cond (h i) (x.right.node ∷ cond (e i) (x.left.node ∷ []) []) (cond (e i) (x.left.node ∷ []) []))

        settled4 : settle None k4.log ≡ record k4.log { holdings = record k4.log.holdings { held = both_of hs.left_first (record w1.lock { settled = g x.left.node; mark = Some (frame_of (g x.left.node)) }) (record w2.lock { settled = g x.right.node; mark = Some (frame_of (g x.right.node)) }) (record w3.lock { settled = g x.above.node; mark = Some (frame_of (g x.above.node)) } ∷ []); out = [] } }
        settled4 =
            settles t x k hs tree laws g (group_of x) change (parent_differs, left_differs, right_differs) k4.log w1.lock w2.lock w3.lock w3.held out4 now_low now_high now_upper on_n
            ∙ (λ i. record k4.log {
              holdings = record k4.log.holdings {
                held = both_of hs.left_first
                    (settled_group (group_of x) (group_of x) w1.lock (g x.left.node) (subst (λ m. is_among (group_of x) m ≡ true) (sym low_node) (in_l t x k hs tree)) (subst (λ m. is_among (group_of x) m ≡ true) (sym low_node) (in_l t x k hs tree)) now_low.spells i)
                    (settled_group (group_of x) (group_of x) w2.lock (g x.right.node) (subst (λ m. is_among (group_of x) m ≡ true) (sym high_node) (in_r t x k hs tree)) (subst (λ m. is_among (group_of x) m ≡ true) (sym high_node) (in_r t x k hs tree)) now_high.spells i)
                    (record w3.lock { settled = g x.above.node; mark = Some (frame_of (g x.above.node)) } ∷ []);
                out = none_out hs.left_first (not (is_among (group_of x) x.left.node)) (not (is_among (group_of x) x.right.node)) (ap not (in_l t x k hs tree)) (ap not (in_r t x k hs tree)) i;
              };
            })

        abbrev left_go : ℕ → CallerData
        left_go other = record k4 { log = record (after_node_release_same other (record k4.log { holdings = record k4.log.holdings { held = both_of hs.left_first (record w1.lock { settled = g x.left.node; mark = Some (frame_of (g x.left.node)) }) (record w2.lock { settled = g x.right.node; mark = Some (frame_of (g x.right.node)) }) (record w3.lock { settled = g x.above.node; mark = Some (frame_of (g x.above.node)) } ∷ []); out = [] } })) { budget = after_spending k4.log.budget } }

        gone_is : (other : ℕ) (k5 : CallerData) → k5 ≡ record k4 { log = after_node_release other k4.log } → k5 ≡ left_go other
        gone_is other k5 is = is ∙ ap (λ (z : Log). record k4 { log = record (after_node_release_same other z) { budget = after_spending z.budget } }) settled4

        spent : (other : ℕ) (k5 : CallerData) → k5 ≡ record k4 { log = after_node_release other k4.log } → Spends 1 k4 k5
        spent other k5 is = spends_one k4 k5 (steps_so (with_release_less k4) (gone_is other k5 is) refl (none_more k4.log.trace.loads))

        left_stays : (k5 : CallerData) → k5 ≡ record k4 { log = after_node_release x.right.node k4.log } → AreSettled x.above.node x.left.node (shares_for x).left k5.log.holdings
        left_stays k5 is = settled_as x.above.node x.left.node (shares_for x).left g hs.low hs.upper w1.lock w3.lock k5.log.holdings now_low now_upper low_node upper_node written.left
            (ap (λ (z : CallerData). z.log.holdings.held) (gone_is x.right.node k5 is) ∙ without_high hs.left_first low5 high5 (upper5 ∷ []) x.right.node high_node low_far_r ((λ e. apart.right_above (sym (sym upper_node ∙ e))), tt)) (ap (λ (z : CallerData). z.log.holdings.out) (gone_is x.right.node k5 is))

        right_stays : (k5 : CallerData) → k5 ≡ record k4 { log = after_node_release x.left.node k4.log } → AreSettled x.above.node x.right.node (shares_for x).right k5.log.holdings
        right_stays k5 is = settled_as x.above.node x.right.node (shares_for x).right g hs.high hs.upper w2.lock w3.lock k5.log.holdings now_high now_upper high_node upper_node written.right
            (ap (λ (z : CallerData). z.log.holdings.held) (gone_is x.left.node k5 is) ∙ without_low hs.left_first low5 high5 (upper5 ∷ []) x.left.node low_node (λ e. apart.left_right (sym (sym high_node ∙ e))) ((λ e. apart.left_above (sym (sym upper_node ∙ e))), tt)) (ap (λ (z : CallerData). z.log.holdings.out) (gone_is x.left.node k5 is))

        mends : (c : Chosen) (m other : ℕ) (s : NodeData) (k5 k6 : CallerData) (seen : ℕ) → k.log.terms ≡ t → c.node ≡ m → c.other ≡ other → m < t.nodes → m ≢ x.above.node → s.level ≡ x.left.content.level → IsSpareAs s.body → (k5 ≡ record k4 { log = after_node_release other k4.log } → AreSettled x.above.node m s k5.log.holdings)
            → k5 ≡ record k4 { log = after_node_release c.other k4.log } → HolderTells c.node k5.log → k6 ≡ record k5 { log = after_node_load c.node 2 seen k5.log } → MendsSiblings t x (record { node = c.node; content = s; changed = true }) k k6
        mends c m other s k5 k6 seen terms node gone within far level spare stays lets tells loads' =
            let lets' = subst (λ j. k5 ≡ record k4 { log = after_node_release j k4.log }) gone lets in
            let loads2 = subst (λ j. k6 ≡ record k5 { log = after_node_load j 2 seen k5.log }) node loads' in
            subst (λ j. MendsSiblings t x (record { node = j; content = s; changed = true }) k k6) (sym node) (record {
              holds = under_so t x.above.node m s k5 k6 seen within far ((spent other k5 lets').calls.caller.terms ∙ (steps4.calls.caller.terms ∙ terms)) (stays lets') (subst (λ j. HolderTells j k5.log) node tells) loads2;
              level = ap (λ n. n + 1) level ∙ hs.level;
              spare = spare_of m s spare;
              spends = steps_after 1 0 1 k k5 k6 (omega arith) (steps_after 0 1 1 k k4 k5 (omega arith) (spends_same k k4 steps4) (spent other k5 lets')) (loaded_none m 2 seen k5 k6 loads2);
            })

        pub shares_so : (pc : ℕ) (c : Chosen) (k5 k6 : CallerData) (seen : ℕ) → k.log.terms ≡ t → IsInEither pc x → IsChosen x pc c → k5 ≡ record k4 { log = after_node_release c.other k4.log } → HolderTells c.node k5.log → k6 ≡ record k5 { log = after_node_load c.node 2 seen k5.log } → (s : NodeData) × (MendsSiblings t x (record { node = c.node; content = s; changed = true }) k k6 × IsInFences pc s)
        shares_so pc c k5 k6 seen terms between (inl (node, other, below)) lets tells loads' = ((shares_for x).left, (mends c x.left.node x.right.node (shares_for x).left k5 k6 seen terms node other hs.left_within apart.left_above refl (share_spares x.left.content.body x.right.content.body over).0 (left_stays k5) lets tells loads', (between.0, below)))
        shares_so pc c k5 k6 seen terms between (inr (node, other, above)) lets tells loads' = ((shares_for x).right, (mends c x.right.node x.left.node (shares_for x).right k5 k6 seen terms node other hs.right_within apart.right_above refl (share_spares x.left.content.body x.right.content.body over).1 (right_stays k5) lets tells loads', (omega (arith, above), between.1)))
