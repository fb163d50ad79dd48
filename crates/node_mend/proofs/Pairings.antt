-- Two neighbouring children that are held under their parent, in the tree of which they are, and what
-- becomes of the three locks where all three nodes change.
use Rattle.std.proofs.Common.{◌≡◌, ℕ, ◌<◌, List, ◌∷◌, arith, true, ◌≢◌, ◌≤◌, ap, false, ◌==◌, ne_eqb, Bool, map, refl, sym, ◌∙◌, Some, eq-eqb, cond, [], length, ◌+◌, subst, not, ◌&&◌, IsTrue, true≢false, None, IsSome, is_some}
use Rattle.std.proofs.lemmas.Bool.{ltb-true, ltb-false}
use Rattle.std.specs.List.{AllByRecursion, filter, slice_get}
use Rattle.std.proofs.Math.Bool.{and-false}
use Rattle.tree_laws.specs.Numbers.{is_among, times, once}
use Rattle.tree_laws.proofs.Halves.{among, not_among}
use Rattle.tree_shape.specs.NodeData.{NodeData, frame_of, pairs_of}
use Rattle.tree_laws.specs.Trees.{Contents}
use Rattle.tree_shape.specs.Changes.{pair}
use Rattle.tree_laws.specs.LocalChange.{IsChangeOf}
use Rattle.tree_shape.specs.declared.pair.Pair.{Pair}
use Rattle.tree_laws.proofs.Joins.{Neighbours, neighbours}
use Rattle.word_rule.specs.declared.log.Holding.{Holding}
use Rattle.word_rule.specs.Held.{held_of, marked_in, is_marked}
use Rattle.word_rule.specs.Spelling.{SpellsNode}
use Rattle.word_rule.specs.CallerData.{CallerData}
use Rattle.word_rule.specs.Exchange.{exchange, node_of, settle}
use Rattle.word_rule.specs.SharedWords.{updated}
use Rattle.word_rule.specs.NodeTells.{KnowsTree}
use Rattle.word_rule.specs.declared.log.Log.{Log}
use Rattle.word_rule.specs.declared.log.Terms.{Terms}
use Rattle.tree_descent.proofs.HeldLists.{HeldOnce, found_head, is_first}
use Rattle.tree_descent.proofs.Settling.{FitsChange, IsHeldChange, SettlingLaws, left_out, settled_after, settled_group}
use Rattle.node_mend.specs.Siblings.{both_of, HoldsSiblings}
use Rattle.node_mend.specs.declared.sibling.Siblings.{Siblings}

pub later : (x y : ℕ) (xs : List ℕ) → is_among xs x ≡ true → is_among (y ∷ xs) x ≡ true
later x y xs e = let l : 0 < times x xs = ltb-true 0 (times x xs) e in among (y ∷ xs) x (omega (arith, l))

pub not_in : (x y : ℕ) (xs : List ℕ) → x ≢ y → is_among xs x ≡ false → is_among (y ∷ xs) x ≡ false
not_in x y xs far e = let l : times x xs ≤ 0 = ltb-false 0 (times x xs) e in let z : once (x == y) ≡ 0 = ap once (ne_eqb x y far) in not_among (y ∷ xs) x (omega (arith, l, z))

-- what holds of two locks in either order
pub both_all : (P : Holding → Type 0) (o : Bool) (low high : Holding) (more : List Holding) → P low → P high → AllByRecursion P more → AllByRecursion P (both_of o low high more)
both_all P true low high more a b m = (a, (b, m))
both_all P false low high more a b m = (b, (a, m))

pub both_each : (P : Holding → Type 0) (o : Bool) (low high : Holding) (more : List Holding) → AllByRecursion P (both_of o low high more) → P low × P high × AllByRecursion P more
both_each P true low high more all = (all.0, all.1.0, all.1.1)
both_each P false low high more all = (all.1.0, all.0, all.1.1)

both_map : (f : Holding → Holding) (o : Bool) (low high : Holding) (more : List Holding) → map f (both_of o low high more) ≡ both_of o (f low) (f high) (map f more)
both_map f true low high more = refl
both_map f false low high more = refl

both_once : (o : Bool) (low high : Holding) (more : List Holding) → low.node ≢ high.node → AllByRecursion (λ a. a.node ≢ low.node) more → AllByRecursion (λ a. a.node ≢ high.node) more → HeldOnce more → HeldOnce (both_of o low high more)
both_once true low high more far a b once = (((λ e. far (sym e)), a), (b, once))
both_once false low high more far a b once = ((far, b), (a, once))

pub both_low : (o : Bool) (low high : Holding) (more : List Holding) (n : ℕ) → low.node ≡ n → high.node ≢ n → held_of n (both_of o low high more) ≡ Some low
both_low true low high more n is far = ap (λ b. cond b (Some low) (held_of n (high ∷ more))) (eq-eqb low.node n is)
both_low false low high more n is far = ap (λ b. cond b (Some high) (held_of n (low ∷ more))) (ne_eqb high.node n far) ∙ ap (λ b. cond b (Some low) (held_of n more)) (eq-eqb low.node n is)

pub both_high : (o : Bool) (low high : Holding) (more : List Holding) (n : ℕ) → high.node ≡ n → low.node ≢ n → held_of n (both_of o low high more) ≡ Some high
both_high true low high more n is far = ap (λ b. cond b (Some low) (held_of n (high ∷ more))) (ne_eqb low.node n far) ∙ ap (λ b. cond b (Some high) (held_of n more)) (eq-eqb high.node n is)
both_high false low high more n is far = ap (λ b. cond b (Some high) (held_of n (low ∷ more))) (eq-eqb high.node n is)

pub both_more : (o : Bool) (low high : Holding) (more : List Holding) (n : ℕ) → low.node ≢ n → high.node ≢ n → held_of n (both_of o low high more) ≡ held_of n more
both_more true low high more n a b = ap (λ z. cond z (Some low) (held_of n (high ∷ more))) (ne_eqb low.node n a) ∙ ap (λ z. cond z (Some high) (held_of n more)) (ne_eqb high.node n b)
both_more false low high more n a b = ap (λ z. cond z (Some high) (held_of n (low ∷ more))) (ne_eqb high.node n b) ∙ ap (λ z. cond z (Some low) (held_of n more)) (ne_eqb low.node n a)

-- the nodes of two locks that pass a test
abbrev pub both_left : Bool → Bool → Bool → ℕ → ℕ → List ℕ
both_left true a b l r = cond a (l ∷ cond b (r ∷ []) []) (cond b (r ∷ []) [])
both_left false a b l r = cond b (r ∷ cond a (l ∷ []) []) (cond a (l ∷ []) [])

both_few : (o a b : Bool) (l r : ℕ) → length (both_left o a b l r) ≤ 4
both_few true true true l r = omega arith
both_few true true false l r = omega arith
both_few true false true l r = omega arith
both_few true false false l r = omega arith
both_few false true true l r = omega arith
both_few false true false l r = omega arith
both_few false false true l r = omega arith
both_few false false false l r = omega arith

two : (test : ℕ → Bool) (a b : ℕ) (ta tb : Bool) (l r : ℕ) → a ≡ l → b ≡ r → test a ≡ ta → test b ≡ tb → (tail : List ℕ) → filter test tail ≡ [] → filter test (a ∷ b ∷ tail) ≡ cond ta (l ∷ cond tb (r ∷ []) []) (cond tb (r ∷ []) [])
two test a b ta tb l r ea eb at bt tail none = (λ i. cond (at i) (ea i ∷ cond (bt i) (eb i ∷ none i) (none i)) (cond (bt i) (eb i ∷ none i) (none i)))

-- a lock in which a node was written
pub record IsNow (h : Holding) (s : NodeData) (h' : Holding) : Type 0 where
  pub node : h'.node ≡ h.node
  pub mark : h'.mark ≡ h.mark
  pub settled : h'.settled ≡ h.settled
  pub spells : SpellsNode h'.words s
  pub stored : h'.stored ≡ true

-- siblings and the node above them are three nodes
pub record AreThree (l r n : ℕ) : Type 0 where
  pub left_right : l ≢ r
  pub left_above : l ≢ n
  pub right_above : r ≢ n

-- two children and the node above them
abbrev pub group_of : Siblings → List ℕ
group_of x = x.above.node ∷ x.left.node ∷ x.right.node ∷ []

-- What the three nodes held and what they hold once they are written; all others are as they were.
pub record AreWritten (x : Siblings) (f g : Contents) (low upper high : NodeData) : Type 0 where
  pub was_left : f x.left.node ≡ x.left.content
  pub was_above : f x.above.node ≡ x.above.content
  pub was_right : f x.right.node ≡ x.right.content
  pub left : g x.left.node ≡ low
  pub above : g x.above.node ≡ upper
  pub right : g x.right.node ≡ high
  pub others : (m : ℕ) → m ≢ x.above.node → m ≢ x.left.node → m ≢ x.right.node → g m ≡ f m

module _ (t : Terms) (x : Siblings) (k : CallerData) (hs : HoldsSiblings t x k.log.holdings) (tree : KnowsTree k.log.holdings) where
  abbrev f : Contents
  f = tree.contents

  abbrev p : Pair
  p = pair x.left.node x.left.content.high

  abbrev q : Pair
  q = pair x.right.node x.right.content.high

  abbrev IsTold : Holding → Type 0
  IsTold h = IsSome h.mark → IsTrue (tree.live h.node) × (tree.contents h.node ≡ h.settled)

  told : IsTold hs.low × IsTold hs.high × AllByRecursion (λ (h : Holding). IsSome h.mark → IsTrue (tree.live h.node) × (tree.contents h.node ≡ h.settled)) (hs.upper ∷ [])
  told = both_each (λ (h : Holding). IsSome h.mark → IsTrue (tree.live h.node) × (tree.contents h.node ≡ h.settled)) hs.left_first hs.low hs.high (hs.upper ∷ [])
      (subst (AllByRecursion (λ (h : Holding). IsSome h.mark → IsTrue (tree.live h.node) × (tree.contents h.node ≡ h.settled))) hs.held tree.marked)

  pub left_told : IsTrue (tree.live x.left.node) × (tree.contents x.left.node ≡ x.left.content)
  left_told = let e = told.0 hs.left.marked in (subst (λ m. IsTrue (tree.live m)) hs.left.node e.0, subst (λ m. tree.contents m ≡ hs.low.settled) hs.left.node e.1 ∙ hs.left.settled)

  pub right_told : IsTrue (tree.live x.right.node) × (tree.contents x.right.node ≡ x.right.content)
  right_told = let e = told.1 hs.right.marked in (subst (λ m. IsTrue (tree.live m)) hs.right.node e.0, subst (λ m. tree.contents m ≡ hs.high.settled) hs.right.node e.1 ∙ hs.right.settled)

  pub parent_told : IsTrue (tree.live x.above.node) × (tree.contents x.above.node ≡ x.above.content)
  parent_told = let e = told.2.0 hs.parent.marked in (subst (λ m. IsTrue (tree.live m)) hs.parent.node e.0, subst (λ m. tree.contents m ≡ hs.upper.settled) hs.parent.node e.1 ∙ hs.parent.settled)

  pub at_slot_is : slice_get (pairs_of (tree.contents x.above.node)) x.slot ≡ Some p
  at_slot_is = ap (λ (s : NodeData). slice_get (pairs_of s) x.slot) parent_told.1 ∙ hs.at

  pub next_slot_is : slice_get (pairs_of (tree.contents x.above.node)) (x.slot + 1) ≡ Some q
  next_slot_is = ap (λ (s : NodeData). slice_get (pairs_of s) (x.slot + 1)) parent_told.1 ∙ hs.next

  pub family : Neighbours tree.contents tree.live x.above.node x.slot p q
  family = neighbours tree.contents tree.live tree.lawful.tree x.above.node x.slot p q parent_told.0 at_slot_is next_slot_is

  pub in_n : is_among (group_of x) x.above.node ≡ true
  in_n = is_first x.above.node (x.left.node ∷ x.right.node ∷ [])

  pub in_l : is_among (group_of x) x.left.node ≡ true
  in_l = later x.left.node x.above.node (x.left.node ∷ x.right.node ∷ []) (is_first x.left.node (x.right.node ∷ []))

  pub in_r : is_among (group_of x) x.right.node ≡ true
  in_r = later x.right.node x.above.node (x.left.node ∷ x.right.node ∷ []) (later x.right.node x.left.node (x.right.node ∷ []) (is_first x.right.node []))

  pub three : AreThree x.left.node x.right.node x.above.node
  three = record {
    left_right = family.different;
    left_above = family.left.no_parent;
    right_above = family.no_parent;
  }

  pub are_written : (low upper high : NodeData) → AreWritten x tree.contents (updated (updated (updated tree.contents x.right.node high) x.above.node upper) x.left.node low) low upper high
  are_written low upper high = record {
    was_left = left_told.1;
    was_above = parent_told.1;
    was_right = right_told.1;
    left = rw (eq-eqb x.left.node x.left.node refl) refl;
    above = rw (ne_eqb x.above.node x.left.node (λ e. three.left_above (sym e)), eq-eqb x.above.node x.above.node refl) refl;
    right = rw (ne_eqb x.right.node x.left.node (λ e. three.left_right (sym e)), ne_eqb x.right.node x.above.node three.right_above, eq-eqb x.right.node x.right.node refl) refl;
    others = λ m a b c. rw (ne_eqb m x.left.node b, ne_eqb m x.above.node a, ne_eqb m x.right.node c) refl;
  }

  -- The three locks with other words, where these make a lawful change of the tree.
  module _ (laws : SettlingLaws) (g : Contents) (reached : List ℕ) (change : IsChangeOf tree.contents tree.live x.above.node (group_of x) [] g None reached) (differ : (g x.above.node ≢ tree.contents x.above.node) × (g x.left.node ≢ tree.contents x.left.node) × (g x.right.node ≢ tree.contents x.right.node))
      (v : Log) (low high upper : Holding) (held : v.holdings.held ≡ both_of hs.left_first low high (upper ∷ [])) (out : v.holdings.out ≡ []) (is_low : IsNow hs.low (g x.left.node) low) (is_high : IsNow hs.high (g x.right.node) high) (is_upper : IsNow hs.upper (g x.above.node) upper)
      (on : IsTrue (is_among reached x.above.node)) where
    low_node : low.node ≡ x.left.node
    low_node = is_low.node ∙ hs.left.node

    high_node : high.node ≡ x.right.node
    high_node = is_high.node ∙ hs.right.node

    upper_node : upper.node ≡ x.above.node
    upper_node = is_upper.node ∙ hs.parent.node

    fits : (h' h : Holding) (m : ℕ) → h'.node ≡ m → IsNow h (g m) h' → IsTrue (tree.live m) × (tree.contents m ≡ h.settled) → FitsChange tree.contents tree.live (group_of x) [] g h'
    fits h' h m node now tells = record {
      marked = λ _. (subst (λ j. IsTrue (tree.live j)) (sym node) tells.0, ap tree.contents node ∙ (tells.1 ∙ sym now.settled), now.spells ∙ ap (λ j. Some (g j)) (sym node));
      leaves = λ _. now.stored;
      enters = λ e. absurd (true≢false (sym e));
    }

    found_low : held_of x.left.node v.holdings.held ≡ Some low
    found_low = ap (held_of x.left.node) held ∙ both_low hs.left_first low high (upper ∷ []) x.left.node low_node (λ e. family.different (sym (sym high_node ∙ e)))

    found_high : held_of x.right.node v.holdings.held ≡ Some high
    found_high = ap (held_of x.right.node) held ∙ both_high hs.left_first low high (upper ∷ []) x.right.node high_node (λ e. family.different (sym low_node ∙ e))

    found_upper : held_of x.above.node v.holdings.held ≡ Some upper
    found_upper = ap (held_of x.above.node) held ∙ (both_more hs.left_first low high (upper ∷ []) x.above.node (λ e. family.left.no_parent (sym low_node ∙ e)) (λ e. family.no_parent (sym high_node ∙ e)) ∙ found_head x.above.node upper [] upper_node)

    marks : (m : ℕ) (h' h : Holding) (s : NodeData) → held_of m v.holdings.held ≡ Some h' → IsNow h s h' → IsSome h.mark → IsTrue (marked_in v.holdings.held m)
    marks m h' h s found now marked = ap is_marked found ∙ (ap is_some now.mark ∙ marked)

    abbrev test : ℕ → Bool
    test m = is_among (group_of x) m && not (is_among reached m)

    low_test : test low.node ≡ not (is_among reached x.left.node)
    low_test = ap test low_node ∙ ap (λ b. b && not (is_among reached x.left.node)) in_l

    high_test : test high.node ≡ not (is_among reached x.right.node)
    high_test = ap test high_node ∙ ap (λ b. b && not (is_among reached x.right.node)) in_r

    tail : filter test (upper.node ∷ []) ≡ []
    tail = ap (λ b. cond b (upper.node ∷ []) []) (ap test upper_node ∙ (ap (λ b. is_among (group_of x) x.above.node && not b) on ∙ and-false (is_among (group_of x) x.above.node)))

    filtered : (o : Bool) → filter (λ m. is_among (group_of x) m && not (is_among reached m)) (map node_of (both_of o low high (upper ∷ []))) ≡ both_left o (not (is_among reached x.left.node)) (not (is_among reached x.right.node)) x.left.node x.right.node
    filtered true = two test low.node high.node (not (is_among reached x.left.node)) (not (is_among reached x.right.node)) x.left.node x.right.node low_node high_node low_test high_test (upper.node ∷ []) tail
    filtered false = two test high.node low.node (not (is_among reached x.right.node)) (not (is_among reached x.left.node)) x.right.node x.left.node high_node low_node high_test low_test (upper.node ∷ []) tail

    pub left_is : left_out (group_of x) reached v.holdings ≡ both_left hs.left_first (not (is_among reached x.left.node)) (not (is_among reached x.right.node)) x.left.node x.right.node
    left_is = (λ i. left_out (group_of x) reached (record v.holdings { held = held i; out = out i })) ∙ filtered hs.left_first

    few : length (left_out (group_of x) reached v.holdings) ≤ 4
    few = subst (λ (ms : List ℕ). length ms ≤ 4) (sym left_is) (both_few hs.left_first (not (is_among reached x.left.node)) (not (is_among reached x.right.node)) x.left.node x.right.node)

    pub held_change : IsHeldChange v.holdings tree.contents tree.live x.above.node (group_of x) [] g reached
    held_change = record {
      lawful = tree.lawful;
      dead = λ m e. absurd (true≢false (sym (subst (λ xs. is_among xs m ≡ true) out e)));
      change = change;
      each = subst (AllByRecursion (FitsChange tree.contents tree.live (group_of x) [] g)) (sym held)
          (both_all (FitsChange tree.contents tree.live (group_of x) [] g) hs.left_first low high (upper ∷ [])
          (fits low hs.low x.left.node low_node is_low (left_told.0, left_told.1 ∙ sym hs.left.settled))
          (fits high hs.high x.right.node high_node is_high (right_told.0, right_told.1 ∙ sym hs.right.settled))
          (fits upper hs.upper x.above.node upper_node is_upper (parent_told.0, parent_told.1 ∙ sym hs.parent.settled), tt));
      once = subst HeldOnce (sym held) (both_once hs.left_first low high (upper ∷ []) (λ e. family.different (sym low_node ∙ (e ∙ high_node)))
          ((λ e. family.left.no_parent (sym low_node ∙ (sym e ∙ upper_node))), tt)
          ((λ e. family.no_parent (sym high_node ∙ (sym e ∙ upper_node))), tt)
          (tt, tt));
      group_held = (marks x.above.node upper hs.upper (g x.above.node) found_upper is_upper hs.parent.marked, (marks x.left.node low hs.low (g x.left.node) found_low is_low hs.left.marked, (marks x.right.node high hs.high (g x.right.node) found_high is_high hs.right.marked, tt)));
      fresh_held = tt;
      differ = (differ.0, (differ.1, (differ.2, tt)));
      lower = ((λ e. absurd (e refl)), ((λ _. (let a = family.left.fits.level in let b = family.left.at in omega (arith, a, b))), ((λ _. (let a = family.fits.level in let b = family.left.at in omega (arith, a, b))), tt)));
      room = few;
    }

    pub settles : settle None v ≡ record v { holdings = record v.holdings { held = both_of hs.left_first (exchange (is_among (group_of x)) (is_among reached) low) (exchange (is_among (group_of x)) (is_among reached) high) (record upper { settled = g x.above.node; mark = Some (frame_of (g x.above.node)) } ∷ []); out = both_left hs.left_first (not (is_among reached x.left.node)) (not (is_among reached x.right.node)) x.left.node x.right.node } }
    settles =
        settled_after laws v tree.contents tree.live x.above.node (group_of x) [] g reached held_change
        ∙ (λ i. record v { holdings = record v.holdings { held = lists i; out = left_is i } })
      where
        lists : map (exchange (is_among (group_of x)) (is_among reached)) v.holdings.held ≡ both_of hs.left_first (exchange (is_among (group_of x)) (is_among reached) low) (exchange (is_among (group_of x)) (is_among reached) high) (record upper { settled = g x.above.node; mark = Some (frame_of (g x.above.node)) } ∷ [])
        lists = ap (map (exchange (is_among (group_of x)) (is_among reached))) held
            ∙ (both_map (exchange (is_among (group_of x)) (is_among reached)) hs.left_first low high (upper ∷ [])
            ∙ (λ i. both_of hs.left_first (exchange (is_among (group_of x)) (is_among reached) low) (exchange (is_among (group_of x)) (is_among reached) high)
            (settled_group (group_of x) reached upper (g x.above.node) (subst (λ m. is_among (group_of x) m ≡ true) (sym upper_node) in_n) (subst (λ m. is_among reached m ≡ true) (sym upper_node) on) is_upper.spells i ∷ [])))
