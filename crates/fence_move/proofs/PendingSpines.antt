-- A spine that was written is let go of, from its leaf up: with the leaf, all that is held settles.
use Rattle.std.proofs.Common.{◌≡◌, ℕ, refl, ap, ◌∙◌, Bool, true, false, None, if◌then◌else◌, ◌≢◌, List, [], ◌∷◌, map, sym, not, ne_eqb, cond, eq-eqb, ◌+◌, ◌-◌, ◌<◌, subst, arith, IsSome, IsSomeAnd, IsTrue, ◌*◌, ◌++◌, length, Some}
use Rattle.std.specs.List.{AllByRecursion}
use Rattle.tree_laws.specs.Numbers.{is_among}
use Rattle.tree_shape.specs.declared.pair.Pair.{Pair}
use Rattle.tree_shape.specs.NodeData.{NodeData, pairs_of}
use Rattle.tree_laws.specs.Steps.{first_child}
use Rattle.word_rule.specs.CallerData.{CallerData, KeepsCalls, surplus}
use Rattle.word_rule.specs.Exchange.{after_exchange, group_of, is_lawful, settle_free, top_of, settle, Differs}
use Rattle.word_rule.specs.Steps.{after_node_release, after_node_release_same, MayRelease}
use Rattle.word_rule.specs.declared.log.Log.{Log}
use Rattle.word_rule.specs.Logs.{after_spending}
use Rattle.word_rule.specs.declared.log.Holding.{Holding}
use Rattle.word_rule.specs.Held.{without_lock, held_of}
use Rattle.word_rule.specs.Spelling.{SpellsNode, spelled}
use Rattle.word_rule.specs.declared.log.Terms.{Terms}
use Rattle.word_rule.specs.declared.log.Budget.{Budget}
use Rattle.word_rule.specs.declared.log.Holdings.{Holdings}
use Rattle.word_rule.proofs.CallersKept.{kept_calls_on}
use Rattle.word_rule.specs.Places.{CALL_CREDIT}
use Rattle.node_store.specs.Holding.{ReadsHeld}
use Rattle.free_list.proofs.Settled.{ExchangeLaw}
use Rattle.tree_descent.specs.Loads.{KeepsLoads}
use Rattle.tree_descent.proofs.Loading.{keeps_none}
use Rattle.tree_descent.proofs.LettingGo.{IsSettled, settles_nothing}
use Rattle.tree_descent.specs.Paths.{AreApart, StepsOnNodes}
use Rattle.tree_descent.proofs.HeldLists.{found_head}
use Rattle.tree_descent.proofs.NodeSteps.{calls_so}
use Rattle.tree_descent.proofs.Descending.{steps_of_read}
use Rattle.fence_move.specs.Spines.{IsPending, IsReadable, LetsGoSettled, IsSpine}
use Rattle.fence_move.proofs.FreshSpines.{HoldsSpineLeaf, spine_leaf, HoldsSpineTop, all_parts, apart_mid, spine_top}
use Rattle.fence_move.proofs.LockedSpines.{may_read_found, reads_spelled}
use Rattle.fence_move.proofs.WrittenSpines.{in_mid}

pub loads_of_release : (n : ℕ) (k k' : CallerData) → k' ≡ record k { log = after_node_release n k.log } → KeepsLoads k k'
loads_of_release n k k' is = keeps_none k k' (ap (λ (z : CallerData). z.log.trace.loads) is ∙ go (is_lawful k.log None))
  where
    go : (b : Bool) → (if b then after_exchange k.log (top_of k.log None) (is_among (group_of k.log None)) else settle_free k.log).trace.loads ≡ k.log.trace.loads
    go true = refl
    go false = refl

-- a node was let go of, where this is what settled
released_so : (n : ℕ) (k k' : CallerData) (u : Log) → settle None k.log ≡ u → k' ≡ record k { log = after_node_release n k.log } → k' ≡ record k { log = record (after_node_release_same n u) { budget = after_spending u.budget } }
released_so n k k' u settled is = is ∙ ap (λ (z : Log). record k { log = record (after_node_release_same n z) { budget = after_spending z.budget } }) settled

-- the other locks stay, each with what it settled to
without_settled : (settled : Holding → Holding) → ((h : Holding) → (settled h).node ≡ h.node) → (n : ℕ) (base : List Holding) → AllByRecursion (λ (a : Holding). a.node ≢ n) base → without_lock n (map settled base) ≡ map settled base
without_settled settled keeps n [] far = refl
without_settled settled keeps n (a ∷ base) far =
    ap (λ b. cond (not b) (settled a ∷ without_lock n (map settled base)) (without_lock n (map settled base))) (ne_eqb (settled a).node n (λ e. far.0 (sym (keeps a) ∙ e)))
    ∙ ap (λ hs. settled a ∷ hs) (without_settled settled keeps n base far.1)

without_top : (settled : Holding → Holding) → ((h : Holding) → (settled h).node ≡ h.node) → (n : ℕ) (h : Holding) (base : List Holding) → h.node ≡ n → AllByRecursion (λ (a : Holding). a.node ≢ n) base → without_lock n (map settled (h ∷ base)) ≡ map settled base
without_top settled keeps n h base is far =
    ap (λ b. cond (not b) (settled h ∷ without_lock n (map settled base)) (without_lock n (map settled base))) (eq-eqb (settled h).node n (keeps h ∙ is)) ∙ without_settled settled keeps n base far

map_settled : (settled : Holding → Holding) (hs : List Holding) → AllByRecursion (λ (h : Holding). SpellsNode (settled h).words (settled h).settled) hs → AllByRecursion IsSettled (map settled hs)
map_settled settled [] all = tt
map_settled settled (h ∷ hs) all = (all.0, map_settled settled hs all.1)

module _ (t : Terms) (n level : ℕ) (k : CallerData) (p : IsPending t n level k.log.holdings) (zero_level : level ≡ 0) where
  leaf : HoldsSpineLeaf (IsReadable t) n k.log.holdings.held p.spine.base
  leaf = spine_leaf (IsReadable t) n level k.log.holdings.held p.spine.locks p.spine.base p.spine.held p.spine.spine p.spine.each zero_level

  leaf_far : AllByRecursion (λ (a : Holding). a.node ≢ n) p.spine.base
  leaf_far = subst (λ m. AllByRecursion (λ (a : Holding). a.node ≢ m) p.spine.base) leaf.at.0 (subst AreApart leaf.parts p.spine.apart).0

  pub leaf_inside : n < t.nodes
  leaf_inside = subst (λ m. m < t.nodes) leaf.at.0 leaf.is.within

  pub leaf_may : MayRelease n k.log
  leaf_may = subst (λ o. IsSomeAnd o (λ (h : Holding). IsSome (spelled h.words) × (IsSome h.mark → Differs h → IsTrue (is_lawful k.log None)))) (sym (ap (held_of n) leaf.parts ∙ found_head n leaf.lock p.spine.base leaf.at.0))
      (subst IsSome (sym leaf.is.spells) refl, λ marked differs. (p.settles k.log refl).0)

  pub leaf_settles : (k' : CallerData) → k' ≡ record k { log = after_node_release n k.log } → LetsGoSettled p.settled p.spine.base level k k'
  leaf_settles k' is =
      subst (LetsGoSettled p.settled p.spine.base level k) (sym (released_so n k k' (record k.log { holdings = record k.log.holdings { held = map p.settled k.log.holdings.held; out = [] } }) (p.settles k.log refl).1 is)) (record {
        calls = calls_so k refl refl;
        budget = ap (λ x. record k.log.budget { credit = k.log.budget.credit - x }) (let e : 1 ≡ level + 1 = omega (arith, zero_level) in e);
        held = ap (λ hs. without_lock n (map p.settled hs)) leaf.parts ∙ without_top p.settled p.keeps n leaf.lock p.spine.base leaf.at.0 leaf_far;
        out = refl;
      })

module _ (t : Terms) (n level : ℕ) (k : CallerData) (p : IsPending t n level k.log.holdings) (some : level ≢ 0) where
  top : HoldsSpineTop (IsReadable t) n level k.log.holdings.held p.spine.base
  top = spine_top (IsReadable t) n level k.log.holdings.held p.spine.locks p.spine.base p.spine.held p.spine.spine p.spine.each some

  apart : AreApart (top.lower ++ (top.lock ∷ p.spine.base))
  apart = subst AreApart top.parts p.spine.apart

  found : held_of n k.log.holdings.held ≡ Some top.lock
  found = ap (held_of n) top.parts ∙ subst (λ m. held_of m (top.lower ++ (top.lock ∷ p.spine.base)) ≡ Some top.lock) top.at.0 (in_mid top.lower top.lock p.spine.base apart)

  pub top_inside : n < t.nodes
  top_inside = subst (λ m. m < t.nodes) top.at.0 top.is.within

  pub may_read_pending : IsSomeAnd (held_of n k.log.holdings.held) (λ z. IsSome (spelled z.words))
  may_read_pending = may_read_found n top.is.content top.lock k found top.is.spells

  far : AllByRecursion (λ (a : Holding). a.node ≢ n) p.spine.base
  far = subst (λ m. AllByRecursion (λ (a : Holding). a.node ≢ m) p.spine.base) top.at.0 (apart_mid top.lower top.lock p.spine.base apart).1

  settled_all : AllByRecursion (λ (h : Holding). SpellsNode (p.settled h).words (p.settled h).settled) (top.lock ∷ p.spine.base)
  settled_all = (all_parts (λ (h : Holding). SpellsNode (p.settled h).words (p.settled h).settled) top.lower (top.lock ∷ p.spine.base) (subst (AllByRecursion (λ (h : Holding). SpellsNode (p.settled h).words (p.settled h).settled)) top.parts p.all)).1

  module _ (k1 : CallerData) (shape : NodeData) (reads : ReadsHeld n k k1 shape) (same : k1.log.holdings ≡ k.log.holdings) where
    is : top.is.content ≡ shape
    is = reads_spelled n top.is.content shape top.lock k k1 found top.is.spells reads

    pairs_is : pairs_of top.lock.settled ≡ pairs_of shape
    pairs_is = sym top.is.pairs ∙ ap pairs_of is

    pub pending_pairs : 0 < length (pairs_of shape)
    pending_pairs = subst (λ (ps : List Pair). 0 < length ps) pairs_is (top.is.some (let e = top.at.1 in omega (arith, e, some)))

    steps1 : StepsOnNodes k k1
    steps1 = steps_of_read n k k1 shape reads

    pub surplus_below : level < surplus k → level - 1 < surplus k1
    surplus_below enough = (let b = ap (λ (z : Budget). z.credit) steps1.budget in let l = steps1.calls.caller.left in let e = ap (λ z. CALL_CREDIT * z) l in omega (arith, enough, b, e))

    pub pending_below : (child : ℕ) → child ≡ first_child 0 (pairs_of shape) → IsPending t child (level - 1) k1.log.holdings
    pending_below child e = record {
      settled = p.settled;
      settles = λ v at. p.settles v (at ∙ same);
      keeps = p.keeps;
      all = subst (λ (z : Holdings). AllByRecursion (λ (h : Holding). SpellsNode (p.settled h).words (p.settled h).settled) z.held) (sym same) p.all;
      spine = record {
        locks = top.lower;
        base = top.lock ∷ p.spine.base;
        held = ap (λ (z : Holdings). z.held) same ∙ top.parts;
        spine = subst (λ c. IsSpine first_child (level - 1) c top.lower) (ap (first_child 0) pairs_is ∙ sym e) top.spine;
        each = top.each;
        apart = subst AreApart (sym (ap (λ (z : Holdings). z.held) same)) p.spine.apart;
      };
    }

    module _ (child : ℕ) (e : child ≡ first_child 0 (pairs_of shape)) (k2 : CallerData) (below : (spine : IsPending t child (level - 1) k1.log.holdings) → LetsGoSettled spine.settled spine.spine.base (level - 1) k1 k2) where
      gone : LetsGoSettled p.settled (top.lock ∷ p.spine.base) (level - 1) k1 k2
      unfolding pending_below
      gone = below (pending_below child e)

      pub top_may : MayRelease n k2.log
      top_may = subst (λ o. IsSomeAnd o (λ (h : Holding). IsSome (spelled h.words) × (IsSome h.mark → Differs h → IsTrue (is_lawful k2.log None)))) (sym (ap (held_of n) gone.held ∙ found_head n (p.settled top.lock) (map p.settled p.spine.base) (p.keeps top.lock ∙ top.at.0)))
          (subst IsSome (sym settled_all.0) refl, λ marked differs. absurd (differs settled_all.0))

      top_calls : KeepsCalls k k2
      top_calls = kept_calls_on steps1.calls gone.calls

      pub top_surplus : level < surplus k → 0 < surplus k2
      top_surplus enough = (let b = ap (λ (z : Budget). z.credit) steps1.budget in let c = ap (λ (z : Budget). z.credit) gone.budget in let l = ap (λ z. CALL_CREDIT * z) top_calls.caller.left in omega (arith, enough, b, c, l, some))

      pub top_table : k2.table ≡ k.table
      top_table = top_calls.caller.table

      pub top_settles : ExchangeLaw → (k3 : CallerData) → k3 ≡ record k2 { log = after_node_release n k2.log } → LetsGoSettled p.settled p.spine.base level k k3
      top_settles law k3 now =
          let none : settle None k2.log ≡ k2.log = settles_nothing law k2.log (subst (AllByRecursion IsSettled) (sym gone.held) (map_settled p.settled (top.lock ∷ p.spine.base) settled_all)) in
          subst (LetsGoSettled p.settled p.spine.base level k) (sym (released_so n k2 k3 k2.log none now)) (record {
            calls = kept_calls_on top_calls (calls_so k2 refl refl);
            budget = ap after_spending (gone.budget ∙ ap (λ (z : Budget). record z { credit = z.credit - (level - 1 + 1) }) steps1.budget)
                ∙ ap (λ x. record k.log.budget { credit = x }) (let d : (k.log.budget.credit - (level - 1 + 1)) - 1 ≡ k.log.budget.credit - (level + 1) = omega (arith, some) in d);
            held = ap (without_lock n) gone.held ∙ without_top p.settled p.keeps n top.lock p.spine.base top.at.0 far;
            out = gone.out;
          })
