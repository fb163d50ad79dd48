-- Steps on nodes on the way down, and what is held after each.
use Rattle.std.proofs.Common.{◌≡◌, ℕ, suc, ◌+◌, ◌<◌, ◌≤◌, List, [], ◌∷◌, length, get_or, sym, refl, ap, ◌∙◌, arith, Bool, true, false, nat_le, Contains, if◌then◌else◌, ◌==◌, eq-eqb, ne_eqb, zero, Some, ◌≢◌, ◌-◌, subst, Option, None, IsSomeAnd}
use Rattle.std.proofs.lemmas.Bool.{leb-true, leb-false}
use Rattle.std.specs.List.{AllByRecursion}
use native.Mathlib.Decide.{ℕ_discrete}
use Rattle.tree_shape.specs.declared.pair.Pair.{Pair}
use Rattle.tree_shape.specs.NodeData.{slot_for, NodeData, Body, Pairs, Entries, Link, InOrder, InOrderAs, IsInner, pairs_of, pairs_in}
use Rattle.tree_laws.specs.Trees.{Branch, branches_from, branches}
use Rattle.tree_laws.specs.Lawful.{IsFilledAs, IsOrderedAs}
use Rattle.tree_laws.specs.Decisions.{is_entries}
use Rattle.tree_shape.specs.declared.node.NodeBounds.{NodeBounds}
use Rattle.word_rule.specs.Steps.{place_in, after_node_release_same}
use Rattle.word_rule.specs.declared.log.Terms.{Terms}
use Rattle.word_rule.specs.NodeTells.{IsLiveNode}
use Rattle.word_rule.proofs.Each.{all_with}
use Rattle.word_rule.specs.CallerData.{CallerData}
use Rattle.word_rule.proofs.CallersKept.{kept_calls_on}
use Rattle.word_rule.specs.declared.log.Holding.{Holding}
use Rattle.word_rule.specs.Held.{held_of}
use Rattle.word_rule.specs.Spelling.{SpellsNode}
use Rattle.version_locks.specs.Locking.{Locks}
use Rattle.node_store.specs.Sights.{after_words}
use Rattle.node_store.specs.Holding.{ReadsHeld}
use Rattle.tree_descent.specs.Paths.{HasChildFor, StepsOnNodes}
use Rattle.tree_descent.proofs.NodeSteps.{steps_so, calls_so, steps_none}
use Rattle.tree_descent.proofs.Loading.{none_more, keeps_words}
use Rattle.word_rule.specs.declared.log.LockId.TheVariants as lock

-- the first slot for an address leads to a child whose fences hold it
pub slot_branch : (level low pc : ℕ) (pairs : List Pair) (d : Pair) → low ≤ pc → slot_for pc pairs < length pairs
    → (b : Branch) × (Contains (branches_from level low pairs) b × (b.child ≡ (get_or pairs (slot_for pc pairs) d).child) × (b.frame.low ≤ pc) × (pc ≤ b.frame.high))
slot_branch level low pc [] d least inside = absurd (omega (arith, inside))
slot_branch level low pc (p ∷ pairs) d least inside = go (nat_le pc p.separator) refl inside (λ more less. slot_branch level (p.separator + 1) pc pairs d more less)
  where
    go : (b : Bool) → nat_le pc p.separator ≡ b → (if b then 0 else (slot_for pc pairs + 1)) < suc (length pairs)
        → (p.separator + 1 ≤ pc → slot_for pc pairs < length pairs → (x : Branch) × (Contains (branches_from level (p.separator + 1) pairs) x × (x.child ≡ (get_or pairs (slot_for pc pairs) d).child) × (x.frame.low ≤ pc) × (pc ≤ x.frame.high)))
        → (x : Branch) × (Contains (branches_from level low (p ∷ pairs)) x × (x.child ≡ (get_or (p ∷ pairs) (if b then 0 else (slot_for pc pairs + 1)) d).child) × (x.frame.low ≤ pc) × (pc ≤ x.frame.high))
    go true is inside later = (record { child = p.child; frame = record { level = level; low = low; high = p.separator } }, ((0, omega arith, refl), refl, least, leb-true pc p.separator is))
    go false is inside later =
        let above = leb-false pc p.separator is in
        let rest = later (omega (arith, above)) (omega (arith, inside)) in
        let next : slot_for pc pairs + 1 ≡ suc (slot_for pc pairs) = omega arith in
        (rest.0, ((suc rest.1.0.0, (let l = rest.1.0.1 in omega (arith, l)), rest.1.0.2), rest.1.1 ∙ ap (λ k. (get_or (p ∷ pairs) k d).child) (sym next), rest.1.2, rest.1.3))

-- a filled node in order is in order from address 0 on
pub in_order : (n : ℕ) (s : NodeData) → IsOrderedAs s s.body → IsFilledAs n s.body → InOrder s
in_order n s = go s.body
  where
    go : (body : Body) → IsOrderedAs s body → IsFilledAs n body → InOrderAs s body
    go (Entries entries) ordered filled = ordered.1
    go (Pairs []) ordered filled = absurd (few n filled.0)
      where
        few : (k : ℕ) → (if k == 0 then 2 else 6) ≤ 0 → ⊥
        few k h = elim (ℕ_discrete k 0) [
          | yes e ↦ absurd (let l : 2 ≤ 0 = rw (eq-eqb k 0 e) at h in omega (arith, l))
          | no ne ↦ absurd (let l : 6 ≤ 0 = rw (ne_eqb k 0 ne) at h in omega (arith, l))
        ]
    go (Pairs (p ∷ pairs)) ordered filled = (omega arith, ordered.1.1)
    go (Link next) ordered filled = absurd ordered

-- a node above the leaves is an inner one
pub is_inner : (s : NodeData) → IsOrderedAs s s.body → 0 < s.level → IsInner s × (is_entries s.body ≡ false)
is_inner s = go s.body refl
  where
    go : (body : Body) → s.body ≡ body → IsOrderedAs s body → 0 < s.level → (s.body ≡ Pairs (pairs_of s)) × (is_entries s.body ≡ false)
    go (Entries entries) e ordered above = absurd (let z = ordered.0 in omega (arith, z, above))
    go (Pairs pairs) e ordered above = (e ∙ ap Pairs (ap pairs_in (sym e)), ap is_entries e)
    go (Link next) e ordered above = absurd ordered

-- a child that is there is found, and all that are found have its place
pub found_child : (c : ℕ) (places : ℕ → NodeBounds) (bs : List Branch) (b : Branch) → AllByRecursion (λ x. places x.child ≡ x.frame) bs → Contains bs b → b.child ≡ c → place_in c bs ≡ Some (places c)
found_child c places [] b all there is = absurd (let l = there.1 in omega (arith, l))
found_child c places (x ∷ bs) b all there is = go (ℕ_discrete x.child c) there (λ later. found_child c places bs b all.1 later is)
  where
    go : Dec (x.child ≡ c) → Contains (x ∷ bs) b → (Contains bs b → place_in c bs ≡ Some (places c)) → place_in c (x ∷ bs) ≡ Some (places c)
    go (yes e) there rest = rw (eq-eqb x.child c e) (ap Some (sym all.0 ∙ ap places e))
    go (no ne) (zero, l, e) rest = absurd (ne (ap (λ (z : Branch). z.child) e ∙ is))
    go (no ne) (suc k, l, e) rest = rw (ne_eqb x.child c ne) (rest (k, omega (arith, l), e))

pub weaken : (t : Terms) (places : ℕ → NodeBounds) (bs : List Branch) → AllByRecursion (λ b. (b.child < t.nodes) × (b.child ≢ 0) × (places b.child ≡ b.frame)) bs → AllByRecursion (λ x. places x.child ≡ x.frame) bs
weaken t places [] all = tt
weaken t places (b ∷ bs) all = (all.0.2, weaken t places bs all.1)

-- what a child is, seen from a live node
pub record IsChildOf (t : Terms) (n : ℕ) (s : NodeData) (pc c : ℕ) : Type 0 where
  pub frame : NodeBounds
  pub placed : place_in c (branches (s.level - 1) s) ≡ Some frame
  pub low : frame.low ≤ pc
  pub high : pc ≤ frame.high
  pub level : frame.level ≡ s.level - 1
  pub within : c < t.nodes
  pub never_root : c ≢ 0
  pub never_parent : c ≢ n

pub level_of : (level low : ℕ) (pairs : List Pair) (b : Branch) → Contains (branches_from level low pairs) b → b.frame.level ≡ level
level_of level low [] b c = absurd (let l = c.1 in omega (arith, l))
level_of level low (p ∷ pairs) b (zero, l, e) = ap (λ (z : Branch). z.frame.level) (sym e)
level_of level low (p ∷ pairs) b (suc k, l, e) = level_of level (p.separator + 1) pairs b (k, omega (arith, l), e)

pub child_of : (t : Terms) (n : ℕ) (s : NodeData) (f : NodeBounds) (pc c : ℕ) → IsLiveNode t n s f → 0 < s.level → HasChildFor s pc c → IsChildOf t n s pc c
child_of t n s f pc c live above (b, (there, is, low, high)) =
    let told = all_with (λ x. (x.child < t.nodes) × (x.child ≢ 0) × (live.places x.child ≡ x.frame)) (branches (s.level - 1) s) b live.children there in
    let frame : live.places c ≡ b.frame = ap live.places (sym is) ∙ told.2 in
    let level : b.frame.level ≡ s.level - 1 = level_of (s.level - 1) s.low (pairs_of s) b there in record {
      frame = b.frame;
      placed = found_child c live.places (branches (s.level - 1) s) b (weaken t live.places (branches (s.level - 1) s) live.children) there is ∙ ap Some frame;
      low = low;
      high = high;
      level = level;
      within = subst (λ k. k < t.nodes) is told.0;
      never_root = λ e. told.1 (is ∙ e);
      never_parent = λ e. (let same : s.level ≡ b.frame.level = ap (λ (z : NodeBounds). z.level) (sym live.own ∙ (ap live.places (sym e) ∙ frame)) in omega (arith, same, level, above));
    }

pub steps_of_take : (n : ℕ) (k k' : CallerData) → Locks (lock.Node n) k k' → StepsOnNodes k k'
steps_of_take n k k' (more, marks, nodes, version, settled, words, (tries, taken, is)) =
    steps_so k is refl (more, refl)

pub steps_of_letting_go : (n : ℕ) (k k' : CallerData) → k' ≡ record k { log = after_node_release_same n k.log } → StepsOnNodes k k'
steps_of_letting_go n k k' is =
    steps_so k is refl (none_more k.log.trace.loads)

pub steps_of_words : (n : ℕ) (words : List ℕ) (count : ℕ) (k : CallerData) → StepsOnNodes k (record k { log = after_words n words count k.log })
unfolding after_words
steps_of_words n words zero k = steps_none k
steps_of_words n words (suc count) k = let rest = steps_of_words n words count k in record {
  calls = kept_calls_on rest.calls (calls_so (record k { log = after_words n words count k.log }) refl refl);
  budget = rest.budget;
  loads = keeps_words n words (suc count) k;
}

pub steps_of_read : (n : ℕ) (k k' : CallerData) (s : NodeData) → ReadsHeld n k k' s → StepsOnNodes k k'
steps_of_read n k k' s reads = go (held_of n k.log.holdings.held) reads
  where
    go : (o : Option Holding) → IsSomeAnd o (λ h. SpellsNode h.words s × (k' ≡ record k { log = after_words n h.words 35 k.log })) → StepsOnNodes k k'
    go None r = absurd r
    go (Some h) r = subst (StepsOnNodes k) (sym r.1) (steps_of_words n h.words 35 k)
