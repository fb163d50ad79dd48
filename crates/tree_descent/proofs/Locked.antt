-- A child is locked under its parent, and then a neighbour beside it.
use Rattle.std.proofs.Common.{◌≡◌, ℕ, zero, suc, ◌+◌, List, [], ◌∷◌, refl, ap, arith, Some, Contains, ◌≤◌, sym, ◌∙◌, Bool, true, false, nat_le, if◌then◌else◌, ◌≢◌, ◌-◌, ◌<◌, subst, IsSomeAnd, eq-eqb, cond, None, ne_eqb, IsSome}
use Rattle.std.proofs.lemmas.Option.{none-some, same_Some}
use Rattle.std.specs.List.{slice_get, AllByRecursion}
use Rattle.std.proofs.lemmas.Bool.{leb-true, leb-false}
use Rattle.tree_laws.specs.Trees.{Branch, branches_from, branches, Contents}
use Rattle.tree_shape.specs.declared.pair.Pair.{Pair}
use Rattle.tree_shape.specs.NodeData.{slot_for, NodeData, Body, Pairs, Entries, Link, pairs_in, pairs_of, IsInFences}
use Rattle.tree_shape.specs.declared.node.NodeBounds.{NodeBounds}
use Rattle.tree_laws.specs.Lawful.{FitsParent, IsOrderedAs, IsTree}
use Rattle.word_rule.specs.Steps.{place_in, place_by, first_mark, mark_at_lock}
use Rattle.word_rule.specs.declared.log.Terms.{Terms}
use Rattle.word_rule.specs.NodeTells.{IsLiveNode}
use Rattle.word_rule.proofs.Each.{all_with}
use Rattle.word_rule.specs.declared.log.Holding.{Holding}
use Rattle.word_rule.specs.Held.{held_of}
use Rattle.word_rule.specs.Spelling.{SpellsNode, spelled}
use Rattle.word_rule.specs.declared.log.Log.{Log}
use Rattle.word_rule.specs.CallerData.{CallerData, surplus}
use Rattle.word_rule.specs.declared.log.Holdings.{Holdings}
use Rattle.word_rule.specs.declared.log.LockId.{LockId}
use Rattle.node_store.specs.Holding.{SpellsHeld}
use Rattle.version_locks.specs.Locking.{Locks, IsBusy}
use Rattle.node_store.specs.Outlines.{OnlyLoads}
use Rattle.tree_descent.proofs.Descending.{found_child, weaken, steps_of_take}
use Rattle.tree_descent.specs.Paths.{IsSettledLock, StepsOnNodes}
use Rattle.tree_descent.proofs.Lowering.{settled_live, taken_at}
use Rattle.tree_descent.specs.Removing.{HoldsAlone}
use Rattle.tree_descent.specs.Stands.{HoldsChild}
use Rattle.tree_descent.specs.declared.descent.Held.{Held}
use Rattle.tree_descent.proofs.Outlining.{steps_of_loads}
use Rattle.tree_descent.proofs.NodeSteps.{steps_then, steps_so}
use Rattle.word_rule.specs.declared.log.LockId.TheVariants as lock

-- a pair of a node names a branch
pub branch_at : (level low : ℕ) (pairs : List Pair) (slot : ℕ) (p : Pair) → slice_get pairs slot ≡ Some p → (b : Branch) × (Contains (branches_from level low pairs) b × (b.child ≡ p.child) × (b.frame.high ≡ p.separator) × (b.frame.level ≡ level))
branch_at level low [] zero p at = absurd (none-some p at)
branch_at level low [] (suc slot) p at = absurd (none-some p at)
branch_at level low (x ∷ pairs) zero p at = let e : x ≡ p = same_Some _ _ at in (record { child = x.child; frame = record { level = level; low = low; high = x.separator } }, ((0, omega arith, refl), ap (λ (z : Pair). z.child) e, ap (λ (z : Pair). z.separator) e, refl))
branch_at level low (x ∷ pairs) (suc slot) p at =
    let rest = branch_at level (x.separator + 1) pairs slot p at in
    (rest.0, ((suc rest.1.0.0, (let l = rest.1.0.1 in omega (arith, l)), rest.1.0.2), rest.1.1, rest.1.2, rest.1.3))

-- that for an address holds it
pub slot_holds : (level low pc : ℕ) (pairs : List Pair) (p : Pair) → low ≤ pc → slice_get pairs (slot_for pc pairs) ≡ Some p → (b : Branch) × (Contains (branches_from level low pairs) b × (b.child ≡ p.child) × (b.frame.low ≤ pc) × (pc ≤ b.frame.high))
slot_holds level low pc [] p least at = absurd (none-some p at)
slot_holds level low pc (x ∷ pairs) p least at = go (nat_le pc x.separator) refl at (λ more there. slot_holds level (x.separator + 1) pc pairs p more there)
  where
    go : (b : Bool) → nat_le pc x.separator ≡ b → slice_get (x ∷ pairs) (if b then 0 else (slot_for pc pairs + 1)) ≡ Some p
        → (x.separator + 1 ≤ pc → slice_get pairs (slot_for pc pairs) ≡ Some p → (y : Branch) × (Contains (branches_from level (x.separator + 1) pairs) y × (y.child ≡ p.child) × (y.frame.low ≤ pc) × (pc ≤ y.frame.high)))
        → (y : Branch) × (Contains (branches_from level low (x ∷ pairs)) y × (y.child ≡ p.child) × (y.frame.low ≤ pc) × (pc ≤ y.frame.high))
    go true is there later = (record { child = x.child; frame = record { level = level; low = low; high = x.separator } }, ((0, omega arith, refl), ap (λ (z : Pair). z.child) (same_Some _ _ there), least, leb-true pc x.separator is))
    go false is there later =
        let above = leb-false pc x.separator is in
        let next : slot_for pc pairs + 1 ≡ suc (slot_for pc pairs) = omega arith in
        let rest = later (omega (arith, above)) (ap (slice_get (x ∷ pairs)) (sym next) ∙ there) in
        (rest.0, ((suc rest.1.0.0, (let l = rest.1.0.1 in omega (arith, l)), rest.1.0.2), rest.1.1, rest.1.2, rest.1.3))

-- What a live node says of a child, by a branch that names it.
pub record Names (t : Terms) (n : ℕ) (s : NodeData) (c : ℕ) (b : Branch) : Type 0 where
  pub placed : place_in c (branches (s.level - 1) s) ≡ Some b.frame
  pub within : c < t.nodes
  pub no_root : c ≢ 0
  pub no_parent : b.frame.level < s.level → c ≢ n
  pub place : (other : Branch) → Contains (branches (s.level - 1) s) other → other.child ≡ c → other.frame ≡ b.frame

pub names : (t : Terms) (n : ℕ) (s : NodeData) (f : NodeBounds) (c : ℕ) (b : Branch) → IsLiveNode t n s f → Contains (branches (s.level - 1) s) b → b.child ≡ c → Names t n s c b
names t n s f c b live there is =
    let told = all_with (λ x. (x.child < t.nodes) × (x.child ≢ 0) × (live.places x.child ≡ x.frame)) (branches (s.level - 1) s) b live.children there in
    let frame : live.places c ≡ b.frame = ap live.places (sym is) ∙ told.2 in record {
      placed = found_child c live.places (branches (s.level - 1) s) b (weaken t live.places (branches (s.level - 1) s) live.children) there is ∙ ap Some frame;
      within = subst (λ k. k < t.nodes) is told.0;
      no_root = λ e. told.1 (is ∙ e);
      no_parent = λ lower e. (let same : s.level ≡ b.frame.level = ap (λ (z : NodeBounds). z.level) (sym live.own ∙ (ap live.places (sym e) ∙ frame)) in omega (arith, same, lower));
      place = λ other at same. sym (all_with (λ x. (x.child < t.nodes) × (x.child ≢ 0) × (live.places x.child ≡ x.frame)) (branches (s.level - 1) s) other live.children at).2 ∙ (ap live.places same ∙ frame);
    }

pub by_parent : (t : Terms) (n c : ℕ) (s : NodeData) (changed : Bool) (h : Holding) (b : Branch) → IsSettledLock t n s changed h → Names t n s c b → place_by c h.mark h ≡ Some b.frame
by_parent t n c s changed h b lock named =
    let own = settled_live t n s changed h lock in
    rw own.1.0 (ap (λ (z : NodeData). place_in c (branches (z.level - 1) z)) lock.settled ∙ named.placed)

-- what is outlined is what is held
pub read_first : (n : ℕ) (content shape : NodeData) (new : Holding) (before : List Holding) (v : Log) → v.holdings.held ≡ new ∷ before → new.node ≡ n → SpellsNode new.words content → SpellsHeld n shape v → content ≡ shape
read_first n content shape new before v held is spells here =
    let found : held_of n v.holdings.held ≡ Some new = ap (held_of n) held ∙ ap (λ b. cond b (Some new) (held_of n before)) (eq-eqb new.node n is) in
    let told = subst (λ o. IsSomeAnd o (λ (h : Holding). SpellsNode h.words shape)) found here in
    same_Some _ _ (sym spells ∙ told)

-- a node of a level names no node of its own level
all_levels : (level low : ℕ) (pairs : List Pair) → AllByRecursion (λ (b : Branch). b.frame.level ≡ level) (branches_from level low pairs)
all_levels level low [] = tt
all_levels level low (p ∷ pairs) = (refl, all_levels level (p.separator + 1) pairs)

pub none_named : (f : Contents) (live : ℕ → Bool) → IsTree f live → (c q : ℕ) → live c ≡ true → (f q).level ≡ (f c).level → place_in q (branches ((f c).level - 1) (f c)) ≡ None
none_named f live tree c q lives same = go (f c).body refl (tree.ordered c lives)
  where
    none_of : (bs : List Branch) → 0 < (f c).level → AllByRecursion (FitsParent f) bs → AllByRecursion (λ (b : Branch). b.frame.level ≡ (f c).level - 1) bs → place_in q bs ≡ None
    none_of [] some fits levels = refl
    none_of (b ∷ bs) some fits levels =
        let far : b.child ≢ q = λ e. (let x = fits.0.level in let y = levels.0 in let z : (f b.child).level ≡ (f q).level = ap (λ k. (f k).level) e in omega (arith, x, y, z, same, some)) in
        rw (ne_eqb b.child q far) (none_of bs some fits.1 levels.1)

    go : (body : Body) → (f c).body ≡ body → IsOrderedAs (f c) body → place_in q (branches ((f c).level - 1) (f c)) ≡ None
    go (Entries entries) e ordered = ap (λ z. place_in q (branches_from ((f c).level - 1) (f c).low (pairs_in z))) e
    go (Pairs pairs) e ordered = none_of (branches ((f c).level - 1) (f c)) ordered.0 (tree.fitting c lives) (all_levels ((f c).level - 1) (f c).low (pairs_of (f c)))
    go (Link next) e ordered = absurd ordered

-- the child for an address is held under its parent
pub child_so : (t : Terms) (above : Held) (pc slot : ℕ) (p : Pair) (k k1 k2 : CallerData) (shape : NodeData) → k.log.terms ≡ t → HoldsAlone t above k.log.holdings → 0 < above.content.level → IsInFences pc above.content → slot ≡ slot_for pc (pairs_of above.content) → slice_get (pairs_of above.content) slot ≡ Some p → Locks (lock.Node p.child) k k1 → SpellsHeld p.child shape k1.log → k2.log.holdings ≡ k1.log.holdings
    → HoldsChild t (record { above = above; at = record { node = p.child; content = shape; changed = false }; slot = slot }) pc k2.log.holdings
child_so t above pc slot p k k1 k2 shape terms alone inner fences first at locks spells same =
    let own = settled_live t above.node above.content above.changed alone.lock alone.here in
    let holds = slot_holds (above.content.level - 1) above.content.low pc (pairs_of above.content) p fences.0 (ap (slice_get (pairs_of above.content)) (sym first) ∙ at) in
    let exact = branch_at (above.content.level - 1) above.content.low (pairs_of above.content) slot p at in
    let named = names t above.node above.content own.0 p.child holds.0 own.1.1 holds.1.0 holds.1.1 in
    let frame : exact.0.frame ≡ holds.0.frame = named.place exact.0 exact.1.0 exact.1.1 in
    let high : holds.0.frame.high ≡ p.separator = ap (λ (z : NodeBounds). z.high) (sym frame) ∙ exact.1.2 in
    let level : holds.0.frame.level ≡ above.content.level - 1 = ap (λ (z : NodeBounds). z.level) (sym frame) ∙ exact.1.3 in
    let taken = taken_at t p.child holds.0.frame (alone.lock ∷ []) k k1 terms alone.held alone.out named.no_root (ap (λ o. first_mark o None) (by_parent t above.node p.child above.content above.changed alone.lock holds.0 alone.here named)) locks in
    let is : taken.content ≡ shape = read_first p.child taken.content shape taken.new (alone.lock ∷ []) k1.log taken.held taken.here.node taken.here.spells spells in
    let top : taken.content.high ≡ p.separator = taken.high ∙ high in
    let ends : shape.high ≡ p.separator = ap (λ (z : NodeData). z.high) (sym is) ∙ top in record {
      parent_within = alone.within;
      within = named.within;
      no_parent = named.no_parent (omega (arith, level, inner));
      lower = taken.new;
      upper = alone.lock;
      held = ap (λ (z : Holdings). z.held) same ∙ taken.held;
      here = subst (λ z. IsSettledLock t p.child z false taken.new) is taken.here;
      clean = refl;
      parent = alone.here;
      out = ap (λ (z : Holdings). z.out) same ∙ taken.out;
      at = at ∙ (λ i. Some (record { child = p.child; separator = sym ends i }));
      level = (let l = taken.level in let e = ap (λ (z : NodeData). z.level) is in omega (arith, l, e, level, inner));
      fences = (let l = taken.low in let h = taken.high in let a = holds.1.2 in let b = holds.1.3 in subst (IsInFences pc) is (omega (arith, l, a), omega (arith, h, b)));
    }

pub child_within : (t : Terms) (above : Held) (holdings : Holdings) (slot : ℕ) (p : Pair) → HoldsAlone t above holdings → slice_get (pairs_of above.content) slot ≡ Some p → p.child < t.nodes
child_within t above holdings slot p alone at =
    let own = settled_live t above.node above.content above.changed alone.lock alone.here in
    let exact = branch_at (above.content.level - 1) above.content.low (pairs_of above.content) slot p at in
    (names t above.node above.content own.0 p.child exact.0 own.1.1 exact.1.0 exact.1.1).within

pub child_steps : (c : ℕ) (k k1 k2 : CallerData) → Locks (lock.Node c) k k1 → OnlyLoads k1 k2 → StepsOnNodes k k2
child_steps c k k1 k2 locks loads = steps_then k k1 k2 (steps_of_take c k k1 locks) (steps_of_loads k1 k2 loads)

-- what was locked last spells a node
pub may_read_taken : (t : Terms) (c : ℕ) (k k1 : CallerData) → Locks (lock.Node c) k k1 → IsSomeAnd (held_of c k1.log.holdings.held) (λ h. IsSome (spelled h.words))
may_read_taken t c k k1 (more, marks, nodes, version, settled, words, (tries, taken, is)) =
    subst (λ (z : CallerData). IsSomeAnd (held_of c z.log.holdings.held) (λ h. IsSome (spelled h.words))) (sym is)
    (subst (λ o. IsSomeAnd o (λ h. IsSome (spelled h.words))) (sym (ap (λ b. cond b (Some record { node = c; version = version; settled = settled; words = words; stored = false; mark = mark_at_lock c settled k.log.holdings.held }) (held_of c k.log.holdings.held)) (eq-eqb c c refl))) (subst IsSome (sym taken.spells) refl))

-- a lock that was found taken changes nothing that is held
pub busy_kept : (id : LockId) (k k' : CallerData) → IsBusy id k k' → (k'.log.holdings ≡ k.log.holdings) × (surplus k' ≡ surplus k) × StepsOnNodes k k'
busy_kept id k k' (found, (odd, is)) = (ap (λ (z : CallerData). z.log.holdings) is, ap surplus is, steps_so k is refl (_ ∷ [], refl))
