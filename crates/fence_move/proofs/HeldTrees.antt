-- What locks of live nodes say of the tree in which these are: their children, and where each stands.
use Rattle.std.proofs.Common.{◌≡◌, ℕ, Bool, IsTrue, IsSome, List, [], ◌∷◌, subst, ap, sym, ◌∙◌, ◌<◌, length, arith, refl, inl, Some, eq-eqb, ◌+◌, inr, zero, suc, ◌≢◌, ◌-◌, ◌≤◌, Option, None, ◌⊎◌, ne_eqb}
use Rattle.std.specs.List.{AllByRecursion, slice_get}
use native.Mathlib.Decide.{ℕ_discrete}
use Rattle.tree_laws.specs.Trees.{Contents, branch, branches_from, Branch, branches}
use Rattle.tree_laws.specs.Lawful.{IsFilledAs, IsOrderedAs, FitsParent, IsLawfulTree}
use Rattle.tree_shape.specs.NodeData.{NodeData, Body, Pairs, Entries, Link, Cut, pairs_of, pairs_in, frame_of}
use Rattle.tree_laws.proofs.Halves.{fewest_pairs_some}
use Rattle.tree_shape.specs.declared.pair.Pair.{Pair}
use Rattle.tree_laws.specs.Steps.{first_child, last_child}
use Rattle.tree_laws.proofs.Times.{In, some_same}
use Rattle.tree_shape.specs.declared.node.NodeBounds.{NodeBounds}
use Rattle.tree_laws.proofs.Leads.{branch_inside}
use Rattle.tree_laws.proofs.Living.{child_fits, child_live, own_branches, own_child, root_no_child}
use Rattle.tree_laws.proofs.Reach.{children}
use Rattle.tree_laws.specs.Numbers.{times}
use Rattle.word_rule.specs.declared.log.Holding.{Holding}
use Rattle.word_rule.specs.declared.log.Holdings.{Holdings}
use Rattle.word_rule.specs.NodeTells.{KnowsTree}
use Rattle.word_rule.specs.Steps.{place_in, first_mark, place_by, place_by_held}
use Rattle.word_rule.specs.declared.log.Terms.{Terms}
use Rattle.tree_descent.specs.Paths.{AreHigher, AreApart}
use Rattle.fence_move.specs.Spines.{Climbs, IsAtSlot, IsLastChild}

-- the lock is marked, and its node is live in the tree with its settled content
pub record OnTree (f : Contents) (live : ℕ → Bool) (h : Holding) : Type 0 where
  pub marked : IsSome h.mark
  pub alive : IsTrue (live h.node)
  pub content : f h.node ≡ h.settled

pub on_tree : (holdings : Holdings) (tree : KnowsTree holdings) (held : List Holding) → holdings.held ≡ held → AllByRecursion (λ (h : Holding). IsSome h.mark) held → AllByRecursion (OnTree tree.contents tree.live) held
on_tree holdings tree held is marked = go held (subst (AllByRecursion (λ (h : Holding). IsSome h.mark → IsTrue (tree.live h.node) × (tree.contents h.node ≡ h.settled))) is tree.marked) marked
  where
    go : (hs : List Holding) → AllByRecursion (λ (h : Holding). IsSome h.mark → IsTrue (tree.live h.node) × (tree.contents h.node ≡ h.settled)) hs → AllByRecursion (λ (h : Holding). IsSome h.mark) hs → AllByRecursion (OnTree tree.contents tree.live) hs
    go [] told marked = tt
    go (h ∷ hs) told marked = let here = told.0 marked.0 in (record { marked = marked.0; alive = here.0; content = here.1 }, go hs told.1 marked.1)

-- one node has one content
pub same_content : (f : Contents) (live : ℕ → Bool) (a b : Holding) → OnTree f live a → OnTree f live b → a.node ≡ b.node → a.settled ≡ b.settled
same_content f live a b at_a at_b same = sym at_a.content ∙ (ap f same ∙ at_b.content)

-- an inner node in order has pairs, which are cut by its fences
pub some_pairs : (n : ℕ) (s : NodeData) → IsOrderedAs s s.body → IsFilledAs n s.body → 0 < s.level → (0 < length (pairs_of s)) × Cut s.low s.high (pairs_of s)
some_pairs n s = go s.body
  where
    go : (body : Body) → IsOrderedAs s body → IsFilledAs n body → 0 < s.level → (0 < length (pairs_in body)) × Cut s.low s.high (pairs_in body)
    go (Entries entries) ordered filled above = absurd (let z = ordered.0 in omega (arith, z, above))
    go (Pairs pairs) ordered filled above = ((let few = filled.0 in let two = fewest_pairs_some n in omega (arith, few, two)), ordered.1)
    go (Link next) ordered filled above = absurd ordered

-- branches by their pairs
-- the first separator
abbrev pub first_high : List Pair → ℕ
first_high [] = 0
first_high (p ∷ pairs) = p.separator

pub first_in : (level low : ℕ) (pairs : List Pair) → 0 < length pairs → In (branch (first_child 0 pairs) level low (first_high pairs)) (branches_from level low pairs)
first_in level low [] some = absurd (omega (arith, some))
first_in level low (p ∷ pairs) some = inl refl

pub place_first : (level low : ℕ) (pairs : List Pair) → 0 < length pairs → place_in (first_child 0 pairs) (branches_from level low pairs) ≡ Some record { level = level; low = low; high = first_high pairs }
place_first level low [] some = absurd (omega (arith, some))
place_first level low (p ∷ pairs) some = rw (eq-eqb p.child p.child refl) refl

pub last_in : (level low high start : ℕ) (pairs : List Pair) → Cut low high pairs → 0 < length pairs → (lowest : ℕ) × In (branch (last_child start pairs) level lowest high) (branches_from level low pairs)
last_in level low high start [] cut some = absurd (omega (arith, some))
last_in level low high start (p ∷ []) cut some =
    let e : p.separator ≡ high = (let z = cut.1 in omega (arith, z)) in (low, inl (λ i. branch p.child level low (e i)))
last_in level low high start (p ∷ q ∷ pairs) cut some =
    let r = last_in level (p.separator + 1) high p.child (q ∷ pairs) cut.1 (omega arith) in (r.0, inr r.1)

pub at_in : (level low slot : ℕ) (pairs : List Pair) (p : Pair) → slice_get pairs slot ≡ Some p → (lowest : ℕ) × In (branch p.child level lowest p.separator) (branches_from level low pairs)
at_in level low slot [] p at = absurd (cc)
at_in level low zero (q ∷ pairs) p at = (low, inl (ap (λ (x : Pair). branch x.child level low x.separator) (some_same q p at)))
at_in level low (suc slot) (q ∷ pairs) p at = let r = at_in level (q.separator + 1) slot pairs p at in (r.0, inr r.1)

pub after_in : (level low slot : ℕ) (pairs : List Pair) (p q : Pair) → slice_get pairs slot ≡ Some p → slice_get pairs (suc slot) ≡ Some q → In (branch q.child level (p.separator + 1) q.separator) (branches_from level low pairs)
after_in level low slot [] p q at next = absurd (cc)
after_in level low zero (r ∷ []) p q at next = absurd (cc)
after_in level low zero (r ∷ s ∷ pairs) p q at next =
    let e : r ≡ p = some_same r p at in
    let d : s ≡ q = some_same s q next in
    inr (inl (λ i. branch (d i).child level ((e i).separator + 1) (d i).separator))
after_in level low (suc slot) (r ∷ pairs) p q at next = inr (after_in level (r.separator + 1) slot pairs p q at next)

module _ (f : Contents) (live : ℕ → Bool) (lawful : IsLawfulTree f live) where
  pub inner : (h : Holding) → OnTree f live h → 0 < h.settled.level → (0 < length (pairs_of h.settled)) × Cut h.settled.low h.settled.high (pairs_of h.settled)
  inner h on above = some_pairs h.node h.settled (subst (λ s. IsOrderedAs s s.body) on.content (lawful.tree.ordered h.node on.alive)) (subst (λ s. IsFilledAs h.node s.body) on.content (lawful.filled h.node on.alive)) above

  -- a child that a lock's node names
  pub record IsChild (b : Branch) : Type 0 where
    pub alive : IsTrue (live b.child)
    pub fits : FitsParent f b
    pub no_root : b.child ≢ 0

  pub child : (h : Holding) (b : Branch) → OnTree f live h → In b (branches (h.settled.level - 1) h.settled) → IsChild b
  child h b on there =
      let own : In b (own_branches f h.node) = subst (λ s. In b (branches (s.level - 1) s)) (sym on.content) there in record {
        alive = child_live f live lawful.tree h.node on.alive b own;
        fits = child_fits f live lawful.tree h.node on.alive b own;
        no_root = λ e. root_no_child f live lawful.tree h.node on.alive (subst (λ x. 0 < times x (children f h.node)) e (own_child f h.node b own));
      }

  -- a lock of the child has its frame
  pub child_frame : (h : Holding) (b : Branch) → IsChild b → OnTree f live h → h.node ≡ b.child → (h.settled.level ≡ b.frame.level) × (h.settled.low ≡ b.frame.low) × (h.settled.high ≡ b.frame.high)
  child_frame h b is on same =
      let e : h.settled ≡ f b.child = sym on.content ∙ ap f same in
      (ap (λ s. s.level) e ∙ is.fits.level, ap (λ s. s.low) e ∙ is.fits.low, ap (λ s. s.high) e ∙ is.fits.high)

  -- a node of the left spine ends at the separator
  pub record EndsAt (separator : ℕ) (h : Holding) : Type 0 where
    pub low : h.settled.low ≤ separator
    pub high : h.settled.high ≡ separator

  pub ends_at_slot : (slot : ℕ) (lower top : Holding) → OnTree f live lower → OnTree f live top → (at : IsAtSlot slot lower top) → EndsAt at.pair.separator lower
  ends_at_slot slot lower top on above at =
      let up = at.level in
      let cut = inner top above (omega (arith, up)) in
      let found = at_in (top.settled.level - 1) top.settled.low slot (pairs_of top.settled) at.pair at.at in
      let b : Branch = branch at.pair.child (top.settled.level - 1) found.0 at.pair.separator in
      let inside = branch_inside (top.settled.level - 1) top.settled.low top.settled.high (pairs_of top.settled) b cut.1 found.1 in
      let frame = child_frame lower b (child top b above found.1) on (sym at.child) in
      record { low = (let x = frame.1 in let y = inside.1 in omega (arith, x, y)); high = frame.2 }

  pub ends_at_last : (separator : ℕ) (lower h : Holding) → OnTree f live lower → OnTree f live h → IsLastChild lower h → EndsAt separator h → EndsAt separator lower
  ends_at_last separator lower h on above last ends =
      let up = last.1 in
      let cut = inner h above (omega (arith, up)) in
      let found = last_in (h.settled.level - 1) h.settled.low h.settled.high 0 (pairs_of h.settled) cut.1 cut.0 in
      let b : Branch = branch (last_child 0 (pairs_of h.settled)) (h.settled.level - 1) found.0 h.settled.high in
      let inside = branch_inside (h.settled.level - 1) h.settled.low h.settled.high (pairs_of h.settled) b cut.1 found.1 in
      let frame = child_frame lower b (child h b above found.1) on last.0 in
      record { low = (let x = frame.1 in let y = inside.1 in let z = ends.high in omega (arith, x, y, z)); high = frame.2 ∙ ends.high }

  -- the left spine's lowest slot in X, and where all of it ends
  pub record Forks (slot : ℕ) (lower : Holding) (spine : List Holding) (top : Holding) : Type 0 where
    pub base : Holding
    pub at : IsAtSlot slot base top
    pub ends : EndsAt at.pair.separator lower
    pub each : AllByRecursion (EndsAt at.pair.separator) spine
    pub under : lower.settled.level + 1 ≤ top.settled.level

  pub forks : (slot : ℕ) (lower : Holding) (spine : List Holding) (top : Holding) → OnTree f live lower → AllByRecursion (OnTree f live) spine → OnTree f live top → Climbs slot lower spine top → Forks slot lower spine top
  forks slot lower [] top on each above climb = record { base = lower; at = climb; ends = ends_at_slot slot lower top on above climb; each = tt; under = (let l = climb.level in omega (arith, l)) }
  forks slot lower (h ∷ spine) top on each above climb =
      let rest = forks slot h spine top each.0 each.1 above climb.1 in
      record { base = rest.base; at = rest.at; ends = ends_at_last rest.at.pair.separator lower h on each.0 climb.0 rest.ends; each = (rest.ends, rest.each); under = (let l = climb.0.1 in let u = rest.under in omega (arith, l, u)) }

  -- where a held node names another, its place is the one that it has in the tree
  frame_is : (b : Branch) → FitsParent f b → b.frame ≡ frame_of (f b.child)
  frame_is b fits = (λ i. record { level = sym fits.level i; low = sym fits.low i; high = sym fits.high i })

  find_child : (c : ℕ) (bs : List Branch) → ((b : Branch) → In b bs → FitsParent f b) → ((place_in c bs ≡ None) × ((b : Branch) → In b bs → b.child ≢ c)) ⊎ (place_in c bs ≡ Some (frame_of (f c)))
  find_child c [] fit = inl (refl, λ b there. absurd there)
  find_child c (x ∷ bs) fit = go (ℕ_discrete x.child c) (find_child c bs (λ b there. fit b (inr there)))
    where
      go : Dec (x.child ≡ c) → ((place_in c bs ≡ None) × ((b : Branch) → In b bs → b.child ≢ c)) ⊎ (place_in c bs ≡ Some (frame_of (f c))) → ((place_in c (x ∷ bs) ≡ None) × ((b : Branch) → In b (x ∷ bs) → b.child ≢ c)) ⊎ (place_in c (x ∷ bs) ≡ Some (frame_of (f c)))
      go (yes e) rest = inr (rw (eq-eqb x.child c e) (ap Some (frame_is x (fit x (inl refl)) ∙ ap (λ n. frame_of (f n)) e)))
      go (no ne) (inr there) = inr (rw (ne_eqb x.child c ne) there)
      go (no ne) (inl none) = inl (
        rw (ne_eqb x.child c ne) none.0,
        λ b there. elim there [ inl e ↦ λ is. ne (ap (λ (z : Branch). z.child) e ∙ is) | inr later ↦ none.1 b later ],
      )

  pub placed_in_tree : (c : ℕ) (h : Holding) (b : Branch) (held : List Holding) → AllByRecursion (OnTree f live) held → In h held → In b (branches (h.settled.level - 1) h.settled) → b.child ≡ c → place_by_held c held ≡ Some (frame_of (f c))
  placed_in_tree c h b [] on there names is = absurd there
  placed_in_tree c h b (a ∷ held) on there names is =
      go a.mark refl on.0.marked (find_child c (branches (a.settled.level - 1) a.settled) (λ x at. (child a x on.0 at).fits)) there (λ later. placed_in_tree c h b held on.1 later names is)
    where
      go : (o : Option NodeBounds) → a.mark ≡ o → IsSome o → ((place_in c (branches (a.settled.level - 1) a.settled) ≡ None) × ((x : Branch) → In x (branches (a.settled.level - 1) a.settled) → x.child ≢ c)) ⊎ (place_in c (branches (a.settled.level - 1) a.settled) ≡ Some (frame_of (f c)))
          → (a ≡ h) ⊎ In h held → (In h held → place_by_held c held ≡ Some (frame_of (f c))) → place_by_held c (a ∷ held) ≡ Some (frame_of (f c))
      go None e some_mark found there later = absurd (cc)
      go (Some m) e some_mark (inr found) there later =
          ap (λ o. first_mark (place_by c o a) (place_by_held c held)) e ∙ ap (λ o. first_mark o (place_by_held c held)) found
      go (Some m) e some_mark (inl none) (inl same) later = absurd (none.1 b (subst (λ (z : Holding). In b (branches (z.settled.level - 1) z.settled)) (sym same) names) is)
      go (Some m) e some_mark (inl none) (inr there) later =
          ap (λ o. first_mark (place_by c o a) (place_by_held c held)) e ∙ (ap (λ o. first_mark o (place_by_held c held)) none.0 ∙ later there)

  -- locks of ever higher levels are of different nodes
  apart_from : (t : Terms) (level : ℕ) (h : Holding) (held : List Holding) → OnTree f live h → AllByRecursion (OnTree f live) held → h.settled.level ≤ level → AreHigher t level held → AllByRecursion (λ (a : Holding). a.node ≢ h.node) held
  apart_from t level h [] on each low higher = tt
  apart_from t level h (a ∷ held) on each low higher = (
    (λ e. (let same = ap (λ (s : NodeData). s.level) (same_content f live a h each.0 on e) in let up = higher.1 in omega (arith, same, up, low))),
    apart_from t a.settled.level h held on each.1 (let up = higher.1 in omega (arith, up, low)) higher.2,
  )

  pub apart : (t : Terms) (level : ℕ) (held : List Holding) → AllByRecursion (OnTree f live) held → AreHigher t level held → AreApart held
  apart t level [] each higher = tt
  apart t level (h ∷ held) each higher = (apart_from t h.settled.level h held each.0 each.1 (omega arith) higher.2, apart t h.settled.level held each.1 higher.2)

  pub apart_with : (t : Terms) (level : ℕ) (h : Holding) (held : List Holding) → OnTree f live h → AllByRecursion (OnTree f live) held → h.settled.level ≤ level → AreHigher t level held → AreApart (h ∷ held)
  apart_with t level h held on each low higher = (apart_from t level h held on each low higher, apart t level held each higher)
