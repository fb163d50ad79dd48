-- Laws of whole trees: entries in order, lookups, and fillings.
use Rattle.std.proofs.Common.{◌≡◌, ℕ, zero, suc, ◌+◌, ◌-◌, ◌^◌, ◌<◌, ◌≤◌, ◌↔◌, List, []}
use Rattle.std.proofs.Common.{◌∷◌, ◌++◌, refl, ap, sym, ◌∙◌, subst, arith, Bool}
use Rattle.std.proofs.Common.{IsTrue, inl, inr, Some}
use Rattle.std.specs.List.{flat_map, Contains}
use Rattle.std.proofs.lemmas.Bool.{cases_Bool, cond-true, cond-false}
use Rattle.std.proofs.lemmas.List.{append-nil}
use Rattle.std.proofs.lemmas.List.Concat.{flat_map-append}
use Rattle.reg_model.specs.declared.span.Member.{Member}
use Rattle.reg_model.specs.SpanData.{contains}
use Rattle.reg_model.specs.Query.{member_at}
use Rattle.reg_model.proofs.Spans.{contains_bounds, contains_from}
use Rattle.tree_shape.specs.declared.pair.Pair.{Pair}
use Rattle.tree_shape.specs.NodeData.{NodeData, Body, Pairs, Entries, Link, entries_of, entries_in}
use Rattle.tree_shape.specs.NodeData.{pairs_of, EntriesWithin, Cut, IsLeaf, IsInFences}
use Rattle.tree_shape.specs.NodeData.{LiesInFences}
use Rattle.tree_laws.specs.Trees.{Contents, Branch, branch, branches_from, branches, nodes_under}
use Rattle.tree_laws.specs.Trees.{nodes}
use Rattle.tree_laws.specs.Trees.{entries, leaf_for, HasEntry}
use Rattle.tree_laws.specs.Lawful.{IsTree, IsOrderedAs}
use Rattle.tree_laws.proofs.Times.{In, some_same, in_times, times_in, in_flat_map}
use Rattle.tree_laws.proofs.Times.{in_flat_map_from}
use Rattle.tree_laws.proofs.Reach.{branch_level}
use Rattle.tree_laws.proofs.Living.{own_branches, own_at, live_node, node_live, root_live}
use Rattle.tree_laws.proofs.Living.{child_live, child_fits}
use Rattle.tree_laws.proofs.Leads.{contains_in, in_contains, entry_inside, entry_ordered}
use Rattle.tree_laws.proofs.Leads.{last_below, leaf_says, leaf_at_zero, inner_above, leads_inside}
use Rattle.tree_laws.proofs.Leads.{leads, leads_to}
use Rattle.tree_laws.proofs.Runs.{entries_join}

abbrev pub held_by : Contents → ℕ → List Member
held_by f n = entries_of (f n)

-- The entries below a node are in order between its fences.
order_of_pairs : (f : Contents) (level low high : ℕ) (pairs : List Pair) → Cut low high pairs →
    ((b : Branch) → In b (branches_from level low pairs) → EntriesWithin
    b.frame.low b.frame.high (flat_map (held_by f) (nodes_under f level b.child))) →
    EntriesWithin low high (flat_map (held_by f) (flat_map (λ (b : Branch). nodes_under f level b.child) (branches_from level low pairs)))
order_of_pairs f level low high [] cut each = (tt, tt)
order_of_pairs f level low high (p ∷ pairs) cut each =
    let first = each (branch p.child level low p.separator) (inl refl) in
    let rest = order_of_pairs f level (p.separator + 1) high pairs cut.1 (λ b there. each b (inr there)) in
    let top = last_below (p.separator + 1) high pairs cut.1 in
    subst (EntriesWithin low high)
    (sym (flat_map-append (held_by f) (nodes_under f level p.child) (flat_map (λ (b : Branch). nodes_under f level b.child) (branches_from level (p.separator + 1) pairs))))
    (entries_join low high p.separator (flat_map (held_by f) (nodes_under f level p.child))
    (flat_map (held_by f) (flat_map (λ (b : Branch). nodes_under f level b.child) (branches_from level (p.separator + 1) pairs))) first rest (omega arith) (omega (arith, cut.0)))

inner_holds_none : (s : NodeData) (b : Body) → IsOrderedAs s b → 0 < s.level → entries_in b ≡ []
inner_holds_none s (Pairs pairs) ordered above = refl
inner_holds_none s (Entries es) ordered above = absurd (omega arith)
inner_holds_none s (Link next) ordered above = refl

pub in_order : (f : Contents) (live : ℕ → Bool) → IsTree f live → (level n : ℕ) → IsTrue (live n) → (f n).level ≡ level →
    EntriesWithin (f n).low (f n).high (flat_map (held_by f) (nodes_under f level n))
in_order f live tree zero n alive at = subst (EntriesWithin (f n).low (f n).high) (sym (append-nil (entries_of (f n)))) (leaf_at_zero (f n) (f n).body (tree.ordered n alive) at)
in_order f live tree (suc level) n alive at =
    let none = inner_holds_none (f n) (f n).body (tree.ordered n alive) (omega arith) in
    let cut = inner_above (f n) (f n).body (tree.ordered n alive) (omega arith) in
    subst (λ es. EntriesWithin (f n).low (f n).high (es ++ flat_map (held_by f) (flat_map (λ (b : Branch). nodes_under f level b.child) (branches level (f n))))) (sym none)
    (order_of_pairs f level (f n).low (f n).high (pairs_of (f n)) cut (λ b there.
    let own : In b (own_branches f n) = subst (λ bs. In b bs) (sym (own_at f n level at)) there in
    let fits = child_fits f live tree n alive b own in
    let below' = in_order f live tree level b.child (child_live f live tree n alive b own) (fits.level ∙ branch_level level (f n).low (pairs_of (f n)) b there) in
    subst (λ l. EntriesWithin l b.frame.high (flat_map (held_by f) (nodes_under f level b.child)))
    fits.low
    (subst (λ h. EntriesWithin (f b.child).low h (flat_map (held_by f) (nodes_under f level b.child))) fits.high below')))

pub entries_in_order : (f : Contents) (live : ℕ → Bool) → IsTree f live → EntriesWithin 0 (2 ^ 64 - 1) (entries f)
entries_in_order f live tree =
    subst (λ l. EntriesWithin l (2 ^ 64 - 1) (entries f)) tree.root_low
    (subst (λ h. EntriesWithin (f 0).low h (entries f)) tree.root_high (in_order f live tree (f 0).level 0 (root_live f live tree) refl))

-- They are the entries of the live nodes.
pub entries_are : (f : Contents) (live : ℕ → Bool) → IsTree f live → (m : Member) → Contains (entries f) m ↔ HasEntry f live m
entries_are f live tree m = (
  λ there.
      let found = in_flat_map (held_by f) (nodes f) m (contains_in (entries f) m there) in
      (found.0, (node_live f live tree found.0 (in_times (nodes f) found.0 found.1.0), in_contains (entries_of (f found.0)) m found.1.1)),
  λ has. in_contains (entries f) m (in_flat_map_from (held_by f) (nodes f) has.0 m (times_in (nodes f) has.0 (live_node f live tree has.0 has.1.0)) (contains_in (entries_of (f has.0)) m has.1.1)),
)

-- Lookups.
found_in : (pc : ℕ) (es : List Member) (m : Member) → member_at pc es ≡ Some m → In m es × IsTrue (contains m.span pc)
found_in pc [] m at = absurd (cc)
found_in pc (e ∷ es) m at = elim (cases_Bool (contains e.span pc)) [
  | inl hits ↦
      let is : e ≡ m = some_same e m (sym (cond-true (contains e.span pc) (Some e) (member_at pc es) hits) ∙ at) in
      (inl is, subst (λ (x : Member). IsTrue (contains x.span pc)) is hits)
  | inr misses ↦
      let rest = found_in pc es m (sym (cond-false (contains e.span pc) (Some e) (member_at pc es) misses) ∙ at) in
      (inr rest.0, rest.1)
]

found_from : (pc low high : ℕ) (es : List Member) (m : Member) → EntriesWithin low high es → In m es → IsTrue (contains m.span pc) → member_at pc es ≡ Some m
found_from pc low high [] m within there holds = absurd there
found_from pc low high (e ∷ es) m within there holds = elim there [
  | inl is ↦ cond-true (contains e.span pc) (Some e) (member_at pc es) (subst (λ (x : Member). IsTrue (contains x.span pc)) (sym is) holds) ∙ ap Some is
  | inr later ↦ elim (cases_Bool (contains e.span pc)) [
    | inl also ↦
        let at = contains_bounds m.span pc holds in
        let at' = contains_bounds e.span pc also in
        let inside = entry_inside (e.span.last + 1) high es m (within.0.2, within.1.1) later in
        absurd (omega (arith, at.0, at'.1, inside.0))
    | inr misses ↦ cond-false (contains e.span pc) (Some e) (member_at pc es) misses
        ∙ found_from pc (e.span.last + 1) high es m (within.0.2, within.1.1) later holds
  ]
]

is_leaf_at : (s : NodeData) (b : Body) → IsOrderedAs s b → s.level ≡ 0 → b ≡ Entries (entries_in b)
is_leaf_at s (Pairs pairs) ordered at = absurd (omega arith)
is_leaf_at s (Entries es) ordered at = refl
is_leaf_at s (Link next) ordered at = absurd ordered

pub lookup_leaf : (f : Contents) (live : ℕ → Bool) → IsTree f live → (pc : ℕ) → pc ≤ 2 ^ 64 - 1 → IsTrue (live (leaf_for f pc)) × IsLeaf (f (leaf_for f pc))
lookup_leaf f live tree pc inside =
    let low = tree.root_low in
    let high = tree.root_high in
    let to = leads_to f live tree pc (f 0).level 0 (root_live f live tree) refl (omega arith) (omega arith) in
    (to.0, is_leaf_at (f (leaf_for f pc)) (f (leaf_for f pc)).body (tree.ordered (leaf_for f pc) to.0) to.1)

pub lookup_finds : (f : Contents) (live : ℕ → Bool) → IsTree f live → (pc : ℕ) → pc ≤ 2 ^ 64 - 1 → (m : Member) →
    (member_at pc (entries_of (f (leaf_for f pc))) ≡ Some m) ↔ (HasEntry f live m × IsTrue (contains m.span pc))
lookup_finds f live tree pc inside m =
    let low = tree.root_low in
    let high = tree.root_high in
    let to = leads_to f live tree pc (f 0).level 0 (root_live f live tree) refl (omega arith) (omega arith) in
    let within = leaf_at_zero (f (leaf_for f pc)) (f (leaf_for f pc)).body (tree.ordered (leaf_for f pc) to.0) to.1 in (
      λ found.
          let there = found_in pc (entries_of (f (leaf_for f pc))) m found in
          ((leaf_for f pc, (to.0, in_contains (entries_of (f (leaf_for f pc))) m there.0)), there.1),
      λ h.
          let at = contains_in (entries_of (f h.0.0)) m h.0.1.1 in
          let bounds = contains_bounds m.span pc h.1 in
          let led = leads f live tree pc (f 0).level 0 (root_live f live tree) refl h.0.0 (live_node f live tree h.0.0 h.0.1.0) m at bounds.0 bounds.1 in
          found_from pc (f (leaf_for f pc)).low (f (leaf_for f pc)).high (entries_of (f (leaf_for f pc))) m within (subst (λ n. In m (entries_of (f n))) (sym led.0) at) h.1,
    )

-- The fences of a live leaf.
pub leaf_kind : (f : Contents) (live : ℕ → Bool) (n : ℕ) → IsTree f live → IsTrue (live n) →
    IsLeaf (f n) ↔ ((f n).level ≡ 0)
leaf_kind f live n tree alive = (
  λ leaf. (subst (λ b. IsOrderedAs (f n) b) leaf (tree.ordered n alive)).0,
  λ at. is_leaf_at (f n) (f n).body (tree.ordered n alive) at,
)

-- an address inside the fences of a live leaf leads to it
led_inside : (f : Contents) (live : ℕ → Bool) (leaf pc : ℕ) → IsTree f live → IsTrue (live leaf) →
    IsLeaf (f leaf) →
    IsInFences pc (f leaf) → leaf_for f pc ≡ leaf
led_inside f live leaf pc tree alive is_leaf inside =
    (leads_inside f live tree pc (f 0).level 0 (root_live f live tree) refl leaf
    (live_node f live tree leaf alive)
    ((leaf_kind f live leaf tree alive).0 is_leaf) inside.0 inside.1).0

pub fenced_leaf : (f : Contents) (live : ℕ → Bool) (leaf pc : ℕ) → IsTree f live →
    IsTrue (live leaf) → IsLeaf (f leaf) →
    pc ≤ 2 ^ 64 - 1 → (leaf_for f pc ≡ leaf) ↔ IsInFences pc (f leaf)
fenced_leaf f live leaf pc tree alive is_leaf top = (
  λ is.
      let low = tree.root_low in
      let high = tree.root_high in
      let to = leads_to f live tree pc (f 0).level 0 (root_live f live tree) refl (omega arith)
      (omega arith) in
      subst (λ n. IsInFences pc (f n)) is (to.2, to.3),
  led_inside f live leaf pc tree alive is_leaf,
)

pub fenced_entries : (f : Contents) (live : ℕ → Bool) (leaf : ℕ) (m : Member) → IsTree f live →
    IsTrue (live leaf) →
    IsLeaf (f leaf) → Contains (entries_of (f leaf)) m ↔
    (HasEntry f live m × LiesInFences m.span (f leaf))
fenced_entries f live leaf m tree alive is_leaf =
    let within = leaf_at_zero (f leaf) (f leaf).body (tree.ordered leaf alive)
    ((leaf_kind f live leaf tree alive).0 is_leaf) in (
      λ held. (
        (leaf, (alive, held)),
        entry_inside (f leaf).low (f leaf).high (entries_of (f leaf))
            m within (contains_in (entries_of (f leaf)) m held),
      ),
      λ h.
          let x = h.0.0 in
          let at = contains_in (entries_of (f x)) m h.0.1.1 in
          let says = leaf_says (f x) (f x).body (tree.ordered x h.0.1.0) m at in
          let order = entry_ordered (f x).low (f x).high (entries_of (f x)) m says.1 at in
          let fences = h.1 in
          let to_leaf = led_inside f live leaf m.span.first tree alive is_leaf
          (fences.0, omega (arith, fences.1)) in
          let to_x = leads f live tree m.span.first (f 0).level 0 (root_live f live tree) refl x
          (live_node f live tree x h.0.1.0) m at (omega arith) order in
          subst (λ n. Contains (entries_of (f n)) m) (sym to_x.0 ∙ to_leaf) h.0.1.1,
    )

pub fenced_found : (f : Contents) (live : ℕ → Bool) (leaf pc : ℕ) (m : Member) → IsTree f live →
    IsTrue (live leaf) →
    IsLeaf (f leaf) → IsInFences pc (f leaf) →
    (member_at pc (entries_of (f leaf)) ≡ Some m) ↔
    (HasEntry f live m × IsTrue (contains m.span pc))
fenced_found f live leaf pc m tree alive is_leaf inside =
    let whole = leads_inside f live tree pc (f 0).level 0 (root_live f live tree) refl leaf
    (live_node f live tree leaf alive)
    ((leaf_kind f live leaf tree alive).0 is_leaf) inside.0 inside.1 in
    let high = tree.root_high in
    subst (λ n. (member_at pc (entries_of (f n)) ≡ Some m) ↔
    (HasEntry f live m × IsTrue (contains m.span pc))) whole.0
    (lookup_finds f live tree pc (omega (arith, whole.2)) m)

-- two entries of a tree that begin at one address are one
pub one_at : (f : Contents) (live : ℕ → Bool) → IsTree f live → (m x : Member) → HasEntry f live m →
    HasEntry f live x →
    m.span.first ≡ x.span.first → m ≡ x
one_at f live tree m x (n, (alive, held)) other same =
    let at = contains_in (entries_of (f n)) m held in
    let says = leaf_says (f n) (f n).body (tree.ordered n alive) m at in
    let order = entry_ordered (f n).low (f n).high (entries_of (f n)) m says.1 at in
    let led = leads f live tree m.span.first (f 0).level 0 (root_live f live tree) refl n
    (live_node f live tree n alive) m at (omega arith) order in
    let high = tree.root_high in
    let found = lookup_finds f live tree m.span.first (omega (arith, led.2)) in
    let k = other.0 in
    let there = contains_in (entries_of (f k)) x other.1.1 in
    let also = leaf_says (f k) (f k).body (tree.ordered k other.1.0) x there in
    let order' = entry_ordered (f k).low (f k).high (entries_of (f k)) x also.1 there in
    some_same m x
    (sym ((found m).1 (
      (n, (alive, held)),
      contains_from m.span m.span.first (omega arith)
          order,
    ))
    ∙ (found x).1 (other, contains_from x.span m.span.first (omega arith) (omega arith)))
