-- A node and some of its children: what they reach, and when new contents of theirs are a local change.
use Rattle.std.proofs.Common.{◌≡◌, ◌≢◌, ℕ, zero, suc, ◌+◌, ◌-◌, ◌<◌, ◌≤◌, ◌↔◌, List, [], ◌∷◌, ◌++◌}
use Rattle.std.proofs.Common.{map, refl, ap, sym, ◌∙◌, subst, arith, Bool, false, cond, ◌||◌}
use Rattle.std.proofs.Common.{IsTrue, eqb, inl, inr}
use Rattle.std.specs.List.{flat_map, AllByRecursion}
use Rattle.std.proofs.lemmas.Bool.{cases_eq, cases_Bool, eq-eqb, eqb-true, or_left, or_right}
use Rattle.std.proofs.lemmas.Bool.{or_from, or_cases, lt-ltb, ltb-true, both_ways}
use Rattle.std.proofs.lemmas.List.Concat.{flat_map-append}
use Rattle.std.proofs.lemmas.List.{append-nil}
use Rattle.reg_model.specs.declared.span.Member.{Member}
use Rattle.tree_shape.specs.declared.pair.Pair.{Pair}
use Rattle.tree_laws.specs.Numbers.{times, once, is_among}
use Rattle.tree_shape.specs.NodeData.{entries_of, pairs_of}
use Rattle.tree_laws.specs.Trees.{Contents, Branch, branches_from, branches, nodes, within}
use Rattle.tree_laws.specs.Trees.{leaving, HasEntry}
use Rattle.tree_laws.specs.Lawful.{IsTree, IsOrdered, FitsParent}
use Rattle.tree_laws.specs.LocalChange.{IsLocalChange, either, reached_nodes}
use Rattle.tree_laws.proofs.Times.{In, all_from, in_append, in_left, in_right, in_flat_map}
use Rattle.tree_laws.proofs.Times.{in_flat_map_from, times_head, times_cases, times_under}
use Rattle.tree_laws.proofs.Times.{once_same, once_other}
use Rattle.tree_laws.proofs.Reach.{children, branch_level, onward, outward}
use Rattle.tree_laws.proofs.Living.{own_branches, own_at, no_branches, root_live, child_live}
use Rattle.tree_laws.proofs.Living.{child_fits, live_node, one_way, parents}
use Rattle.tree_laws.proofs.Leads.{contains_in, in_contains, leaf_says}

-- the children's numbers
abbrev pub numbers : List Branch → List ℕ
numbers bs = map (λ (b : Branch). b.child) bs

pub numbers_from : (bs : List Branch) (b : Branch) → In b bs → 0 < times b.child (numbers bs)
numbers_from [] b there = absurd there
numbers_from (c ∷ bs) b there = elim there [
  | inl e ↦ subst (λ (x : Branch). 0 < times x.child (c.child ∷ numbers bs)) e (times_head c.child (numbers bs))
  | inr later ↦ omega (arith, numbers_from bs b later)
]

pub numbers_in : (bs : List Branch) (x : ℕ) → 0 < times x (numbers bs) → (b : Branch) × (In b bs × (b.child ≡ x))
numbers_in [] x there = absurd (omega arith)
numbers_in (b ∷ bs) x there = elim (times_cases x b.child (numbers bs) there) [
  | inl e ↦ (b, (inl refl, sym e))
  | inr later ↦ let found = numbers_in bs x later in (found.0, (inr found.1.0, found.1.1))
]

pub numbers-append : (x : ℕ) (bs cs : List Branch) → times x (numbers (bs ++ cs)) ≡ times x (numbers bs) + times x (numbers cs)
numbers-append x [] cs = omega arith
numbers-append x (b ∷ bs) cs = omega (arith, numbers-append x bs cs)

numbers_children : (x level low : ℕ) (pairs : List Pair) → times x (numbers (branches_from level low pairs)) ≡ times x (map (λ (p : Pair). p.child) pairs)
numbers_children x level low [] = refl
numbers_children x level low (p ∷ pairs) = omega (arith, numbers_children x level (p.separator + 1) pairs)

-- the branches of a node so many levels up
abbrev pub exits_of : Contents → ℕ → ℕ → List Branch
exits_of f zero n = []
exits_of f (suc level) n = branches level (f n)

-- branches to nodes outside a set
pub quiet_onward : (set : ℕ → Bool) (f : Contents) (level : ℕ) (bs : List Branch) →
    ((b : Branch) → In b bs → set b.child ≡ false) → flat_map (onward set f level) bs ≡ []
quiet_onward set f level [] quiet = refl
quiet_onward set f level (b ∷ bs) quiet =
    ap (λ v. cond v (within set f level b.child) [] ++ flat_map (onward set f level) bs) (quiet b (inl refl)) ∙ quiet_onward set f level bs (λ c there. quiet c (inr there))

pub quiet_outward : (set : ℕ → Bool) (f : Contents) (level : ℕ) (bs : List Branch) →
    ((b : Branch) → In b bs → set b.child ≡ false) → flat_map (outward set f level) bs ≡ bs
quiet_outward set f level [] quiet = refl
quiet_outward set f level (b ∷ bs) quiet =
    ap (λ v. cond v (leaving set f level b.child) (b ∷ []) ++ flat_map (outward set f level) bs) (quiet b (inl refl))
    ∙ ap (λ cs. b ∷ cs) (quiet_outward set f level bs (λ c there. quiet c (inr there)))

-- a node none of whose children is in the set
pub alone : (set : ℕ → Bool) (f : Contents) (level n : ℕ) → ((c : Branch) → In c (exits_of f level n) → set c.child ≡ false) →
    (within set f level n ≡ n ∷ []) × (leaving set f level n ≡ exits_of f level n)
alone set f zero n quiet = (refl, refl)
alone set f (suc level) n quiet =
    (ap (λ l. n ∷ l) (quiet_onward set f level (branches level (f n)) quiet), quiet_outward set f level (branches level (f n)) quiet)

-- branches to nodes in a set, none of whose children is in it
chosen : (set : ℕ → Bool) (f : Contents) (level : ℕ) (bs : List Branch) →
    ((b : Branch) → In b bs → IsTrue (set b.child)) → ((b : Branch) → In b bs → (c : Branch) → In c (exits_of f level b.child) → set c.child ≡ false) →
    (flat_map (onward set f level) bs ≡ numbers bs) × (flat_map (outward set f level) bs ≡ flat_map (λ b. exits_of f level b.child) bs)
chosen set f level [] inside quiet = (refl, refl)
chosen set f level (b ∷ bs) inside quiet =
    let rest = chosen set f level bs (λ c there. inside c (inr there)) (λ c there. quiet c (inr there)) in
    let one = alone set f level b.child (quiet b (inl refl)) in (
      ap (λ v. cond v (within set f level b.child) [] ++ flat_map (onward set f level) bs) (inside b (inl refl))
          ∙ ap (λ l. l ++ flat_map (onward set f level) bs) one.0 ∙ ap (λ l. b.child ∷ l) rest.0,
      ap (λ v. cond v (leaving set f level b.child) (b ∷ []) ++ flat_map (outward set f level) bs) (inside b (inl refl))
          ∙ ap (λ l. l ++ flat_map (outward set f level) bs) one.1 ∙ ap (λ l. exits_of f level b.child ++ l) rest.1,
    )

-- a node of whose children some in a row are in the set
pub two_levels : (set : ℕ → Bool) (f : Contents) (level n : ℕ) (front middle back : List Branch) → branches level (f n) ≡ front ++ (middle ++ back) →
    ((b : Branch) → In b front → set b.child ≡ false) → ((b : Branch) → In b back → set b.child ≡ false) →
    ((b : Branch) → In b middle → IsTrue (set b.child)) → ((b : Branch) → In b middle → (c : Branch) → In c (exits_of f level b.child) → set c.child ≡ false) →
    (within set f (suc level) n ≡ n ∷ numbers middle) × (leaving set f (suc level) n ≡ front ++ (flat_map (λ b. exits_of f level b.child) middle ++ back))
two_levels set f level n front middle back is quiet_front quiet_back inside quiet =
    let some = chosen set f level middle inside quiet in (
      ap (λ l. n ∷ l) (
          ap (flat_map (onward set f level)) is
          ∙ flat_map-append (onward set f level) front (middle ++ back)
          ∙ ap (λ l. l ++ flat_map (onward set f level) (middle ++ back)) (quiet_onward set f level front quiet_front)
          ∙ flat_map-append (onward set f level) middle back
          ∙ ap (λ l. flat_map (onward set f level) middle ++ l) (quiet_onward set f level back quiet_back)
          ∙ append-nil (flat_map (onward set f level) middle)
          ∙ some.0),
      ap (flat_map (outward set f level)) is
          ∙ flat_map-append (outward set f level) front (middle ++ back)
          ∙ ap (λ l. l ++ flat_map (outward set f level) (middle ++ back)) (quiet_outward set f level front quiet_front)
          ∙ ap (λ l. front ++ l) (flat_map-append (outward set f level) middle back
          ∙ ap (λ l. flat_map (outward set f level) middle ++ l) (quiet_outward set f level back quiet_back)
          ∙ ap (λ l. l ++ back) some.1),
    )

-- a node and some of its children, as a test
abbrev pub family : ℕ → List Branch → ℕ → Bool
family n middle x = eqb x n || is_among (numbers middle) x

-- A live node, some of its children in a row, and fresh nodes, which aren't live.
pub record Grouped (f : Contents) (live : ℕ → Bool) (n level : ℕ) (front old back : List Branch) (fresh : ℕ → Bool) : Type 0 where
  pub alive : IsTrue (live n)
  pub at : (f n).level ≡ suc level
  pub before : branches level (f n) ≡ front ++ (old ++ back)
  pub free : (x : ℕ) → IsTrue (fresh x) → live x ≡ false

module _ (f : Contents) (live : ℕ → Bool) (tree : IsTree f live) (n level : ℕ) (front old back : List Branch) (fresh : ℕ → Bool)
    (r : Grouped f live n level front old back fresh) where
  pub own_before : own_branches f n ≡ front ++ (old ++ back)
  own_before = own_at f n level r.at ∙ r.before

  pub own_of : (b : Branch) → In b (front ++ (old ++ back)) → In b (own_branches f n)
  own_of b there = subst (λ bs. In b bs) (sym own_before) there

  pub level_of : (b : Branch) → In b (front ++ (old ++ back)) → (f b.child).level ≡ level
  level_of b there = (child_fits f live tree n r.alive b (own_of b there)).level
      ∙ branch_level level (f n).low (pairs_of (f n)) b (subst (λ bs. In b bs) (sym r.before) there)

  -- no two of the children are one node
  pub siblings : (x : ℕ) → times x (numbers front) + (times x (numbers old) + times x (numbers back)) ≤ 1
  siblings x =
      let sum = parents f live tree x (f 0).level 0 (root_live f live tree) refl in
      let brought = times_under (children f) (nodes f) n x (live_node f live tree n r.alive) in
      let count = numbers_children x level (f n).low (pairs_of (f n)) in
      let same : times x (numbers (branches level (f n))) ≡ times x (numbers (front ++ (old ++ back))) = ap (λ bs. times x (numbers bs)) r.before in
      omega (arith, one_way f live tree x, numbers-append x front (old ++ back), numbers-append x old back)

  pub in_old : (b : Branch) → In b old → In b (front ++ (old ++ back))
  in_old b there = in_right front (old ++ back) b (in_left old back b there)

  pub family_level : (x : ℕ) → IsTrue (family n old x) → level ≤ (f x).level
  family_level x inside = elim (or_cases (eqb x n) (is_among (numbers old) x) inside) [
    | inl same ↦ let e : (f x).level ≡ (f n).level = ap (λ y. (f y).level) (eqb-true x n same) in omega (arith, r.at)
    | inr among ↦
        let found = numbers_in old x (ltb-true 0 (times x (numbers old)) among) in
        let e : (f found.0.child).level ≡ (f x).level = ap (λ y. (f y).level) found.1.1 in
        omega (arith, level_of found.0 (in_old found.0 found.1.0))
  ]

  pub live_of : (b : Branch) → In b (front ++ (old ++ back)) → IsTrue (live b.child)
  live_of b there = child_live f live tree n r.alive b (own_of b there)

  pub untouched : (x : ℕ) → IsTrue (live x) → family n old x ≡ false → either (family n old) fresh x ≡ false
  untouched x alive outside = elim (cases_Bool (fresh x)) [
    | inl new' ↦ absurd (both_ways (live x) (r.free x new') alive)
    | inr known ↦ or_from (family n old x) (fresh x) outside known
  ]

  -- the other children are outside the family
  pub outsider : (b : Branch) → In b (front ++ (old ++ back)) → times b.child (numbers old) ≡ 0 → family n old b.child ≡ false
  outsider b there none = elim (cases_Bool (family n old b.child)) [
    | inr outside ↦ outside
    | inl inside ↦ elim (or_cases (eqb b.child n) (is_among (numbers old) b.child) inside) [
      | inl same ↦ let e : (f b.child).level ≡ (f n).level = ap (λ y. (f y).level) (eqb-true b.child n same) in absurd (omega (arith, level_of b there, r.at))
      | inr among ↦ absurd (omega (arith, ltb-true 0 (times b.child (numbers old)) among))
    ]
  ]

  pub outside_front : (b : Branch) → In b front → family n old b.child ≡ false
  outside_front b there = outsider b (in_left front (old ++ back) b there) (omega (arith, siblings b.child, numbers_from front b there))

  pub outside_back : (b : Branch) → In b back → family n old b.child ≡ false
  outside_back b there = outsider b (in_right front (old ++ back) b (in_right old back b there)) (omega (arith, siblings b.child, numbers_from back b there))

  -- and so are the children's children
  pub grandchild : (b : Branch) → In b old → (c : Branch) → In c (exits_of f level b.child) → IsTrue (live c.child) × (family n old c.child ≡ false)
  grandchild b there c below' =
      let own = own_exit level b.child c (live_of b (in_old b there)) (level_of b (in_old b there)) below' in
      let alive = child_live f live tree b.child (live_of b (in_old b there)) c own.0 in
      let fits = child_fits f live tree b.child (live_of b (in_old b there)) c own.0 in
      let deep : (f c.child).level < level = omega (arith, fits.level, own.1) in (
        alive,
        elim (cases_Bool (family n old c.child)) [
          | inr outside ↦ outside
          | inl inside ↦ absurd (omega (arith, family_level c.child inside))
        ],
      )
    where
      own_exit : (level x : ℕ) (c : Branch) → IsTrue (live x) → (f x).level ≡ level →
          In c (exits_of f level x) → In c (own_branches f x) × (c.frame.level < level)
      own_exit zero x c alive at there = absurd there
      own_exit (suc j) x c alive at there =
          (subst (λ bs. In c bs) (sym (own_at f x j at)) there, omega (arith, branch_level j (f x).low (pairs_of (f x)) c there))

  pub old_inside : (b : Branch) → In b old → IsTrue (family n old b.child)
  old_inside b there = or_right (eqb b.child n) (is_among (numbers old) b.child) (lt-ltb 0 (times b.child (numbers old)) (numbers_from old b there))

  pub old_ways : (within (family n old) f (suc level) n ≡ n ∷ numbers old) × (leaving (family n old) f (suc level) n ≡ front ++ (flat_map (λ b. exits_of f level b.child) old ++ back))
  old_ways = two_levels (family n old) f level n front old back r.before outside_front outside_back old_inside (λ b there c below'. (grandchild b there c below').1)

-- New contents of a node, of some children in a row, and of fresh nodes that become its children in place of these.
pub record Regroups (f : Contents) (live : ℕ → Bool) (n level : ℕ) (front old new back : List Branch) (fresh : ℕ → Bool) (g : Contents) : Type 0 where
  pub alive : IsTrue (live n)
  pub at : (f n).level ≡ suc level
  pub before : branches level (f n) ≡ front ++ (old ++ back)
  pub free : (x : ℕ) → IsTrue (fresh x) → live x ≡ false
  pub stays : (x : ℕ) → either (family n old) fresh x ≡ false → g x ≡ f x
  pub low : (g n).low ≡ (f n).low
  pub high : (g n).high ≡ (f n).high
  pub still_at : (g n).level ≡ suc level
  pub after : branches level (g n) ≡ front ++ (new ++ back)
  pub touched : (b : Branch) → In b new → IsTrue (either (family n old) fresh b.child)
  pub below_top : (b : Branch) → In b new → b.child ≢ n
  pub once_each : (x : ℕ) → times x (numbers new) ≤ 1
  pub children : flat_map (λ b. exits_of g level b.child) new ≡ flat_map (λ b. exits_of f level b.child) old
  pub top_ordered : IsOrdered (g n)
  pub ordered : (b : Branch) → In b new → IsOrdered (g b.child)
  pub fits : (b : Branch) → In b new → FitsParent g b

module _ (f : Contents) (live : ℕ → Bool) (tree : IsTree f live) (n level : ℕ) (front old new back : List Branch) (fresh : ℕ → Bool) (g : Contents)
    (r : Regroups f live n level front old new back fresh g) where
  side : Grouped f live n level front old back fresh
  side = record { alive = r.alive; at = r.at; before = r.before; free = r.free }

  -- what the new children lead to are the old children's children
  new_exit : (b : Branch) → In b new → (c : Branch) → In c (exits_of g level b.child) → either (family n old) fresh c.child ≡ false
  new_exit b there c below' =
      let all : In c (flat_map (λ (x : Branch). exits_of g level x.child) new) = in_flat_map_from (λ (x : Branch). exits_of g level x.child) new b c there below' in
      let back' = in_flat_map (λ (x : Branch). exits_of f level x.child) old c (subst (λ cs. In c cs) r.children all) in
      let grand = (grandchild f live tree n level front old back fresh side) back'.0 back'.1.0 c back'.1.1 in
      (untouched f live tree n level front old back fresh side) c.child grand.0 grand.1

  quiet_front : (b : Branch) → In b front → either (family n old) fresh b.child ≡ false
  quiet_front b there = (untouched f live tree n level front old back fresh side) b.child ((live_of f live tree n level front old back fresh side) b (in_left front (old ++ back) b there)) ((outside_front f live tree n level front old back fresh side) b there)

  quiet_back : (b : Branch) → In b back → either (family n old) fresh b.child ≡ false
  quiet_back b there = (untouched f live tree n level front old back fresh side) b.child ((live_of f live tree n level front old back fresh side) b (in_right front (old ++ back) b (in_right old back b there))) ((outside_back f live tree n level front old back fresh side) b there)

  pub new_ways : (within (either (family n old) fresh) g (suc level) n ≡ n ∷ numbers new)
      × (leaving (either (family n old) fresh) g (suc level) n ≡ front ++ (flat_map (λ b. exits_of g level b.child) new ++ back))
  new_ways = two_levels (either (family n old) fresh) g level n front new back r.after quiet_front quiet_back r.touched new_exit

  pub reached_now : within (either (family n old) fresh) g (g n).level n ≡ n ∷ numbers new
  reached_now = ap (λ l. within (either (family n old) fresh) g l n) r.still_at ∙ new_ways.0

  all_numbers : (P : ℕ → Type 0) → P n → ((b : Branch) → In b new → P b.child) → AllByRecursion P (within (either (family n old) fresh) g (g n).level n)
  all_numbers P here each = subst (AllByRecursion P) (sym reached_now) (here, over new each)
    where
      over : (bs : List Branch) → ((b : Branch) → In b bs → P b.child) → AllByRecursion P (numbers bs)
      over [] each = tt
      over (b ∷ bs) each = (each b (inl refl), over bs (λ c there. each c (inr there)))

  once_now : (x : ℕ) → times x (n ∷ numbers new) ≤ 1
  once_now x = elim (cases_eq x n) [
    | inl e ↦
        let none : times x (numbers new) ≡ 0 = elim (cases_eq (times x (numbers new)) 0) [
          | inl zero' ↦ zero'
          | inr some ↦ let found = numbers_in new x (omega arith) in absurd (r.below_top found.0 found.1.0 (found.1.1 ∙ e))
        ] in
        let one : once (eqb x n) ≡ 1 = ap (λ y. once (eqb x y)) (sym e) ∙ once_same x in
        omega arith
    | inr other ↦ omega (arith, once_other x n other, r.once_each x)
  ]

  -- in new contents a new child's branches lead to nodes that aren't touched
  new_child_exit : (b : Branch) → In b new → (c : Branch) → In c (own_branches g b.child) → either (family n old) fresh c.child ≡ false
  new_child_exit b there c own =
      let at : (g b.child).level ≡ level = (r.fits b there).level
      ∙ branch_level level (g n).low (pairs_of (g n)) b (subst (λ bs. In b bs) (sym r.after) (in_right front (new ++ back) b (in_left new back b there))) in
      new_exit b there c (exit_of level b.child c (r.ordered b there) at own)
    where
      exit_of : (level x : ℕ) (c : Branch) → IsOrdered (g x) → (g x).level ≡ level → In c (own_branches g x) → In c (exits_of g level x)
      exit_of zero x c ordered at own = no_branches (g x) ((g x).level - 1) c ordered at own
      exit_of (suc j) x c ordered at own = subst (λ bs. In c bs) (own_at g x j at) own

  pub regroups : IsLocalChange f live n (family n old) fresh g
  regroups = record {
    top_live = r.alive;
    top_grouped = or_left (eqb n n) (is_among (numbers old) n) (eq-eqb n n refl);
    grouped = λ x inside. subst (λ l. 0 < times x (within (family n old) f l n)) (sym r.at) (subst (λ l. 0 < times x l) (sym (old_ways f live tree n level front old back fresh side).0) (in_family x inside));
    fresh_free = free_of;
    others_stay = r.stays;
    low = r.low;
    high = r.high;
    level = λ other. r.still_at ∙ sym r.at;
    height = λ root. (let same : (g n).level ≡ (f 0).level = r.still_at ∙ sym r.at ∙ ap (λ y. (f y).level) root in let top = tree.height in omega arith);
    ordered = all_numbers (λ x. IsOrdered (g x)) r.top_ordered r.ordered;
    reached_once = λ x. subst (λ l. times x l ≤ 1) (sym reached_now) (once_now x);
    fitting =
        all_numbers (λ x. AllByRecursion (λ b. IsTrue (either (family n old) fresh b.child) →
        FitsParent g b) (own_branches g x))
        (all_from (λ b. IsTrue (either (family n old) fresh b.child) → FitsParent g b)
        (own_branches g n) top_fits)
        (λ b there. all_from (λ c. IsTrue (either (family n old) fresh c.child) → FitsParent g c)
        (own_branches g b.child)
        (λ c own touched. absurd (both_ways (either (family n old) fresh c.child) (new_child_exit b there c own) touched)));
    exits = ap (λ l. leaving (either (family n old) fresh) g l n) r.still_at ∙ new_ways.1
        ∙ ap (λ bs. front ++ (bs ++ back)) r.children
        ∙ sym (old_ways f live tree n level front old back fresh side).1 ∙ ap (λ l. leaving (family n old) f l n) (sym r.at);
  }
    where
      in_family : (x : ℕ) → IsTrue (family n old x) → 0 < times x (n ∷ numbers old)
      in_family x inside = elim (or_cases (eqb x n) (is_among (numbers old) x) inside) [
        | inl same ↦ let e : once (eqb x n) ≡ 1 = ap once same in omega arith
        | inr among ↦ omega (arith, ltb-true 0 (times x (numbers old)) among)
      ]

      free_of : (x : ℕ) → IsTrue (fresh x) → live x ≡ false
      free_of x new' = r.free x new'

      top_fits : (b : Branch) → In b (own_branches g n) →
          IsTrue (either (family n old) fresh b.child) → FitsParent g b
      top_fits b own touched =
          let there : In b (front ++ (new ++ back)) = subst (λ bs. In b bs) (own_at g n level r.still_at ∙ r.after) own in
          elim (in_append front (new ++ back) b there) [
            | inl at ↦ absurd (both_ways (either (family n old) fresh b.child) (quiet_front b at) touched)
            | inr later ↦ elim (in_append new back b later) [
              | inl at ↦ r.fits b at
              | inr at ↦ absurd (both_ways (either (family n old) fresh b.child) (quiet_back b at) touched)
            ]
          ]

  inner_none : (m : Member) (h : Contents) → IsOrdered (h n) → (h n).level ≡ suc level →
      In m (entries_of (h n)) → ⊥
  inner_none m h ordered at held = omega (arith, leaf_says (h n) (h n).body ordered m held)

  -- where the new children hold what the old ones held, the family's entries stay
  pub family_entries : flat_map (λ (b : Branch). entries_of (g b.child)) new ≡ flat_map
      (λ (b : Branch). entries_of (f b.child)) old →
      (m : Member) → HasEntry g (is_among (reached_nodes n (family n old) fresh g)) m ↔
      HasEntry f (family n old) m
  family_entries same m = (now, then')
    where
      now : HasEntry g (is_among (reached_nodes n (family n old) fresh g)) m →
          HasEntry f (family n old) m
      now (x, (among, held)) =
          let there : 0 < times x (n ∷ numbers new) =
          subst (λ l. 0 < times x l) reached_now
          (ltb-true 0 (times x (reached_nodes n (family n old) fresh g)) among) in
          let at = contains_in (entries_of (g x)) m held in
          elim (times_cases x n (numbers new) there) [
            | inl e ↦ absurd (inner_none m g r.top_ordered r.still_at
                (subst (λ y. In m (entries_of (g y))) e at))
            | inr later ↦
                let found = numbers_in new x later in
                let all = in_flat_map_from (λ (b : Branch). entries_of (g b.child)) new found.0 m found.1.0 (subst (λ y. In m (entries_of (g y))) (sym found.1.1) at) in
                let back' = in_flat_map (λ (b : Branch). entries_of (f b.child)) old m (subst (λ es. In m es) same all) in (
                  back'.0.child,
                  (
                    old_inside f live tree n level front old back fresh side back'.0 back'.1.0,
                    in_contains (entries_of (f back'.0.child)) m back'.1.1,
                  ),
                )
          ]

      then' : HasEntry f (family n old) m →
          HasEntry g (is_among (reached_nodes n (family n old) fresh g)) m
      then' (x, (inside, held)) =
          let at = contains_in (entries_of (f x)) m held in
          elim (or_cases (eqb x n) (is_among (numbers old) x) inside) [
            | inl e ↦ absurd (inner_none m f (tree.ordered n r.alive) r.at
                (subst (λ y. In m (entries_of (f y))) (eqb-true x n e) at))
            | inr among ↦
                let found = numbers_in old x (ltb-true 0 (times x (numbers old)) among) in
                let all = in_flat_map_from (λ (b : Branch). entries_of (f b.child)) old found.0 m
                found.1.0 (subst (λ y. In m (entries_of (f y))) (sym found.1.1) at) in
                let on = in_flat_map (λ (b : Branch). entries_of (g b.child)) new m
                (subst (λ es. In m es) (sym same) all) in
                let reached : 0 < times on.0.child (reached_nodes n (family n old) fresh g) =
                subst (λ l. 0 < times on.0.child l) (sym reached_now)
                (omega (arith, numbers_from new on.0 on.1.0)) in (
                  on.0.child,
                  (
                    lt-ltb 0 (times on.0.child (reached_nodes n (family n old) fresh g)) reached,
                    in_contains (entries_of (g on.0.child)) m on.1.1,
                  ),
                )
          ]
