-- The laws of putting an entry into a leaf, of taking one and of replacing one.
use Rattle.std.proofs.Common.{◌≡◌, ◌↔◌, ◌≢◌, ℕ, suc, ◌+◌, ◌-◌, ◌<◌, ◌≤◌, List, [], ◌∷◌, length}
use Rattle.std.proofs.Common.{refl, ap, sym, ◌∙◌, subst, arith, Bool, true, false, cond, not}
use Rattle.std.proofs.Common.{IsTrue, eqb, ltb, inl, inr, ◌⊎◌, Some}
use Rattle.std.specs.Prelude.{Option}
use Rattle.std.specs.List.{AllByRecursion, filter}
use Rattle.std.proofs.lemmas.Bool.{cases_lt, cases_Bool, cond-true, cond-false, eq-eqb, eqb-true}
use Rattle.std.proofs.lemmas.Bool.{eqb-false, ne_eqb, ltb-true, ltb-false, or_cases, or_parts}
use Rattle.std.proofs.lemmas.List.Elements.{recursion_from_All}
use Rattle.reg_model.specs.declared.span.Member.{Member}
use Rattle.reg_model.specs.declared.answer.Update.{Update}
use Rattle.reg_model.specs.declared.answer.Update.TheVariants.{Register, Deregister, Replace}
use Rattle.reg_model.specs.SpanData.{Overlaps}
use Rattle.reg_model.specs.State.{at_base}
use Rattle.reg_model.specs.History.{without, with_payload}
use Rattle.reg_model.proofs.Spans.{contains_from}
use Rattle.tree_laws.specs.Numbers.{times, is_among}
use Rattle.tree_shape.specs.NodeData.{NodeData, Entries, entries_of, EntriesWithin, IsLeaf}
use Rattle.tree_shape.specs.Changes.{with_entry}
use Rattle.tree_laws.specs.Trees.{Contents, branches, within, leaving, HasEntry}
use Rattle.tree_laws.specs.Lawful.{IsTree, IsLawfulTree, IsOrdered, IsOrderedAs, IsFilled}
use Rattle.tree_laws.specs.Lawful.{IsFilledAs}
use Rattle.tree_laws.specs.Lawful.{FitsParent, fewest_entries}
use Rattle.tree_laws.specs.LocalChange.{IsLocalChange, IsChangeOf, EntriesBecome, either}
use Rattle.tree_laws.specs.LocalChange.{live_after, reached_nodes}
use Rattle.tree_laws.specs.Steps.{IsPut, Adds, IsTake, Takes, IsReplace}
use Rattle.tree_laws.proofs.Times.{In, some_same, all_at, listed_one, times_head, once_most}
use Rattle.tree_laws.proofs.Leads.{contains_in, in_contains}
use Rattle.tree_laws.proofs.Local.{tree_after}
use Rattle.tree_laws.proofs.Wholes.{one_at}
use Rattle.tree_laws.proofs.Transfers.{become_same}
use Rattle.tree_laws.proofs.Becomes.{tree_becomes}
use Rattle.tree_laws.proofs.Listed.{tree_same, entry_same, named, live_now, lawful_now}
use Rattle.tree_laws.proofs.Runs.{entries_lower}
use Rattle.tree_shape.proofs.Slots.{none_at, put_length}
use Rattle.tree_shape.proofs.Payloads.{payload_length, payload_within}
use Rattle.tree_laws.proofs.ListedPayloads.{listed_payload, span_listed}
use Rattle.tree_laws.proofs.Halves.{among, only}

-- one node as a test
abbrev alone : ℕ → ℕ → Bool
alone n x = eqb x n

abbrev nothing : ℕ → Bool
nothing x = false

-- New entries of one leaf.
record Rewrites (f : Contents) (live : ℕ → Bool) (n : ℕ) (entries : List Member) (g : Contents) : Type 0 where
  alive : IsTrue (live n)
  leaf : IsLeaf (f n)
  above : let s = f n in g n ≡ record s { body = Entries entries }
  others : (x : ℕ) → x ≢ n → g x ≡ f x
  within : EntriesWithin (f n).low (f n).high entries

leaf_ordered : (s : NodeData) → IsLeaf s → IsOrdered s → (s.level ≡ 0) × EntriesWithin s.low s.high (entries_of s)
leaf_ordered s leaf ordered = subst (λ b. IsOrderedAs s b) leaf ordered

leaf_filled : (n : ℕ) (s : NodeData) → IsLeaf s → IsFilled n s → (fewest_entries n ≤ length (entries_of s)) × (length (entries_of s) ≤ 10)
leaf_filled n s leaf filled = subst (λ b. IsFilledAs n b) leaf filled

module _ (f : Contents) (live : ℕ → Bool) (tree : IsTree f live) (n : ℕ) (entries : List Member) (g : Contents) (r : Rewrites f live n entries g) where
  at_zero : (f n).level ≡ 0
  at_zero = (leaf_ordered (f n) r.leaf (tree.ordered n r.alive)).0

  still_zero : (g n).level ≡ 0
  still_zero = ap (λ s. s.level) r.above ∙ at_zero

  old_alone : within (alone n) f (f n).level n ≡ n ∷ []
  old_alone = ap (λ l. within (alone n) f l n) at_zero

  new_alone : within (either (alone n) nothing) g (g n).level n ≡ n ∷ []
  new_alone = ap (λ l. within (either (alone n) nothing) g l n) still_zero

  now_ordered : IsOrdered (g n)
  now_ordered = subst IsOrdered (sym r.above) (at_zero, r.within)

  rewrites : IsLocalChange f live n (alone n) nothing g
  rewrites = record {
    top_live = r.alive;
    top_grouped = eq-eqb n n refl;
    grouped = λ x inside. subst (λ l. 0 < times x l) (sym old_alone) (subst (λ y. 0 < times x (y ∷ [])) (eqb-true x n inside) (times_head x []));
    fresh_free = λ x none. absurd (cc (none));
    others_stay = λ x outside. r.others x (eqb-false x n (or_parts (eqb x n) false outside).0);
    low = ap (λ s. s.low) r.above;
    high = ap (λ s. s.high) r.above;
    level = λ other. ap (λ s. s.level) r.above;
    height = λ root. (let z = still_zero in omega arith);
    ordered = subst (AllByRecursion (λ x. IsOrdered (g x))) (sym new_alone) (now_ordered, tt);
    reached_once = λ x. subst (λ l. times x l ≤ 1) (sym new_alone) (omega (arith, once_most (eqb x n)));
    fitting =
        subst (AllByRecursion (λ x. AllByRecursion (λ b. IsTrue (either (alone n) nothing b.child) →
        FitsParent g b) (branches ((g x).level - 1) (g x)))) (sym new_alone) (
          subst (λ s. AllByRecursion (λ b. IsTrue (either (alone n) nothing b.child) →
              FitsParent g b) (branches (s.level - 1) s)) (sym r.above) tt,
          tt,
        );
    exits = ap (λ l. leaving (either (alone n) nothing) g l n) still_zero ∙ sym (ap (λ l. leaving (alone n) f l n) at_zero);
  }

  same_live : (x : ℕ) → live_after live n (alone n) nothing g x ≡ live x
  same_live x = elim (cases_Bool (either (alone n) nothing x)) [
    | inl touched ↦
        let e : x ≡ n = elim (or_cases (eqb x n) false touched) [ inl is_n ↦ eqb-true x n is_n | inr none ↦ absurd (cc (none)) ] in
        cond-true (either (alone n) nothing x) (is_among (within (either (alone n) nothing) g (g n).level n) x) (live x) touched
        ∙ ap (λ l. is_among l x) new_alone
        ∙ subst (λ y. is_among (n ∷ []) y ≡ live y) (sym e) (among (n ∷ []) n (times_head n []) ∙ sym r.alive)
    | inr untouched ↦ cond-false (either (alone n) nothing x) (is_among (within (either (alone n) nothing) g (g n).level n) x) (live x) untouched
  ]

  rewritten_tree : IsTree g live
  rewritten_tree = tree_same g (live_after live n (alone n) nothing g) live same_live (tree_after f live n (alone n) nothing g tree rewrites)

  -- the leaf's entries, before and after
  old_entries : (m : Member) → HasEntry f (alone n) m ↔ In m (entries_of (f n))
  old_entries m = (
    λ h. subst (λ y. In m (entries_of (f y))) (eqb-true h.0 n h.1.0) (contains_in
        (entries_of (f h.0)) m h.1.1),
    λ there. (n, (eq-eqb n n refl, in_contains (entries_of (f n)) m there)),
  )

  new_entries : (m : Member) → HasEntry g (is_among (reached_nodes n (alone n) nothing g)) m ↔
      In m entries
  new_entries m = (
    λ h.
        let e : h.0 ≡ n = only n h.0 (ap (λ l. is_among l h.0) (sym new_alone) ∙ h.1.0) in
        subst (λ s. In m (entries_of s)) (ap g e ∙ r.above) (contains_in
        (entries_of (g h.0)) m h.1.1),
    λ there. (
      n,
      (
        subst (λ l. is_among l n ≡ true) (sym new_alone) (among (n ∷ []) n (times_head n [])),
        in_contains (entries_of (g n)) m (subst (λ s. In m (entries_of s)) (sym r.above) there),
      ),
    ),
  )

  become : (update : Option Update) → EntriesBecome update (λ m. In m (entries_of (f n)))
      (λ m. In m entries) →
      EntriesBecome update (HasEntry f (alone n))
      (HasEntry g (is_among (reached_nodes n (alone n) nothing g)))
  become update becomes = become_same update (λ m. In m (entries_of (f n))) (λ m. In m entries)
      (HasEntry f (alone n))
      (HasEntry g (is_among (reached_nodes n (alone n) nothing g))) old_entries new_entries becomes

  rewritten_changes : (update : Option Update) → EntriesBecome update (λ m. In m (entries_of (f n)))
      (λ m. In m entries) →
      IsFilled n (g n) → IsChangeOf f live n (n ∷ []) [] g update (n ∷ [])
  rewritten_changes update becomes filled = named f live n (alone n) nothing (n ∷ []) [] g update
      (n ∷ []) (listed_one n) (λ x. refl)
      (record {
        change = rewrites;
        filled = subst (AllByRecursion (λ y. IsFilled y (g y))) (sym new_alone) (filled, tt);
        entries = become update becomes;
      })
      new_alone

  rewritten_entries : (update : Option Update) → EntriesBecome update (λ m. In m (entries_of (f n)))
      (λ m. In m entries) →
      EntriesBecome update (HasEntry f live) (HasEntry g live)
  rewritten_entries update becomes =
      let after' = live_after live n (alone n) nothing g in
      become_same update (HasEntry f live) (HasEntry g after') (HasEntry f live) (HasEntry g live)
      (λ m. (λ h. h, λ h. h))
      (λ m. (
        entry_same g live after' (λ x. sym (same_live x)) m,
        entry_same g after' live same_live
            m,
      ))
      (tree_becomes f live n (alone n) nothing g tree rewrites update (become update becomes))

-- a span apart from ordered entries, put among them
put_within : (low high : ℕ) (entries : List Member) (m : Member) → EntriesWithin low high entries → low ≤ m.span.first → m.span.first ≤ m.span.last → m.span.last ≤ high →
    AllByRecursion (λ e. ¬ Overlaps e.span m.span) entries → EntriesWithin low high (with_entry m entries)
put_within low high [] m within above order below free = ((above, order, tt), (below, tt))
put_within low high (e ∷ entries) m within above order below free = elim (cases_Bool (ltb m.span.first e.span.first)) [
  | inl before ↦
      let first = ltb-true m.span.first e.span.first before in
      let apart : m.span.last < e.span.first = elim (cases_lt m.span.last e.span.first) [
        | inl lt ↦ lt
        | inr meets
            ↦ absurd (free.0 (
              e.span.first,
              (
                contains_from e.span e.span.first (omega arith) within.0.1,
                contains_from m.span e.span.first (omega arith) meets,
              ),
            ))
      ] in
      rw (before) ((above, order, (omega arith, within.0.1, within.0.2)), (below, within.1))
  | inr after ↦
      let first = ltb-false m.span.first e.span.first after in
      let apart : e.span.last < m.span.first = elim (cases_lt e.span.last m.span.first) [
        | inl lt ↦ lt
        | inr meets ↦ absurd (free.0 (m.span.first, (contains_from e.span m.span.first first meets, contains_from m.span m.span.first (omega arith) order)))
      ] in
      let rest = put_within (e.span.last + 1) high entries m (within.0.2, within.1.1) (omega arith)
      order below free.1 in
      rw (after) ((within.0.0, within.0.1, rest.0), (within.1.0, rest.1))
]

put_in : (entries : List Member) (m x : Member) → In x (with_entry m entries) → In x entries ⊎ (m ≡ x)
put_in [] m x there = elim there [ inl e ↦ inr e | inr none ↦ absurd none ]
put_in (e ∷ entries) m x there =
    elim (ltb m.span.first e.span.first) as (λ v. In x (cond v (m ∷ e ∷ entries) (e ∷ with_entry m entries)) → In x (e ∷ entries) ⊎ (m ≡ x)) [
      | true ↦ λ h. elim h [ inl is_m ↦ inr is_m | inr later ↦ inl later ]
      | false ↦ λ h. elim h [ inl is_e ↦ inl (inl is_e) | inr later ↦ elim (put_in entries m x later) [ inl at ↦ inl (inr at) | inr is_m ↦ inr is_m ] ]
    ] there

put_old : (entries : List Member) (m x : Member) → In x entries → In x (with_entry m entries)
put_old [] m x there = absurd there
put_old (e ∷ entries) m x there =
    elim (ltb m.span.first e.span.first) as (λ v. In x (cond v (m ∷ e ∷ entries) (e ∷ with_entry m entries))) [
      | true ↦ inr there
      | false ↦ elim there [ inl is_e ↦ inl is_e | inr later ↦ inr (put_old entries m x later) ]
    ]

put_new : (entries : List Member) (m : Member) → In m (with_entry m entries)
put_new [] m = inl refl
put_new (e ∷ entries) m =
    elim (ltb m.span.first e.span.first) as (λ v. In m (cond v (m ∷ e ∷ entries) (e ∷ with_entry m entries))) [
      | true ↦ inl refl
      | false ↦ inr (put_new entries m)
    ]

put_rewrites : (f : Contents) (live : ℕ → Bool) → IsLawfulTree f live →
    (n : ℕ) (member : Member) (g : Contents) →
    IsPut f live n member g → Rewrites f live n (with_entry member (entries_of (f n))) g
put_rewrites f live lawful n member g put =
    let before = leaf_ordered (f n) put.is_leaf (lawful.tree.ordered n put.live_leaf) in
    record {
      alive = put.live_leaf;
      leaf = put.is_leaf;
      above = put.above;
      others = put.others;
      within = put_within (f n).low (f n).high (entries_of (f n)) member before.1 put.low put.span.ordered put.high
          (recursion_from_All (λ e. ¬ Overlaps e.span member.span) (entries_of (f n)) put.free);
    }

put_becomes : (f : Contents) (live : ℕ → Bool) (n : ℕ) (member : Member) (g : Contents) →
    IsPut f live n member g →
    EntriesBecome (Some (Register member)) (λ m. In m (entries_of (f n)))
    (λ m. In m (with_entry member (entries_of (f n))))
put_becomes f live n member g put = (
  λ there.
      let apart = all_at (λ e. ¬ Overlaps e.span member.span) (entries_of (f n)) member
      (recursion_from_All (λ e. ¬ Overlaps e.span member.span) (entries_of (f n)) put.free) there in
      let order = put.span.ordered in
      let hit = contains_from member.span member.span.first (omega arith) order in
      apart (member.span.first, (hit, hit)),
  λ m. (
    λ there. elim (put_in (entries_of (f n)) member m there)
        [ inl old ↦ inl old | inr e ↦ inr (sym e) ],
    λ h. elim h [
      | inl old ↦ put_old (entries_of (f n)) member m old
      | inr e ↦ subst (λ x. In x (with_entry member (entries_of (f n)))) (sym e)
          (put_new (entries_of (f n)) member)
    ],
  ),
)

pub put_changes : (f : Contents) (live : ℕ → Bool) → IsLawfulTree f live →
    (n : ℕ) (member : Member) (g : Contents) →
    IsPut f live n member g → IsChangeOf f live n (n ∷ []) [] g (Some (Register member)) (n ∷ [])
put_changes f live lawful n member g put =
    let filled = leaf_filled n (f n) put.is_leaf (lawful.filled n put.live_leaf) in
    let len = put_length (entries_of (f n)) member in
    let room = put.room in
    rewritten_changes f live lawful.tree n (with_entry member (entries_of (f n))) g
    (put_rewrites f live lawful n member g put)
    (Some (Register member)) (put_becomes f live n member g put)
    (subst (IsFilled n) (sym put.above) (omega arith, omega arith))

-- the tree after a leaf's change that stays lawful
leaf_lawful : (f : Contents) (live : ℕ → Bool) → IsLawfulTree f live → (n : ℕ) → IsTrue (live n) →
    (g : Contents) (update : Option Update) →
    IsChangeOf f live n (n ∷ []) [] g update (n ∷ []) → IsLawfulTree g live
leaf_lawful f live lawful n alive g update change =
    (lawful_now f live live n (n ∷ []) [] g update (n ∷ []) lawful change
    (live_now live live n (n ∷ []) [] g (n ∷ []) change.reaches
    (alive ∙ sym (among (n ∷ []) n (times_head n [])), tt) tt (λ x not_group not_fresh. refl))).0

pub put_adds : (f : Contents) (live : ℕ → Bool) → IsLawfulTree f live →
    (n : ℕ) (member : Member) (g : Contents) →
    IsPut f live n member g → Adds f live member g
put_adds f live lawful n member g put = record {
  lawful = leaf_lawful f live lawful n put.live_leaf g (Some (Register member))
      (put_changes f live lawful n member g put);
  entries =
      (rewritten_entries f live lawful.tree n (with_entry member (entries_of (f n))) g
      (put_rewrites f live lawful n member g put)
      (Some (Register member)) (put_becomes f live n member g put)).1;
}

-- what is left of ordered entries is ordered
left_within : (test : Member → Bool) (low high : ℕ) (entries : List Member) → EntriesWithin low high entries → EntriesWithin low high (filter test entries)
left_within test low high [] within = (tt, tt)
left_within test low high (e ∷ entries) within =
    let rest = left_within test (e.span.last + 1) high entries (within.0.2, within.1.1) in
    elim (test e) as (λ v. EntriesWithin low high (cond v (e ∷ filter test entries) (filter test entries))) [
      | true ↦ ((within.0.0, within.0.1, rest.0), (within.1.0, rest.1))
      | false ↦ entries_lower (e.span.last + 1) low high (filter test entries) rest (omega arith)
    ]

pub left_in : (base : ℕ) (entries : List Member) (m : Member) → In m (without base entries) → In m entries × (m.span.first ≢ base)
left_in base [] m there = absurd there
left_in base (e ∷ entries) m there = elim (cases_Bool (eqb e.span.first base)) [
  | inl same ↦
      let there' : In m (without base entries) = subst (λ v. In m (cond (not v) (e ∷ without base entries) (without base entries))) same there in
      let rest = left_in base entries m there' in (inr rest.0, rest.1)
  | inr other ↦
      let there' : In m (e ∷ without base entries) = subst (λ v. In m (cond (not v) (e ∷ without base entries) (without base entries))) other there in
      elim there' [
        | inl is_e ↦ (inl is_e, subst (λ (x : Member). x.span.first ≢ base) is_e (eqb-false e.span.first base other))
        | inr later ↦ let rest = left_in base entries m later in (inr rest.0, rest.1)
      ]
]

pub left_from : (base : ℕ) (entries : List Member) (m : Member) → In m entries → m.span.first ≢ base → In m (without base entries)
left_from base [] m there other = absurd there
left_from base (e ∷ entries) m there other =
    let rest : In m entries → In m (without base entries) = λ at. left_from base entries m at other in
    elim there [
      | inl is_e ↦
          let e_other : eqb e.span.first base ≡ false = ne_eqb e.span.first base (λ same. other (ap (λ (x : Member). x.span.first) (sym is_e) ∙ same)) in
          subst (λ v. In m (cond (not v) (e ∷ without base entries) (without base entries))) (sym e_other) (inl is_e)
      | inr later ↦ elim (eqb e.span.first base) as (λ v. In m (cond (not v) (e ∷ without base entries) (without base entries))) [
        | true ↦ rest later
        | false ↦ inr (rest later)
      ]
    ]

-- of ordered entries one begins at an address
at_base_first : (base : ℕ) (entries : List Member) (m : Member) → at_base base entries ≡ Some m → In m entries × (m.span.first ≡ base)
at_base_first base [] m at = absurd (cc)
at_base_first base (e ∷ entries) m at = elim (cases_Bool (eqb e.span.first base)) [
  | inl same ↦
      let is : e ≡ m = some_same e m (subst (λ v. cond v (Some e) (at_base base entries) ≡ Some m) same at) in
      (inl is, ap (λ (x : Member). x.span.first) (sym is) ∙ eqb-true e.span.first base same)
  | inr other ↦
      let rest = at_base_first base entries m (subst (λ v. cond v (Some e) (at_base base entries) ≡ Some m) other at) in
      (inr rest.0, rest.1)
]

left_length : (base low high : ℕ) (entries : List Member) → EntriesWithin low high entries → (length (without base entries) ≤ length entries) × (length entries ≤ suc (length (without base entries)))
left_length base low high [] within = (omega arith, omega arith)
left_length base low high (e ∷ entries) within = elim (cases_Bool (eqb e.span.first base)) [
  | inl same ↦
      let none = none_at base (e.span.last + 1) high entries (within.0.2, within.1.1)
      (omega (arith, eqb-true e.span.first base same)) in
      let len : length (without base entries) ≡ length entries = ap length none.others in
      subst (λ v. (length (cond (not v) (e ∷ without base entries) (without base entries)) ≤ suc (length entries)) × (suc (length entries) ≤ suc (length (cond (not v) (e ∷ without base entries) (without base entries))))) (sym same)
      (omega arith, omega arith)
  | inr other ↦
      let rest = left_length base (e.span.last + 1) high entries (within.0.2, within.1.1) in
      subst (λ v. (length (cond (not v) (e ∷ without base entries) (without base entries)) ≤ suc (length entries)) × (suc (length entries) ≤ suc (length (cond (not v) (e ∷ without base entries) (without base entries))))) (sym other)
      (omega (arith, rest.0), omega (arith, rest.1))
]

take_rewrites : (f : Contents) (live : ℕ → Bool) → IsLawfulTree f live →
    (n base : ℕ) (member : Member) (g : Contents) →
    IsTake f live n base member g → Rewrites f live n (without base (entries_of (f n))) g
take_rewrites f live lawful n base member g take' =
    let before = leaf_ordered (f n) take'.is_leaf (lawful.tree.ordered n take'.live_leaf) in
    record {
      alive = take'.live_leaf;
      leaf = take'.is_leaf;
      above = take'.above;
      others = take'.others;
      within = left_within (λ m. not (eqb m.span.first base)) (f n).low (f n).high (entries_of (f n)) before.1;
    }

take_becomes : (f : Contents) (live : ℕ → Bool) (n base : ℕ) (member : Member) (g : Contents) →
    IsTake f live n base member g →
    EntriesBecome (Some (Deregister base)) (λ m. In m (entries_of (f n)))
    (λ m. In m (without base (entries_of (f n))))
take_becomes f live n base member g take' =
    let named' = at_base_first base (entries_of (f n)) member take'.held in (
      (member, named'),
      λ m. (left_in base (entries_of (f n)) m, λ h. left_from base (entries_of (f n)) m h.0 h.1),
    )

pub take_changes : (f : Contents) (live : ℕ → Bool) → IsLawfulTree f live →
    (n base : ℕ) (member : Member) (g : Contents) →
    IsTake f live n base member g → fewest_entries n < length (entries_of (f n)) →
    IsChangeOf f live n (n ∷ []) [] g (Some (Deregister base)) (n ∷ [])
take_changes f live lawful n base member g take' spare =
    let before = leaf_ordered (f n) take'.is_leaf (lawful.tree.ordered n take'.live_leaf) in
    let filled = leaf_filled n (f n) take'.is_leaf (lawful.filled n take'.live_leaf) in
    let len = left_length base (f n).low (f n).high (entries_of (f n)) before.1 in
    rewritten_changes f live lawful.tree n (without base (entries_of (f n))) g
    (take_rewrites f live lawful n base member g take')
    (Some (Deregister base)) (take_becomes f live n base member g take')
    (subst (IsFilled n) (sym take'.above) (omega (arith, len.1), omega (arith, len.0)))

pub take_takes : (f : Contents) (live : ℕ → Bool) → IsLawfulTree f live →
    (n base : ℕ) (member : Member) (g : Contents) →
    IsTake f live n base member g → Takes f live n member g
take_takes f live lawful n base member g take' =
    let r = take_rewrites f live lawful n base member g take' in
    let es = without base (entries_of (f n)) in
    let entries = rewritten_entries f live lawful.tree n es g r (Some (Deregister base))
    (take_becomes f live n base member g take') in
    let taken = at_base_first base (entries_of (f n)) member take'.held in
    let held : HasEntry f live member =
    (n, (take'.live_leaf, in_contains (entries_of (f n)) member taken.0)) in
    record {
      tree = rewritten_tree f live lawful.tree n es g r;
      lawful = λ spare. leaf_lawful f live lawful n take'.live_leaf g (Some (Deregister base))
          (take_changes f live lawful n base member g take' spare);
      entries = λ m. (
        λ has. (let old = (entries.1 m).0 has in
            (old.0, λ e. old.1 (ap (λ (x : Member). x.span.first) e ∙ taken.1))),
        λ h. (entries.1 m).1
            (h.0, λ first. h.1 (one_at f live lawful.tree m member h.0 held (first ∙ sym taken.1))),
      );
    }

pub replace_changes : (f : Contents) (live : ℕ → Bool) → IsLawfulTree f live →
    (n : ℕ) (member : Member) (g : Contents) →
    IsReplace f live n member g → IsChangeOf f live n (n ∷ []) [] g (Some (Replace member)) (n ∷ [])
replace_changes f live lawful n member g replace' =
    let es = entries_of (f n) in
    let before = leaf_ordered (f n) replace'.is_leaf (lawful.tree.ordered n replace'.live_leaf) in
    let filled = leaf_filled n (f n) replace'.is_leaf (lawful.filled n replace'.live_leaf) in
    let len = payload_length member es in
    let held = span_listed member.span es replace'.held in
    rewritten_changes f live lawful.tree n (with_payload member es) g
    (record {
      alive = replace'.live_leaf;
      leaf = replace'.is_leaf;
      above = replace'.above;
      others = replace'.others;
      within = payload_within member (f n).low (f n).high es before.1;
    })
    (Some (Replace member)) (held, listed_payload member es held)
    (subst (IsFilled n) (sym replace'.above) (omega (arith, len), omega (arith, len)))
