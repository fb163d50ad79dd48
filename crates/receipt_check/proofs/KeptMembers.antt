-- Members in a map by their first addresses.
use Rattle.std.proofs.Common.{◌≡◌, ◌≢◌, ◌↔◌, ◌⊎◌, ℕ, ◌+◌, ◌<◌, ◌≤◌, zero, suc, List, [], ◌∷◌, ◌++◌, length, get_or, Option, Some, None, Bool, true, false, not, cond, ◌==◌, min, IsTrue, All, inl, inr, refl, sym, ◌∙◌, ap, subst, length-append, arith}
use Rattle.std.specs.Option.{is_some, IsSome, IfSome}
use Rattle.std.specs.List.{Contains, find}
use Rattle.std.specs.BTreeMap.{BTreeMap, get, btree_map_len}
use Rattle.std.specs.Ordering.{nat_cmp, is_lt, is_gt}
use Rattle.std.proofs.lemmas.Grind.{common_steps}
use Rattle.std.proofs.lemmas.Bool.{cases_lt, cases_order, false≢true, eqb-true, eq-eqb, ne_eqb, not-true, false_from_ne_true, cases_Bool, not_from_false}
use Rattle.std.proofs.lemmas.List.{get_or_default, length-map}
use Rattle.std.proofs.lemmas.List.Elements.{All-head, All-tail, All-push, All-filter, filter_passes, All-contains, All-contains_itself, All-weaker, Contains-push, Contains-append_left, Contains-append_cases, Contains-push_cases}
use Rattle.reg_model.specs.SpanData.{SpanData, IsSpan, contains, Overlaps, is_same_span}
use Rattle.reg_model.specs.State.{at_base, at_span, IsFree, AreDisjoint}
use Rattle.reg_model.specs.History.{without, with_payload}
use Rattle.reg_model.specs.Query.{member_at}
use Rattle.reg_model.specs.declared.span.Member.{Member}
use Rattle.reg_model.proofs.Replacing.{same_span, AreDisjoint-with_payload, All-with_payload, from_with_payload, others_with_payload, new_with_payload}
use Rattle.reg_model.proofs.Spans.{overlap_from, overlap_bounds, contains_bounds}
use Rattle.reg_model.proofs.Histories.{AreDisjoint-push, AreDisjoint-filter, member_at-contains}
use Rattle.receipt_check.specs.Maps.{IsMapOf, IsGreatestUpTo}

-- ---- lists

apart_at : (xs : List Member) (i j : ℕ) (d : Member) → AreDisjoint xs → i < j → j < length xs → ¬ Overlaps (get_or xs j d).span (get_or xs i d).span
apart_at [] i j d disjoint less within = absurd (omega arith)
apart_at (x ∷ xs) zero zero d disjoint less within = absurd (omega arith)
apart_at (x ∷ xs) zero (suc j) d disjoint less within = disjoint.0 j d (omega arith)
apart_at (x ∷ xs) (suc i) zero d disjoint less within = absurd (omega arith)
apart_at (x ∷ xs) (suc i) (suc j) d disjoint less within = apart_at xs i j d disjoint.1 (omega arith) (omega arith)

swapped : (a b : SpanData) → Overlaps a b → Overlaps b a
swapped a b common = (common.0, (common.1.1, common.1.0))

-- of disjoint members that differ in their first addresses no two overlap
not_both : (xs : List Member) (x y : Member) → AreDisjoint xs → Contains xs x → Contains xs y → x.span.first < y.span.first → Overlaps x.span y.span → ⊥
not_both xs x y disjoint (i, i_within, x_is) (j, j_within, y_is) below meets =
    let y_at : get_or xs j x ≡ y = get_or_default xs j x y j_within ∙ y_is in
    elim (cases_order i j) [
      | inl same ↦ (let both : x ≡ y = sym x_is ∙ ap (λ k. get_or xs k x) same ∙ y_at in let firsts : x.span.first ≡ y.span.first = ap (λ (m : Member). m.span.first) both in omega arith)
      | inr (inl less) ↦ apart_at xs i j x disjoint less j_within (subst (λ (m : Member). Overlaps m.span (get_or xs i x).span) (sym y_at) (subst (λ (m : Member). Overlaps y.span m.span) (sym x_is) (swapped x.span y.span meets)))
      | inr (inr more) ↦ apart_at xs j i x disjoint more i_within (subst (λ (m : Member). Overlaps m.span (get_or xs j x).span) (sym x_is) (subst (λ (m : Member). Overlaps x.span m.span) (sym y_at) meets))
    ]

find_none : (p : Member → Bool) (xs : List Member) → All (λ x. p x ≡ false) xs → find p xs ≡ None
find_none p [] none = refl
find_none p (x ∷ xs) none = rw (All-head (λ x. p x ≡ false) x xs none) (find_none p xs (All-tail (λ x. p x ≡ false) x xs none))

first_of : (b : Bool) (x m : Member) (rest : Option Member) → (b ≡ true → x ≡ m) → (b ≡ false → rest ≡ Some m) → cond b (Some x) rest ≡ Some m
first_of true x m rest here later = ap Some (here refl)
first_of false x m rest here later = later refl

-- the one of which a test holds is found
find_one : (p : Member → Bool) (xs : List Member) (m : Member) → All (λ x. p x ≡ true → x ≡ m) xs → Contains xs m → p m ≡ true → find p xs ≡ Some m
find_one p [] m only (k, within, is) holds = absurd (omega arith)
find_one p (x ∷ xs) m only listed holds =
    let none : Contains [] m → ⊥ = λ (k, within, is). omega arith in
    first_of (p x) x m (find p xs) (All-head (λ x. p x ≡ true → x ≡ m) x xs only) (λ differs. elim (Contains-append_cases (x ∷ []) xs m listed) [
      | inl here ↦ elim (Contains-push_cases [] x m here) [
        | inl nowhere ↦ absurd (none nowhere)
        | inr same ↦ absurd (false≢true (sym differs ∙ ap p same ∙ holds))
      ]
      | inr later ↦ find_one p xs m (All-tail (λ x. p x ≡ true → x ≡ m) x xs only) later holds
    ])

module _ (base : ℕ) where
  abbrev Stays : Member → Bool
  Stays m = not (m.span.first == base)

  -- where no member has the first address, all stay
  all_stay : (xs : List Member) → All (λ m. m.span.first ≡ base → ⊥) xs → without base xs ≡ xs
  all_stay [] others = refl
  all_stay (x ∷ xs) others = rw (ne_eqb x.span.first base (All-head (λ (m : Member). m.span.first ≡ base → ⊥) x xs others)) (ap (λ ms. x ∷ ms) (all_stay xs (All-tail (λ (m : Member). m.span.first ≡ base → ⊥) x xs others)))

  one_goes : (b : Bool) (x : Member) (xs : List Member) → (b ≡ true → without base xs ≡ xs) → (b ≡ false → length (without base xs) + 1 ≡ length xs) → length (cond (not b) (x ∷ without base xs) (without base xs)) + 1 ≡ length (x ∷ xs)
  one_goes true x xs last more = (let same : length (without base xs) ≡ length xs = ap length (last refl) in omega arith)
  one_goes false x xs last more = (let rest = more refl in omega arith)

  -- of disjoint members one goes at the most
  pub one_less : (xs : List Member) (m : Member) → All (λ m. IsSpan m.span) xs → AreDisjoint xs → Contains xs m → m.span.first ≡ base → length (without base xs) + 1 ≡ length xs
  one_less [] m spans disjoint (k, within, is) at = absurd (omega arith)
  one_less (x ∷ xs) m spans disjoint listed at =
      let none : Contains [] m → ⊥ = λ (k, within, is). omega arith in
      let x_span = All-head (λ (m : Member). IsSpan m.span) x xs spans in
      one_goes (x.span.first == base) x xs (λ is. all_stay xs (λ k d within same. disjoint.0 k d within (let first = eqb-true x.span.first base is in let d_span = All-tail (λ (m : Member). IsSpan m.span) x xs spans k d within in let x_up = x_span.ordered in let d_up = d_span.ordered in overlap_from (get_or xs k d).span x.span d_span x_span (omega arith) (omega arith)))) (λ differs. elim (Contains-append_cases (x ∷ []) xs m listed) [
        | inl here ↦ elim (Contains-push_cases [] x m here) [
          | inl nowhere ↦ absurd (none nowhere)
          | inr same ↦ absurd (false≢true (sym differs ∙ eq-eqb x.span.first base (ap (λ (m : Member). m.span.first) same ∙ at)))
        ]
        | inr later ↦ one_less xs m (All-tail (λ (m : Member). IsSpan m.span) x xs spans) disjoint.1 later at
      ])

-- the others stay
stays_in : (base : ℕ) (xs : List Member) (x : Member) → Contains xs x → (x.span.first ≡ base → ⊥) → Contains (without base xs) x
stays_in base [] x (k, within, is) differs = absurd (omega arith)
stays_in base (y ∷ xs) x listed differs =
    let none : Contains [] x → ⊥ = λ (k, within, is). omega arith in
    elim (Contains-append_cases (y ∷ []) xs x listed) [
      | inl here ↦ elim (Contains-push_cases [] y x here) [
        | inl nowhere ↦ absurd (none nowhere)
        | inr same ↦ (let other : (y.span.first == base) ≡ false = ne_eqb y.span.first base (λ at. differs (sym (ap (λ (m : Member). m.span.first) same) ∙ at)) in rw other (0, omega arith, same))
      ]
      | inr later ↦ (let rest = stays_in base xs x later differs in elim (y.span.first == base) as (λ b. Contains (cond (not b) (y ∷ without base xs) (without base xs)) x) [
        | true ↦ rest
        | false ↦ (let (k, within, is) = rest in (suc k, omega arith, is))
      ])
    ]

-- ---- the map

listed_at : (o : Option Member) (P : Member → Type 0) (m : Member) → o ≡ Some m → IfSome o P → P m
listed_at None P m is holds = absurd cc
listed_at (Some x) P m is holds = let same : x ≡ m = cc in subst P same holds

module _ (apart : BTreeMap ℕ Member) (kept : List Member) (are : IsMapOf apart kept) where
  -- what stands under an address is a member that begins there
  there : (base : ℕ) (m : Member) → get nat_cmp apart base ≡ Some m → Contains kept m × (m.span.first ≡ base)
  there base m is = listed_at (get nat_cmp apart base) (λ m. Contains kept m × (m.span.first ≡ base)) m is (are.listed base)

  found : (x : Member) → Contains kept x → get nat_cmp apart x.span.first ≡ Some x
  found x inside = All-contains (λ m. get nat_cmp apart m.span.first ≡ Some m) kept x are.found inside

  spanned : (x : Member) → Contains kept x → IsSpan x.span
  spanned x inside = All-contains (λ m. IsSpan m.span) kept x are.spans inside

  same_base : (x m : Member) (base : ℕ) → Contains kept x → x.span.first ≡ base → get nat_cmp apart base ≡ Some m → x ≡ m
  same_base x m base inside at is = (let here = subst (λ k. get nat_cmp apart k ≡ Some x) at (found x inside) in cc)

  ends_below : (x y : Member) → Contains kept x → Contains kept y → x.span.first < y.span.first → x.span.last < y.span.first
  ends_below x y x_in y_in below = elim (cases_lt x.span.last y.span.first) [
    | inl less ↦ less
    | inr reach ↦ absurd (not_both kept x y are.disjoint x_in y_in below (let y_up = (spanned y y_in).ordered in overlap_from x.span y.span (spanned x x_in) (spanned y y_in) (omega arith) reach))
  ]

  -- one that begins up to an address is the last of these, or ends below it
  up_to : (address : ℕ) (m : Member) → IsGreatestUpTo apart address (Some m) → (x : Member) → Contains kept x → x.span.first ≤ address → (x ≡ m) ⊎ (x.span.last < m.span.first)
  up_to address m (base, low, is, none) x inside below = elim (cases_order x.span.first base) [
    | inl same ↦ inl (same_base x m base inside same is)
    | inr (inl less) ↦ (let m_there = there base m is in let at = m_there.1 in inr (ends_below x m inside m_there.0 (omega arith)))
    | inr (inr more) ↦ absurd (let here = found x inside in let nowhere = none x.span.first more below in cc)
  ]

  none_up_to : (address : ℕ) → IsGreatestUpTo apart address None → (x : Member) → Contains kept x → address < x.span.first
  none_up_to address none x inside = elim (cases_lt address x.span.first) [
    | inl above ↦ above
    | inr below ↦ absurd (let here = found x inside in let nowhere = none x.span.first below in cc)
  ]

  module _ (span : SpanData) (is_span : IsSpan span) (address : ℕ) where
    abbrev Above : Member → Type 0
    Above m = Overlaps m.span span → address < m.span.first

    pub above_none : IsGreatestUpTo apart (min address span.last) None → All Above kept
    above_none none = All-weaker (Contains kept) Above (λ x inside meets. (let past = none_up_to (min address span.last) none x inside in let within = (overlap_bounds x.span span meets).0 in omega arith)) kept (All-contains_itself kept)

    pub above_some : (m : Member) (b : Bool) → IsGreatestUpTo apart (min address span.last) (Some m) → (IsTrue b ↔ Overlaps m.span span) → (IsTrue (not b) ↔ All Above kept)
    above_some m b last meets =
        let base = last.0 in
        let m_there = there base m last.2 in
        let at = m_there.1 in
        let low = last.1 in (
          λ misses. All-weaker (Contains kept) Above (λ x inside overlaps. elim (cases_lt address x.span.first) [
            | inl past ↦ past
            | inr up ↦ (let bounds = overlap_bounds x.span span overlaps in let x_low = bounds.0 in let x_high = bounds.1 in elim (up_to (min address span.last) m last x inside (omega arith)) [
              | inl same ↦ absurd (false≢true (sym (not-true b misses) ∙ meets.1 (subst (λ (y : Member). Overlaps y.span span) same overlaps)))
              | inr less ↦ absurd (false≢true (sym (not-true b misses) ∙ meets.1 (let m_up = (spanned m m_there.0).ordered in overlap_from m.span span (spanned m m_there.0) is_span (omega arith) (omega arith))))
            ])
          ]) kept (All-contains_itself kept),
          λ above. not_from_false b (false_from_ne_true b (λ holds. (let past = All-contains Above kept m above m_there.0 (meets.0 holds) in omega arith))),
        )

  -- the member that contains an address
  pub at_none : (pc : ℕ) → IsGreatestUpTo apart pc None → member_at pc kept ≡ None
  at_none pc none = find_none (λ m. contains m.span pc) kept (All-weaker (Contains kept) (λ m. contains m.span pc ≡ false) (λ x inside. false_from_ne_true (contains x.span pc) (λ holds. (let past = none_up_to pc none x inside in let low = (contains_bounds x.span pc holds).0 in omega arith))) kept (All-contains_itself kept))

  pub at_some : (pc : ℕ) (m : Member) → IsGreatestUpTo apart pc (Some m) → contains m.span pc ≡ true → member_at pc kept ≡ Some m
  at_some pc m last holds = member_at-contains kept m pc are.disjoint (there last.0 m last.2).0 holds

  pub at_other : (pc : ℕ) (m : Member) → IsGreatestUpTo apart pc (Some m) → contains m.span pc ≡ false → member_at pc kept ≡ None
  at_other pc m last misses = find_none (λ m. contains m.span pc) kept (All-weaker (Contains kept) (λ m. contains m.span pc ≡ false) (λ x inside. false_from_ne_true (contains x.span pc) (λ holds. (let bounds = contains_bounds x.span pc holds in let low = bounds.0 in let high = bounds.1 in elim (up_to pc m last x inside low) [
    | inl same ↦ false≢true (sym misses ∙ ap (λ (y : Member). contains y.span pc) (sym same) ∙ holds)
    | inr less ↦ (let m_there = there last.0 m last.2 in let at = m_there.1 in let up = last.1 in omega arith)
  ]))) kept (All-contains_itself kept))

  pub at_found : (pc : ℕ) (m : Member) → IsGreatestUpTo apart pc (Some m) → cond (contains m.span pc) (Some m) None ≡ member_at pc kept
  at_found pc m last = elim (cases_Bool (contains m.span pc)) [
    | inl holds ↦ rw holds (sym (at_some pc m last holds))
    | inr misses ↦ rw misses (sym (at_other pc m last misses))
  ]

  -- the member with a first address
  pub base_is : (base : ℕ) (o : Option Member) → get nat_cmp apart base ≡ o → at_base base kept ≡ o
  base_is base None is = find_none (λ m. m.span.first == base) kept (All-weaker (Contains kept) (λ m. (m.span.first == base) ≡ false) (λ x inside. ne_eqb x.span.first base (λ at. (let here = subst (λ k. get nat_cmp apart k ≡ Some x) at (found x inside) in cc))) kept (All-contains_itself kept))
  base_is base (Some m) is = find_one (λ m. m.span.first == base) kept m (All-weaker (Contains kept) (λ x. (x.span.first == base) ≡ true → x ≡ m) (λ x inside holds. same_base x m base inside (eqb-true x.span.first base holds) is) kept (All-contains_itself kept)) (there base m is).0 (eq-eqb m.span.first base (there base m is).1)

  -- the member with a whole span
  pub span_none : (span : SpanData) → get nat_cmp apart span.first ≡ None → at_span span kept ≡ None
  span_none span none = find_none (λ m. is_same_span m.span span) kept (All-weaker (Contains kept) (λ m. is_same_span m.span span ≡ false) (λ x inside. false_from_ne_true (is_same_span x.span span) (λ same. (let here = subst (λ k. get nat_cmp apart k ≡ Some x) (ap (λ (s : SpanData). s.first) (same_span x.span span same)) (found x inside) in cc))) kept (All-contains_itself kept))

  -- that member is the one under its first address
  its_own : (span : SpanData) (m : Member) → get nat_cmp apart span.first ≡ Some m → (x : Member) → Contains kept x → is_same_span x.span span ≡ true → x ≡ m
  its_own span m is x inside same = same_base x m span.first inside (ap (λ (s : SpanData). s.first) (same_span x.span span same)) is

  span_by : (span : SpanData) (m : Member) (b : Bool) → get nat_cmp apart span.first ≡ Some m → is_same_span m.span span ≡ b → at_span span kept ≡ cond b (Some m) None
  span_by span m true is same = find_one (λ x. is_same_span x.span span) kept m (All-weaker (Contains kept) (λ x. is_same_span x.span span ≡ true → x ≡ m) (λ x inside fits. its_own span m is x inside fits) kept (All-contains_itself kept)) (there span.first m is).0 same
  span_by span m false is other = find_none (λ x. is_same_span x.span span) kept (All-weaker (Contains kept) (λ x. is_same_span x.span span ≡ false) (λ x inside. false_from_ne_true (is_same_span x.span span) (λ fits. false≢true (sym other ∙ ap (λ (y : Member). is_same_span y.span span) (sym (its_own span m is x inside fits)) ∙ fits))) kept (All-contains_itself kept))

  pub span_is : (span : SpanData) (m : Member) → get nat_cmp apart span.first ≡ Some m → cond (is_same_span m.span span) (Some m) None ≡ at_span span kept
  span_is span m is = sym (span_by span m (is_same_span m.span span) is refl)

  -- a member that has the span is the one under its first address
  span_there : (span : SpanData) (o : Option Member) → get nat_cmp apart span.first ≡ o → is_some (at_span span kept) ≡ true → (x : Member) × (get nat_cmp apart span.first ≡ Some x) × Contains kept x × (x.span ≡ span)
  span_there span None is some = absurd (false≢true (sym (ap is_some (span_none span is)) ∙ some))
  span_there span (Some x) is some = elim (cases_Bool (is_same_span x.span span)) [
    | inl same ↦ (x, is, (there span.first x is).0, same_span x.span span same)
    | inr other ↦ absurd (false≢true (sym (ap is_some (span_by span x false is other)) ∙ some))
  ]

  pub kept_iff : (m : Member) → ((get nat_cmp apart m.span.first ≡ Some m) ↔ Contains kept m)
  kept_iff m = (λ is. (there m.span.first m is).0, λ inside. found m inside)

  -- one more
  free_base : (m : Member) → IsSpan m.span → IsFree m.span kept → (x : Member) → Contains kept x → x.span.first ≡ m.span.first → ⊥
  free_base m m_span free x inside same = All-contains (λ x. ¬ Overlaps x.span m.span) kept x free inside (let x_up = (spanned x inside).ordered in let m_up = m_span.ordered in overlap_from x.span m.span (spanned x inside) m_span (omega arith) (omega arith))

  none_there : (m : Member) → IsSpan m.span → IsFree m.span kept → (o : Option Member) → get nat_cmp apart m.span.first ≡ o → o ≡ None
  none_there m m_span free None is = refl
  none_there m m_span free (Some x) is = (let x_there = there m.span.first x is in absurd (free_base m m_span free x x_there.0 x_there.1))

  pub kept_push : (new : BTreeMap ℕ Member) (m : Member) → IsSpan m.span → IsFree m.span kept → get nat_cmp new m.span.first ≡ Some m → ((base : ℕ) → (base ≡ m.span.first → ⊥) → get nat_cmp new base ≡ get nat_cmp apart base) → (get nat_cmp apart m.span.first ≡ None → btree_map_len new ≡ btree_map_len apart + 1) → IsMapOf new (kept ++ m ∷ [])
  kept_push new m m_span free here others many = record {
    spans = All-push (λ (x : Member). IsSpan x.span) kept m are.spans m_span;
    disjoint = AreDisjoint-push kept m are.disjoint free;
    found = All-push (λ (x : Member). get nat_cmp new x.span.first ≡ Some x) kept m (All-weaker (Contains kept) (λ x. get nat_cmp new x.span.first ≡ Some x) (λ x inside. others x.span.first (free_base m m_span free x inside) ∙ found x inside) kept (All-contains_itself kept)) here;
    listed = λ base. elim (cases_lt base m.span.first) [
      | inl less ↦ old base (λ same. (omega arith))
      | inr up ↦ elim (cases_lt m.span.first base) [
        | inl more ↦ old base (λ same. (omega arith))
        | inr down ↦ (let same : m.span.first ≡ base = omega arith in subst (λ (o : Option Member). IfSome o (λ x. Contains (kept ++ m ∷ []) x × (x.span.first ≡ base))) (sym (subst (λ k. get nat_cmp new k ≡ Some m) same here)) (Contains-push kept m, same))
      ]
    ];
    many = (let one = many (none_there m m_span free (get nat_cmp apart m.span.first) refl) in let before = are.many in rw length-append (omega arith));
  } where
    later : (base : ℕ) (o : Option Member) → IfSome o (λ x. Contains kept x × (x.span.first ≡ base)) → IfSome o (λ x. Contains (kept ++ m ∷ []) x × (x.span.first ≡ base))
    later base None is = tt
    later base (Some x) is = (Contains-append_left kept (m ∷ []) x is.0, is.1)

    old : (base : ℕ) → (base ≡ m.span.first → ⊥) → IfSome (get nat_cmp new base) (λ x. Contains (kept ++ m ∷ []) x × (x.span.first ≡ base))
    old base differs = subst (λ (o : Option Member). IfSome o (λ x. Contains (kept ++ m ∷ []) x × (x.span.first ≡ base))) (sym (others base differs)) (later base (get nat_cmp apart base) (are.listed base))

  -- one that gets another payload
  module _ (new : BTreeMap ℕ Member) (m : Member) (m_span : IsSpan m.span) (some : is_some (at_span m.span kept) ≡ true) (here : get nat_cmp new m.span.first ≡ Some m) (others : (base : ℕ) → (base ≡ m.span.first → ⊥) → get nat_cmp new base ≡ get nat_cmp apart base) (many : IsSome (get nat_cmp apart m.span.first) → btree_map_len new ≡ btree_map_len apart) where
    abbrev was : (x : Member) × (get nat_cmp apart m.span.first ≡ Some x) × Contains kept x × (x.span ≡ m.span)
    was = span_there m.span (get nat_cmp apart m.span.first) refl some

    -- another member begins elsewhere
    elsewhere : (x : Member) → Contains kept x → x.span ≢ m.span → x.span.first ≡ m.span.first → ⊥
    elsewhere x inside other at = other (ap (λ (y : Member). y.span) (same_base x was.0 m.span.first inside at was.1) ∙ was.3)

    still : (x : Member) → (Contains kept x × (x.span ≢ m.span)) ⊎ (x ≡ m) → get nat_cmp new x.span.first ≡ Some x
    still x (inl (inside, other)) = others x.span.first (elsewhere x inside other) ∙ found x inside
    still x (inr is) = subst (λ (y : Member). get nat_cmp new y.span.first ≡ Some y) (sym is) here

    as_before : (base : ℕ) → (base ≡ m.span.first → ⊥) → (o : Option Member) → IfSome o (λ x. Contains kept x × (x.span.first ≡ base)) → IfSome o (λ x. Contains (with_payload m kept) x × (x.span.first ≡ base))
    as_before base differs None is = tt
    as_before base differs (Some x) is = (others_with_payload m x kept is.0 (λ same. differs (sym is.1 ∙ ap (λ (s : SpanData). s.first) same)), is.1)

    listed_then : (base : ℕ) → (base ≡ m.span.first → ⊥) → IfSome (get nat_cmp new base) (λ x. Contains (with_payload m kept) x × (x.span.first ≡ base))
    listed_then base differs = subst (λ (o : Option Member). IfSome o (λ x. Contains (with_payload m kept) x × (x.span.first ≡ base))) (sym (others base differs)) (as_before base differs (get nat_cmp apart base) (are.listed base))

    pub kept_replaced : IsMapOf new (with_payload m kept)
    kept_replaced = record {
      spans = All-with_payload (λ (x : Member). IsSpan x.span) m kept m_span are.spans;
      disjoint = AreDisjoint-with_payload m kept are.disjoint;
      found = All-weaker (Contains (with_payload m kept)) (λ x. get nat_cmp new x.span.first ≡ Some x) (λ x inside. still x (from_with_payload m x kept inside)) (with_payload m kept) (All-contains_itself (with_payload m kept));
      listed = λ base. elim (cases_order base m.span.first) [
        | inl same ↦ subst (λ (o : Option Member). IfSome o (λ x. Contains (with_payload m kept) x × (x.span.first ≡ base))) (sym (subst (λ k. get nat_cmp new k ≡ Some m) (sym same) here)) (new_with_payload m was.0 kept was.2 was.3, sym same)
        | inr (inl less) ↦ listed_then base (λ same. omega arith)
        | inr (inr more) ↦ listed_then base (λ same. omega arith)
      ];
      many = length-map kept (λ x. cond (is_same_span x.span m.span) m x) ∙ are.many ∙ sym (many (ap is_some was.1));
    }

  -- one less
  module _ (new : BTreeMap ℕ Member) (base : ℕ) (here : get nat_cmp new base ≡ None) (others : (other : ℕ) → (other ≡ base → ⊥) → get nat_cmp new other ≡ get nat_cmp apart other) where
    abbrev Remains : Member → Bool
    Remains m = not (m.span.first == base)

    kept_still : (other : ℕ) → (other ≡ base → ⊥) → (o : Option Member) → IfSome o (λ x. Contains kept x × (x.span.first ≡ other)) → IfSome o (λ x. Contains (without base kept) x × (x.span.first ≡ other))
    kept_still other differs None is = tt
    kept_still other differs (Some x) is = (stays_in base kept x is.0 (λ same. differs (sym is.1 ∙ same)), is.1)

    fewer : (o : Option Member) (n : ℕ) → get nat_cmp apart base ≡ o → n + cond (is_some o) 1 0 ≡ btree_map_len apart → length (without base kept) ≡ n
    fewer None n is count = (let all = all_stay base kept (All-weaker (Contains kept) (λ m. m.span.first ≡ base → ⊥) (λ x inside at. (let there = subst (λ k. get nat_cmp apart k ≡ Some x) at (found x inside) in cc)) kept (All-contains_itself kept)) in let same : length (without base kept) ≡ length kept = ap length all in let many = are.many in omega arith)
    fewer (Some m) n is count = (let m_there = there base m is in let less = one_less base kept m are.spans are.disjoint m_there.0 m_there.1 in let many = are.many in omega arith)

    pub kept_without : btree_map_len new + cond (is_some (get nat_cmp apart base)) 1 0 ≡ btree_map_len apart → IsMapOf new (without base kept)
    kept_without count = record {
      spans = All-filter Remains (λ m. IsSpan m.span) kept are.spans;
      disjoint = AreDisjoint-filter Remains [] kept are.disjoint;
      found = λ k d within. (let stays = filter_passes Remains kept k d within in let was = All-filter Remains (λ m. get nat_cmp apart m.span.first ≡ Some m) kept are.found k d within in others (get_or (without base kept) k d).span.first (λ at. false≢true (rw (eq-eqb (get_or (without base kept) k d).span.first base at) at stays)) ∙ was);
      listed = λ other. elim (cases_order other base) [
        | inl same ↦ subst (λ (o : Option Member). IfSome o (λ x. Contains (without base kept) x × (x.span.first ≡ other))) (sym (subst (λ k. get nat_cmp new k ≡ None) (sym same) here)) tt
        | inr (inl less) ↦ subst (λ (o : Option Member). IfSome o (λ x. Contains (without base kept) x × (x.span.first ≡ other))) (sym (others other (λ same. omega arith))) (kept_still other (λ same. omega arith) (get nat_cmp apart other) (are.listed other))
        | inr (inr more) ↦ subst (λ (o : Option Member). IfSome o (λ x. Contains (without base kept) x × (x.span.first ≡ other))) (sym (others other (λ same. omega arith))) (kept_still other (λ same. omega arith) (get nat_cmp apart other) (are.listed other))
      ];
      many = fewer (get nat_cmp apart base) (btree_map_len new) refl count;
    }

-- ---- tests

-- none overlaps the span where those that do begin above its last address
pub free_same : (span : SpanData) (address : ℕ) (xs : List Member) (b : Bool) → address ≡ span.last → (IsTrue b ↔ All (λ m. Overlaps m.span span → address < m.span.first) xs) → (IsTrue b ↔ IsFree span xs)
free_same span address xs b is above = (
  λ holds. All-weaker (λ (m : Member). Overlaps m.span span → address < m.span.first) (λ (m : Member). ¬ Overlaps m.span span) (λ m past meets. (let over = past meets in let low = (overlap_bounds m.span span meets).0 in omega arith)) xs (above.0 holds),
  λ free. above.1 (All-weaker (λ (m : Member). ¬ Overlaps m.span span) (λ (m : Member). Overlaps m.span span → address < m.span.first) (λ m apart meets. absurd (apart meets)) xs free),
)

pub none_of : (o : Option Member) → (IsSome o → ⊥) → o ≡ None
none_of None never = refl
none_of (Some m) never = absurd (never refl)

-- one test behind another
pub and_then : (P Q : Type 0) (a b : Bool) → a ≡ true → (IsTrue a ↔ P) → (IsTrue b ↔ Q) → (IsTrue b ↔ (P × Q))
and_then P Q a b is first second = (λ holds. (first.0 is, second.0 holds), λ both. second.1 both.1)

pub and_not : (P Q : Type 0) (a : Bool) → a ≡ false → (IsTrue a ↔ P) → (IsTrue a ↔ (P × Q))
and_not P Q a is first = (λ holds. absurd (false≢true (sym is ∙ holds)), λ both. first.1 both.0)

-- a test that fails, of something that asks for what it tests
pub fails_by : (P R : Type 0) (a : Bool) → a ≡ false → (IsTrue a ↔ P) → (R → P) → (IsTrue false ↔ R)
fails_by P R a is tests asks = (λ never. absurd (false≢true never), λ holds. absurd (false≢true (sym is ∙ tests.1 (asks holds))))

-- what comparisons say
pub le_from : (a b : ℕ) → is_gt (nat_cmp a b) ≡ false → a ≤ b
le_from a b is = grind (arith, common_steps)

pub le_to : (a b : ℕ) → a ≤ b → is_gt (nat_cmp a b) ≡ false
le_to a b up = grind (arith, common_steps)

pub le_back : (a b : ℕ) → is_lt (nat_cmp a b) ≡ false → b ≤ a
le_back a b is = grind (arith, common_steps)
