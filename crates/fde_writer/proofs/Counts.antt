-- How often lists of members have one, and what putting one and taking one away make of that.
use Rattle.std.proofs.Common.{◌≡◌, ◌&&◌, ℕ, ◌+◌, ◌≤◌, List, [], ◌∷◌, ◌++◌, Bool, true, false, not, cond, eqb, Some, refl, sym, ap, ◌∙◌, subst, arith, inl, inr, leb, le-leb}
use Rattle.std.specs.List.{All, Contains, count_by}
use Rattle.std.proofs.lemmas.Bool.{and_parts, eqb-true, eq-eqb}
use Rattle.std.proofs.lemmas.Bool.Decides.{eqb_tells}
use Rattle.std.proofs.lemmas.List.Elements.{All-contains, All-head, All-tail, Contains-append_right}
use Rattle.std.proofs.lemmas.List.Sums.{sum_by-append, sum_by-cons, sum_by_push}
use Rattle.fde_members.proofs.Covers.{first_or_later}
use Rattle.reg_model.specs.History.{without}
use Rattle.reg_model.specs.SpanData.{IsSpan, Overlaps}
use Rattle.reg_model.specs.State.{AreDisjoint, IsFree, at_base}
use Rattle.reg_model.specs.declared.span.Member.{Member}

pub count-cons : {X : Type 0} (test : X → Bool) (x : X) (xs : List X) → count_by test (x ∷ xs) ≡ cond (test x) 1 0 + count_by test xs
count-cons test x xs = sum_by-cons (λ y. cond (test y) 1 0) x xs

pub count-append : {X : Type 0} (test : X → Bool) (xs ys : List X) → count_by test (xs ++ ys) ≡ count_by test xs + count_by test ys
count-append test xs ys = sum_by-append (λ y. cond (test y) 1 0) xs ys

pub count-push : {X : Type 0} (test : X → Bool) (xs : List X) (x : X) → count_by test (xs ++ x ∷ []) ≡ count_by test xs + cond (test x) 1 0
count-push test xs x = sum_by_push (λ y. cond (test y) 1 0) xs x

-- 1 for a test that passes
abbrev pub one_if : Bool → ℕ
one_if b = cond b 1 0

-- where a test passes oftener than never, an item passes it
pub counted_one : {X : Type 0} (test : X → Bool) (xs : List X) → 1 ≤ count_by test xs → (x : X) × (Contains xs x × (test x ≡ true))
counted_one test [] some = absurd (omega (arith, some))
counted_one {X} test (h ∷ xs) some = go (test h) refl (λ more. counted_one test xs more)
  where
    go : (b : Bool) → test h ≡ b → (1 ≤ count_by test xs → (x : X) × (Contains xs x × (test x ≡ true))) → (x : X) × (Contains (h ∷ xs) x × (test x ≡ true))
    go true is rest = (h, ((0, omega arith, refl), is))
    go false is rest =
        let e = count-cons test h xs in
        let none : one_if (test h) ≡ 0 = ap one_if is in
        let found = rest (omega (arith, some, e, none)) in
        (found.0, (Contains-append_right (h ∷ []) xs found.0 found.1.0, found.1.1))

-- an item that passes a test is counted
pub counts : {X : Type 0} (test : X → Bool) (xs : List X) (x : X) → Contains xs x → test x ≡ true → 1 ≤ count_by test xs
counts test [] x listed passes = absurd (let within = listed.1 in omega (arith, within))
counts test (h ∷ xs) x listed passes =
    let e = count-cons test h xs in
    elim (first_or_later h xs x listed) [
      | inl same ↦ (let one : one_if (test h) ≡ 1 = ap one_if (ap test (sym same) ∙ passes) in omega (arith, e, one))
      | inr later ↦ (let more = counts test xs x later passes in omega (arith, e, more))
    ]

-- the same member
abbrev pub is_same : Member → Member → Bool
is_same m x = (eqb m.span.first x.span.first && eqb m.span.last x.span.last) && eqb m.payload x.payload

pub is_same_itself : (m : Member) → is_same m m ≡ true
is_same_itself m =
    let first = eq-eqb m.span.first m.span.first refl in
    let last = eq-eqb m.span.last m.span.last refl in
    let payload = eq-eqb m.payload m.payload refl in
    rw first (rw last payload)

pub is_same_one : (m x : Member) → is_same m x ≡ true → m ≡ x
is_same_one m x same =
    let parts = and_parts _ _ same in
    let ends = and_parts _ _ parts.0 in
    let first = eqb-true m.span.first x.span.first ends.0 in
    let last = eqb-true m.span.last x.span.last ends.1 in
    let payload = eqb-true m.payload x.payload parts.1 in
    ap (λ (k : ℕ). record { span = record { first = k; last = m.span.last }; payload = m.payload }) first
    ∙ ap (λ (k : ℕ). record { span = record { first = x.span.first; last = k }; payload = m.payload }) last
    ∙ ap (λ (k : ℕ). record { span = x.span; payload = k }) payload

-- two members with one first address overlap
one_base : (a b : Member) → IsSpan a.span → IsSpan b.span → a.span.first ≡ b.span.first → Overlaps a.span b.span
one_base a b in_a in_b same =
    let low : leb a.span.first a.span.first ≡ true = le-leb a.span.first a.span.first (omega arith) in
    let high : leb a.span.first a.span.last ≡ true = le-leb a.span.first a.span.last in_a.ordered in
    let from : leb b.span.first a.span.first ≡ true = le-leb b.span.first a.span.first (omega (arith, same)) in
    let upto : leb a.span.first b.span.last ≡ true = le-leb a.span.first b.span.last (let o = in_b.ordered in omega (arith, same, o)) in
    (a.span.first, (rw (low, high) refl, rw (from, upto) refl))

-- none of those that overlap a member not begins where it does
none_there : (h : Member) (ms : List Member) → IsSpan h.span → All (λ m. IsSpan m.span) ms → IsFree h.span ms → without h.span.first ms ≡ ms
none_there h [] span spans free = refl
none_there h (m ∷ ms) span spans free =
    let rest = none_there h ms span (All-tail (λ x. IsSpan x.span) m ms spans) (All-tail (λ x. ¬ Overlaps x.span h.span) m ms free) in
    elim (eqb_tells m.span.first h.span.first) [
      | inl same ↦ absurd (All-head (λ x. ¬ Overlaps x.span h.span) m ms free (one_base m h (All-head (λ x. IsSpan x.span) m ms spans) span same.1))
      | inr apart ↦ ap (λ (b : Bool). cond (not b) (m ∷ without h.span.first ms) (without h.span.first ms)) apart.0 ∙ ap (λ (xs : List Member). m ∷ xs) rest
    ]

-- a member of the rest begins elsewhere than the first one
elsewhere : (h : Member) (ms : List Member) (m : Member) → AreDisjoint (h ∷ ms) → All (λ x. IsSpan x.span) (h ∷ ms) → Contains ms m → m.span.first ≡ h.span.first → ⊥
elsewhere h ms m disjoint spans later same =
    let spans_of = All-tail (λ x. IsSpan x.span) h ms spans in
    All-contains (λ x. ¬ Overlaps x.span h.span) ms m disjoint.0 later (one_base m h (All-contains (λ x. IsSpan x.span) ms m spans_of later) (All-head (λ x. IsSpan x.span) h ms spans) same)

-- a member that stands in a list of disjoint ones is the one that goes with its first address
pub gone_count : (ms : List Member) (m : Member) (test : Member → Bool) → AreDisjoint ms → All (λ x. IsSpan x.span) ms → Contains ms m
    → count_by test (without m.span.first ms) + cond (test m) 1 0 ≡ count_by test ms
gone_count [] m test disjoint spans listed = absurd (let within = listed.1 in omega (arith, within))
gone_count (h ∷ ms) m test disjoint spans listed =
    let spans_of = All-tail (λ x. IsSpan x.span) h ms spans in
    let e = count-cons test h ms in
    elim (first_or_later h ms m listed) [
      | inl same ↦
          let all_stay = none_there h ms (All-head (λ x. IsSpan x.span) h ms spans) spans_of disjoint.0 in
          let gone : without h.span.first (h ∷ ms) ≡ ms = ap (λ (b : Bool). cond (not b) (h ∷ without h.span.first ms) (without h.span.first ms)) (eq-eqb h.span.first h.span.first refl) ∙ all_stay in
          let counted : count_by test (without h.span.first (h ∷ ms)) ≡ count_by test ms = ap (count_by test) gone in
          subst (λ (x : Member). count_by test (without x.span.first (h ∷ ms)) + one_if (test x) ≡ count_by test (h ∷ ms)) (sym same) (omega (arith, counted, e))
      | inr later ↦ elim (eqb_tells h.span.first m.span.first) [
        | inl one ↦ absurd (elsewhere h ms m disjoint spans later (sym one.1))
        | inr apart ↦
            let kept : without m.span.first (h ∷ ms) ≡ h ∷ without m.span.first ms = ap (λ (b : Bool). cond (not b) (h ∷ without m.span.first ms) (without m.span.first ms)) apart.0 in
            let counted : count_by test (without m.span.first (h ∷ ms)) ≡ count_by test (h ∷ without m.span.first ms) = ap (count_by test) kept in
            let first = count-cons test h (without m.span.first ms) in
            let rest = gone_count ms m test disjoint.1 spans_of later in
            omega (arith, counted, first, rest, e)
      ]
    ]

-- and the one that is found by it
pub base_found : (ms : List Member) (m : Member) → AreDisjoint ms → All (λ x. IsSpan x.span) ms → Contains ms m → at_base m.span.first ms ≡ Some m
base_found [] m disjoint spans listed = absurd (let within = listed.1 in omega (arith, within))
base_found (h ∷ ms) m disjoint spans listed =
    let spans_of = All-tail (λ x. IsSpan x.span) h ms spans in
    elim (first_or_later h ms m listed) [
      | inl same ↦ subst (λ (x : Member). at_base x.span.first (h ∷ ms) ≡ Some x) (sym same) (ap (λ (b : Bool). cond b (Some h) (at_base h.span.first ms)) (eq-eqb h.span.first h.span.first refl))
      | inr later ↦ elim (eqb_tells h.span.first m.span.first) [
        | inl one ↦ absurd (elsewhere h ms m disjoint spans later (sym one.1))
        | inr apart ↦ ap (λ (b : Bool). cond b (Some h) (at_base m.span.first ms)) apart.0 ∙ base_found ms m disjoint.1 spans_of later
      ]
    ]
