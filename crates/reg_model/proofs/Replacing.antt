-- Replacements: each member keeps its span, and one of the new member's span becomes it.
use Rattle.std.proofs.Common.{◌≡◌, ◌≢◌, ℕ, ◌+◌, ◌<◌, List, [], ◌∷◌, ◌++◌, length, take, drop, get_or, set, Option, Some, None, inl, inr, ◌⊎◌, Bool, true, false, cond, eqb, refl, sym, ◌∙◌, ap, subst, append_assoc, arith}
use Rattle.std.specs.List.{All, Contains}
use Rattle.std.specs.Option.{option_or}
use Rattle.std.proofs.lemmas.Bool.{and_parts, eqb-true, eq-eqb, false≢true}
use Rattle.std.proofs.lemmas.List.{map-append, length-map, length-take-le, take_more, drop_more}
use Rattle.std.proofs.Math.Seq.{get_or-append_seam, set-append_seam}
use Rattle.std.proofs.lemmas.List.Folds.{find-append}
use Rattle.std.proofs.lemmas.List.Elements.{All-map, All-weaker, Contains-append_cases, Contains-push_cases, Contains-append_left, Contains-append_right, Contains-push}
use Rattle.reg_model.specs.SpanData.{SpanData, Overlaps, is_same_span}
use Rattle.reg_model.specs.State.{IsFree, AreDisjoint, at_span}
use Rattle.reg_model.specs.History.{with_payload}
use Rattle.reg_model.specs.declared.span.Member.{Member}

pub same_span : (a b : SpanData) → is_same_span a b ≡ true → a ≡ b
same_span a b same =
    let ends = and_parts (eqb a.first b.first) (eqb a.last b.last) same in
    let first : a.first ≡ b.first = eqb-true a.first b.first ends.0 in
    let last : a.last ≡ b.last = eqb-true a.last b.last ends.1 in
    rw (first, last) refl

pub span_same : (a b : SpanData) → a ≡ b → is_same_span a b ≡ true
span_same a b same = subst (λ c. is_same_span a c ≡ true) same (rw (eq-eqb a.first a.first refl, eq-eqb a.last a.last refl) refl)

-- the member that stands in x's place after a replacement by m
abbrev instead : Member → Member → Member
instead m x = cond (is_same_span x.span m.span) m x

pub span_stays : (m x : Member) → (instead m x).span ≡ x.span
span_stays m x = by_test (is_same_span x.span m.span) refl
  where
    by_test : (b : Bool) → is_same_span x.span m.span ≡ b → (cond b m x).span ≡ x.span
    by_test true is = sym (same_span x.span m.span is)
    by_test false is = refl

pub IsFree-with_payload : (span : SpanData) (m : Member) (members : List Member) → IsFree span members → IsFree span (with_payload m members)
IsFree-with_payload span m members free =
    let Apart : SpanData → Type 0 = λ s. ¬ Overlaps s span in
    All-map (λ x. Apart x.span) (instead m) members
    (All-weaker (λ x. Apart x.span) (λ x. Apart (instead m x).span) (λ x apart. subst Apart (sym (span_stays m x)) apart) members free)

-- members are as disjoint after a replacement
pub AreDisjoint-with_payload : (m : Member) (members : List Member) → AreDisjoint members → AreDisjoint (with_payload m members)
AreDisjoint-with_payload m [] disjoint = tt
AreDisjoint-with_payload m (x ∷ members) disjoint =
    (rw (span_stays m x) (IsFree-with_payload x.span m members disjoint.0), AreDisjoint-with_payload m members disjoint.1)

some_none : {x : Member} → Some x ≡ None → ⊥
some_none {x} same = false≢true (ap (λ o. elim o [ None ↦ false | Some y ↦ true ]) (sym same))

-- where no member has the span, all stay as they are
pub with_payload_absent : (m : Member) (members : List Member) → at_span m.span members ≡ None → with_payload m members ≡ members
with_payload_absent m [] none = refl
with_payload_absent m (x ∷ members) none = by_test (is_same_span x.span m.span) none (with_payload_absent m members)
  where
    by_test : (b : Bool) → cond b (Some x) (at_span m.span members) ≡ None → (at_span m.span members ≡ None → with_payload m members ≡ members) → cond b m x ∷ with_payload m members ≡ x ∷ members
    by_test true none later = absurd (some_none none)
    by_test false none later = ap (λ rest. x ∷ rest) (later none)

-- what holds of all members and of the new one holds of all after a replacement
pub All-with_payload : (P : Member → Type 0) (m : Member) (members : List Member) → P m → All P members → All P (with_payload m members)
All-with_payload P m members new all = All-map P (instead m) members (All-weaker P (λ x. P (instead m x)) (λ x old. by_test x old (is_same_span x.span m.span)) members all)
  where
    by_test : (x : Member) → P x → (b : Bool) → P (cond b m x)
    by_test x old true = new
    by_test x old false = old

first_or_later : (x y : Member) (members : List Member) → Contains (x ∷ members) y → (y ≡ x) ⊎ Contains members y
first_or_later x y members listed = elim (Contains-append_cases (x ∷ []) members y listed) [
  | inl here ↦ elim (Contains-push_cases [] x y here) [
    | inl nowhere ↦ absurd (none nowhere)
    | inr same ↦ inl (sym same)
  ]
  | inr later ↦ inr later
]
  where
    none : Contains [] y → ⊥
    none (k, within, is) = omega arith

listed_first : (x : Member) (members : List Member) → Contains (x ∷ members) x
listed_first x members = Contains-append_left (x ∷ []) members x (Contains-push [] x)

listed_later : (x y : Member) (members : List Member) → Contains members y → Contains (x ∷ members) y
listed_later x y members listed = Contains-append_right (x ∷ []) members y listed

-- after a replacement: those of another span as they were, and the new one where one had its span
pub from_with_payload : (m x : Member) (members : List Member) → Contains (with_payload m members) x → (Contains members x × (x.span ≢ m.span)) ⊎ (x ≡ m)
from_with_payload m x [] (k, within, is) = absurd (omega arith)
from_with_payload m x (y ∷ members) listed = elim (first_or_later (instead m y) x (with_payload m members) listed) [
  | inl here ↦ by_test (is_same_span y.span m.span) refl here
  | inr later ↦ elim (from_with_payload m x members later) [
    | inl old ↦ inl (listed_later y x members old.0, old.1)
    | inr new ↦ inr new
  ]
]
  where
    by_test : (b : Bool) → is_same_span y.span m.span ≡ b → x ≡ cond b m y → (Contains (y ∷ members) x × (x.span ≢ m.span)) ⊎ (x ≡ m)
    by_test true is here = inr here
    by_test false is here =
        let other : y.span ≢ m.span = λ same. false≢true (sym is ∙ span_same y.span m.span same) in
        inl (subst (Contains (y ∷ members)) (sym here) (listed_first y members), subst (λ z. z.span ≢ m.span) (sym here) other)

pub others_with_payload : (m x : Member) (members : List Member) → Contains members x → x.span ≢ m.span → Contains (with_payload m members) x
others_with_payload m x [] (k, within, is) other = absurd (omega arith)
others_with_payload m x (y ∷ members) listed other = elim (first_or_later y x members listed) [
  | inl here ↦ by_test (is_same_span y.span m.span) refl here
  | inr later ↦ listed_later (instead m y) x (with_payload m members) (others_with_payload m x members later other)
]
  where
    by_test : (b : Bool) → is_same_span y.span m.span ≡ b → x ≡ y → Contains (cond b m y ∷ with_payload m members) x
    by_test true is here = absurd (other (ap (λ z. z.span) here ∙ same_span y.span m.span is))
    by_test false is here = subst (λ z. Contains (y ∷ with_payload m members) z) (sym here) (listed_first y (with_payload m members))

pub new_with_payload : (m x : Member) (members : List Member) → Contains members x → x.span ≡ m.span → Contains (with_payload m members) m
new_with_payload m x [] (k, within, is) same = absurd (omega arith)
new_with_payload m x (y ∷ members) listed same = elim (first_or_later y x members listed) [
  | inl here ↦
      let is = span_same y.span m.span (ap (λ z. z.span) (sym here) ∙ same) in
      subst (λ b. Contains (cond b m y ∷ with_payload m members) m) (sym is) (listed_first m (with_payload m members))
  | inr later ↦ listed_later (instead m y) m (with_payload m members) (new_with_payload m x members later same)
]

or_nothing : (before : Option Member) → option_or before None ≡ before
or_nothing None = refl
or_nothing (Some x) = refl

-- One step along the list, where the first `i` members were passed: which had the span, and what they are now.
pub step_along : (m : Member) (all now : List Member) (i : ℕ) (d : Member) (before : Option Member) (b : Bool) → i < length all → before ≡ at_span m.span (take i all) → now ≡ with_payload m (take i all) ++ drop i all → is_same_span (get_or now i d).span m.span ≡ b → (cond b (option_or before (Some (get_or now i d))) before ≡ at_span m.span (take (i + 1) all)) × (set now i (cond b m (get_or now i d)) ≡ with_payload m (take (i + 1) all) ++ drop (i + 1) all)
step_along m all now i d before b within known is test =
    by_test b (subst (λ z. is_same_span z.span m.span ≡ b) same test)
  where
    x : Member
    x = get_or all i d

    front : List Member
    front = with_payload m (take i all)

    rest : List Member
    rest = drop (i + 1) all

    long : length front ≡ i
    long = length-map (take i all) (instead m) ∙ length-take-le i all (omega arith)

    here : now ≡ front ++ x ∷ rest
    here = is ∙ ap (λ z. front ++ z) (drop_more all i d within)

    same : get_or now i d ≡ x
    same = ap (λ z. get_or z i d) here ∙ subst (λ n. get_or (front ++ x ∷ rest) n d ≡ x) long (get_or-append_seam front x rest d)

    found : at_span m.span (take (i + 1) all) ≡ option_or (at_span m.span (take i all)) (at_span m.span (x ∷ []))
    found = ap (at_span m.span) (take_more all i d within) ∙ find-append (λ z. is_same_span z.span m.span) (take i all) (x ∷ [])

    next : with_payload m (take (i + 1) all) ++ rest ≡ front ++ instead m x ∷ rest
    next = ap (λ z. with_payload m z ++ rest) (take_more all i d within) ∙ ap (λ z. z ++ rest) (map-append (instead m) (take i all) (x ∷ [])) ∙ append_assoc front (instead m x ∷ []) rest

    put : (y : Member) → set now i y ≡ front ++ y ∷ rest
    put y = ap (λ z. set z i y) here ∙ subst (λ n. set (front ++ x ∷ rest) n y ≡ front ++ y ∷ rest) long (set-append_seam front x rest y)

    by_test : (b : Bool) → is_same_span x.span m.span ≡ b → (cond b (option_or before (Some (get_or now i d))) before ≡ at_span m.span (take (i + 1) all)) × (set now i (cond b m (get_or now i d)) ≡ with_payload m (take (i + 1) all) ++ drop (i + 1) all)
    by_test true test = (
      rw (same, known) (sym (found ∙ ap (λ t. option_or (at_span m.span (take i all)) (cond t (Some x) None)) test)),
      put m ∙ sym (next ∙ ap (λ t. front ++ cond t m x ∷ rest) test),
    )
    by_test false test = (
      known ∙ sym (found ∙ ap (λ t. option_or (at_span m.span (take i all)) (cond t (Some x) None)) test ∙ or_nothing (at_span m.span (take i all))),
      put (get_or now i d) ∙ ap (λ y. front ++ y ∷ rest) same ∙ sym (next ∙ ap (λ t. front ++ cond t m x ∷ rest) test),
    )
