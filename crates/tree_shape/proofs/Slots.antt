-- Pairs and entries by their places.
use Rattle.std.proofs.Common.{◌≡◌, ℕ, zero, suc, ◌+◌, ◌<◌, ◌≤◌, List, [], ◌∷◌, ◌++◌, length, take}
use Rattle.std.proofs.Common.{drop, get_or, refl, ap, arith, Some, None, IsSome, eqb, ltb, leb, inl}
use Rattle.std.proofs.Common.{inr, true, false, cond}
use Rattle.std.proofs.Math.Numerals.{add-one}
use Rattle.std.proofs.lemmas.Bool.{cond_both, cond-true, leb-false, ltb-true, eqb-true, ne_eqb}
use Rattle.std.proofs.lemmas.Bool.{lt-ltb, le-ltb, cases_Bool}
use Rattle.std.specs.List.{slice_get}
use Rattle.std.specs.Option.{option_map_or}
use Rattle.reg_model.specs.declared.span.Member.{Member}
use Rattle.reg_model.specs.State.{at_base}
use Rattle.reg_model.specs.History.{without}
use Rattle.tree_shape.specs.declared.pair.Pair.{Pair}
use Rattle.tree_shape.specs.NodeData.{EntriesWithin, Cut, slot_for, place_for}
use Rattle.tree_shape.specs.Changes.{at_slot, ends_at, with_entry, entries_end, pairs_end}

-- the slot of an address inside the fences is a slot of the node
pub slot_inside : (pc low high : ℕ) (pairs : List Pair) → Cut low high pairs → low ≤ high → pc ≤ high → slot_for pc pairs < length pairs
slot_inside pc low high [] cut order below = absurd (omega arith)
slot_inside pc low high (p ∷ pairs) cut order below =
    cond_both (leb pc p.separator) 0 (slot_for pc pairs + 1) (λ n. n < suc (length pairs)) (λ e. omega arith)
    (λ e. let above : p.separator < pc = leb-false pc p.separator e in
    let rest : slot_for pc pairs < length pairs = slot_inside pc (p.separator + 1) high pairs cut.1 (omega arith) below in
    omega arith)

-- a change at a slot, by the pairs before it and after it
pub at_slot-parts : (change : Pair → List Pair → List Pair) (slot : ℕ) (pairs : List Pair) (d : Pair) → slot < length pairs →
    at_slot change slot pairs ≡ take slot pairs ++ change (get_or pairs slot d) (drop (suc slot) pairs)
at_slot-parts change slot [] d inside = absurd (omega arith)
at_slot-parts change zero (p ∷ pairs) d inside = refl
at_slot-parts change (suc slot) (p ∷ pairs) d inside = ap (λ ps. p ∷ ps) (at_slot-parts change slot pairs d (omega arith))

-- pairs whose last separator is raised, by the pairs before the last
pub ends_at-parts : (fence : ℕ) (pairs : List Pair) (k : ℕ) (d : Pair) → length pairs ≡ suc k →
    ends_at fence pairs ≡ take k pairs ++ record { child = (get_or pairs k d).child; separator = fence } ∷ []
ends_at-parts fence [] k d len = absurd (omega arith)
ends_at-parts fence (p ∷ []) zero d len = refl
ends_at-parts fence (p ∷ []) (suc k) d len = absurd (omega arith)
ends_at-parts fence (p ∷ q ∷ pairs) zero d len = absurd (omega arith)
ends_at-parts fence (p ∷ q ∷ pairs) (suc k) d len = ap (λ ps. p ∷ ps) (ends_at-parts fence (q ∷ pairs) k d (omega arith))

-- an entry in its place, by the entries before it and after it
pub with_entry-parts : (m : Member) (entries : List Member) →
    with_entry m entries ≡ take (place_for m.span.first entries) entries ++ m ∷ drop (place_for m.span.first entries) entries
with_entry-parts m [] = refl
with_entry-parts m (e ∷ entries) =
    elim (cases_Bool (ltb m.span.first e.span.first)) [ inl t ↦ rw (t) refl | inr f ↦ rw (f, add-one) (ap (λ es. e ∷ es) (with_entry-parts m entries)) ]

-- there is one more
pub put_length : (entries : List Member) (m : Member) → length (with_entry m entries) ≡ suc (length entries)
put_length [] m = refl
put_length (e ∷ entries) m =
    elim (ltb m.span.first e.span.first) as (λ v. length (cond v (m ∷ e ∷ entries) (e ∷ with_entry m entries)) ≡ suc (suc (length entries))) [
      | true ↦ refl
      | false ↦ ap suc (put_length entries m)
    ]

-- where an entry with a first address stands, in ordered entries
pub record AtPlace (base : ℕ) (entries : List Member) (k : ℕ) : Type 0 where
  pub place : place_for base entries ≡ suc k
  pub others : without base entries ≡ take k entries ++ drop (suc k) entries
  pub there : (d : Member) → at_base base entries ≡ Some (get_or entries k d)

-- entries that all begin above an address
pub record NoneAt (base : ℕ) (entries : List Member) : Type 0 where
  pub place : place_for base entries ≡ 0
  pub others : without base entries ≡ entries
  pub none : at_base base entries ≡ None

pub none_at : (base low high : ℕ) (entries : List Member) → EntriesWithin low high entries → base < low → NoneAt base entries
none_at base low high [] within above = record { place = refl; others = refl; none = refl }
none_at base low high (m ∷ entries) within above =
    let below : base < m.span.first = omega arith in
    let other : m.span.first ≡ base → ⊥ = λ e. omega arith in
    let rest = none_at base (m.span.last + 1) high entries (within.0.2, within.1.1) (omega arith) in
    record {
      place = cond-true (ltb base m.span.first) 0 (place_for base entries + 1) (lt-ltb base m.span.first below);
      others = rw (ne_eqb m.span.first base other) (ap (λ es. m ∷ es) rest.others);
      none = rw (ne_eqb m.span.first base other) rest.none;
    }

pub at_place : (base low high : ℕ) (entries : List Member) → EntriesWithin low high entries → IsSome (at_base base entries) →
    (k : ℕ) × AtPlace base entries k
at_place base low high [] within held = absurd (cc)
at_place base low high (m ∷ entries) within held =
    elim (cases_Bool (eqb m.span.first base)) [
      | inl t ↦
          let same : m.span.first ≡ base = eqb-true m.span.first base t in
          let rest = none_at base (m.span.last + 1) high entries (within.0.2, within.1.1)
          (omega arith) in (
            0,
            record {
              place = rw (le-ltb base m.span.first (omega arith), rest.place) refl;
              others = rw (t) rest.others;
              there = λ d. rw (t) refl;
            },
          )
      | inr f ↦
          let held' : IsSome (at_base base entries) = rw f at held in
          let found = at_place base (m.span.last + 1) high entries (within.0.2, within.1.1) held' in
          elim (cases_Bool (ltb base m.span.first)) [
            | inl t ↦
                let rest = none_at base (m.span.last + 1) high entries (within.0.2, within.1.1)
                (omega (arith, ltb-true base m.span.first t)) in
                absurd (cc (rest.place, found.1.place))
            | inr g ↦ (
              suc found.0,
              record {
                place = rw (g, found.1.place, add-one) refl;
                others = rw (f) (ap (λ es. m ∷ es) found.1.others);
                there = λ d. rw (f) (found.1.there d);
              },
            )
          ]
    ]

-- the end of the first entries, by the last of them
pub entries_end-take : (start n : ℕ) (entries : List Member) (m : Member) → slice_get entries n ≡ Some m → entries_end start (take (suc n) entries) ≡ m.span.last
entries_end-take start n [] m at = absurd (cc)
entries_end-take start zero (e ∷ entries) m at = ap (λ o. option_map_or (λ (x : Member). x.span.last) o 0) at
entries_end-take start (suc n) (e ∷ entries) m at = entries_end-take e.span.last n entries m at

pub pairs_end-take : (start n : ℕ) (pairs : List Pair) (p : Pair) → slice_get pairs n ≡ Some p → pairs_end start (take (suc n) pairs) ≡ p.separator
pairs_end-take start n [] p at = absurd (cc)
pairs_end-take start zero (q ∷ pairs) p at = ap (λ o. option_map_or (λ (x : Pair). x.separator) o 0) at
pairs_end-take start (suc n) (q ∷ pairs) p at = pairs_end-take q.separator n pairs p at

-- addresses are left where pairs are
pub some_left : (low high : ℕ) (pairs : List Pair) → Cut low high pairs → 0 < length pairs → low ≤ high
some_left low high [] cut some = absurd (omega arith)
some_left low high (p ∷ []) cut some = omega arith
some_left low high (p ∷ q ∷ pairs) cut some =
    let rest : p.separator + 1 ≤ high = some_left (p.separator + 1) high (q ∷ pairs) cut.1 (omega arith) in omega arith

-- a separator that isn't the last lies below the high fence
pub pairs_end-below : (start low high n : ℕ) (pairs : List Pair) → Cut low high pairs → n < length pairs → start < low → start < high → pairs_end start (take n pairs) < high
pairs_end-below start low high n [] cut inside first order = absurd (omega arith)
pairs_end-below start low high zero (p ∷ pairs) cut inside first order = order
pairs_end-below start low high (suc n) (p ∷ pairs) cut inside first order =
    let left : p.separator + 1 ≤ high = some_left (p.separator + 1) high pairs cut.1 (omega arith) in
    pairs_end-below p.separator (p.separator + 1) high n pairs cut.1 (omega arith) (omega arith) (omega arith)
