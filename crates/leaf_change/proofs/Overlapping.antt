-- Which entry of a leaf overlaps a span and begins lowest: the last of those that begin at or below
-- the span's first address, or the one behind it.
use Rattle.std.proofs.Common.{◌≡◌, ℕ, ◌≤◌, true, ◌&&◌, ap, ◌∙◌, nat_le, arith, suc, ◌+◌, List, [], ◌∷◌, length, Bool, false, nat_lt, if◌then◌else◌, zero, ◌<◌, get_or, refl, ltb-true, ◌≢◌, ◌-◌, ◌⊎◌, take, Option, Some, None, IfSome, IfNone, sym, subst, inl, inr}
use Rattle.std.proofs.lemmas.Bool.{le-leb, ltb-false, cases_lt}
use Rattle.std.proofs.lemmas.Option.{same_Some, slice_get-get_or}
use Rattle.std.proofs.lemmas.List.{get_or-take, length-take-le}
use Rattle.std.specs.List.{slice_get}
use native.Mathlib.Decide.{ℕ_discrete}
use Rattle.reg_model.specs.SpanData.{SpanData, contains, Overlaps}
use Rattle.reg_model.specs.declared.span.Member.{Member}
use Rattle.reg_model.proofs.Spans.{overlap_bounds}
use Rattle.reg_model.specs.State.{IsFree, IsLowestOverlap}
use Rattle.tree_shape.specs.NodeData.{place_for, EntriesWithin}
use Rattle.tree_shape.proofs.Orders.{begins_inside, begin_in_order, first_is_lowest}
use Rattle.node_store.proofs.LeafSearch.{inside_list}

holds_so : (a : SpanData) (pc : ℕ) → a.first ≤ pc → pc ≤ a.last → contains a pc ≡ true
holds_so a pc low high = ap (λ b. b && nat_le pc a.last) (le-leb a.first pc low) ∙ le-leb pc a.last high

overlap_so : (a b : SpanData) → b.first ≤ a.first → a.first ≤ b.last → a.first ≤ a.last → Overlaps a b
overlap_so a b low high order = (a.first, (holds_so a a.first (omega arith) order, holds_so b a.first low high))

pub place_few : (pc : ℕ) (es : List Member) → place_for pc es ≤ length es
place_few pc [] = omega arith
place_few pc (m ∷ es) = go (place_few pc es) (nat_lt pc m.span.first)
  where
    go : place_for pc es ≤ length es → (b : Bool) → (if b then 0 else (place_for pc es + 1)) ≤ suc (length es)
    go rest true = omega arith
    go rest false = omega (arith, rest)

-- each entry ends below the next one, and none is empty
ends_below : (low high : ℕ) (es : List Member) (k : ℕ) (d : Member) → EntriesWithin low high es → suc k < length es → (get_or es k d).span.last < (get_or es (suc k) d).span.first
ends_below low high [] k d within inside = absurd (omega (arith, inside))
ends_below low high (m ∷ es) zero d within inside = let b = begins_inside (m.span.last + 1) high es 0 d (within.0.2, within.1.1) (omega (arith, inside)) in omega (arith, b)
ends_below low high (m ∷ es) (suc k) d within inside = ends_below (m.span.last + 1) high es k d (within.0.2, within.1.1) (omega (arith, inside))

in_order : (low high : ℕ) (es : List Member) (k : ℕ) (d : Member) → EntriesWithin low high es → k < length es → (get_or es k d).span.first ≤ (get_or es k d).span.last
in_order low high [] k d within inside = absurd (omega (arith, inside))
in_order low high (m ∷ es) zero d within inside = within.0.1
in_order low high (m ∷ es) (suc k) d within inside = in_order (m.span.last + 1) high es k d (within.0.2, within.1.1) (omega (arith, inside))

-- which begin at or below an address, and which above it
begun_below : (pc : ℕ) (es : List Member) (k : ℕ) (d : Member) → k < place_for pc es → (get_or es k d).span.first ≤ pc
begun_below pc [] k d less = absurd (omega (arith, less))
begun_below pc (m ∷ es) k d less = go (λ j. begun_below pc es j d) (nat_lt pc m.span.first) refl k less
  where
    go : ((j : ℕ) → j < place_for pc es → (get_or es j d).span.first ≤ pc) → (b : Bool) → nat_lt pc m.span.first ≡ b → (j : ℕ) → j < (if b then 0 else (place_for pc es + 1)) → (get_or (m ∷ es) j d).span.first ≤ pc
    go rest true e j less = absurd (omega (arith, less))
    go rest false e zero less = ltb-false pc m.span.first e
    go rest false e (suc j) less = rest j (omega (arith, less))

begun_above : (low high pc : ℕ) (es : List Member) (k : ℕ) (d : Member) → EntriesWithin low high es → place_for pc es ≤ k → k < length es → pc < (get_or es k d).span.first
begun_above low high pc [] k d within most inside = absurd (omega (arith, inside))
begun_above low high pc (m ∷ es) k d within most inside = go (λ j. begun_above (m.span.last + 1) high pc es j d (within.0.2, within.1.1)) (nat_lt pc m.span.first) refl k most inside
  where
    go : ((j : ℕ) → place_for pc es ≤ j → j < length es → pc < (get_or es j d).span.first) → (b : Bool) → nat_lt pc m.span.first ≡ b → (j : ℕ) → (if b then 0 else (place_for pc es + 1)) ≤ j → j < suc (length es) → pc < (get_or (m ∷ es) j d).span.first
    go rest true e zero most inside = ltb-true pc m.span.first e
    go rest true e (suc j) most inside =
        let here = ltb-true pc m.span.first e in let order = within.0.1 in
        let b = begins_inside (m.span.last + 1) high es j d (within.0.2, within.1.1) (omega (arith, inside)) in omega (arith, here, order, b)
    go rest false e zero most inside = absurd (omega (arith, most))
    go rest false e (suc j) most inside = rest j (omega (arith, most)) (omega (arith, inside))

module _ (low high : ℕ) (es : List Member) (span : SpanData) (within : EntriesWithin low high es) where
  abbrev p : ℕ
  p = place_for span.first es

  abbrev Misses : ℕ → Type 0
  Misses k = (m : Member) → slice_get es k ≡ Some m → ¬ Overlaps m.span span

  -- one before the last that begins at or below the first address ends below it
  early : (k : ℕ) (d : Member) → suc k < p → ¬ Overlaps (get_or es k d).span span
  early k d less over =
      let few = place_few span.first es in
      let ends = ends_below low high es k d within (omega (arith, less, few)) in
      let next = begun_below span.first es (suc k) d less in
      let m = (overlap_bounds (get_or es k d).span span over).1 in
      omega (arith, ends, next, m)

  before : (k : ℕ) (d : Member) → ((j : ℕ) → p ≡ suc j → Misses j) → k < p → ¬ Overlaps (get_or es k d).span span
  before k d last less over = go (ℕ_discrete p (suc k))
    where
      go : Dec (p ≡ suc k) → ⊥
      go (yes e) = let few = place_few span.first es in last k e (get_or es k d) (slice_get-get_or es k d (omega (arith, e, few))) over
      go (no ne) = early k d (omega (arith, ne, less)) over

  free_take : (j : ℕ) → j ≤ length es → ((k : ℕ) (d : Member) → k < j → ¬ Overlaps (get_or es k d).span span) → IsFree span (take j es)
  free_take j most none k d short over =
      let less : k < j = (let l = length-take-le j es most in omega (arith, short, l)) in
      none k d less (subst (λ (x : Member). Overlaps x.span span) (get_or-take j es k d less) over)

  lowest_at : (j : ℕ) (m : Member) → ((k : ℕ) (d : Member) → k < j → ¬ Overlaps (get_or es k d).span span) → slice_get es j ≡ Some m → Overlaps m.span span → IsLowestOverlap span es m
  lowest_at j m none is over =
      let inside = inside_list es j m is in
      first_is_lowest low high es span j m within inside (same_Some _ _ (sym is ∙ slice_get-get_or es j m inside)) (free_take j (omega (arith, inside)) none) over

  pub lowest_before : (j : ℕ) (m : Member) → p ≡ suc j → slice_get es j ≡ Some m → Overlaps m.span span → IsLowestOverlap span es m
  lowest_before j m e = lowest_at j m (λ k d less. early k d (omega (arith, e, less)))

  pub lowest_behind : (m : Member) → ((j : ℕ) → p ≡ suc j → Misses j) → slice_get es p ≡ Some m → Overlaps m.span span → IsLowestOverlap span es m
  lowest_behind m last = lowest_at p m (λ k d less. before k d last less)

  pub none_of_two : ((j : ℕ) → p ≡ suc j → Misses j) → Misses p → IsFree span es
  none_of_two last next k d inside over = by (cases_lt k p)
    where
      by : (k < p) ⊎ (p ≤ k) → ⊥
      by (inl less) = before k d last less over
      by (inr more) =
          let here : p < length es = omega (arith, more, inside) in
          let above = begun_above low high span.first es p d within (omega arith) here in
          let order = begin_in_order low high es p k d within more inside in
          let m = (overlap_bounds (get_or es k d).span span over).0 in
          next (get_or es p d) (slice_get-get_or es p d here)
          (overlap_so (get_or es p d).span span (omega (arith, above)) (omega (arith, order, m)) (in_order low high es p d within here))

  -- the same of what was found at both places, where so many begin at or below the first address
  abbrev pub NoneLast : ℕ → Type 0
  NoneLast begun = begun ≢ 0 → Misses (begun - 1)

  none_last : (begun : ℕ) → begun ≡ p → NoneLast begun → (j : ℕ) → p ≡ suc j → Misses j
  none_last begun is last j e = let here : begun - 1 ≡ j = omega (arith, is, e) in subst Misses here (last (λ z. omega (arith, z, is, e)))

  pub found_before : (begun : ℕ) (m : Member) → begun ≡ p → begun ≢ 0 → Overlaps m.span span × (slice_get es (begun - 1) ≡ Some m) → IsLowestOverlap span es m
  found_before begun m is some (over, there) = lowest_before (begun - 1) m (omega (arith, is, some)) there over

  pub found_behind : (begun : ℕ) (o : Option Member) → begun ≡ p → NoneLast begun → IfSome o (λ m. Overlaps m.span span × (slice_get es begun ≡ Some m)) → IfSome o (IsLowestOverlap span es)
  found_behind begun None is last found = tt
  found_behind begun (Some m) is last found = lowest_behind m (none_last begun is last) (ap (slice_get es) (sym is) ∙ found.1) found.0

  pub none_behind : (begun : ℕ) (o : Option Member) → begun ≡ p → NoneLast begun → IfNone o (Misses begun) → IfNone o (IsFree span es)
  none_behind begun None is last none = none_of_two (none_last begun is last) (subst Misses is none)
  none_behind begun (Some m) is last none = tt
