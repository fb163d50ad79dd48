-- What the order of a node's entries and separators gives.
use Rattle.std.proofs.Common.{◌≡◌, ℕ, zero, suc, ◌+◌, ◌-◌, ◌^◌, ◌<◌, ◌≤◌, List, [], ◌∷◌, ◌++◌}
use Rattle.std.proofs.Common.{length, take, get_or, refl, ap, sym, ◌∙◌, subst, arith, Some, inl}
use Rattle.std.proofs.Common.{inr}
use Rattle.std.proofs.Math.Seq.{take-append-add}
use Rattle.std.proofs.lemmas.List.{take-append-le}
use Rattle.std.proofs.lemmas.Bool.{cases_lt}
use Rattle.std.specs.List.{slice_get}
use Rattle.std.proofs.lemmas.List.{get_or-take, get_or_default, length-take-le}
use Rattle.reg_model.specs.SpanData.{SpanData, Overlaps}
use Rattle.reg_model.specs.State.{IsFree, IsLowestOverlap}
use Rattle.reg_model.specs.declared.span.Member.{Member}
use Rattle.tree_shape.specs.declared.pair.Pair.{Pair}
use Rattle.tree_shape.specs.NodeData.{NodeData, Entries, Pairs, entries_of, pairs_of, pairs_in, Body}
use Rattle.tree_shape.specs.NodeData.{Link, IsLeaf, IsInner, InOrder, InOrderAs, EntriesWithin, Cut}
use Rattle.tree_shape.specs.Changes.{entries_end, pairs_end, ends_at, ends_at_as, Overfill}
use Rattle.tree_shape.specs.Changes.{OverfillAs}
use Rattle.tree_shape.specs.Nodes.{body_of}
use Rattle.tree_shape.specs.declared.node.Content.{Content}
use Rattle.tree_shape.specs.declared.node.Content.TheVariants.{Inner, Leaf, Free}
use Rattle.tree_shape.proofs.Slots.{entries_end-take, pairs_end-take, pairs_end-below, some_left}

-- the order of a leaf, and of an inner node
pub leaf_order : (s : NodeData) → IsLeaf s → InOrder s → EntriesWithin s.low s.high (entries_of s)
leaf_order s leaf order = subst (λ b. InOrderAs s b) leaf order

pub inner_order : (s : NodeData) → IsInner s → InOrder s → Cut 0 s.high (pairs_of s)
inner_order s inner order = subst (λ b. InOrderAs s b) inner order

-- where the first entries or pairs of a list end
pub entries_end-first : (n : ℕ) (entries : List Member) (m : Member) → 0 < n → slice_get entries (n - 1) ≡ Some m → entries_end 0 (take n entries) ≡ m.span.last
entries_end-first zero entries m some at = absurd (omega arith)
entries_end-first (suc n) entries m some at = let e : suc n - 1 ≡ n = omega arith in entries_end-take 0 n entries m (rw e at at)

pub pairs_end-first : (n : ℕ) (pairs : List Pair) (p : Pair) → 0 < n → slice_get pairs (n - 1) ≡ Some p → pairs_end 0 (take n pairs) ≡ p.separator
pairs_end-first zero pairs p some at = absurd (omega arith)
pairs_end-first (suc n) pairs p some at = let e : suc n - 1 ≡ n = omega arith in pairs_end-take 0 n pairs p (rw e at at)

-- some first pairs end at or below the high fence, and below it where others follow
pub pairs_end-within : (start low high n : ℕ) (pairs : List Pair) → Cut low high pairs → start ≤ high → pairs_end start (take n pairs) ≤ high
pairs_end-within start low high zero pairs cut order = order
pairs_end-within start low high (suc n) [] cut order = order
pairs_end-within start low high (suc n) (p ∷ []) cut order = pairs_end-within p.separator (p.separator + 1) high n [] cut.1 (omega arith)
pairs_end-within start low high (suc n) (p ∷ q ∷ pairs) cut order =
    let left : p.separator + 1 ≤ high = some_left (p.separator + 1) high (q ∷ pairs) cut.1 (omega arith) in
    pairs_end-within p.separator (p.separator + 1) high n (q ∷ pairs) cut.1 (omega arith)

pub pairs_end-inside : (start low high n : ℕ) (pairs : List Pair) → Cut low high pairs → suc n < length pairs → pairs_end start (take (suc n) pairs) < high
pairs_end-inside start low high n [] cut inside = absurd (omega arith)
pairs_end-inside start low high n (p ∷ pairs) cut inside =
    let left : p.separator + 1 ≤ high = some_left (p.separator + 1) high pairs cut.1 (omega arith) in
    pairs_end-below p.separator (p.separator + 1) high n pairs cut.1 (omega arith) (omega arith) (omega arith)

pub pairs_end-append : (start : ℕ) (left right : List Pair) → pairs_end start (left ++ right) ≡ pairs_end (pairs_end start left) right
pairs_end-append start [] right = refl
pairs_end-append start (p ∷ left) right = pairs_end-append p.separator left right

-- so a cut of two neighbours' pairs, with some after it, lies below the highest address
pub shares_below : (left right : List Pair) (middle high n : ℕ) → Cut 0 middle left → Cut 0 high right → middle + 1 ≤ 2 ^ 64 - 1 → high ≤ 2 ^ 64 - 1 →
    n < length left + length right → pairs_end 0 (take n (left ++ right)) < 2 ^ 64 - 1
shares_below left right middle high n cut_left cut_right neighbours top inside =
    elim (cases_lt (length left) n) [
      | inl behind ↦
          let k : n ≡ length left + suc (n - length left - 1) = omega arith in
          let split : take n (left ++ right) ≡ left ++ take (suc (n - length left - 1)) right = ap (λ m. take m (left ++ right)) k ∙ take-append-add left right (suc (n - length left - 1)) in
          let below : pairs_end (pairs_end 0 left) (take (suc (n - length left - 1)) right) < high = pairs_end-inside (pairs_end 0 left) 0 high (n - length left - 1) right cut_right (omega arith) in
          rw (split, pairs_end-append) (omega arith)
      | inr before ↦
          let within : pairs_end 0 (take n left) ≤ middle = pairs_end-within 0 0 middle n left cut_left (omega arith) in
          rw (take-append-le n left right before) (omega arith)
    ]

-- an entry begins at or above the low fence, and no later one begins below it
pub begins_inside : (low high : ℕ) (entries : List Member) (k : ℕ) (d : Member) → EntriesWithin low high entries → k < length entries → low ≤ (get_or entries k d).span.first
begins_inside low high [] k d within inside = absurd (omega arith)
begins_inside low high (m ∷ entries) zero d within inside = within.0.0
begins_inside low high (m ∷ entries) (suc k) d within inside =
    let above : m.span.last + 1 ≤ (get_or entries k d).span.first =
    begins_inside (m.span.last + 1) high entries k d (within.0.2, within.1.1) (omega arith) in
    omega arith

pub begin_in_order : (low high : ℕ) (entries : List Member) (i k : ℕ) (d : Member) → EntriesWithin low high entries → i ≤ k → k < length entries →
    (get_or entries i d).span.first ≤ (get_or entries k d).span.first
begin_in_order low high [] i k d within order inside = absurd (omega arith)
begin_in_order low high (m ∷ entries) zero zero d within order inside = omega arith
begin_in_order low high (m ∷ entries) zero (suc k) d within order inside =
    let above : m.span.last + 1 ≤ (get_or entries k d).span.first =
    begins_inside (m.span.last + 1) high entries k d (within.0.2, within.1.1) (omega arith) in
    omega arith
begin_in_order low high (m ∷ entries) (suc i) zero d within order inside = absurd (omega arith)
begin_in_order low high (m ∷ entries) (suc i) (suc k) d within order inside =
    begin_in_order (m.span.last + 1) high entries i k d (within.0.2, within.1.1) (omega arith)
    (omega arith)

-- the first entry that overlaps begins lowest of those that do
pub first_is_lowest : (low high : ℕ) (entries : List Member) (span : SpanData) (i : ℕ) (m : Member) → EntriesWithin low high entries → i < length entries →
    m ≡ get_or entries i m → IsFree span (take i entries) → Overlaps m.span span → IsLowestOverlap span entries m
first_is_lowest low high entries span i m within inside is free overlaps = record {
  listed = (i, inside, sym is);
  overlaps = overlaps;
  lowest = λ k d below meets. elim (cases_lt k i) [
    | inl before ↦
        let same : get_or (take i entries) k d ≡ get_or entries k d = get_or-take i entries k d before in
        let short : k < length (take i entries) = omega (arith, length-take-le i entries (omega arith)) in
        absurd (free k d short (subst (λ (x : Member). Overlaps x.span span) (sym same) meets))
    | inr after ↦
        let at : get_or entries i d ≡ m = get_or_default entries i d m inside ∙ sym is in
        subst (λ (x : Member). x.span.first ≤ (get_or entries k d).span.first) at (begin_in_order low high entries i k d within after below)
  ];
}

-- a node with pairs that is to end at another fence
pub ends_at-inner : (fence : ℕ) (b : Body) → 0 < length (pairs_in b) → ends_at_as fence b ≡ Pairs (ends_at fence (pairs_in b))
ends_at-inner fence (Pairs pairs) some = refl
ends_at-inner fence (Entries entries) some = absurd (omega arith)
ends_at-inner fence (Link next) some = absurd (omega arith)

pub inner_bodies : (content : Content) (b : Body) → ((n : ℕ) (es : List Member) → content ≡ Leaf n es → ⊥) → OverfillAs (body_of content) b →
    (15 < length (pairs_in (body_of content)) + length (pairs_in b)) × (body_of content ≡ Pairs (pairs_in (body_of content))) × (b ≡ Pairs (pairs_in b))
inner_bodies (Leaf n es) b no_leaf over = absurd (no_leaf n es refl)
inner_bodies (Inner n ps) (Pairs pairs) no_leaf over = (over, refl, refl)
inner_bodies (Inner n ps) (Entries entries) no_leaf over = absurd over
inner_bodies (Inner n ps) (Link next) no_leaf over = absurd over
inner_bodies (Free next) b no_leaf over = absurd over

-- two nodes that overfill one, where the left one is no leaf
pub inner_shares : (content : Content) (s r : NodeData) → body_of content ≡ s.body → ((n : ℕ) (es : List Member) → content ≡ Leaf n es → ⊥) → Overfill s r →
    (15 < length (pairs_of s) + length (pairs_of r)) × IsInner s × IsInner r
inner_shares content s r is no_leaf over =
    subst (λ b. OverfillAs b r.body → (15 < length (pairs_in b) + length (pairs_of r)) × (b ≡ Pairs (pairs_in b)) × IsInner r) is (inner_bodies content r.body no_leaf) over
