-- How held leaves show a refusal: a leaf alone, or with the leaf on its right. For the bodies of updates.
use Rattle.std.proofs.Common.{◌≡◌, ℕ, zero, suc, ◌+◌, ◌≤◌, inl, inr, List, [], ◌∷◌, length, max, Contains, sym, subst, arith, append-nil, IsTrue, None, IsNone}
use Rattle.std.specs.List.{AllByRecursion}
use Rattle.std.proofs.lemmas.List.Elements.{All-append}
use native.Mathlib.Decide.{dec_le}
use Rattle.reg_model.specs.SpanData.{Overlaps}
use Rattle.reg_model.specs.State.{IsFree, IsLowestOverlap, at_base}
use Rattle.reg_model.specs.declared.span.Member.{Member}
use Rattle.reg_model.proofs.Members.{taken_from}
use Rattle.tree_shape.specs.NodeData.{NodeData, Body, Pairs, Entries, Link, IsInFences, entries_in, entries_of}
use Rattle.tree_laws.specs.Trees.{Contents}
use Rattle.tree_laws.specs.Lawful.{IsOrdered, IsOrderedAs}
use Rattle.word_rule.specs.declared.log.Holding.{Holding}
use Rattle.word_rule.specs.declared.log.Log.{Log}
use Rattle.word_rule.specs.Held.{marked_in, settled_in}
use Rattle.word_rule.specs.TreeRefusals.{IsInOne, HoldsLeaves, HadNoRoom, ShowsFull, ShowsNone, ShowsOverlap, entries_in_leaves}
use Rattle.word_rule.proofs.TreeRefusals.{ordered_in}

-- an entry lies inside the fences of its leaf
below_high : (high : ℕ) (xs : List Member) (m : Member) → AllByRecursion (λ x. x.span.last ≤ high) xs → Contains xs m → m.span.last ≤ high
below_high high [] m h (k, l, e) = absurd (omega (arith, l))
below_high high (x ∷ xs) m h (zero, l, e) = subst (λ (z : Member). z.span.last ≤ high) e h.0
below_high high (x ∷ xs) m h (suc k, l, e) = below_high high xs m h.1 (k, omega (arith, l), e)

pub begins_below : (s : NodeData) (m : Member) → IsOrdered s → Contains (entries_of s) m → m.span.first ≤ s.high
begins_below s m = go s.body
  where
    go : (b : Body) → IsOrderedAs s b → Contains (entries_in b) m → m.span.first ≤ s.high
    go (Entries xs) h c = let a = ordered_in s.low xs m h.1.0 c in let b = below_high s.high xs m h.1.1 c in omega (arith, a, b)
    go (Pairs ps) h c = absurd (let l = c.1 in omega (arith, l))
    go (Link next) h c = absurd h

-- a held leaf that is marked live
abbrev pub IsLeafHeld : List Holding → ℕ → Type 0
IsLeafHeld held n = IsTrue (marked_in held n) × ((settled_in held n).level ≡ 0)

-- the addresses lie in one leaf
pub in_leaf : (held : List Holding) (n first last : ℕ) → IsLeafHeld held n → (settled_in held n).low ≤ first → last ≤ (settled_in held n).high → HoldsLeaves held (n ∷ []) first last
in_leaf held n first last leaf low high = record { live = (leaf, tt); contain = λ pc from to. inl (omega (arith, low, from), omega (arith, high, to)) }

-- they lie in a leaf and the one on its right
pub in_two : (held : List Holding) (n k first last : ℕ) → IsLeafHeld held n → IsLeafHeld held k → (settled_in held n).high + 1 ≡ (settled_in held k).low → (settled_in held n).low ≤ first → last ≤ (settled_in held k).high → HoldsLeaves held (n ∷ k ∷ []) first last
in_two held n k first last leaf right fence low high = record { live = (leaf, (right, tt)); contain = λ pc from to. go pc from to (dec_le pc (settled_in held n).high) }
  where
    go : (pc : ℕ) → first ≤ pc → pc ≤ last → Dec (pc ≤ (settled_in held n).high) → IsInOne (settled_in held) (n ∷ k ∷ []) pc
    go pc from to (yes left) = inl (omega (arith, low, from), left)
    go pc from to (no past) = inr (inl (omega (arith, fence, past), omega (arith, high, to)))

one_leaf : (f : Contents) (n : ℕ) → entries_of (f n) ≡ entries_in_leaves f (n ∷ [])
one_leaf f n = sym (append-nil (entries_of (f n)))

-- the leaf in whose fences the span begins has the least entry that overlaps
pub overlap_in_leaf : (v : Log) (n : ℕ) (m other : Member) → IsLeafHeld v.holdings.held n → IsOrdered (settled_in v.holdings.held n) → IsInFences m.span.first (settled_in v.holdings.held n) → IsLowestOverlap m.span (entries_of (settled_in v.holdings.held n)) other → ShowsOverlap m other v
overlap_in_leaf v n m other leaf order inside least =
    let below = begins_below (settled_in v.holdings.held n) other order least.listed in let high = inside.1 in record {
      leaves = n ∷ [];
      held = in_leaf v.holdings.held n m.span.first (max m.span.first other.span.first) leaf inside.0 (omega (arith, below, high));
      lowest = subst (λ xs. IsLowestOverlap m.span xs other) (one_leaf (settled_in v.holdings.held) n) least;
    }

-- nothing there overlaps, and the leaf on its right has the least entry that does
pub overlap_in_next : (v : Log) (n k : ℕ) (m other : Member) → IsLeafHeld v.holdings.held n → IsLeafHeld v.holdings.held k → (settled_in v.holdings.held n).high + 1 ≡ (settled_in v.holdings.held k).low → IsOrdered (settled_in v.holdings.held k)
    → IsInFences m.span.first (settled_in v.holdings.held n) → (settled_in v.holdings.held n).high ≤ (settled_in v.holdings.held k).high → IsFree m.span (entries_of (settled_in v.holdings.held n)) → IsLowestOverlap m.span (entries_of (settled_in v.holdings.held k)) other → ShowsOverlap m other v
overlap_in_next v n k m other leaf right fence order inside wide free least =
    let below = begins_below (settled_in v.holdings.held k) other order least.listed in let high = inside.1 in record {
      leaves = n ∷ k ∷ [];
      held = in_two v.holdings.held n k m.span.first (max m.span.first other.span.first) leaf right fence inside.0 (omega (arith, below, high, wide));
      lowest = taken_from m.span (entries_of (settled_in v.holdings.held n)) (entries_in_leaves (settled_in v.holdings.held) (k ∷ [])) None other free (subst (λ xs. IsLowestOverlap m.span xs other) (one_leaf (settled_in v.holdings.held) k) least) tt;
    }

-- the leaf whose fences hold the base has no entry that begins there
pub none_in_leaf : (v : Log) (n base : ℕ) → IsLeafHeld v.holdings.held n → IsInFences base (settled_in v.holdings.held n) → IsNone (at_base base (entries_of (settled_in v.holdings.held n))) → ShowsNone base v
none_in_leaf v n base leaf inside none = record {
  leaves = n ∷ [];
  held = in_leaf v.holdings.held n base base leaf inside.0 inside.1;
  none = subst (λ xs. IsNone (at_base base xs)) (one_leaf (settled_in v.holdings.held) n) none;
}

-- nothing overlaps in the leaf, whose fences contain the span, and there was no room
pub full_in_leaf : (v : Log) (n : ℕ) (m : Member) → IsLeafHeld v.holdings.held n → (settled_in v.holdings.held n).low ≤ m.span.first → m.span.last ≤ (settled_in v.holdings.held n).high → IsFree m.span (entries_of (settled_in v.holdings.held n)) → HadNoRoom m.span.first (length v.receipts.own) v.trace.loads → ShowsFull m v
full_in_leaf v n m leaf low high free shut = record {
  leaves = n ∷ [];
  held = in_leaf v.holdings.held n m.span.first m.span.last leaf low high;
  free = subst (IsFree m.span) (one_leaf (settled_in v.holdings.held) n) free;
  no_room = shut;
}

-- or in it and the leaf on its right
pub full_in_two : (v : Log) (n k : ℕ) (m : Member) → IsLeafHeld v.holdings.held n → IsLeafHeld v.holdings.held k → (settled_in v.holdings.held n).high + 1 ≡ (settled_in v.holdings.held k).low → (settled_in v.holdings.held n).low ≤ m.span.first → m.span.last ≤ (settled_in v.holdings.held k).high
    → IsFree m.span (entries_of (settled_in v.holdings.held n)) → IsFree m.span (entries_of (settled_in v.holdings.held k)) → HadNoRoom m.span.first (length v.receipts.own) v.trace.loads → ShowsFull m v
full_in_two v n k m leaf right fence low high free next shut = record {
  leaves = n ∷ k ∷ [];
  held = in_two v.holdings.held n k m.span.first m.span.last leaf right fence low high;
  free = All-append (λ x. ¬ Overlaps x.span m.span) (entries_of (settled_in v.holdings.held n)) (entries_in_leaves (settled_in v.holdings.held) (k ∷ [])) free (subst (IsFree m.span) (one_leaf (settled_in v.holdings.held) k) next);
  no_room = shut;
}
