-- Runs of separators and of entries that are cut in two, or joined.
use Rattle.std.proofs.Common.{◌≡◌, ℕ, ◌+◌, ◌-◌, ◌<◌, ◌≤◌, List, [], ◌∷◌, ◌++◌, length, take, drop}
use Rattle.std.proofs.Common.{refl, ap, sym, ◌∙◌, subst, arith}
use Rattle.std.proofs.lemmas.List.{take-append-drop, length-take-le, length-drop, length-append}
use Rattle.reg_model.specs.declared.span.Member.{Member}
use Rattle.tree_shape.specs.declared.pair.Pair.{Pair}
use Rattle.tree_shape.specs.NodeData.{NodeData, Body, Pairs, Entries, Link, entries_of, EntriesWithin}
use Rattle.tree_shape.specs.NodeData.{Cut}
use Rattle.tree_shape.specs.Changes.{entries_end, pairs_end, first_half, last_half, joined, size}
use Rattle.tree_laws.specs.Trees.{branch, branches_from, branches}
use Rattle.tree_laws.specs.Lawful.{IsOrdered, IsOrderedAs}
use Rattle.tree_shape.proofs.Slots.{some_left}

-- where the addresses after some pairs begin
abbrev pub next_low : ℕ → List Pair → ℕ
next_low low [] = low
next_low low (p ∷ pairs) = next_low (p.separator + 1) pairs

pub next_low-end : (low start : ℕ) (pairs : List Pair) → low ≡ start + 1 → next_low low pairs ≡ pairs_end start pairs + 1
next_low-end low start [] at = at
next_low-end low start (p ∷ pairs) at = next_low-end (p.separator + 1) p.separator pairs refl

pub next_low-some : (low : ℕ) (pairs : List Pair) → 0 < length pairs → next_low low pairs ≡ pairs_end 0 pairs + 1
next_low-some low [] some = absurd (omega arith)
next_low-some low (p ∷ pairs) some = next_low-end (p.separator + 1) p.separator pairs refl

pub next_low-cut : (low high : ℕ) (pairs : List Pair) → Cut low high pairs → next_low low pairs ≡ high + 1
next_low-cut low high [] cut = cut
next_low-cut low high (p ∷ pairs) cut = next_low-cut (p.separator + 1) high pairs cut.1

pub branches-append : (level low : ℕ) (xs ys : List Pair) → branches_from level low (xs ++ ys) ≡ branches_from level low xs ++ branches_from level (next_low low xs) ys
branches-append level low [] ys = refl
branches-append level low (p ∷ xs) ys = ap (λ bs. branch p.child level low p.separator ∷ bs)
    (branches-append level (p.separator + 1) xs ys)

pub cut_parts : (low high e : ℕ) (xs ys : List Pair) → Cut low high (xs ++ ys) → next_low low xs ≡ e + 1 → Cut low e xs × Cut (e + 1) high ys
cut_parts low high e [] ys cut at = (at, subst (λ l. Cut l high ys) at cut)
cut_parts low high e (p ∷ xs) ys cut at = let rest = cut_parts (p.separator + 1) high e xs ys cut.1 at in ((cut.0, rest.0), rest.1)

pub cut_join : (low high e : ℕ) (xs ys : List Pair) → Cut low e xs → Cut (e + 1) high ys → Cut low high (xs ++ ys)
cut_join low high e [] ys first last = subst (λ l. Cut l high ys) (sym first) last
cut_join low high e (p ∷ xs) ys first last = (first.0, cut_join (p.separator + 1) high e xs ys first.1 last)

pub entries_lower : (low lower high : ℕ) (entries : List Member) → EntriesWithin low high entries → lower ≤ low → EntriesWithin lower high entries
entries_lower low lower high [] within below = (tt, tt)
entries_lower low lower high (m ∷ entries) within below =
    ((omega arith, within.0.1, within.0.2), within.1)

pub entries_parts : (start high : ℕ) (xs ys : List Member) → EntriesWithin (start + 1) high (xs ++ ys) →
    EntriesWithin (start + 1) (entries_end start xs) xs × EntriesWithin (entries_end start xs + 1) high ys × (start ≤ entries_end start xs)
entries_parts start high [] ys within = ((tt, tt), within, omega arith)
entries_parts start high (m ∷ xs) ys within =
    let rest = entries_parts m.span.last high xs ys (within.0.2, within.1.1) in
    (((within.0.0, within.0.1, rest.0.0), (rest.2, rest.0.1)), rest.1, omega arith)

pub entries_cut : (low high : ℕ) (xs ys : List Member) → EntriesWithin low high (xs ++ ys) → 0 < length xs →
    EntriesWithin low (entries_end 0 xs) xs × EntriesWithin (entries_end 0 xs + 1) high ys × (low ≤ entries_end 0 xs)
entries_cut low high [] ys within some = absurd (omega arith)
entries_cut low high (m ∷ xs) ys within some =
    let rest = entries_parts m.span.last high xs ys (within.0.2, within.1.1) in
    (((within.0.0, within.0.1, rest.0.0), (rest.2, rest.0.1)), rest.1, omega arith)

pub entries_below : (low high : ℕ) (entries : List Member) → EntriesWithin low high entries → 0 < length entries → low ≤ high
entries_below low high [] within some = absurd (omega arith)
entries_below low high (m ∷ entries) within some = omega arith

pub entries_join : (low high e : ℕ) (xs ys : List Member) → EntriesWithin low e xs → EntriesWithin (e + 1) high ys → e ≤ high → low ≤ e + 1 → EntriesWithin low high (xs ++ ys)
entries_join low high e [] ys first last order below = entries_lower (e + 1) low high ys last below
entries_join low high e (m ∷ xs) ys first last order below =
    let rest = entries_join (m.span.last + 1) high e xs ys (first.0.2, first.1.1) last order
    (omega arith) in
    ((first.0.0, first.0.1, rest.0), (omega arith, rest.1))

-- A node that is cut in two: both parts are in order, and bring the same children and entries.
pub record CutsTo (s first last : NodeData) : Type 0 where
  pub low : first.low ≡ s.low
  pub fence : first.high + 1 ≡ last.low
  pub high : last.high ≡ s.high
  pub first_level : first.level ≡ s.level
  pub last_level : last.level ≡ s.level
  pub first_ordered : IsOrdered first
  pub last_ordered : IsOrdered last
  pub above : s.low ≤ first.high
  pub below : first.high < s.high
  pub children : (level : ℕ) → branches level first ++ branches level last ≡ branches level s
  pub members : entries_of first ++ entries_of last ≡ entries_of s

pub cuts : (n level low high : ℕ) (b : Body) → let s : NodeData = record { level = level; low = low; high = high; body = b } in
    IsOrderedAs s b → 0 < n → n < size b → CutsTo s (first_half n s) (last_half n s)
cuts n level low high (Pairs pairs) ordered some inside =
    let whole = take-append-drop n pairs in
    let len : length (take n pairs) ≡ n = length-take-le n pairs (omega arith) in
    let left : length (drop n pairs) ≡ length pairs - n = length-drop n pairs in
    let next : next_low low (take n pairs) ≡ pairs_end 0 (take n pairs) + 1 = next_low-some low (take n pairs) (omega arith) in
    let parts = cut_parts low high (pairs_end 0 (take n pairs)) (take n pairs) (drop n pairs) (subst (λ ps. Cut low high ps) (sym whole) ordered.1) next in
    record {
      low = refl;
      fence = refl;
      high = refl;
      first_level = refl;
      last_level = refl;
      first_ordered = (ordered.0, parts.0);
      last_ordered = (ordered.0, parts.1);
      above = some_left low (pairs_end 0 (take n pairs)) (take n pairs) parts.0 (omega arith);
      below = omega (arith, some_left (pairs_end 0 (take n pairs) + 1) high (drop n pairs) parts.1 (omega arith));
      children = λ k. ap (λ l. branches_from k low (take n pairs) ++ branches_from k l (drop n pairs)) (sym next)
          ∙ sym (branches-append k low (take n pairs) (drop n pairs)) ∙ ap (branches_from k low) whole;
      members = refl;
    }
cuts n level low high (Entries entries) ordered some inside =
    let whole = take-append-drop n entries in
    let len : length (take n entries) ≡ n = length-take-le n entries (omega arith) in
    let left : length (drop n entries) ≡ length entries - n = length-drop n entries in
    let parts = entries_cut low high (take n entries) (drop n entries) (subst (λ es. EntriesWithin low high es) (sym whole) ordered.1) (omega arith) in
    record {
      low = refl;
      fence = refl;
      high = refl;
      first_level = refl;
      last_level = refl;
      first_ordered = (ordered.0, parts.0);
      last_ordered = (ordered.0, parts.1);
      above = parts.2;
      below = omega (arith, entries_below (entries_end 0 (take n entries) + 1) high (drop n entries) parts.1 (omega arith));
      children = λ k. refl;
      members = whole;
    }
cuts n level low high (Link next) ordered some inside = absurd ordered

-- Two neighbours of one kind that are joined.
abbrev pub SameKind : Body → Body → Type 0
SameKind (Pairs left) (Pairs right) = Unit {0}
SameKind (Entries left) (Entries right) = Unit {0}
SameKind _ _ = ⊥

pub record JoinsTo (left right s : NodeData) : Type 0 where
  pub ordered : IsOrdered s
  pub children : (level : ℕ) → branches level left ++ branches level right ≡ branches level s
  pub members : entries_of left ++ entries_of right ≡ entries_of s
  pub sizes : size left.body + size right.body ≡ size s.body

pub joins : (level low high : ℕ) (b : Body) (level' low' high' : ℕ) (c : Body) →
    let l : NodeData = record { level = level; low = low; high = high; body = b } in
    let r : NodeData = record { level = level'; low = low'; high = high'; body = c } in
    IsOrderedAs l b → IsOrderedAs r c → SameKind b c → low' ≡ high + 1 → low ≤ high + 1 → high ≤ high' → JoinsTo l r (joined l r)
joins level low high (Pairs left) level' low' high' (Pairs right) first last kind fence order below = record {
  ordered = (first.0, cut_join low high' high left right first.1 (subst (λ l. Cut l high' right) fence last.1));
  children = λ k. ap (λ l. branches_from k low left ++ branches_from k l right) (fence ∙ sym (next_low-cut low high left first.1)) ∙ sym (branches-append k low left right);
  members = refl;
  sizes = sym (length-append left right);
}
joins level low high (Pairs left) level' low' high' (Entries right) first last kind fence order below = absurd kind
joins level low high (Pairs left) level' low' high' (Link next) first last kind fence order below = absurd kind
joins level low high (Entries left) level' low' high' (Pairs right) first last kind fence order below = absurd kind
joins level low high (Entries left) level' low' high' (Entries right) first last kind fence order below = record {
  ordered = (first.0, entries_join low high' high left right first.1 (subst (λ l. EntriesWithin l high' right) fence last.1) below order);
  children = λ k. refl;
  members = refl;
  sizes = sym (length-append left right);
}
joins level low high (Entries left) level' low' high' (Link next) first last kind fence order below = absurd kind
joins level low high (Link next) level' low' high' c first last kind fence order below = absurd first
