-- Of the copy that isn't active, what is as it is to be before anything is written.
use Rattle.std.proofs.Common.{◌≡◌, ℕ, ◌+◌, ◌-◌, ◌*◌, ◌<◌, ◌≤◌, ◌⊎◌, inl, inr, ⊎_elim, List, sym, refl, ap, ◌∙◌, arith, ne_eqb, lt_of_not-le}
use native.Mathlib.Decide.{dec_le}
use borrow.Author.Tests.{lt-ltb, le-ltb}
use Rattle.reg_model.specs.declared.span.Member.{Member}
use Rattle.word_rule.specs.Places.{segments}
use Rattle.word_rule.specs.Copies.{count_in}
use Rattle.array_publish.specs.Holders.{member_in}
use Rattle.array_publish.specs.Other.{AreOneApart}
use Rattle.array_publish.specs.Writing.{AreRightBeside, HasMembers, HasPlace, HaveHeaders, changed_count, change_place, wanted}
use Rattle.array_publish.specs.declared.writing.ListChange.{ListChange}
use Rattle.array_publish.specs.declared.writing.ListChange.TheVariants.{Put, Take}
use Rattle.array_publish.specs.declared.writing.Stretch.{Stretch}

-- below its place a change leaves members as they are, and behind it they move by one
pub unchanged : (change : ListChange) (words : List ℕ) (i : ℕ) → i < change_place change → wanted change words i ≡ member_in words i
unchanged (Put place m) words i low = rw (lt-ltb i place low) refl
unchanged (Take place) words i low = rw (lt-ltb i place low) refl

pub moved_on : (place i : ℕ) (m : Member) (words : List ℕ) → place < i → wanted (Put place m) words i ≡ member_in words (i - 1)
moved_on place i m words high = rw (le-ltb i place (omega (arith, high)), ne_eqb i place (λ e. omega (arith, e, high))) refl

moved_back : (place i : ℕ) (words : List ℕ) → place < i → wanted (Take place) words i ≡ member_in words (i + 1)
moved_back place i words high = rw (le-ltb i place (omega (arith, high))) refl

below_place : (change : ListChange) (count i : ℕ) → HasPlace change count → i < change_place change → i < count
below_place (Put place m) count i has low = omega (arith, has, low)
below_place (Take place) count i has low = omega (arith, has, low)

-- below the place from which on two copies differ they are the same
same_below : (active other : List ℕ) (count others place i : ℕ) → AreOneApart active other count others place → i < place → i < count → member_in other i ≡ member_in active i
same_below active other count others place i (inl h) low inside = h.1.1.1 i (omega (arith, inside)) ∙ unchanged (Put place h.1.1.0) active i low
same_below active other count others place i (inr (inl h)) low inside = let c = h.0 in sym (h.1.1.1 i (omega (arith, inside, c)) ∙ unchanged (Put place h.1.1.0) other i low)
same_below active other count others place i (inr (inr h)) low inside = let c = h.0 in absurd (omega (arith, inside, c))

-- behind both places they stand where they are to, where one change put and the other one takes
right_behind : (change : ListChange) (active other : List ℕ) (count others place i : ℕ) → HasPlace change count → AreOneApart active other count others place → others ≡ changed_count change count → i < others → change_place change < i → place < i → member_in other i ≡ wanted change active i
right_behind (Put k m) active other count others place i has (inl h) len less far high = h.1.1.1 i (let c = h.0 in omega (arith, less, c)) ∙ (moved_on place i h.1.1.0 active high ∙ sym (moved_on k i m active far))
right_behind (Put k m) active other count others place i has (inr (inl h)) len less far high = let c = h.0 in absurd (omega (arith, c, len))
right_behind (Put k m) active other count others place i has (inr (inr h)) len less far high = let c = h.1 in absurd (omega (arith, c, less))
right_behind (Take k) active other count others place i has (inl h) len less far high = let c = h.0 in absurd (omega (arith, c, len))
right_behind (Take k) active other count others place i has (inr (inl h)) len less far high =
    let back : i + 1 - 1 ≡ i = omega arith in
    sym (moved_back k i active far ∙ (h.1.1.1 (i + 1) (omega (arith, less)) ∙ (moved_on place (i + 1) h.1.1.0 other (omega (arith, high)) ∙ ap (member_in other) back)))
right_behind (Take k) active other count others place i has (inr (inr h)) len less far high = let c = h.1 in absurd (omega (arith, c, less))

-- so those outside of the places between both changes are as wanted
pub right_beside : (change : ListChange) (active other : List ℕ) (count n others place : ℕ) (at : Stretch) → HasPlace change count → n ≡ changed_count change count → AreOneApart active other count others place → ((i : ℕ) → i < at.from → (i < change_place change) × (i < place))
    → ((i : ℕ) → at.to ≤ i → i < n → (others ≡ n) × (change_place change < i) × (place < i)) → AreRightBeside change active other n at
right_beside change active other count n others place at has len apart below above i less side = ⊎_elim
    (λ (low : i < at.from). let b = below i low in same_below active other count others place i apart b.1 (below_place change count i has b.0) ∙ sym (unchanged change active i b.0))
    (λ (high : at.to ≤ i). let a = above i high less in let same = a.0 in right_behind change active other count others place i has apart (a.0 ∙ len) (omega (arith, less, same)) a.1 a.2) side

-- where no members are left out, all are as wanted
pub all_right : (change : ListChange) (active words : List ℕ) (n : ℕ) (at : Stretch) → at.to ≤ at.from → AreRightBeside change active words n at → HasMembers change active words n
all_right change active words n at over h i less = h i less (go (dec_le at.to i))
  where
    go : Dec (at.to ≤ i) → (i < at.from) ⊎ (at.to ≤ i)
    go (yes high) = inr high
    go (no far) = let low = lt_of_not-le far in inl (omega (arith, low, over))

-- a segment that is full in both lists says so already
pub headers_below : (words : List ℕ) (count others first : ℕ) → HaveHeaders words others (segments others) → 16 * first ≤ count → 16 * first ≤ others → HaveHeaders words count first
headers_below words count others first h one two s less =
    let old = h s (omega (arith, less, two)) in
    let full : count_in others s ≡ 16 = omega (arith, less, two) in
    let wanted_full : count_in count s ≡ 16 = omega (arith, less, one) in (old.0, old.1 ∙ (full ∙ sym wanted_full))
