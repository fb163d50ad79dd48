-- Words of members and segments, written one after another.
use Rattle.std.proofs.Common.{◌≡◌, ◌≢◌, ℕ, ◌+◌, ◌<◌, ◌≤◌, inl, inr, ⊎_elim, List, length, get_or, set, length-set, get_or-set_same, get_or-set_other, sym, ◌∙◌, subst, arith, lt_of_not-le}
use native.Mathlib.Decide.{ℕ_discrete, dec_le}
use Rattle.word_rule.specs.Places.{member_place, segment_place, segments}
use Rattle.word_rule.specs.Copies.{count_in}
use Rattle.reg_model.specs.declared.span.Member.{Member}
use Rattle.array_publish.specs.Holders.{member_in}
use Rattle.array_publish.specs.Writing.{AreRightBeside, HasMembers, HaveHeaders, IsWritten, SameHeaders, SameMembers, wanted, with_header, with_member, with_totals}
use Rattle.array_publish.specs.declared.writing.ListChange.{ListChange}

-- members stand one after another
pub above_place : (j i : ℕ) → j < i → member_place j + 3 ≤ member_place i
above_place j i less = omega (arith, less)

pub member_length : (i : ℕ) (m : Member) (words : List ℕ) → length (with_member i m words) ≡ length words
member_length i m words = length-set _ _ _ ∙ (length-set _ _ _ ∙ length-set words _ _)

-- a member that is written is read, and those below it are as they were
pub written_here : (i : ℕ) (m : Member) (words : List ℕ) → member_place i + 2 < length words → member_in (with_member i m words) i ≡ m
written_here i m words inside =
    let p : ℕ = member_place i in
    let one : List ℕ = set words p m.span.first in
    let two : List ℕ = set one (p + 1) m.span.last in
    let l1 = length-set words p m.span.first in
    let l2 = length-set one (p + 1) m.span.last in
    let first : get_or (set two (p + 2) m.payload) p 0 ≡ m.span.first = get_or-set_other two (p + 2) p m.payload 0 (λ e. omega (arith, e)) ∙ (get_or-set_other one (p + 1) p m.span.last 0 (λ e. omega (arith, e)) ∙ get_or-set_same words p m.span.first 0 (omega (arith, inside))) in
    let last : get_or (set two (p + 2) m.payload) (p + 1) 0 ≡ m.span.last = get_or-set_other two (p + 2) (p + 1) m.payload 0 (λ e. omega (arith, e)) ∙ get_or-set_same one (p + 1) m.span.last 0 (omega (arith, inside, l1)) in
    let payload : get_or (set two (p + 2) m.payload) (p + 2) 0 ≡ m.payload = get_or-set_same two (p + 2) m.payload 0 (omega (arith, inside, l1, l2)) in
    (λ j. record { span = record { first = first j; last = last j }; payload = payload j })

three_others : (words : List ℕ) (p x y z at : ℕ) → at ≢ p → at ≢ p + 1 → at ≢ p + 2 → get_or (set (set (set words p x) (p + 1) y) (p + 2) z) at 0 ≡ get_or words at 0
three_others words p x y z at a b c =
    get_or-set_other (set (set words p x) (p + 1) y) (p + 2) at z 0 c ∙ (get_or-set_other (set words p x) (p + 1) at y 0 b ∙ get_or-set_other words p at x 0 a)

-- words of two members are never the same
apart_places : (j i d e : ℕ) → j ≢ i → d ≤ 2 → e ≤ 2 → member_place j + d ≢ member_place i + e
apart_places j i d e ne few less same = go (dec_le j i)
  where
    go : Dec (j ≤ i) → ⊥
    go (yes le) = let up = above_place j i (omega (arith, le, ne)) in omega (arith, up, few, less, same)
    go (no far) = let low = lt_of_not-le far in let up = above_place i j low in omega (arith, up, few, less, same)

written_elsewhere : (j i : ℕ) (m : Member) (words : List ℕ) → j ≢ i → member_in (with_member i m words) j ≡ member_in words j
written_elsewhere j i m words ne =
    let p : ℕ = member_place i in
    let far : (d : ℕ) → d ≤ 2 → (member_place j + d ≢ p) × (member_place j + d ≢ p + 1) × (member_place j + d ≢ p + 2) =
    (λ d few. ((λ e. apart_places j i d 0 ne few (omega arith) (omega (arith, e))), apart_places j i d 1 ne few (omega arith), apart_places j i d 2 ne few (omega arith))) in
    let zero : (member_place j ≢ p) × (member_place j ≢ p + 1) × (member_place j ≢ p + 2) =
    ((λ e. (far 0 (omega arith)).0 (omega (arith, e))), (λ e. (far 0 (omega arith)).1 (omega (arith, e))), (λ e. (far 0 (omega arith)).2 (omega (arith, e)))) in
    let one = far 1 (omega arith) in let two = far 2 (omega arith) in
    (λ k. record {
      span = record {
        first = three_others words p m.span.first m.span.last m.payload (member_place j) zero.0 zero.1 zero.2 k;
        last = three_others words p m.span.first m.span.last m.payload (member_place j + 1) one.0 one.1 one.2 k;
      };
      payload = three_others words p m.span.first m.span.last m.payload (member_place j + 2) two.0 two.1 two.2 k;
    })

-- one member more is written
pub one_more : (change : ListChange) (active words : List ℕ) (n i to : ℕ) (m : Member) → member_place i + 2 < length words → AreRightBeside change active words n (record { from = i; to = to }) → m ≡ wanted change active i → AreRightBeside change active (with_member i m words) n (record { from = i + 1; to = to })
one_more change active words n i to m inside h is j less side = go (ℕ_discrete j i)
  where
    go : Dec (j ≡ i) → member_in (with_member i m words) j ≡ wanted change active j
    go (yes e) = subst (λ n. member_in (with_member i m words) n ≡ wanted change active n) (sym e) (written_here i m words inside ∙ is)
    go (no ne) = written_elsewhere j i m words ne ∙ h j less (⊎_elim (λ (l : j < i + 1). inl (omega (arith, l, ne))) (λ (l : to ≤ j). inr l) side)

-- a segment's header is no member's word
never_header : (j s d e : ℕ) → d ≤ 2 → e ≤ 1 → member_place j + d ≢ segment_place s + e
never_header j s d e few one same = omega (arith, few, one, same)

two_others : (words : List ℕ) (p q x y at : ℕ) → at ≢ p → at ≢ q → get_or (set (set words p x) q y) at 0 ≡ get_or words at 0
two_others words p q x y at far other = get_or-set_other (set words p x) q at y 0 other ∙ get_or-set_other words p at x 0 far

-- nor do members change headers
pub member_apart : (i : ℕ) (m : Member) (words : List ℕ) → SameHeaders words (with_member i m words)
member_apart i m words s =
    let p : ℕ = member_place i in (
      three_others words p m.span.first m.span.last m.payload (segment_place s) (λ e. never_header i s 0 0 (omega arith) (omega arith) (omega (arith, e))) (λ e. never_header i s 1 0 (omega arith) (omega arith) (omega (arith, e))) (λ e. never_header i s 2 0 (omega arith) (omega arith) (omega (arith, e))),
      three_others words p m.span.first m.span.last m.payload (segment_place s + 1) (λ e. never_header i s 0 1 (omega arith) (omega arith) (omega (arith, e))) (λ e. never_header i s 1 1 (omega arith) (omega arith) (omega (arith, e))) (λ e. never_header i s 2 1 (omega arith) (omega arith) (omega (arith, e))),
    )

pub header_apart : (s count : ℕ) (words : List ℕ) → SameMembers words (with_header s count words)
header_apart s count words j =
    let p : ℕ = segment_place s in
    let far : (d : ℕ) → d ≤ 2 → member_place j + d ≢ segment_place s = (λ d few e. never_header j s d 0 few (omega arith) (omega (arith, e))) in
    let zero_far : member_place j ≢ segment_place s = (λ e. far 0 (omega arith) (omega (arith, e))) in
    let zero_next : member_place j ≢ segment_place s + 1 = (λ e. never_header j s 0 1 (omega arith) (omega arith) (omega (arith, e))) in
    (λ k. record {
      span = record {
        first = two_others words p (p + 1) s count (member_place j) zero_far zero_next k;
        last = two_others words p (p + 1) s count (member_place j + 1) (far 1 (omega arith)) (never_header j s 1 1 (omega arith) (omega arith)) k;
      };
      payload = two_others words p (p + 1) s count (member_place j + 2) (far 2 (omega arith)) (never_header j s 2 1 (omega arith) (omega arith)) k;
    })

-- one header more
pub one_header : (count s : ℕ) (words : List ℕ) → segment_place s + 1 < length words → HaveHeaders words count s → HaveHeaders (with_header s (count_in count s) words) count (s + 1)
one_header count s words inside h j less = go (ℕ_discrete j s)
  where
    l1 : length (set words (segment_place s) s) ≡ length words
    l1 = length-set words (segment_place s) s

    here : (get_or (with_header s (count_in count s) words) (segment_place s) 0 ≡ s) × (get_or (with_header s (count_in count s) words) (segment_place s + 1) 0 ≡ count_in count s)
    here = (
      get_or-set_other (set words (segment_place s) s) (segment_place s + 1) (segment_place s) (count_in count s) 0 (λ e. omega (arith, e)) ∙ get_or-set_same words (segment_place s) s 0 (omega (arith, inside)),
      get_or-set_same (set words (segment_place s) s) (segment_place s + 1) (count_in count s) 0 (let l = l1 in omega (arith, inside, l)),
    )

    go : Dec (j ≡ s) → (get_or (with_header s (count_in count s) words) (segment_place j) 0 ≡ j) × (get_or (with_header s (count_in count s) words) (segment_place j + 1) 0 ≡ count_in count j)
    go (yes e) = subst (λ n. (get_or (with_header s (count_in count s) words) (segment_place n) 0 ≡ n) × (get_or (with_header s (count_in count s) words) (segment_place n + 1) 0 ≡ count_in count n)) (sym e) here
    go (no ne) =
        let old = h j (omega (arith, less, ne)) in (
          two_others words (segment_place s) (segment_place s + 1) s (count_in count s) (segment_place j) (λ e. ne (omega (arith, e))) (λ e. omega (arith, e)) ∙ old.0,
          two_others words (segment_place s) (segment_place s + 1) s (count_in count s) (segment_place j + 1) (λ e. omega (arith, e)) (λ e. ne (omega (arith, e))) ∙ old.1,
        )

-- the totals stand before all segments
pub totals_written : (change : ListChange) (active words : List ℕ) (count : ℕ) → 2 ≤ length words → HasMembers change active words count → HaveHeaders words count (segments count) → IsWritten change active count (with_totals count words)
totals_written change active words count wide members headers =
    let l1 = length-set words 0 (segments count) in record {
      head = get_or-set_other (set words 0 (segments count)) 1 0 count 0 (λ e. omega (arith, e)) ∙ get_or-set_same words 0 (segments count) 0 (omega (arith, wide));
      number = get_or-set_same (set words 0 (segments count)) 1 count 0 (omega (arith, wide, l1));
      headers = λ s less. let h = headers s less in (two_others words 0 1 (segments count) count (segment_place s) (λ e. omega (arith, e)) (λ e. omega (arith, e)) ∙ h.0, two_others words 0 1 (segments count) count (segment_place s + 1) (λ e. omega (arith, e)) (λ e. omega (arith, e)) ∙ h.1);
      members = λ i less. same i ∙ members i less;
    }
  where
    same : SameMembers words (with_totals count words)
    same i k = record {
      span = record {
        first = two_others words 0 1 (segments count) count (member_place i) (λ e. omega (arith, e)) (λ e. omega (arith, e)) k;
        last = two_others words 0 1 (segments count) count (member_place i + 1) (λ e. omega (arith, e)) (λ e. omega (arith, e)) k;
      };
      payload = two_others words 0 1 (segments count) count (member_place i + 2) (λ e. omega (arith, e)) (λ e. omega (arith, e)) k;
    }
