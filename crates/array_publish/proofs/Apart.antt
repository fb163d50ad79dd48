-- Two copies of which one is a publication behind: one lists a member more than the other.
use Rattle.std.proofs.Common.{◌≡◌, ◌≢◌, ◌↔◌, ℕ, zero, suc, ◌+◌, ◌-◌, ◌<◌, ◌≤◌, ◌⊎◌, inl, inr, ⊎_elim, List, [], ◌∷◌, ◌++◌, length, get_or, Contains, sym, refl, ap, ◌∙◌, subst, arith, lt_of_not-le, min}
use Rattle.std.proofs.lemmas.List.Elements.{All-contains, Contains-append_right}
use native.Mathlib.Decide.{ℕ_discrete, dec_le}
use Rattle.reg_model.specs.SpanData.{Overlaps}
use Rattle.reg_model.specs.State.{at_base}
use Rattle.reg_model.specs.declared.span.Member.{Member}
use Rattle.reg_model.specs.declared.answer.Update.{Update}
use Rattle.reg_model.specs.declared.answer.Update.TheVariants as update
use Rattle.segment_array.specs.Ascending.{AscendFrom}
use Rattle.word_rule.specs.Copies.{IsBehind, ListsMembers, Publishes, count_in}
use Rattle.word_rule.specs.Places.{segments}
use Rattle.word_rule.specs.declared.log.Terms.{Terms}
use Rattle.node_store.specs.Entries.{with_entry_at}
use Rattle.node_store.proofs.LeafWords.{put_length}
use Rattle.word_rule.proofs.Each.{some_of}
use Rattle.word_rule.proofs.Listings.{there_at}
use Rattle.word_rule.proofs.TreeRefusals.{ordered_in}
use Rattle.word_rule.proofs.TreeUpdates.{ascending_same}
use Rattle.array_publish.specs.Holders.{member_in}
use Rattle.array_publish.specs.Other.{AreOneApart}
use Rattle.array_publish.specs.Writing.{HasMembers, HaveHeaders}
use Rattle.array_publish.specs.declared.writing.ListChange.TheVariants.{Put}
use Rattle.array_publish.proofs.Changed.{put_member, stands_at}
use Rattle.array_publish.proofs.Lookups.{begins_above}
use Rattle.array_publish.proofs.Overlaps.{overlap_of}
use Rattle.array_publish.proofs.Rewriting.{moved_on, unchanged}

-- ---- lists that ascend

none_there : (x : Member) → Contains [] x → ⊥
none_there x c = let l = c.1 in omega (arith, l)

in_rest : (x z : Member) (xs : List Member) → x ≢ z → Contains (x ∷ xs) z → Contains xs z
in_rest x z xs far (zero, l, e) = absurd (far e)
in_rest x z xs far (suc i, l, e) = (i, omega (arith, l), e)

-- the first one doesn't come again
not_again : (a : ℕ) (x z : Member) (xs : List Member) → AscendFrom a (x ∷ xs) → Contains xs z → x ≢ z
not_again a x z xs h c e = let up = begins_above (x.span.last + 1) xs z h.2 c in let o = h.1 in let f = ap (λ (m : Member). m.span.first) e in omega (arith, up, o, f)

-- two first ones that are in both lists are one
first_same : (a b : ℕ) (x y : Member) (xs ys : List Member) → AscendFrom a (x ∷ xs) → AscendFrom b (y ∷ ys) → Contains (y ∷ ys) x → Contains (x ∷ xs) y → x ≡ y
first_same a b x y xs ys ax ay (zero, l, e) c = sym e
first_same a b x y xs ys ax ay (suc i, l, e) (zero, k, f) = f
first_same a b x y xs ys ax ay (suc i, l, e) (suc j, k, f) =
    let up = begins_above (y.span.last + 1) ys x ay.2 (i, omega (arith, l), e) in
    let down = begins_above (x.span.last + 1) xs y ax.2 (j, omega (arith, k), f) in
    let p = ax.1 in let q = ay.1 in absurd (omega (arith, up, down, p, q))

same_lists : (a b : ℕ) (xs ys : List Member) → AscendFrom a xs → AscendFrom b ys → ((z : Member) → Contains xs z ↔ Contains ys z) → xs ≡ ys
same_lists a b [] [] ax ay same = refl
same_lists a b [] (y ∷ ys) ax ay same = absurd (none_there y ((same y).1 (0, omega arith, refl)))
same_lists a b (x ∷ xs) [] ax ay same = absurd (none_there x ((same x).0 (0, omega arith, refl)))
same_lists a b (x ∷ xs) (y ∷ ys) ax ay same =
    let head = first_same a b x y xs ys ax ay ((same x).0 (0, omega arith, refl)) ((same y).1 (0, omega arith, refl)) in
    let rest = same_lists (x.span.last + 1) (y.span.last + 1) xs ys ax.2 ay.2
    (λ z. ((λ c. in_rest y z ys (λ e. not_again a x z xs ax c (head ∙ e)) ((same z).0 (Contains-append_right (x ∷ []) xs z c))), (λ c. in_rest x z xs (λ e. not_again b y z ys ay c (sym head ∙ e)) ((same z).1 (Contains-append_right (y ∷ []) ys z c))))) in
    (λ i. head i ∷ rest i)

-- the member that the longer list has more stands first there
more_first : (a b : ℕ) (x : Member) (xs ys : List Member) (m : Member) → AscendFrom a (x ∷ xs) → AscendFrom b ys → ¬ Contains ys m → ((z : Member) → Contains (x ∷ xs) z ↔ (Contains ys z ⊎ (m ≡ z))) → m ≡ x → xs ≡ ys
more_first a b x xs ys m ax ay new same is = same_lists (x.span.last + 1) b xs ys ax.2 ay
    (λ z. (
      (λ c. ⊎_elim (λ (d : Contains ys z). d) (λ (e : m ≡ z). absurd (not_again a x z xs ax c (sym is ∙ e))) ((same z).0 (Contains-append_right (x ∷ []) xs z c))),
      (λ c. in_rest x z xs (λ e. new (subst (Contains ys) (sym (is ∙ e)) c)) ((same z).1 (inl c))),
    ))

-- a list that has one member more has it at a place
pub one_more_in : (a b : ℕ) (xs ys : List Member) (m : Member) → AscendFrom a xs → AscendFrom b ys → ¬ Contains ys m → ((z : Member) → Contains xs z ↔ (Contains ys z ⊎ (m ≡ z))) → (k : ℕ) × ((k ≤ length ys) × (xs ≡ with_entry_at k m ys))
one_more_in a b [] ys m ax ay new same = absurd (none_there m ((same m).1 (inr refl)))
one_more_in a b (x ∷ xs) [] m ax ay new same =
    let is : m ≡ x = ⊎_elim (λ (c : Contains [] x). absurd (none_there x c)) (λ (e : m ≡ x). e) ((same x).0 (0, omega arith, refl)) in
    let rest = more_first a b x xs [] m ax ay new same is in (0, (omega arith, (λ i. sym is i ∷ rest i)))
one_more_in a b (x ∷ xs) (y ∷ ys) m ax ay new same = ⊎_elim
    (λ (c : Contains (y ∷ ys) x).
    let head = first_same a b x y xs ys ax ay c ((same y).1 (inl (0, omega arith, refl))) in
    let r = one_more_in (x.span.last + 1) (y.span.last + 1) xs ys m ax.2 ay.2 (λ d. new (Contains-append_right (y ∷ []) ys m d))
    (λ z. (
      (λ d. ⊎_elim (λ (e : Contains (y ∷ ys) z). inl (in_rest y z ys (λ f. not_again a x z xs ax d (head ∙ f)) e)) (λ (e : m ≡ z). inr e) ((same z).0 (Contains-append_right (x ∷ []) xs z d))),
      (λ d. ⊎_elim (λ (e : Contains ys z). in_rest x z xs (λ f. not_again b y z ys ay e (sym head ∙ f)) ((same z).1 (inl (Contains-append_right (y ∷ []) ys z e)))) (λ (e : m ≡ z). in_rest x z xs (λ f. new (subst (Contains (y ∷ ys)) (sym head ∙ (f ∙ sym e)) (0, omega arith, refl))) ((same z).1 (inr e))) d),
    )) in
    (suc r.0, ((let l = r.1.0 in omega (arith, l)), (λ i. head i ∷ r.1.1 i))))
    (λ (is : m ≡ x). let rest = more_first a b x xs (y ∷ ys) m ax ay new same is in (0, (omega arith, (λ i. sym is i ∷ rest i)))) ((same x).0 (0, omega arith, refl))

-- each begins below the next one
next_above : (low i : ℕ) (xs : List Member) (d : Member) → AscendFrom low xs → suc i < length xs → (get_or xs i d).span.first < (get_or xs (suc i) d).span.first
next_above low i [] d h l = absurd (omega (arith, l))
next_above low i (x ∷ []) d h l = absurd (omega (arith, l))
next_above low zero (x ∷ y ∷ xs) d h l = let a = h.1 in let b = h.2.0 in omega (arith, a, b)
next_above low (suc i) (x ∷ y ∷ xs) d h l = next_above (x.span.last + 1) i (y ∷ xs) d h.2 (omega (arith, l))

pub one_of : (a b least : ℕ) → least ≡ min a b → (least ≡ a) ⊎ (least ≡ b)
one_of a b least is = go (dec_le a b)
  where
    go : Dec (a ≤ b) → (least ≡ a) ⊎ (least ≡ b)
    go (yes le) = inl (omega (arith, is, le))
    go (no far) = let low = lt_of_not-le far in inr (omega (arith, is, low))

-- ---- copies

listed_at : (words : List ℕ) (xs : List Member) (i : ℕ) (d : Member) → ListsMembers words xs → i < length xs → member_in words i ≡ get_or xs i d
listed_at words xs i d lists less = (let e : i ≡ 0 + i = omega arith in ap (member_in words) e) ∙ stands_at words 0 i xs d lists.stand less

-- What two copies are where one lists a member more: the same below its place, and from it on the
-- members begin elsewhere.
pub record Apart (active other : List ℕ) (count others : ℕ) : Type 0 where
  pub place : ℕ
  pub inside : (place ≤ count) × (place ≤ others)
  pub members : AreOneApart active other count others place
  pub alike : (i : ℕ) → i < place → (member_in active i).span.first ≡ (member_in other i).span.first
  pub differ : (i : ℕ) → place ≤ i → i < count → i < others → (member_in active i).span.first ≢ (member_in other i).span.first

module _ (longer shorter : List ℕ) (xs ys : List Member) (k : ℕ) (m : Member) (more : ListsMembers longer xs) (less : ListsMembers shorter ys) (le : k ≤ length ys) (is : xs ≡ with_entry_at k m ys) where
  len : length xs ≡ length ys + 1
  len = ap length is ∙ put_length k m ys le

  pub written_more : HasMembers (Put k m) shorter longer (length ys + 1)
  written_more i low = listed_at longer xs i m more (let l = len in omega (arith, l, low)) ∙ (ap (λ (zs : List Member). get_or zs i m) is ∙ sym (put_member shorter ys k i m less.stand le low))

  pub alike_below : (i : ℕ) → i < k → (member_in longer i).span.first ≡ (member_in shorter i).span.first
  alike_below i low =
      let same : member_in longer i ≡ member_in shorter i = written_more i (omega (arith, low, le)) ∙ unchanged (Put k m) shorter i low in ap (λ (z : Member). z.span.first) same

  -- what stood at a place or after it stands one further on
  moved : (i : ℕ) → k ≤ i → i < length ys → member_in longer (suc i) ≡ member_in shorter i
  moved i high low = let back : suc i - 1 ≡ i = omega arith in written_more (suc i) (omega (arith, low)) ∙ (moved_on k (suc i) m shorter (omega (arith, high)) ∙ ap (member_in shorter) back)

  pub differ_from : (i : ℕ) → k ≤ i → i < length ys → (member_in longer i).span.first ≢ (member_in shorter i).span.first
  differ_from i high low e =
      let l = len in
      let here = ap (λ (z : Member). z.span.first) (listed_at longer xs i m more (omega (arith, l, low))) in
      let next = ap (λ (z : Member). z.span.first) (listed_at longer xs (suc i) m more (omega (arith, l, low))) in
      let up = next_above 0 i xs m more.ascending (omega (arith, l, low)) in
      let same = ap (λ (z : Member). z.span.first) (moved i high low) in omega (arith, here, next, up, same, e)

-- a publication puts or takes one member
module _ (t : Terms) (active other : List ℕ) (before after : List Member) (lists_before : ListsMembers other before) (lists_after : ListsMembers active after) where
  put_apart : (m : Member) (count others : ℕ) → count ≡ length after → others ≡ length before → ¬ Contains before m → ((z : Member) → Contains after z ↔ (Contains before z ⊎ (m ≡ z))) → Apart active other count others
  put_apart m count others a b new same =
      let r = one_more_in 0 0 after before m lists_after.ascending lists_before.ascending new same in
      let le = r.1.0 in let more = ap length r.1.1 ∙ put_length r.0 m before le in record {
        place = r.0;
        inside = (omega (arith, a, b, le, more), omega (arith, b, le));
        members = inr (inl (omega (arith, a, b, more), (omega (arith, b, le), (m, subst (λ n. HasMembers (Put r.0 m) other active (n + 1)) (sym b) (written_more active other after before r.0 m lists_after lists_before le r.1.1)))));
        alike = alike_below active other after before r.0 m lists_after lists_before le r.1.1;
        differ = λ i high _ low. differ_from active other after before r.0 m lists_after lists_before le r.1.1 i high (omega (arith, low, b));
      }

  take_apart : (m : Member) (count others : ℕ) → count ≡ length after → others ≡ length before → ¬ Contains after m → ((z : Member) → Contains before z ↔ (Contains after z ⊎ (m ≡ z))) → Apart active other count others
  take_apart m count others a b new same =
      let r = one_more_in 0 0 before after m lists_before.ascending lists_after.ascending new same in
      let le = r.1.0 in let more = ap length r.1.1 ∙ put_length r.0 m after le in record {
        place = r.0;
        inside = (omega (arith, a, le), omega (arith, a, b, le, more));
        members = inl (omega (arith, a, b, more), (omega (arith, a, le), (m, subst (λ n. HasMembers (Put r.0 m) active other (n + 1)) (sym a) (written_more other active before after r.0 m lists_before lists_after le r.1.1))));
        alike = λ i low. sym (alike_below other active before after r.0 m lists_before lists_after le r.1.1 i low);
        differ = λ i high low _ e. differ_from other active before after r.0 m lists_before lists_after le r.1.1 i high (omega (arith, low, a)) (sym e);
      }

  published_apart : (u : Update) (count others : ℕ) → count ≡ length after → others ≡ length before → Publishes t u before after → Apart active other count others
  published_apart (update.Load m) count others a b p = put_apart m count others a b
      (λ c. let o = ordered_in 0 after m lists_after.ascending ((p.2 m).1 (inr refl)) in All-contains (λ x. ¬ Overlaps x.span m.span) (t.fixed ++ before) m p.0 (Contains-append_right t.fixed before m c) (overlap_of m.span m.span o o o o)) p.2
  published_apart (update.Unload base) count others a b p = let found = some_of (at_base base before) p.0 in let there = there_at base before found.0 found.1 in
      take_apart found.0 count others a b (λ c. ((p.1 found.0).0 c).1 there.1)
      (λ z. (
        (λ c. go z found.0 c there (ℕ_discrete z.span.first base)),
        (λ c. ⊎_elim (λ (d : Contains after z). ((p.1 z).0 d).0) (λ (e : found.0 ≡ z). subst (Contains before) e there.0) c),
      ))
    where
      go : (z m : Member) → Contains before z → Contains before m × (m.span.first ≡ base) → Dec (z.span.first ≡ base) → Contains after z ⊎ (m ≡ z)
      go z m c there (yes e) = inr (ascending_same 0 before lists_before.ascending m z there.0 c (there.1 ∙ sym e))
      go z m c there (no ne) = inl ((p.1 z).1 (c, ne))
  published_apart (update.Register m) count others a b p = absurd p
  published_apart (update.Deregister base) count others a b p = absurd p
  published_apart (update.Replace m) count others a b p = absurd p

-- what the invariant says of two copies
pub apart : (t : Terms) (active other : List ℕ) (count others : ℕ) → (b : IsBehind t active other) → count ≡ length b.after → others ≡ length b.before → Apart active other count others
apart t active other count others b now then = ⊎_elim
    (λ (none : (b.before ≡ []) × (b.after ≡ [])). let c : count ≡ 0 = now ∙ ap length none.1 in let o : others ≡ 0 = then ∙ ap length none.0 in record {
      place = 0;
      inside = (omega arith, omega arith);
      members = inr (inr (c, o));
      alike = λ i low. absurd (omega (arith, low));
      differ = λ i high low other. absurd (omega (arith, c, low));
    })
    (λ (some : (u : Update) × Publishes t u b.before b.after). published_apart t active other b.before b.after b.lists_before b.lists_after some.0 count others now then some.1) b.change

-- a place below which they are the same, and at which they aren't, is that one
pub at_place : (active other : List ℕ) (count others place : ℕ) → Apart active other count others → place ≤ count → place ≤ others → (place ≡ 0) ⊎ ((member_in active (place - 1)).span.first ≡ (member_in other (place - 1)).span.first)
    → ((place ≡ count) ⊎ (place ≡ others)) ⊎ ((member_in active place).span.first ≢ (member_in other place).span.first) → AreOneApart active other count others place
at_place active other count others place h one two below above = subst (AreOneApart active other count others) (same (dec_le place h.place) (dec_le h.place place)) h.members
  where
    same : Dec (place ≤ h.place) → Dec (h.place ≤ place) → h.place ≡ place
    same (yes low) (yes high) = omega (arith, low, high)
    same (no far) high =
        let over = lt_of_not-le far in
        absurd (⊎_elim (λ (e : place ≡ 0). omega (arith, e, over)) (λ (e : (member_in active (place - 1)).span.first ≡ (member_in other (place - 1)).span.first). h.differ (place - 1) (omega (arith, over)) (omega (arith, over, one)) (omega (arith, over, two)) e) below)
    same (yes low) (no far) =
        let under = lt_of_not-le far in let inside = h.inside in
        absurd (⊎_elim (λ (e : (place ≡ count) ⊎ (place ≡ others)). ⊎_elim (λ (f : place ≡ count). omega (arith, f, under, inside)) (λ (f : place ≡ others). omega (arith, f, under, inside)) e) (λ (ne : (member_in active place).span.first ≢ (member_in other place).span.first). ne (h.alike place under)) above)

-- the segments of a copy that lists members say so
pub headers_of : (words : List ℕ) (xs : List Member) (count : ℕ) → ListsMembers words xs → count ≡ length xs → HaveHeaders words count (segments count)
headers_of words xs count lists is s less = (lists.previous s (omega (arith, less, is)), lists.counts s (omega (arith, less, is)) ∙ ap (λ n. count_in n s) (sym is))
