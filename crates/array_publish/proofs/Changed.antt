-- A list with one member more, or one less: where its members stand, and what it has.
use Rattle.std.proofs.Common.{◌≡◌, ◌↔◌, ◌==◌, ◌≢◌, ℕ, zero, suc, ◌+◌, ◌-◌, ◌<◌, ◌≤◌, ◌⊎◌, inl, inr, ⊎_elim, List, [], ◌∷◌, ◌++◌, length, take, drop, get_or, Contains, sym, refl, ap, ◌∙◌, subst, arith, IfSome, slice_get, eq-eqb, ne_eqb, lt_of_not-le}
use Rattle.std.specs.List.{All, AllByRecursion}
use Rattle.std.proofs.lemmas.List.{length-take, take-append-drop}
use Rattle.std.proofs.lemmas.List.Elements.{All-append, Contains-get_or}
use native.Mathlib.Decide.{ℕ_discrete, dec_le}
use borrow.Author.Tests.{lt-ltb, le-ltb}
use Rattle.reg_model.specs.SpanData.{Overlaps}
use Rattle.reg_model.specs.State.{IsFree}
use Rattle.reg_model.specs.declared.span.Member.{Member}
use Rattle.reg_model.proofs.Spans.{overlap_bounds}
use Rattle.segment_array.specs.Ascending.{AscendFrom}
use Rattle.segment_array.specs.Placing.{IsPlaceOf}
use Rattle.segment_array.proofs.Places.{ascend_lower, dropped_at, with_member}
use Rattle.word_rule.specs.Places.{segments}
use Rattle.word_rule.specs.Copies.{ListsMembers, StandFrom, count_in}
use Rattle.word_rule.specs.Callers.{IsMemberOf}
use Rattle.word_rule.specs.Steps.{MayPublish}
use Rattle.word_rule.specs.declared.log.LoaderHolding.{LoaderHolding}
use Rattle.word_rule.specs.declared.log.Terms.{Terms}
use Rattle.reg_model.specs.declared.answer.Update.TheVariants as update
use Rattle.node_store.specs.Entries.{with_entry_at, without_entry_at}
use Rattle.node_store.proofs.LeafWords.{cut_length, put_length}
use Rattle.word_rule.proofs.Listings.{contains_find}
use Rattle.array_publish.proofs.Lookups.{begins_above}
use Rattle.array_publish.specs.Holders.{member_in}
use Rattle.array_publish.specs.Writing.{IsWritten, wanted}
use Rattle.array_publish.specs.declared.writing.ListChange.TheVariants.{Put, Take}

-- ---- members by their index

get_front : (xs ys : List Member) (i : ℕ) (d : Member) → i < length xs → get_or (xs ++ ys) i d ≡ get_or xs i d
get_front [] ys i d h = absurd (omega (arith, h))
get_front (x ∷ xs) ys zero d h = refl
get_front (x ∷ xs) ys (suc i) d h = get_front xs ys i d (omega (arith, h))

get_behind : (xs ys : List Member) (i : ℕ) (d : Member) → get_or (xs ++ ys) (length xs + i) d ≡ get_or ys i d
get_behind [] ys i d = let e : zero + i ≡ i = omega arith in ap (λ j. get_or ys j d) e
get_behind (x ∷ xs) ys i d = (let e : length (x ∷ xs) + i ≡ suc (length xs + i) = omega arith in ap (λ j. get_or (x ∷ (xs ++ ys)) j d) e) ∙ get_behind xs ys i d

get_taken : (k i : ℕ) (xs : List Member) (d : Member) → i < k → get_or (take k xs) i d ≡ get_or xs i d
get_taken zero i xs d h = absurd (omega (arith, h))
get_taken (suc k) i [] d h = refl
get_taken (suc k) zero (x ∷ xs) d h = refl
get_taken (suc k) (suc i) (x ∷ xs) d h = get_taken k i xs d (omega (arith, h))

-- what the words say of a member is that member
pub stands_at : (words : List ℕ) (j i : ℕ) (xs : List Member) (d : Member) → StandFrom words j xs → i < length xs → member_in words (j + i) ≡ get_or xs i d
stands_at words j i [] d h less = absurd (omega (arith, less))
stands_at words j zero (x ∷ xs) d h less =
    let e : j + zero ≡ j = omega arith in ap (member_in words) e ∙ (λ k. record { span = record { first = h.0 k; last = h.1 k }; payload = h.2 k })
stands_at words j (suc i) (x ∷ xs) d h less =
    let e : j + suc i ≡ j + 1 + i = omega arith in ap (member_in words) e ∙ stands_at words (j + 1) i xs d h.3 (omega (arith, less))

-- and words that say so of each member list them
pub stand_each : (words : List ℕ) (j : ℕ) (xs : List Member) (d : Member) → ((i : ℕ) → i < length xs → member_in words (j + i) ≡ get_or xs i d) → StandFrom words j xs
stand_each words j [] d h = tt
stand_each words j (x ∷ xs) d h =
    let e : j + 0 ≡ j = omega arith in
    let here : member_in words j ≡ x = ap (member_in words) (sym e) ∙ h 0 (omega arith) in
    (ap (λ m. m.span.first) here, ap (λ m. m.span.last) here, ap (λ m. m.payload) here, stand_each words (j + 1) xs d (λ i less. (let f : j + 1 + i ≡ j + suc i = omega arith in ap (member_in words) f) ∙ h (suc i) (omega (arith, less))))

-- ---- one member more

pub put_member : (words : List ℕ) (xs : List Member) (k i : ℕ) (m : Member) → StandFrom words 0 xs → k ≤ length xs → i < length xs + 1 → wanted (Put k m) words i ≡ get_or (with_entry_at k m xs) i m
put_member words xs k i m h le less = go (dec_le k i) (ℕ_discrete i k)
  where
    len : length (take k xs) ≡ k
    len = let b = length-take k xs in omega (arith, b, le)

    at : (j : ℕ) → j < length xs → member_in words j ≡ get_or xs j m
    at j inside = (let e : j ≡ 0 + j = omega arith in ap (member_in words) e) ∙ stands_at words 0 j xs m h inside

    go : Dec (k ≤ i) → Dec (i ≡ k) → wanted (Put k m) words i ≡ get_or (with_entry_at k m xs) i m
    go (no high) same =
        let less_k = lt_of_not-le high in
        let l = len in
        rw (lt-ltb i k less_k) (at i (omega (arith, less_k, le)) ∙ sym (get_front (take k xs) (m ∷ drop k xs) i m (omega (arith, l, less_k)) ∙ get_taken k i xs m less_k))
    go (yes low) (yes e) =
        let l = len in let place : i ≡ length (take k xs) + 0 = omega (arith, e, l) in
        rw (le-ltb i k low, eq-eqb i k e) (sym (ap (λ j. get_or (with_entry_at k m xs) j m) place ∙ get_behind (take k xs) (m ∷ drop k xs) 0 m))
    go (yes low) (no ne) =
        let l = len in let place : i ≡ length (take k xs) + suc (i - 1 - k) = omega (arith, ne, low, l) in let back : k + (i - 1 - k) ≡ i - 1 = omega (arith, ne, low) in
        rw (le-ltb i k low, ne_eqb i k ne) (at (i - 1) (omega (arith, less, ne, low)) ∙ sym (ap (λ j. get_or (with_entry_at k m xs) j m) place ∙ (get_behind (take k xs) (m ∷ drop k xs) (suc (i - 1 - k)) m ∙ (dropped_at k (i - 1 - k) xs m ∙ ap (λ j. get_or xs j m) back))))

-- ---- where a span fits among members that ascend

pub all_below : (low k a : ℕ) (xs : List Member) (d : Member) → AscendFrom low xs → k ≤ length xs → (k ≡ 0) ⊎ ((get_or xs (k - 1) d).span.last < a) → AllByRecursion (λ x. (x.span.first ≤ x.span.last) × (x.span.last < a)) (take k xs)
all_below low zero a xs d h le end = tt
all_below low (suc k) a [] d h le end = absurd (omega (arith, le))
all_below low (suc zero) a (x ∷ xs) d h le end = ((h.1, ⊎_elim (λ (e : 1 ≡ 0). absurd (omega (arith, e))) (λ (l : x.span.last < a). l) end), tt)
all_below low (suc (suc k)) a (x ∷ []) d h le end = absurd (omega (arith, le))
all_below low (suc (suc k)) a (x ∷ y ∷ xs) d h le end =
    let same : suc (suc k) - 1 ≡ suc (suc k - 1) = omega arith in
    let rest = all_below (x.span.last + 1) (suc k) a (y ∷ xs) d h.2 (omega (arith, le)) (⊎_elim (λ (e : suc (suc k) ≡ 0). absurd (omega (arith, e))) (λ (l : (get_or (x ∷ y ∷ xs) (suc (suc k) - 1) d).span.last < a). inr (subst (λ n. (get_or (x ∷ y ∷ xs) n d).span.last < a) same l)) end) in
    let first = h.2.0 in let ordered = h.2.1 in let l = rest.0.1 in ((h.1, omega (arith, first, ordered, l)), rest)

pub all_from : (low b : ℕ) (xs : List Member) → AscendFrom low xs → b < low → AllByRecursion (λ x. b < x.span.first) xs
all_from low b [] h less = tt
all_from low b (x ∷ xs) h less = let a = h.0 in let o = h.1 in (omega (arith, a, less), all_from (x.span.last + 1) b xs h.2 (omega (arith, a, o, less)))

pub all_above : (low k b : ℕ) (xs : List Member) (d : Member) → AscendFrom low xs → (k ≡ length xs) ⊎ (b < (get_or xs k d).span.first) → AllByRecursion (λ x. b < x.span.first) (drop k xs)
all_above low zero b [] d h begin = tt
all_above low zero b (x ∷ xs) d h begin = ⊎_elim (λ (e : 0 ≡ length (x ∷ xs)). absurd (omega (arith, e))) (λ (l : b < x.span.first). let o = h.1 in (l, all_from (x.span.last + 1) b xs h.2 (omega (arith, l, o)))) begin
all_above low (suc k) b [] d h begin = tt
all_above low (suc k) b (x ∷ xs) d h begin = all_above (x.span.last + 1) k b xs d h.2 (⊎_elim (λ (e : suc k ≡ length (x ∷ xs)). inl (omega (arith, e))) (λ (l : b < (get_or xs k d).span.first). inr l) begin)

pub by_index : (P : Member → Type 0) (xs : List Member) → AllByRecursion P xs → All P xs
by_index P [] h k d l = absurd (omega (arith, l))
by_index P (x ∷ xs) h zero d l = h.0
by_index P (x ∷ xs) h (suc k) d l = by_index P xs h.1 k d (omega (arith, l))

pub all_to : (P Q : Member → Type 0) → ((x : Member) → P x → Q x) → (xs : List Member) → AllByRecursion P xs → AllByRecursion Q xs
all_to P Q f [] h = tt
all_to P Q f (x ∷ xs) h = (f x h.0, all_to P Q f xs h.1)

above_some : (k b : ℕ) (xs : List Member) (d : Member) → (k ≡ length xs) ⊎ (b < (get_or xs k d).span.first) → IfSome (slice_get xs k) (λ x. b < x.span.first)
above_some zero b [] d h = tt
above_some zero b (x ∷ xs) d h = ⊎_elim (λ (e : 0 ≡ length (x ∷ xs)). absurd (omega (arith, e))) (λ (l : b < x.span.first). l) h
above_some (suc k) b [] d h = tt
above_some (suc k) b (x ∷ xs) d h = above_some k b xs d (⊎_elim (λ (e : suc k ≡ length (x ∷ xs)). inl (omega (arith, e))) (λ (l : b < (get_or xs k d).span.first). inr l) h)

-- a span between two members, or at an end, overlaps none, and has its place there
pub fits_at : (xs : List Member) (k : ℕ) (m d : Member) → AscendFrom 0 xs → m.span.first ≤ m.span.last → k ≤ length xs → (k ≡ 0) ⊎ ((get_or xs (k - 1) d).span.last < m.span.first) → (k ≡ length xs) ⊎ (m.span.last < (get_or xs k d).span.first) → IsFree m.span xs × IsPlaceOf m.span.first xs k
fits_at xs k m d h span le end begin =
    let front = all_below 0 k m.span.first xs d h le end in
    let back = all_above 0 k m.span.last xs d h begin in
    let apart_front = all_to (λ x. (x.span.first ≤ x.span.last) × (x.span.last < m.span.first)) (λ x. ¬ Overlaps x.span m.span) (λ x l over. let b = overlap_bounds x.span m.span over in let c = b.1 in let e = l.1 in omega (arith, c, e)) (take k xs) front in
    let apart_back = all_to (λ x. m.span.last < x.span.first) (λ x. ¬ Overlaps x.span m.span) (λ x l over. let b = overlap_bounds x.span m.span over in let c = b.0 in omega (arith, c, l)) (drop k xs) back in (
      subst (IsFree m.span) (take-append-drop k xs) (All-append (λ x. ¬ Overlaps x.span m.span) (take k xs) (drop k xs) (by_index (λ x. ¬ Overlaps x.span m.span) (take k xs) apart_front) (by_index (λ x. ¬ Overlaps x.span m.span) (drop k xs) apart_back)),
      record {
        inside = le;
        below = by_index (λ x. x.span.first ≤ m.span.first) (take k xs) (all_to (λ x. (x.span.first ≤ x.span.last) × (x.span.last < m.span.first)) (λ x. x.span.first ≤ m.span.first) (λ x l. let a = l.0 in let b = l.1 in omega (arith, a, b)) (take k xs) front);
        above = above_some k m.span.first xs d (⊎_elim (λ (e : k ≡ length xs). inl e) (λ (l : m.span.last < (get_or xs k d).span.first). inr (omega (arith, l, span))) begin);
      },
    )

-- the words that were written list the members with this one
pub lists_put : (k n : ℕ) (m : Member) (xs : List Member) (active spare : List ℕ) → ListsMembers active xs → n ≡ length xs → k ≤ n → AscendFrom 0 (with_entry_at k m xs) → IsWritten (Put k m) active (n + 1) spare → ListsMembers spare (with_entry_at k m xs)
lists_put k n m xs active spare lists len le ascending written =
    let count : n + 1 ≡ length (with_entry_at k m xs) = (let a = put_length k m xs (omega (arith, len, le)) in omega (arith, a, len)) in record {
      head = written.head ∙ ap segments count;
      count = written.number ∙ count;
      previous = λ s less. (written.headers s (omega (arith, less, count))).0;
      counts = λ s less. (written.headers s (omega (arith, less, count))).1 ∙ ap (λ c. count_in c s) count;
      ascending = ascending;
      stand = stand_each spare 0 (with_entry_at k m xs) m (λ i less. (let e : 0 + i ≡ i = omega arith in ap (member_in spare) e) ∙ (written.members i (omega (arith, less, count)) ∙ put_member active xs k i m lists.stand (omega (arith, len, le)) (omega (arith, less, count, len))));
    }

-- so a load may be published
pub may_load : (t : Terms) (allowance k n : ℕ) (m d : Member) (xs : List Member) (h : LoaderHolding) → 0 < allowance → IsMemberOf t m → ListsMembers h.active xs → n ≡ length xs → n < t.loads → k ≤ n → IsFree m.span t.fixed → (k ≡ 0) ⊎ ((get_or xs (k - 1) d).span.last < m.span.first) → (k ≡ length xs) ⊎ (m.span.last < (get_or xs k d).span.first)
    → IsWritten (Put k m) h.active (n + 1) h.spare → MayPublish t allowance (update.Load m) h
may_load t allowance k n m d xs h due member lists len room le fixed end begin written =
    let fit = fits_at xs k m d lists.ascending member.0.ordered (omega (arith, le, len)) end begin in
    let w = with_member xs m k lists.ascending member.0.ordered fit.0 fit.1 in record {
      before = xs;
      after = with_entry_at k m xs;
      due = due;
      member = member;
      active = lists;
      spare = lists_put k n m xs h.active h.spare lists len le w.ascending written;
      publishes = (All-append (λ x. ¬ Overlaps x.span m.span) t.fixed xs fixed fit.0, omega (arith, room, len), w.kept);
    }

-- ---- one member less

pub cut_member : (words : List ℕ) (xs : List Member) (k i : ℕ) (d : Member) → StandFrom words 0 xs → k < length xs → i + 1 < length xs → wanted (Take k) words i ≡ get_or (without_entry_at k xs) i d
cut_member words xs k i d h inside less = go (dec_le k i)
  where
    len : length (take k xs) ≡ k
    len = let b = length-take k xs in omega (arith, b, inside)

    at : (j : ℕ) → j < length xs → member_in words j ≡ get_or xs j d
    at j within = (let e : j ≡ 0 + j = omega arith in ap (member_in words) e) ∙ stands_at words 0 j xs d h within

    go : Dec (k ≤ i) → wanted (Take k) words i ≡ get_or (without_entry_at k xs) i d
    go (no high) =
        let less_k = lt_of_not-le high in
        let l = len in
        rw (lt-ltb i k less_k) (at i (omega (arith, less)) ∙ sym (get_front (take k xs) (drop (suc k) xs) i d (omega (arith, l, less_k)) ∙ get_taken k i xs d less_k))
    go (yes low) =
        let l = len in let place : i ≡ length (take k xs) + (i - k) = omega (arith, low, l) in let back : suc k + (i - k) ≡ i + 1 = omega (arith, low) in
        rw (le-ltb i k low) (at (i + 1) less ∙ sym (ap (λ j. get_or (without_entry_at k xs) j d) place ∙ (get_behind (take k xs) (drop (suc k) xs) (i - k) d ∙ (dropped_at (suc k) (i - k) xs d ∙ ap (λ j. get_or xs j d) back))))

pub cut_ascends : (low k : ℕ) (xs : List Member) → AscendFrom low xs → AscendFrom low (without_entry_at k xs)
cut_ascends low zero [] h = tt
cut_ascends low zero (x ∷ xs) h = let a = h.0 in let b = h.1 in ascend_lower low (x.span.last + 1) xs (omega (arith, a, b)) h.2
cut_ascends low (suc k) [] h = tt
cut_ascends low (suc k) (x ∷ xs) h = (h.0, h.1, cut_ascends (x.span.last + 1) k xs h.2)

pub cut_contains : (low k : ℕ) (xs : List Member) (d x : Member) → AscendFrom low xs → k < length xs → Contains (without_entry_at k xs) x ↔ (Contains xs x × (x.span.first ≢ (get_or xs k d).span.first))
cut_contains low k [] d x h inside = absurd (omega (arith, inside))
cut_contains low zero (y ∷ xs) d x h inside = (
  (λ c. let from = begins_above (y.span.last + 1) xs x h.2 c in let o = h.1 in ((suc c.0, (let l = c.1 in omega (arith, l)), c.2), (λ e. omega (arith, e, from, o)))),
  (λ c. kept c.0 c.1),
)
  where
    kept : Contains (y ∷ xs) x → x.span.first ≢ y.span.first → Contains xs x
    kept (zero, l, e) far = absurd (far (ap (λ (z : Member). z.span.first) (sym e)))
    kept (suc j, l, e) far = (j, omega (arith, l), e)
cut_contains low (suc k) (y ∷ xs) d x h inside = let rest = cut_contains (y.span.last + 1) k xs d x h.2 (omega (arith, inside)) in (to rest, (λ c. from rest c.1 c.0))
  where
    above : y.span.first < (get_or xs k d).span.first
    above = let b = begins_above (y.span.last + 1) xs (get_or xs k d) h.2 (Contains-get_or xs k d (omega (arith, inside))) in let o = h.1 in omega (arith, b, o)

    to : (Contains (without_entry_at k xs) x ↔ (Contains xs x × (x.span.first ≢ (get_or xs k d).span.first))) → Contains (y ∷ without_entry_at k xs) x → Contains (y ∷ xs) x × (x.span.first ≢ (get_or xs k d).span.first)
    to rest (zero, l, e) = ((0, omega arith, e), (λ same. let f = ap (λ (z : Member). z.span.first) e in let a = above in omega (arith, same, f, a)))
    to rest (suc j, l, e) = let r = rest.0 (j, omega (arith, l), e) in ((suc r.0.0, (let s = r.0.1 in omega (arith, s)), r.0.2), r.1)

    from : (Contains (without_entry_at k xs) x ↔ (Contains xs x × (x.span.first ≢ (get_or xs k d).span.first))) → x.span.first ≢ (get_or xs k d).span.first → Contains (y ∷ xs) x → Contains (y ∷ without_entry_at k xs) x
    from rest far (zero, l, e) = (0, omega arith, e)
    from rest far (suc j, l, e) = let r = rest.1 ((j, omega (arith, l), e), far) in (suc r.0, (let s = r.1 in omega (arith, s)), r.2)

pub lists_cut : (k n : ℕ) (d : Member) (xs : List Member) (active spare : List ℕ) → ListsMembers active xs → n ≡ length xs → k < n → IsWritten (Take k) active (n - 1) spare → ListsMembers spare (without_entry_at k xs)
lists_cut k n d xs active spare lists len less written =
    let count : n - 1 ≡ length (without_entry_at k xs) = (let a = cut_length k xs (omega (arith, len, less)) in omega (arith, a, len)) in record {
      head = written.head ∙ ap segments count;
      count = written.number ∙ count;
      previous = λ s few. (written.headers s (omega (arith, few, count))).0;
      counts = λ s few. (written.headers s (omega (arith, few, count))).1 ∙ ap (λ c. count_in c s) count;
      ascending = cut_ascends 0 k xs lists.ascending;
      stand = stand_each spare 0 (without_entry_at k xs) d (λ i few. (let e : 0 + i ≡ i = omega arith in ap (member_in spare) e) ∙ (written.members i (omega (arith, few, count)) ∙ cut_member active xs k i d lists.stand (omega (arith, len, less)) (omega (arith, few, count, len, less))));
    }

-- so an unload may be published
pub may_unload : (t : Terms) (allowance k n base : ℕ) (d : Member) (xs : List Member) (h : LoaderHolding) → 0 < allowance → ListsMembers h.active xs → n ≡ length xs → k < n → (get_or xs k d).span.first ≡ base → IsWritten (Take k) h.active (n - 1) h.spare → MayPublish t allowance (update.Unload base) h
may_unload t allowance k n base d xs h due lists len less is written = record {
  before = xs;
  after = without_entry_at k xs;
  due = due;
  member = tt;
  active = lists;
  spare = lists_cut k n d xs h.active h.spare lists len less written;
  publishes = (
    contains_find (λ (m : Member). m.span.first == base) xs (get_or xs k d) (Contains-get_or xs k d (omega (arith, len, less))) (eq-eqb (get_or xs k d).span.first base is),
    λ x. subst (λ b. Contains (without_entry_at k xs) x ↔ (Contains xs x × (x.span.first ≢ b))) is (cut_contains 0 k xs d x lists.ascending (omega (arith, len, less))),
  );
}
