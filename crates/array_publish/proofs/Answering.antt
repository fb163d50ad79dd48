-- How an update is answered under the lock: refused, or published.
use Rattle.std.proofs.Common.{◌≡◌, ℕ, zero, suc, ◌+◌, ◌-◌, ◌<◌, ◌≤◌, ◌⊎◌, ◌↔◌, inl, inr, ⊎_elim, List, [], ◌∷◌, ◌++◌, length, length-append, get_or, Contains, sym, refl, ap, ◌∙◌, subst, arith, Bool, true, false, true≢false, Option, Some, None, IfSome, is_some, IsSome, IsSomeAnd, IsTrue, option_map, append_assoc, add_assoc}
use Rattle.std.proofs.lemmas.Option.{none-some}
use Rattle.std.proofs.lemmas.List.Elements.{All-contains, Contains-get_or, Contains-append_left, Contains-append_right, Contains-append_cases}
use mathlib.Core.List.{IsPrefix}
use Rattle.reg_model.specs.SpanData.{SpanData, Overlaps, contains}
use Rattle.reg_model.specs.State.{State, AreDisjoint, IsFree, IsLowestOverlap, at_base, objects}
use Rattle.reg_model.specs.History.{state_after}
use Rattle.reg_model.specs.Receipt.{IsRight}
use Rattle.reg_model.specs.declared.span.Member.{Member}
use Rattle.reg_model.specs.declared.answer.Loading.TheVariants as loading
use Rattle.reg_model.specs.declared.answer.Removed.TheVariants as removed
use Rattle.segment_array.specs.Ascending.{AscendFrom}
use Rattle.reg_model.specs.declared.answer.Receipt.{Receipt}
use Rattle.reg_model.specs.declared.answer.Receipt.TheVariants as receipt
use Rattle.reg_model.specs.declared.answer.Update.{Update}
use Rattle.reg_model.specs.declared.answer.Update.TheVariants as update
use Rattle.reg_model.proofs.Spans.{contains_from, contains_bounds}
use Rattle.word_rule.specs.declared.log.Ask.TheVariants as ask
use Rattle.word_rule.specs.declared.log.LoadEvent.{LoadEvent}
use Rattle.word_rule.specs.declared.log.LoaderHolding.{LoaderHolding}
use Rattle.word_rule.specs.declared.log.Terms.{Terms}
use Rattle.word_rule.specs.CallerData.{CallerData, WordsData}
use Rattle.word_rule.specs.Callers.{IsMemberOf, start}
use Rattle.word_rule.specs.Clock.{AfterClock}
use Rattle.word_rule.specs.Copies.{ListsAll, ListsMembers}
use Rattle.word_rule.specs.Logs.{load_of}
use Rattle.word_rule.specs.Places.{copy_words, lower}
use Rattle.word_rule.specs.Steps.{IsRefusalOf, MayRefuse, Refuses, AfterPublish, MayPublish, after_publish, exchange_copies}
use Rattle.word_rule.proofs.Listings.{ascending_disjoint, free_of, lists_same, state_fixed, there_at}
use Rattle.array_publish.specs.Holders.{Spells, active_words, after_work, spare_words, with_spare}
use Rattle.array_publish.specs.Update.{AnswersLoad, AnswersUnload, AnswersWith, IsClean, IsRightUnload, IsRightLoad, KnowsCopy, Works, after_seeing}
use Rattle.array_publish.specs.declared.active.ActiveCopy.{ActiveCopy}
use Rattle.array_publish.specs.Holders.{member_in}
use Rattle.array_publish.specs.Writing.{EndsBelow, IsWritten}
use Rattle.array_publish.specs.declared.writing.ListChange.TheVariants.{Put}
use Rattle.array_publish.proofs.Changed.{may_load}
use Rattle.word_rule.proofs.Joins.{prefix_both}
use Rattle.array_publish.proofs.Overlaps.{ends_listed, free_split, listed_is}
use Rattle.array_publish.proofs.Works.{Holds, spells_active}
use Rattle.word_rule.proofs.Each.{all_with, some_of, some_with}
use Rattle.word_rule.proofs.TreeRefusals.{not_free, one_lowest, ordered_in}
use Rattle.word_rule.specs.Sights.{after_clock}
use native.Mathlib.Decide.{ℕ_discrete}

-- ---- the receipt of a refusal

abbrev is_load : Update → Bool
is_load (update.Load m) = true
is_load _ = false

abbrev loaded_by : Member → Update → Member
loaded_by d (update.Load m) = m
loaded_by d _ = d

-- disjoint members that overlap are one
disjoint_one : (xs : List Member) (a b : Member) → AreDisjoint xs → Contains xs a → Contains xs b → Overlaps a.span b.span → a ≡ b
disjoint_one [] a b h (k, l, e) there over = absurd (omega (arith, l))
disjoint_one (x ∷ xs) a b h (zero, l, e) (zero, m, f) over = sym e ∙ f
disjoint_one (x ∷ xs) a b h (zero, l, e) (suc j, m, f) over = absurd (All-contains (λ z. ¬ Overlaps z.span x.span) xs b h.0 (j, omega (arith, m), f) (over.0, (over.1.1, subst (λ (z : Member). IsTrue (contains z.span over.0)) (sym e) over.1.0)))
disjoint_one (x ∷ xs) a b h (suc k, l, e) (zero, m, f) over = absurd (All-contains (λ z. ¬ Overlaps z.span x.span) xs a h.0 (k, omega (arith, l), e) (over.0, (over.1.0, subst (λ (z : Member). IsTrue (contains z.span over.0)) (sym f) over.1.1)))
disjoint_one (x ∷ xs) a b h (suc k, l, e) (suc j, m, f) over = disjoint_one xs a b h.1 (k, omega (arith, l), e) (j, omega (arith, m), f) over

ordered_of : (a b : SpanData) → Overlaps a b → a.first ≤ a.last
ordered_of a b over = let c = contains_bounds a over.0 over.1.0 in let x = c.0 in let y = c.1 in omega (arith, x, y)

overlap_told : (m other : Member) (s : State) (stamp : ℕ) (r : Receipt) → AreDisjoint (objects s) → IsLowestOverlap m.span (objects s) other → IsRefusalOf (update.Load m) s stamp r → r ≡ receipt.Load m (loading.Overlap other stamp)
overlap_told m other s stamp (receipt.Register n a) h low r = absurd (true≢false (ap is_load r.0))
overlap_told m other s stamp (receipt.Deregister b a) h low r = absurd (true≢false (ap is_load r.0))
overlap_told m other s stamp (receipt.Replace n a) h low r = absurd (true≢false (ap is_load r.0))
overlap_told m other s stamp (receipt.Unload b a) h low r = absurd (true≢false (ap is_load r.0))
overlap_told m other s stamp (receipt.Query w pc f) h low r = absurd r.0
overlap_told m other s stamp (receipt.Load n (loading.Done k)) h low r = absurd (none-some _ (sym r.1))
overlap_told m other s stamp (receipt.Load n loading.Spent) h low r = absurd r.3
overlap_told m other s stamp (receipt.Load n (loading.LoadFull k)) h low r =
    let same : m ≡ n = ap (loaded_by m) r.0 in absurd (not_free m.span (objects s) other low (subst (λ (z : Member). IsFree z.span (objects s)) (sym same) r.3.0))
overlap_told m other s stamp (receipt.Load n (loading.Overlap o k)) h low r =
    let same : m ≡ n = ap (loaded_by m) r.0 in
    let one : other ≡ o = one_lowest m.span (objects s) other o h low (subst (λ (z : Member). IsLowestOverlap z.span (objects s) o) (sym same) r.3) in
    (λ i. receipt.Load (sym same i) (loading.Overlap (sym one i) (r.2 i)))

full_told : (m : Member) (s : State) (stamp : ℕ) (r : Receipt) → IsFree m.span (objects s) → IsRefusalOf (update.Load m) s stamp r → r ≡ receipt.Load m (loading.LoadFull stamp)
full_told m s stamp (receipt.Register n a) free r = absurd (true≢false (ap is_load r.0))
full_told m s stamp (receipt.Deregister b a) free r = absurd (true≢false (ap is_load r.0))
full_told m s stamp (receipt.Replace n a) free r = absurd (true≢false (ap is_load r.0))
full_told m s stamp (receipt.Unload b a) free r = absurd (true≢false (ap is_load r.0))
full_told m s stamp (receipt.Query w pc f) free r = absurd r.0
full_told m s stamp (receipt.Load n (loading.Done k)) free r = absurd (none-some _ (sym r.1))
full_told m s stamp (receipt.Load n loading.Spent) free r = absurd r.3
full_told m s stamp (receipt.Load n (loading.Overlap o k)) free r =
    let same : m ≡ n = ap (loaded_by m) r.0 in absurd (not_free m.span (objects s) o (subst (λ (z : Member). IsLowestOverlap z.span (objects s) o) (sym same) r.3) free)
full_told m s stamp (receipt.Load n (loading.LoadFull k)) free r =
    let same : m ≡ n = ap (loaded_by m) r.0 in (λ i. receipt.Load (sym same i) (loading.LoadFull (r.2 i)))

-- ---- work under the lock

pub works_then : (spare : List ℕ) (a b d : CallerData) → Works a b → Spells spare b d → Works a d
works_then spare a b d p q = (
  p.0,
  p.1 ++ q.0,
  p.2 + q.1,
  q.2,
  spare,
  q.3,
  (
    p.6.0,
    q.4 ∙ (ap (λ (k : CallerData). record k { log = after_work q.0 q.1 q.2 spare q.3 k.log }) p.6.1
        ∙ (λ i. record a { log = record a.log { past = p.0; trace = record a.log.trace { loads = append_assoc a.log.trace.loads p.1 q.0 i; writes = add_assoc a.log.trace.writes p.2 q.1 i }; sights = q.2; loader = twice a.log.loader i } })),
  ),
)
  where
    twice : (o : Option LoaderHolding) → option_map (with_spare spare q.3) (option_map (with_spare p.4 p.5) o) ≡ option_map (with_spare spare q.3) o
    twice None = refl
    twice (Some h) = refl

-- the holder may ask for a refusal by what it knows
refuses_held : (w : WordsData) (c : ℕ) (u : Update) (xs : List Member) (o : Option LoaderHolding) → IsSomeAnd o (Holds w.terms c) → ListsMembers (active_words o) xs → Refuses w.terms u xs → IsSomeAnd o (MayRefuse w.terms u)
refuses_held w c u xs None e l r = absurd e
refuses_held w c u xs (Some g) e l r = (xs, (l, r))

pub may_refuse : (w : WordsData) (a : ActiveCopy) (k : CallerData) (u : Update) (h : KnowsCopy w a k) → Refuses w.terms u h.listing.members → IsSomeAnd k.log.loader (MayRefuse w.terms u)
may_refuse w a k u h r = refuses_held w a.starts.copy u h.listing.members k.log.loader h.holder.holds h.listing.lists r

-- what the active copy lists is free of a span that ends before its place
pub begin_listed : (active : List ℕ) (xs : List Member) (n k a : ℕ) (d : Member) → ListsMembers active xs → n ≡ length xs → k ≤ n → (k ≡ n) ⊎ (a < (member_in active k).span.first) → (k ≡ length xs) ⊎ (a < (get_or xs k d).span.first)
begin_listed active xs n k a d lists len le begin = go (ℕ_discrete k n)
  where
    go : Dec (k ≡ n) → (k ≡ length xs) ⊎ (a < (get_or xs k d).span.first)
    go (yes e) = inl (e ∙ len)
    go (no ne) = ⊎_elim (λ (e : k ≡ n). absurd (ne e)) (λ (l : a < (member_in active k).span.first). inr (subst (λ (m : Member). a < m.span.first) (listed_is active xs k d lists.stand (omega (arith, le, ne, len))) l)) begin

pub free_listed : (active : List ℕ) (xs : List Member) (n k : ℕ) (span : SpanData) (d : Member) → ListsMembers active xs → n ≡ length xs → k ≤ n → EndsBelow active span.first k → (k ≡ n) ⊎ (span.last < (member_in active k).span.first) → IsFree span xs
free_listed active xs n k span d lists len le below begin =
    free_split xs k span d lists.ascending (omega (arith, le, len)) (ends_listed active xs span.first k d lists.stand (omega (arith, le, len)) below) (begin_listed active xs n k span.last d lists len le begin)

-- what is said of the fixed members and of those listed is said of the state's
there : (s : State) (fixed xs : List Member) → s.fixed ≡ fixed → ((x : Member) → Contains xs x ↔ Contains s.loaded x) → (x : Member) → Contains (fixed ++ xs) x → Contains (objects s) x
there s fixed xs is same x c = ⊎_elim (λ (e : Contains fixed x). Contains-append_left s.fixed s.loaded x (subst (λ ys. Contains ys x) (sym is) e)) (λ (e : Contains xs x). Contains-append_right s.fixed s.loaded x ((same x).0 e)) (Contains-append_cases fixed xs x c)

back : (s : State) (fixed xs : List Member) → s.fixed ≡ fixed → ((x : Member) → Contains xs x ↔ Contains s.loaded x) → (x : Member) → Contains (objects s) x → Contains (fixed ++ xs) x
back s fixed xs is same x c = ⊎_elim (λ (e : Contains s.fixed x). Contains-append_left fixed xs x (subst (λ ys. Contains ys x) is e)) (λ (e : Contains s.loaded x). Contains-append_right fixed xs x ((same x).1 e)) (Contains-append_cases s.fixed s.loaded x c)

lowest_objects : (s : State) (fixed xs : List Member) (span : SpanData) (m : Member) → s.fixed ≡ fixed → ((x : Member) → Contains xs x ↔ Contains s.loaded x) → IsLowestOverlap span (fixed ++ xs) m → IsLowestOverlap span (objects s) m
lowest_objects s fixed xs span m is same h = record {
  listed = there s fixed xs is same m h.listed;
  overlaps = h.overlaps;
  lowest = λ k d l. All-contains (λ z. Overlaps z.span span → m.span.first ≤ z.span.first) (fixed ++ xs) (get_or (objects s) k d) h.lowest (back s fixed xs is same (get_or (objects s) k d) (Contains-get_or (objects s) k d l));
}

lists_of : (t : Terms) (loaded : List Member) (o : Option LoaderHolding) → IsSome o → (published : ℕ) → IfSome o (λ h. (published ≡ h.published) × ListsAll h.active loaded) → ListsAll (active_words o) loaded
lists_of t loaded None some_lock p h = absurd (true≢false (sym some_lock))
lists_of t loaded (Some g) some_lock p h = h.1

abbrev is_unload : Update → Bool
is_unload (update.Unload base) = true
is_unload _ = false

abbrev base_of : Update → ℕ
base_of (update.Unload base) = base
base_of _ = 0

not_found_told : (base : ℕ) (s : State) (stamp : ℕ) (r : Receipt) → IsRefusalOf (update.Unload base) s stamp r → r ≡ receipt.Unload base (removed.NotFound stamp)
not_found_told base s stamp (receipt.Register n a) r = absurd (true≢false (ap is_unload r.0))
not_found_told base s stamp (receipt.Deregister b a) r = absurd (true≢false (ap is_unload r.0))
not_found_told base s stamp (receipt.Replace n a) r = absurd (true≢false (ap is_unload r.0))
not_found_told base s stamp (receipt.Load n a) r = absurd (true≢false (ap is_unload r.0))
not_found_told base s stamp (receipt.Query w pc f) r = absurd r.0
not_found_told base s stamp (receipt.Unload b (removed.Done k m)) r = absurd (none-some _ (sym r.1))
not_found_told base s stamp (receipt.Unload b removed.Spent) r = absurd r.3
not_found_told base s stamp (receipt.Unload b (removed.NotFound k)) r = let same : base ≡ b = ap base_of r.0 in (λ i. receipt.Unload (sym same i) (removed.NotFound (r.2 i)))

active_lists : {loaded : List Member} → (o : Option LoaderHolding) → IsSome o → IfSome o (λ h. ListsAll h.active loaded) → ListsAll (active_words o) loaded
active_lists None some_lock h = absurd (true≢false (sym some_lock))
active_lists (Some g) some_lock h = h

-- a refusal, at a load of the clock
module _ (t : Terms) (k0 k3 k4 : CallerData) (found : ℕ) (u : Update) (works : Works k0 k3) (held : IsClean k3) (after : AfterClock t (ask.Refused u) found k3.log k4.log) (rest : k4 ≡ record k3 { log = k4.log }) where
  abbrev now : State
  now = state_after (start t) after.0

  lock : (h : LoaderHolding) × ((k3.log.loader ≡ Some h) × (h.stored ≡ false))
  lock = some_with k3.log.loader (λ (h : LoaderHolding). h.stored ≡ false) held

  some_lock : IsSome k3.log.loader
  some_lock = ap is_some lock.1.0

  told : IsRefusalOf u (state_after (start t) after.0) (lower found) after.2.1.0
  told = subst (λ z. IsRefusalOf u (state_after (start z) after.0) (lower found) after.2.1.0) after.2.0.terms after.2.1.1.1

  begins : IsPrefix k0.log.past after.0
  begins = prefix_both k0.log.past works.0 after.0 works.6.0 (subst (λ (k : CallerData). IsPrefix k.log.past after.0) works.6.1 after.2.0.begins)

  listed : ListsAll (active_words k3.log.loader) (state_after (start t) after.0).loaded
  listed = lists_of t (state_after (start t) after.0).loaded k3.log.loader some_lock _ after.2.0.holder

  abbrev worked : CallerData
  worked = record k0 { log = after_seeing works.0 works.1 works.2 works.3 works.4 works.5 k0.log }

  abbrev event : LoadEvent
  event = load_of worked.log 0 found

  answered : (right : List Update → Type 0) (r : Receipt) → right after.0 → after.2.1.0 ≡ r → AnswersWith right r false k0 k4
  answered right r ok is =
      let receipts : after.1 ≡ r ∷ [] = after.2.1.1.0 ∙ ap (λ x. x ∷ []) is in
      let loader : option_map (with_spare works.4 works.5) k0.log.loader ≡ Some lock.0 = sym (ap (λ (k : CallerData). k.log.loader) works.6.1) ∙ lock.1.0 in
      let kept : k0.log.budget.allowance ≡ k0.log.budget.allowance - 0 = omega arith in (
        after.0,
        works.1 ++ event ∷ [],
        works.2,
        (after_clock found after.0 [] worked.log).sights,
        lock.0,
        (
          ok,
          rest ∙ ((λ i. record k3 { log = after.2.2 i }) ∙ (ap (λ (k : CallerData). record k { log = after_clock found after.0 after.1 k.log }) works.6.1
              ∙ (λ i. record k0 {
                log = record k0.log {
                  past = after.0;
                  budget = record k0.log.budget { allowance = kept i };
                  receipts = record k0.log.receipts { own = k0.log.receipts.own ++ receipts i };
                  trace = record k0.log.trace { loads = append_assoc k0.log.trace.loads works.1 (event ∷ []) i; writes = k0.log.trace.writes + works.2 };
                  sights = (after_clock found after.0 [] worked.log).sights;
                  loader = loader i;
                };
              }))),
          lock.1.1,
        ),
      )

module _ (t : Terms) (k0 k3 k4 : CallerData) (found : ℕ) (m : Member) (works : Works k0 k3) (held : IsClean k3) (after : AfterClock t (ask.Refused (update.Load m)) found k3.log k4.log) (rest : k4 ≡ record k3 { log = k4.log }) where
  abbrev here : State
  here = state_after (start t) after.0

  mine : ListsAll (active_words k3.log.loader) (state_after (start t) after.0).loaded
  mine = listed t k0 k3 k4 found (update.Load m) works held after rest

  pub overlap_so : (other : Member) → ((xs : List Member) → ListsMembers (active_words k3.log.loader) xs → IsLowestOverlap m.span (t.fixed ++ xs) other) → AnswersLoad t m k0 k4 (loading.Overlap other (lower found))
  overlap_so other lowest =
      let low = lowest_objects (state_after (start t) after.0) t.fixed mine.members m.span other (state_fixed (start t) after.0).0 mine.same (lowest mine.members mine.lists) in
      answered t k0 k3 k4 found (update.Load m) works held after rest (λ past. IsRightLoad t m k0.log.past past (loading.Overlap other (lower found))) (receipt.Load m (loading.Overlap other (lower found)))
      (begins t k0 k3 k4 found (update.Load m) works held after rest, after.2.0.updates, low, all_with (IsMemberOf t) (objects (state_after (start t) after.0)) other after.2.0.members low.listed) (overlap_told m other (state_after (start t) after.0) (lower found) after.2.1.0 after.2.0.lawful.objects low (told t k0 k3 k4 found (update.Load m) works held after rest))

  pub full_so : ((xs : List Member) → ListsMembers (active_words k3.log.loader) xs → IsFree m.span (t.fixed ++ xs)) → AnswersLoad t m k0 k4 (loading.LoadFull (lower found))
  full_so free =
      let all = free_of m (t.fixed ++ mine.members) (objects (state_after (start t) after.0)) (back (state_after (start t) after.0) t.fixed mine.members (state_fixed (start t) after.0).0 mine.same) (free mine.members mine.lists) in
      let is_told = told t k0 k3 k4 found (update.Load m) works held after rest in
      let is = full_told m (state_after (start t) after.0) (lower found) after.2.1.0 all is_told in
      let right : IsRight (state_after (start t) after.0) (receipt.Load m (loading.LoadFull (lower found))) = subst (IsRight (state_after (start t) after.0)) is is_told.3 in
      answered t k0 k3 k4 found (update.Load m) works held after rest (λ past. IsRightLoad t m k0.log.past past (loading.LoadFull (lower found))) (receipt.Load m (loading.LoadFull (lower found)))
      (begins t k0 k3 k4 found (update.Load m) works held after rest, after.2.0.updates, all, right.1 ∙ (state_fixed (start t) after.0).1) is

pub not_found_so : (t : Terms) (k0 k3 k4 : CallerData) (found base : ℕ) (works : Works k0 k3) (held : IsClean k3) (after : AfterClock t (ask.Refused (update.Unload base)) found k3.log k4.log) (rest : k4 ≡ record k3 { log = k4.log }) → AnswersUnload t base k0 k4 (removed.NotFound (lower found))
not_found_so t k0 k3 k4 found base works held after rest =
    let is_told = told t k0 k3 k4 found (update.Unload base) works held after rest in
    let is = not_found_told base (state_after (start t) after.0) (lower found) after.2.1.0 is_told in
    let right : IsRight (state_after (start t) after.0) (receipt.Unload base (removed.NotFound (lower found))) = subst (IsRight (state_after (start t) after.0)) is is_told.3 in
    answered t k0 k3 k4 found (update.Unload base) works held after rest (λ past. IsRightUnload t base k0.log.past past (removed.NotFound (lower found))) (receipt.Unload base (removed.NotFound (lower found)))
    (begins t k0 k3 k4 found (update.Unload base) works held after rest, after.2.0.updates, right) is

-- a publication
pub published_with : (u : Update) (k0 k4 k5 : CallerData) (found number : ℕ) (right : List Update → Type 0) (r : Receipt) (works : Works k0 k4) → IsSome k4.log.loader → (after : AfterPublish u found k4.log k5.log) → k5 ≡ record k4 { log = k5.log } → after.1 ≡ r → right (after.0 ++ u ∷ []) → AnswersWith right r true k0 k5
published_with u k0 k4 k5 found number right r works held after rest is ok =
    let lock = some_of k4.log.loader held in
    let loader : option_map (with_spare works.4 works.5) k0.log.loader ≡ Some lock.0 = sym (ap (λ (k : CallerData). k.log.loader) works.6.1) ∙ lock.1 in (
      after.0 ++ u ∷ [],
      works.1,
      works.2 + 1,
      works.3,
      exchange_copies lock.0,
      (
        ok,
        rest ∙ ((λ i. record k4 { log = after.2.2 i }) ∙ (ap (λ (k : CallerData). record k { log = after_publish u after.0 after.1 k.log }) works.6.1
            ∙ (λ i. record k0 {
              log = record k0.log {
                past = after.0 ++ u ∷ [];
                budget = record k0.log.budget { allowance = k0.log.budget.allowance - 1 };
                receipts = record k0.log.receipts { own = k0.log.receipts.own ++ is i ∷ [] };
                trace = record k0.log.trace { loads = k0.log.trace.loads ++ works.1; writes = add_assoc k0.log.trace.writes works.2 1 i };
                sights = works.3;
                loader = option_map exchange_copies (loader i);
              };
            }))),
        refl,
      ),
    )

numbered : (u : Update) (k0 k4 k5 : CallerData) (found number : ℕ) (works : Works k0 k4) (after : AfterPublish u found k4.log k5.log) → number ≡ length k5.log.past → IsPrefix k0.log.past after.0 × (number ≡ length (after.0 ++ u ∷ [])) × (length after.0 + 1 ≡ number)
numbered u k0 k4 k5 found number works after is =
    let past : k5.log.past ≡ after.0 ++ u ∷ [] = ap (λ v. v.past) after.2.2 in
    let len : number ≡ length (after.0 ++ u ∷ []) = is ∙ ap length past in
    let sum = length-append after.0 (u ∷ []) in
    (prefix_both k0.log.past works.0 after.0 works.6.0 (subst (λ (k : CallerData). IsPrefix k.log.past after.0) works.6.1 after.2.0.begins), len, omega (arith, len, sum))

pub published_so : (t : Terms) (k0 k4 k5 : CallerData) (found number : ℕ) (m : Member) → Works k0 k4 → IsSome k4.log.loader → AfterPublish (update.Load m) found k4.log k5.log → k5 ≡ record k4 { log = k5.log } → number ≡ length k5.log.past → AnswersLoad t m k0 k5 (loading.Done number)
published_so t k0 k4 k5 found number m works held after rest is =
    let n = numbered (update.Load m) k0 k4 k5 found number works after is in
    published_with (update.Load m) k0 k4 k5 found number (λ past. IsRightLoad t m k0.log.past past (loading.Done number)) (receipt.Load m (loading.Done number)) works held after rest
    (after.2.1 ∙ ap (λ z. receipt.Load m (loading.Done z)) n.2) (after.0, (n.0, refl, n.1))

-- the member that an unload takes is the one of the copy with its base
taken_from : (base : ℕ) (xs loaded : List Member) (m x : Member) → AscendFrom 0 xs → ((z : Member) → Contains xs z ↔ Contains loaded z) → Contains xs m → m.span.first ≡ base → at_base base loaded ≡ Some x → x ≡ m
taken_from base xs loaded m x h same inside is found =
    let d = there_at base loaded x found in
    disjoint_one xs x m (ascending_disjoint 0 xs h) ((same x).1 d.0) inside
    (base, (contains_from x.span base (let e = d.1 in omega (arith, e)) (let e = d.1 in let o = ordered_in 0 xs x h ((same x).1 d.0) in omega (arith, e, o)), contains_from m.span base (omega (arith, is)) (let o = ordered_in 0 xs m h inside in omega (arith, is, o))))

pub unpublished_so : (t : Terms) (k0 k4 k5 : CallerData) (found number base : ℕ) (m : Member) (xs : List Member) → k4.log.terms ≡ t → IsMemberOf t m → ListsMembers (active_words k4.log.loader) xs → Contains xs m → m.span.first ≡ base → Works k0 k4 → IsSome k4.log.loader → AfterPublish (update.Unload base) found k4.log k5.log → k5 ≡ record k4 { log = k5.log } → number ≡ length k5.log.past → AnswersUnload t base k0 k5 (removed.Done number m)
unpublished_so t k0 k4 k5 found number base m xs terms known lists inside first works held after rest is =
    let n = numbered (update.Unload base) k0 k4 k5 found number works after is in
    let mine = active_lists k4.log.loader held after.2.0.active in
    let same_list = lists_same (active_words k4.log.loader) mine.members xs mine.lists lists in
    let done = some_with (at_base base (state_after (start k4.log.terms) after.0).loaded) (λ z. after.1 ≡ receipt.Unload base (removed.Done (length after.0 + 1) z)) after.2.1 in
    let one : done.0 ≡ m = taken_from base xs (state_after (start k4.log.terms) after.0).loaded m done.0 lists.ascending (λ z. subst (λ ys. Contains ys z ↔ Contains (state_after (start k4.log.terms) after.0).loaded z) same_list (mine.same z)) inside first done.1.0 in
    published_with (update.Unload base) k0 k4 k5 found number (λ past. IsRightUnload t base k0.log.past past (removed.Done number m)) (receipt.Unload base (removed.Done number m)) works held after rest
    (done.1.1 ∙ (λ i. receipt.Unload base (removed.Done (n.2 i) (one i)))) (after.0, (n.0, refl, n.1, subst (λ u. at_base base (state_after (start u) after.0).loaded ≡ Some m) terms (done.1.0 ∙ ap Some one), known))

-- the holder may publish what it wrote
written_held : (t : Terms) (c allowance k n : ℕ) (m d : Member) (xs : List Member) (o : Option LoaderHolding) → IsSomeAnd o (Holds t c) → 0 < allowance → IsMemberOf t m → ListsMembers (active_words o) xs → n ≡ length xs → n < t.loads → k ≤ n → IsFree m.span t.fixed → (k ≡ 0) ⊎ ((get_or xs (k - 1) d).span.last < m.span.first) → (k ≡ length xs) ⊎ (m.span.last < (get_or xs k d).span.first)
    → IsWritten (Put k m) (active_words o) (n + 1) (spare_words o) → IsSomeAnd o (MayPublish t allowance (update.Load m))
written_held t c allowance k n m d xs None h due member lists len room le fixed end begin written = absurd h
written_held t c allowance k n m d xs (Some g) h due member lists len room le fixed end begin written = may_load t allowance k n m d xs g due member lists len room le fixed end begin written

pub may_publish : (w : WordsData) (a : ActiveCopy) (k3 k4 : CallerData) (place : ℕ) (m : Member) → KnowsCopy w a k3 → Spells (spare_words k4.log.loader) k3 k4 → IsSomeAnd k4.log.loader (Holds w.terms a.starts.copy) → 0 < k4.log.budget.allowance → IsMemberOf w.terms m → a.count < w.terms.loads → place ≤ a.count → EndsBelow (active_words k3.log.loader) m.span.first place → IsFree m.span w.terms.fixed → (place ≡ a.count) ⊎ (m.span.last < (member_in (active_words k3.log.loader) place).span.first)
    → IsWritten (Put place m) (active_words k3.log.loader) (a.count + 1) (spare_words k4.log.loader) → IsSomeAnd k4.log.loader (MayPublish w.terms k4.log.budget.allowance (update.Load m))
may_publish w a k3 k4 place m knows same held due member room le below fixed begin written =
    let xs : List Member = knows.listing.members in
    let lists = knows.listing.lists in
    let active = spells_active (spare_words k4.log.loader) k3 k4 same in
    let count = knows.count in
    written_held w.terms a.starts.copy k4.log.budget.allowance place a.count m m xs k4.log.loader held due member (subst (λ ws. ListsMembers ws xs) (sym active) lists) count room le fixed
    (ends_listed (active_words k3.log.loader) xs m.span.first place m lists.stand (omega (arith, le, count)) below) (begin_listed (active_words k3.log.loader) xs a.count place m.span.last m lists count le begin)
    (subst (λ ws. IsWritten (Put place m) ws (a.count + 1) (spare_words k4.log.loader)) (sym active) written)

pub is_held : (t : Terms) (c : ℕ) (o : Option LoaderHolding) → IsSomeAnd o (Holds t c) → IsSome o
is_held t c None h = absurd h
is_held t c (Some g) h = refl

pub holds_of : (t : Terms) (c : ℕ) (spare : List ℕ) (a b : CallerData) → IsSomeAnd a.log.loader (Holds t c) → Spells spare a b → length spare ≡ copy_words t → IsSomeAnd b.log.loader (Holds t c)
holds_of t c spare a b h p wide = subst (λ o. IsSomeAnd o (Holds t c)) (sym (ap (λ (k : CallerData). k.log.loader) p.4)) (go a.log.loader h)
  where
    go : (o : Option LoaderHolding) → IsSomeAnd o (Holds t c) → IsSomeAnd (option_map (with_spare spare p.3) o) (Holds t c)
    go None e = absurd e
    go (Some g) e = (e.0, e.1, wide)
