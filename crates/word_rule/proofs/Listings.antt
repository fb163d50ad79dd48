-- Listings of copies, and what a history makes of the loaded members.
use Rattle.std.proofs.Common.{◌≡◌, ◌≢◌, ℕ, zero, suc, ◌+◌, ◌<◌, ◌≤◌, List, [], ◌∷◌, ◌++◌, length, get_or, Contains, sym, refl, ap, ◌∙◌, subst, ⊎_elim, arith, append-nil, ◌==◌, not, map, Bool, true, false, true≢false, IsSome, Some, if◌then◌else◌, eq-eqb, ne_eqb}
use Rattle.std.specs.List.{AllByRecursion, All, filter, find}
use Rattle.std.proofs.lemmas.List.Elements.{All-contains, Contains-get_or, Contains-push_cases}
use Rattle.std.proofs.lemmas.Option.{none-some, same_Some}
use native.Mathlib.Decide.{ℕ_discrete}
use Rattle.reg_model.specs.SpanData.{IsSpan, Overlaps, is_same_span}
use Rattle.reg_model.specs.State.{State, AreDisjoint, IsFree, IsLawful, at_base}
use Rattle.reg_model.specs.History.{after, state_after, IsHistory}
use Rattle.reg_model.specs.declared.span.Member.{Member}
use Rattle.reg_model.specs.declared.answer.Update.{Update}
use Rattle.reg_model.specs.declared.answer.Update.TheVariants as update
use Rattle.reg_model.proofs.Spans.{overlap_from, overlap_bounds}
use Rattle.reg_model.proofs.Histories.{lawful_history}
use Rattle.segment_array.specs.Ascending.{AscendFrom}
use Rattle.word_rule.specs.declared.log.Terms.{Terms}
use Rattle.std.proofs.lemmas.List.Sums.{count_by-le-length, sum_by-cons}
use Rattle.tree_laws.specs.Numbers.{once}
use Rattle.word_rule.specs.Callers.{IsOfTerms, IsMemberOf, AreTerms, is_of_loader, publications, start}
use Rattle.word_rule.proofs.Each.{all_append}
use Rattle.word_rule.specs.Copies.{StandFrom, ListsMembers, ListsAll}
use Rattle.word_rule.proofs.Members.{drop_one, length_drop_one, contains_drop_one}

-- two lists of one length that the same words list are one
stand_same : (words : List ℕ) (i : ℕ) (xs ys : List Member) → length xs ≡ length ys → StandFrom words i xs → StandFrom words i ys → xs ≡ ys
stand_same words i [] [] e h g = refl
stand_same words i [] (y ∷ ys) e h g = absurd (omega (arith, e))
stand_same words i (x ∷ xs) [] e h g = absurd (omega (arith, e))
stand_same words i (x ∷ xs) (y ∷ ys) e h g =
    let rest = stand_same words (i + 1) xs ys (omega (arith, e)) h.3 g.3 in
    (λ i. record { span = record { first = (sym h.0 ∙ g.0) i; last = (sym h.1 ∙ g.1) i }; payload = (sym h.2 ∙ g.2) i } ∷ rest i)

pub lists_same : (words : List ℕ) (xs ys : List Member) → ListsMembers words xs → ListsMembers words ys → xs ≡ ys
lists_same words xs ys h g = stand_same words 0 xs ys (sym h.count ∙ g.count) h.stand g.stand

-- what a filter keeps
pub contains_filter : (p : Member → Bool) (xs : List Member) (x : Member) → Contains (filter p xs) x → Contains xs x × (p x ≡ true)
contains_filter p [] x h = absurd (let l = h.1 in omega (arith, l))
contains_filter p (y ∷ xs) x h = go (p y) refl h (contains_filter p xs x)
  where
    longer : Contains xs x → Contains (y ∷ xs) x
    longer (k, l, e) = (suc k, omega (arith, l), e)

    go : (b : Bool) → p y ≡ b → Contains (if b then (y ∷ filter p xs) else filter p xs) x → (Contains (filter p xs) x → Contains xs x × (p x ≡ true)) → Contains (y ∷ xs) x × (p x ≡ true)
    go true is (zero, l, e) rest = ((0, omega arith, e), ap p (sym e) ∙ is)
    go true is (suc k, l, e) rest = let r = rest (k, omega (arith, l), e) in (longer r.0, r.1)
    go false is h rest = let r = rest h in (longer r.0, r.1)

pub filter_contains : (p : Member → Bool) (xs : List Member) (x : Member) → Contains xs x → p x ≡ true → Contains (filter p xs) x
filter_contains p [] x h is = absurd (let l = h.1 in omega (arith, l))
filter_contains p (y ∷ xs) x h is = go (p y) refl h (λ c. filter_contains p xs x c is)
  where
    go : (b : Bool) → p y ≡ b → Contains (y ∷ xs) x → (Contains xs x → Contains (filter p xs) x) → Contains (if b then (y ∷ filter p xs) else filter p xs) x
    go true q (zero, l, e) rest = (0, omega arith, e)
    go true q (suc k, l, e) rest = let r = rest (k, omega (arith, l), e) in (suc r.0, (let s = r.1 in omega (arith, s)), r.2)
    go false q (zero, l, e) rest = absurd (true≢false (sym is ∙ (ap p (sym e) ∙ q)))
    go false q (suc k, l, e) rest = rest (k, omega (arith, l), e)

-- what a search finds is there, and what is there is found
pub find_contains : (p : Member → Bool) (xs : List Member) → IsSome (find p xs) → (x : Member) × (Contains xs x × (p x ≡ true))
find_contains p [] h = absurd (true≢false (sym h))
find_contains p (y ∷ xs) h = go (p y) refl h (find_contains p xs)
  where
    go : (b : Bool) → p y ≡ b → IsSome (if b then Some y else find p xs) → (IsSome (find p xs) → (x : Member) × (Contains xs x × (p x ≡ true))) → (x : Member) × (Contains (y ∷ xs) x × (p x ≡ true))
    go true is h rest = (y, ((0, omega arith, refl), is))
    go false is h rest = let r = rest h in (r.0, ((suc r.1.0.0, (let l = r.1.0.1 in omega (arith, l)), r.1.0.2), r.1.1))

pub contains_find : (p : Member → Bool) (xs : List Member) (x : Member) → Contains xs x → p x ≡ true → IsSome (find p xs)
contains_find p [] x h is = absurd (let l = h.1 in omega (arith, l))
contains_find p (y ∷ xs) x h is = go (p y) refl h (λ c. contains_find p xs x c is)
  where
    go : (b : Bool) → p y ≡ b → Contains (y ∷ xs) x → (Contains xs x → IsSome (find p xs)) → IsSome (if b then Some y else find p xs)
    go true q h rest = refl
    go false q (zero, l, e) rest = absurd (true≢false (sym is ∙ (ap p (sym e) ∙ q)))
    go false q (suc k, l, e) rest = rest (k, omega (arith, l), e)

-- a state keeps the fixed list and the greatest number of loaded members
pub state_fixed : (s : State) (history : List Update) → ((state_after s history).fixed ≡ s.fixed) × ((state_after s history).loads ≡ s.loads)
state_fixed s [] = (refl, refl)
state_fixed s (update.Register m ∷ history) = state_fixed (after (update.Register m) s) history
state_fixed s (update.Deregister base ∷ history) = state_fixed (after (update.Deregister base) s) history
state_fixed s (update.Replace m ∷ history) = state_fixed (after (update.Replace m) s) history
state_fixed s (update.Load m ∷ history) = state_fixed (after (update.Load m) s) history
state_fixed s (update.Unload base ∷ history) = state_fixed (after (update.Unload base) s) history

-- loaded members are spans
pub loaded_spans : (t : Terms) (s : State) (history : List Update) → AllByRecursion (IsOfTerms t) history → ((x : Member) → Contains s.loaded x → IsSpan x.span) → (x : Member) → Contains (state_after s history).loaded x → IsSpan x.span
loaded_spans t s [] h all x c = all x c
loaded_spans t s (update.Register m ∷ history) h all x c = loaded_spans t (after (update.Register m) s) history h.1 all x c
loaded_spans t s (update.Deregister base ∷ history) h all x c = loaded_spans t (after (update.Deregister base) s) history h.1 all x c
loaded_spans t s (update.Replace m ∷ history) h all x c = loaded_spans t (after (update.Replace m) s) history h.1 all x c
loaded_spans t s (update.Load m ∷ history) h all x c = loaded_spans t (after (update.Load m) s) history h.1 (λ z d. ⊎_elim (λ (e : Contains s.loaded z). all z e) (λ (e : m ≡ z). subst (λ y. IsSpan y.span) e h.0.0) (Contains-push_cases s.loaded m z d)) x c
loaded_spans t s (update.Unload base ∷ history) h all x c = loaded_spans t (after (update.Unload base) s) history h.1 (λ z d. all z (contains_filter (λ m. not (m.span.first == base)) s.loaded z d).0) x c

-- what holds of all holds of those that a test passes
all_filtered : (P : Member → Type 0) (p : Member → Bool) (xs : List Member) → AllByRecursion P xs → AllByRecursion P (filter p xs)
all_filtered P p [] every = tt
all_filtered P p (y ∷ xs) every = go (p y) (all_filtered P p xs every.1)
  where
    go : (b : Bool) → AllByRecursion P (filter p xs) → AllByRecursion P (if b then (y ∷ filter p xs) else filter p xs)
    go true rest = (every.0, rest)
    go false rest = rest

-- what holds of all and of one more holds of all where that one takes some places
all_placed : (P : Member → Type 0) (p : Member → Bool) (m : Member) (xs : List Member) → P m → AllByRecursion P xs → AllByRecursion P (map (λ x. if p x then m else x) xs)
all_placed P p m [] new every = tt
all_placed P p m (y ∷ xs) new every = (go (p y), all_placed P p m xs new every.1)
  where
    go : (b : Bool) → P (if b then m else y)
    go true = new
    go false = every.0

-- loaded members may be made known
pub loaded_members : (t : Terms) (s : State) (history : List Update) → AllByRecursion (IsOfTerms t) history → AllByRecursion (IsMemberOf t) s.loaded → AllByRecursion (IsMemberOf t) (state_after s history).loaded
loaded_members t s [] h all = all
loaded_members t s (update.Register m ∷ history) h all = loaded_members t (after (update.Register m) s) history h.1 all
loaded_members t s (update.Deregister base ∷ history) h all = loaded_members t (after (update.Deregister base) s) history h.1 all
loaded_members t s (update.Replace m ∷ history) h all = loaded_members t (after (update.Replace m) s) history h.1 all
loaded_members t s (update.Load m ∷ history) h all = loaded_members t (after (update.Load m) s) history h.1 (all_append (IsMemberOf t) s.loaded (m ∷ []) all (h.0, tt))
loaded_members t s (update.Unload base ∷ history) h all = loaded_members t (after (update.Unload base) s) history h.1 (all_filtered (IsMemberOf t) (λ m. not (m.span.first == base)) s.loaded all)

-- registered members may be made known
pub registered_members : (t : Terms) (s : State) (history : List Update) → AllByRecursion (IsOfTerms t) history → AllByRecursion (IsMemberOf t) s.registered → AllByRecursion (IsMemberOf t) (state_after s history).registered
registered_members t s [] h all = all
registered_members t s (update.Register m ∷ history) h all = registered_members t (after (update.Register m) s) history h.1 (all_append (IsMemberOf t) s.registered (m ∷ []) all (h.0, tt))
registered_members t s (update.Deregister base ∷ history) h all = registered_members t (after (update.Deregister base) s) history h.1 (all_filtered (IsMemberOf t) (λ m. not (m.span.first == base)) s.registered all)
registered_members t s (update.Replace m ∷ history) h all = registered_members t (after (update.Replace m) s) history h.1 (all_placed (IsMemberOf t) (λ x. is_same_span x.span m.span) m s.registered h.0 all)
registered_members t s (update.Load m ∷ history) h all = registered_members t (after (update.Load m) s) history h.1 all
registered_members t s (update.Unload base ∷ history) h all = registered_members t (after (update.Unload base) s) history h.1 all

-- nothing is registered where each update was the loader's
pub none_registered : (s : State) (history : List Update) → publications history ≡ length history → s.registered ≡ [] → (state_after s history).registered ≡ []
none_registered s [] all none = none
none_registered s (update.Register m ∷ history) all none = let most = count_by-le-length is_of_loader history in let step = sum_by-cons (λ u. once (is_of_loader u)) (update.Register m) history in absurd (omega (arith, all, most, step))
none_registered s (update.Deregister base ∷ history) all none = let most = count_by-le-length is_of_loader history in let step = sum_by-cons (λ u. once (is_of_loader u)) (update.Deregister base) history in absurd (omega (arith, all, most, step))
none_registered s (update.Replace m ∷ history) all none = let most = count_by-le-length is_of_loader history in let step = sum_by-cons (λ u. once (is_of_loader u)) (update.Replace m) history in absurd (omega (arith, all, most, step))
none_registered s (update.Load m ∷ history) all none = let step = sum_by-cons (λ u. once (is_of_loader u)) (update.Load m) history in none_registered (after (update.Load m) s) history (omega (arith, all, step)) none
none_registered s (update.Unload base ∷ history) all none = let step = sum_by-cons (λ u. once (is_of_loader u)) (update.Unload base) history in none_registered (after (update.Unload base) s) history (omega (arith, all, step)) none

-- members that ascend are disjoint
above_free : (x : Member) (low : ℕ) (xs : List Member) → x.span.last < low → AscendFrom low xs → AllByRecursion (λ m. ¬ Overlaps m.span x.span) xs
above_free x low [] less h = tt
above_free x low (y ∷ xs) less h =
    ((λ over. let b = overlap_bounds y.span x.span over in let c = b.0 in let d = h.0 in omega (arith, c, d, less)), above_free x (y.span.last + 1) xs (let a = h.0 in let b = h.1 in omega (arith, a, b, less)) h.2)

all_by_index : {A : Type 0} (P : A → Type 0) (xs : List A) → AllByRecursion P xs → All P xs
all_by_index P [] h k d l = absurd (omega (arith, l))
all_by_index P (x ∷ xs) h zero d l = h.0
all_by_index P (x ∷ xs) h (suc k) d l = all_by_index P xs h.1 k d (omega (arith, l))

pub ascending_disjoint : (low : ℕ) (xs : List Member) → AscendFrom low xs → AreDisjoint xs
ascending_disjoint low [] h = tt
ascending_disjoint low (x ∷ xs) h = (all_by_index (λ m. ¬ Overlaps m.span x.span) xs (above_free x (x.span.last + 1) xs (omega arith) h.2), ascending_disjoint (x.span.last + 1) xs h.2)

pub start_lawful : (t : Terms) → AreTerms t → IsLawful (start t)
start_lawful t terms = record { registered = tt; objects = subst AreDisjoint (sym (append-nil t.fixed)) (ascending_disjoint 0 t.fixed terms.fixed); room = omega arith }

disjoint_rest : (xs ys : List Member) → AreDisjoint (xs ++ ys) → AreDisjoint ys
disjoint_rest [] ys h = h
disjoint_rest (x ∷ xs) ys h = disjoint_rest xs ys h.1

-- the loaded members are disjoint
pub loaded_disjoint : (t : Terms) (history : List Update) → AreTerms t → IsHistory (start t) history → AreDisjoint (state_after (start t) history).loaded
loaded_disjoint t history terms lawful = disjoint_rest (state_after (start t) history).fixed (state_after (start t) history).loaded (lawful_history (start t) history (start_lawful t terms) lawful).objects

-- disjoint spans are not more than the members of any list that has them all
pub disjoint_fit : (xs ys : List Member) → AreDisjoint xs → ((x : Member) → Contains xs x → IsSpan x.span) → ((x : Member) → Contains xs x → Contains ys x) → length xs ≤ length ys
disjoint_fit [] ys h spans all = omega arith
disjoint_fit (x ∷ xs) ys h spans all =
    let c = all x (0, omega arith, refl) in
    let in_all : (z : Member) → Contains xs z → Contains (x ∷ xs) z = (λ z d. (suc d.0, (let l = d.1 in omega (arith, l)), d.2)) in
    let other : (z : Member) → Contains xs z → x ≢ z =
    (λ z d same. let s = spans x (0, omega arith, refl) in All-contains (λ m. ¬ Overlaps m.span x.span) xs z h.0 d (subst (λ m. Overlaps m.span x.span) same (overlap_from x.span x.span s s s.ordered s.ordered))) in
    let rest = disjoint_fit xs (drop_one ys c.0) h.1 (λ z d. spans z (in_all z d)) (λ z d. contains_drop_one ys c.0 x z c.1 c.2 (other z d) (all z (in_all z d))) in
    let len = length_drop_one ys c.0 c.1 in omega (arith, rest, len)

-- what is free of all members of a list is free of any list of such members
pub free_of : (m : Member) (xs ys : List Member) → ((x : Member) → Contains ys x → Contains xs x) → IsFree m.span xs → IsFree m.span ys
free_of m xs ys all h k d l = All-contains (λ x. ¬ Overlaps x.span m.span) xs (get_or ys k d) h (all (get_or ys k d) (Contains-get_or ys k d l))

-- the member that begins at a base is listed, and begins there
pub there_at : (base : ℕ) (es : List Member) (m : Member) → at_base base es ≡ Some m → Contains es m × (m.span.first ≡ base)
there_at base [] m e = absurd (none-some m e)
there_at base (x ∷ es) m e = go (ℕ_discrete x.span.first base) (λ f. there_at base es m f)
  where
    go : Dec (x.span.first ≡ base) → (at_base base es ≡ Some m → Contains es m × (m.span.first ≡ base)) → Contains (x ∷ es) m × (m.span.first ≡ base)
    go (yes is) later = let same : x ≡ m = same_Some _ _ (rw (eq-eqb x.span.first base is) at e) in ((0, omega arith, same), subst (λ (z : Member). z.span.first ≡ base) same is)
    go (no ne) later = let r = later (rw (ne_eqb x.span.first base ne) at e) in ((suc r.0.0, (let l = r.0.1 in omega (arith, l)), r.0.2), r.1)

-- what lists the loaded members has no more of them than may be loaded
pub listed_few : (t : Terms) (history : List Update) → AreTerms t → AllByRecursion (IsOfTerms t) history → IsHistory (start t) history → {copy : List ℕ} → (l : ListsAll copy (state_after (start t) history).loaded) → length l.members ≤ t.loads
listed_few t history terms members lawful l =
    let less = disjoint_fit l.members (state_after (start t) history).loaded (ascending_disjoint 0 l.members l.lists.ascending)
    (λ x c. loaded_spans t (start t) history members (λ z d. absurd (omega (arith, d.1))) x ((l.same x).0 c)) (λ x c. (l.same x).0 c) in
    let room = (lawful_history (start t) history (start_lawful t terms) lawful).room in
    let loads = (state_fixed (start t) history).1 in omega (arith, less, room, loads)
