-- What a change of a map under one key makes of the sections that stand under all.
use Rattle.std.proofs.Common.{◌≡◌, ◌≢◌, ℕ, ◌+◌, List, [], ◌∷◌, ◌++◌, Bool, false, eqb, Some, None, Option, IfNone, IfSome, IsSome, OnOk, OnErr, Ok, Err, Result, append-nil, refl, sym, ap, ◌∙◌, subst, arith, inl, inr, ◌⊎◌}
use Rattle.std.specs.HashMap.{HashMap, PutsEntry, Updates, WritesThrough, get}
use Rattle.std.specs.List.{All, Contains, flat_map, sum_by}
use Rattle.std.specs.List.Sorted.{IsPermutation}
use Rattle.std.specs.Map.{lookup, remove_entry, set_value, values_of}
use Rattle.std.specs.Option.{option_map, option_to_list, unwrap_or}
use Rattle.std.proofs.lemmas.Bool.Decides.{eqb_tells}
use Rattle.std.proofs.lemmas.List.Elements.{All-append, All-cons, All-contains, All-contains_itself, All-head, All-nil, All-tail, All-weaker, Contains-append_left, Contains-append_right}
use Rattle.std.proofs.lemmas.Map.Entries.{sum_by-remove_entry, sum_by-set_value, sum_by_puts_entry, sum_by_values_permutation}
use Rattle.std.proofs.lemmas.Map.Steps.{set_value_same}
use Rattle.std.proofs.lemmas.Map.Views.{All-map-IsPermutation, All-map-remove_entry, All-values-PutsEntry, All-values-set_value, IfSome-lookup_from_All}
use Rattle.fde_writer.specs.Places.{PlaceData}
use Rattle.fde_writer.specs.Standing.{Rewrites, StandingData, Standings, all_standing, standing_under, standing_sum}

abbrev Under : Type 0
Under = List StandingData

-- what holds of each item of each list holds of each item of all
flat_all : (Q : StandingData → Type 0) (lists : List Under) → All (All Q) lists → All Q (flat_map (λ under. under) lists)
flat_all Q [] all = All-nil Q
flat_all Q (under ∷ lists) all =
    All-append Q under (flat_map (λ u. u) lists) (All-head (All Q) under lists all) (flat_all Q lists (All-tail (All Q) under lists all))

-- each list's items are among all
parts_of : (lists : List Under) → All (λ under. All (Contains (flat_map (λ u. u) lists)) under) lists
parts_of [] = All-nil (All (Contains []))
parts_of (under ∷ lists) =
    let all = flat_map (λ (u : Under). u) lists in
    All-cons (All (Contains (under ++ all))) under lists
    (All-weaker (Contains under) (Contains (under ++ all)) (λ x there. Contains-append_left under all x there) under (All-contains_itself under))
    (All-weaker (All (Contains all)) (All (Contains (under ++ all))) (λ u inside. All-weaker (Contains all) (Contains (under ++ all)) (λ x there. Contains-append_right under all x there) u inside) lists (parts_of lists))

-- a key that differs is none that the query finds
apart_key : (key other : ℕ) → other ≢ key → eqb key other ≡ false
apart_key key other apart = elim (eqb_tells key other) [ inl same ↦ absurd (apart (sym same.1)) | inr differ ↦ differ.0 ]

-- the value that a query finds has what all have
found_has : (P : Under → Type 0) (test : ℕ → Bool) (es : Standings) (under : Under) → All P (values_of es) → lookup test es ≡ Some under → P under
found_has P test es under all found = subst (λ (o : Option Under). IfSome o P) found (IfSome-lookup_from_All P test es all)

module _ (key : ℕ) (old new : Under) (es es' : Standings) where
  -- each section of the new map is one of before, or stands under the key now
  Of : StandingData → Type 0
  Of x = Contains (all_standing es) x ⊎ Contains new x

  olds : All (All Of) (values_of es)
  unfolding Of
  olds = All-weaker (All (Contains (all_standing es))) (All Of) (λ under inside. All-weaker (Contains (all_standing es)) Of (λ x there. inl there) under inside) (values_of es) (parts_of (values_of es))

  news : All Of new
  unfolding Of
  news = All-weaker (Contains new) Of (λ x there. inr there) new (All-contains_itself new)

  rewritten : standing_under key es ≡ old → standing_under key es' ≡ new → ((other : ℕ) → other ≢ key → standing_under other es' ≡ standing_under other es)
      → ((f : StandingData → ℕ) → standing_sum f es' + sum_by f old ≡ standing_sum f es + sum_by f new) → ((x : StandingData) → Contains old x → Contains (all_standing es) x) → All (All Of) (values_of es')
      → Rewrites key old new es es'
  unfolding Of
  rewritten before after others weighs listed all = record {
    before = before;
    after = after;
    others = others;
    weighs = weighs;
    listed = listed;
    kept = λ x there. All-contains Of (all_standing es') x (flat_all Of (values_of es') all) there;
  }

pub rewritten_set : {S : Type 0} (key : ℕ) (old new : Under) (m n : HashMap ℕ Under S) → get eqb m key ≡ Some old → WritesThrough eqb (eqb key) m new n → Rewrites key old new m.entries n.entries
rewritten_set key old new m n found writes =
    let updates = writes.3 (subst (λ (o : Option Under). IsSome o) (sym found) refl) in
    let entries = writes.0 in
    rewritten key old new m.entries n.entries
    (ap (λ (o : Option Under). unwrap_or o []) found)
    (ap (λ (o : Option Under). unwrap_or o []) updates.1)
    (λ other apart. ap (λ (o : Option Under). unwrap_or o []) (updates.2 other (apart_key key other apart)))
    (λ f. subst (λ (es : Standings). standing_sum f es + sum_by f old ≡ standing_sum f m.entries + sum_by f new) (sym entries) (sum_by-set_value (sum_by f) (eqb key) m.entries old new found))
    (λ x there. All-contains (Contains (all_standing m.entries)) old x (found_has (All (Contains (all_standing m.entries))) (eqb key) m.entries old (parts_of (values_of m.entries)) found) there)
    (subst (λ (es : Standings). All (All (Of key old new m.entries n.entries)) (values_of es)) (sym entries) (All-values-set_value (eqb key) (All (Of key old new m.entries n.entries)) m.entries new (olds key old new m.entries n.entries) (news key old new m.entries n.entries)))

pub rewritten_insert : {S : Type 0} (key : ℕ) (new : Under) (m n : HashMap ℕ Under S) (before : Option Under) → get eqb m key ≡ None → before ≡ get eqb m key → Updates eqb m n key (Some new)
    → PutsEntry eqb m n key new before → Rewrites key [] new m.entries n.entries
rewritten_insert key new m n before none is updates puts =
    rewritten key [] new m.entries n.entries
    (ap (λ (o : Option Under). unwrap_or o []) none)
    (ap (λ (o : Option Under). unwrap_or o []) updates.1)
    (λ other apart. ap (λ (o : Option Under). unwrap_or o []) (updates.2 other (apart_key key other apart)))
    (λ f.
    (let sums = sum_by_puts_entry (sum_by f) eqb m n key new before is puts in
    let nothing : unwrap_or (option_map (sum_by f) before) 0 ≡ 0 = ap (λ (o : Option Under). unwrap_or (option_map (sum_by f) o) 0) (is ∙ none) in
    omega (arith, sums, nothing)))
    (λ x there. absurd (let within = there.1 in omega (arith, within)))
    (All-values-PutsEntry eqb (All (Of key [] new m.entries n.entries)) m n key new before puts (olds key [] new m.entries n.entries) (news key [] new m.entries n.entries))

pub rewritten_remove : {S : Type 0} (key : ℕ) (old : Under) (m n : HashMap ℕ Under S) → get eqb m key ≡ Some old → Updates eqb m n key None
    → IsPermutation (remove_entry (eqb key) m.entries) n.entries → Rewrites key old [] m.entries n.entries
rewritten_remove key old m n found updates entries =
    rewritten key old [] m.entries n.entries
    (ap (λ (o : Option Under). unwrap_or o []) found)
    (ap (λ (o : Option Under). unwrap_or o []) updates.1)
    (λ other apart. ap (λ (o : Option Under). unwrap_or o []) (updates.2 other (apart_key key other apart)))
    (λ f.
    (let sums = sum_by-remove_entry (sum_by f) (eqb key) m.entries in
    let moved = sum_by_values_permutation (sum_by f) (remove_entry (eqb key) m.entries) n.entries entries in
    let gone : unwrap_or (option_map (sum_by f) (lookup (eqb key) m.entries)) 0 ≡ sum_by f old = ap (λ (o : Option Under). unwrap_or (option_map (sum_by f) o) 0) found in
    omega (arith, sums, moved, gone)))
    (λ x there. All-contains (Contains (all_standing m.entries)) old x (found_has (All (Contains (all_standing m.entries))) (eqb key) m.entries old (parts_of (values_of m.entries)) found) there)
    (All-map-IsPermutation (λ (e : ℕ × Under). e.1) (All (Of key old [] m.entries n.entries)) (remove_entry (eqb key) m.entries) n.entries entries
    (All-map-remove_entry (eqb key) (λ e. e.1) (All (Of key old [] m.entries n.entries)) m.entries (olds key old [] m.entries n.entries)))

-- those under a key are among all
pub listed_under : (key : ℕ) (es : Standings) (x : StandingData) → Contains (standing_under key es) x → Contains (all_standing es) x
listed_under key es x there = go (lookup (eqb key) es) refl there
  where
    go : (o : Option Under) → lookup (eqb key) es ≡ o → Contains (unwrap_or o []) x → Contains (all_standing es) x
    go None is inside = absurd (let within = inside.1 in omega (arith, within))
    go (Some under) is inside = All-contains (Contains (all_standing es)) under x (found_has (All (Contains (all_standing es))) (eqb key) es under (parts_of (values_of es)) is) inside

module _ {S : Type 0} (key : ℕ) (now : Standings) (under new : Under) (m n : HashMap ℕ Under S) (is : m.entries ≡ now) (found : get eqb m key ≡ Some under) (writes : WritesThrough eqb (eqb key) m new n) where
  set : Rewrites key under new m.entries n.entries
  set = rewritten_set key under new m n found writes

  pub under_now : standing_under key now ≡ under
  under_now = subst (λ (es : Standings). standing_under key es ≡ under) is set.before

  pub written : (old then : Under) → under ≡ old → new ≡ then → Rewrites key old then now n.entries
  written old then e f =
      subst (λ (es : Standings). Rewrites key old then es n.entries) is (subst (λ (u : Under). Rewrites key u then m.entries n.entries) e (subst (λ (u : Under). Rewrites key under u m.entries n.entries) f set))

  pub pushed : (x : StandingData) → new ≡ under ++ x ∷ [] → Rewrites key (standing_under key now) (standing_under key now ++ x ∷ []) now n.entries
  pushed x e = written (standing_under key now) (standing_under key now ++ x ∷ []) (sym under_now) (e ∙ ap (λ (u : Under). u ++ x ∷ []) (sym under_now))

  pub unwritten : new ≡ under → n.entries ≡ now
  unwritten e = writes.0 ∙ ap (set_value (eqb key) m.entries) e ∙ set_value_same (eqb key) m.entries under found ∙ is

  pub popped : (r : Option StandingData) → under ≡ new ++ option_to_list r → IfSome r (λ x. Rewrites key (standing_under key n.entries ++ x ∷ []) (standing_under key n.entries) now n.entries)
  popped None e = tt
  popped (Some x) e = written (standing_under key n.entries ++ x ∷ []) (standing_under key n.entries) (e ∙ ap (λ (u : Under). u ++ x ∷ []) (sym set.after)) (sym set.after)

  pub unpopped : (r : Option StandingData) → under ≡ new ++ option_to_list r → IfNone r (under ≡ []) → IfNone r ((standing_under key now ≡ []) × (n.entries ≡ now))
  unpopped None e none = (under_now ∙ none, unwritten (sym (append-nil new) ∙ sym e))
  unpopped (Some x) e none = tt

  pub settled : (places : List PlaceData) → ((earlier : Under) (x : StandingData) → under ≡ earlier ++ x ∷ [] → new ≡ earlier ++ record x { places = places } ∷ [])
      → (earlier : Under) (x : StandingData) → standing_under key now ≡ earlier ++ x ∷ [] → Rewrites key (earlier ++ x ∷ []) (earlier ++ record x { places = places } ∷ []) now n.entries
  settled places says earlier x stood =
      let was : under ≡ earlier ++ x ∷ [] = sym under_now ∙ stood in
      written (earlier ++ x ∷ []) (earlier ++ record x { places = places } ∷ []) was (says earlier x was)

pub begun : {S : Type 0} (key : ℕ) (x : StandingData) (now : Standings) (new : Under) (m n : HashMap ℕ Under S) (before : Option Under) → m.entries ≡ now → lookup (eqb key) now ≡ None → before ≡ get eqb m key → Updates eqb m n key (Some new)
    → PutsEntry eqb m n key new before → new ≡ x ∷ [] → Rewrites key [] (x ∷ []) now n.entries
begun key x now new m n before is none was updates puts e =
    subst (λ (es : Standings). Rewrites key [] (x ∷ []) es n.entries) is (subst (λ (u : Under). Rewrites key [] u m.entries n.entries) e
    (rewritten_insert key new m n before (subst (λ (es : Standings). lookup (eqb key) es ≡ None) (sym is) none) was updates puts))

-- the only section out of the map
pub taken_out : {S : Type 0} (key : ℕ) (x : StandingData) (now : Standings) (under : Under) (m n : HashMap ℕ Under S) → m.entries ≡ now → get eqb m key ≡ Some under → Updates eqb m n key None
    → IsPermutation (remove_entry (eqb key) m.entries) n.entries → under ≡ x ∷ [] → Rewrites key (standing_under key n.entries ++ x ∷ []) (standing_under key n.entries) now n.entries
taken_out key x now under m n is found updates entries e =
    let none : standing_under key n.entries ≡ [] = ap (λ (o : Option Under). unwrap_or o []) updates.1 in
    subst (λ (u : Under). Rewrites key (u ++ x ∷ []) u now n.entries) (sym none)
    (subst (λ (es : Standings). Rewrites key (x ∷ []) [] es n.entries) is (rewritten_remove key (x ∷ []) m n (found ∙ ap Some e) updates entries))

-- a part of an answer, made weaker
pub on_ok : {A E : Type 0} (P Q : Type 0) → (P → Q) → (r : Result A E) → OnOk r P → OnOk r Q
on_ok P Q more (Ok x) is = more is
on_ok P Q more (Err e) is = tt

pub on_err : {A E : Type 0} (P Q : Type 0) → (P → Q) → (r : Result A E) → OnErr r P → OnErr r Q
on_err P Q more (Ok x) is = tt
on_err P Q more (Err e) is = more is

pub any_err : {A E : Type 0} (P : Type 0) → P → (r : Result A E) → OnErr r P
any_err P is (Ok x) = tt
any_err P is (Err e) = is
