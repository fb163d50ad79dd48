-- The pairs of the inner node that a lookup visits: what its loads say of them.
use Rattle.std.proofs.Common.{◌≡◌, ◌≢◌, ℕ, zero, suc, ◌+◌, ◌*◌, ◌-◌, ◌<◌, ◌≤◌, ◌⊎◌, Bool, true, false, List, [], ◌∷◌, length, Option, Some, None, option_map, IfSome, Contains, inl, inr, refl, ap, sym, ◌∙◌, subst, arith, nat_lt, eq-eqb, if◌then◌else◌, lt-ltb, le-leb, ◌&&◌, true≢false}
use Rattle.std.specs.List.{AllByRecursion}
use Rattle.std.proofs.lemmas.Bool.{ltb-true}
use Rattle.std.proofs.lemmas.Option.{none-some, same_Some}
use Rattle.std.proofs.lemmas.List.Elements.{Contains-append_left}
use native.Mathlib.Decide.{ℕ_discrete}
use Rattle.tree_shape.specs.NodeData.{NodeData, Body, Pairs, Entries, Link, Cut, pairs_in}
use Rattle.tree_laws.specs.Lawful.{IsOrderedAs, IsFilledAs}
use Rattle.tree_laws.specs.Trees.{Branch, branches_from}
use Rattle.tree_shape.specs.declared.node.NodeBounds.{NodeBounds}
use Rattle.tree_shape.specs.declared.pair.Pair.{Pair}
use Rattle.word_rule.specs.declared.log.LoadedWord.{LoadedWord}
use Rattle.word_rule.specs.declared.log.NodeSight.{NodeSight}
use Rattle.word_rule.specs.declared.log.Terms.{Terms}
use Rattle.word_rule.specs.CallerData.{CallerData}
use Rattle.word_rule.specs.NodeTells.{IsLiveNode}
use Rattle.word_rule.specs.Sights.{after_node_load, is_loaded_as, loaded_word, low_of, named_place, pairs_in_sight, place_between, place_of, place_under}
use Rattle.word_rule.specs.Spelling.{is_short, node_word, pair_at, pairs_at}
use Rattle.word_rule.proofs.Spells.{pairs_length, reads_pairs}
use Rattle.btree_lookup.specs.Loads.{loaded_of}
use Rattle.btree_lookup.specs.Visits.{Agrees, Sees, SeesBelow, SeesChild, SeesNone, Way}
use Rattle.btree_lookup.specs.declared.visit.Visit.{Visit}
use Rattle.btree_lookup.proofs.Loading.{last_loaded}
use Rattle.btree_lookup.proofs.Sighting.{at_most, one_more, word_here, word_other, node_of_sight}
use Rattle.word_rule.proofs.NodeVersions.{loaded_is}

-- the first of some pairs, and the others
pub unrolled : (words : List ℕ) (at more : ℕ) (ps : List Pair) → pairs_at words at (suc more) ≡ Some ps → (rest : List Pair) × ((ps ≡ pair_at words at ∷ rest) × (pairs_at words (at + 2) more ≡ Some rest))
unrolled words at more ps e = go (is_short (node_word words at)) (pairs_at words (at + 2) more) refl e
  where
    go : (b : Bool) (o : Option (List Pair)) → pairs_at words (at + 2) more ≡ o → ◌≡◌ {A = Option (List Pair)} (if b then option_map (λ pairs. pair_at words at ∷ pairs) o else None) (Some ps) → (rest : List Pair) × ((ps ≡ pair_at words at ∷ rest) × (pairs_at words (at + 2) more ≡ Some rest))
    go true None is f = absurd (none-some ps f)
    go true (Some rest) is f = (rest, (sym (same_Some _ _ f), is))
    go false o is f = absurd (none-some ps f)

-- the pairs of an inner node that has the loaded words
pub record InnerNode (t : Terms) (n : ℕ) (words : List ℕ) (shape : NodeData) (f : NodeBounds) : Type 0 where
  pub live : IsLiveNode t n shape f
  pub pairs : List Pair
  pub is : shape.body ≡ Pairs pairs
  pub read : pairs_at words 6 (node_word words 5) ≡ Some pairs
  pub cut : Cut shape.low shape.high pairs
  pub few : length pairs ≤ 15
  pub level : 0 < shape.level

pub inner_node : (t : Terms) (s : NodeSight) (shape : NodeData) (a : Agrees t s shape) (f : NodeBounds) → place_of s ≡ Some f → 0 < f.level → InnerNode t s.node a.words shape f
inner_node t s shape a f placed above = go shape.body refl live.ordered live.filled
  where
    live : IsLiveNode t s.node shape f
    live = subst (λ o. IfSome o (IsLiveNode t s.node shape)) placed a.live

    level : 0 < shape.level
    level = let e = live.placed.0 in omega (arith, e, above)

    go : (b : Body) → shape.body ≡ b → IsOrderedAs shape b → IsFilledAs s.node b → InnerNode t s.node a.words shape f
    go (Entries es) is ordered filled = absurd (let e = ordered.0 in let l = level in omega (arith, e, l))
    go (Link next) is ordered filled = absurd ordered
    go (Pairs ps) is ordered filled = record { live = live; pairs = ps; is = is; read = reads_pairs a.words shape ps a.spells is; cut = ordered.1; few = filled.1; level = level }

-- separators that reach the high fence aren't all below an address inside
reached : (words : List ℕ) (pc i more low high : ℕ) (ps : List Pair) → pairs_at words (6 + 2 * i) more ≡ Some ps → Cut low high ps → ((j : ℕ) → j < i + more → node_word words (7 + 2 * j) < pc) → low ≤ pc → pc ≤ high → ⊥
reached words pc i zero low high ps e cut below at_least at_most' = let none = subst (Cut low high) (sym (same_Some _ _ e)) cut in omega (arith, none, at_least, at_most')
reached words pc i (suc more) low high ps e cut below at_least at_most' =
    let u = unrolled words (6 + 2 * i) more ps e in
    let first = subst (Cut low high) u.1.0 cut in
    let next : 6 + 2 * i + 2 ≡ 6 + 2 * (i + 1) = omega arith in
    let here : 7 + 2 * i ≡ 6 + 2 * i + 1 = omega arith in
    let small : node_word words (6 + 2 * i + 1) < pc = subst (λ p. node_word words p < pc) here (below i (omega arith)) in
    reached words pc (i + 1) more (node_word words (6 + 2 * i + 1) + 1) high u.0 (ap (λ p. pairs_at words p more) (sym next) ∙ u.1.1) first.1 (λ j l. below j (omega (arith, l))) (omega (arith, small)) at_most'

-- what holds of each branch holds of that of the pair at a place
branch_there : (P : Branch → Type 0) (words : List ℕ) (level i d more low : ℕ) (ps : List Pair) → pairs_at words (6 + 2 * i) more ≡ Some ps → d < more → AllByRecursion P (branches_from level low ps)
    → (b : Branch) × (P b × (b.child ≡ node_word words (6 + 2 * (i + d))) × (b.frame.level ≡ level))
branch_there P words level i d zero low ps e less all = absurd (omega (arith, less))
branch_there P words level i zero (suc more) low ps e less all =
    let u = unrolled words (6 + 2 * i) more ps e in
    let first = subst (λ qs. AllByRecursion P (branches_from level low qs)) u.1.0 all in
    let same : 6 + 2 * i ≡ 6 + 2 * (i + 0) = omega arith in
    (_, (first.0, ap (node_word words) same, refl))
branch_there P words level i (suc d) (suc more) low ps e less all =
    let u = unrolled words (6 + 2 * i) more ps e in
    let first = subst (λ qs. AllByRecursion P (branches_from level low qs)) u.1.0 all in
    let next : 6 + 2 * i + 2 ≡ 6 + 2 * (i + 1) = omega arith in
    let same : 6 + 2 * (i + 1 + d) ≡ 6 + 2 * (i + suc d) = omega arith in
    let rest = branch_there P words level (i + 1) d more (node_word words (6 + 2 * i + 1) + 1) u.0 (ap (λ p. pairs_at words p more) (sym next) ∙ u.1.1) (omega (arith, less)) first.1 in
    (rest.0, (rest.1.0, rest.1.1 ∙ ap (node_word words) same, rest.1.2))

module _ (t : Terms) (pc : ℕ) (k : CallerData) (visit : Visit) where
  -- the count was loaded
  pub count_loaded : (k1 k2 : CallerData) (count : ℕ) → Way t pc k visit k1 → k2 ≡ record k1 { log = after_node_load visit.node 5 count k1.log } → SeesBelow t pc k visit count 0 0 k2
  count_loaded k1 k2 count w is = record {
    sees = one_more t pc k visit 0 k1 k2 w.sees 5 count (λ e. omega (arith, e)) (omega arith) is;
    counted = word_here 5 count w.sees.sight.words;
    below = λ i l. absurd (omega (arith, l));
    next = inl refl;
    fresh = λ i. word_other 5 count (6 + 2 * i) w.sees.sight.words (λ e. omega (arith, e)) ∙ w.fresh i;
  }

  -- the separator of one more slot was loaded
  module _ (k1 k2 : CallerData) (count turns slot separator : ℕ) (w : SeesBelow t pc k visit count turns slot k1) (is : k2 ≡ record k1 { log = after_node_load visit.node (7 + 2 * turns) separator k1.log }) (room : turns < 15) (few : slot ≤ turns) where
    abbrev then_sees : Sees t pc k visit (1 + turns + 1) k2
    then_sees = one_more t pc k visit (1 + turns) k1 k2 w.sees (7 + 2 * turns) separator (λ e. omega (arith, e)) (omega (arith, room)) is

    abbrev IsBelow : ℕ → Type 0
    IsBelow j = (s : ℕ) × ((loaded_word (7 + 2 * j) then_sees.sight.words ≡ Some s) × Contains then_sees.loaded (loaded_of visit.node (7 + 2 * j) s) × (s < pc))

    abbrev IsAtLeast : ℕ → Type 0
    IsAtLeast j = (s : ℕ) × ((loaded_word (7 + 2 * j) then_sees.sight.words ≡ Some s) × Contains then_sees.loaded (loaded_of visit.node (7 + 2 * j) s) × (pc ≤ s))

    there : loaded_word (7 + 2 * turns) then_sees.sight.words ≡ Some separator
    there = word_here (7 + 2 * turns) separator w.sees.sight.words

    stays : (j s : ℕ) → j ≢ turns → loaded_word (7 + 2 * j) w.sees.sight.words ≡ Some s → loaded_word (7 + 2 * j) then_sees.sight.words ≡ Some s
    stays j s ne e = word_other (7 + 2 * turns) separator (7 + 2 * j) w.sees.sight.words (λ same. ne (omega (arith, same))) ∙ e

    kept_load : (j s : ℕ) → Contains w.sees.loaded (loaded_of visit.node (7 + 2 * j) s) → Contains then_sees.loaded (loaded_of visit.node (7 + 2 * j) s)
    kept_load j s h = Contains-append_left w.sees.loaded (loaded_of visit.node (7 + 2 * turns) separator ∷ []) (loaded_of visit.node (7 + 2 * j) s) h

    last : Contains then_sees.loaded (loaded_of visit.node (7 + 2 * turns) separator)
    last = last_loaded w.sees.loaded (loaded_of visit.node (7 + 2 * turns) separator)

    still_below : (j : ℕ) → j < slot → IsBelow j
    still_below j l = let b = w.below j l in (b.0, (stays j b.0 (λ e. omega (arith, e, l, few)) b.1.0, kept_load j b.0 b.1.1, b.1.2))

    abbrev seen : (n : ℕ) → ((j : ℕ) → j < n → IsBelow j) → (n ≡ turns + 1) ⊎ IsAtLeast n → SeesBelow t pc k visit count (turns + 1) n k2
    seen n below next = record {
      sees = at_most t pc k visit (1 + turns + 1) (1 + (turns + 1)) k2 (omega arith) then_sees;
      counted = word_other (7 + 2 * turns) separator 5 w.sees.sight.words (λ e. omega (arith, e)) ∙ w.counted;
      below = below;
      next = next;
      fresh = λ i. word_other (7 + 2 * turns) separator (6 + 2 * i) w.sees.sight.words (λ e. omega (arith, e)) ∙ w.fresh i;
    }

    -- what so many slots say: whether all before were below the address, and whether this one is
    pub separator_looked : (ahead low : Bool) → (ahead ≡ true → slot ≡ turns) → (ahead ≡ false → slot < turns) → nat_lt separator pc ≡ low → SeesBelow t pc k visit count (turns + 1) (slot + (if ahead && low then 1 else 0)) k2
    separator_looked true true all_so fewer is_low = seen (slot + 1) (λ j l. by_place j l (ℕ_discrete j turns)) (inl (let e = all_so refl in omega (arith, e)))
      where
        by_place : (j : ℕ) → j < slot + 1 → Dec (j ≡ turns) → IsBelow j
        by_place j l (yes e) = subst IsBelow (sym e) (separator, (there, last, ltb-true separator pc is_low))
        by_place j l (no ne) = still_below j (let s = all_so refl in omega (arith, l, ne, s))
    separator_looked true false all_so fewer is_high = seen (slot + 0) (λ j l. still_below j (omega (arith, l))) (inr (subst IsAtLeast same (separator, (there, last, large))))
      where
        same : turns ≡ slot + 0
        same = let e = all_so refl in omega (arith, e)

        large : pc ≤ separator
        large = let refute : separator < pc → ⊥ = (λ l. true≢false (sym (lt-ltb separator pc l) ∙ is_high)) in omega (arith, refute)
    separator_looked false low all_so fewer whichever = seen (slot + 0) (λ j l. still_below j (omega (arith, l))) (inr (subst IsAtLeast same (at_least w.next)))
      where
        same : slot ≡ slot + 0
        same = omega arith

        at_least : (slot ≡ turns) ⊎ ((s : ℕ) × ((loaded_word (7 + 2 * slot) w.sees.sight.words ≡ Some s) × Contains w.sees.loaded (loaded_of visit.node (7 + 2 * slot) s) × (pc ≤ s))) → IsAtLeast slot
        at_least (inl e) = absurd (let f = fewer refl in omega (arith, e, f))
        at_least (inr h) = (h.0, (stays slot h.0 (λ e. let f = fewer refl in omega (arith, e, f)) h.1.0, kept_load slot h.0 h.1.1, h.1.2))

  -- a slot before these is one of all
  pub of_all : (k1 : CallerData) (count turns slot : ℕ) → SeesBelow t pc k visit count turns slot k1 → slot < turns → turns ≤ 15 → SeesBelow t pc k visit count 15 slot k1
  of_all k1 count turns slot w less most = record {
    sees = at_most t pc k visit (1 + turns) (1 + 15) k1 (omega (arith, most)) w.sees;
    counted = w.counted;
    below = w.below;
    next = inr (one_of_two (λ e. omega (arith, e, less)) w.next);
    fresh = w.fresh;
  }
    where
      one_of_two : {A B : Type 0} → (A → ⊥) → A ⊎ B → B
      one_of_two refute (inl a) = absurd (refute a)
      one_of_two refute (inr b) = b

  -- the child of the first separator that is at least the address
  module _ (k2 : CallerData) (count slot : ℕ) (w : SeesBelow t pc k visit count 15 slot k2) where
    module _ (k3 : CallerData) (child : ℕ) (slots : slot < count) (few : count ≤ 15) (above : 0 < visit.level) (loads : k3 ≡ record k2 { log = after_node_load visit.node (6 + 2 * slot) child k2.log }) where
      at_slot : (separator : ℕ) × ((loaded_word (7 + 2 * slot) w.sees.sight.words ≡ Some separator) × Contains w.sees.loaded (loaded_of visit.node (7 + 2 * slot) separator) × (pc ≤ separator))
      at_slot = go w.next
        where
          go : (slot ≡ 15) ⊎ ((s : ℕ) × ((loaded_word (7 + 2 * slot) w.sees.sight.words ≡ Some s) × Contains w.sees.loaded (loaded_of visit.node (7 + 2 * slot) s) × (pc ≤ s))) → (s : ℕ) × ((loaded_word (7 + 2 * slot) w.sees.sight.words ≡ Some s) × Contains w.sees.loaded (loaded_of visit.node (7 + 2 * slot) s) × (pc ≤ s))
          go (inl e) = absurd (omega (arith, e, slots, few))
          go (inr h) = h

      abbrev separator : ℕ
      separator = at_slot.0

      abbrev all : Sees t pc k visit 17 k3
      all = one_more t pc k visit 16 k2 k3 w.sees (6 + 2 * slot) child (λ e. omega (arith, e)) (omega (arith, slots, few)) loads

      abbrev words : List LoadedWord
      words = all.sight.words

      child_there : loaded_word (6 + 2 * slot) words ≡ Some child
      child_there = word_here (6 + 2 * slot) child w.sees.sight.words

      separator_there : loaded_word (7 + 2 * slot) words ≡ Some separator
      separator_there = word_other (6 + 2 * slot) child (7 + 2 * slot) w.sees.sight.words (λ e. omega (arith, e)) ∙ at_slot.1.0

      count_there : loaded_word 5 words ≡ Some count
      count_there = word_other (6 + 2 * slot) child 5 w.sees.sight.words (λ e. omega (arith, e)) ∙ w.counted

      no_other : (i : ℕ) → i ≢ slot → loaded_word (6 + 2 * i) words ≡ None
      no_other i ne = word_other (6 + 2 * slot) child (6 + 2 * i) w.sees.sight.words (λ e. ne (omega (arith, e))) ∙ w.fresh i

      among : (at value : ℕ) → Contains w.sees.loaded (loaded_of visit.node at value) → Contains all.loaded (loaded_of visit.node at value)
      among at value h = Contains-append_left w.sees.loaded (loaded_of visit.node (6 + 2 * slot) child ∷ []) (loaded_of visit.node at value) h

      below_there : (i : ℕ) → i < slot → (s : ℕ) × ((loaded_word (7 + 2 * i) words ≡ Some s) × Contains all.loaded (loaded_of visit.node (7 + 2 * i) s) × (s < pc))
      below_there i l =
          let b = w.below i l in (b.0, (word_other (6 + 2 * slot) child (7 + 2 * i) w.sees.sight.words (λ e. omega (arith, e)) ∙ b.1.0, among (7 + 2 * i) b.0 b.1.1, b.1.2))

      -- the place that the pair gives
      named_at : (d i more : ℕ) → i + d ≡ slot → d < more → named_place child w.sees.place words i more ≡ place_between w.sees.place (low_of w.sees.place slot words) (loaded_word (7 + 2 * slot) words)
      named_at d i zero e less = absurd (omega (arith, less))
      named_at zero i (suc more) e less =
          let here : i ≡ slot = omega (arith, e) in
          subst (λ j. (if is_loaded_as child (loaded_word (6 + 2 * j) words) then place_between w.sees.place (low_of w.sees.place j words) (loaded_word (7 + 2 * j) words) else named_place child w.sees.place words (j + 1) more) ≡ place_between w.sees.place (low_of w.sees.place slot words) (loaded_word (7 + 2 * slot) words)) (sym here)
          (ap (λ b. if b then place_between w.sees.place (low_of w.sees.place slot words) (loaded_word (7 + 2 * slot) words) else named_place child w.sees.place words (slot + 1) more) (ap (is_loaded_as child) child_there ∙ eq-eqb child child refl))
      named_at (suc d) i (suc more) e less =
          ap (λ b. if b then place_between w.sees.place (low_of w.sees.place i words) (loaded_word (7 + 2 * i) words) else named_place child w.sees.place words (i + 1) more) (ap (is_loaded_as child) (no_other i (λ same. omega (arith, e, same))))
          ∙ named_at d (i + 1) more (omega (arith, e)) (omega (arith, less))

      low_there : (j : ℕ) → j ≡ slot → (low : ℕ) × ((low_of w.sees.place j words ≡ Some low) × (low ≤ pc))
      low_there zero e = (w.sees.place.low, (refl, w.sees.inside.0))
      low_there (suc i) e = let b = below_there i (omega (arith, e)) in (b.0 + 1, (ap (option_map (λ separator'. separator' + 1)) b.1.0, (let l = b.1.2 in omega (arith, l))))

      abbrev low : (low : ℕ) × ((low_of w.sees.place slot words ≡ Some low) × (low ≤ pc))
      low = low_there slot refl

      abbrev next : NodeBounds
      next = record { level = w.sees.place.level - 1; low = low.0; high = separator }

      gives : place_under child all.sight (place_of all.sight) ≡ Some next
      gives =
          ap (place_under child all.sight) all.placed
          ∙ (ap (λ b. if b then named_place child w.sees.place words 0 (pairs_in_sight (loaded_word 5 words)) else None) (lt-ltb 0 w.sees.place.level (let l = w.sees.level in omega (arith, l, above)))
          ∙ (ap (λ o. named_place child w.sees.place words 0 (pairs_in_sight o)) count_there
          ∙ (ap (λ b. named_place child w.sees.place words 0 (if b then count else 0)) (le-leb count 15 few)
          ∙ (named_at slot 0 count (omega arith) slots
          ∙ (ap (λ o. place_between w.sees.place o (loaded_word (7 + 2 * slot) words)) low.1.0 ∙ ap (place_between w.sees.place (Some low.0)) separator_there)))))

      pub child_seen : child ≢ 0 → child ≢ visit.node → SeesChild t pc k visit count child k3
      child_seen not_root other = record {
        sees = all;
        counted = count_there;
        other = other;
        below = not_root;
        way = inr (
          visit.node,
          slot,
          record {
            named = last_loaded w.sees.loaded (loaded_of visit.node (6 + 2 * slot) child);
            separator = (separator, (among (7 + 2 * slot) separator at_slot.1.1, at_slot.1.2));
            before = λ i l. let b = below_there i l in (b.0, (b.1.1, b.1.2));
          },
        );
        next = next;
        placed = gives;
        level = (let l = w.sees.level in omega (arith, l, above));
        inside = (low.1.1, at_slot.1.2);
      }

      -- no node has such a child
      pub child_wrong : (child ≡ 0) ⊎ ((child ≡ visit.node) ⊎ (t.nodes ≤ child)) → SeesNone t pc k visit k3
      child_wrong wrong = record { sees = all; never = never }
        where
          never : (shape : NodeData) → Agrees t all.sight shape → ⊥
          never shape a =
              let inner = inner_node t all.sight shape a all.place all.placed (let l = all.level in omega (arith, l, above)) in
              let number : node_word a.words 5 ≡ count = loaded_is a.words words 5 count a.loaded_so count_there in
              let kids = subst (λ b. AllByRecursion (λ x. (x.child < t.nodes) × (x.child ≢ 0) × (inner.live.places x.child ≡ x.frame)) (branches_from (shape.level - 1) shape.low (pairs_in b))) inner.is inner.live.children in
              let b = branch_there (λ x. (x.child < t.nodes) × (x.child ≢ 0) × (inner.live.places x.child ≡ x.frame)) a.words (shape.level - 1) 0 slot (node_word a.words 5) shape.low inner.pairs inner.read (omega (arith, number, slots)) kids in
              let here : 6 + 2 * (0 + slot) ≡ 6 + 2 * slot = omega arith in
              let is_child : b.0.child ≡ child = b.1.1 ∙ (ap (node_word a.words) here ∙ loaded_is a.words words (6 + 2 * slot) child a.loaded_so child_there) in
              by_wrong wrong b.0.child inner.live.places b.1.0.0 b.1.0.1 is_child (ap (λ (f : NodeBounds). f.level) b.1.0.2 ∙ b.1.2) (ap (λ (f : NodeBounds). f.level) inner.live.own) shape.level inner.level
            where
              same_node : all.sight.node ≡ visit.node
              same_node = node_of_sight visit.node all.sights.nodes all.sight all.found

              by_wrong : (child ≡ 0) ⊎ ((child ≡ visit.node) ⊎ (t.nodes ≤ child)) → (x : ℕ) (places : ℕ → NodeBounds) → x < t.nodes → x ≢ 0 → x ≡ child → {level : ℕ} → (places x).level ≡ level - 1 → (places all.sight.node).level ≡ level → (own : ℕ) → 0 < level → ⊥
              by_wrong (inl root) x places inside not_root e one self level positive = not_root (e ∙ root)
              by_wrong (inr (inl same)) x places inside not_root e one self level positive =
                  let is : (places x).level ≡ (places all.sight.node).level = ap (λ n. (places n).level) (e ∙ (same ∙ sym same_node)) in omega (arith, is, one, self, positive)
              by_wrong (inr (inr large)) x places inside not_root e one self level positive = omega (arith, inside, e, large)

  -- no node has so many pairs
  pub count_wrong : (k1 : CallerData) (count : ℕ) → SeesBelow t pc k visit count 0 0 k1 → 15 < count → 0 < visit.level → SeesNone t pc k visit k1
  count_wrong k1 count w many above = record {
    sees = at_most t pc k visit 1 17 k1 (omega arith) w.sees;
    never = λ shape a.
        let inner = inner_node t w.sees.sight shape a w.sees.place w.sees.placed (let l = w.sees.level in omega (arith, l, above)) in
        let number : node_word a.words 5 ≡ count = loaded_is a.words w.sees.sight.words 5 count a.loaded_so w.counted in
        let all = pairs_length a.words 6 (node_word a.words 5) inner.pairs inner.read in
        let few = inner.few in omega (arith, all, few, number, many);
  }

  -- the separators of a node reach its high fence
  pub all_below : (k1 : CallerData) (count slot : ℕ) → SeesBelow t pc k visit count 15 slot k1 → count ≤ slot → 0 < visit.level → SeesNone t pc k visit k1
  all_below k1 count slot w end above = record {
    sees = at_most t pc k visit (1 + 15) 17 k1 (omega arith) w.sees;
    never = λ shape a.
        let inner = inner_node t w.sees.sight shape a w.sees.place w.sees.placed (let l = w.sees.level in omega (arith, l, above)) in
        let number : node_word a.words 5 ≡ count = loaded_is a.words w.sees.sight.words 5 count a.loaded_so w.counted in
        let placed = inner.live.placed in let inside = w.sees.inside in
        reached a.words pc 0 (node_word a.words 5) shape.low shape.high inner.pairs inner.read inner.cut
        (λ j l. let b = w.below j (omega (arith, l, number, end)) in let s = b.1.2 in let is = loaded_is a.words w.sees.sight.words (7 + 2 * j) b.0 a.loaded_so b.1.0 in omega (arith, s, is))
        (let e = placed.1 in let i = inside.0 in omega (arith, e, i)) (let e = placed.2 in let i = inside.1 in omega (arith, e, i));
  }
