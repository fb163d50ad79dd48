-- The stores of a node, one after another.
use Rattle.std.proofs.Common.{◌≡◌, ◌≢◌, ℕ, zero, suc, ◌+◌, ◌-◌, ◌<◌, ◌≤◌, inl, inr, Bool, true, false, List, [], ◌∷◌, ◌++◌, length, Option, Some, None, IfSome, set, nat_eq, nat_lt, if◌then◌else◌, refl, ap, sym, ◌∙◌, subst, arith, length-set, get_or-set_same, get_or-set_other, lt-ltb, le-ltb, ltb-true, ltb-false}
use Rattle.std.proofs.lemmas.Bool.{eqb-true, eqb-false}
use Rattle.std.specs.List.{AllByRecursion}
use Rattle.std.specs.Option.{option_to_list}
use native.Mathlib.Decide.{ℕ_discrete}
use Rattle.word_rule.specs.Places.{CONTENT_WORDS}
use Rattle.word_rule.specs.Spelling.{node_word}
use Rattle.word_rule.proofs.Each.{all_append, all_map}
use Rattle.tree_shape.specs.NodeData.{NodeData}
use Rattle.node_store.specs.declared.writing.Store.{Store}
use Rattle.node_store.specs.Writing.{FitsWords, Write, ComesBefore, AreStoresInOrder, wanted_node_word, place_in_turn, store_of, store_in_turn, stores_upto, stores, after_stores}
use Rattle.node_store.proofs.Spelled.{wanted_is_spelled}

-- which word has its turn
pub high_place : (t : ℕ) → t < 30 → place_in_turn t ≡ 35 - t
high_place t less = ap (λ b. if b then 35 - t else (if nat_lt t 34 then 34 - t else 5)) (lt-ltb t 30 less)

low_place : (t : ℕ) → 30 ≤ t → t < 34 → place_in_turn t ≡ 34 - t
low_place t more less =
    ap (λ b. if b then 35 - t else (if nat_lt t 34 then 34 - t else 5)) (le-ltb t 30 more)
    ∙ ap (λ b. if b then 34 - t else 5) (lt-ltb t 34 less)

pub data Turn (t : ℕ) : Type 0 where
  High : t < 30 → place_in_turn t ≡ 35 - t → Turn t
  Low : 30 ≤ t → t < 34 → place_in_turn t ≡ 34 - t → Turn t
  Last : t ≡ 34 → place_in_turn t ≡ 5 → Turn t

pub turn : (t : ℕ) → t < 35 → Turn t
turn t less = high (nat_lt t 30) refl
  where
    low : 30 ≤ t → (b : Bool) → nat_lt t 34 ≡ b → Turn t
    low more true e = Low more (ltb-true t 34 e) (low_place t more (ltb-true t 34 e))
    low more false e = let is : t ≡ 34 = omega (arith, less, ltb-false t 34 e) in Last is (ap place_in_turn is)

    high : (b : Bool) → nat_lt t 30 ≡ b → Turn t
    high true e = High (ltb-true t 30 e) (high_place t (ltb-true t 30 e))
    high false e = low (ltb-false t 30 e) (nat_lt t 34) refl

pub place_inside : (t : ℕ) → t < 35 → (1 ≤ place_in_turn t) × (place_in_turn t ≤ 35)
place_inside t less = go (turn t less)
  where
    go : Turn t → (1 ≤ place_in_turn t) × (place_in_turn t ≤ 35)
    go (High few is) = (omega (arith, few, is), omega (arith, few, is))
    go (Low more few is) = (omega (arith, few, is), omega (arith, few, is))
    go (Last same is) = (omega (arith, is), omega (arith, is))

pub comes_before : (t u : ℕ) → t < u → u < 35 → ComesBefore (place_in_turn t) (place_in_turn u)
comes_before t u before less = go (turn t (omega (arith, before, less))) (turn u less)
  where
    go : Turn t → Turn u → ComesBefore (place_in_turn t) (place_in_turn u)
    go (High few is) (High few' is') = ((λ e. omega (arith, few, is, e)), inr (omega (arith, few, is, few', is', before)))
    go (High few is) (Low more few' is') = ((λ e. omega (arith, few, is, e)), inr (omega (arith, few, is, few', is', before)))
    go (High few is) (Last same is') = ((λ e. omega (arith, few, is, e)), inl is')
    go (Low more few is) (High few' is') = absurd (omega (arith, more, few', before))
    go (Low more few is) (Low more' few' is') = ((λ e. omega (arith, few, more, is, e)), inr (omega (arith, few, is, few', is', before)))
    go (Low more few is) (Last same is') = ((λ e. omega (arith, few, more, is, e)), inl is')
    go (Last same is) q = absurd (omega (arith, same, before, less))

pub never_again : (a b : ℕ) → ComesBefore a b → a ≢ b
never_again a b (far, inl count) e = far (e ∙ count)
never_again a b (far, inr less) e = omega (arith, less, e)

each_has_turn : (at : ℕ) → 1 ≤ at → at ≤ 35 → (t : ℕ) × ((t < 35) × (place_in_turn t ≡ at))
each_has_turn at least most = go (ℕ_discrete at 5) (nat_lt at 6) refl
  where
    go : Dec (at ≡ 5) → (b : Bool) → nat_lt at 6 ≡ b → (t : ℕ) × ((t < 35) × (place_in_turn t ≡ at))
    go (yes e) b is = (34, (omega arith, sym e))
    go (no ne) true is = let less = ltb-true at 6 is in (34 - at, (omega (arith, least), low_place (34 - at) (omega (arith, less, ne)) (omega (arith, least)) ∙ omega (arith, less)))
    go (no ne) false is = let more = ltb-false at 6 is in (35 - at, (omega (arith, more), high_place (35 - at) (omega (arith, more)) ∙ omega (arith, most)))

-- the words after stores
append_stores : (made more : List Store) (words : List ℕ) → after_stores (made ++ more) words ≡ after_stores more (after_stores made words)
append_stores [] more words = refl
append_stores (x ∷ made) more words = append_stores made more (set words (x.at - 1) x.value)

pub wide_after : (made : List Store) (words : List ℕ) → length (after_stores made words) ≡ length words
wide_after [] words = refl
wide_after (x ∷ made) words = wide_after made (set words (x.at - 1) x.value) ∙ length-set words (x.at - 1) x.value

-- a word that none of the stores is about
kept_word : (made : List Store) (words : List ℕ) (at : ℕ) → AllByRecursion (λ x. x.at - 1 ≢ at - 1) made → node_word (after_stores made words) at ≡ node_word words at
kept_word [] words at far = refl
kept_word (x ∷ made) words at far =
    kept_word made (set words (x.at - 1) x.value) at far.1 ∙ get_or-set_other words (x.at - 1) (at - 1) x.value 0 (λ e. far.0 (sym e))

-- what holds of a store that may be made at a word
of_store : (P : Store → Type 0) (words : List ℕ) (at : ℕ) (w : Option ℕ) → ((value : ℕ) → node_word words at ≢ value → P (record { at = at; value = value })) → AllByRecursion P (option_to_list (store_of words at w))
of_store P words at None f = tt
of_store P words at (Some value) f = go (nat_eq (node_word words at) value) refl
  where
    go : (b : Bool) → nat_eq (node_word words at) value ≡ b → AllByRecursion P (option_to_list (if b then None else Some record { at = at; value = value }))
    go true e = tt
    go false e = (f value (λ same. eqb-false (node_word words at) value e same), tt)

-- each store so far is of a turn so far, and changes its word
abbrev pub IsOfTurn : List ℕ → ℕ → Store → Type 0
IsOfTurn words turns x = (t : ℕ) × ((t < turns) × (x.at ≡ place_in_turn t) × (node_word words x.at ≢ x.value))

of_turns : (s : NodeData) (words : List ℕ) (turns : ℕ) → AllByRecursion (IsOfTurn words turns) (stores_upto s words turns)
of_turns s words zero = tt
of_turns s words (suc t) =
    all_append (IsOfTurn words (suc t)) (stores_upto s words t) (option_to_list (store_in_turn s words t))
    (all_map (IsOfTurn words t) (IsOfTurn words (suc t)) (λ x h. (h.0, (omega (arith, h.1.0), h.1.1, h.1.2))) (stores_upto s words t) (of_turns s words t))
    (of_store (IsOfTurn words (suc t)) words (place_in_turn t) (wanted_node_word s (place_in_turn t)) (λ value other. (t, (omega arith, refl, other))))

in_order_append : (made : List Store) (o : Option Store) → AreStoresInOrder made → AllByRecursion (λ x. AllByRecursion (λ y. ComesBefore x.at y.at) (option_to_list o)) made → AreStoresInOrder (made ++ option_to_list o)
in_order_append [] None h before = tt
in_order_append [] (Some y) h before = (tt, tt)
in_order_append (x ∷ made) o h before =
    (all_append (λ y. ComesBefore x.at y.at) made (option_to_list o) h.0 before.0, in_order_append made o h.1 before.1)

in_order : (s : NodeData) (words : List ℕ) (turns : ℕ) → turns ≤ 35 → AreStoresInOrder (stores_upto s words turns)
in_order s words zero most = tt
in_order s words (suc t) most =
    in_order_append (stores_upto s words t) (store_in_turn s words t) (in_order s words t (omega (arith, most)))
    (all_map (IsOfTurn words t) (λ x. AllByRecursion (λ y. ComesBefore x.at y.at) (option_to_list (store_in_turn s words t)))
    (λ x h. of_store (λ y. ComesBefore x.at y.at) words (place_in_turn t) (wanted_node_word s (place_in_turn t))
    (λ value other. subst (λ k. ComesBefore k (place_in_turn t)) (sym h.1.1) (comes_before h.0 t h.1.0 (omega (arith, most)))))
    (stores_upto s words t) (of_turns s words t))

-- a word whose turn is yet to come is as it was
pub yet_old : (s : NodeData) (words : List ℕ) (t u : ℕ) → t ≤ u → u < 35 → node_word (after_stores (stores_upto s words t) words) (place_in_turn u) ≡ node_word words (place_in_turn u)
yet_old s words t u until less =
    kept_word (stores_upto s words t) words (place_in_turn u)
    (all_map (IsOfTurn words t) (λ x. x.at - 1 ≢ place_in_turn u - 1)
    (λ x h e.
    let here = place_inside u less in
    let there = place_inside h.0 (omega (arith, h.1.0, until, less)) in
    let is = h.1.1 in
    never_again (place_in_turn h.0) (place_in_turn u) (comes_before h.0 u (omega (arith, h.1.0, until)) less) (omega (arith, e, is, here.0, there.0)))
    (stores_upto s words t) (of_turns s words t))

still_old : (s : NodeData) (words : List ℕ) (t : ℕ) → t < 35 → node_word (after_stores (stores_upto s words t) words) (place_in_turn t) ≡ node_word words (place_in_turn t)
still_old s words t less = yet_old s words t t (omega arith) less

-- the word whose turn it was is as it is to be
now_right : (old now : List ℕ) (at : ℕ) (w : Option ℕ) → 1 ≤ at → at ≤ length now → node_word now at ≡ node_word old at → IfSome w (λ value. node_word (after_stores (option_to_list (store_of old at w)) now) at ≡ value)
now_right old now at None least most same = tt
now_right old now at (Some value) least most same = go (nat_eq (node_word old at) value) refl
  where
    go : (b : Bool) → nat_eq (node_word old at) value ≡ b → node_word (after_stores (option_to_list (if b then None else Some record { at = at; value = value })) now) at ≡ value
    go true e = same ∙ eqb-true (node_word old at) value e
    go false e = get_or-set_same now (at - 1) value 0 (omega (arith, least, most))

-- what is right after some turns
abbrev pub IsRight : NodeData → List ℕ → ℕ → Type 0
IsRight s words t = IfSome (wanted_node_word s (place_in_turn t)) (λ value. node_word words (place_in_turn t) ≡ value)

right_again : (s : NodeData) (words now : List ℕ) (t u : ℕ) → t < u → u < 35 → IsRight s now t → IsRight s (after_stores (option_to_list (store_in_turn s words u)) now) t
right_again s words now t u before less right =
    let far : AllByRecursion (λ x. x.at - 1 ≢ place_in_turn t - 1) (option_to_list (store_in_turn s words u)) =
    of_store (λ x. x.at - 1 ≢ place_in_turn t - 1) words (place_in_turn u) (wanted_node_word s (place_in_turn u))
    (λ value other e.
    let here = place_inside u less in
    let there = place_inside t (omega (arith, before, less)) in
    never_again (place_in_turn t) (place_in_turn u) (comes_before t u before less) (omega (arith, e, here.0, there.0))) in
    subst (λ n. IfSome (wanted_node_word s (place_in_turn t)) (λ value. n ≡ value)) (sym (kept_word (option_to_list (store_in_turn s words u)) now (place_in_turn t) far)) right

right_upto : (s : NodeData) (words : List ℕ) → length words ≡ 35 → (turns : ℕ) → turns ≤ 35 → (t : ℕ) → t < turns → IsRight s (after_stores (stores_upto s words turns) words) t
right_upto s words wide zero most t less = absurd (omega (arith, less))
right_upto s words wide (suc u) most t less =
    let now : List ℕ = after_stores (stores_upto s words u) words in
    let was : t < u → IsRight s now t = (λ before. right_upto s words wide u (omega (arith, most)) t before) in
    subst (λ after. IsRight s after t) (sym (append_stores (stores_upto s words u) (option_to_list (store_in_turn s words u)) words)) (go now was refl (ℕ_discrete t u))
  where
    go : (now : List ℕ) → (t < u → IsRight s now t) → after_stores (stores_upto s words u) words ≡ now → Dec (t ≡ u) → IsRight s (after_stores (option_to_list (store_in_turn s words u)) now) t
    go now was is (yes e) =
        let inside = place_inside u (omega (arith, most)) in
        let long : length now ≡ 35 = ap length (sym is) ∙ wide_after (stores_upto s words u) words ∙ wide in
        let still = subst (λ ws. node_word ws (place_in_turn u) ≡ node_word words (place_in_turn u)) is (still_old s words u (omega (arith, most))) in
        subst (λ k. IsRight s (after_stores (option_to_list (store_in_turn s words u)) now) k) (sym e)
        (now_right words now (place_in_turn u) (wanted_node_word s (place_in_turn u)) inside.0 (omega (arith, inside.1, long)) still)
    go now was is (no ne) =
        let before : t < u = omega (arith, less, ne) in
        right_again s words now t u before (omega (arith, most)) (was before)

pub writes_node : (s : NodeData) (words : List ℕ) → length words ≡ CONTENT_WORDS → FitsWords s → Write s words (stores s words)
writes_node s words wide fits = record {
  places = all_map (IsOfTurn words 35) (λ x. (1 ≤ x.at) × (x.at ≤ CONTENT_WORDS)) (λ x h. let inside = place_inside h.0 h.1.0 in let is = h.1.1 in (omega (arith, inside.0, is), omega (arith, inside.1, is))) (stores s words) (of_turns s words 35);
  change = all_map (IsOfTurn words 35) (λ x. node_word words x.at ≢ x.value) (λ x h. h.1.2) (stores s words) (of_turns s words 35);
  order = in_order s words 35 (omega arith);
  spells = wanted_is_spelled s (after_stores (stores s words) words) fits
      (λ at least most. let t = each_has_turn at least most in subst (λ k. IfSome (wanted_node_word s k) (λ value. node_word (after_stores (stores s words) words) k ≡ value)) t.1.1 (right_upto s words wide 35 (omega arith) t.0 t.1.0));
}

-- a store is a matter of the word that it is about
pub same_store : (now words : List ℕ) (at : ℕ) (w : Option ℕ) → node_word now at ≡ node_word words at → store_of now at w ≡ store_of words at w
same_store now words at None e = refl
same_store now words at (Some value) e = ap (λ n. if nat_eq n value then None else Some record { at = at; value = value }) e

-- one turn more of a loop over the words
pub turn_over : (s : NodeData) (words : List ℕ) (t : ℕ) → after_stores (option_to_list (store_in_turn s words t)) (after_stores (stores_upto s words t) words) ≡ after_stores (stores_upto s words (t + 1)) words
turn_over s words t =
    let next : t + 1 ≡ suc t = omega arith in
    sym (append_stores (stores_upto s words t) (option_to_list (store_in_turn s words t)) words)
    ∙ ap (λ k. after_stores (stores_upto s words k) words) (sym next)
