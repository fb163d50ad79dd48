-- The stores that write a held node, and what they make of its holder's log.
use Rattle.std.proofs.Math.Bool.{and-false}
use Rattle.std.proofs.Common.{◌≡◌, ◌≢◌, ℕ, zero, suc, ◌+◌, ◌-◌, ◌<◌, ◌≤◌, ◌⊎◌, inl, inr, ⊎_elim, rules, Bool, true, false, cond, ◌&&◌, ◌==◌, List, [], ◌∷◌, ◌++◌, map, Option, Some, None, IsSome, IsSomeAnd, IsTrue, option_map, set, nat_eq, nat_le, if◌then◌else◌, refl, ap, sym, ◌∙◌, subst, arith, ne_eqb, leb-true, leb-false}
use Rattle.std.specs.Option.{option_to_list}
use Rattle.std.proofs.lemmas.Option.{none-some, cond_some}
use native.Mathlib.Decide.{ℕ_discrete}
use Rattle.tree_laws.specs.Numbers.{is_among}
use Rattle.tree_shape.specs.NodeData.{NodeData, Body, Pairs, Entries, Link}
use Rattle.word_rule.specs.declared.log.Log.{Log}
use Rattle.word_rule.specs.declared.log.Holding.{Holding}
use Rattle.word_rule.specs.Exchange.{after_exchange, group_of, is_lawful, settle, settle_free, top_of}
use Rattle.word_rule.specs.Held.{edited, held_of, marked_in}
use Rattle.word_rule.specs.Spelling.{node_word}
use Rattle.word_rule.specs.Steps.{MayStore, after_node_store, frees, store_in, stored_log}
use Rattle.node_store.specs.declared.writing.Store.{Store}
use Rattle.node_store.specs.Holding.{AgreeUpto, after_node_stores}
use Rattle.node_store.specs.Sights.{after_words}
use Rattle.node_store.specs.Writing.{count_of, kind_of_body, place_in_turn, store_in_turn, store_of, stores_upto, after_stores, wanted_node_word}
use Rattle.free_list.proofs.LockWrites.{held_changed, held_edited, plain_store}
use Rattle.node_store.proofs.Sighted.{holdings_same}
use Rattle.node_store.proofs.Stores.{comes_before, never_again, place_inside, same_store}

pub append_node_stores : (n : ℕ) (made more : List Store) (v : Log) → after_node_stores n (made ++ more) v ≡ after_node_stores n more (after_node_stores n made v)
unfolding after_node_stores
append_node_stores n [] more v = refl
append_node_stores n (x ∷ made) more v = append_node_stores n made more (after_node_store n x.at x.value v)

pub may_stays : (n at value : ℕ) (v : Log) → frees n at value v ≡ false → MayStore n v → MayStore n (after_node_store n at value v)
may_stays n at value v e may =
    subst (MayStore n) (sym (plain_store n at value v e))
    (subst (λ o. IsSomeAnd o (λ h. IsSome h.mark ⊎ IsTrue (is_among v.holdings.out n))) (sym (held_edited n (store_in at value) (λ h. refl) v.holdings.held)) (go (held_of n v.holdings.held) may))
  where
    go : (o : Option Holding) → IsSomeAnd o (λ h. IsSome h.mark ⊎ IsTrue (is_among v.holdings.out n)) → IsSomeAnd (option_map (store_in at value) o) (λ h. IsSome h.mark ⊎ IsTrue (is_among v.holdings.out n))
    go None may = may
    go (Some h) may = may

-- what is stored in a turn
record Stored (s : NodeData) (t : ℕ) (x : Store) : Type 0 where
  pub at_is : x.at ≡ place_in_turn t
  pub value_is : wanted_node_word s x.at ≡ Some x.value

stored : (s : NodeData) (words : List ℕ) (t : ℕ) (x : Store) → store_in_turn s words t ≡ Some x → Stored s t x
stored s words t x is = go (wanted_node_word s (place_in_turn t)) refl is
  where
    one : (value : ℕ) → wanted_node_word s (place_in_turn t) ≡ Some value → record { at = place_in_turn t; value = value } ≡ x → Stored s t x
    one value w e = subst (Stored s t) e (record { at_is = refl; value_is = w })

    go : (o : Option ℕ) → wanted_node_word s (place_in_turn t) ≡ o → store_of words (place_in_turn t) o ≡ Some x → Stored s t x
    go None w e = absurd (none-some x e)
    go (Some value) w e = differs (nat_eq (node_word words (place_in_turn t)) value) e
      where
        differs : (b : Bool) → (if b then None else Some record { at = place_in_turn t; value = value }) ≡ Some x → Stored s t x
        differs true e = absurd (none-some x e)
        differs false e = one value w (cond_some true (record { at = place_in_turn t; value = value }) x e).1

-- whether the kind of a free node is yet to be stored, or never will be
abbrev pub IsStill : NodeData → ℕ → Type 0
IsStill s t = (t ≤ 33) ⊎ (kind_of_body s.body ≢ 2)

above_one : (t : ℕ) → t ≤ 32 → place_in_turn t ≢ 1
above_one t few e = never_again (place_in_turn t) (place_in_turn 33) (comes_before t 33 (omega (arith, few)) (omega arith)) e

can_store : (s : NodeData) (words : List ℕ) (t : ℕ) (x : Store) → t < 35 → store_in_turn s words t ≡ Some x → IsStill s t
can_store s words t x less is = go (nat_le t 33) refl
  where
    never_link : (body : Body) → IsSome (count_of body) → kind_of_body body ≢ 2
    never_link (Pairs pairs) is e = omega (arith, e)
    never_link (Entries entries) is e = omega (arith, e)
    never_link (Link next) is e = search rules

    go : (b : Bool) → nat_le t 33 ≡ b → IsStill s t
    go true few = inl (leb-true t 33 few)
    go false more =
        let last : t ≡ 34 = omega (arith, less, leb-false t 33 more) in
        let made = stored s words t x is in
        let five : x.at ≡ 5 = made.at_is ∙ ap place_in_turn last in
        let count : count_of s.body ≡ Some x.value = subst (λ k. wanted_node_word s k ≡ Some x.value) five made.value_is in
        inr (never_link s.body (subst IsSome (sym count) (search rules)))

-- a store frees nothing before the kind's turn, nor where the node isn't to be free
frees_nothing : (n : ℕ) (s : NodeData) (words : List ℕ) (t : ℕ) (x : Store) (v : Log) → t < 35 → store_in_turn s words t ≡ Some x → IsStill s (t + 1) → frees n x.at x.value v ≡ false
frees_nothing n s words t x v less is still = go (ℕ_discrete x.at 1)
  where
    kind_is : x.at ≡ 1 → x.value ≡ kind_of_body s.body
    kind_is e =
        let made = stored s words t x is in
        let w : Some (kind_of_body s.body) ≡ Some x.value = subst (λ k. wanted_node_word s k ≡ Some x.value) e made.value_is in
        sym (cond_some true (kind_of_body s.body) x.value w).1

    last_first : t + 1 ≤ 33 → x.at ≡ 1 → ⊥
    last_first early e = above_one t (omega (arith, early)) (sym (stored s words t x is).at_is ∙ e)

    other : x.at ≡ 1 → x.value ≢ 2
    other e two = ⊎_elim (λ (early : t + 1 ≤ 33). last_first early e) (λ (never : kind_of_body s.body ≢ 2). never (sym (kind_is e) ∙ two)) still

    go : Dec (x.at ≡ 1) → frees n x.at x.value v ≡ false
    go (no ne) = ap (λ b. b && (x.value == 2) && marked_in v.holdings.held n) (ne_eqb x.at 1 ne)
    go (yes e) = ap (λ b. (x.at == 1) && b && marked_in v.holdings.held n) (ne_eqb x.value 2 (other e)) ∙ ap (λ b. b && marked_in v.holdings.held n) (and-false (x.at == 1))

-- one turn more
pub turn_stored : (n : ℕ) (s : NodeData) (words : List ℕ) (t : ℕ) (v : Log) → after_node_stores n (stores_upto s words (t + 1)) v ≡ after_node_stores n (option_to_list (store_in_turn s words t)) (after_node_stores n (stores_upto s words t) v)
turn_stored n s words t v =
    let next : t + 1 ≡ suc t = omega arith in
    ap (λ k. after_node_stores n (stores_upto s words k) v) next
    ∙ append_node_stores n (stores_upto s words t) (option_to_list (store_in_turn s words t)) v

pub one_store : (n : ℕ) (x : Store) (v : Log) → after_node_stores n (option_to_list (Some x)) v ≡ after_node_store n x.at x.value v
unfolding after_node_stores
one_store n x v = refl

pub no_store : (n : ℕ) (v : Log) → after_node_stores n (option_to_list None) v ≡ v
unfolding after_node_stores
no_store n v = refl

pub turn_some : (n : ℕ) (s : NodeData) (words : List ℕ) (t : ℕ) (x : Store) (v : Log) → store_in_turn s words t ≡ Some x → after_node_store n x.at x.value (after_node_stores n (stores_upto s words t) v) ≡ after_node_stores n (stores_upto s words (t + 1)) v
turn_some n s words t x v is =
    sym (turn_stored n s words t v ∙ (ap (λ o. after_node_stores n (option_to_list o) (after_node_stores n (stores_upto s words t) v)) is ∙ one_store n x (after_node_stores n (stores_upto s words t) v)))

pub turn_none : (n : ℕ) (s : NodeData) (words : List ℕ) (t : ℕ) (v : Log) → store_in_turn s words t ≡ None → after_node_stores n (stores_upto s words t) v ≡ after_node_stores n (stores_upto s words (t + 1)) v
turn_none n s words t v is =
    sym (turn_stored n s words t v ∙ (ap (λ o. after_node_stores n (option_to_list o) (after_node_stores n (stores_upto s words t) v)) is ∙ no_store n (after_node_stores n (stores_upto s words t) v)))

pub may_after_words : (n : ℕ) (words : List ℕ) (count : ℕ) (v : Log) → MayStore n v → MayStore n (after_words n words count v)
may_after_words n words count v may =
    subst (λ hs. IsSomeAnd (held_of n hs.held) (λ h. IsSome h.mark ⊎ IsTrue (is_among hs.out n))) (sym (holdings_same n words count v)) may

-- the word of a store is one after the version
pub store_inside : (s : NodeData) (words : List ℕ) (t : ℕ) (x : Store) → t < 35 → store_in_turn s words t ≡ Some x → (1 ≤ x.at) × (x.at ≤ 35)
store_inside s words t x less is =
    let inside = place_inside t less in
    let here = (stored s words t x is).at_is in
    (omega (arith, inside.0, here), omega (arith, inside.1, here))

pub may_next : (n : ℕ) (s : NodeData) (words : List ℕ) (t : ℕ) (x : Store) (v : Log) → t < 35 → store_in_turn s words t ≡ Some x → (IsStill s t → MayStore n v) → IsStill s (t + 1) → MayStore n (after_node_store n x.at x.value v)
may_next n s words t x v less is may still =
    may_stays n x.at x.value v (frees_nothing n s words t x v less is still) (may (can_store s words t x less is))

pub may_now : (n : ℕ) (s : NodeData) (words : List ℕ) (t : ℕ) (x : Store) (v : Log) → t < 35 → store_in_turn s words t ≡ Some x → (IsStill s t → MayStore n v) → MayStore n v
may_now n s words t x v less is may = may (can_store s words t x less is)

pub still_before : (s : NodeData) (t : ℕ) → IsStill s (t + 1) → IsStill s t
still_before s t (inl few) = inl (omega (arith, few))
still_before s t (inr never) = inr never

-- the words that a log has of a held node
abbrev pub HasHeld : ℕ → List ℕ → Log → Type 0
HasHeld n words v = IsSomeAnd (held_of n v.holdings.held) (λ h. h.words ≡ words)

has_changed : (n : ℕ) (f : Holding → Holding) (words words' : List ℕ) → ((h : Holding) → h.words ≡ words → (f h).words ≡ words') → (o : Option Holding) → IsSomeAnd o (λ h. h.words ≡ words) → IsSomeAnd (option_map f o) (λ h. h.words ≡ words')
has_changed n f words words' keeps None h = h
has_changed n f words words' keeps (Some x) h = keeps x h

has_stored : (n at value : ℕ) (words : List ℕ) (v : Log) → HasHeld n words v → HasHeld n (set words (at - 1) value) (after_node_store n at value v)
has_stored n at value words v has = go (frees n at value v)
  where
    plain : HasHeld n (set words (at - 1) value) (stored_log n at value v)
    plain = subst (λ o. IsSomeAnd o (λ h. h.words ≡ set words (at - 1) value)) (sym (held_edited n (store_in at value) (λ h. refl) v.holdings.held))
        (has_changed n (store_in at value) words (set words (at - 1) value) (λ h e. ap (λ ws. set ws (at - 1) value) e) (held_of n v.holdings.held) has)

    exchanged : (f : Holding → Holding) → ((h : Holding) → (f h).node ≡ h.node) → ((h : Holding) → (f h).words ≡ h.words) → IsSomeAnd (held_of n (map f (stored_log n at value v).holdings.held)) (λ h. h.words ≡ set words (at - 1) value)
    exchanged f keeps same = subst (λ o. IsSomeAnd o (λ h. h.words ≡ set words (at - 1) value)) (sym (held_changed n f keeps (stored_log n at value v).holdings.held))
        (has_changed n f (set words (at - 1) value) (set words (at - 1) value) (λ h e. same h ∙ e) (held_of n (stored_log n at value v).holdings.held) plain)

    settled : (b : Bool) → HasHeld n (set words (at - 1) value) (if b then after_exchange (stored_log n at value v) (top_of (stored_log n at value v) None) (is_among (group_of (stored_log n at value v) None)) else settle_free (stored_log n at value v))
    settled true = exchanged _ (λ h. refl) (λ h. refl)
    settled false = exchanged _ (λ h. refl) (λ h. refl)

    go : (b : Bool) → HasHeld n (set words (at - 1) value) (if b then settle None (stored_log n at value v) else stored_log n at value v)
    go true = settled (is_lawful (stored_log n at value v) None)
    go false = plain

pub has_all_stored : (n : ℕ) (made : List Store) (words : List ℕ) (v : Log) → HasHeld n words v → HasHeld n (after_stores made words) (after_node_stores n made v)
unfolding after_node_stores
has_all_stored n [] words v has = has
has_all_stored n (x ∷ made) words v has = has_all_stored n made (set words (x.at - 1) x.value) (after_node_store n x.at x.value v) (has_stored n x.at x.value words v has)

-- the stores are a matter of the first 35 words
pub stores_same : (s : NodeData) (words others : List ℕ) → AgreeUpto words others 35 → (turns : ℕ) → turns ≤ 35 → stores_upto s words turns ≡ stores_upto s others turns
stores_same s words others same zero most = refl
stores_same s words others same (suc t) most =
    let inside = place_inside t (omega (arith, most)) in
    let here = same_store words others (place_in_turn t) (wanted_node_word s (place_in_turn t)) (same (place_in_turn t) inside.0 inside.1) in
    (λ i. stores_same s words others same t (omega (arith, most)) i ++ option_to_list (here i))
