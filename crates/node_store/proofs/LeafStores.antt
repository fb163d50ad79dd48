-- The stores that write a leaf in its place, turn by turn.
use Rattle.std.proofs.Common.{◌≡◌, ◌≢◌, ℕ, zero, suc, ◌+◌, ◌-◌, ◌<◌, ◌≤◌, Bool, true, false, List, [], ◌∷◌, ◌++◌, Some, None, nat_eq, if◌then◌else◌, refl, ap, sym, ◌∙◌, arith, append-nil, append_assoc, eq-eqb}
use Rattle.std.specs.Option.{option_to_list}
use native.Mathlib.Decide.{ℕ_discrete}
use Rattle.tree_shape.specs.NodeData.{NodeData}
use Rattle.word_rule.specs.Spelling.{node_word}
use Rattle.node_store.specs.declared.entries.EntryWords.{EntryWords}
use Rattle.node_store.specs.declared.writing.Store.{Store}
use Rattle.node_store.specs.Entries.{entry_words_in, store_over, stores_over}
use Rattle.node_store.specs.Writing.{count_of, place_in_turn, store_of, stores, stores_upto, wanted_node_word}
use Rattle.node_store.proofs.Stores.{High, Last, Low, Turn, high_place, turn}

-- a store of what is wanted
one_store : (words : List ℕ) (at value : ℕ) → option_to_list (store_of words at (Some value)) ≡ store_over (node_word words at) (record { at = at; value = value })
one_store words at value = go (nat_eq (node_word words at) value)
  where
    go : (b : Bool) → option_to_list {X = Store} (if b then None else Some record { at = at; value = value }) ≡ (if b then [] else record { at = at; value = value } ∷ [])
    go true = refl
    go false = refl

-- one turn more, that of an item's word
pub one_more : (s : NodeData) (words : List ℕ) (at value : ℕ) → 6 ≤ at → at ≤ 35 → wanted_node_word s at ≡ Some value → stores_upto s words (36 - at) ≡ stores_upto s words (35 - at) ++ store_over (node_word words at) (record { at = at; value = value })
one_more s words at value low high wants =
    let next : 36 - at ≡ suc (35 - at) = omega (arith, high) in
    let place : place_in_turn (35 - at) ≡ at = high_place (35 - at) (omega (arith, low)) ∙ omega (arith, high) in
    ap (stores_upto s words) next
    ∙ ap (λ xs. stores_upto s words (35 - at) ++ xs)
    (ap (λ k. option_to_list (store_of words k (wanted_node_word s k))) place
    ∙ (ap (λ o. option_to_list (store_of words at o)) wants ∙ one_store words at value))

-- three turns more, those of an entry's words
pub three_more : (s : NodeData) (words : List ℕ) (at : ℕ) (e : EntryWords) → 6 ≤ at → at ≤ 33 → wanted_node_word s at ≡ Some e.base → wanted_node_word s (at + 1) ≡ Some e.size → wanted_node_word s (at + 2) ≡ Some e.payload
    → stores_upto s words (36 - at) ≡ stores_upto s words (33 - at) ++ stores_over (entry_words_in words at) e
three_more s words at e low high base size payload =
    let xs = stores_upto s words (33 - at) in
    let a = store_over (node_word words (at + 2)) (record { at = at + 2; value = e.payload }) in
    let b = store_over (node_word words (at + 1)) (record { at = at + 1; value = e.size }) in
    let c = store_over (node_word words at) (record { at = at; value = e.base }) in
    let two : 35 - at ≡ 36 - (at + 1) = omega arith in
    let three : 35 - (at + 1) ≡ 36 - (at + 2) = omega arith in
    let start : 35 - (at + 2) ≡ 33 - at = omega arith in
    let first : stores_upto s words (35 - (at + 1)) ≡ xs ++ a = ap (stores_upto s words) three ∙ (one_more s words (at + 2) e.payload (omega (arith, low)) (omega (arith, high)) payload ∙ ap (λ k. stores_upto s words k ++ a) start) in
    let second : stores_upto s words (35 - at) ≡ xs ++ a ++ b = ap (stores_upto s words) two ∙ (one_more s words (at + 1) e.size (omega (arith, low)) (omega (arith, high)) size ∙ ap (λ ys. ys ++ b) first) in
    one_more s words at e.base low (omega (arith, high)) base
    ∙ (ap (λ ys. ys ++ c) second
    ∙ (ap (λ ys. ys ++ c) (append_assoc xs a b) ∙ append_assoc xs (a ++ b) c))

-- nothing is stored in turns whose words are as they are to be
same_upto : (s : NodeData) (words : List ℕ) (a b : ℕ) → a ≤ b → ((t : ℕ) → a ≤ t → t < b → wanted_node_word s (place_in_turn t) ≡ Some (node_word words (place_in_turn t))) → stores_upto s words b ≡ stores_upto s words a
same_upto s words a zero upto same = let is : zero ≡ a = omega (arith, upto) in ap (stores_upto s words) is
same_upto s words a (suc b) upto same = go (ℕ_discrete a (suc b)) (λ less. same_upto s words a b less (λ t more few. same t more (omega (arith, few))))
  where
    none : (at : ℕ) → wanted_node_word s at ≡ Some (node_word words at) → option_to_list (store_of words at (wanted_node_word s at)) ≡ []
    none at is = ap (λ o. option_to_list (store_of words at o)) is ∙ ap (λ c. option_to_list {X = Store} (if c then None else Some record { at = at; value = node_word words at })) (eq-eqb (node_word words at) (node_word words at) refl)

    go : Dec (a ≡ suc b) → (a ≤ b → stores_upto s words b ≡ stores_upto s words a) → stores_upto s words (suc b) ≡ stores_upto s words a
    go (yes e) rest = ap (stores_upto s words) (sym e)
    go (no ne) rest =
        ap (λ xs. stores_upto s words b ++ xs) (none (place_in_turn b) (same b (omega (arith, upto, ne)) (omega arith)))
        ∙ (append-nil (stores_upto s words b) ∙ rest (omega (arith, upto, ne)))

-- from a word down to the kind, where all before it are as they are to be
pub tail_same : (s : NodeData) (words : List ℕ) (first : ℕ) → 6 ≤ first → first ≤ 36 → ((at : ℕ) → 1 ≤ at → at < first → at ≢ 5 → wanted_node_word s at ≡ Some (node_word words at)) → stores_upto s words 34 ≡ stores_upto s words (36 - first)
tail_same s words first low high same = same_upto s words (36 - first) 34 (omega (arith, low)) (λ t more less. go t more less (turn t (omega (arith, less))))
  where
    go : (t : ℕ) → 36 - first ≤ t → t < 34 → Turn t → wanted_node_word s (place_in_turn t) ≡ Some (node_word words (place_in_turn t))
    go t more less (High few is) = same (place_in_turn t) (omega (arith, few, is)) (omega (arith, few, is, more)) (λ e. omega (arith, few, is, e))
    go t more less (Low many few is) = same (place_in_turn t) (omega (arith, few, is)) (omega (arith, many, is, low)) (λ e. omega (arith, many, is, e))
    go t more less (Last last is) = absurd (omega (arith, last, less))

-- the count comes last
pub count_last : (s : NodeData) (words : List ℕ) (value : ℕ) → count_of s.body ≡ Some value → stores s words ≡ stores_upto s words 34 ++ store_over (node_word words 5) (record { at = 5; value = value })
count_last s words value is =
    ap (λ xs. stores_upto s words 34 ++ xs) (ap (λ o. option_to_list (store_of words 5 o)) is ∙ one_store words 5 value)
