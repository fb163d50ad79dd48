-- What the words of a node are to be so that they spell it, and the stores that make old words so.
use Rattle.std.specs.Prelude.{◌≡◌, ◌≢◌, ℕ, zero, suc, ◌+◌, ◌-◌, ◌^◌, ◌<◌, ◌≤◌, ◌==◌, ◌⊎◌, nat_lt}
use Rattle.std.specs.Prelude.{List, [], ◌∷◌, ◌++◌, length, Option, Some, None, slice_get, slice_set}
use Rattle.std.specs.Prelude.{if◌then◌else◌}
use Rattle.std.specs.List.{AllByRecursion}
use Rattle.std.specs.Option.{option_to_list}
use Rattle.reg_model.specs.SpanData.{IsSpan}
use Rattle.reg_model.specs.declared.span.Member.{Member}
use Rattle.tree_shape.specs.declared.limits.TheConstants.{PAIRS, ENTRIES}
use Rattle.tree_shape.specs.declared.pair.Pair.{Pair}
use Rattle.tree_shape.specs.NodeData.{NodeData, Body, Pairs, Entries, Link}
use Rattle.word_rule.specs.Places.{CONTENT_WORDS}
use Rattle.word_rule.specs.Spelling.{node_word, SpellsNode}
use Rattle.node_store.specs.declared.writing.Store.{Store}

-- the kind of a node, which is word 1
abbrev pub kind_of_body : Body → ℕ
kind_of_body (Pairs pairs) = 0
kind_of_body (Entries entries) = 1
kind_of_body (Link next) = 2

-- the count, which is word 5; a free node has none
abbrev pub count_of : Body → Option ℕ
count_of (Pairs pairs) = Some (length pairs)
count_of (Entries entries) = Some (length entries)
count_of (Link next) = None

-- the words from word 6 on: a child and its separator; a base, a size and a payload; or the link
abbrev pub pair_words : List Pair → List ℕ
pair_words [] = []
pair_words (p ∷ pairs) = p.child ∷ p.separator ∷ pair_words pairs

abbrev pub entry_words : List Member → List ℕ
entry_words [] = []
entry_words (m ∷ entries) =
    m.span.first ∷ (m.span.last + 1 - m.span.first) ∷ m.payload ∷ entry_words entries

abbrev pub item_words : Body → List ℕ
item_words (Pairs pairs) = pair_words pairs
item_words (Entries entries) = entry_words entries
item_words (Link next) = next ∷ []

-- what the word of a node with this number is to be, and nothing where any will do
abbrev pub wanted_node_word : NodeData → ℕ → Option ℕ
wanted_node_word s at =
    if at == 1 then Some (kind_of_body s.body)
    else (if at == 2 then Some s.level
    else (if at == 3 then Some s.low
    else (if at == 4 then Some s.high
    else (if at == 5 then count_of s.body else slice_get (item_words s.body) (at - 6)))))

-- what a word becomes that is to be another, and one that any will do for
abbrev pub word_over : Option ℕ → ℕ → ℕ
word_over None old = old
word_over (Some value) old = value

-- A node was written over words: each is as it is to be, and where any will do it stayed.
abbrev pub AreSpelledOver : NodeData → List ℕ → List ℕ → Type 0
AreSpelledOver s words wanted = (at : ℕ) → 1 ≤ at → at ≤ CONTENT_WORDS
    → node_word wanted at ≡ word_over (wanted_node_word s at) (node_word words at)

-- words with numbers in a row, from a place on
abbrev pub with_row : ℕ → List ℕ → List ℕ → List ℕ
with_row place [] words = words
with_row place (n ∷ numbers) words = with_row (place + 1) numbers (slice_set words place n)

-- words over which what a node holds was written: its kind, its count if it has one, and its items
abbrev pub spelled_pairs : List Pair → List ℕ → List ℕ
spelled_pairs pairs words =
    with_row 5 (pair_words pairs) (slice_set (slice_set words 0 0) 4 (length pairs))

abbrev pub spelled_entries : List Member → List ℕ → List ℕ
spelled_entries entries words =
    with_row 5 (entry_words entries) (slice_set (slice_set words 0 1) 4 (length entries))

abbrev pub spelled_link : ℕ → List ℕ → List ℕ
spelled_link next words = slice_set (slice_set words 0 2) 5 next

-- what holds of every node of the code: its numbers fit their words, and its items have room
abbrev pub BodyFits : Body → Type 0
BodyFits (Pairs pairs) =
    (length pairs ≤ PAIRS) × AllByRecursion (λ p. p.child < 2 ^ 32) pairs
BodyFits (Entries entries) =
    (length entries ≤ ENTRIES) × AllByRecursion (λ m. IsSpan m.span × (m.payload < 2 ^ 32)) entries
BodyFits (Link next) = next < 2 ^ 32

abbrev pub FitsWords : NodeData → Type 0
FitsWords s = (s.level < 2 ^ 32) × BodyFits s.body

-- The words of a node in the order in which they are stored: the greatest number first, and the
-- count last of all.
abbrev pub place_in_turn : ℕ → ℕ
place_in_turn turn =
    if nat_lt turn 30 then 35 - turn else (if nat_lt turn 34 then 34 - turn else 5)

-- the store of a word, where it is to be another than it is
abbrev pub store_of : List ℕ → ℕ → Option ℕ → Option Store
store_of words at None = None
store_of words at (Some value) =
    if node_word words at == value then None else Some record { at = at; value = value }

abbrev pub store_in_turn : NodeData → List ℕ → ℕ → Option Store
store_in_turn s words turn =
    store_of words (place_in_turn turn) (wanted_node_word s (place_in_turn turn))

-- the stores of the first so many turns, over these words
abbrev pub stores_upto : NodeData → List ℕ → ℕ → List Store
stores_upto s words zero = []
stores_upto s words (suc turn) =
    stores_upto s words turn ++ option_to_list (store_in_turn s words turn)

-- all stores of a node over these words
abbrev pub stores : NodeData → List ℕ → List Store
stores s words = stores_upto s words CONTENT_WORDS

-- the words after stores
abbrev pub after_stores : List Store → List ℕ → List ℕ
after_stores [] words = words
after_stores (store ∷ more) words = after_stores more (slice_set words (store.at - 1) store.value)

-- one word is stored before another: the greater number first, and the count last of all
abbrev pub ComesBefore : ℕ → ℕ → Type 0
ComesBefore a b = (a ≢ 5) × ((b ≡ 5) ⊎ (b < a))

abbrev pub AreStoresInOrder : List Store → Type 0
AreStoresInOrder [] = Unit {0}
AreStoresInOrder (store ∷ more) =
    AllByRecursion (λ later. ComesBefore store.at later.at) more × AreStoresInOrder more

-- These stores write a node over words: each changes a word after the version, no word is stored
-- twice, and afterwards the words spell the node.
pub record Write (s : NodeData) (words : List ℕ) (made : List Store) : Type 0 where
  pub places : AllByRecursion (λ x. (1 ≤ x.at) × (x.at ≤ CONTENT_WORDS)) made
  pub change : AllByRecursion (λ x. node_word words x.at ≢ x.value) made
  pub order : AreStoresInOrder made
  pub spells : SpellsNode (after_stores made words) s
