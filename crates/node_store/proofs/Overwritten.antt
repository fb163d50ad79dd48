-- Words over which a node was written, and the stores that they lead to.
use Rattle.std.proofs.Common.{◌≡◌, ◌≢◌, ℕ, zero, suc, ◌+◌, ◌-◌, ◌<◌, ◌≤◌, List, [], ◌∷◌, ◌++◌, length, Some, None, set, slice_get, get_or, refl, ap, sym, ◌∙◌, subst, arith, length-set, get_or-set_same, get_or-set_other}
use Rattle.std.proofs.lemmas.Option.{slice_get_past}
use Rattle.std.specs.Option.{option_to_list}
use Rattle.tree_shape.specs.NodeData.{NodeData, Body, Pairs, Entries, Link}
use Rattle.word_rule.specs.Spelling.{node_word}
use Rattle.node_store.specs.Writing.{AreSpelledOver, FitsWords, count_of, item_words, kind_of_body, place_in_turn, spelled_entries, spelled_link, spelled_pairs, store_of, stores_upto, wanted_node_word, with_row, word_over}
use Rattle.node_store.proofs.Spelled.{items_few, wanted_item}
use Rattle.node_store.proofs.Stores.{high_place}

-- a row leaves what stands before it
before_row : (place : ℕ) (numbers words : List ℕ) (k : ℕ) → k < place → get_or (with_row place numbers words) k 0 ≡ get_or words k 0
before_row place [] words k less = refl
before_row place (n ∷ numbers) words k less =
    before_row (place + 1) numbers (set words place n) k (omega (arith, less))
    ∙ get_or-set_other words place k n 0 (λ e. omega (arith, e, less))

-- and has its numbers, and behind them what stood there
in_row : (place : ℕ) (numbers words : List ℕ) (i : ℕ) → place + length numbers ≤ length words → get_or (with_row place numbers words) (place + i) 0 ≡ word_over (slice_get numbers i) (get_or words (place + i) 0)
in_row place [] words i room = refl
in_row place (n ∷ numbers) words zero room =
    let here : place + 0 ≡ place = omega arith in
    ap (λ k. get_or (with_row (place + 1) numbers (set words place n)) k 0) here
    ∙ (before_row (place + 1) numbers (set words place n) place (omega arith)
    ∙ get_or-set_same words place n 0 (omega (arith, room)))
in_row place (n ∷ numbers) words (suc i) room =
    let next : place + suc i ≡ place + 1 + i = omega arith in
    let wide = length-set words place n in
    let there = get_or-set_other words place (place + 1 + i) n 0 (λ e. omega (arith, e)) ∙ ap (λ k. get_or words k 0) (sym next) in
    ap (λ k. get_or (with_row (place + 1) numbers (set words place n)) k 0) next
    ∙ (in_row (place + 1) numbers (set words place n) i (omega (arith, room, wide))
    ∙ ap (word_over (slice_get numbers i)) there)

-- the words of a node's frame
abbrev pub framed : NodeData → List ℕ → List ℕ
framed s words = set (set (set words 1 s.level) 2 s.low) 3 s.high

-- a word after the version is one of the first five, or stands from word 6 on
pub each_word : (P : ℕ → Type 0) → P 1 → P 2 → P 3 → P 4 → P 5 → ((i : ℕ) → P (6 + i)) → (at : ℕ) → 1 ≤ at → P at
each_word P one two three four five items zero least = absurd (omega (arith, least))
each_word P one two three four five items (suc zero) least = one
each_word P one two three four five items (suc (suc zero)) least = two
each_word P one two three four five items (suc (suc (suc zero))) least = three
each_word P one two three four five items (suc (suc (suc (suc zero)))) least = four
each_word P one two three four five items (suc (suc (suc (suc (suc zero))))) least = five
each_word P one two three four five items (suc (suc (suc (suc (suc (suc i)))))) least =
    let is : 6 + i ≡ suc (suc (suc (suc (suc (suc i))))) = omega arith in subst P is (items i)

-- what stands in words of which the first ones were set
record Headed (words headed : List ℕ) (kind level low high count : ℕ) : Type 0 where
  pub kind_is : get_or headed 0 0 ≡ kind
  pub level_is : get_or headed 1 0 ≡ level
  pub low_is : get_or headed 2 0 ≡ low
  pub high_is : get_or headed 3 0 ≡ high
  pub count_is : get_or headed 4 0 ≡ count
  pub rest : (i : ℕ) → get_or headed (5 + i) 0 ≡ get_or words (5 + i) 0
  pub wide : length headed ≡ length words

far : (words : List ℕ) (i j a : ℕ) → j ≢ i → get_or (set words i a) j 0 ≡ get_or words j 0
far words i j a ne = get_or-set_other words i j a 0 ne

headed : (words : List ℕ) (kind level low high count : ℕ) → length words ≡ 35 → Headed words (set (set (set (set (set words 1 level) 2 low) 3 high) 0 kind) 4 count) kind level low high count
headed words kind level low high count wide =
    let w1 = set words 1 level in
    let w2 = set w1 2 low in
    let w3 = set w2 3 high in
    let w4 = set w3 0 kind in
    let l1 : length w1 ≡ 35 = length-set words 1 level ∙ wide in
    let l2 : length w2 ≡ 35 = length-set w1 2 low ∙ l1 in
    let l3 : length w3 ≡ 35 = length-set w2 3 high ∙ l2 in
    let l4 : length w4 ≡ 35 = length-set w3 0 kind ∙ l3 in
    record {
      kind_is = far w4 4 0 count (omega arith) ∙ get_or-set_same w3 0 kind 0 (omega (arith, l3));
      level_is = far w4 4 1 count (omega arith) ∙ (far w3 0 1 kind (omega arith) ∙ (far w2 3 1 high (omega arith) ∙ (far w1 2 1 low (omega arith) ∙ get_or-set_same words 1 level 0 (omega (arith, wide)))));
      low_is = far w4 4 2 count (omega arith) ∙ (far w3 0 2 kind (omega arith) ∙ (far w2 3 2 high (omega arith) ∙ get_or-set_same w1 2 low 0 (omega (arith, l1))));
      high_is = far w4 4 3 count (omega arith) ∙ (far w3 0 3 kind (omega arith) ∙ get_or-set_same w2 3 high 0 (omega (arith, l2)));
      count_is = get_or-set_same w4 4 count 0 (omega (arith, l4));
      rest = λ i. far w4 4 (5 + i) count (λ e. omega (arith, e)) ∙ (far w3 0 (5 + i) kind (λ e. omega (arith, e)) ∙ (far w2 3 (5 + i) high (λ e. omega (arith, e)) ∙ (far w1 2 (5 + i) low (λ e. omega (arith, e)) ∙ far words 1 (5 + i) level (λ e. omega (arith, e)))));
      wide = length-set w4 4 count ∙ (l4 ∙ sym wide);
    }

-- a node with a count was written over words
over_row : (s : NodeData) (count : ℕ) (words : List ℕ) → length words ≡ 35 → count_of s.body ≡ Some count → length (item_words s.body) ≤ 30 → AreSpelledOver s words (with_row 5 (item_words s.body) (set (set (framed s words) 0 (kind_of_body s.body)) 4 count))
over_row s count words wide is few at least most =
    let head = set (set (framed s words) 0 (kind_of_body s.body)) 4 count in
    let h = headed words (kind_of_body s.body) s.level s.low s.high count wide in
    let items = item_words s.body in
    let room : 5 + length items ≤ length head = (let long = h.wide in omega (arith, few, long, wide)) in
    each_word (λ k. node_word (with_row 5 items head) k ≡ word_over (wanted_node_word s k) (node_word words k))
    (before_row 5 items head 0 (omega arith) ∙ h.kind_is)
    (before_row 5 items head 1 (omega arith) ∙ h.level_is)
    (before_row 5 items head 2 (omega arith) ∙ h.low_is)
    (before_row 5 items head 3 (omega arith) ∙ h.high_is)
    (before_row 5 items head 4 (omega arith) ∙ (h.count_is ∙ ap (λ o. word_over o (node_word words 5)) (sym is)))
    (λ i. item i) at least
  where
    item : (i : ℕ) → node_word (with_row 5 (item_words s.body) (set (set (framed s words) 0 (kind_of_body s.body)) 4 count)) (6 + i) ≡ word_over (wanted_node_word s (6 + i)) (node_word words (6 + i))
    item i =
        let head = set (set (framed s words) 0 (kind_of_body s.body)) 4 count in
        let h = headed words (kind_of_body s.body) s.level s.low s.high count wide in
        let items = item_words s.body in
        let room : 5 + length items ≤ length head = (let long = h.wide in omega (arith, few, long, wide)) in
        let back : 6 + i - 1 ≡ 5 + i = omega arith in
        let from : 6 + i - 6 ≡ i = omega arith in
        let want = wanted_item s (6 + i) (omega arith) ∙ ap (slice_get items) from in
        ap (λ k. get_or (with_row 5 items head) k 0) back
        ∙ (in_row 5 items head i room
        ∙ (ap (word_over (slice_get items i)) (h.rest i ∙ ap (λ k. get_or words k 0) (sym back))
        ∙ ap (λ o. word_over o (node_word words (6 + i))) (sym want)))

-- a free node was written over words
over_link : (s : NodeData) (next : ℕ) (words : List ℕ) → length words ≡ 35 → s.body ≡ Link next → AreSpelledOver s words (spelled_link next (framed s words))
over_link s next words wide is at least most =
    let w3 = framed s words in
    let w4 = set w3 0 2 in
    let l1 = length-set words 1 s.level in
    let l2 = length-set (set words 1 s.level) 2 s.low in
    let l3 = length-set (set (set words 1 s.level) 2 s.low) 3 s.high in
    let l4 = length-set w3 0 2 in
    each_word (λ k. node_word (spelled_link next w3) k ≡ word_over (wanted_node_word s k) (node_word words k))
    (far w4 5 0 next (omega arith) ∙ (get_or-set_same w3 0 2 0 (omega (arith, wide, l1, l2, l3)) ∙ ap kind_of_body (sym is)))
    (far w4 5 1 next (omega arith) ∙ (far w3 0 1 2 (omega arith) ∙ (far (set (set words 1 s.level) 2 s.low) 3 1 s.high (omega arith) ∙ (far (set words 1 s.level) 2 1 s.low (omega arith) ∙ get_or-set_same words 1 s.level 0 (omega (arith, wide))))))
    (far w4 5 2 next (omega arith) ∙ (far w3 0 2 2 (omega arith) ∙ (far (set (set words 1 s.level) 2 s.low) 3 2 s.high (omega arith) ∙ get_or-set_same (set words 1 s.level) 2 s.low 0 (omega (arith, wide, l1)))))
    (far w4 5 3 next (omega arith) ∙ (far w3 0 3 2 (omega arith) ∙ get_or-set_same (set (set words 1 s.level) 2 s.low) 3 s.high 0 (omega (arith, wide, l1, l2))))
    (far w4 5 4 next (omega arith) ∙ (far w3 0 4 2 (omega arith) ∙ (far (set (set words 1 s.level) 2 s.low) 3 4 s.high (omega arith) ∙ (far (set words 1 s.level) 2 4 s.low (omega arith) ∙ (far words 1 4 s.level (omega arith) ∙ ap (λ b. word_over (count_of b) (node_word words 5)) (sym is))))))
    item at least
  where
    item : (i : ℕ) → node_word (spelled_link next (framed s words)) (6 + i) ≡ word_over (wanted_node_word s (6 + i)) (node_word words (6 + i))
    item i =
        let back : 6 + i - 1 ≡ 5 + i = omega arith in
        let from : 6 + i - 6 ≡ i = omega arith in
        let want = wanted_item s (6 + i) (omega arith) ∙ (ap (slice_get (item_words s.body)) from ∙ ap (λ b. slice_get (item_words b) i) is) in
        ap (λ k. get_or (spelled_link next (framed s words)) k 0) back
        ∙ (one i ∙ (ap (λ k. word_over (slice_get (next ∷ []) i) (get_or words k 0)) (sym back)
        ∙ ap (λ o. word_over o (node_word words (6 + i))) (sym want)))
      where
        one : (j : ℕ) → get_or (spelled_link next (framed s words)) (5 + j) 0 ≡ word_over (slice_get (next ∷ []) j) (get_or words (5 + j) 0)
        one zero =
            let l1 = length-set words 1 s.level in
            let l2 = length-set (set words 1 s.level) 2 s.low in
            let l3 = length-set (set (set words 1 s.level) 2 s.low) 3 s.high in
            let l4 = length-set (framed s words) 0 2 in
            get_or-set_same (set (framed s words) 0 2) 5 next 0 (omega (arith, wide, l1, l2, l3, l4))
        one (suc j) =
            let k = 5 + suc j in
            far (set (framed s words) 0 2) 5 k next (λ e. omega (arith, e)) ∙ (far (framed s words) 0 k 2 (λ e. omega (arith, e)) ∙ (far (set (set words 1 s.level) 2 s.low) 3 k s.high (λ e. omega (arith, e)) ∙ (far (set words 1 s.level) 2 k s.low (λ e. omega (arith, e)) ∙ far words 1 k s.level (λ e. omega (arith, e)))))

-- what a node holds was written over words with its frame
abbrev pub body_over : Body → List ℕ → List ℕ
body_over (Pairs pairs) words = spelled_pairs pairs words
body_over (Entries entries) words = spelled_entries entries words
body_over (Link next) words = spelled_link next words

spelled_over : (s : NodeData) (b : Body) (words : List ℕ) → length words ≡ 35 → FitsWords s → s.body ≡ b → AreSpelledOver s words (body_over b (framed s words))
spelled_over s (Pairs pairs) words wide fits e =
    subst (λ ws. AreSpelledOver s words ws)
    (ap (λ b. with_row 5 (item_words b) (set (set (framed s words) 0 (kind_of_body b)) 4 (length pairs))) e)
    (over_row s (length pairs) words wide (ap count_of e) (items_few s.body fits.1))
spelled_over s (Entries entries) words wide fits e =
    subst (λ ws. AreSpelledOver s words ws)
    (ap (λ b. with_row 5 (item_words b) (set (set (framed s words) 0 (kind_of_body b)) 4 (length entries))) e)
    (over_row s (length entries) words wide (ap count_of e) (items_few s.body fits.1))
spelled_over s (Link next) words wide fits e = over_link s next words wide e

-- the same, of a node and of what it is seen as
pub spelled_as : (s t : NodeData) (b : Body) (words : List ℕ) → length words ≡ 35 → FitsWords t → s ≡ t → s.body ≡ b → AreSpelledOver t words (body_over b (framed s words))
spelled_as s t b words wide fits view is =
    subst (λ z. AreSpelledOver z words (body_over b (framed s words))) view (spelled_over s b words wide (subst FitsWords (sym view) fits) is)

pub few_as : (s t : NodeData) (b : Body) → FitsWords t → s ≡ t → s.body ≡ b → length (item_words b) ≤ 30
few_as s t b fits view is =
    subst (λ z. length (item_words z) ≤ 30) is (items_few s.body (subst FitsWords (sym view) fits).1)

-- nothing is stored while the turn is that of a word behind the items
pub none_upto : (s : NodeData) (words : List ℕ) (t : ℕ) → t + length (item_words s.body) ≤ 30 → stores_upto s words t ≡ []
none_upto s words zero few = refl
none_upto s words (suc t) few =
    let place : place_in_turn t ≡ 35 - t = high_place t (omega (arith, few)) in
    let past = slice_get_past (item_words s.body) (35 - t - 6) (omega (arith, few)) in
    let none : wanted_node_word s (place_in_turn t) ≡ None = ap (wanted_node_word s) place ∙ (wanted_item s (35 - t) (omega (arith, few)) ∙ past) in
    (λ i. none_upto s words t (omega (arith, few)) i ++ option_to_list (store_of words (place_in_turn t) (none i)))
