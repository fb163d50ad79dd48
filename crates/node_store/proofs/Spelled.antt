-- Words that are as a node wants them spell it.
use Rattle.std.proofs.Common.{◌≡◌, ℕ, suc, ◌+◌, ◌-◌, ◌^◌, ◌<◌, ◌*◌, ◌≤◌, Bool, true, false, ◌&&◌, nat_le, nat_lt, List, [], ◌∷◌, length, Some, None, IfSome, option_map, slice_get, if◌then◌else◌, refl, ap, sym, ◌∙◌, subst, arith, lt-ltb, le-leb, ltb-true, ltb-false, ne_eqb}
use Rattle.std.proofs.lemmas.Option.{slice_get_past}
use Rattle.std.specs.List.{AllByRecursion}
use Rattle.reg_model.specs.SpanData.{IsSpan}
use Rattle.reg_model.specs.declared.span.Member.{Member}
use Rattle.tree_shape.specs.declared.pair.Pair.{Pair}
use Rattle.tree_shape.specs.NodeData.{NodeData, Body, Pairs, Entries, Link}
use Rattle.word_rule.specs.Places.{TOP}
use Rattle.word_rule.specs.Spelling.{node_word, is_short, pair_at, pairs_at, is_entry_at, entry_at, entries_at, body_of_kind, SpellsNode}
use Rattle.node_store.specs.Writing.{FitsWords, BodyFits, wanted_node_word, kind_of_body, count_of, item_words, pair_words, entry_words}

-- each word that matters is as it is to be
abbrev pub AreWanted : NodeData → List ℕ → Type 0
AreWanted s words = (at : ℕ) → 1 ≤ at → at ≤ 35 → IfSome (wanted_node_word s at) (λ value. node_word words at ≡ value)

-- these numbers stand one after another from a word on
AreAt : List ℕ → ℕ → List ℕ → Type 0
AreAt words at [] = Unit {0}
AreAt words at (n ∷ numbers) = (node_word words at ≡ n) × AreAt words (at + 1) numbers

pairs_spelled : (words : List ℕ) (at : ℕ) (pairs : List Pair) → AllByRecursion (λ p. p.child < 2 ^ 32) pairs → AreAt words at (pair_words pairs) → pairs_at words at (length pairs) ≡ Some pairs
unfolding AreAt
pairs_spelled words at [] short stand = refl
pairs_spelled words at (p ∷ pairs) short stand =
    let is : is_short (node_word words at) ≡ true = ap is_short stand.0 ∙ lt-ltb p.child (2 ^ 32) short.0 in
    let next : at + 1 + 1 ≡ at + 2 = omega arith in
    let rest : pairs_at words (at + 2) (length pairs) ≡ Some pairs = pairs_spelled words (at + 2) pairs short.1 (subst (λ k. AreAt words k (pair_words pairs)) next stand.1.1) in
    let here : pair_at words at ≡ p = (λ i. record { child = stand.0 i; separator = stand.1.0 i }) in
    ap (λ b. if b then option_map (λ ps. pair_at words at ∷ ps) (pairs_at words (at + 2) (length pairs)) else None) is
    ∙ ap (option_map (λ ps. pair_at words at ∷ ps)) rest ∙ ap (λ q. Some (q ∷ pairs)) here

entries_spelled : (words : List ℕ) (at : ℕ) (entries : List Member) → AllByRecursion (λ m. IsSpan m.span × (m.payload < 2 ^ 32)) entries → AreAt words at (entry_words entries) → entries_at words at (length entries) ≡ Some entries
unfolding AreAt
entries_spelled words at [] fit stand = refl
entries_spelled words at (m ∷ entries) fit stand =
    let two : at + 1 + 1 ≡ at + 2 = omega arith in
    let three : at + 1 + 1 + 1 ≡ at + 3 = omega arith in
    let ordered = fit.0.0.ordered in
    let below = fit.0.0.below_top in
    let first = stand.0 in
    let size = stand.1.0 in
    let payload : node_word words (at + 2) ≡ m.payload = subst (λ k. node_word words k ≡ m.payload) two stand.1.1.0 in
    let some : nat_le 1 (node_word words (at + 1)) ≡ true = le-leb 1 (node_word words (at + 1)) (omega (arith, size, ordered)) in
    let inside : nat_le (node_word words at + node_word words (at + 1)) TOP ≡ true = le-leb (node_word words at + node_word words (at + 1)) TOP (omega (arith, first, size, ordered, below)) in
    let short : is_short (node_word words (at + 2)) ≡ true = ap is_short payload ∙ lt-ltb m.payload (2 ^ 32) fit.0.1 in
    let is : is_entry_at words at ≡ true = (λ i. some i && inside i && short i) in
    let rest : entries_at words (at + 3) (length entries) ≡ Some entries = entries_spelled words (at + 3) entries fit.1 (subst (λ k. AreAt words k (entry_words entries)) three stand.1.1.1) in
    let last : node_word words at + node_word words (at + 1) - 1 ≡ m.span.last = omega (arith, first, size, ordered) in
    let here : entry_at words at ≡ m = (λ i. record { span = record { first = first i; last = last i }; payload = payload i }) in
    ap (λ b. if b then option_map (λ ms. entry_at words at ∷ ms) (entries_at words (at + 3) (length entries)) else None) is
    ∙ ap (option_map (λ ms. entry_at words at ∷ ms)) rest ∙ ap (λ x. Some (x ∷ entries)) here

body_spelled : (words : List ℕ) (body : Body) → BodyFits body → IfSome (count_of body) (λ n. node_word words 5 ≡ n) → AreAt words 6 (item_words body) → body_of_kind words (kind_of_body body) (node_word words 5) ≡ Some body
unfolding AreAt
body_spelled words (Pairs pairs) fits count stand =
    ap (body_of_kind words 0) count
    ∙ ap (λ b. if b then option_map Pairs (pairs_at words 6 (length pairs)) else None) (le-leb (length pairs) 15 fits.0)
    ∙ ap (option_map Pairs) (pairs_spelled words 6 pairs fits.1 stand)
body_spelled words (Entries entries) fits count stand =
    ap (body_of_kind words 1) count
    ∙ ap (λ b. if b then option_map Entries (entries_at words 6 (length entries)) else None) (le-leb (length entries) 10 fits.0)
    ∙ ap (option_map Entries) (entries_spelled words 6 entries fits.1 stand)
body_spelled words (Link next) fits count stand =
    ap (λ n. if is_short n then Some (Link n) else None) stand.0
    ∙ ap (λ b. if b then Some (Link next) else None) (lt-ltb next (2 ^ 32) fits)

-- the items stand from word 6 on
items_at : (words items : List ℕ) (at : ℕ) → ((i : ℕ) → IfSome (slice_get items i) (λ value. node_word words (at + i) ≡ value)) → AreAt words at items
unfolding AreAt
items_at words [] at h = tt
items_at words (n ∷ items) at h =
    let here : at + 0 ≡ at = omega arith in
    (subst (λ k. node_word words k ≡ n) here (h 0), items_at words items (at + 1) (λ i. let next : at + suc i ≡ at + 1 + i = omega arith in subst (λ k. IfSome (slice_get items i) (λ value. node_word words k ≡ value)) next (h (suc i))))

pair_count : (pairs : List Pair) → length (pair_words pairs) ≡ 2 * length pairs
pair_count [] = refl
pair_count (p ∷ pairs) = omega (arith, pair_count pairs)

pub entry_count : (entries : List Member) → length (entry_words entries) ≡ 3 * length entries
entry_count [] = refl
entry_count (m ∷ entries) = omega (arith, entry_count entries)

pub items_few : (body : Body) → BodyFits body → length (item_words body) ≤ 30
items_few (Pairs pairs) fits = omega (arith, pair_count pairs, fits.0)
items_few (Entries entries) fits = omega (arith, entry_count entries, fits.0)
items_few (Link next) fits = omega arith

pub wanted_item : (s : NodeData) (at : ℕ) → 6 ≤ at → wanted_node_word s at ≡ slice_get (item_words s.body) (at - 6)
wanted_item s at few =
    let one = ne_eqb at 1 (λ e. omega (arith, few, e)) in
    let two = ne_eqb at 2 (λ e. omega (arith, few, e)) in
    let three = ne_eqb at 3 (λ e. omega (arith, few, e)) in
    let four = ne_eqb at 4 (λ e. omega (arith, few, e)) in
    let five = ne_eqb at 5 (λ e. omega (arith, few, e)) in
    (λ i. if one i then Some (kind_of_body s.body) else (if two i then Some s.level else (if three i then Some s.low else (if four i then Some s.high else (if five i then count_of s.body else slice_get (item_words s.body) (at - 6))))))

item_is : (s : NodeData) (words : List ℕ) → BodyFits s.body → AreWanted s words → (i : ℕ) → IfSome (slice_get (item_words s.body) i) (λ value. node_word words (6 + i) ≡ value)
item_is s words fits h i = go (nat_lt i 30) refl
  where
    go : (b : Bool) → nat_lt i 30 ≡ b → IfSome (slice_get (item_words s.body) i) (λ value. node_word words (6 + i) ≡ value)
    go true less =
        let back : 6 + i - 6 ≡ i = omega arith in
        let is = wanted_item s (6 + i) (omega arith) ∙ ap (slice_get (item_words s.body)) back in
        subst (λ o. IfSome o (λ value. node_word words (6 + i) ≡ value)) is (h (6 + i) (omega arith) (omega (arith, ltb-true i 30 less)))
    go false more =
        let none = slice_get_past (item_words s.body) i (omega (arith, items_few s.body fits, ltb-false i 30 more)) in
        subst (λ o. IfSome o (λ value. node_word words (6 + i) ≡ value)) (sym none) tt

pub wanted_is_spelled : (s : NodeData) (words : List ℕ) → FitsWords s → AreWanted s words → SpellsNode words s
wanted_is_spelled s words fits h =
    let kind = h 1 (omega arith) (omega arith) in
    let level = h 2 (omega arith) (omega arith) in
    let low = h 3 (omega arith) (omega arith) in
    let high = h 4 (omega arith) (omega arith) in
    let count = h 5 (omega arith) (omega arith) in
    let short : is_short (node_word words 2) ≡ true = ap is_short level ∙ lt-ltb s.level (2 ^ 32) fits.0 in
    let body = ap (λ k. body_of_kind words k (node_word words 5)) kind ∙ body_spelled words s.body fits.1 count (items_at words (item_words s.body) 6 (item_is s words fits.1 h)) in
    (λ i. if short i then option_map (λ b. record { level = level i; low = low i; high = high i; body = b }) (body i) else None)
