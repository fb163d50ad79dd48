-- What is known of words that spell a node, and the items that are made of them.
use Rattle.std.proofs.Common.{rules, ◌≡◌, ℕ, suc, ◌+◌, ◌-◌, ◌*◌, ◌<◌, ◌≤◌, Bool, true, false, List, [], ◌∷◌, ◌++◌, length, take, set, Option, Some, None, IsSome, option_map, nat_le, if◌then◌else◌, refl, ap, sym, ◌∙◌, subst, arith, leb-true, le-leb}
use Rattle.std.proofs.lemmas.List.{append-nil}
use Rattle.reg_model.specs.declared.span.Member.{Member}
use Rattle.tree_shape.specs.declared.pair.Pair.{Pair}
use Rattle.tree_shape.specs.NodeData.{NodeData, Body, Pairs, Entries}
use Rattle.word_rule.specs.Spelling.{node_word, is_short, pair_at, pairs_at, is_entry_at, entry_at, entries_at, body_of_kind, spelled}
use Rattle.node_store.proofs.Readings.{pairs_more, entries_more}

some_before : {A B : Type 0} (f : A → B) (o : Option A) → IsSome (option_map f o) → IsSome o
some_before f None is = search rules
some_before f (Some x) is = search rules

short_here : (words : List ℕ) (at count : ℕ) → IsSome (pairs_at words at (suc count)) → is_short (node_word words at) ≡ true
short_here words at count is = go (is_short (node_word words at)) is
  where
    go : (b : Bool) → IsSome (if b then option_map (λ pairs. pair_at words at ∷ pairs) (pairs_at words (at + 2) count) else None) → b ≡ true
    go true is = refl
    go false is = search rules

entry_here : (words : List ℕ) (at count : ℕ) → IsSome (entries_at words at (suc count)) → is_entry_at words at ≡ true
entry_here words at count is = go (is_entry_at words at) is
  where
    go : (b : Bool) → IsSome (if b then option_map (λ entries. entry_at words at ∷ entries) (entries_at words (at + 3) count) else None) → b ≡ true
    go true is = refl
    go false is = search rules

-- what an inner node and a leaf hold, with a count that is known to have room
items_known : {A : Type 0} (kind : List A → Body) (most count : ℕ) (o : Option (List A)) → IsSome (if nat_le count most then option_map kind o else None) → (count ≤ most) × IsSome o
items_known kind most count o is = go (nat_le count most) refl is
  where
    go : (b : Bool) → nat_le count most ≡ b → IsSome (if b then option_map kind o else None) → (count ≤ most) × IsSome o
    go true few is = (leb-true count most few, some_before kind o is)
    go false few is = search rules

pub inner_known : (words : List ℕ) (count : ℕ) → IsSome (body_of_kind words 0 count) → (count ≤ 15) × IsSome (pairs_at words 6 count)
inner_known words count is = items_known Pairs 15 count (pairs_at words 6 count) is

pub leaf_known : (words : List ℕ) (count : ℕ) → IsSome (body_of_kind words 1 count) → (count ≤ 10) × IsSome (entries_at words 6 count)
leaf_known words count is = items_known Entries 10 count (entries_at words 6 count) is

-- the next pair's child is short
pub pair_next : (words : List ℕ) (row : List Pair) (count slot : ℕ) → slot < count → IsSome (pairs_at words 6 count)
    → pairs_at words 6 count ≡ option_map (λ more. take slot row ++ more) (pairs_at words (6 + 2 * slot) (count - slot))
    → is_short (node_word words (6 + 2 * slot)) ≡ true
pair_next words row count slot less is so_far =
    let left : count - slot ≡ suc (count - (slot + 1)) = omega (arith, less) in
    let more = some_before (λ more. take slot row ++ more) (pairs_at words (6 + 2 * slot) (count - slot)) (subst IsSome so_far is) in
    short_here words (6 + 2 * slot) (count - (slot + 1)) (subst (λ n. IsSome (pairs_at words (6 + 2 * slot) n)) left more)

pub entry_next : (words : List ℕ) (row : List Member) (count slot : ℕ) → slot < count → IsSome (entries_at words 6 count)
    → entries_at words 6 count ≡ option_map (λ more. take slot row ++ more) (entries_at words (6 + 3 * slot) (count - slot))
    → is_entry_at words (6 + 3 * slot) ≡ true
entry_next words row count slot less is so_far =
    let left : count - slot ≡ suc (count - (slot + 1)) = omega (arith, less) in
    let more = some_before (λ more. take slot row ++ more) (entries_at words (6 + 3 * slot) (count - slot)) (subst IsSome so_far is) in
    entry_here words (6 + 3 * slot) (count - (slot + 1)) (subst (λ n. IsSome (entries_at words (6 + 3 * slot) n)) left more)

-- one item more was made
pub pair_made : (words : List ℕ) (row : List Pair) (count slot : ℕ) (p : Pair) → slot < count → slot < length row
    → is_short (node_word words (6 + 2 * slot)) ≡ true → p ≡ pair_at words (6 + 2 * slot)
    → pairs_at words 6 count ≡ option_map (λ more. take slot row ++ more) (pairs_at words (6 + 2 * slot) (count - slot))
    → pairs_at words 6 count ≡ option_map (λ more. take (slot + 1) (set row slot p) ++ more) (pairs_at words (6 + 2 * (slot + 1)) (count - (slot + 1)))
pair_made words row count slot p less inside short is so_far =
    pairs_more words row count slot p less inside
    (ap (λ b. if b then Some (pair_at words (6 + 2 * slot)) else None) short ∙ ap Some (sym is)) so_far

pub entry_made : (words : List ℕ) (row : List Member) (count slot : ℕ) (m : Member) → slot < count → slot < length row
    → is_entry_at words (6 + 3 * slot) ≡ true → m ≡ entry_at words (6 + 3 * slot)
    → entries_at words 6 count ≡ option_map (λ more. take slot row ++ more) (entries_at words (6 + 3 * slot) (count - slot))
    → entries_at words 6 count ≡ option_map (λ more. take (slot + 1) (set row slot m) ++ more) (entries_at words (6 + 3 * (slot + 1)) (count - (slot + 1)))
entry_made words row count slot m less inside entry is so_far =
    entries_more words row count slot m less inside
    (ap (λ b. if b then Some (entry_at words (6 + 3 * slot)) else None) entry ∙ ap Some (sym is)) so_far

-- all items were made
items_made : {A : Type 0} (kind : List A → Body) (most : ℕ) (items : ℕ → Option (List A)) (row : List A) (count slot : ℕ) → items 0 ≡ Some [] → count ≤ most → slot ≡ count
    → (whole : Option (List A)) → whole ≡ option_map (λ more. take slot row ++ more) (items (count - slot)) → (if nat_le count most then option_map kind whole else None) ≡ Some (kind (take count row))
items_made kind most items row count slot nothing few end whole so_far =
    let none : count - slot ≡ 0 = omega (arith, end) in
    let all : whole ≡ Some (take slot row ++ []) = so_far ∙ ap (option_map (λ more. take slot row ++ more)) (ap items none ∙ nothing) in
    ap (λ b. if b then option_map kind whole else None) (le-leb count most few)
    ∙ (ap (option_map kind) all ∙ (ap (λ xs. Some (kind xs)) (append-nil (take slot row)) ∙ ap (λ n. Some (kind (take n row))) end))

pub pairs_made : (words : List ℕ) (row : List Pair) (count slot : ℕ) → count ≤ 15 → slot ≡ count
    → pairs_at words 6 count ≡ option_map (λ more. take slot row ++ more) (pairs_at words (6 + 2 * slot) (count - slot))
    → body_of_kind words 0 count ≡ Some (Pairs (take count row))
pairs_made words row count slot few end so_far = items_made Pairs 15 (pairs_at words (6 + 2 * slot)) row count slot refl few end _ so_far

pub entries_made : (words : List ℕ) (row : List Member) (count slot : ℕ) → count ≤ 10 → slot ≡ count
    → entries_at words 6 count ≡ option_map (λ more. take slot row ++ more) (entries_at words (6 + 3 * slot) (count - slot))
    → body_of_kind words 1 count ≡ Some (Entries (take count row))
entries_made words row count slot few end so_far = items_made Entries 10 (entries_at words (6 + 3 * slot)) row count slot refl few end _ so_far

-- what words that spell a node say of its frame
pub frame_known : (words : List ℕ) → IsSome (spelled words) → (is_short (node_word words 2) ≡ true) × IsSome (body_of_kind words (node_word words 1) (node_word words 5))
frame_known words is = go (is_short (node_word words 2)) is
  where
    framed : Body → NodeData
    framed body = record { level = node_word words 2; low = node_word words 3; high = node_word words 4; body = body }

    go : (b : Bool) → IsSome (if b then option_map framed (body_of_kind words (node_word words 1) (node_word words 5)) else None)
        → (b ≡ true) × IsSome (body_of_kind words (node_word words 1) (node_word words 5))
    go true is = (refl, some_before framed (body_of_kind words (node_word words 1) (node_word words 5)) is)
    go false is = search rules
