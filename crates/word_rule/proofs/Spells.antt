-- What a node that words spell tells of the words.
use Rattle.std.proofs.Common.{◌≡◌, ℕ, zero, suc, ◌+◌, List, ◌∷◌, length, Option, Some, None, Bool, true, false, true≢false, ◌==◌, ◌&&◌, nat_le, option_map, sym, refl, ap, ◌∙◌, subst, if◌then◌else◌, ◌⊎◌, inl, inr}
use Rattle.std.proofs.lemmas.Option.{none-some, same_Some}
use Rattle.std.proofs.lemmas.Bool.{and_parts}
use native.Mathlib.Decide.{ℕ_discrete}
use Rattle.std.proofs.Common.{ne_eqb}
use Rattle.reg_model.specs.declared.span.Member.{Member}
use Rattle.tree_shape.specs.declared.pair.Pair.{Pair}
use Rattle.tree_shape.specs.NodeData.{NodeData, Body, Pairs, Entries, Link, pairs_of, entries_of, pairs_in, entries_in}
use Rattle.word_rule.specs.Spelling.{node_word, is_short, pair_at, pairs_at, entry_at, is_entry_at, entries_at, body_of_kind, SpellsNode}
use Rattle.word_rule.specs.Observations.{IsFullBody}

-- a test of two numbers that holds
pub eqb_true : (n m : ℕ) → (n == m) ≡ true → n ≡ m
eqb_true n m h = go (ℕ_discrete n m)
  where
    go : Dec (n ≡ m) → n ≡ m
    go (yes e) = e
    go (no ne) = absurd (true≢false (sym h ∙ ne_eqb n m ne))

-- so many pairs, or entries, are read
pub pairs_length : (words : List ℕ) (at count : ℕ) (xs : List Pair) → pairs_at words at count ≡ Some xs → length xs ≡ count
pairs_length words at zero xs e = ap length (sym (same_Some _ _ e))
pairs_length words at (suc count) xs e = go (is_short (node_word words at)) (pairs_at words (at + 2) count) (pairs_length words (at + 2) count) e
  where
    go : (b : Bool) (o : Option (List Pair)) → ((ys : List Pair) → o ≡ Some ys → length ys ≡ count) → ◌≡◌ {A = Option (List Pair)} (if b then option_map (λ pairs. pair_at words at ∷ pairs) o else None) (Some xs) → length xs ≡ suc count
    go true None rest f = absurd (none-some xs f)
    go true (Some ys) rest f = ap length (sym (same_Some _ _ f)) ∙ ap suc (rest ys refl)
    go false o rest f = absurd (none-some xs f)

pub entries_length : (words : List ℕ) (at count : ℕ) (xs : List Member) → entries_at words at count ≡ Some xs → length xs ≡ count
entries_length words at zero xs e = ap length (sym (same_Some _ _ e))
entries_length words at (suc count) xs e = go (is_entry_at words at) (entries_at words (at + 3) count) (entries_length words (at + 3) count) e
  where
    go : (b : Bool) (o : Option (List Member)) → ((ys : List Member) → o ≡ Some ys → length ys ≡ count) → ◌≡◌ {A = Option (List Member)} (if b then option_map (λ entries. entry_at words at ∷ entries) o else None) (Some xs) → length xs ≡ suc count
    go true None rest f = absurd (none-some xs f)
    go true (Some ys) rest f = ap length (sym (same_Some _ _ f)) ∙ ap suc (rest ys refl)
    go false o rest f = absurd (none-some xs f)

-- whence a body comes
abbrev ComesFrom : Option (List Pair) → Option (List Member) → Bool → ℕ → Body → Type 0
ComesFrom pairs entries free link (Pairs xs) = pairs ≡ Some xs
ComesFrom pairs entries free link (Entries xs) = entries ≡ Some xs
ComesFrom pairs entries free link (Link next) = (free ≡ true) × (link ≡ next)

body_cases : (inner few leaf low free : Bool) (pairs : Option (List Pair)) (entries : Option (List Member)) (link : ℕ) (body : Body)
    → (if inner then (if few then option_map Pairs pairs else None) else (if leaf then (if low then option_map Entries entries else None) else (if free then Some (Link link) else None))) ≡ Some body
    → ComesFrom pairs entries free link body
body_cases true true leaf low free None entries link body e = absurd (none-some body e)
body_cases true true leaf low free (Some xs) entries link body e = subst (ComesFrom (Some xs) entries free link) (same_Some _ _ e) refl
body_cases true false leaf low free pairs entries link body e = absurd (none-some body e)
body_cases false few true true free pairs None link body e = absurd (none-some body e)
body_cases false few true true free pairs (Some xs) link body e = subst (ComesFrom pairs (Some xs) free link) (same_Some _ _ e) refl
body_cases false few true false free pairs entries link body e = absurd (none-some body e)
body_cases false few false low true pairs entries link body e = subst (ComesFrom pairs entries true link) (same_Some _ _ e) (refl, refl)
body_cases false few false low false pairs entries link body e = absurd (none-some body e)

-- What words that spell a node say of it.
pub record Reads (words : List ℕ) (s : NodeData) : Type 0 where
  pub level : s.level ≡ node_word words 2
  pub low : s.low ≡ node_word words 3
  pub high : s.high ≡ node_word words 4
  pub body : body_of_kind words (node_word words 1) (node_word words 5) ≡ Some s.body

pub reads : (words : List ℕ) (s : NodeData) → SpellsNode words s → Reads words s
reads words s e = go (is_short (node_word words 2)) (body_of_kind words (node_word words 1) (node_word words 5)) refl e
  where
    go : (b : Bool) (o : Option Body) → body_of_kind words (node_word words 1) (node_word words 5) ≡ o
        → ◌≡◌ {A = Option NodeData} (if b then option_map (λ body. record { level = node_word words 2; low = node_word words 3; high = node_word words 4; body = body }) o else None) (Some s) → Reads words s
    go true None is f = absurd (none-some s f)
    go true (Some body) is f =
        let same : record { level = node_word words 2; low = node_word words 3; high = node_word words 4; body = body } ≡ s = same_Some _ _ f in
        record { level = sym (ap (λ k. k.level) same); low = sym (ap (λ k. k.low) same); high = sym (ap (λ k. k.high) same); body = is ∙ ap (λ k. Some k.body) same }
    go false o is f = absurd (none-some s f)

comes : (words : List ℕ) (s : NodeData) → SpellsNode words s
    → ComesFrom (pairs_at words 6 (node_word words 5)) (entries_at words 6 (node_word words 5)) ((node_word words 1 == 2) && is_short (node_word words 6)) (node_word words 6) s.body
comes words s e = body_cases (node_word words 1 == 0) (nat_le (node_word words 5) 15) (node_word words 1 == 1) (nat_le (node_word words 5) 10) ((node_word words 1 == 2) && is_short (node_word words 6)) (pairs_at words 6 (node_word words 5)) (entries_at words 6 (node_word words 5)) (node_word words 6) s.body (reads words s e).body

-- words that spell a free node, linked to the next
pub reads_link : (words : List ℕ) (s : NodeData) (next : ℕ) → SpellsNode words s → s.body ≡ Link next → (node_word words 1 ≡ 2) × (node_word words 6 ≡ next)
reads_link words s next e link =
    let c = subst (ComesFrom (pairs_at words 6 (node_word words 5)) (entries_at words 6 (node_word words 5)) ((node_word words 1 == 2) && is_short (node_word words 6)) (node_word words 6)) link (comes words s e) in
    (eqb_true (node_word words 1) 2 (and_parts _ _ c.0).0, c.1)

-- the count of a full node is the number of its pairs, or of its entries
pub reads_full : (words : List ℕ) (s : NodeData) (found : ℕ) → SpellsNode words s → found ≡ node_word words 5 → IsFullBody found s.body → (length (pairs_of s) ≡ 15) ⊎ (length (entries_of s) ≡ 10)
reads_full words s found e count full = go s.body (comes words s e) full
  where
    go : (body : Body) → ComesFrom (pairs_at words 6 (node_word words 5)) (entries_at words 6 (node_word words 5)) ((node_word words 1 == 2) && is_short (node_word words 6)) (node_word words 6) body → IsFullBody found body
        → (length (pairs_in body) ≡ 15) ⊎ (length (entries_in body) ≡ 10)
    go (Pairs xs) c is = inl (pairs_length words 6 (node_word words 5) xs c ∙ (sym count ∙ is))
    go (Entries xs) c is = inr (entries_length words 6 (node_word words 5) xs c ∙ (sym count ∙ is))
    go (Link next) c is = absurd is

-- the pairs that are read
pub reads_pairs : (words : List ℕ) (s : NodeData) (xs : List Pair) → SpellsNode words s → s.body ≡ Pairs xs → pairs_at words 6 (node_word words 5) ≡ Some xs
reads_pairs words s xs e is = subst (ComesFrom (pairs_at words 6 (node_word words 5)) (entries_at words 6 (node_word words 5)) ((node_word words 1 == 2) && is_short (node_word words 6)) (node_word words 6)) is (comes words s e)

-- words of the kind of free nodes spell one, linked to the next
pub spells_free : (words : List ℕ) (s : NodeData) → SpellsNode words s → node_word words 1 ≡ 2 → s.body ≡ Link (node_word words 6)
spells_free words s e kind = go (is_short (node_word words 6)) (subst (λ k. body_of_kind words k (node_word words 5) ≡ Some s.body) kind (reads words s e).body)
  where
    go : (b : Bool) → ◌≡◌ {A = Option Body} (if b then Some (Link (node_word words 6)) else None) (Some s.body) → s.body ≡ Link (node_word words 6)
    go true f = sym (same_Some _ _ f)
    go false f = absurd (none-some s.body f)
