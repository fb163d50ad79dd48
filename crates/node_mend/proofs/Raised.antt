-- The words of a node whose level was stored anew spell it at that level.
use Rattle.std.proofs.Common.{◌≡◌, ◌≢◌, ℕ, ◌-◌, ◌≤◌, List, arith, set, get_or-set_other, zero, suc, ◌+◌, ◌∷◌, refl, None, if◌then◌else◌, option_map, ◌&&◌, nat_le, ◌<◌, ◌^◌, length, sym, ap, ◌∙◌, ◌==◌, lt-ltb, Some, get_or-set_same}
use Rattle.tree_shape.specs.NodeData.{NodeData, Pairs, Entries, Link}
use Rattle.word_rule.specs.Spelling.{node_word, is_short, pairs_at, entries_at, body_of_kind, SpellsNode}
use Rattle.word_rule.specs.Places.{TOP}
use Rattle.word_rule.proofs.Spells.{reads}

kept : (words : List ℕ) (value at : ℕ) → 1 ≤ at → at ≢ 2 → node_word (set words 1 value) at ≡ node_word words at
kept words value at least other = get_or-set_other words 1 (at - 1) value 0 (λ e. other (omega (arith, e, least)))

pairs_kept : (words : List ℕ) (value count at : ℕ) → 3 ≤ at → pairs_at (set words 1 value) at count ≡ pairs_at words at count
pairs_kept words value zero at least = refl
pairs_kept words value (suc count) at least =
    let e0 = kept words value at (omega (arith, least)) (λ z. omega (arith, z, least)) in
    let e1 = kept words value (at + 1) (omega (arith, least)) (λ z. omega (arith, z, least)) in
    let rest = pairs_kept words value count (at + 2) (omega (arith, least)) in
    (λ i. if is_short (e0 i) then option_map (λ pairs. record { child = e0 i; separator = e1 i } ∷ pairs) (rest i) else None)

entries_kept : (words : List ℕ) (value count at : ℕ) → 3 ≤ at → entries_at (set words 1 value) at count ≡ entries_at words at count
entries_kept words value zero at least = refl
entries_kept words value (suc count) at least =
    let e0 = kept words value at (omega (arith, least)) (λ z. omega (arith, z, least)) in
    let e1 = kept words value (at + 1) (omega (arith, least)) (λ z. omega (arith, z, least)) in
    let e2 = kept words value (at + 2) (omega (arith, least)) (λ z. omega (arith, z, least)) in
    let rest = entries_kept words value count (at + 3) (omega (arith, least)) in
    (λ i. if nat_le 1 (e1 i) && nat_le (e0 i + e1 i) TOP && is_short (e2 i) then option_map (λ entries. record { span = record { first = e0 i; last = e0 i + e1 i - 1 }; payload = e2 i } ∷ entries) (rest i) else None)

pub spells_raised : (words : List ℕ) (s : NodeData) (value : ℕ) → length words ≡ 35 → SpellsNode words s → value < 2 ^ 32 → SpellsNode (set words 1 value) (record s { level = value })
spells_raised words s value wide e few =
    let all = set words 1 value in
    let told = reads words s e in
    let w2 : node_word all 2 ≡ value = get_or-set_same words 1 value 0 (omega (arith, wide)) in
    let w1 = kept words value 1 (omega arith) (λ z. omega (arith, z)) in
    let w3 = kept words value 3 (omega arith) (λ z. omega (arith, z)) in
    let w4 = kept words value 4 (omega arith) (λ z. omega (arith, z)) in
    let w5 = kept words value 5 (omega arith) (λ z. omega (arith, z)) in
    let w6 = kept words value 6 (omega arith) (λ z. omega (arith, z)) in
    let pairs = pairs_kept words value (node_word words 5) 6 (omega arith) in
    let entries = entries_kept words value (node_word words 5) 6 (omega arith) in
    let body : body_of_kind all (node_word all 1) (node_word all 5) ≡ Some s.body =
    (λ i. body_of_kind all (w1 i) (w5 i))
    ∙ ((λ i. if node_word words 1 == 0 then (if nat_le (node_word words 5) 15 then option_map Pairs (pairs i) else None)
    else (if node_word words 1 == 1 then (if nat_le (node_word words 5) 10 then option_map Entries (entries i) else None)
    else (if (node_word words 1 == 2) && is_short (w6 i) then Some (Link (w6 i)) else None)))
    ∙ told.body) in
    (λ i. if is_short (w2 i) then option_map (λ b. record { level = w2 i; low = w3 i; high = w4 i; body = b }) (body i) else None)
    ∙ (ap (λ b. if b then Some record { level = value; low = node_word words 3; high = node_word words 4; body = s.body } else None) (lt-ltb value 4294967296 few)
    ∙ (λ i. Some record { level = value; low = sym told.low i; high = sym told.high i; body = s.body }))
