-- Two neighbouring children and their parent are written, whichever of the two was locked first.
use Rattle.std.proofs.Common.{◌≡◌, ◌≢◌, ℕ, List, [], ◌∷◌, Bool, true, false, length, sym, ap, ◌∙◌, arith, Some, None, if◌then◌else◌, set, option_map, get_or-set_same, get_or-set_other, length-set}
use Rattle.std.specs.List.{AllByRecursion}
use Rattle.tree_shape.specs.NodeData.{NodeData, Link}
use Rattle.word_rule.specs.CallerData.{CallerData}
use Rattle.word_rule.specs.declared.log.Holding.{Holding}
use Rattle.word_rule.specs.Held.{edited}
use Rattle.word_rule.proofs.Spells.{reads}
use Rattle.word_rule.specs.Spelling.{body_of_kind, is_short, node_word, SpellsNode}
use Rattle.node_store.specs.Holding.{SpellsHeld, StoresHeld}
use Rattle.node_store.specs.Writing.{kind_of_body}
use Rattle.node_store.proofs.LeafWords.{short_level}
use Rattle.tree_descent.proofs.Storing.{IsWrittenAs, rewritten_so, edited_at}
use Rattle.node_mend.specs.Siblings.{both_of}

pub write_low : (o : Bool) (s : NodeData) (n : ℕ) (low high : Holding) (more : List Holding) (k k' : CallerData) → kind_of_body s.body ≢ 2 → low.node ≡ n → high.node ≢ n → AllByRecursion (λ a. a.node ≢ n) more → k.log.holdings.held ≡ both_of o low high more → StoresHeld n s k k' → SpellsHeld n s k'.log → IsWrittenAs s low (λ z. both_of o z high more) k k'
write_low true s n low high more k k' kind is far rest held writes spells = rewritten_so s n low [] (high ∷ more) k k' kind is tt (far, rest) held writes spells
write_low false s n low high more k k' kind is far rest held writes spells = rewritten_so s n low (high ∷ []) more k k' kind is (far, tt) rest held writes spells

pub write_high : (o : Bool) (s : NodeData) (n : ℕ) (low high : Holding) (more : List Holding) (k k' : CallerData) → kind_of_body s.body ≢ 2 → high.node ≡ n → low.node ≢ n → AllByRecursion (λ a. a.node ≢ n) more → k.log.holdings.held ≡ both_of o low high more → StoresHeld n s k k' → SpellsHeld n s k'.log → IsWrittenAs s high (λ z. both_of o low z more) k k'
write_high true s n low high more k k' kind is far rest held writes spells = rewritten_so s n high (low ∷ []) more k k' kind is (far, tt) rest held writes spells
write_high false s n low high more k k' kind is far rest held writes spells = rewritten_so s n high [] (low ∷ more) k k' kind is tt (far, rest) held writes spells

pub write_upper : (o : Bool) (s : NodeData) (n : ℕ) (low high upper : Holding) (k k' : CallerData) → kind_of_body s.body ≢ 2 → upper.node ≡ n → low.node ≢ n → high.node ≢ n → k.log.holdings.held ≡ both_of o low high (upper ∷ []) → StoresHeld n s k k' → SpellsHeld n s k'.log → IsWrittenAs s upper (λ z. both_of o low high (z ∷ [])) k k'
write_upper true s n low high upper k k' kind is a b held writes spells = rewritten_so s n upper (low ∷ high ∷ []) [] k k' kind is (a, (b, tt)) tt held writes spells
write_upper false s n low high upper k k' kind is a b held writes spells = rewritten_so s n upper (high ∷ low ∷ []) [] k k' kind is (b, (a, tt)) tt held writes spells

pub edit_high : (o : Bool) (n : ℕ) (f : Holding → Holding) (low high : Holding) (more : List Holding) → high.node ≡ n → low.node ≢ n → AllByRecursion (λ a. a.node ≢ n) more → edited n f (both_of o low high more) ≡ both_of o low (f high) more
edit_high true n f low high more is far rest = edited_at n f (low ∷ []) high more is (far, tt) rest
edit_high false n f low high more is far rest = edited_at n f [] high (low ∷ more) is tt (far, rest)

pub edit_low : (o : Bool) (n : ℕ) (f : Holding → Holding) (low high : Holding) (more : List Holding) → low.node ≡ n → high.node ≢ n → AllByRecursion (λ a. a.node ≢ n) more → edited n f (both_of o low high more) ≡ both_of o (f low) high more
edit_low true n f low high more is far rest = edited_at n f [] low (high ∷ more) is tt (far, rest)
edit_low false n f low high more is far rest = edited_at n f (high ∷ []) low more is (far, tt) rest

-- words of a node spell a free one once the link and the kind were stored
pub spells_freed : (words : List ℕ) (s : NodeData) → length words ≡ 35 → SpellsNode words s → SpellsNode (set (set words 5 0) 0 2) (record s { body = Link 0 })
spells_freed words s wide e =
    let one = set words 5 0 in
    let all = set one 0 2 in
    let w1 : node_word all 1 ≡ 2 = get_or-set_same one 0 2 0 (let l = length-set words 5 0 in omega (arith, l, wide)) in
    let w6 : node_word all 6 ≡ 0 = get_or-set_other one 0 5 2 0 (λ z. omega (arith, z)) ∙ get_or-set_same words 5 0 0 (omega (arith, wide)) in
    let w2 : node_word all 2 ≡ node_word words 2 = get_or-set_other one 0 1 2 0 (λ z. omega (arith, z)) ∙ get_or-set_other words 5 1 0 0 (λ z. omega (arith, z)) in
    let w3 : node_word all 3 ≡ node_word words 3 = get_or-set_other one 0 2 2 0 (λ z. omega (arith, z)) ∙ get_or-set_other words 5 2 0 0 (λ z. omega (arith, z)) in
    let w4 : node_word all 4 ≡ node_word words 4 = get_or-set_other one 0 3 2 0 (λ z. omega (arith, z)) ∙ get_or-set_other words 5 3 0 0 (λ z. omega (arith, z)) in
    let told = reads words s e in
    let body : body_of_kind all (node_word all 1) (node_word all 5) ≡ Some (Link 0) = ap (λ k. body_of_kind all k (node_word all 5)) w1 ∙ ap (λ z. if is_short z then Some (Link z) else None) w6 in
    (λ i. if is_short (w2 i) then option_map (λ body. record { level = w2 i; low = w3 i; high = w4 i; body = body }) (body i) else None)
    ∙ (ap (λ b. if b then Some record { level = node_word words 2; low = node_word words 3; high = node_word words 4; body = Link 0 } else None) (short_level words s e)
    ∙ (λ i. Some record { level = sym told.level i; low = sym told.low i; high = sym told.high i; body = Link 0 }))
