-- Items read one after another from the words of a node.
use Rattle.std.proofs.Common.{◌≡◌, ℕ, suc, ◌+◌, ◌-◌, ◌*◌, ◌<◌, Bool, true, false, List, [], ◌∷◌, ◌++◌, length, take, set, Option, Some, None, option_map, if◌then◌else◌, refl, ap, sym, ◌∙◌, subst, append_assoc, arith}
use Rattle.std.proofs.lemmas.List.{take_more_set}
use Rattle.std.proofs.lemmas.Option.{none-some, cond_some}
use Rattle.reg_model.specs.declared.span.Member.{Member}
use Rattle.tree_shape.specs.declared.pair.Pair.{Pair}
use Rattle.word_rule.specs.Spelling.{node_word, is_short, pair_at, pairs_at, is_entry_at, entry_at, entries_at}

-- one item more is read, before the rest
one_read : {A : Type 0} (may : Bool) (x y : A) (before : List A) (rest : Option (List A)) → (if may then Some x else None) ≡ Some y → option_map (λ more. before ++ more) (if may then option_map (λ more. x ∷ more) rest else None) ≡ option_map (λ more. (before ++ y ∷ []) ++ more) rest
one_read true x y before None is = refl
one_read true x y before (Some rest) is =
    subst (λ z. Some (before ++ x ∷ rest) ≡ Some ((before ++ z ∷ []) ++ rest)) (cond_some true x y is).1 (ap Some (sym (append_assoc before (x ∷ []) rest)))
one_read false x y before rest is = absurd (none-some y is)

pub pairs_more : (words : List ℕ) (row : List Pair) (count slot : ℕ) (p : Pair) → slot < count → slot < length row
    → (if is_short (node_word words (6 + 2 * slot)) then Some (pair_at words (6 + 2 * slot)) else None) ≡ Some p
    → pairs_at words 6 count ≡ option_map (λ more. take slot row ++ more) (pairs_at words (6 + 2 * slot) (count - slot))
    → pairs_at words 6 count ≡ option_map (λ more. take (slot + 1) (set row slot p) ++ more) (pairs_at words (6 + 2 * (slot + 1)) (count - (slot + 1)))
pairs_more words row count slot p less inside is so_far =
    let left : count - slot ≡ suc (count - (slot + 1)) = omega (arith, less) in
    let next : 6 + 2 * slot + 2 ≡ 6 + 2 * (slot + 1) = omega arith in
    let here = so_far ∙ ap (λ n. option_map (λ more. take slot row ++ more) (pairs_at words (6 + 2 * slot) n)) left in
    let one = here ∙ one_read (is_short (node_word words (6 + 2 * slot))) (pair_at words (6 + 2 * slot)) p (take slot row) (pairs_at words (6 + 2 * slot + 2) (count - (slot + 1))) is in
    let placed = subst (λ at. pairs_at words 6 count ≡ option_map (λ more. (take slot row ++ p ∷ []) ++ more) (pairs_at words at (count - (slot + 1)))) next one in
    subst (λ before. pairs_at words 6 count ≡ option_map (λ more. before ++ more) (pairs_at words (6 + 2 * (slot + 1)) (count - (slot + 1)))) (sym (take_more_set row slot p inside)) placed

pub entries_more : (words : List ℕ) (row : List Member) (count slot : ℕ) (m : Member) → slot < count → slot < length row
    → (if is_entry_at words (6 + 3 * slot) then Some (entry_at words (6 + 3 * slot)) else None) ≡ Some m
    → entries_at words 6 count ≡ option_map (λ more. take slot row ++ more) (entries_at words (6 + 3 * slot) (count - slot))
    → entries_at words 6 count ≡ option_map (λ more. take (slot + 1) (set row slot m) ++ more) (entries_at words (6 + 3 * (slot + 1)) (count - (slot + 1)))
entries_more words row count slot m less inside is so_far =
    let left : count - slot ≡ suc (count - (slot + 1)) = omega (arith, less) in
    let next : 6 + 3 * slot + 3 ≡ 6 + 3 * (slot + 1) = omega arith in
    let here = so_far ∙ ap (λ n. option_map (λ more. take slot row ++ more) (entries_at words (6 + 3 * slot) n)) left in
    let one = here ∙ one_read (is_entry_at words (6 + 3 * slot)) (entry_at words (6 + 3 * slot)) m (take slot row) (entries_at words (6 + 3 * slot + 3) (count - (slot + 1))) is in
    let placed = subst (λ at. entries_at words 6 count ≡ option_map (λ more. (take slot row ++ m ∷ []) ++ more) (entries_at words at (count - (slot + 1)))) next one in
    subst (λ before. entries_at words 6 count ≡ option_map (λ more. before ++ more) (entries_at words (6 + 3 * (slot + 1)) (count - (slot + 1)))) (sym (take_more_set row slot m inside)) placed
